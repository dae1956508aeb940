-- `for_members` meets its contract. The loop's invariant: the same as the contract, of the first i members.
use mathlib.Core.Path.{◌≡◌}
use Prim.Native.Nat.{ℕ, ◌+◌, ◌<◌}
use Rattle.words.specs.Lists.{map, filled}
use Rattle.sharing.specs.Setting.{members}
use Rattle.dealing.proofs.filling.for_members.Given as goal

abbrev pub invariant-loop-i : goal.invariant-loop-i
invariant-loop-i g l =
    (h : ℕ → ℕ) → ((i x : ℕ) → i < l.n → goal.F-post g l.f i x → x ≡ h (i + 1)) → l.xs ≡ filled 31 (map h (members l.i))
