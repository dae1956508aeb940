-- `check_polynomial` meets its contract. The loop's invariant: the array holds the first k coefficients, and 0 behind; and the buffer
-- holds the message of the last of them, at the start that of the coefficient 0.
use mathlib.Core.Path.{◌≡◌}
use Prim.Native.Nat.{ℕ, ◌-◌}
use lib.ListN.{take}
use Rattle.words.specs.Lists.{map, up_from, filled, entry}
use Rattle.sharing.specs.declared.Setting.{Setting}
use Rattle.challenge.specs.Message.{challenge_of, coefficient_message}
use Rattle.challenge.proofs.message.check_polynomial.Given as goal

abbrev pub coefficient_of : Setting → ℕ → (ℕ → ℕ) → (ℕ → ℕ) → ℕ → ℕ
coefficient_of S d v Y k = challenge_of S (coefficient_message S d v Y k)

abbrev pub invariant-loop-k : goal.invariant-loop-k
invariant-loop-k l =
    (take l.end l.m ≡ coefficient_message l.s l.d (entry l.vs) (entry l.encrypted) (l.k - 1))
    × (l.ds ≡ filled 31 (map (coefficient_of l.s l.d (entry l.vs) (entry l.encrypted)) (up_from 0 l.k)))
