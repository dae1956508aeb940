-- `dealing_challenge` meets its contract. The loop's invariant: the words of the first i members stand behind the head.
use mathlib.Core.Path.{◌≡◌}
use mathlib.Core.List.{List, [], ◌∷◌}
use Prim.Native.Nat.{ℕ}
use Rattle.words.specs.Lists.{entry}
use Rattle.words.specs.Bytes.{put_at}
use Rattle.sharing.specs.Setting.{members}
use Rattle.challenge.specs.Message.{bytes_over}
use Rattle.challenge.proofs.message.dealing_challenge.Given as goal

-- the words of member j
abbrev pub words : List ℕ → List ℕ → List ℕ → List ℕ → ℕ → List ℕ
words vs encrypted a1s a2s j = entry vs j ∷ entry encrypted j ∷ entry a1s j ∷ entry a2s j ∷ []

abbrev pub invariant-loop-i : goal.invariant-loop-i
invariant-loop-i l = l.m ≡ put_at l.at (bytes_over (words l.vs l.encrypted l.a1s l.a2s) (members l.i)) l.initial.m
