-- `coefficient_message` meets its contract. The loop's invariant: the words of the first i members stand behind the head and the byte 0.
use mathlib.Core.Path.{◌≡◌}
use mathlib.Core.List.{List, [], ◌∷◌}
use Prim.Native.Nat.{ℕ}
use Rattle.words.specs.Lists.{entry}
use Rattle.words.specs.Bytes.{put_at}
use Rattle.sharing.specs.Setting.{members}
use Rattle.challenge.specs.Message.{bytes_over}
use Rattle.challenge.proofs.message.coefficient_message.Given as goal

-- the words of member j
abbrev pub words : List ℕ → List ℕ → ℕ → List ℕ
words vs encrypted j = entry vs j ∷ entry encrypted j ∷ []

abbrev pub invariant-loop-i : goal.invariant-loop-i
invariant-loop-i l = l.m ≡ put_at l.from (bytes_over (words l.vs l.encrypted) (members l.i)) l.initial.m
