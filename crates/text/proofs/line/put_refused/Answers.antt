-- `put_refused` meets its contract: the line of the refusal's number.
use mathlib.Core.Path.{sym, ap}
use mathlib.Core.List.{◌++◌}
use Prim.Native.Nat.{ℕ}
use Rattle.text.specs.Text.{figure, new_line, refused_word, refused_line}
use Rattle.text.proofs.Writing.{room_as, written_as}
use Rattle.text.proofs.line.put_refused.Goals as goal

pub put_line-requires : goal.put_line-requires
unfolding refused_line
put_line-requires c = room_as (ap (λ (v : ℕ). refused_word ++ (figure v ++ new_line)) (sym c.from.ensures)) c.requires

pub returns : goal.returns
unfolding refused_line
returns c = written_as (ap (λ (v : ℕ). refused_word ++ (figure v ++ new_line)) (sym c.from.ensures)) c.put_line.ensures
