-- `put_line` meets its contract: the line end is written behind the word and the figure.
use mathlib.Core.Path.{◌≡◌, sym}
use mathlib.Core.List.{List, ◌++◌, append_assoc}
use Prim.Native.Nat.{ℕ}
use Rattle.text.specs.Text.{figure, new_line}
use Rattle.text.proofs.Writing.{room_as, written_as, room-first, room-rest, both}
use Rattle.text.proofs.line.put_line.Goals as goal

-- the line as two pieces
two : (word : List ℕ) (v : ℕ) → word ++ (figure v ++ new_line) ≡ (word ++ figure v) ++ new_line
two word v = sym (append_assoc word (figure v) new_line)

pub put_worded-next-requires : goal.put_worded-next-requires
put_worded-next-requires c = room-first (c.args.word.now ++ figure c.args.v) new_line (room_as (two c.args.word.now c.args.v) c.requires)

pub put_bytes-requires : goal.put_bytes-requires
put_bytes-requires c =
    room-rest (c.args.word.now ++ figure c.args.v) new_line (room_as (two c.args.word.now c.args.v) c.requires) c.put_worded-next.ensures

pub returns : goal.returns
returns c =
    let e = two c.args.word.now c.args.v in
    written_as e (both (c.args.word.now ++ figure c.args.v) new_line (room_as e c.requires) c.put_worded-next.ensures c.put_bytes.ensures)
