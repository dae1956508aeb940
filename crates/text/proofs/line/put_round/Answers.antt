-- `put_round` meets its contract: the three figures and the line end are written one behind the other.
use mathlib.Core.List.{List, ◌++◌}
use Prim.Native.Nat.{ℕ}
use Rattle.sharing.specs.declared.Setting.{Setting}
use Rattle.text.specs.Text.{figure, new_line, round_word, round_line}
use Rattle.text.proofs.Writing.{first-room, second-room, third-room, fourth-room, all-four}
use Rattle.text.proofs.line.put_round.Goals as goal

abbrev head : Setting → List ℕ
head S = round_word ++ figure S.number

pub put_worded-a-requires : goal.put_worded-a-requires
unfolding round_line
put_worded-a-requires c =
    let S = c.args.s in
    first-room (head S) (figure S.n) (figure S.t) new_line c.requires

pub put_figure-b-requires : goal.put_figure-b-requires
unfolding round_line
put_figure-b-requires c =
    let S = c.args.s in
    second-room (head S) (figure S.n) (figure S.t) new_line c.requires c.put_worded-a.ensures

pub put_figure-c-requires : goal.put_figure-c-requires
unfolding round_line
put_figure-c-requires c =
    let S = c.args.s in
    third-room (head S) (figure S.n) (figure S.t) new_line c.requires c.put_worded-a.ensures c.put_figure-b.ensures

pub put_bytes-requires : goal.put_bytes-requires
unfolding round_line
put_bytes-requires c =
    let S = c.args.s in
    fourth-room (head S) (figure S.n) (figure S.t) new_line c.requires c.put_worded-a.ensures c.put_figure-b.ensures c.put_figure-c.ensures

pub returns : goal.returns
unfolding round_line
returns c =
    let S = c.args.s in
    all-four (head S) (figure S.n) (figure S.t) new_line c.requires c.put_worded-a.ensures c.put_figure-b.ensures c.put_figure-c.ensures
    c.put_bytes.ensures
