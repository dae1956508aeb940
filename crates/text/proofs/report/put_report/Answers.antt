-- `put_report` meets its contract: the four parts are written one behind the other.
use mathlib.Core.List.{List}
use Prim.Native.Nat.{ℕ}
use Rattle.sharing.specs.declared.Setting.{Setting}
use Rattle.verdicts.specs.declared.Judgement.{Judgement}
use Rattle.text.specs.Text.{dealer_lines, draw_line, round_line, accepted_line}
use Rattle.text.specs.Report.{verdicts_at, report_from}
use Rattle.text.proofs.Writing.{first-room, second-room, third-room, fourth-room, all-four}
use Rattle.text.proofs.report.put_report.Goals as goal

-- the lines of the dealers, and the last line
abbrev dealers : Setting → Judgement → List ℕ
dealers S A = dealer_lines 1 (verdicts_at S.n A.verdicts)

abbrev last : Judgement → List ℕ
last A = draw_line (A.draw)

pub put_round-a-requires : goal.put_round-a-requires
unfolding report_from
put_round-a-requires c =
    let S = c.args.s in
    let A = c.args.judgement in
    first-room (round_line S) (dealers S A) (accepted_line A.accepted) (last A) c.requires.1

pub put_dealers-b-requires : goal.put_dealers-b-requires
unfolding report_from
put_dealers-b-requires c =
    let S = c.args.s in
    let A = c.args.judgement in
    (c.requires.0, second-room (round_line S) (dealers S A) (accepted_line A.accepted) (last A) c.requires.1 c.put_round-a.ensures)

pub put_line-c-requires : goal.put_line-c-requires
unfolding report_from accepted_line
put_line-c-requires c =
    let S = c.args.s in
    let A = c.args.judgement in
    third-room (round_line S) (dealers S A) (accepted_line A.accepted) (last A) c.requires.1 c.put_round-a.ensures c.put_dealers-b.ensures

pub put_draw-requires : goal.put_draw-requires
unfolding report_from accepted_line
put_draw-requires c =
    let S = c.args.s in
    let A = c.args.judgement in
    fourth-room (round_line S) (dealers S A) (accepted_line A.accepted) (last A) c.requires.1 c.put_round-a.ensures c.put_dealers-b.ensures
    c.put_line-c.ensures

pub returns : goal.returns
unfolding report_from accepted_line
returns c =
    let S = c.args.s in
    let A = c.args.judgement in
    all-four (round_line S) (dealers S A) (accepted_line A.accepted) (last A) c.requires.1 c.put_round-a.ensures c.put_dealers-b.ensures
    c.put_line-c.ensures
    c.put_draw.ensures
