-- `draw_text` meets its contract: the refusal's line where there is no ruling, and else the report on its judgement.
use native.Mathlib.Omega.{arith}
use Rattle.verdicts.specs.Shares.{judges}
use Rattle.rulings.proofs.Theorems.{ruling-settled}
use Rattle.text.proofs.Writing.{room_as, written_as, at-start}
use Rattle.text.proofs.Lengths.{text-room}
use Rattle.text.proofs.Reports.{refused-text, reported-text}
use Rattle.text.proofs.draw_text.Goals as goal

pub put_refused-requires : goal.put_refused-requires
put_refused-requires c =
    let a = c.args in
    room_as (refused-text judges _ _ _ c.judge_files.result c.judge_files.ensures _ c.in-Err.is)
    (text-room a.out.now (omega arith) judges a.table.now a.set.now a.board.now)

pub put_report-requires : goal.put_report-requires
put_report-requires c =
    let a = c.args in
    let I = c.judge_files.ensures in (
      (ruling-settled judges _ _ _ c.judge_files.result I _ c.in-Ok.is).proper.n-most,
      room_as (reported-text judges _ _ _ c.judge_files.result I _ c.in-Ok.is)
          (text-room a.out.now (omega arith) judges a.table.now a.set.now a.board.now),
    )

pub returns-in-Err : goal.returns-in-Err
returns-in-Err c =
    let a = c.args in
    at-start _ a.out.now _ _
    (written_as (refused-text judges _ _ _ c.judge_files.result c.judge_files.ensures _ c.in-Err.is) c.put_refused.ensures)

pub returns-in-Ok : goal.returns-in-Ok
returns-in-Ok c =
    let a = c.args in
    at-start _ a.out.now _ _
    (written_as (reported-text judges _ _ _ c.judge_files.result c.judge_files.ensures _ c.in-Ok.is) c.put_report.ensures)
