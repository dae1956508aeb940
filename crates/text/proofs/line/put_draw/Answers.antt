-- `put_draw` meets its contract: each case writes its line.
use mathlib.Core.Path.{ap}
use Rattle.text.specs.Text.{draw_line}
use Rattle.text.proofs.Writing.{room_as, written_as}
use Rattle.text.proofs.line.put_draw.Goals as goal

pub put_line-requires : goal.put_line-requires
put_line-requires c = room_as (ap draw_line c.in-Ok.is) c.requires

pub put_refused-requires : goal.put_refused-requires
put_refused-requires c = room_as (ap draw_line c.in-Err.is) c.requires

pub returns-in-Ok : goal.returns-in-Ok
returns-in-Ok c = written_as (ap draw_line c.in-Ok.is) c.put_line.ensures

pub returns-in-Err : goal.returns-in-Err
returns-in-Err c = written_as (ap draw_line c.in-Err.is) c.put_refused.ensures
