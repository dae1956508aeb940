-- `read_lines` meets its contract. The loop's invariant: the arrays hold the figures of the first i members' lines, and 0 behind.
use mathlib.Core.Path.{◌≡◌, ◌∙◌}
use Prim.Native.Nat.{◌<◌}
use native.Mathlib.Omega.{arith}
use Rattle.words.proofs.Lists.{filled_none}
use Rattle.sharing.proofs.EachMember.{members-next}
use Rattle.records.proofs.Posted.{record_of}
use Rattle.lines.specs.Lines.{v_in, Y_in, r_in, c_in}
use Rattle.lines.specs.Columns.{columns_of}
use Rattle.lines.proofs.figures.read_lines.Goals as goal

pub loop-i-init : goal.loop-i-init
loop-i-init c = (filled_none 31, filled_none 31, filled_none 31, filled_none 31)

pub loop-i-preserved : goal.loop-i-preserved
unfolding v_in Y_in r_in c_in
loop-i-preserved c =
    let l = c.loop-i in
    let h : l.i < 31 = omega arith in
    let line = c.record_at-line.ensures ∙ record_of c.args.lines.now l.i in (
      members-next _ l.i l.invariant.0 h (λ j. (line j).w3),
      members-next _ l.i l.invariant.1 h (λ j. (line j).w4),
      members-next _ l.i l.invariant.2 h (λ j. (line j).w5),
      members-next _ l.i l.invariant.3 h (λ j. (line j).w6),
    )

pub returns : goal.returns
unfolding columns_of
returns c =
    let l = c.loop-i in
    let end : l.i ≡ c.args.n = omega arith in
    λ j. record { vs = (rw end at l.invariant.0) j; encrypted = (rw end at l.invariant.1) j; rs = (rw end at l.invariant.2) j; cs = (rw end at l.invariant.3) j }
