-- `verdicts_of` meets its contract: the loop fills the array from the front.
use mathlib.Core.Path.{◌≡◌, refl, sym, ◌∙◌}
use native.Mathlib.Omega.{arith}
use lib.ListN.{length-set}
use Rattle.verdicts.specs.declared.Verdict.TheVariants.{None}
use Rattle.tadlovimpe.specs.Figures.{verdict_of}
use Rattle.tadlovimpe.proofs.Mapped.{mapped_next, mapped-all}
use Rattle.tadlovimpe.proofs.answers.verdicts_of.Goals as goal

pub loop-i-init : goal.loop-i-init
loop-i-init c = (refl, refl)

pub loop-i-preserved : goal.loop-i-preserved
loop-i-preserved c =
    let l = c.loop-i in
    let s = c.args.places.now in (
      simp length-set l.invariant.0,
      mapped_next verdict_of s _ l.i l.invariant.1 None (omega (arith, l.invariant.0)) (omega arith) c.from.ensures,
    )

pub returns : goal.returns
returns c =
    let l = c.loop-i in
    let s = c.args.places.now in
    let e : l.i ≡ 31 = omega arith in
    mapped-all verdict_of s _ l.i l.invariant.1 (l.invariant.0 ∙ sym e) (omega arith)
