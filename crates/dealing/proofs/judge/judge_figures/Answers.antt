-- `judge_figures` meets its contract: where the ranges and the check polynomial pass, the challenges decide.
use mathlib.Core.Path.{sym, ap, ◌∙◌}
use mathlib.Core.Bool.{Bool}
use Prim.Native.Nat.{ℕ}
use lib.Dec.{eqb}
use Rattle.std.specs.Prelude.{Ok, Err}
use Rattle.words.specs.Choice.{pick}
use Rattle.words.specs.Lists.{all, entry}
use Rattle.words.specs.Checks.{Outcome}
use Rattle.words.specs.declared.refusal.Refusal.TheVariants.{ProofFails}
use Rattle.words.proofs.Tests.{pick_true}
use Rattle.words.proofs.Stages.{stage-met, rest-outcome}
use Rattle.sharing.specs.Setting.{members}
use Rattle.dealing.specs.Dealing.{range_checks, equation_checks}
use Rattle.dealing.proofs.judge.judge_figures.Goals as goal

pub returns : goal.returns
unfolding equation_checks
returns c =
    let a = c.args in
    let v = entry a.figures.vs in
    let Y = entry a.figures.encrypted in
    let r = entry a.figures.rs in
    let h = entry a.figures.cs in
    let ranges = range_checks a.s v Y r h in
    let equal = c.all_equal.ensures ∙ ap (λ (x : ℕ). all (λ i. eqb (h i) x) (members a.s.n)) c.recomputed-c.ensures in
    c.passed_if.ensures
    ∙ ap (λ (b : Bool). pick {A = Outcome (Unit {0})} b (Ok tt) (Err ProofFails)) equal
    ∙ sym (pick_true _ _ _ (sym c.if-not-own_check_passes.ensures))
    ∙ rest-outcome ranges (equation_checks a.s a.d a.ys.now v Y r h) (stage-met ranges c.in_ok-check_ranges.ensures) tt
