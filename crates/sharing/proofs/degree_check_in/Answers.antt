-- `degree_check_in` meets its contract: each return by the tests that led to it.
use mathlib.Core.Path.{◌∙◌, sym}
use Prim.Native.Nat.{◌-◌}
use borrow.Author.Rules.{rules}
use lib.ListN.{length}
use Rattle.words.proofs.Tests.{equal-true}
use Rattle.sharing.specs.Answer.{degree_figures, degree_equation, degree_in}
use Rattle.sharing.proofs.degree_check_in.Goals as goal

pub returns-then-not-sizes_fit : goal.returns-then-not-sizes_fit
unfolding degree_in degree_figures degree_equation
returns-then-not-sizes_fit c = simp (sym c.sizes_fit.ensures ∙ c.if-not-sizes_fit.true)

pub returns-then-not-all_elements : goal.returns-then-not-all_elements
unfolding degree_in degree_figures degree_equation
returns-then-not-all_elements c =
    simp (sym c.sizes_fit.ensures ∙ c.if-not-sizes_fit.false, sym c.all_elements.ensures ∙ c.if-not-all_elements.true)

pub returns-then-not-all_exponents : goal.returns-then-not-all_exponents
unfolding degree_in degree_figures degree_equation
returns-then-not-all_exponents c =
    simp
    (sym c.sizes_fit.ensures ∙ c.if-not-sizes_fit.false, sym c.all_elements.ensures ∙ c.if-not-all_elements.false, sym c.all_exponents.ensures ∙ c.if-not-all_exponents.true)

pub degree_passes-requires : goal.degree_passes-requires
degree_passes-requires c =
    let a = c.args in
    (search rules, (equal-true _ _ (length a.ds.now) (a.s.n - a.s.t) (sym c.sizes_fit.ensures ∙ c.if-not-sizes_fit.false)).0)

pub returns : goal.returns
unfolding degree_in degree_figures degree_equation
returns c =
    c.passed_if.ensures
    ∙ simp
    (sym c.sizes_fit.ensures ∙ c.if-not-sizes_fit.false, sym c.all_elements.ensures ∙ c.if-not-all_elements.false, sym c.all_exponents.ensures ∙ c.if-not-all_exponents.false, c.degree_passes.ensures)
