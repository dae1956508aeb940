-- `opening_in` meets its contract: each return by the tests that led to it.
use mathlib.Core.Path.{◌∙◌, sym}
use borrow.Author.Tests.{eq-eqb, ne_eqb}
use Rattle.sharing.specs.Answer.{opening_figures, opening_equation, opening_in}
use Rattle.sharing.proofs.opening_in.Goals as goal

pub returns-then-vs-s : goal.returns-then-vs-s
unfolding opening_in opening_figures opening_equation
returns-then-vs-s c = simp (ne_eqb _ _ c.if-vs-s.true)

pub returns-then-not-all_elements : goal.returns-then-not-all_elements
unfolding opening_in opening_figures opening_equation
returns-then-not-all_elements c = simp (eq-eqb _ _ c.if-vs-s.false, sym c.all_elements.ensures ∙ c.if-not-all_elements.true)

pub returns-then-not-is_exponent : goal.returns-then-not-is_exponent
unfolding opening_in opening_figures opening_equation
returns-then-not-is_exponent c =
    simp (eq-eqb _ _ c.if-vs-s.false, sym c.all_elements.ensures ∙ c.if-not-all_elements.false, sym c.is_exponent.ensures ∙ c.if-not-is_exponent.true)

pub returns : goal.returns
unfolding opening_in opening_figures opening_equation
returns c =
    c.passed_if.ensures
    ∙ simp (eq-eqb _ _ c.if-vs-s.false, sym c.all_elements.ensures ∙ c.if-not-all_elements.false, sym c.is_exponent.ensures ∙ c.if-not-is_exponent.false, c.opens.ensures)
