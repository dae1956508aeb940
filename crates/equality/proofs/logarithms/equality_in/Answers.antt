-- `equality_in` meets its contract: each return by the tests that led to it.
use mathlib.Core.Path.{◌∙◌}
use Rattle.words.proofs.Tests.{passed, failed}
use Rattle.equality.specs.Equality.{equality_in}
use Rattle.equality.proofs.logarithms.equality_in.Goals as goal

pub returns-then-not-all_elements : goal.returns-then-not-all_elements
unfolding equality_in
returns-then-not-all_elements c = simp (failed c.all_elements.ensures c.if-not-all_elements.true-raw)

pub returns-then-not-all_exponents : goal.returns-then-not-all_exponents
unfolding equality_in
returns-then-not-all_exponents c =
    simp (passed c.all_elements.ensures c.if-not-all_elements.false-raw, failed c.all_exponents.ensures c.if-not-all_exponents.true-raw)

pub returns : goal.returns
unfolding equality_in
returns c =
    c.passed_if.ensures
    ∙ simp
    (passed c.all_elements.ensures c.if-not-all_elements.false-raw, passed c.all_exponents.ensures c.if-not-all_exponents.false-raw, c.equations_hold.ensures)
