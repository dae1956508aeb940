-- `recovery_in` meets its contract: each return by the tests that led to it.
use mathlib.Core.Path.{ap, ◌∙◌, sym}
use Prim.Native.Nat.{ℕ}
use borrow.Author.Tests.{eq-eqb, ne_eqb}
use Rattle.sharing.specs.Answer.{recovery_in}
use Rattle.sharing.proofs.Rounds.{tested_low}
use Rattle.sharing.proofs.recovery_in.Goals as goal
use Rattle.std.specs.Prelude.{Ok}

pub returns-then-ms-ss : goal.returns-then-ms-ss
unfolding recovery_in
returns-then-ms-ss c = simp (ne_eqb _ _ c.if-ms-ss.true)

pub returns-then-not-is_quorum : goal.returns-then-not-is_quorum
unfolding recovery_in
returns-then-not-is_quorum c = simp (eq-eqb _ _ c.if-ms-ss.false, sym c.is_quorum.ensures ∙ c.if-not-is_quorum.true)

pub returns-then-not-all_elements : goal.returns-then-not-all_elements
unfolding recovery_in
returns-then-not-all_elements c =
    simp (eq-eqb _ _ c.if-ms-ss.false, sym c.is_quorum.ensures ∙ c.if-not-is_quorum.false, sym c.all_elements.ensures ∙ c.if-not-all_elements.true)

pub recovered_from-requires : goal.recovered_from-requires
recovered_from-requires c =
    let Y = c.requires in
    (Y.proper, tested_low Y _ (sym c.is_quorum.ensures ∙ c.if-not-is_quorum.false), c.if-ms-ss.false)

pub returns : goal.returns
unfolding recovery_in
returns c =
    ap (λ (x : ℕ). Ok (record { 0 = x })) c.recovered_from.ensures
    ∙ simp (eq-eqb _ _ c.if-ms-ss.false, sym c.is_quorum.ensures ∙ c.if-not-is_quorum.false, sym c.all_elements.ensures ∙ c.if-not-all_elements.false)
