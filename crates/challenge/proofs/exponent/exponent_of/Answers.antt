-- `exponent_of` meets its contract: the first two words under the old rule, and all of them under the new one.
use mathlib.Core.Path.{ap, ◌∙◌}
use Prim.Native.Nat.{ℕ}
use borrow.Author.Rules.{rules}
use Rattle.challenge.specs.Exponent.{last_words, remainder_behind}
use Rattle.challenge.proofs.Digests.{old-exponent, new-exponent}
use Rattle.challenge.proofs.exponent.exponent_of.Goals as goal

pub returns-then-s : goal.returns-then-s
returns-then-s c =
    let a = c.args in
    c.with_rest.ensures
    ∙ ap (λ (r : ℕ). remainder_behind a.s.group.q r (last_words a.d)) c.remainder-first.ensures
    ∙ new-exponent a.s a.d (search rules) c.if-s.true

pub returns-else-s : goal.returns-else-s
returns-else-s c =
    let a = c.args in
    c.remainder-first.ensures ∙ old-exponent a.s a.d (search rules) c.if-s.false
