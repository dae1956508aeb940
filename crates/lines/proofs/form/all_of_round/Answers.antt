-- `all_of_round` meets its contract: the record of each place is that of the member of that place.
use mathlib.Core.Path.{◌∙◌, refl}
use Prim.Native.Nat.{◌+◌}
use native.Mathlib.Omega.{arith}
use borrow.Author.Rules.{rules}
use Rattle.std.proofs.lemmas.Iterator.{YieldsList-from_range}
use Rattle.words.proofs.Chains.{all-from_chain}
use Rattle.records.proofs.Posted.{record_of}
use Rattle.lines.specs.Lines.{is_line_of_round}
use Rattle.lines.proofs.Parts.{by-place}
use Rattle.lines.proofs.form.all_of_round.Goals as goal

pub returns : goal.returns
returns c =
    let a = c.args in
    all-from_chain (λ i. is_line_of_round a.round a.lines.now (i + 1)) _ _ c.all.result c.all.ensures.ran
    (YieldsList-from_range 0 a.n a.n refl (omega arith)) (λ i t f k. search (rules, record_of))
    ∙ by-place (is_line_of_round a.round a.lines.now) a.n
