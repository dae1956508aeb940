-- `all_lines` meets its contract: the part that is handed on for each place is the record of the member of that place.
use mathlib.Core.Path.{◌∙◌, refl}
use Prim.Native.Nat.{◌+◌}
use native.Mathlib.Omega.{arith}
use borrow.Author.Rules.{rules}
use Rattle.std.proofs.lemmas.Iterator.{YieldsList-from_range}
use Rattle.words.proofs.Chains.{all-from_chain}
use Rattle.lines.specs.Lines.{is_line_of}
use Rattle.lines.proofs.Parts.{line-part, by-place}
use Rattle.lines.proofs.form.all_lines.Goals as goal

pub returns : goal.returns
returns c =
    let a = c.args in
    all-from_chain (λ i. is_line_of a.d a.lines.now (i + 1)) _ _ c.all.result c.all.ensures.ran
    (YieldsList-from_range 0 a.n a.n refl (omega arith)) (λ i t f k. search (rules, line-part))
    ∙ by-place (is_line_of a.d a.lines.now) a.n
