-- `times_dealing` meets its contract: the verdict says whether the dealing is accepted, and then the dealer has n lines.
use mathlib.Core.Path.{sym, ap, ◌∙◌}
use Prim.Native.Nat.{ℕ, ◌*◌}
use native.Mathlib.Omega.{arith}
use lib.ListN.{length}
use Rattle.words.specs.Lists.{map, entry}
use Rattle.field.specs.Residue.{mul}
use Rattle.sharing.specs.Setting.{members}
use Rattle.lines.specs.Lines.{Y_in}
use Rattle.board.proofs.Order.{reached, sorted}
use Rattle.verdicts.proofs.Products.{accepts, not-accepted, part-told, part_none, part-size}
use Rattle.verdicts.proofs.added.times_dealing.Goals as goal

pub lines_of-requires : goal.lines_of-requires
lines_of-requires c = sorted c.args.s c.args.b.now (reached c.args.s c.args.b.now c.requires.1).form

pub times_lines-requires : goal.times_lines-requires
times_lines-requires c =
    let a = c.args in (
      omega (arith, c.requires.0.proper.prime-p.above-one),
      ap length c.lines_of.ensures.result_value ∙ part-size a.s c.requires.0 a.b.now a.d c.requires.2 c.requires.1 (ap accepts c.in-Accepted.is)
          ∙ ap (λ (n : ℕ). 32 * n) (sym c.requires.3),
    )

pub returns-in_default : goal.returns-in_default
returns-in_default c =
    let a = c.args in
    part_none a.s c.requires.0 a.b.now a.d c.requires.2 (not-accepted a.v c.in_default.not-Accepted) a.products.now c.requires.3

pub returns-in-Accepted : goal.returns-in-Accepted
returns-in-Accepted c =
    let a = c.args in
    c.times_lines.ensures
    ∙ (λ j. map (λ i. mul a.s.group.p (Y_in (c.lines_of.ensures.result_value j) i) (entry a.products.now i)) (members (c.requires.3 j)))
    ∙ part-told a.s c.requires.0 a.b.now a.d c.requires.2 (ap accepts c.in-Accepted.is) a.products.now
