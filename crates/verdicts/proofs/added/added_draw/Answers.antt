-- `added_draw` meets its contract: the first n places of the array are what added shares are judged with.
use mathlib.Core.Path.{◌≡◌, sym, ◌∙◌, subst}
use lib.ListN.{length, take}
use Rattle.share.specs.declared.ShareForm.{ShareForm}
use Rattle.verdicts.specs.Shares.{judges, shares_in, from_lowest}
use Rattle.verdicts.specs.Posted.{SharesOn}
use Rattle.verdicts.specs.Added.{multiplied}
use Rattle.verdicts.proofs.Products.{products-front, added-shares}
use Rattle.lines.specs.Lines.{Y_in}
use Rattle.verdicts.proofs.added.added_draw.Goals as goal

pub slice_bounds-from_lowest-end : goal.slice_bounds-from_lowest-end
slice_bounds-from_lowest-end c =
    let front : let a = c.args in take a.s.n c.multiplied_shares-products.result ≡ multiplied judges a.s a.b.now Y_in =
    products-front c.args.s c.args.b.now c.requires.0 c.requires.1 c.multiplied_shares-products.ensures in
    let front-size : let a = c.args in length (take a.s.n c.multiplied_shares-products.result) ≡ a.s.n =
    (added-shares c.args.s c.args.b.now c.requires.0 c.requires.1 front).size in
    sym front-size

pub from_lowest-requires : goal.from_lowest-requires
from_lowest-requires c =
    let front : let a = c.args in take a.s.n c.multiplied_shares-products.result ≡ multiplied judges a.s a.b.now Y_in =
    products-front c.args.s c.args.b.now c.requires.0 c.requires.1 c.multiplied_shares-products.ensures in
    let a = c.args in
    subst (λ (F : ShareForm). SharesOn a.s a.b.now F (take a.s.n c.multiplied_shares-products.result)) (sym c.added_form.ensures)
    (added-shares a.s a.b.now c.requires.0 c.requires.1 front)

pub returns : goal.returns
returns c =
    let front : let a = c.args in take a.s.n c.multiplied_shares-products.result ≡ multiplied judges a.s a.b.now Y_in =
    products-front c.args.s c.args.b.now c.requires.0 c.requires.1 c.multiplied_shares-products.ensures in
    let a = c.args in
    c.from_lowest.ensures ∙ (λ j. from_lowest a.s a.b.now (shares_in judges a.s a.b.now (c.added_form.ensures j) (front j)))
