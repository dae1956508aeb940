-- `multiplied_shares` meets its contract: the place of the dealer d holds his verdict, by which the products go on.
use mathlib.Core.Path.{◌≡◌, ap, ◌∙◌}
use mathlib.Core.List.{List}
use Prim.Native.Nat.{ℕ, ◌-◌}
use native.Mathlib.Omega.{arith}
use borrow.Author.Rules.{rules}
use lib.ListN.{get_or, replicate}
use Rattle.verdicts.specs.Shares.{judges}
use Rattle.verdicts.specs.Verdict.{verdict_on}
use Rattle.verdicts.specs.declared.Verdict.{Verdict}
use Rattle.verdicts.specs.declared.Verdict.TheVariants.{None}
use Rattle.verdicts.proofs.Turns.{place-of}
use Rattle.verdicts.proofs.Products.{products-start, front-size, products-next, products-all}
use Rattle.verdicts.proofs.added.multiplied_shares.Goals as goal

pub loop-d-init : goal.loop-d-init
loop-d-init c =
    let ones : c.fill.new.self ≡ replicate {A = ℕ} c.args.s.n 1 = search rules in
    products-start judges c.args.s c.args.b.now ones

pub times_dealing-requires : goal.times_dealing-requires
times_dealing-requires c =
    let a = c.args in
    let d = c.loop-d.d in
    let place = ap (λ (vs : List Verdict). get_or vs (d - 1) None) c.requires.2
    ∙ place-of (verdict_on judges a.s a.b.now) a.s.n d (omega arith) (omega arith) c.requires.0.n-most in
    (c.requires.0, c.requires.1, place, front-size judges a.s a.b.now d c.loop-d.products c.loop-d.invariant)

pub loop-d-preserved : goal.loop-d-preserved
loop-d-preserved c =
    let l = c.loop-d in
    products-next judges c.args.s c.args.b.now l.d l.products l.invariant (omega arith) c.times_dealing.ensures

pub returns : goal.returns
returns c =
    let l = c.loop-d in
    products-all judges c.args.s c.args.b.now l.d l.products l.invariant (omega arith)
