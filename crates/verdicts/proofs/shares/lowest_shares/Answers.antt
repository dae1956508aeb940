-- `lowest_shares` meets its contract: each record of the run gives one more or none, until t are found.
use mathlib.Core.Path.{◌≡◌, ap, ◌∙◌}
use Prim.Native.Nat.{ℕ, ◌+◌, ◌-◌}
use native.Mathlib.Omega.{arith}
use Rattle.board.proofs.Places.{run-rises}
use Rattle.verdicts.specs.Shares.{judges}
use Rattle.verdicts.specs.Gathered.{with_share}
use Rattle.verdicts.proofs.Gathering.{held_at, held_none, held-most, held_next, held-full, held_all}
use Rattle.verdicts.proofs.ShareAnswers.{shares_sorted, run-share, run-shares}
use Rattle.verdicts.proofs.shares.lowest_shares.Goals as goal

pub place_of-end-requires : goal.place_of-end-requires
place_of-end-requires c = shares_sorted c.requires

pub place_of-start-requires : goal.place_of-start-requires
place_of-start-requires c = shares_sorted c.requires

pub loop-i-init : goal.loop-i-init
loop-i-init c =
    let a = c.args in
    let s = c.place_of-start.result in
    let z : 0 ≡ s - s = omega arith in
    held_none judges a.s a.b.now a.form a.encrypted.now s ∙ ap (held_at judges a.s a.b.now a.form a.encrypted.now s) z

pub with_share-requires : goal.with_share-requires
with_share-requires c =
    let a = c.args in
    let l = c.loop-i in
    let s = c.place_of-start.result in
    let most = held-most judges a.s a.b.now a.form a.encrypted.now s (l.i - s) l.invariant in (
      run-share c.requires l.i (omega (arith, c.place_of-start.ensures)) (omega (arith, c.place_of-end.ensures)),
      c.requires,
      omega (arith, most, c.requires.proper.t-most, c.requires.proper.n-most),
    )

pub loop-i-preserved : goal.loop-i-preserved
loop-i-preserved c =
    let a = c.args in
    let b = a.b.now in
    let Ys = a.encrypted.now in
    let l = c.loop-i in
    let i = l.i in
    let s = c.place_of-start.result in
    let most = held-most judges a.s b a.form Ys s (i - s) l.invariant in
    let here : i ≡ s + (i - s) = omega arith in
    let next : i - s + 1 ≡ i + 1 - s = omega arith in
    c.with_share.ensures
    ∙ ap (λ (x : ℕ). with_share judges a.s b a.form Ys x l.found) here
    ∙ held_next judges a.s b a.form Ys s (i - s) l.invariant (omega (arith, c.requires.proper.t-most, c.requires.proper.n-most)) (omega (arith, most))
    ∙ ap (held_at judges a.s b a.form Ys s) next

pub returns-then-found-s : goal.returns-then-found-s
returns-then-found-s c =
    let a = c.args in
    let i = c.loop-i.i in
    let s = c.place_of-start.result in
    let e = c.place_of-end.result in
    held-full judges a.s a.b.now a.form a.encrypted.now s (i - s) c.loop-i.invariant (e - s)
    (run-shares c.requires judges c.place_of-start.ensures c.place_of-end.ensures) (e - i) (omega arith) (omega arith)

pub returns-after-loop-i : goal.returns-after-loop-i
returns-after-loop-i c =
    let a = c.args in
    let i = c.loop-i.i in
    let s = c.place_of-start.result in
    let e = c.place_of-end.result in
    let end : i ≡ e =
    omega (arith, run-rises (shares_sorted c.requires) a.form.kind a.form.dealer, c.place_of-start.ensures, c.place_of-end.ensures) in
    held_all judges a.s a.b.now a.form a.encrypted.now s (i - s) c.loop-i.invariant (e - s)
    (run-shares c.requires judges c.place_of-start.ensures c.place_of-end.ensures) (ap (λ (x : ℕ). x - s) end)
