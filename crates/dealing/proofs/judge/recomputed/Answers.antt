-- `recomputed` meets its contract. The loop's invariant: two arrays hold the announcements of the first i members, and 0 behind.
use mathlib.Core.List.{List}
use mathlib.Core.Path.{◌≡◌, refl, ◌∙◌}
use Prim.Native.Nat.{ℕ, ◌<◌}
use native.Mathlib.Omega.{arith}
use Rattle.words.proofs.Lists.{filled_none, entry_at}
use Rattle.sharing.proofs.EachMember.{members-next, filled-agree}
use Rattle.equality.specs.Equality.{announced}
use Rattle.dealing.specs.Dealing.{recomputed}
use Rattle.dealing.proofs.Entries.{challenge-same}
use Rattle.dealing.proofs.judge.recomputed.Invariants.{first_of, second_of}
use Rattle.dealing.proofs.judge.recomputed.Goals as goal

pub loop-i-init : goal.loop-i-init
loop-i-init c = (filled_none 31, filled_none 31)

pub loop-i-preserved : goal.loop-i-preserved
loop-i-preserved c =
    let a = c.args in
    let l = c.loop-i in
    let G = a.s.group in
    let at : (xs : List ℕ) → _ = λ xs. entry_at xs l.i in
    let h : l.i < 31 = omega arith in (
      members-next _ l.i l.invariant.0 h (c.announced.ensures ∙ (λ j. announced G G.g.0 (at a.figures.vs j) (at a.figures.cs j) (at a.figures.rs j))),
      members-next _ l.i l.invariant.1 h
          (c.announced-in-loop-i.ensures ∙ (λ j. announced G (at a.ys.now j) (at a.figures.encrypted j) (at a.figures.cs j) (at a.figures.rs j))),
    )

pub returns : goal.returns
unfolding recomputed
returns c =
    let a = c.args in
    let l = c.loop-i in
    let end : l.i ≡ a.s.n = omega arith in
    c.dealing_challenge.ensures
    ∙ challenge-same a.s a.d (record { at = λ i h k. refl }) (record { at = λ i h k. refl })
    (filled-agree (first_of a.s.group a.figures) _ (rw end at l.invariant.0)) (filled-agree (second_of a.s.group a.ys.now a.figures) _ (rw end at l.invariant.1))
