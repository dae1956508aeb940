-- `State::rounds` is the 64 rounds. Invariant: the working variables are those after two rounds for each turn.
use Rattle.std.proofs.Common.{◌≡◌, suc, ◌+◌, ◌*◌, get_or, refl, ap, ◌∙◌, arith}
use Rattle.sha256.specs.Constants.{K}
use Rattle.sha256.specs.Hash.{round, rounds}
use Rattle.sha256.proofs.state.State.rounds.Goals as goal

pub loop-t-init : goal.loop-t-init
unfolding rounds
loop-t-init c = refl

pub loop-t-preserved : goal.loop-t-preserved
unfolding rounds K
loop-t-preserved c =
    let a = c.args in
    let t = 2 * c.loop-t.t in
    let e : t + 1 ≡ suc t = omega arith in
    let n : suc (suc t) ≡ 2 * (c.loop-t.t + 1) = omega arith in
    let first = c.round-self.ensures ∙ (λ j. round (c.loop-t.invariant j) (get_or K t 0) (get_or a.w.now t 0)) in
    c.round-self-in-loop-t.ensures ∙ (λ j. round (first j) (get_or K (e j) 0) (get_or a.w.now (e j) 0)) ∙ ap (rounds a.w.now a.self) n
