-- `dealing_challenge` meets its contract. The loop's invariant: the words of the first i members stand behind the head.
use mathlib.Core.Path.{◌≡◌, refl, sym, ap, ◌∙◌}
use mathlib.Core.List.{[], ◌∷◌}
use Prim.Native.Nat.{◌+◌, ◌*◌}
use native.Mathlib.Omega.{arith}
use Rattle.words.proofs.Bytes.{put-none}
use Rattle.words.proofs.Lists.{entry_at}
use Rattle.sharing.specs.Setting.{members}
use Rattle.challenge.specs.Message.{dealing_tag, bytes_over, challenge_of, dealing_message}
use Rattle.challenge.proofs.Buffers.{members-length, over-next, behind-head}
use Rattle.challenge.proofs.message.dealing_challenge.Goals as goal
use Rattle.challenge.proofs.message.dealing_challenge.Invariants.{words}

pub loop-i-init : goal.loop-i-init
unfolding bytes_over
loop-i-init c = sym (put-none c.head-at.result c.head-at.new.m)

pub loop-i-preserved : goal.loop-i-preserved
loop-i-preserved c =
    let l = c.loop-i in
    let a = c.args in
    over-next (words a.vs.now a.encrypted.now a.a1s.now a.a2s.now) 16 (λ j. refl) c.head-at.result l.i _ c.head-at.new.m (omega arith)
    (λ j. entry_at a.vs.now l.i j ∷ entry_at a.encrypted.now l.i j ∷ entry_at a.a1s.now l.i j ∷ entry_at a.a2s.now l.i j ∷ [])
    l.invariant c.put_four.ensures

pub returns : goal.returns
unfolding dealing_message
returns c =
    let l = c.loop-i in
    let a = c.args in
    let h = c.head-at in
    let f = words a.vs.now a.encrypted.now a.a1s.now a.a2s.now in
    let end : l.i ≡ a.s.n = omega arith in
    c.challenge.ensures
    ∙ ap (challenge_of a.s)
    (behind-head dealing_tag a.s a.d (bytes_over f (members a.s.n)) _ (h.result + 16 * a.s.n) h.ensures.1 h.ensures.2
    (rw end at l.invariant) (omega (arith, members-length f 16 (λ j. refl) a.s.n)) (omega arith))
