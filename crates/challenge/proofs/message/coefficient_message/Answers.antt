-- `coefficient_message` meets its contract. The loop's invariant: the words of the first i members stand behind the head and the byte 0.
use mathlib.Core.Path.{◌≡◌, refl, sym}
use mathlib.Core.List.{[], ◌∷◌}
use native.Mathlib.Omega.{arith}
use lib.ListN.{length-set}
use Rattle.words.proofs.Bytes.{put-none}
use Rattle.words.proofs.Lists.{entry_at}
use Rattle.sharing.specs.Setting.{members}
use Rattle.challenge.specs.Message.{coefficient_tag, bytes_over, coefficient_message}
use Rattle.challenge.proofs.Buffers.{over-next, put-behind-byte}
use Rattle.challenge.proofs.message.coefficient_message.Goals as goal
use Rattle.challenge.proofs.message.coefficient_message.Invariants.{words}

pub loop-i-init : goal.loop-i-init
unfolding bytes_over
loop-i-init c = sym (put-none _ _)

pub loop-i-preserved : goal.loop-i-preserved
loop-i-preserved c =
    let l = c.loop-i in
    let a = c.args in
    over-next (words a.vs.now a.encrypted.now) 8 (λ j. refl) _ l.i _ _ (simp length-set (omega arith))
    (λ j. entry_at a.vs.now l.i j ∷ entry_at a.encrypted.now l.i j ∷ []) l.invariant c.put_two.ensures

pub returns : goal.returns
unfolding coefficient_message
returns c =
    let l = c.loop-i in
    let a = c.args in
    let h = c.head-at in
    let end : l.i ≡ a.s.n = omega arith in (
      h.ensures.0,
      h.ensures.1,
      put-behind-byte coefficient_tag a.s a.d (bytes_over (words a.vs.now a.encrypted.now) (members a.s.n)) _ 0 h.ensures.1 h.ensures.2
          (rw end at l.invariant) (omega arith),
    )
