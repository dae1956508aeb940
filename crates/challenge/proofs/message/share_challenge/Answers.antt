-- `share_challenge` meets its contract: the member's byte and five words stand behind the head.
use mathlib.Core.Path.{◌≡◌, refl, ap, ◌∙◌}
use mathlib.Core.List.{List, [], ◌∷◌, ◌++◌}
use Prim.Native.Nat.{ℕ, ◌+◌}
use native.Mathlib.Omega.{arith}
use lib.ListN.{length, set, length-set}
use Rattle.words.specs.Bytes.{words_bytes, put_at}
use Rattle.words.proofs.Bytes.{words-length}
use Rattle.challenge.specs.Message.{challenge_of, share_message}
use Rattle.challenge.proofs.Buffers.{put-words, words-one, behind-byte}
use Rattle.challenge.proofs.message.share_challenge.Goals as goal

pub returns : goal.returns
unfolding share_message
returns c =
    let a = c.args in
    let f = a.f in
    let ws = f.y.0 ∷ f.encrypted.0 ∷ f.decrypted.0 ∷ f.a1.0 ∷ [] in
    let us = f.a2.0 ∷ [] in
    let at = c.head-at.result in
    let l = set c.head-at.new.m at f.member in
    let n : length c.head-at.new.m ≡ 37 = c.head-at.auto.m ∙ refl in
    let p =
    put-words (at + 1) (at + 17) ws us l (omega arith) (omega (arith, length-set c.head-at.new.m at f.member)) c.put_four.ensures
    (c.put_word.ensures ∙ ap (λ (t : List ℕ). put_at (at + 17) t c.put_four.new.m) (words-one f.a2.0))
    in
    c.challenge.ensures
    ∙ ap (challenge_of a.s)
    (behind-byte a.tag a.s f.dealer (words_bytes (ws ++ us)) _ (at + 21) f.member c.head-at.ensures.1 c.head-at.ensures.2 p
    (omega (arith, words-length (ws ++ us))) (omega arith))
