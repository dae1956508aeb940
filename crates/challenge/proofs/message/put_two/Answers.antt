-- `put_two` meets its contract: one word is put behind the other.
use mathlib.Core.Path.{ap, ◌∙◌}
use mathlib.Core.List.{List, [], ◌∷◌}
use Prim.Native.Nat.{ℕ, ◌+◌}
use native.Mathlib.Omega.{arith}
use Rattle.words.specs.Bytes.{put_at}
use Rattle.challenge.proofs.Buffers.{put-words, words-one}
use Rattle.challenge.proofs.message.put_two.Goals as goal

pub returns : goal.returns
returns c =
    let a = c.args in
    put-words a.at (a.at + 4) (a.a ∷ []) (a.b ∷ []) a.m.now (omega arith) (omega arith)
    (c.put_word.ensures ∙ ap (λ (t : List ℕ). put_at a.at t a.m.now) (words-one a.a))
    (c.put_word-2.ensures ∙ ap (λ (t : List ℕ). put_at (a.at + 4) t c.put_word.new.b) (words-one a.b))
