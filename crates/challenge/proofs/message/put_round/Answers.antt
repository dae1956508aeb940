-- `put_round` meets its contract: in round 0 nothing is put, in another the number's word.
use mathlib.Core.Path.{sym, ap, ◌∙◌}
use mathlib.Core.List.{List}
use Prim.Native.Nat.{ℕ}
use native.Mathlib.Omega.{arith}
use lib.ListN.{length}
use Rattle.words.specs.Bytes.{put_at}
use Rattle.words.proofs.Bytes.{word-length}
use Rattle.challenge.proofs.Buffers.{round-some}
use Rattle.challenge.proofs.message.put_round.Goals as goal

pub returns : goal.returns
returns c =
    let a = c.args in
    let e = round-some a.round (λ z. omega arith) in
    (omega (arith, ap length e, word-length a.round), c.put_word.ensures ∙ ap (λ (bs : List ℕ). put_at a.at bs a.m.now) (sym e))
