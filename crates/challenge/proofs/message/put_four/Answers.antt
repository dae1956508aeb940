-- `put_four` meets its contract: two words are put behind two others.
use mathlib.Core.List.{[], ◌∷◌}
use Prim.Native.Nat.{◌+◌}
use native.Mathlib.Omega.{arith}
use Rattle.challenge.proofs.Buffers.{put-words}
use Rattle.challenge.proofs.message.put_four.Goals as goal

pub returns : goal.returns
returns c =
    let a = c.args in
    put-words a.at (a.at + 8) (a.a ∷ a.b ∷ []) (a.c ∷ a.d ∷ []) a.m.now (omega arith) (omega arith)
    c.put_two.ensures c.put_two-2.ensures
