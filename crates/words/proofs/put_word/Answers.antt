-- `put_word` meets its contract: the part that is written over comes back as the four bytes of the word (`put_back`).
use mathlib.Core.Path.{◌≡◌}
use Prim.Native.Nat.{◌+◌, ◌-◌}
use native.Mathlib.Omega.{arith}
use Rattle.words.specs.Bytes.{word_bytes}
use Rattle.words.proofs.Bytes.{put_back}
use Rattle.words.proofs.put_word.Goals as goal

pub returns : goal.returns
unfolding word_bytes
returns c =
    let a = c.args in
    let e : a.k + 4 - a.k ≡ 4 = omega arith in
    rw (e, c.copy_from_slice.ensures.after, c.to_be_bytes.ensures) (put_back a.k (word_bytes a.w) a.b.now)
