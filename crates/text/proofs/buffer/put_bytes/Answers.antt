-- `put_bytes` meets its contract: the place behind the bytes lies as far on as there are bytes.
use mathlib.Core.Path.{◌≡◌, refl, ap, ◌∙◌}
use Prim.Native.Nat.{ℕ, ◌+◌, ◌-◌}
use native.Mathlib.Omega.{arith}
use borrow.Rule.Slice.PartMut.{put_mid}
use lib.ListN.{length}
use Rattle.words.specs.Bytes.{put_at}
use Rattle.words.proofs.Bytes.{put_back}
use Rattle.text.proofs.buffer.put_bytes.Goals as goal

pub returns : goal.returns
returns c =
    let a = c.args in
    let bs = c.copy_from_slice.new.self in
    let long : a.at + length a.text.now - a.at ≡ length bs = omega (arith, ap length c.copy_from_slice.ensures.after) in
    record {
      bytes =
          ap (λ (n : ℕ). put_mid a.at n a.out.now bs) long
          ∙ put_back a.at bs a.out.now
          ∙ ap (λ bs. put_at a.at bs a.out.now) c.copy_from_slice.ensures.after;
      behind = refl;
    }
