-- `record_at` meets its contract: the part that is handed on has 32 bytes.
use mathlib.Core.Path.{◌≡◌}
use Prim.Native.Nat.{◌+◌, ◌-◌, ◌*◌}
use native.Mathlib.Omega.{arith}
use Rattle.words.specs.Bytes.{record_at}
use Rattle.words.proofs.record_at.Goals as goal

pub returns : goal.returns
unfolding record_at
returns c =
    let e : 32 * c.args.k + 32 - 32 * c.args.k ≡ 32 = omega arith in
    rw e at c.read_record.ensures
