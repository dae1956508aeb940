-- `lines_of` meets its contract: the lines end within the board, where they start or after.
use Prim.Native.Nat.{◌-◌, ◌*◌}
use native.Mathlib.Omega.{arith}
use lib.ListN.{take, drop}
use Rattle.records.specs.Layout.{line_kind}
use Rattle.board.specs.Board.{lines_of, behind}
use Rattle.board.proofs.Places.{place-within, run-rises}
use Rattle.board.proofs.parts.lines_of.Goals as goal

pub overflow_mul-from : goal.overflow_mul-from
overflow_mul-from c =
    let a = c.args in
    omega (arith, c.place_of-from.ensures, place-within a.b.now line_kind a.d 0)

pub overflow_mul-to : goal.overflow_mul-to
overflow_mul-to c =
    let a = c.args in
    omega (arith, c.place_of-to.ensures, place-within a.b.now line_kind a.d 32)

pub slice_bounds-result-count : goal.slice_bounds-result-count
slice_bounds-result-count c = omega (arith, c.place_of-from.ensures, c.place_of-to.ensures, run-rises c.requires line_kind c.args.d)

pub slice_bounds-result-start : goal.slice_bounds-result-start
slice_bounds-result-start c = omega (arith, c.place_of-from.ensures, c.place_of-to.ensures, run-rises c.requires line_kind c.args.d)

pub slice_bounds-result-end : goal.slice_bounds-result-end
slice_bounds-result-end c =
    let a = c.args in
    omega (arith, c.place_of-to.ensures, place-within a.b.now line_kind a.d 32)

pub returns : goal.returns
unfolding lines_of
returns c =
    let a = c.args in
    let s = c.place_of-from.ensures in
    let e = c.place_of-to.ensures in
    record {
      result_value = λ j. take (32 * e j - 32 * s j) (drop (32 * s j) a.b.now);
      ref_ptr_value = λ j. behind (32 * s j) a.b.ref_ptr;
    }
