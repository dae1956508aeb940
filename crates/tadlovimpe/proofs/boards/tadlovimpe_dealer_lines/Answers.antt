-- `tadlovimpe_dealer_lines` meets its contract: what `lines_check` answers tells whether every check is met.
use mathlib.Core.Path.{◌≡◌, sym, ap, ◌∙◌}
use mathlib.Core.List.{List, []}
use Prim.Native.Nat.{ℕ, ◌*◌, ◌≤◌}
use native.Mathlib.Omega.{arith}
use lib.ListN.{length}
use Rattle.words.specs.Bytes.{records_in}
use Rattle.words.specs.Checks.{Outcome, Met}
use Rattle.words.proofs.Checks.{value-met, if-met}
use Rattle.words.proofs.Stages.{met-both}
use Rattle.sharing.specs.Setting.{setting_in, round_checks, judged, judged_else}
use Rattle.sharing.specs.declared.Round.{Round}
use Rattle.board.specs.Board.{lines_start, lines_of, lines_checks, lines_outcome, lines_part, lines_at}
use Rattle.board.specs.Sorted.{Sorted}
use Rattle.board.proofs.Order.{sorted}
use Rattle.board.proofs.Places.{place-within}
use Rattle.tadlovimpe.specs.Figures.{part_of}
use Rattle.tadlovimpe.proofs.Refusals.{all_checks}
use Rattle.tadlovimpe.proofs.boards.tadlovimpe_dealer_lines.Goals as goal
use Rattle.std.specs.Prelude.{Ok}

-- every check is met where the answer passes, and then the records ascend
module _ (T : List ℕ) (R : Round) (d : ℕ) (b : List ℕ) {a : Outcome Unit} (e : a ≡ lines_outcome T R d b) (f : a ≡ (Ok tt)) where
  passed : Met (all_checks T R d b)
  unfolding lines_outcome judged
  passed = (value-met (all_checks T R d b) tt tt (sym e ∙ f)).0

  ascending : Sorted b
  unfolding lines_checks
  ascending = sorted (setting_in T R) b (met-both (round_checks T R) (lines_checks (setting_in T R) d b) passed).1.1

pub place_of-start-requires : goal.place_of-start-requires
place_of-start-requires c =
    let a = c.args in
    ascending a.table.now a.round a.dealer a.board.now c.lines_check.ensures c.in-Ok.is

pub overflow_mul-start : goal.overflow_mul-start
overflow_mul-start c =
    let a = c.args in
    let w : c.place_of-start.result ≤ records_in a.board.now = rw c.place_of-start.ensures (place-within _ _ _ _) in
    omega (arith, w)

pub lines_of-part-requires : goal.lines_of-part-requires
lines_of-part-requires c =
    let a = c.args in
    ascending a.table.now a.round a.dealer a.board.now c.lines_check.ensures c.in-Ok.is

pub returns-in-Err : goal.returns-in-Err
returns-in-Err c =
    let a = c.args in
    let start = lines_at a.table.now a.round a.dealer a.board.now in
    let bytes = length (lines_part a.table.now a.round a.dealer a.board.now) in
    (λ i. record { refusal = c.from.ensures i; start = 0; length = 0 })
    ∙ ap (λ (o : Outcome (Unit {0})). part_of o start bytes) (sym c.in-Err.is ∙ c.lines_check.ensures)

pub returns-in-Ok : goal.returns-in-Ok
unfolding lines_part lines_at judged_else
returns-in-Ok c =
    let a = c.args in
    let b = a.board.now in
    let cs = all_checks a.table.now a.round a.dealer b in
    let t = c.in-Ok.is in
    let m = passed a.table.now a.round a.dealer b c.lines_check.ensures t in
    let o = sym t ∙ c.lines_check.ensures in
    let start = ap (λ (k : ℕ). 32 * k) c.place_of-start.ensures ∙ sym (if-met (32 * lines_start b a.dealer) 0 cs m) in
    let bytes = ap length (c.lines_of-part.ensures.result_value ∙ sym (if-met (lines_of b a.dealer) [] cs m)) in
    λ i. part_of (o i) (start i) (bytes i)
