-- `dealer_lines` meets its contract: what `lines_check` answers tells whether every check is met.
use mathlib.Core.Path.{◌≡◌, sym, ap, ◌∙◌}
use mathlib.Core.List.{List, [], ◌++◌}
use Prim.Native.Nat.{ℕ, ◌*◌}
use Rattle.std.specs.Prelude.{Ok, Err}
use Rattle.words.specs.Checks.{Check, Met}
use Rattle.words.specs.declared.refusal.Refusal.{Refusal}
use Rattle.words.proofs.Checks.{value-met, if-met}
use Rattle.words.proofs.Stages.{met-both, last-kept}
use Rattle.sharing.specs.Setting.{setting_in, round_checks, judged, judged_else}
use Rattle.sharing.specs.declared.Round.{Round}
use Rattle.board.specs.Board.{lines_start, lines_of, lines_checks, lines_outcome, lines_part, lines_at, behind}
use Rattle.board.proofs.Order.{sorted}
use Rattle.board.proofs.parts.dealer_lines.Goals as goal

module _ (T : List ℕ) (R : Round) (d : ℕ) (b : List ℕ) where
  -- the checks of the table and the round, and of their setting
  abbrev all_checks : List Check
  all_checks = round_checks T R ++ lines_checks (setting_in T R) d b

  -- every check is met where the answer passes
  passed : {u : Unit {0}} → Ok u ≡ lines_outcome T R d b → Met all_checks
  unfolding lines_outcome judged
  passed {u} e = (value-met all_checks tt u (sym e)).0

  kept : {k : Refusal} → Err k ≡ lines_outcome T R d b → {A : Type 0} (new old : A) → old ≡ judged_else T R (λ S. lines_checks S d b) (λ S. new) old
  unfolding lines_outcome judged judged_else
  kept e new old = last-kept all_checks e new old

pub lines_of-requires : goal.lines_of-requires
unfolding lines_checks
lines_of-requires c =
    let a = c.args in
    let T = a.table.now in
    let m = passed T a.rd a.d a.b.now c.in-Ok.ensures in
    sorted (setting_in T a.rd) a.b.now (met-both (round_checks T a.rd) (lines_checks (setting_in T a.rd) a.d a.b.now) m).1.1

pub returns-in-Err : goal.returns-in-Err
unfolding lines_part lines_at judged_else
returns-in-Err c =
    let a = c.args in
    let b = a.b.now in
    record {
      result_value = kept a.table.now a.rd a.d b c.in-Err.ensures (lines_of b a.d) [];
      ref_ptr_value = ap (λ (k : ℕ). behind k a.b.ref_ptr) (kept a.table.now a.rd a.d b c.in-Err.ensures (32 * lines_start b a.d) 0);
    }

pub returns-in-Ok : goal.returns-in-Ok
unfolding lines_part lines_at judged_else
returns-in-Ok c =
    let a = c.args in
    let b = a.b.now in
    let cs = all_checks a.table.now a.rd a.d b in
    let m = passed a.table.now a.rd a.d b c.in-Ok.ensures in
    let f = c.lines_of.ensures in
    record {
      result_value = f.result_value ∙ sym (if-met (lines_of b a.d) [] cs m);
      ref_ptr_value = f.ref_ptr_value ∙ ap (λ (k : ℕ). behind k a.b.ref_ptr) (sym (if-met (32 * lines_start b a.d) 0 cs m));
    }
