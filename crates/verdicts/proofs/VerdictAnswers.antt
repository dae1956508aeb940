-- A dealer's verdict by the number of records in his part of the board and by what the judge answers on the figures of his lines.
use mathlib.Core.Path.{◌≡◌, sym, ap, ◌∙◌, subst}
use mathlib.Core.Bool.{true, false}
use mathlib.Core.List.{List}
use Prim.Native.Nat.{ℕ, ◌-◌, ◌*◌, ◌≤◌}
use native.Mathlib.Omega.{arith}
use borrow.Author.Tests.{eq-eqb, ne_eqb}
use lib.ListN.{length}
use lib.Dec.{eqb}
use Rattle.words.specs.Checks.{Outcome, Met, outcome}
use Rattle.words.specs.Bytes.{records_in}
use Rattle.words.proofs.Lists.{map-length, up-length}
use Rattle.words.proofs.Tests.{true-and, true-equal, pick_true, pick-false}
use Rattle.sharing.specs.Setting.{ProperSetting, members}
use Rattle.sharing.specs.declared.Setting.{Setting}
use Rattle.sharing.proofs.EachMember.{members-exactly}
use Rattle.lines.specs.Columns.{columns_of}
use Rattle.lines.specs.declared.Columns.{Columns}
use Rattle.lines.specs.Lines.{is_line_for, is_line_of, is_line_of_round, line_checks}
use Rattle.dealing.specs.Dealing.{line_figure_checks, judge_dealing_in}
use Rattle.dealing.proofs.Settled.{FormedDealing}
use Rattle.dealing.proofs.Judged.{figures-decide}
use Rattle.board.specs.Board.{board_checks, key_in, keys_in, line_count, lines_of}
use Rattle.board.specs.Claims.{ExactLines}
use Rattle.board.proofs.Order.{Reached, reached}
use Rattle.board.proofs.LineRun.{line-record, lines-exact}
use Rattle.verdicts.specs.Shares.{judges}
use Rattle.verdicts.specs.Verdict.{dealing_answer, secret_by, verdict_from, verdict_on}
use Rattle.verdicts.specs.Posted.{LinesOn}
use Rattle.verdicts.specs.declared.Secret.{Secret}
use Rattle.verdicts.specs.declared.Verdict.TheVariants.{None, Refused, Accepted}
use Rattle.std.specs.Prelude.{Ok, Err}
use Rattle.words.specs.declared.refusal.Refusal.TheVariants.{Incomplete}
use Rattle.words.specs.declared.refusal.Refusal.{Refusal}

module _ (S : Setting) (b : List ℕ) (d : ℕ) (P : ProperSetting S) (m : Met (board_checks S b)) where
  state : Reached S b
  state = reached S b m

  exact : ExactLines S.n b d
  exact = lines-exact S b P state.form d

  -- ---- n lines pass every check of the judge before those of figures
  module _ (c : line_count b d ≡ S.n) where
    line-own : (i : ℕ) → 1 ≤ i → i ≤ S.n → is_line_of d (lines_of b d) i ≡ true
    unfolding is_line_for
    line-own i h l =
        let r = line-record S b P state.form d (i - 1) (omega arith) in
        true-and _ _ (r.0.line r.1).0 (true-equal _ _ _ _ r.2 (exact.by-member c i h l))

    line-ours : (i : ℕ) → 1 ≤ i → i ≤ S.n → is_line_of_round S.round (lines_of b d) i ≡ true
    line-ours i h l = eq-eqb _ S.round (line-record S b P state.form d (i - 1) (omega arith)).3

    formed : FormedDealing S d (keys_in S.n b) (lines_of b d)
    unfolding line_checks
    formed =
        let r = line-record S b P state.form d 0 (omega (arith, P.n-positive)) in
        record {
          dealer = (omega (arith, (r.0.line r.1).1, r.2), omega (arith, r.0.dealer, r.2));
          keys-size = map-length (key_in b) (members S.n) ∙ up-length 1 S.n;
          size = exact.size ∙ ap (λ (k : ℕ). 32 * k) c;
          keys = state.proper;
          lines = (
            (members-exactly (is_line_of d (lines_of b d)) S.n).1 line-own,
            ((members-exactly (is_line_of_round S.round (lines_of b d)) S.n).1 line-ours, tt),
          );
        }

  -- ---- by the part that holds his lines, and the number of its records
  module _ {lines : List ℕ} (e : lines ≡ lines_of b d) {k : ℕ} (h : k ≡ records_in lines) where
    counted : line_count b d ≡ k
    counted = omega (arith, h, ap length e, exact.size)

    pub no_lines : k ≡ 0 → None ≡ verdict_on judges S b d
    unfolding verdict_on
    no_lines z = sym (pick_true (eqb (line_count b d) 0) _ _ (eq-eqb _ 0 (counted ∙ z)))

    module _ (s : k ≡ 0 → ⊥) where
      some-lines : eqb (line_count b d) 0 ≡ false
      some-lines = ne_eqb _ 0 (λ z. s (sym counted ∙ z))

      pub not_all_lines : (k ≡ S.n → ⊥) → Refused Incomplete ≡ verdict_on judges S b d
      unfolding verdict_on
      not_all_lines n =
          sym
          (pick-false (eqb (line_count b d) 0) _ _ some-lines
          ∙ pick-false (eqb (line_count b d) S.n) _ _ (ne_eqb _ S.n (λ z. n (sym counted ∙ z))))

      module _ (n : k ≡ S.n) {ys : List ℕ} (y : ys ≡ keys_in S.n b) where
        pub lines_formed : FormedDealing S d ys lines
        lines_formed =
            subst (λ (l : List ℕ). FormedDealing S d ys l) (sym e)
            (subst (λ (l : List ℕ). FormedDealing S d l (lines_of b d)) (sym y) (formed (counted ∙ n)))

        told : {o : Outcome Unit} → o ≡ dealing_answer judges S b d → verdict_from o (secret_by judges S b d) ≡ verdict_on judges S b d
        unfolding verdict_on
        told j =
            ap (λ (o : Outcome Unit). verdict_from o (secret_by judges S b d)) j
            ∙ sym
            (pick-false (eqb (line_count b d) 0) _ _ some-lines
            ∙ pick_true (eqb (line_count b d) S.n) _ _ (eq-eqb _ S.n (counted ∙ n)))

        -- ---- by the judge's answer on the figures of his lines
        decided : outcome (line_figure_checks S d ys lines) tt ≡ dealing_answer judges S b d
        decided = figures-decide S d ys lines lines_formed ∙ (λ i. judge_dealing_in S d (y i) (e i))

        pub judge_refuses : {i : Refusal} → Err i ≡ outcome (line_figure_checks S d ys lines) (tt {0}) → Refused i ≡ verdict_on judges S b d
        judge_refuses j = told (j ∙ decided)

        pub figures_are : {figures : Columns} → figures ≡ columns_of S.n lines → figures ≡ columns_of S.n (lines_of b d)
        figures_are f = f ∙ ap (columns_of S.n) e

        module _ (j : Ok tt ≡ outcome (line_figure_checks S d ys lines) (tt {0})) where
          passes : Ok tt ≡ dealing_answer judges S b d
          passes = j ∙ decided

          pub all_lines : LinesOn S b d
          all_lines = record { proper = P; reached = m; accepted = sym passes }

          pub dealing_accepted : {s : Secret} → s ≡ secret_by judges S b d → Accepted s ≡ verdict_on judges S b d
          dealing_accepted h = ap Accepted h ∙ told passes
