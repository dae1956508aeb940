-- A dealer's lines are the run between two places, and n lines are those of the members 1 to n in order.
use mathlib.Core.Path.{◌≡◌, sym, ap, ◌∙◌, subst}
use mathlib.Core.List.{List}
use Prim.Native.Nat.{ℕ, suc, ◌+◌, ◌-◌, ◌*◌, ◌<◌}
use native.Mathlib.Omega.{arith}
use lib.ListN.{length, take, drop, length-drop}
use lib.Seq.{length-take-le, drop-drop}
use Rattle.words.specs.Checks.{Met}
use Rattle.words.specs.Bytes.{record_in, records_in, record_at}
use Rattle.words.specs.declared.Record.{Record}
use Rattle.words.proofs.Lists.{part-part}
use Rattle.sharing.specs.Setting.{ProperSetting}
use Rattle.sharing.specs.declared.Setting.{Setting}
use Rattle.records.specs.Layout.{line_kind, dealer_of, member_of, round_of}
use Rattle.board.specs.Board.{form_checks, lines_start, lines_end, line_count, lines_of}
use Rattle.board.specs.Sorted.{Sorted}
use Rattle.board.specs.Claims.{ExactLines, LinesExact}
use Rattle.board.proofs.Searches.{fills}
use Rattle.board.proofs.Order.{Shaped, shapes, of-round, sorted, members-rise}
use Rattle.board.proofs.Places.{place-within, run-rises, in-run, to-run}

module _ (S : Setting) (b : List ℕ) (P : ProperSetting S) (form : Met (form_checks S b)) (d : ℕ) where
  rising : Sorted b
  rising = sorted S b form

  -- ---- the part's bytes
  part-size : length (lines_of b d) ≡ 32 * line_count b d
  unfolding lines_of line_count
  part-size =
      let u = run-rises rising line_kind d in
      let w = place-within b line_kind d 32 in
      let l = length-drop (32 * lines_start b d) b in
      length-take-le (32 * lines_end b d - 32 * lines_start b d) (drop (32 * lines_start b d) b) (omega arith) ∙ omega arith

  part-record : (k : ℕ) → k < line_count b d → record_at (lines_of b d) k ≡ record_at b (lines_start b d + k)
  unfolding lines_of line_count record_at
  part-record k h =
      let u = run-rises rising line_kind d in
      let e : 32 * lines_start b d + 32 * k ≡ 32 * (lines_start b d + k) = omega arith in
      ap record_in
      (part-part 32 (32 * k) (32 * lines_end b d - 32 * lines_start b d) (drop (32 * lines_start b d) b) (omega arith)
      ∙ ap (take 32) (drop-drop (32 * k) (32 * lines_start b d) b ∙ ap (λ (a : ℕ). drop a b) e))

  -- ---- the member of the k-th line
  abbrev member_at : ℕ → ℕ
  member_at k = member_of (record_at b (lines_start b d + k))

  member-places : line_count b d ≡ S.n → (k : ℕ) → k < S.n → member_at k ≡ suc k
  unfolding line_count
  member-places c =
      let some = P.n-positive in
      fills member_at S.n
      (λ k h.
      let i = line k (omega arith) in
      let j = line (suc k) h in
      members-rise rising (lines_start b d + k) (lines_start b d + suc k) (omega arith) (inside (suc k) h)
      (i.0 ∙ sym j.0) (i.1 ∙ sym j.1))
      ((shape 0 (omega arith)).line (line 0 (omega arith)).0).2
      (λ k h. (shape k h).member)
    where
      inside : (k : ℕ) → k < S.n → lines_start b d + k < records_in b
      inside k h = omega (arith, place-within b line_kind d 32)

      line : (k : ℕ) → k < S.n → ((record_at b (lines_start b d + k)).w0 ≡ line_kind) × (dealer_of (record_at b (lines_start b d + k)) ≡ d)
      line k h = in-run rising line_kind d (lines_start b d + k) (omega arith) (omega arith)

      shape : (k : ℕ) → k < S.n → Shaped S.n (record_at b (lines_start b d + k))
      shape k h = shapes S b form (lines_start b d + k) (inside k h)

  -- ---- the record of the k-th line: its shape, kind, dealer and round
  pub line-record : (k : ℕ) → k < line_count b d
      → Shaped S.n (record_at (lines_of b d) k) × ((record_at (lines_of b d) k).w0 ≡ line_kind) × (dealer_of (record_at (lines_of b d) k) ≡ d) × (round_of (record_at (lines_of b d) k) ≡ S.round)
  unfolding line_count
  line-record k h =
      let i = lines_start b d + k in
      let inside = place-within b line_kind d 32 in
      let run = in-run rising line_kind d i (omega arith) (omega arith) in
      subst (λ (r : Record). Shaped S.n r × (r.w0 ≡ line_kind) × (dealer_of r ≡ d) × (round_of r ≡ S.round)) (sym (part-record k h))
      (shapes S b form i (omega arith), run.0, run.1, of-round S b form i (omega arith))

  lines-of : ExactLines S.n b d
  lines-of =
      record {
        inside = place-within b line_kind d 32;
        rising = run-rises rising line_kind d;
        only-lines = in-run rising line_kind d;
        all_lines = λ i h k e. to-run rising line_kind d i h k e (omega (arith, (shapes S b form i h).member, P.n-most));
        size = part-size;
        in_place = part-record;
        by-member = λ c i h l.
            ap member_of (part-record (i - 1) (omega arith)) ∙ member-places c (i - 1) (omega arith) ∙ omega arith;
      }

pub lines-exact : LinesExact
lines-exact S b P form d = lines-of S b P form d
