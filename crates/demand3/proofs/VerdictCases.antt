-- The rules of verdicts. A verdict has four cases, told by the number of lines and the judge's answer, and every rule looks them up.
use mathlib.Core.Path.{◌≡◌, refl, sym, ap, ◌∙◌}
use mathlib.Core.Bool.{Bool, true, false, ◌&&◌}
use mathlib.Core.List.{List}
use mathlib.Core.Logic.{◌↔◌, ◌⊎◌, inl, inr, ⊎_elim}
use Prim.Native.Nat.{ℕ, ◌<◌, ◌≤◌}
use native.Mathlib.Decide.{dec_le}
use native.Mathlib.Omega.{arith}
use borrow.Author.Tests.{ne_eqb, eqb-true, eqb-false}
use lib.Dec.{eqb}
use Rattle.std.specs.Prelude.{Ok, Err, is_ok}
use Rattle.words.specs.Choice.{pick}
use Rattle.words.specs.Checks.{Outcome}
use Rattle.words.specs.Bytes.{records_in, record_at}
use Rattle.words.specs.declared.refusal.Refusal.{Refusal}
use Rattle.words.specs.declared.refusal.Refusal.TheVariants.{Incomplete}
use Rattle.words.proofs.Tests.{false-true, pick_true, pick-false}
use Rattle.sharing.specs.Setting.{ProperSetting}
use Rattle.sharing.specs.declared.Setting.{Setting}
use Rattle.records.specs.Layout.{line_kind, dealer_of}
use Rattle.board.specs.Board.{lines_start, lines_end, line_count}
use Rattle.share.specs.Share.{opened_form}
use Rattle.verdicts.specs.Shares.{Judges}
use Rattle.verdicts.specs.Verdict.{dealing_answer, is_accepted, encrypted_of, secret_by, verdict_from, verdict_on}
use Rattle.demand3.specs.Claims.{VerdictRules}
use Rattle.verdicts.specs.declared.Secret.{Secret}
use Rattle.verdicts.specs.declared.Verdict.TheVariants.{None, Refused, Accepted}
use Rattle.board.proofs.Order.{Reached, reached}
use Rattle.demand3.proofs.Serving.{shares-ascend}
use Rattle.demand3.proofs.Sources.{source_of, opened-exactly, recovers-exactly, stuck-exactly}
use Rattle.board.proofs.LineRun.{lines-exact}

-- ---- the four cases of a verdict
pub data Case (J : Judges) (S : Setting) (b : List ℕ) (d : ℕ) : Type 0 where
  no_lines : line_count b d ≡ 0 → is_accepted J S b d ≡ false → verdict_on J S b d ≡ None → Case J S b d
  some-lines : (line_count b d ≡ 0 → ⊥) → (line_count b d ≡ S.n → ⊥) → is_accepted J S b d ≡ false → verdict_on J S b d ≡ Refused Incomplete → Case J S b d
  refused-lines : line_count b d ≡ S.n → (k : Refusal) → dealing_answer J S b d ≡ Err k → is_accepted J S b d ≡ false → verdict_on J S b d ≡ Refused k
      → Case J S b d
  accepted-lines : line_count b d ≡ S.n → dealing_answer J S b d ≡ Ok tt → is_accepted J S b d ≡ true → verdict_on J S b d ≡ Accepted (secret_by J S b d)
      → Case J S b d

module _ (J : Judges) {S : Setting} (P : ProperSetting S) {b : List ℕ} (F : Reached S b) (d : ℕ) where
  some-members : 1 ≤ S.n
  some-members = P.n-positive

  pub case-of : Case J S b d
  unfolding is_accepted verdict_on
  case-of = by_tests (eqb (line_count b d) 0) (eqb (line_count b d) S.n) (dealing_answer J S b d) refl refl refl
    where
      by_tests : (x y : Bool) (a : Outcome Unit) → eqb (line_count b d) 0 ≡ x → eqb (line_count b d) S.n ≡ y → dealing_answer J S b d ≡ a → Case J S b d
      by_tests true y a e f g =
          let z = eqb-true (line_count b d) 0 e in
          let w : eqb (line_count b d) S.n ≡ false = ne_eqb (line_count b d) S.n (λ s. omega (arith, some-members)) in
          no_lines z (ap (λ (t : Bool). t && is_ok (dealing_answer J S b d)) w) (pick_true (eqb (line_count b d) 0) _ _ e)
      by_tests false false a e f g =
          some-lines (eqb-false (line_count b d) 0 e) (eqb-false (line_count b d) S.n f) (ap (λ (t : Bool). t && is_ok (dealing_answer J S b d)) f)
          (pick-false (eqb (line_count b d) 0) _ _ e ∙ pick-false (eqb (line_count b d) S.n) _ _ f)
      by_tests false true (Err k) e f g =
          refused-lines (eqb-true (line_count b d) S.n f) k g (λ j. f j && is_ok (g j))
          (pick-false (eqb (line_count b d) 0) _ _ e ∙ (λ j. pick (f j) (verdict_from (g j) (secret_by J S b d)) (Refused Incomplete)))
      by_tests false true (Ok u) e f g =
          accepted-lines (eqb-true (line_count b d) S.n f) g (λ j. f j && is_ok (g j))
          (pick-false (eqb (line_count b d) 0) _ _ e ∙ (λ j. pick (f j) (verdict_from (g j) (secret_by J S b d)) (Refused Incomplete)))

  -- ---- no lines
  none-count : (line_count b d ≡ 0) ↔ ((i : ℕ) → i < records_in b → (record_at b i).w0 ≡ line_kind → dealer_of (record_at b i) ≡ d → ⊥)
  unfolding line_count
  none-count =
      let exact = lines-exact S b P F.form d in (
        λ z i h k e. let s = exact.all_lines i h k e in omega arith,
        λ n. elim (dec_le (lines_end b d) (lines_start b d)) [
          | yes w ↦ omega arith
          | no w ↦
              let s = exact.only-lines (lines_start b d) (omega arith) (omega arith) in
              absurd (n (lines_start b d) (omega (arith, exact.inside)) s.0 s.1)
        ],
      )

  none-exactly : Case J S b d → (verdict_on J S b d ≡ None) ↔ (line_count b d ≡ 0)
  none-exactly (no_lines z a v) = (λ h. z, λ h. v)
  none-exactly (some-lines n l a v) = (λ h. absurd (false-true (cc)), λ z. absurd (n z))
  none-exactly (refused-lines l k g a v) = (λ h. absurd (false-true (cc)), λ z. absurd (omega (arith, some-members)))
  none-exactly (accepted-lines l g a v) = (λ h. absurd (false-true (cc)), λ z. absurd (omega (arith, some-members)))

  -- ---- refused and accepted
  refuses-exactly : Case J S b d → (k : Refusal) → (verdict_on J S b d ≡ Refused k)
      ↔ (((line_count b d ≡ 0 → ⊥) × (line_count b d ≡ S.n → ⊥) × (k ≡ Incomplete)) ⊎ ((line_count b d ≡ S.n) × (dealing_answer J S b d ≡ Err k)))
  refuses-exactly (no_lines z a v) k =
      (λ h. absurd (false-true (cc)), ⊎_elim (λ h. absurd (h.0 z)) (λ h. absurd (omega (arith, some-members, h.0))))
  refuses-exactly (some-lines n l a v) k = (λ h. inl (n, l, cc), ⊎_elim (λ h. v ∙ ap Refused (sym h.2)) (λ h. absurd (l h.0)))
  refuses-exactly (refused-lines l i g a v) k = (
    λ h. inr (l, let s : i ≡ k = cc in g ∙ ap Err s),
    ⊎_elim (λ h. absurd (h.1 l)) (λ h. let e = h.1 in let s : i ≡ k = cc in v ∙ ap Refused s),
  )
  refuses-exactly (accepted-lines l g a v) k =
      (λ h. absurd (false-true (cc)), ⊎_elim (λ h. absurd (h.1 l)) (λ h. let e = h.1 in absurd (false-true (cc))))

  accepts-exactly : Case J S b d → (is_accepted J S b d ≡ true) ↔ ((line_count b d ≡ S.n) × (dealing_answer J S b d ≡ Ok tt))
  accepts-exactly (no_lines z a v) = (λ h. absurd (false-true (cc)), λ h. absurd (omega (arith, some-members, h.0)))
  accepts-exactly (some-lines n l a v) = (λ h. absurd (false-true (cc)), λ h. absurd (l h.0))
  accepts-exactly (refused-lines l k g a v) = (λ h. absurd (false-true (cc)), λ h. let e = h.1 in absurd (false-true (cc)))
  accepts-exactly (accepted-lines l g a v) = (λ h. (l, g), λ h. a)

  accepted-exactly : Case J S b d → (s : Secret) → (verdict_on J S b d ≡ Accepted s) ↔ ((is_accepted J S b d ≡ true) × (secret_by J S b d ≡ s))
  accepted-exactly (no_lines z a v) s = (λ h. absurd (false-true (cc)), λ h. absurd (false-true (sym a ∙ h.0)))
  accepted-exactly (some-lines n l a v) s = (λ h. absurd (false-true (cc)), λ h. absurd (false-true (sym a ∙ h.0)))
  accepted-exactly (refused-lines l k g a v) s = (λ h. absurd (false-true (cc)), λ h. absurd (false-true (sym a ∙ h.0)))
  accepted-exactly (accepted-lines l g a v) s = (λ h. (a, cc), λ h. v ∙ ap Accepted h.1)

pub verdict-rules : VerdictRules
verdict-rules J S P b m d =
    let F = reached S b m in
    let v = case-of J P F d in
    let s = source_of J F d in
    let n = none-exactly J P F d v in
    let z = none-count J P F d in
    record {
      none = (λ h. z.0 (n.0 h), λ h. n.1 (z.1 h));
      refuses = refuses-exactly J P F d v;
      accepts = accepts-exactly J P F d v;
      accepted = accepted-exactly J P F d v;
      opened = opened-exactly J F d s;
      recovers = recovers-exactly J F d s;
      lowest-first = shares-ascend J F (opened_form d) (encrypted_of S b d);
      stuck = stuck-exactly J F d s;
    }
