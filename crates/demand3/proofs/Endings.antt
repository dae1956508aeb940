-- How a board ends. Count, product and stuck dealings are folds over the verdicts; by the cases of a verdict each is one over the
-- accepted dealers. The rest is which of the two last checks is the first unmet one, and what there is where none is: an end has four cases.
use mathlib.Core.Path.{◌≡◌, refl, sym, ap, ◌∙◌}
use mathlib.Core.Bool.{Bool, true, false}
use mathlib.Core.List.{List, [], ◌∷◌}
use mathlib.Core.Logic.{◌⊎◌, ◌↔◌, inl, inr, ⊎_elim}
use Prim.Native.Nat.{ℕ, zero, suc, ◌+◌, ◌<◌, ◌≤◌}
use native.Mathlib.Nat.{eq-or-lt_of_le}
use native.Mathlib.Omega.{arith}
use borrow.Author.Tests.{leb-true, leb-false}
use lib.ListN.{length, take}
use lib.Dec.{leb}
use Rattle.std.specs.Prelude.{Ok, Err}
use Rattle.words.specs.Choice.{pick}
use Rattle.words.specs.Lists.{map, up_from}
use Rattle.words.specs.Checks.{outcome, Met}
use Rattle.words.specs.declared.refusal.Refusal.TheVariants.{StillStuck, TooFew}
use Rattle.words.proofs.Tests.{false-true, pick_true, pick-false}
use Rattle.words.proofs.Stages.{rest-outcome, front-outcome}
use Rattle.group.specs.declared.Element.{Element}
use Rattle.sharing.specs.Setting.{ProperSetting, members}
use Rattle.sharing.specs.declared.Setting.{Setting}
use Rattle.sharing.specs.Sum.{product_of}
use Rattle.lines.specs.Lines.{Y_in}
use Rattle.share.specs.Share.{added_form}
use Rattle.board.specs.Search.{filter}
use Rattle.board.specs.Board.{board_checks}
use Rattle.board.proofs.Order.{Reached, reached}
use Rattle.verdicts.specs.Shares.{Judges, recovered_from}
use Rattle.verdicts.specs.Verdict.{is_accepted, secret_by, is_stuck, verdict_on, verdicts_on}
use Rattle.verdicts.specs.Added.{accepted_dealers, multiplied, added_by}
use Rattle.verdicts.specs.Draw.{count_one, count_accepted, any_stuck, secret_value, times_secret, secrets_product, end_checks, draw_checks, draw_value, reached_draw, draw_in}
use Rattle.verdicts.specs.declared.Secret.TheVariants.{Opened, Recovered, Stuck}
use Rattle.verdicts.specs.declared.Verdict.{Verdict}
use Rattle.verdicts.specs.declared.Verdict.TheVariants.{None, Refused, Accepted}
use Rattle.demand3.specs.Claims.{SomeStuck, RefusedBefore, DrawnBySecrets, DrawnByAdded, EndRules}
use Rattle.demand3.proofs.Serving.{shares-ascend}
use Rattle.demand3.proofs.VerdictCases.{Case, no_lines, some-lines, refused-lines, accepted-lines, case-of}

-- ---- refused before the verdicts
pub refused-before : RefusedBefore
unfolding draw_in
refused-before J S b k u = sym (front-outcome (board_checks S b) (draw_checks J S b) k u (draw_value J S b))

-- ---- reached verdicts decide
pub reached-draw : (J : Judges) (S : Setting) (b : List ℕ) → Met (board_checks S b) → draw_in J S b ≡ reached_draw J S b
unfolding draw_in reached_draw
reached-draw J S b m = sym (rest-outcome (board_checks S b) (draw_checks J S b) m (draw_value J S b))

-- ---- folds over the verdicts
module _ (J : Judges) {S : Setting} (P : ProperSetting S) {b : List ℕ} (F : Reached S b) where
  abbrev verdicts_for : List ℕ → List Verdict
  verdicts_for ds = map (verdict_on J S b) ds

  abbrev accepted_of : List ℕ → List ℕ
  accepted_of ds = filter (is_accepted J S b) ds

  abbrev secret_at : ℕ → ℕ
  secret_at d = secret_value (secret_by J S b d)

  counted : (ds : List ℕ) → count_accepted (verdicts_for ds) ≡ length (accepted_of ds)
  counted [] = refl
  counted (d ∷ ds) = by-case (case-of J P F d) (counted ds)
    where
      by-case : Case J S b d → count_accepted (verdicts_for ds) ≡ length (accepted_of ds)
          → count_one (verdict_on J S b d) + count_accepted (verdicts_for ds) ≡ length (pick (is_accepted J S b d) (d ∷ accepted_of ds) (accepted_of ds))
      by-case (no_lines z a v) e = rw (v, a) (omega arith)
      by-case (some-lines n l a v) e = rw (v, a) (omega arith)
      by-case (refused-lines l k g a v) e = rw (v, a) (omega arith)
      by-case (accepted-lines l g a v) e = rw (v, a) (omega arith)

  multiplied-over : (p : ℕ) (ds : List ℕ) → secrets_product p (verdicts_for ds) ≡ product_of p (map secret_at (accepted_of ds))
  multiplied-over p [] = refl
  multiplied-over p (d ∷ ds) = by-case (case-of J P F d) (multiplied-over p ds)
    where
      by-case : Case J S b d → secrets_product p (verdicts_for ds) ≡ product_of p (map secret_at (accepted_of ds))
          → times_secret p (verdict_on J S b d) (secrets_product p (verdicts_for ds))
          ≡ product_of p (map secret_at (pick (is_accepted J S b d) (d ∷ accepted_of ds) (accepted_of ds)))
      by-case (no_lines z a v) e = rw (v, a) e
      by-case (some-lines n l a v) e = rw (v, a) e
      by-case (refused-lines l k g a v) e = rw (v, a) e
      by-case (accepted-lines l g a v) e = rw (v, a, e)

-- ---- a stuck verdict among many
stuck-is : (v : Verdict) → is_stuck v ≡ true → v ≡ Accepted Stuck
stuck-is None e = absurd (false-true e)
stuck-is (Refused k) e = absurd (false-true e)
stuck-is (Accepted (Opened v)) e = absurd (false-true e)
stuck-is (Accepted (Recovered v)) e = absurd (false-true e)
stuck-is (Accepted Stuck) e = refl

module _ (w : ℕ → Verdict) where
  any-one : (i m : ℕ) → any_stuck (map w (up_from i m)) ≡ true → (d : ℕ) × (i ≤ d) × (d < i + m) × (w d ≡ Accepted Stuck)
  any-one i zero e = absurd (false-true e)
  any-one i (suc m) e = by_first (is_stuck (w i)) refl e (any-one (suc i) m)
    where
      by_first : (x : Bool) → is_stuck (w i) ≡ x → pick x true (any_stuck (map w (up_from (suc i) m))) ≡ true
          → (any_stuck (map w (up_from (suc i) m)) ≡ true → (d : ℕ) × (suc i ≤ d) × (d < suc i + m) × (w d ≡ Accepted Stuck))
          → (d : ℕ) × (i ≤ d) × (d < i + suc m) × (w d ≡ Accepted Stuck)
      by_first true s e r = (i, omega arith, omega arith, stuck-is (w i) s)
      by_first false s e r = let o = r e in (o.0, omega (arith, o.1), omega (arith, o.2), o.3)

  one-any : (i m d : ℕ) → i ≤ d → d < i + m → w d ≡ Accepted Stuck → any_stuck (map w (up_from i m)) ≡ true
  one-any i zero d l u e = absurd (omega arith)
  one-any i (suc m) d l u e = by_first (is_stuck (w i)) refl (λ h. one-any (suc i) m d h (omega arith) e)
    where
      by_first : (x : Bool) → is_stuck (w i) ≡ x → (suc i ≤ d → any_stuck (map w (up_from (suc i) m)) ≡ true)
          → pick x true (any_stuck (map w (up_from (suc i) m))) ≡ true
      by_first true s r = refl
      by_first false s r = ⊎_elim (λ h. absurd (false-true (sym s ∙ ap (λ (j : ℕ). is_stuck (w j)) h ∙ ap is_stuck e))) r (eq-or-lt_of_le l)

-- ---- the four ends
-- the product of the accepted dealings' secrets, and what the added shares recover
abbrev by_secrets : Judges → Setting → List ℕ → Element
by_secrets J S b = record { 0 = product_of S.group.p (map (λ d. secret_value (secret_by J S b d)) (accepted_dealers J S b)) }

abbrev by_added : Judges → Setting → List ℕ → Element
by_added J S b = record { 0 = recovered_from S.group b (take S.t (added_by J S b)) }

data End (J : Judges) (S : Setting) (b : List ℕ) : Type 0 where
  fourteen : length (accepted_dealers J S b) < S.t → draw_in J S b ≡ Err TooFew → End J S b
  thirteen : S.t ≤ length (accepted_dealers J S b) → SomeStuck J S b → length (added_by J S b) < S.t → draw_in J S b ≡ Err StillStuck → End J S b
  drawn : S.t ≤ length (accepted_dealers J S b) → (SomeStuck J S b → ⊥) → draw_in J S b ≡ Ok (by_secrets J S b) → End J S b
  added : S.t ≤ length (accepted_dealers J S b) → SomeStuck J S b → S.t ≤ length (added_by J S b) → draw_in J S b ≡ Ok (by_added J S b) → End J S b

module _ (J : Judges) (S : Setting) (P : ProperSetting S) (b : List ℕ) (m : Met (board_checks S b)) where
  F : Reached S b
  F = reached S b m

  abbrev verdicts : List Verdict
  verdicts = verdicts_on J S b

  abbrev enough : ℕ → Bool
  enough k = leb S.t k

  count-is : count_accepted verdicts ≡ length (accepted_dealers J S b)
  count-is = counted J P F (members S.n)

  some-stuck : (any_stuck verdicts ≡ true) ↔ SomeStuck J S b
  some-stuck = (
    λ e. let s = any-one (verdict_on J S b) 1 S.n e in (s.0, s.1, omega (arith, s.2), s.3),
    λ s. one-any (verdict_on J S b) 1 S.n s.0 s.1 (omega (arith, s.2)) s.3,
  )

  -- by whether a dealing is stuck
  draw-is : {x : Bool} → any_stuck verdicts ≡ x
      → draw_in J S b ≡ outcome (end_checks S.t (count_accepted verdicts) x (length (added_by J S b))) (pick x (by_added J S b) (by_secrets J S b))
  unfolding reached_draw
  draw-is e =
      reached-draw J S b m
      ∙ (λ j. outcome (end_checks S.t (count_accepted verdicts) (e j) (length (added_by J S b)))
      (pick (e j) (by_added J S b) (record { 0 = multiplied-secrets j })))
    where
      multiplied-secrets : secrets_product S.group.p verdicts ≡ (by_secrets J S b).0
      multiplied-secrets = multiplied-over J P F S.group.p (members S.n)

  end_of : End J S b
  end_of = by_tests (enough (count_accepted verdicts)) (any_stuck verdicts) (enough (length (added_by J S b))) refl refl refl
    where
      by_tests : (x y z : Bool) → enough (count_accepted verdicts) ≡ x → any_stuck verdicts ≡ y → enough (length (added_by J S b)) ≡ z → End J S b
      by_tests false y z e f g =
          fourteen (omega (arith, count-is, leb-false S.t (count_accepted verdicts) e)) (draw-is f ∙ pick-false (enough (count_accepted verdicts)) _ _ e)
      by_tests true false z e f g =
          drawn (omega (arith, count-is, leb-true S.t (count_accepted verdicts) e)) (λ s. false-true (sym f ∙ some-stuck.1 s))
          (draw-is f ∙ pick_true (enough (count_accepted verdicts)) _ _ e)
      by_tests true true false e f g =
          thirteen (omega (arith, count-is, leb-true S.t (count_accepted verdicts) e)) (some-stuck.0 f) (leb-false S.t (length (added_by J S b)) g)
          (draw-is f ∙ pick_true (enough (count_accepted verdicts)) _ _ e ∙ pick-false (enough (length (added_by J S b))) _ _ g)
      by_tests true true true e f g =
          added (omega (arith, count-is, leb-true S.t (count_accepted verdicts) e)) (some-stuck.0 f) (leb-true S.t (length (added_by J S b)) g)
          (draw-is f ∙ pick_true (enough (count_accepted verdicts)) _ _ e ∙ pick_true (enough (length (added_by J S b))) _ _ g)

-- ---- each exactly where its conditions hold
module _ {J : Judges} {S : Setting} {b : List ℕ} where
  fourteen-exactly : End J S b → (draw_in J S b ≡ Err TooFew) ↔ (length (accepted_dealers J S b) < S.t)
  fourteen-exactly (fourteen l e) = (λ h. l, λ h. e)
  fourteen-exactly (thirteen l s u e) = (λ h. absurd (false-true (cc)), λ h. absurd (omega arith))
  fourteen-exactly (drawn l n e) = (λ h. absurd (false-true (cc)), λ h. absurd (omega arith))
  fourteen-exactly (added l s u e) = (λ h. absurd (false-true (cc)), λ h. absurd (omega arith))

  thirteen-exactly : End J S b → (draw_in J S b ≡ Err StillStuck)
      ↔ ((S.t ≤ length (accepted_dealers J S b)) × SomeStuck J S b × (length (added_by J S b) < S.t))
  thirteen-exactly (fourteen l e) = (λ h. absurd (false-true (cc)), λ h. absurd (omega (arith, h.0)))
  thirteen-exactly (thirteen l s u e) = (λ h. (l, s, u), λ h. e)
  thirteen-exactly (drawn l n e) = (λ h. absurd (false-true (cc)), λ h. absurd (n h.1))
  thirteen-exactly (added l s u e) = (λ h. absurd (false-true (cc)), λ h. absurd (omega (arith, h.2)))

  drawn-exactly : End J S b → (v : Element)
      → (draw_in J S b ≡ Ok v) ↔ ((S.t ≤ length (accepted_dealers J S b)) × (DrawnBySecrets J S b v ⊎ DrawnByAdded J S b v))
  drawn-exactly (fourteen l e) v = (λ h. absurd (false-true (cc)), λ h. absurd (omega (arith, h.0)))
  drawn-exactly (thirteen l s u e) v = (λ h. absurd (false-true (cc)), λ h. absurd (⊎_elim (λ d. d.0 s) (λ a. omega (arith, a.1)) h.1))
  drawn-exactly (drawn l n e) v = (
    λ h. (l, inl (n, cc)),
    λ h. e ∙ ⊎_elim (λ d j. Ok (record { 0 = sym d.1 j })) (λ a. absurd (n a.0)) h.1,
  )
  drawn-exactly (added l s u e) v = (
    λ h. (l, inr (s, u, cc)),
    λ h. e ∙ ⊎_elim (λ d. absurd (d.0 s)) (λ a j. Ok (record { 0 = sym a.2 j })) h.1,
  )

pub end-rules : EndRules
end-rules J S P b m =
    let e = end_of J S P b m in
    record {
      count = count-is J S P b m;
      fourteen = fourteen-exactly e;
      thirteen = thirteen-exactly e;
      drawn = drawn-exactly e;
      lowest-first = shares-ascend J (reached S b m) added_form (multiplied J S b Y_in);
    }
