-- How the secret of a dealing came. The opening that the search finds is the dealer's only one, so it is right exactly if some opening
-- of his is.
use mathlib.Core.Path.{◌≡◌, refl, sym, ap, ◌∙◌}
use mathlib.Core.Bool.{Bool, true, false}
use mathlib.Core.List.{List}
use mathlib.Core.Logic.{◌↔◌}
use Prim.Native.Nat.{ℕ, ◌<◌, ◌≤◌}
use native.Mathlib.Omega.{arith}
use borrow.Author.Tests.{lt-ltb, ltb-true, leb-true, leb-false}
use lib.ListN.{length, take}
use lib.Dec.{leb, ltb}
use Rattle.std.specs.Prelude.{is_ok}
use Rattle.words.specs.Bytes.{records_in, record_at}
use Rattle.words.proofs.Tests.{false-true, and-true, true-and, pick_true, pick-false}
use Rattle.words.proofs.Checks.{is-value}
use Rattle.group.specs.declared.Element.{Element}
use Rattle.sharing.specs.Answer.{opening_in}
use Rattle.sharing.specs.declared.Setting.{Setting}
use Rattle.records.specs.Layout.{opening_kind, u_of}
use Rattle.board.specs.Board.{opening_place}
use Rattle.board.proofs.Order.{Reached, shapes, sorted}
use Rattle.board.proofs.Places.{at_true, true-at, record_is, only-record}
use Rattle.verdicts.specs.Shares.{Judges, recovered_from, from_lowest}
use Rattle.verdicts.specs.Verdict.{commitments_of, shares_by, secret_from, from_shares, is_opened, secret_by}
use Rattle.verdicts.specs.declared.Secret.TheVariants.{Opened, Recovered, Stuck}
use Rattle.demand3.specs.Claims.{RightlyOpened, power_of_h}

-- ---- the opening
module _ {S : Setting} {b : List ℕ} (F : Reached S b) (d : ℕ) where
  only-opening : (o : RightlyOpened S b d) → o.at ≡ opening_place b d
  only-opening o =
      only-record (sorted S b F.form) opening_kind d 0 o.at o.inside
      (true-at (record_at b o.at) opening_kind d 0 o.kind o.dealer ((shapes S b F.form o.at o.inside).opening o.kind))

  opened-right : is_opened S b d ≡ true → RightlyOpened S b d
  unfolding is_opened
  opened-right e =
      let s = and-true (ltb (opening_place b d) (records_in b)) _ e in
      let h = ltb-true (opening_place b d) (records_in b) s.0 in
      let k = at_true (record_at b (opening_place b d)) opening_kind d 0 ((record_is b opening_kind d 0).here (omega arith)) in
      record { at = opening_place b d; inside = h; kind = k.0; dealer = k.1; right = (is-value _ s.1).1 }

  right-opened : RightlyOpened S b d → is_opened S b d ≡ true
  unfolding is_opened
  right-opened o =
      let e = only-opening o in
      true-and (ltb (opening_place b d) (records_in b)) _ (lt-ltb (opening_place b d) (records_in b) (omega (arith, o.inside)))
      (ap (λ (i : ℕ). is_ok (opening_in S (commitments_of S b d) (u_of (record_at b i)))) (sym e) ∙ ap is_ok o.right)

-- ---- the three sources of a secret
pub data Source (J : Judges) (S : Setting) (b : List ℕ) (d : ℕ) : Type 0 where
  opened : (o : RightlyOpened S b d) → secret_by J S b d ≡ Opened (record { 0 = power_of_h S.group (u_of (record_at b o.at)) }) → Source J S b d
  recovers : (RightlyOpened S b d → ⊥) → S.t ≤ length (shares_by J S b d)
      → secret_by J S b d ≡ Recovered (record { 0 = recovered_from S.group b (take S.t (shares_by J S b d)) }) → Source J S b d
  stuck : (RightlyOpened S b d → ⊥) → length (shares_by J S b d) < S.t → secret_by J S b d ≡ Stuck → Source J S b d

module _ (J : Judges) {S : Setting} {b : List ℕ} (F : Reached S b) (d : ℕ) where
  pub source_of : Source J S b d
  unfolding secret_by from_shares from_lowest opened-right
  source_of = by_tests (is_opened S b d) (leb S.t (length (shares_by J S b d))) refl refl
    where
      by_tests : (x y : Bool) → is_opened S b d ≡ x → leb S.t (length (shares_by J S b d)) ≡ y → Source J S b d
      by_tests true y e f = opened (opened-right F d e) (pick_true (is_opened S b d) _ _ e)
      by_tests false false e f =
          stuck (λ o. false-true (sym e ∙ right-opened F d o)) (leb-false S.t (length (shares_by J S b d)) f)
          (pick-false (is_opened S b d) _ _ e ∙ ap secret_from (pick-false (leb S.t (length (shares_by J S b d))) _ _ f))
      by_tests false true e f =
          recovers (λ o. false-true (sym e ∙ right-opened F d o)) (leb-true S.t (length (shares_by J S b d)) f)
          (pick-false (is_opened S b d) _ _ e ∙ ap secret_from (pick_true (leb S.t (length (shares_by J S b d))) _ _ f))

  -- ---- each exactly where its conditions hold
  pub opened-exactly : Source J S b d → (v : Element)
      → (secret_by J S b d ≡ Opened v) ↔ ((o : RightlyOpened S b d) × (v.0 ≡ power_of_h S.group (u_of (record_at b o.at))))
  opened-exactly (opened o e) v = (
    λ h. (o, cc),
    λ h.
        let s : power_of_h S.group (u_of (record_at b o.at)) ≡ v.0 =
        ap (λ (i : ℕ). power_of_h S.group (u_of (record_at b i))) (only-opening F d o ∙ sym (only-opening F d h.0)) ∙ sym h.1 in
        e ∙ (λ j. Opened (record { 0 = s j })),
  )
  opened-exactly (recovers n l e) v = (λ h. absurd (false-true (cc)), λ h. absurd (n h.0))
  opened-exactly (stuck n l e) v = (λ h. absurd (false-true (cc)), λ h. absurd (n h.0))

  pub recovers-exactly : Source J S b d → (v : Element) → (secret_by J S b d ≡ Recovered v)
      ↔ ((RightlyOpened S b d → ⊥) × (S.t ≤ length (shares_by J S b d)) × (v.0 ≡ recovered_from S.group b (take S.t (shares_by J S b d))))
  recovers-exactly (opened o e) v = (λ h. absurd (false-true (cc)), λ h. absurd (h.0 o))
  recovers-exactly (recovers n l e) v = (λ h. (n, l, cc), λ h. e ∙ (λ j. Recovered (record { 0 = sym h.2 j })))
  recovers-exactly (stuck n l e) v = (λ h. absurd (false-true (cc)), λ h. absurd (omega (arith, h.1)))

  pub stuck-exactly : Source J S b d → (secret_by J S b d ≡ Stuck) ↔ ((RightlyOpened S b d → ⊥) × (length (shares_by J S b d) < S.t))
  stuck-exactly (opened o e) = (λ h. absurd (false-true (cc)), λ h. absurd (h.0 o))
  stuck-exactly (recovers n l e) = (λ h. absurd (false-true (cc)), λ h. absurd (omega (arith, h.1)))
  stuck-exactly (stuck n l e) = (λ h. (n, l), λ h. e)
