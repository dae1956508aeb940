-- Two boards end in the same draw. On each, the secret of an accepted dealing is h to its polynomial's value at 0: a right opening
-- is that value, and the t lowest members with accepted shares are a quorum; or true added shares recover h to the value at 0 of the
-- polynomials' sum, which is the product of the secrets. The value at 0 is the commitments' alone.
use mathlib.Core.Path.{◌≡◌, refl, sym, ap, ◌∙◌, subst}
use mathlib.Core.Bool.{Bool, true}
use mathlib.Core.List.{List}
use mathlib.Core.Logic.{inl, inr, ⊎_elim}
use Prim.Native.Nat.{ℕ, ◌≤◌, ◌<◌}
use native.Mathlib.Omega.{arith}
use lib.ListN.{length, take}
use Rattle.std.specs.Prelude.{Ok}
use Rattle.words.specs.Lists.{All, map}
use Rattle.words.specs.Checks.{Met}
use Rattle.words.specs.Bytes.{record_at}
use Rattle.words.proofs.Lists.{All-to, map_same}
use Rattle.words.proofs.Stages.{front-outcome}
use Rattle.sharing.specs.Setting.{ProperSetting, setting_in, renumbered, round_checks, judged, members}
use Rattle.sharing.specs.Carried.{Carries, secret_of}
use Rattle.sharing.specs.declared.Round.{Round}
use Rattle.sharing.specs.declared.Setting.{Setting}
use Rattle.sharing.specs.Sum.{product_of}
use Rattle.sharing.proofs.Rounds.{round-proper, of-one-group, renumbered-proper, renumbered-carries, judged-in}
use Rattle.sharing.proofs.Theorems.{opening-exactly, secret-of-commitments}
use Rattle.sharing.proofs.EachMember.{each-members}
use Rattle.sharing.proofs.Sums.{sum_carries, sum-secret}
use Rattle.records.specs.Layout.{u_of}
use Rattle.lines.specs.Lines.{v_in, vs_in, Y_in}
use Rattle.share.specs.Share.{opened_form, added_form}
use Rattle.board.specs.Board.{lines_of}
use Rattle.board.proofs.Searches.{filter-all, filter_same}
use Rattle.board.proofs.Order.{Reached, reached}
use Rattle.verdicts.specs.Shares.{Judges, judges, recovered_from}
use Rattle.verdicts.specs.Verdict.{is_accepted, commitments_of, encrypted_of, shares_by, secret_by}
use Rattle.verdicts.specs.Added.{accepted_dealers, multiplied, added_by}
use Rattle.verdicts.specs.Draw.{secret_value, board_draw_checks, draw_value, draw_in, draw_outcome}
use Rattle.verdicts.specs.declared.Secret.TheVariants.{Stuck}
use Rattle.demand3.specs.Claims.{power_of_h, SomeStuck, Recoverable, AllRecoverable, secrets_of, sum_on, AllCarried, AddedTrue, EitherTrue, Asked, TwoBoards, SameDraw, DrawByRound}
use Rattle.demand3.specs.Added.{SumCarriesBoard, AddedDraw, SameDrawEither}
use Rattle.demand3.proofs.Serving.{serving, serving-shares, serving-recover}
use Rattle.demand3.proofs.Sources.{Source, opened, recovers, stuck, source_of, stuck-exactly}
use Rattle.demand3.proofs.VerdictCases.{verdict-rules}
use Rattle.demand3.proofs.Endings.{end-rules}

-- ---- one recoverable dealing
module _ {J : Judges} {S : Setting} (P : ProperSetting S) {b : List ℕ} (F : Reached S b) {d : ℕ} {f : List ℕ} (A : Recoverable J S b d f) where
  -- the shares that serve are true, so they recover h to the secret
  shares-recover : S.t ≤ length (shares_by J S b d) → recovered_from S.group b (take S.t (shares_by J S b d)) ≡ power_of_h S.group (secret_of S f)
  shares-recover l =
      let Ys = encrypted_of S b d in
      serving-recover J F (opened_form d) Ys (inl refl) l P f A.carries.polynomial
      (All-to (serving J F (opened_form d) Ys) (λ i s. A.true-shares i s.0 s.1) (serving-shares J F (opened_form d) Ys))

  secret-is : Source J S b d → secret_value (secret_by J S b d) ≡ power_of_h S.group (secret_of S f)
  secret-is (opened o e) =
      let s = (opening-exactly S P f (commitments_of S b d) A.carries (u_of (record_at b o.at))).0 o.right in
      ap secret_value e ∙ ap (power_of_h S.group) s
  secret-is (recovers n l e) = ap secret_value e ∙ shares-recover l
  secret-is (stuck n l e) = absurd (⊎_elim n (λ h. omega arith) A.revealed)

  not_stuck : secret_by J S b d ≡ Stuck → ⊥
  not_stuck e = let s = (stuck-exactly J F d (source_of J F d)).0 e in ⊎_elim s.0 (λ l. omega (arith, s.1)) A.revealed

-- ---- the accepted dealings of a board
module _ (J : Judges) (S : Setting) (b : List ℕ) where
  accepted-within : All (λ d. ((1 ≤ d) × (d ≤ S.n)) × (is_accepted J S b d ≡ true)) (accepted_dealers J S b)
  accepted-within =
      filter-all (is_accepted J S b) (λ d. (1 ≤ d) × (d ≤ S.n)) (members S.n) (each-members (λ d. (1 ≤ d) × (d ≤ S.n)) S.n (λ i h l. (h, l)))

  carried-each : {f : ℕ → List ℕ} → AllCarried J S b f → All (λ d. Carries S (f d) (commitments_of S b d)) (accepted_dealers J S b)
  carried-each K = All-to (accepted_dealers J S b) (λ d s. K d s.0.0 s.0.1 s.1) accepted-within

pub sum-carries-board : SumCarriesBoard
unfolding multiplied vs_in
sum-carries-board J S P b f K = sum_carries S P (accepted_dealers J S b) f (λ d. v_in (lines_of b d)) (carried-each J S b K)

-- ---- a board that ends by added shares
module _ (J : Judges) (S : Setting) (P : ProperSetting S) (b : List ℕ) (f : ℕ → List ℕ) (A : AddedTrue J S b f) where
  added-value : recovered_from S.group b (take S.t (added_by J S b)) ≡ secrets_of J S b f
  added-value =
      serving-recover J (reached S b A.reached) added_form (multiplied J S b Y_in) (inr refl) A.enough P (sum_on J S b f)
      (sum-carries-board J S P b f A.carried).polynomial A.true-shares
      ∙ sum-secret S P (accepted_dealers J S b) f
      (All-to (accepted_dealers J S b) (λ d k. k.polynomial) (carried-each J S b A.carried))

  added-ends : S.t ≤ length (accepted_dealers J S b) → draw_in J S b ≡ Ok (record { 0 = secrets_of J S b f })
  added-ends l =
      ((end-rules J S P b A.reached).drawn (record { 0 = secrets_of J S b f })).1 (l, inr (A.stuck, A.enough, sym added-value))

pub added-draw : AddedDraw
added-draw = added-ends

-- ---- a board that ends by separate secrets
module _ (J : Judges) (S : Setting) (P : ProperSetting S) (b : List ℕ) (f : ℕ → List ℕ) (A : AllRecoverable J S b f) where
  F : Reached S b
  F = reached S b A.reached

  secrets : map (λ d. secret_value (secret_by J S b d)) (accepted_dealers J S b) ≡ map (λ d. power_of_h S.group (secret_of S (f d))) (accepted_dealers J S b)
  secrets =
      map_same (λ d. secret_value (secret_by J S b d)) (λ d. power_of_h S.group (secret_of S (f d))) (accepted_dealers J S b)
      (All-to (accepted_dealers J S b)
      (λ d s. secret-is P F (A.recoverable d s.0.0 s.0.1 s.1) (source_of J F d))
      (accepted-within J S b))

  none_stuck : SomeStuck J S b → ⊥
  none_stuck s =
      let a = ((verdict-rules J S P b A.reached s.0).accepted Stuck).0 s.3 in
      not_stuck P F (A.recoverable s.0 s.1 s.2 a.0) a.1

  secrets-end : S.t ≤ length (accepted_dealers J S b) → draw_in J S b ≡ Ok (record { 0 = secrets_of J S b f })
  secrets-end l =
      ((end-rules J S P b A.reached).drawn (record { 0 = secrets_of J S b f })).1 (l, inl (none_stuck, ap (product_of S.group.p) (sym secrets)))

-- ---- either
module _ (J : Judges) (S : Setting) (P : ProperSetting S) (b : List ℕ) (f : ℕ → List ℕ) (A : EitherTrue J S b f) where
  all-carried : AllCarried J S b f
  all-carried = ⊎_elim (λ r d h u a. (r.recoverable d h u a).carries) (λ t. t.carried) A

  ends-in : S.t ≤ length (accepted_dealers J S b) → draw_in J S b ≡ Ok (record { 0 = secrets_of J S b f })
  ends-in = ⊎_elim (secrets-end J S P b f) (added-ends J S P b f) A

-- ---- both boards, in the setting S and in T, which is S under other numbers and either rule
module _ (J : Judges) (S : Setting) (P : ProperSetting S) (number round : ℕ) (whole : Bool) (low : number < 256) where
  abbrev T : Setting
  T = renumbered number round whole S

  either-renumbered : TwoBoards EitherTrue J S T (draw_in J S) (draw_in J T)
  either-renumbered b c f₁ f₂ A C M l = (
    ends-in J S P b f₁ A l,
    ends-in J T P' c f₂ C (subst (λ (ds : List ℕ). S.t ≤ length ds) same l) ∙ (λ j. Ok (record { 0 = sym other j })),
  )
    where
      P' : ProperSetting T
      P' = renumbered-proper number round whole P low

      same : accepted_dealers J S b ≡ accepted_dealers J T c
      same =
          filter_same (is_accepted J S b) (is_accepted J T c) (members S.n)
          (each-members (λ d. is_accepted J S b d ≡ is_accepted J T c d) S.n M.dealers)

      secret : (d : ℕ) → 1 ≤ d → d ≤ S.n → is_accepted J S b d ≡ true → secret_of S (f₁ d) ≡ secret_of S (f₂ d)
      secret d h u a =
          secret-of-commitments S P (f₁ d) (f₂ d) (commitments_of S b d) (all-carried J S P b f₁ A d h u a)
          (subst (Carries S (f₂ d)) (sym (M.commitments d h u a)) (renumbered-carries number round whole (all-carried J T P' c f₂ C d h u (sym (M.dealers d h u) ∙ a))))

      other : secrets_of J S b f₁ ≡ secrets_of J T c f₂
      other =
          let maps = map_same (λ d. power_of_h S.group (secret_of S (f₁ d))) (λ d. power_of_h S.group (secret_of S (f₂ d))) (accepted_dealers J S b)
          (All-to (accepted_dealers J S b) (λ d s. ap (power_of_h S.group) (secret d s.0.0 s.0.1 s.1)) (accepted-within J S b)) in
          ap (product_of S.group.p) (maps ∙ ap (map (λ d. power_of_h S.group (secret_of S (f₂ d)))) same)

either : (J : Judges) → SameDraw EitherTrue J
either J S T P Q E =
    subst (λ (X : Setting). TwoBoards EitherTrue J S X (draw_in J S) (draw_in J X)) (of-one-group S T E)
    (either-renumbered J S P T.number T.round T.whole_digest Q.number-byte)

-- ---- what is asked of both, where it is at least that
module _ {A : Asked} (to : (J : Judges) (S : Setting) (b : List ℕ) (f : ℕ → List ℕ) → A J S b f → EitherTrue J S b f) (J : Judges) where
  one-group : SameDraw A J
  one-group S T P Q E b c f₁ f₂ K L = either J S T P Q E b c f₁ f₂ (to J S b f₁ K) (to J T c f₂ L)

  draw-in : (T : List ℕ) (R : Round) → Met (round_checks T R) → (b : List ℕ) → draw_outcome J T R b ≡ draw_in J (setting_in T R) b
  unfolding draw_outcome draw_in
  draw-in T R m b = judged-in T R (λ S. board_draw_checks J S b) (λ S. draw_value J S b) m

  by-round : DrawByRound A J
  unfolding draw_outcome draw_in judged
  by-round T R =
      record {
        refuses = λ b k u. sym (front-outcome (round_checks T R) (board_draw_checks J (setting_in T R) b) k u (draw_value J (setting_in T R) b));
        proper = round-proper T R;
        draw-in = draw-in T R;
        same-draw = λ m T' R' m' E b c f₁ f₂ K L M l.
            let d = one-group (setting_in T R) (setting_in T' R') (round-proper T R m) (round-proper T' R' m') E b c f₁ f₂ K L M l in
            (draw-in T R m b ∙ d.0, draw-in T' R' m' c ∙ d.1);
      }

-- ---- by separate secrets, as demand 3 has it, and by either
recoverable-either : (J : Judges) (S : Setting) (b : List ℕ) (f : ℕ → List ℕ) → AllRecoverable J S b f → EitherTrue J S b f
recoverable-either J S b f A = inl A

pub same-draw : (J : Judges) → SameDraw AllRecoverable J
same-draw = one-group recoverable-either

pub draw-by-round : (J : Judges) → DrawByRound AllRecoverable J
draw-by-round = by-round recoverable-either

pub same-draw-either : SameDrawEither
same-draw-either =
    let same : (J : Judges) (S : Setting) (b : List ℕ) (f : ℕ → List ℕ) → EitherTrue J S b f → EitherTrue J S b f = λ J S b f A. A in
    record { same-draw = one-group same judges; draw-by-round = by-round same judges }
