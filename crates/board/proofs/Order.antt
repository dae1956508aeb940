-- What the checks of form and order settle: every record is one of the table, of the round, and above those before it. And what refuses a
-- record of another round.
use mathlib.Core.Path.{◌≡◌, refl, sym, ap, ◌∙◌, subst}
use mathlib.Core.Bool.{Bool, true, false, ◌&&◌}
use mathlib.Core.List.{List}
use mathlib.Core.Logic.{inl, inr, ⊎_elim}
use Prim.Native.Nat.{ℕ, zero, suc, ◌+◌, ◌-◌, ◌%◌, ◌<◌, ◌≤◌}
use native.Mathlib.Nat.{eq-or-lt_of_le, le_of_suc-le-suc, not-suc-le-zero}
use native.Mathlib.Omega.{arith}
use borrow.Author.Tests.{ltb-true, leb-true, eqb-true, lt-ltb, eq-eqb, ne_eqb}
use lib.ListN.{length}
use lib.Dec.{ltb, eqb}
use Rattle.words.specs.Choice.{pick}
use Rattle.words.specs.Lists.{all}
use Rattle.words.specs.Checks.{Met, FirstUnmet}
use Rattle.words.specs.Bytes.{records_in, record_at, agrees}
use Rattle.words.specs.declared.Record.{Record}
use Rattle.words.proofs.Stages.{met-both, rest-first}
use Rattle.words.proofs.Tests.{false-true, and-true, pick-false}
use Rattle.sharing.specs.Setting.{is_member, members}
use Rattle.sharing.specs.declared.Setting.{Setting}
use Rattle.sharing.proofs.EachMember.{member-exactly}
use Rattle.records.specs.Layout.{key_kind, line_kind, opening_kind, share_kind, added_kind, dealer_of, member_of, round_of}
use Rattle.records.specs.Layout.{is_key_record, is_line_record, is_opening_record, is_share_record}
use Rattle.records.specs.Keys.{key_checks}
use Rattle.board.specs.Board.{is_shaped, is_below, is_above, in_order, one_record_checks, record_checks, length_checks, form_checks, has_key, keys_in, board_key_checks, board_checks}
use Rattle.board.specs.Sorted.{Sorted}
use Rattle.board.specs.Claims.{RecordsOfRound, BoardOfOtherRound}
use Rattle.words.specs.declared.refusal.Refusal.TheVariants.{OtherRound}

-- ---- the checks before verdicts, taken apart
pub record Reached (S : Setting) (b : List ℕ) : Type 0 where
  pub form : Met (form_checks S b)
  pub keys : all (has_key b) (members S.n) ≡ true
  pub proper : Met (key_checks S.group (keys_in S.n b))

pub reached : (S : Setting) (b : List ℕ) → Met (board_checks S b) → Reached S b
unfolding board_checks board_key_checks
reached S b m =
    let s = met-both (form_checks S b) (board_key_checks S b) m in
    record { form = s.0; keys = s.1.0; proper = s.1.1 }

-- ---- one record
-- what its kind says of it
pub record Shaped (n : ℕ) (r : Record) : Type 0 where
  pub known : 0 < r.w0
  pub kind : r.w0 ≤ added_kind
  pub dealer : dealer_of r ≤ n
  pub member : member_of r ≤ n
  pub key : r.w0 ≡ key_kind → dealer_of r ≡ 0
  pub line : r.w0 ≡ line_kind → (is_line_record r ≡ true) × (1 ≤ dealer_of r) × (1 ≤ member_of r)
  pub opening : r.w0 ≡ opening_kind → member_of r ≡ 0
  pub share : r.w0 ≡ share_kind → (is_share_record share_kind r ≡ true) × (1 ≤ dealer_of r) × (1 ≤ member_of r)
  pub added : r.w0 ≡ added_kind → (is_share_record added_kind r ≡ true) × (dealer_of r ≡ 0) × (1 ≤ member_of r)

module _ (n : ℕ) (r : Record) where
  -- a record that agrees with a layout has its kind, dealer and member
  addressed : (s : Record) → agrees r s ≡ true → (r.w0 ≡ s.w0) × (r.w1 ≡ s.w1) × (r.w2 ≡ s.w2)
  unfolding agrees
  addressed s e =
      let k = and-true (eqb r.w0 s.w0) _ e in
      let d = and-true (eqb r.w1 s.w1) _ k.1 in
      let m = and-true (eqb r.w2 s.w2) _ d.1 in
      (eqb-true _ _ k.0, eqb-true _ _ d.0, eqb-true _ _ m.0)

  key-shaped : is_key_record r ≡ true → is_member n r.w2 ≡ true → Shaped n r
  key-shaped e h =
      let a = addressed _ e in
      let m = (member-exactly n r.w2).0 h in
      record { known = omega (arith, a.0); kind = omega (arith, a.0); dealer = omega (arith, a.1); member = m.1; key = λ o. a.1; line = λ o. absurd (omega (arith, a.0)); opening = λ o. absurd (omega (arith, a.0)); share = λ o. absurd (omega (arith, a.0)); added = λ o. absurd (omega (arith, a.0)) }

  opening-shaped : is_opening_record r ≡ true → is_member n r.w1 ≡ true → Shaped n r
  opening-shaped e h =
      let a = addressed _ e in
      let d = (member-exactly n r.w1).0 h in
      record { known = omega (arith, a.0); kind = omega (arith, a.0); dealer = d.1; member = omega (arith, a.2); key = λ o. absurd (omega (arith, a.0)); line = λ o. absurd (omega (arith, a.0)); opening = λ o. a.2; share = λ o. absurd (omega (arith, a.0)); added = λ o. absurd (omega (arith, a.0)) }

  -- a line or a share: dealer and member from 1 to n
  module _ (h : is_member n r.w1 && is_member n r.w2 ≡ true) where
    both : ((1 ≤ r.w1) × (r.w1 ≤ n)) × ((1 ≤ r.w2) × (r.w2 ≤ n))
    both = let a = and-true (is_member n r.w1) (is_member n r.w2) h in ((member-exactly n r.w1).0 a.0, (member-exactly n r.w2).0 a.1)

    line-shaped : is_line_record r ≡ true → Shaped n r
    line-shaped e =
        let a = addressed _ e in
        record { known = omega (arith, a.0); kind = omega (arith, a.0); dealer = both.0.1; member = both.1.1; key = λ o. absurd (omega (arith, a.0)); line = λ o. (e, both.0.0, both.1.0); opening = λ o. absurd (omega (arith, a.0)); share = λ o. absurd (omega (arith, a.0)); added = λ o. absurd (omega (arith, a.0)) }

    share-shaped : is_share_record share_kind r ≡ true → Shaped n r
    share-shaped e =
        let a = addressed _ e in
        record { known = omega (arith, a.0); kind = omega (arith, a.0); dealer = both.0.1; member = both.1.1; key = λ o. absurd (omega (arith, a.0)); line = λ o. absurd (omega (arith, a.0)); opening = λ o. absurd (omega (arith, a.0)); share = λ o. (e, both.0.0, both.1.0); added = λ o. absurd (omega (arith, a.0)) }

  added-shaped : is_share_record added_kind r ≡ true → eqb r.w1 0 && is_member n r.w2 ≡ true → Shaped n r
  added-shaped e h =
      let a = addressed _ e in
      let s = and-true (eqb r.w1 0) _ h in
      let d = eqb-true r.w1 0 s.0 in
      let m = (member-exactly n r.w2).0 s.1 in
      record { known = omega (arith, a.0); kind = omega (arith, a.0); dealer = omega (arith, d); member = m.1; key = λ o. absurd (omega (arith, a.0)); line = λ o. absurd (omega (arith, a.0)); opening = λ o. absurd (omega (arith, a.0)); share = λ o. absurd (omega (arith, a.0)); added = λ o. (e, d, m.0) }

  shaped-true : is_shaped n r ≡ true → Shaped n r
  unfolding is_shaped
  shaped-true e =
      pick-cases (is_key_record r) _ _ e key-shaped (λ x.
      pick-cases (is_line_record r) _ _ x (λ f h. line-shaped h f) (λ y.
      pick-cases (is_opening_record r) _ _ y opening-shaped (λ z.
      pick-cases (is_share_record share_kind r) _ _ z (λ f h. share-shaped h f) (λ v.
      pick-cases (is_share_record added_kind r) _ _ v added-shaped (λ w. absurd (false-true w))))))
    where
      pick-cases : {P : Type 0} (b x y : Bool) → pick b x y ≡ true → (b ≡ true → x ≡ true → P) → (y ≡ true → P) → P
      pick-cases true x y e f g = f refl e
      pick-cases false x y e f g = g e

-- ---- the order of addresses
pub data Below (r : Record) (k d m : ℕ) : Type 0 where
  by_kind : r.w0 < k → Below r k d m
  by-dealer : r.w0 ≡ k → r.w1 < d → Below r k d m
  by-member : r.w0 ≡ k → r.w1 ≡ d → r.w2 < m → Below r k d m

module _ (r : Record) (k d m : ℕ) where
  pub below_true : is_below r k d m ≡ true → Below r k d m
  unfolding is_below
  below_true = by-test (eqb r.w0 k) (eqb r.w1 d) refl refl
    where
      by-test : (x y : Bool) → eqb r.w0 k ≡ x → eqb r.w1 d ≡ y
          → pick x (pick y (ltb r.w2 m) (ltb r.w1 d)) (ltb r.w0 k) ≡ true → Below r k d m
      by-test true true e f t = by-member (eqb-true r.w0 k e) (eqb-true r.w1 d f) (ltb-true r.w2 m t)
      by-test true false e f t = by-dealer (eqb-true r.w0 k e) (ltb-true r.w1 d t)
      by-test false y e f t = by_kind (ltb-true r.w0 k t)

  pub true_below : Below r k d m → is_below r k d m ≡ true
  unfolding is_below
  true_below (by_kind h) = simp (ne_eqb r.w0 k (λ e. omega arith)) (lt-ltb r.w0 k h)
  true_below (by-dealer e h) = simp (eq-eqb r.w0 k e, ne_eqb r.w1 d (λ f. omega arith)) (lt-ltb r.w1 d h)
  true_below (by-member e f h) = simp (eq-eqb r.w0 k e, eq-eqb r.w1 d f) (lt-ltb r.w2 m h)

  -- of one kind and dealer the members decide
  pub below-member : Below r k d m → r.w0 ≡ k → r.w1 ≡ d → r.w2 < m
  below-member (by_kind h) e f = absurd (omega arith)
  below-member (by-dealer g h) e f = absurd (omega arith)
  below-member (by-member g i h) e f = h

-- what stands before the first record: no kind is 0, so every record of the table is above it
abbrev pub no_record : Record
no_record = record { w0 = 0; w1 = 0; w2 = 0; w3 = 0; w4 = 0; w5 = 0; w6 = 0; w7 = 0 }

pub shaped-above : (n : ℕ) (r : Record) → is_shaped n r ≡ true → is_above no_record r ≡ true
shaped-above n r e = true_below no_record r.w0 r.w1 r.w2 (by_kind (shaped-true n r e).known)

below_both : {r s : Record} {k d m : ℕ} → Below r s.w0 s.w1 s.w2 → Below s k d m → Below r k d m
below_both (by_kind h) (by_kind l) = by_kind (omega arith)
below_both (by_kind h) (by-dealer e l) = by_kind (omega arith)
below_both (by_kind h) (by-member e f l) = by_kind (omega arith)
below_both (by-dealer a h) (by_kind l) = by_kind (omega arith)
below_both (by-dealer a h) (by-dealer e l) = by-dealer (omega arith) (omega arith)
below_both (by-dealer a h) (by-member e f l) = by-dealer (omega arith) (omega arith)
below_both (by-member a c h) (by_kind l) = by_kind (omega arith)
below_both (by-member a c h) (by-dealer e l) = by-dealer (omega arith) (omega arith)
below_both (by-member a c h) (by-member e f l) = by-member (omega arith) (omega arith) (omega arith)

-- what is above r and below an address has r below that address
pub below-trans : (r s : Record) (k d m : ℕ) → is_above r s ≡ true → is_below s k d m ≡ true → is_below r k d m ≡ true
below-trans r s k d m e f = true_below r k d m (below_both (below_true r s.w0 s.w1 s.w2 e) (below_true s k d m f))

-- of two records of one kind and dealer the later has the higher member
pub members-rise : {b : List ℕ} → Sorted b → (i j : ℕ) → i < j → j < records_in b
    → (record_at b i).w0 ≡ (record_at b j).w0 → (record_at b i).w1 ≡ (record_at b j).w1 → (record_at b i).w2 < (record_at b j).w2
members-rise {b} S i j h l =
    let s = record_at b j in
    below-member (record_at b i) s.w0 s.w1 s.w2 (below_true (record_at b i) s.w0 s.w1 s.w2 (S.ascends i j h l))

-- every record but the first is in order exactly if it is above the one before
pub order-next : (b : List ℕ) (i : ℕ) → in_order b (suc i) ≡ is_above (record_at b i) (record_at b (suc i))
order-next b i =
    let p : suc i - 1 ≡ i = omega arith in
    pick-false (eqb (suc i) 0) true _ (ne_eqb (suc i) 0 (λ e. omega arith)) ∙ ap (λ (j : ℕ). is_above (record_at b j) (record_at b (suc i))) p

-- ---- every record
module _ (S : Setting) (b : List ℕ) where
  -- its checks are met
  each-met : (i m : ℕ) → Met (record_checks S b i m) → (x : ℕ) → i ≤ x → x < i + m → Met (one_record_checks S b x)
  each-met i zero h x l u = absurd (omega arith)
  each-met i (suc m) h x l u =
      let s = met-both (one_record_checks S b i) (record_checks S b (suc i) m) h in
      ⊎_elim (λ w. subst (λ (y : ℕ). Met (one_record_checks S b y)) w s.0) (λ w. each-met (suc i) m s.1 x w (omega arith)) (eq-or-lt_of_le l)

  module _ (form : Met (form_checks S b)) where
    pub record-met : (i : ℕ) → i < records_in b → Met (one_record_checks S b i)
    unfolding form_checks
    record-met i h = each-met 0 (records_in b) form.1 i (omega arith) (omega arith)

    pub few-records : records_in b ≤ 2048
    unfolding form_checks
    few-records = leb-true _ _ (and-true (eqb (length b % 32) 0) _ form.0).1

    pub shapes : (i : ℕ) → i < records_in b → Shaped S.n (record_at b i)
    shapes i h = shaped-true S.n (record_at b i) (record-met i h).0

    pub of-round : (i : ℕ) → i < records_in b → round_of (record_at b i) ≡ S.round
    of-round i h = eqb-true (round_of (record_at b i)) S.round (record-met i h).1.0

    next-above : (i : ℕ) → suc i < records_in b → is_above (record_at b i) (record_at b (suc i)) ≡ true
    next-above i h = sym (order-next b i) ∙ (record-met (suc i) h).1.1.0

    above : (i j : ℕ) → i < j → j < records_in b → is_above (record_at b i) (record_at b j) ≡ true
    above i zero h l = absurd (not-suc-le-zero h)
    above i (suc j) h l =
        let s = record_at b (suc j) in
        ⊎_elim
        (λ w. ap (λ (x : ℕ). is_above (record_at b x) s) w ∙ next-above j l)
        (λ w. below-trans (record_at b i) (record_at b j) s.w0 s.w1 s.w2 (above i j w (omega arith)) (next-above j l))
        (eq-or-lt_of_le (le_of_suc-le-suc h))

    pub sorted : Sorted b
    sorted = record { ascends = above }

-- ---- rounds
pub records-of-round : RecordsOfRound
records-of-round = of-round

-- where the records before i are met, a record i that is shaped and of another round is the first that is not
other-round : (S : Setting) (b : List ℕ) (m i j : ℕ) → j < m → Met (record_checks S b i j) → is_shaped S.n (record_at b (i + j)) ≡ true
    → (round_of (record_at b (i + j)) ≡ S.round → ⊥) → FirstUnmet OtherRound (record_checks S b i m)
other-round S b zero i j h k e n = absurd (not-suc-le-zero h)
other-round S b (suc m) i zero h k e n =
    let same : record_at b (i + 0) ≡ record_at b i = let z : i + 0 ≡ i = omega arith in ap (record_at b) z in
    inr (ap (is_shaped S.n) (sym same) ∙ e, inl (ne_eqb (round_of (record_at b i)) S.round (λ f. n (ap round_of same ∙ f)), refl))
other-round S b (suc m) i (suc j) h k e n =
    let step : suc i + j ≡ i + suc j = omega arith in
    let s = met-both (one_record_checks S b i) (record_checks S b (suc i) j) k in
    rest-first (one_record_checks S b i) (record_checks S b (suc i) m) OtherRound s.0
    (other-round S b m (suc i) j (le_of_suc-le-suc h) s.1 (ap (λ (x : ℕ). is_shaped S.n (record_at b x)) step ∙ e)
    (λ f. n (ap (λ (x : ℕ). round_of (record_at b x)) (sym step) ∙ f)))

pub board-of-other-round : BoardOfOtherRound
unfolding form_checks
board-of-other-round S b i h m e n =
    let s = met-both (length_checks b) (record_checks S b 0 i) m in
    let same : record_at b (0 + i) ≡ record_at b i = let z : 0 + i ≡ i = omega arith in ap (record_at b) z in
    rest-first (length_checks b) (record_checks S b 0 (records_in b)) OtherRound s.0
    (other-round S b (records_in b) 0 i h s.1 (ap (is_shaped S.n) same ∙ e) (λ f. n (ap round_of (sym same) ∙ f)))
