-- Places on a board whose records ascend. One law: a record is below an address exactly if it stands before the address's place. So the
-- record with an address stands at its place, and the records of one kind and dealer are the run between two places.
use mathlib.Core.Path.{◌≡◌, refl, sym, ap, ◌∙◌}
use mathlib.Core.Bool.{Bool, true, false, not}
use mathlib.Core.List.{List}
use mathlib.Core.Logic.{⊎_elim}
use Prim.Native.Nat.{ℕ, ◌<◌, ◌≤◌}
use native.Mathlib.Nat.{eq-or-lt_of_le}
use native.Mathlib.Decide.{dec_le}
use native.Mathlib.Omega.{arith}
use borrow.Author.Tests.{ltb-true, lt-ltb, le-ltb, eqb-true, eq-eqb, not-true, not-false}
use lib.Dec.{ltb, eqb}
use Rattle.words.specs.Bytes.{records_in, record_at}
use Rattle.words.specs.declared.Record.{Record}
use Rattle.words.proofs.Tests.{false-true, and-true, true-and, equal-true, true-equal}
use Rattle.board.specs.Board.{is_below, place_of, is_at, record_place}
use Rattle.board.specs.Sorted.{Sorted}
use Rattle.board.proofs.Searches.{First, first_passes, first-low}
use Rattle.board.proofs.Order.{Below, by_kind, by-dealer, by-member, below_true, true_below, below-member, below-trans}

module _ (r : Record) (k d m : ℕ) where
  pub at_true : is_at r k d m ≡ true → (r.w0 ≡ k) × (r.w1 ≡ d) × (r.w2 ≡ m)
  unfolding is_at
  at_true e =
      let s = and-true (eqb r.w0 k) _ e in
      let t = equal-true r.w1 d r.w2 m s.1 in
      (eqb-true r.w0 k s.0, t.0, t.1)

  pub true-at : r.w0 ≡ k → r.w1 ≡ d → r.w2 ≡ m → is_at r k d m ≡ true
  unfolding is_at
  true-at e f g = true-and (eqb r.w0 k) _ (eq-eqb r.w0 k e) (true-equal r.w1 d r.w2 m f g)

-- ---- searches that take any board
module _ (b : List ℕ) (k d m : ℕ) where
  place_is : First (λ i. not (is_below (record_at b i) k d m)) 0 (records_in b) (place_of b k d m)
  unfolding place_of
  place_is = first_passes (λ i. not (is_below (record_at b i) k d m)) 0 (records_in b)

  pub place-within : place_of b k d m ≤ records_in b
  place-within = omega (arith, place_is.upto)

  pub record_is : First (λ i. is_at (record_at b i) k d m) 0 (records_in b) (record_place b k d m)
  unfolding record_place
  record_is = first_passes (λ i. is_at (record_at b i) k d m) 0 (records_in b)

module _ {b : List ℕ} (S : Sorted b) where
  -- ---- the law
  pub placed : (k d m i : ℕ) → i < records_in b → is_below (record_at b i) k d m ≡ ltb i (place_of b k d m)
  placed k d m i h = elim (dec_le p i) [
    | yes w ↦ by-test w (is_below (record_at b i) k d m) refl ∙ sym (le-ltb i p w)
    | no w ↦ not-false (is_below (record_at b i) k d m) ((place_is b k d m).before i (omega arith) (omega arith)) ∙ sym (lt-ltb i p (omega arith))
  ]
    where
      p : ℕ
      p = place_of b k d m

      by-test : p ≤ i → (x : Bool) → is_below (record_at b i) k d m ≡ x → is_below (record_at b i) k d m ≡ false
      by-test w false e = e
      by-test w true e =
          let here : is_below (record_at b p) k d m ≡ false = not-true (is_below (record_at b p) k d m) ((place_is b k d m).here (omega arith)) in
          let low : is_below (record_at b p) k d m ≡ true =
          ⊎_elim (λ v. ap (λ (x : ℕ). is_below (record_at b x) k d m) v ∙ e)
          (λ v. below-trans (record_at b p) (record_at b i) k d m (S.ascends p i v h) e)
          (eq-or-lt_of_le w) in
          absurd (false-true (sym here ∙ low))

  module _ (k d m i : ℕ) (h : i < records_in b) where
    before-place : i < place_of b k d m → Below (record_at b i) k d m
    before-place l = below_true (record_at b i) k d m (placed k d m i h ∙ lt-ltb i (place_of b k d m) l)

    below-place : Below (record_at b i) k d m → i < place_of b k d m
    below-place w = ltb-true i (place_of b k d m) (sym (placed k d m i h) ∙ true_below (record_at b i) k d m w)

  -- ---- the record with an address stands at its place
  module _ (k d m : ℕ) where
    only-place : (i : ℕ) → i < records_in b → is_at (record_at b i) k d m ≡ true → i ≡ place_of b k d m
    only-place i h e =
        let p = place_of b k d m in
        let a = at_true (record_at b i) k d m e in
        elim (dec_le p i) [
          | yes w ↦
              ⊎_elim (λ v. sym v)
              (λ v.
              let low : is_below (record_at b p) k d m ≡ true = (λ j. is_below (record_at b p) (sym a.0 j) (sym a.1 j) (sym a.2 j)) ∙ S.ascends p i v h in
              absurd (omega (arith, below-place k d m p (omega arith) (below_true (record_at b p) k d m low))))
              (eq-or-lt_of_le w)
          | no w ↦ absurd (omega (arith, below-member (record_at b i) k d m (before-place k d m i h (omega arith)) a.0 a.1))
        ]

    found-place : record_place b k d m < records_in b → record_place b k d m ≡ place_of b k d m
    found-place l = only-place (record_place b k d m) l ((record_is b k d m).here (omega arith))

    pub only-record : (i : ℕ) → i < records_in b → is_at (record_at b i) k d m ≡ true → i ≡ record_place b k d m
    unfolding record_place
    only-record i h e =
        let l = first-low (λ j. is_at (record_at b j) k d m) 0 (records_in b) i (omega arith) e in
        only-place i h e ∙ sym (found-place (omega arith))

    -- no record has the address where it is not that of the record at its place
    pub no-record : (place_of b k d m < records_in b → is_at (record_at b (place_of b k d m)) k d m ≡ false) → records_in b ≡ record_place b k d m
    no-record n = elim (dec_le (records_in b) (record_place b k d m)) [
      | yes w ↦ omega (arith, (record_is b k d m).upto)
      | no w ↦
          let e = found-place (omega arith) in
          absurd
          (false-true
          (sym (n (omega arith)) ∙ ap (λ (x : ℕ). is_at (record_at b x) k d m) (sym e) ∙ (record_is b k d m).here (omega arith)))
    ]

  -- ---- the records of one kind and dealer, whose members are below 32, are a run
  module _ (k d : ℕ) where
    pub run-rises : place_of b k d 0 ≤ place_of b k d 32
    run-rises = elim (dec_le (place_of b k d 0) (place_of b k d 32)) [
      | yes w ↦ w
      | no w ↦
          let u = place-within b k d 0 in
          absurd (omega (arith, below-place k d 32 (place_of b k d 32) (omega arith) (wide (before-place k d 0 (place_of b k d 32) (omega arith) (omega arith)))))
    ]
      where
        wide : {r : Record} → Below r k d 0 → Below r k d 32
        wide (by_kind h) = by_kind h
        wide (by-dealer e h) = by-dealer e h
        wide (by-member e f h) = by-member e f (omega arith)

    pub in-run : (i : ℕ) → place_of b k d 0 ≤ i → i < place_of b k d 32 → ((record_at b i).w0 ≡ k) × ((record_at b i).w1 ≡ d)
    in-run i h l = by_order (before-place k d 32 i inside l)
      where
        inside : i < records_in b
        inside = omega (arith, place-within b k d 32)

        not-before : Below (record_at b i) k d 0 → ⊥
        not-before w = omega (arith, below-place k d 0 i inside w)

        by_order : Below (record_at b i) k d 32 → ((record_at b i).w0 ≡ k) × ((record_at b i).w1 ≡ d)
        by_order (by_kind a) = absurd (not-before (by_kind a))
        by_order (by-dealer e a) = absurd (not-before (by-dealer e a))
        by_order (by-member e f a) = (e, f)

    pub to-run : (i : ℕ) → i < records_in b → (record_at b i).w0 ≡ k → (record_at b i).w1 ≡ d → (record_at b i).w2 < 32
        → (place_of b k d 0 ≤ i) × (i < place_of b k d 32)
    to-run i h e f l = (
      elim (dec_le (place_of b k d 0) i) [
        | yes w ↦ w
        | no w ↦ absurd (omega (arith, below-member (record_at b i) k d 0 (before-place k d 0 i h (omega arith)) e f))
      ],
      below-place k d 32 i h (by-member e f l),
    )
