-- Tests as facts, and facts as tests: choice, conjunction, a test of every element, absence and distinctness in a list.
-- Then the turns of a loop that tests a list from an index on: next, where the element passes; stop, where it does not; end, past the last.
use mathlib.Core.Path.{◌≡◌, refl, sym, ap, ◌∙◌}
use mathlib.Core.Bool.{Bool, true, false, not, ◌&&◌}
use mathlib.Core.List.{List, [], ◌∷◌}
use Prim.Native.Nat.{ℕ, zero, suc, ◌+◌, ◌-◌, ◌<◌}
use native.Mathlib.Nat.{le_of_suc-le-suc, not-suc-le-zero}
use native.Mathlib.Omega.{arith}
use borrow.Author.Tests.{eq-eqb, ne_eqb, eqb-true, eqb-false, not-true, not-false}
use lib.ListN.{length, get_or, take, drop, length-drop}
use lib.Seq.{drop-length, take_all}
use lib.Dec.{eqb}
use Rattle.std.specs.List.{list_any, list_all}
use Rattle.words.specs.Choice.{pick}
use Rattle.words.specs.Lists.{All, Distinct, map, all, absent, none_twice}
use Rattle.words.proofs.Lists.{Pairwise-at, drop-next}

pub false-true : false ≡ true → ⊥
false-true e = let z : ◌≡◌ {A = ℕ} 0 1 = cc in omega arith

pub refuted : (b : Bool) → (b ≡ true → ⊥) → b ≡ false
refuted true n = absurd (n refl)
refuted false n = refl

-- a test b, by the answer r of the function that makes it
module _ {r b : Bool} (e : r ≡ b) where
  pub passed : not r ≡ false → b ≡ true
  passed h = sym e ∙ not-false r h

  pub failed : not r ≡ true → b ≡ false
  failed h = sym e ∙ not-true r h

-- ---- conjunctions
pub and-true : (a b : Bool) → a && b ≡ true → (a ≡ true) × (b ≡ true)
and-true true b e = (refl, e)
and-true false b e = absurd (false-true e)

pub true-and : (a b : Bool) → a ≡ true → b ≡ true → a && b ≡ true
true-and a b e f = ap (λ (x : Bool). x && b) e ∙ f

-- it fails, by the part that does
either-false : {P : Type 0} (a b : Bool) → a && b ≡ false → (a ≡ false → P) → (b ≡ false → P) → P
either-false true b e f g = g e
either-false false b e f g = f refl

-- two equations
module _ (a b x y : ℕ) where
  pub equal-true : eqb a b && eqb x y ≡ true → (a ≡ b) × (x ≡ y)
  equal-true e = let s = and-true (eqb a b) (eqb x y) e in (eqb-true a b s.0, eqb-true x y s.1)

  pub true-equal : a ≡ b → x ≡ y → eqb a b && eqb x y ≡ true
  true-equal e f = true-and (eqb a b) (eqb x y) (eq-eqb a b e) (eq-eqb x y f)

-- by branches: the second test runs where the first holds, and else the first is the value
module _ {a b : Bool} (t : Bool) where
  pub and-held : a ≡ true → b ≡ t → b ≡ a && t
  and-held h e = e ∙ ap (λ (x : Bool). x && t) (sym h)

  pub and-failed : a ≡ false → b ≡ a → b ≡ a && t
  and-failed h e = e ∙ h ∙ ap (λ (x : Bool). x && t) (sym h)

-- ---- choice
module _ {A : Type 0} (b : Bool) (x y : A) where
  pub pick_true : b ≡ true → pick b x y ≡ x
  pick_true e = ap (λ (c : Bool). pick c x y) e

  pub pick-false : b ≡ false → pick b x y ≡ y
  pick-false e = ap (λ (c : Bool). pick c x y) e

-- what is chosen where the test holds is the same
pub pick_same : {A : Type 0} (b : Bool) (x y z : A) → (b ≡ true → x ≡ y) → pick b x z ≡ pick b y z
pick_same true x y z h = h refl
pick_same false x y z h = refl

-- ---- a test of every element
module _ {A : Type 0} (f : A → Bool) where
  pub all_true : (xs : List A) → all f xs ≡ true → All (λ x. f x ≡ true) xs
  all_true [] e = tt
  all_true (x ∷ xs) e = let s = and-true (f x) (all f xs) e in (s.0, all_true xs s.1)

  pub true-all : (xs : List A) → All (λ x. f x ≡ true) xs → all f xs ≡ true
  true-all [] h = refl
  true-all (x ∷ xs) h = true-and (f x) (all f xs) h.0 (true-all xs h.1)

  pub all-at : (xs : List A) (i : ℕ) (d : A) → i < length xs → all f xs ≡ true → f (get_or xs i d) ≡ true
  all-at [] i d h e = absurd (not-suc-le-zero h)
  all-at (x ∷ xs) zero d h e = (and-true (f x) (all f xs) e).0
  all-at (x ∷ xs) (suc i) d h e = all-at xs i d (le_of_suc-le-suc h) (and-true (f x) (all f xs) e).1

  pub all_map : {B : Type 0} (g : B → A) (xs : List B) → all f (map g xs) ≡ all (λ x. f (g x)) xs
  all_map g [] = refl
  all_map g (x ∷ xs) = ap (λ (t : Bool). f (g x) && t) (all_map g xs)

  pub all_take : (k : ℕ) (xs : List A) → all f xs ≡ true → all f (take k xs) ≡ true
  all_take zero xs e = refl
  all_take (suc k) [] e = refl
  all_take (suc k) (x ∷ xs) e =
      let s = and-true (f x) (all f xs) e in
      true-and (f x) (all f (take k xs)) s.0 (all_take k xs s.1)

  module _ (xs : List A) (i : ℕ) (d : A) (h : i < length xs) where
    pub all-next : f (get_or xs i d) ≡ true → all f (drop i xs) ≡ all f (drop (i + 1) xs)
    all-next e = rw (drop-next xs i d) (ap (λ (b : Bool). b && all f (drop (i + 1) xs)) e)

    pub all-stop : f (get_or xs i d) ≡ false → all f (drop i xs) ≡ false
    all-stop e = rw (drop-next xs i d) (ap (λ (b : Bool). b && all f (drop (i + 1) xs)) e)

  pub all_end : (xs : List A) (i : ℕ) → i ≡ length xs → all f (drop i xs) ≡ true
  all_end xs i e = rw (e, drop-length)

  -- std's test of every element
  pub list_all_same : (xs : List A) → list_all f xs ≡ all f xs
  list_all_same [] = refl
  list_all_same (x ∷ xs) = ap (λ (t : Bool). f x && t) (list_all_same xs)

-- ---- two numbers: equal or not
pub equal_or_not : {P : Type 0} (x y : ℕ) → (x ≡ y → P) → ((x ≡ y → ⊥) → P) → P
equal_or_not {P} x y f g = by-test (eqb x y) refl
  where
    by-test : (t : Bool) → eqb x y ≡ t → P
    by-test true e = f (eqb-true x y e)
    by-test false e = g (eqb-false x y e)

-- ---- a number that is not in a list
module _ (x : ℕ) where
  -- by whether it is the first
  module _ (y : ℕ) (l : List ℕ) where
    pub absent-first : x ≡ y → absent x (y ∷ l) ≡ false
    absent-first e = pick_true (eqb x y) _ _ (eq-eqb x y e)

    pub absent-behind : (x ≡ y → ⊥) → absent x (y ∷ l) ≡ absent x l
    absent-behind n = pick-false (eqb x y) _ _ (ne_eqb x y n)

    pub absent_more : absent x (y ∷ l) ≡ true → (x ≡ y → ⊥) × (absent x l ≡ true)
    absent_more e =
        let n : x ≡ y → ⊥ = λ f. false-true (sym (absent-first f) ∙ e) in
        (n, sym (absent-behind n) ∙ e)

  absent-true : (l : List ℕ) → absent x l ≡ true → All (λ y. x ≡ y → ⊥) l
  absent-true [] e = tt
  absent-true (y ∷ l) e = let s = absent_more y l e in (s.0, absent-true l s.1)

  -- it is, at some place
  false-absent : (l : List ℕ) → absent x l ≡ false → (j : ℕ) × (j < length l) × (x ≡ get_or l j 0)
  false-absent [] e = absurd (false-true (sym e))
  false-absent (y ∷ l) e =
      equal_or_not x y (λ f. (0, omega arith, f))
      (λ n. let s = false-absent l (sym (absent-behind y l n) ∙ e) in (suc s.0, omega (arith, s.1), s.2))

  true-absent : (l : List ℕ) → All (λ y. x ≡ y → ⊥) l → absent x l ≡ true
  true-absent [] h = refl
  true-absent (y ∷ l) h = absent-behind y l h.0 ∙ true-absent l h.1

  -- as `contains` tests
  pub any-absent : (l : List ℕ) → list_any (λ y. eqb y x) l ≡ not (absent x l)
  any-absent [] = refl
  any-absent (y ∷ l) =
      equal_or_not x y
      (λ e. simp (eq-eqb y x (sym e), absent-first y l e))
      (λ n. simp (ne_eqb y x (λ e. n (sym e)), absent-behind y l n) (any-absent l))

-- ---- no number twice
pub distinct-true : (l : List ℕ) → none_twice l ≡ true → Distinct l
distinct-true [] e = tt
distinct-true (x ∷ l) e = let s = and-true (absent x l) (none_twice l) e in (absent-true x l s.0, distinct-true l s.1)

pub true-distinct : (l : List ℕ) → Distinct l → none_twice l ≡ true
true-distinct [] d = refl
true-distinct (x ∷ l) d = true-and (absent x l) (none_twice l) (true-absent x l d.0) (true-distinct l d.1)

-- the numbers at two places are equal
pub false-twice : (l : List ℕ) → none_twice l ≡ false → (i j : ℕ) × (i < j) × (j < length l) × (get_or l i 0 ≡ get_or l j 0)
false-twice [] e = absurd (false-true (sym e))
false-twice (x ∷ l) e =
    either-false (absent x l) (none_twice l) e
    (λ f. let s = false-absent x l f in (0, suc s.0, omega arith, omega (arith, s.1), s.2))
    (λ f. let s = false-twice l f in (suc s.0, suc s.1, omega (arith, s.2), omega (arith, s.3), s.4))

pub twice-false : (l : List ℕ) (i j : ℕ) → i < j → j < length l → get_or l i 0 ≡ get_or l j 0 → none_twice l ≡ false
twice-false l i j h k e = refuted (none_twice l) (λ t. Pairwise-at (λ x y. x ≡ y → ⊥) l i j 0 h k (distinct-true l t) e)

-- by whether the list contains the number at i behind it
module _ (l : List ℕ) (i : ℕ) (h : i < length l) {r : Bool}
    (e : r ≡ list_any (λ y. eqb y (get_or l i 0)) (take (length l - (i + 1)) (drop (i + 1) l))) where
  behind : r ≡ not (absent (get_or l i 0) (drop (i + 1) l))
  behind =
      let s : take (length l - (i + 1)) (drop (i + 1) l) ≡ drop (i + 1) l = take_all _ _ (omega (arith, length-drop (i + 1) l)) in
      rw s at e ∙ any-absent (get_or l i 0) (drop (i + 1) l)

  pub twice-next : r ≡ false → none_twice (drop i l) ≡ none_twice (drop (i + 1) l)
  twice-next f = rw (drop-next l i 0) (ap (λ (b : Bool). b && none_twice (drop (i + 1) l)) (not-false _ (sym behind ∙ f)))

  pub twice-stop : r ≡ true → none_twice (drop i l) ≡ false
  twice-stop f = rw (drop-next l i 0) (ap (λ (b : Bool). b && none_twice (drop (i + 1) l)) (not-true _ (sym behind ∙ f)))
