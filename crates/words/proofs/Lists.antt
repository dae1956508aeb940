-- Laws on lists: facts of every element, maps, runs of numbers, and lists that are filled up with 0.
use mathlib.Core.Path.{◌≡◌, refl, sym, ap, ◌∙◌, subst}
use mathlib.Core.List.{List, [], ◌∷◌, ◌++◌}
use Prim.Native.Nat.{ℕ, zero, suc, ◌+◌, ◌-◌, ◌≤◌, ◌<◌}
use native.Mathlib.Nat.{le_of_suc-le-suc, not-suc-le-zero}
use native.Mathlib.Numerals.{add-one}
use native.Mathlib.Omega.{arith}
use lib.ListN.{length, get_or, take, drop, set, replicate, length-append}
use lib.Seq.{drop-cons, take-take, take_at, set_at, append_snoc}
use Rattle.words.specs.Lists.{All, Pairwise, Distinct, map, up_from, entry, filled}

-- ---- facts of every element, and of every pair
module _ {A : Type 0} where
  pub All-each : {P : A → Type 0} (xs : List A) → ((x : A) → P x) → All P xs
  All-each [] h = tt
  All-each (x ∷ xs) h = (h x, All-each xs h)

  pub All-to : {P Q : A → Type 0} (xs : List A) → ((x : A) → P x → Q x) → All P xs → All Q xs
  All-to [] h a = tt
  All-to (x ∷ xs) h a = (h x a.0, All-to xs h a.1)

  pub All-both : {P Q R : A → Type 0} (xs : List A) → ((x : A) → P x → Q x → R x) → All P xs → All Q xs → All R xs
  All-both [] h a b = tt
  All-both (x ∷ xs) h a b = (h x a.0 b.0, All-both xs h a.1 b.1)

  pub All-at : (P : A → Type 0) (xs : List A) (k : ℕ) (d : A) → k < length xs → All P xs → P (get_or xs k d)
  All-at P [] k d h a = absurd (not-suc-le-zero h)
  All-at P (x ∷ xs) zero d h a = a.0
  All-at P (x ∷ xs) (suc k) d h a = All-at P xs k d (le_of_suc-le-suc h) a.1

  pub All-append : (P : A → Type 0) (xs ys : List A) → All P xs → All P ys → All P (xs ++ ys)
  All-append P [] ys a b = b
  All-append P (x ∷ xs) ys a b = (a.0, All-append P xs ys a.1 b)

  pub All-parts : (P : A → Type 0) (xs ys : List A) → All P (xs ++ ys) → All P xs × All P ys
  All-parts P [] ys a = (tt, a)
  All-parts P (x ∷ xs) ys a = let s = All-parts P xs ys a.1 in ((a.0, s.0), s.1)

  pub All-take : (P : A → Type 0) (k : ℕ) (xs : List A) → All P xs → All P (take k xs)
  All-take P zero xs a = tt
  All-take P (suc k) [] a = tt
  All-take P (suc k) (x ∷ xs) a = (a.0, All-take P k xs a.1)

  pub All-drop : (P : A → Type 0) (k : ℕ) (xs : List A) → All P xs → All P (drop k xs)
  All-drop P zero xs a = a
  All-drop P (suc k) [] a = tt
  All-drop P (suc k) (x ∷ xs) a = All-drop P k xs a.1

  pub Pairwise-to : {R Q : A → A → Type 0} (xs : List A) → ((x y : A) → R x y → Q x y) → Pairwise R xs → Pairwise Q xs
  Pairwise-to [] h p = tt
  Pairwise-to (x ∷ xs) h p = (All-to xs (h x) p.0, Pairwise-to xs h p.1)

  pub Pairwise-take : (R : A → A → Type 0) (k : ℕ) (xs : List A) → Pairwise R xs → Pairwise R (take k xs)
  Pairwise-take R zero xs p = tt
  Pairwise-take R (suc k) [] p = tt
  Pairwise-take R (suc k) (x ∷ xs) p = (All-take (R x) k xs p.0, Pairwise-take R k xs p.1)

  pub Pairwise-at : (R : A → A → Type 0) (xs : List A) (i j : ℕ) (d : A) → i < j → j < length xs → Pairwise R xs → R (get_or xs i d) (get_or xs j d)
  Pairwise-at R [] i j d h l p = absurd (not-suc-le-zero l)
  Pairwise-at R (x ∷ xs) i zero d h l p = absurd (not-suc-le-zero h)
  Pairwise-at R (x ∷ xs) zero (suc j) d h l p = All-at (R x) xs j d (le_of_suc-le-suc l) p.0
  Pairwise-at R (x ∷ xs) (suc i) (suc j) d h l p = Pairwise-at R xs i j d (le_of_suc-le-suc h) (le_of_suc-le-suc l) p.1

-- ---- a part of a part
pub part-part : {A : Type 0} (m k n : ℕ) (xs : List A) → k + m ≤ n → take m (drop k (take n xs)) ≡ take m (drop k xs)
part-part m zero n xs h = take-take m n xs (omega arith)
part-part m (suc k) zero xs h = absurd (omega arith)
part-part m (suc k) (suc n) [] h = refl
part-part m (suc k) (suc n) (x ∷ xs) h = part-part m k n xs (omega arith)

-- ---- what is left of a list, from an index on
module _ {A : Type 0} (xs : List A) (k : ℕ) (d : A) where
  -- as a loop runs up
  pub drop-next : k < length xs → drop k xs ≡ get_or xs k d ∷ drop (k + 1) xs
  drop-next h = rw add-one (drop-cons xs k d h)

  -- as a loop runs down
  pub drop-back : 0 < k → k ≤ length xs → drop (k - 1) xs ≡ get_or xs (k - 1) d ∷ drop k xs
  drop-back h l =
      let e : suc (k - 1) ≡ k = omega arith in
      drop-cons xs (k - 1) d (omega arith) ∙ ap (λ (n : ℕ). get_or xs (k - 1) d ∷ drop n xs) e

-- ---- maps
module _ {A B : Type 0} (f : A → B) where
  pub map-length : (xs : List A) → length (map f xs) ≡ length xs
  map-length [] = refl
  map-length (x ∷ xs) = ap suc (map-length xs)

  pub map_at : (xs : List A) (k : ℕ) (d : A) (e : B) → k < length xs → get_or (map f xs) k e ≡ f (get_or xs k d)
  map_at [] k d e h = absurd (not-suc-le-zero h)
  map_at (x ∷ xs) zero d e h = refl
  map_at (x ∷ xs) (suc k) d e h = map_at xs k d e (le_of_suc-le-suc h)

  pub take-map : (k : ℕ) (xs : List A) → take k (map f xs) ≡ map f (take k xs)
  take-map zero xs = refl
  take-map (suc k) [] = refl
  take-map (suc k) (x ∷ xs) = ap (λ (l : List B). f x ∷ l) (take-map k xs)

  pub map-all : (P : B → Type 0) (xs : List A) → All (λ x. P (f x)) xs → All P (map f xs)
  map-all P [] h = tt
  map-all P (x ∷ xs) h = (h.0, map-all P xs h.1)

  pub map_each : (P : B → Type 0) (xs : List A) → All P (map f xs) → All (λ x. P (f x)) xs
  map_each P [] h = tt
  map_each P (x ∷ xs) h = (h.0, map_each P xs h.1)

  pub map_same : (g : A → B) (xs : List A) → All (λ x. f x ≡ g x) xs → map f xs ≡ map g xs
  map_same g [] h = refl
  map_same g (x ∷ xs) h = λ j. h.0 j ∷ map_same g xs h.1 j

  pub map-append : (xs ys : List A) → map f (xs ++ ys) ≡ map f xs ++ map f ys
  map-append [] ys = refl
  map-append (x ∷ xs) ys = ap (λ (l : List B). f x ∷ l) (map-append xs ys)

  pub map-comp : {C : Type 0} (g : B → C) (xs : List A) → map g (map f xs) ≡ map (λ x. g (f x)) xs
  map-comp g [] = refl
  map-comp {C} g (x ∷ xs) = ap (λ (l : List C). g (f x) ∷ l) (map-comp g xs)

-- ---- runs of numbers
pub up-length : (i n : ℕ) → length (up_from i n) ≡ n
up-length i zero = refl
up-length i (suc n) = ap suc (up-length (suc i) n)

pub up-within : (i n k : ℕ) → i + n ≤ k → All (λ x. (i ≤ x) × (x < k)) (up_from i n)
up-within i zero k h = tt
up-within i (suc n) k h =
    ((omega arith, omega arith), All-to (up_from (suc i) n) (λ x s. (omega arith, s.1)) (up-within (suc i) n k (omega arith)))

pub up-distinct : (i n : ℕ) → Distinct (up_from i n)
up-distinct i zero = tt
up-distinct i (suc n) =
    (All-to (up_from (suc i) n) (λ x s e. omega arith) (up-within (suc i) n (suc i + n) (omega arith)), up-distinct (suc i) n)

pub up-take : (i t n : ℕ) → t ≤ n → take t (up_from i n) ≡ up_from i t
up-take i zero n h = refl
up-take i (suc t) zero h = absurd (not-suc-le-zero h)
up-take i (suc t) (suc n) h = ap (λ (l : List ℕ). i ∷ l) (up-take (suc i) t n (le_of_suc-le-suc h))

pub up_at : (i n k : ℕ) → k < n → get_or (up_from i n) k 0 ≡ i + k
up_at i zero k h = absurd (not-suc-le-zero h)
up_at i (suc n) zero h = omega arith
up_at i (suc n) (suc k) h = up_at (suc i) n k (le_of_suc-le-suc h) ∙ omega arith

-- a fact of each number of a run
module _ (P : ℕ → Type 0) (i n : ℕ) where
  pub up-each : All P (up_from i n) → (j : ℕ) → i ≤ j → j < i + n → P j
  up-each a j h l =
      let e : get_or (up_from i n) (j - i) 0 ≡ j = up_at i n (j - i) (omega arith) ∙ omega arith in
      subst P e (All-at P (up_from i n) (j - i) 0 (omega (arith, up-length i n)) a)

  pub each-up : ((j : ℕ) → i ≤ j → j < i + n → P j) → All P (up_from i n)
  each-up f = All-to (up_from i n) (λ j s. f j s.0 s.1) (up-within i n (i + n) (omega arith))

-- by its last
pub up-last : (i n : ℕ) → up_from i (n + 1) ≡ up_from i n ++ ((i + n) ∷ [])
up-last i n = ap (up_from i) (add-one n) ∙ last i n
  where
    last : (i n : ℕ) → up_from i (suc n) ≡ up_from i n ++ ((i + n) ∷ [])
    last i zero = let e : i ≡ i + 0 = omega arith in ap (λ (x : ℕ). x ∷ []) e
    last i (suc n) =
        let e : suc i + n ≡ i + suc n = omega arith in
        ap (λ (l : List ℕ). i ∷ l) (last (suc i) n ∙ ap (λ (x : ℕ). up_from (suc i) n ++ (x ∷ [])) e)

-- ---- an array l of m places that holds the k numbers xs, and 0 behind them
pub filled_none : (m : ℕ) → replicate m 0 ≡ filled m []
unfolding filled
filled_none m = let e : m ≡ m - 0 = omega arith in ap (λ (k : ℕ). replicate k 0) e

module _ (m k : ℕ) (xs : List ℕ) {l : List ℕ} (s : length xs ≡ k) (e : l ≡ filled m xs) where
  pub filled-front : take k l ≡ xs
  unfolding filled
  filled-front = ap (take k) e ∙ take_at xs (replicate (m - length xs) 0) k s

  -- one number more, as a loop that fills it runs up
  pub filled_next : (x : ℕ) {ys : List ℕ} → k < m → xs ++ (x ∷ []) ≡ ys → set l k x ≡ filled m ys
  unfolding filled
  filled_next x h f =
      let r : List ℕ = replicate (m - length (xs ++ (x ∷ []))) 0 in
      let room : m - length xs ≡ suc (m - length (xs ++ (x ∷ []))) = omega (arith, length-append xs (x ∷ [])) in
      ap (λ (t : List ℕ). set t k x) (e ∙ ap (λ (i : ℕ). xs ++ replicate i 0) room)
      ∙ set_at xs 0 r x k s
      ∙ sym (append_snoc xs x r)
      ∙ ap (filled m) f

-- ---- the same where the k numbers are f at i, i + 1 and so on
module _ (f : ℕ → ℕ) (m i k : ℕ) {l : List ℕ} (e : l ≡ filled m (map f (up_from i k))) where
  run_length : length (map f (up_from i k)) ≡ k
  run_length = map-length f (up_from i k) ∙ up-length i k

  pub run-front : take k l ≡ map f (up_from i k)
  run-front = filled-front m k (map f (up_from i k)) run_length e

  pub run-next : {x : ℕ} → k < m → x ≡ f (i + k) → set l k x ≡ filled m (map f (up_from i (k + 1)))
  run-next {x} h v =
      filled_next m k (map f (up_from i k)) run_length e x h
      (ap (λ (y : ℕ). map f (up_from i k) ++ (y ∷ [])) v ∙ sym (ap (map f) (up-last i k) ∙ map-append f (up_from i k) ((i + k) ∷ [])))

-- ---- numbers of a list counted from 1
pub entry_at : (l : List ℕ) (k : ℕ) → get_or l k 0 ≡ entry l (k + 1)
unfolding entry
entry_at l k = let e : k ≡ k + 1 - 1 = omega arith in ap (λ (i : ℕ). get_or l i 0) e

pub entry-all : (P : ℕ → Type 0) (l : List ℕ) → All P l → (i : ℕ) → 1 ≤ i → i ≤ length l → P (entry l i)
unfolding entry
entry-all P l a i h k = All-at P l (i - 1) 0 (omega arith) a
