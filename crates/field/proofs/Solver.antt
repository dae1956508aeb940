-- Equations between ring expressions, decided by computing: solve F (x ∷ y ∷ []) (λ x y. x ⊠ y == y ⊠ x) refl.
-- The normal form of an expression is a sorted list of monomials with the sign plus and one with the sign minus.
use mathlib.Core.Path.{◌≡◌, refl, sym, ap, ◌∙◌}
use mathlib.Core.Bool.{Bool, true, false}
use mathlib.Core.List.{List, [], ◌∷◌}
use Prim.Native.Nat.{ℕ, zero, suc}
use lib.Dec.{eqb, leb}
use lib.ListN.{length, get_or}
use Rattle.words.specs.Choice.{pick}
use Rattle.field.specs.Algebra.{Ops, Field}
use Rattle.field.proofs.Ring.{add_left_comm, mul_left_comm, zero-add, one-mul, add-mul, neg_add_cancel, cancel, mul-zero, zero-mul}

-- ---- expressions and equations
infixl 60 ◌⊞◌
infixl 70 ◌⊠◌
infix 80 ⊟◌
infix 40 ◌==◌
pub data Expr : Type 0 where
  var : ℕ → Expr
  nil one : Expr
  ◌⊞◌ ◌⊠◌ : Expr → Expr → Expr
  ⊟◌ : Expr → Expr

abbrev pub ◌==◌ : Expr → Expr → Expr × Expr
a == b = (a, b)

-- an equation in n variables, as a function of them
abbrev pub Equation : ℕ → Type 0
Equation zero = Expr × Expr
Equation (suc n) = Expr → Equation n

-- its two sides, where the variables are numbered from i on
abbrev pub sides : (n i : ℕ) → Equation n → Expr × Expr
sides zero i e = e
sides (suc n) i f = sides n (suc i) (f (var i))

-- ---- normal forms
module _ {A : Type 0} (le : A → A → Bool) where
  abbrev pub insert : A → List A → List A
  insert a [] = a ∷ []
  insert a (b ∷ l) = pick (le a b) (a ∷ b ∷ l) (b ∷ insert a l)

  abbrev pub merge : List A → List A → List A
  merge [] m = m
  merge (a ∷ l) m = insert a (merge l m)

-- a monomial is a sorted list of variables; the order of monomials is that of words
abbrev pub le_word : List ℕ → List ℕ → Bool
le_word [] n = true
le_word (i ∷ m) [] = false
le_word (i ∷ m) (j ∷ n) = pick (eqb i j) (le_word m n) (leb i j)

-- a monomial times a sum of monomials, and the product of two sums
abbrev pub scale : List ℕ → List (List ℕ) → List (List ℕ)
scale m [] = []
scale m (n ∷ p) = insert le_word (merge leb m n) (scale m p)

abbrev pub expand : List (List ℕ) → List (List ℕ) → List (List ℕ)
expand [] q = []
expand (m ∷ p) q = merge le_word (scale m q) (expand p q)

abbrev pub sum : List (List ℕ) → List (List ℕ) → List (List ℕ)
sum p q = merge le_word p q

-- the monomials of an expression with the sign plus, and those with the sign minus
abbrev pub normal : Expr → List (List ℕ) × List (List ℕ)
normal (var i) = ((i ∷ []) ∷ [], [])
normal nil = ([], [])
normal one = ([] ∷ [], [])
normal (a ⊞ b) = (sum (normal a).0 (normal b).0, sum (normal a).1 (normal b).1)
normal (a ⊠ b) = (
  sum (expand (normal a).0 (normal b).0) (expand (normal a).1 (normal b).1),
  sum (expand (normal a).0 (normal b).1) (expand (normal a).1 (normal b).0),
)
normal (⊟ a) = ((normal a).1, (normal a).0)

-- the equation holds in every commutative ring
abbrev pub Holds : Expr × Expr → Type 0
Holds e = sum (normal e.0).0 (normal e.1).1 ≡ sum (normal e.1).0 (normal e.0).1

-- ---- the value of a sorted list, in a commutative monoid
module _ {A K : Type 0} (◌·◌ : K → K → K) (unit : K) (value : A → K) where
  infixr 70 ◌·◌
  abbrev pub fold : List A → K
  fold [] = unit
  fold (a ∷ l) = value a · fold l

  module _
      (assoc : (a b c : K) → (a · b) · c ≡ a · (b · c))
      (left_comm : (a b c : K) → a · (b · c) ≡ b · (a · c))
      (left-unit : (a : K) → unit · a ≡ a)
      (le : A → A → Bool)
    where
      either : (t : Bool) (l m : List A) (v : K) → fold l ≡ v → fold m ≡ v → fold (pick t l m) ≡ v
      either true l m v p q = p
      either false l m v p q = q

      insert-fold : (a : A) (l : List A) → fold (insert le a l) ≡ value a · fold l
      insert-fold a [] = refl
      insert-fold a (b ∷ l) =
          either (le a b) (a ∷ b ∷ l) (b ∷ insert le a l) (value a · (value b · fold l)) refl
          (ap (λ v. value b · v) (insert-fold a l) ∙ left_comm (value b) (value a) (fold l))

      merge-fold : (l m : List A) → fold (merge le l m) ≡ fold l · fold m
      merge-fold [] m = sym (left-unit (fold m))
      merge-fold (a ∷ l) m =
          insert-fold a (merge le l m) ∙ ap (λ v. value a · v) (merge-fold l m) ∙ sym (assoc (value a) (fold l) (fold m))

-- ---- the value of an expression and of its normal form
module _ {K : Type 0} {O : Ops K} (F : Field O) where
  open O use {zero as 𝟘, one as 𝟙, add as ◌⊕◌, mul as ◌⊗◌, neg as ⊖◌}
  open F use {add_assoc, add_comm, add-zero, mul_assoc, mul-one, mul-add}

  infixl 60 ◌⊕◌
  infixl 70 ◌⊗◌
  infix 80 ⊖◌
  -- differences x = p - n through the operations, without the sign
  plus-parts : {x n p y m q : K} → x ⊕ n ≡ p → y ⊕ m ≡ q → (x ⊕ y) ⊕ (n ⊕ m) ≡ p ⊕ q
  plus-parts e f = rw (← e, ← f) (simp (add_assoc, add_left_comm F))

  times-parts : {x n p y m q : K} → x ⊕ n ≡ p → y ⊕ m ≡ q → x ⊗ y ⊕ (p ⊗ m ⊕ n ⊗ q) ≡ p ⊗ q ⊕ n ⊗ m
  times-parts e f = rw (← e, ← f) (simp (mul-add, add-mul F, add_assoc, add_left_comm F))

  neg-parts : {x n p : K} → x ⊕ n ≡ p → ⊖ x ⊕ p ≡ n
  neg-parts {x} {n} e = rw (← e) (neg_add_cancel F x n)

  module _ (ρ : List K) where
    abbrev pub value : Expr → K
    value (var i) = get_or ρ i 𝟘
    value nil = 𝟘
    value one = 𝟙
    value (a ⊞ b) = value a ⊕ value b
    value (a ⊠ b) = value a ⊗ value b
    value (⊟ a) = ⊖ (value a)

    abbrev monomial : List ℕ → K
    monomial m = fold ◌⊗◌ 𝟙 (λ i. get_or ρ i 𝟘) m

    abbrev total : List (List ℕ) → K
    total p = fold ◌⊕◌ 𝟘 monomial p

    sum-total : (p q : List (List ℕ)) → total (sum p q) ≡ total p ⊕ total q
    sum-total p q = merge-fold ◌⊕◌ 𝟘 monomial add_assoc (add_left_comm F) (zero-add F) le_word p q

    scale-total : (m : List ℕ) (p : List (List ℕ)) → total (scale m p) ≡ monomial m ⊗ total p
    scale-total m [] = sym (mul-zero F (monomial m))
    scale-total m (n ∷ p) =
        insert-fold ◌⊕◌ 𝟘 monomial add_assoc (add_left_comm F) (zero-add F) le_word (merge leb m n) (scale m p)
        ∙ (λ j. merge-fold ◌⊗◌ 𝟙 (λ i. get_or ρ i 𝟘) mul_assoc (mul_left_comm F) (one-mul F) leb m n j ⊕ scale-total m p j)
        ∙ sym (mul-add (monomial m) (monomial n) (total p))

    expand-total : (p q : List (List ℕ)) → total (expand p q) ≡ total p ⊗ total q
    expand-total [] q = sym (zero-mul F (total q))
    expand-total (m ∷ p) q =
        sum-total (scale m q) (expand p q)
        ∙ (λ j. scale-total m q j ⊕ expand-total p q j)
        ∙ sym (add-mul F (monomial m) (total p) (total q))

    products_total : (p q r s : List (List ℕ)) → total (sum (expand p q) (expand r s)) ≡ total p ⊗ total q ⊕ total r ⊗ total s
    products_total p q r s = sum-total (expand p q) (expand r s) ∙ (λ j. expand-total p q j ⊕ expand-total r s j)

    normal-value : (e : Expr) → value e ⊕ total (normal e).1 ≡ total (normal e).0
    normal-value (var i) = add-zero (get_or ρ i 𝟘) ∙ sym (add-zero (get_or ρ i 𝟘 ⊗ 𝟙) ∙ mul-one (get_or ρ i 𝟘))
    normal-value nil = add-zero 𝟘
    normal-value one = refl
    normal-value (a ⊞ b) =
        ap (λ v. (value a ⊕ value b) ⊕ v) (sum-total (normal a).1 (normal b).1)
        ∙ plus-parts (normal-value a) (normal-value b)
        ∙ sym (sum-total (normal a).0 (normal b).0)
    normal-value (a ⊠ b) =
        ap (λ v. value a ⊗ value b ⊕ v) (products_total (normal a).0 (normal b).1 (normal a).1 (normal b).0)
        ∙ times-parts (normal-value a) (normal-value b)
        ∙ sym (products_total (normal a).0 (normal b).0 (normal a).1 (normal b).1)
    normal-value (⊟ a) = neg-parts (normal-value a)

    -- what both sides are with the monomials of both that have the sign minus
    lifted : (a b : Expr) → (total (normal a).1 ⊕ total (normal b).1) ⊕ value a ≡ total (sum (normal a).0 (normal b).1)
    lifted a b =
        let s : (total (normal a).1 ⊕ total (normal b).1) ⊕ value a ≡ (value a ⊕ total (normal a).1) ⊕ total (normal b).1 =
        simp (add_assoc, add_comm, add_left_comm F) in
        s ∙ ap (λ v. v ⊕ total (normal b).1) (normal-value a) ∙ sym (sum-total (normal a).0 (normal b).1)

    holds-value : (a b : Expr) → Holds (a, b) → value a ≡ value b
    holds-value a b h =
        cancel F (total (normal a).1 ⊕ total (normal b).1) (value a) (value b)
        (lifted a b ∙ ap total h ∙ sym (lifted b a) ∙ ap (λ v. v ⊕ value b) (add_comm (total (normal b).1) (total (normal a).1)))

    pub solve : (f : Equation (length ρ)) → Holds (sides (length ρ) 0 f) → value (sides (length ρ) 0 f).0 ≡ value (sides (length ρ) 0 f).1
    solve f h = holds-value (sides (length ρ) 0 f).0 (sides (length ρ) 0 f).1 h

  -- an equation that holds but for a multiple of a difference that is zero
  pub given : {a b c l r : K} → l ≡ r → a ≡ b ⊕ c ⊗ (l ⊕ ⊖ r) → a ≡ b
  given {a} {b} {c} {l} {r} e s = s ∙ ap (λ v. b ⊕ c ⊗ (v ⊕ ⊖ r)) e ∙ solve (b ∷ c ∷ r ∷ []) (λ b c r. b ⊞ c ⊠ (r ⊞ ⊟ r) == b) refl
