-- The divided difference of a function, by recursion on the nodes, and the law of degrees: at n + 1 distinct nodes that of a
-- polynomial with at most n + 1 coefficients is the coefficient n. It follows by Leibniz's rule from the case of a constant.
use mathlib.Core.Path.{◌≡◌, refl, sym, ap, ◌∙◌, fun_ext}
use mathlib.Core.List.{List, [], ◌∷◌}
use Prim.Native.Nat.{suc, ◌≤◌}
use native.Mathlib.Omega.{arith}
use native.Mathlib.Nat.{le_of_suc-le-suc, not-suc-le-zero}
use lib.ListN.{length, get_or, get_or-eq_default}
use Rattle.words.specs.Lists.{All, Distinct}
use Rattle.words.proofs.Lists.{All-both, All-to}
use Rattle.field.specs.Algebra.{Ops, Field}
use Rattle.field.specs.Polynomial.{eval, gaps}
use Rattle.field.proofs.Solver.{Expr.nil, Expr.one, Expr.◌⊞◌, Expr.◌⊠◌, Expr.⊟◌, ◌==◌, solve, given}
use Rattle.field.proofs.Reciprocal.{mul-ne, sub-ne, sub-inv, inv_unique, inv-one, inv-mul, inv-split}

-- x is none of the list
abbrev pub Off : {A : Type 0} → A → List A → Type 0
Off x ys = All (λ y. x ≡ y → ⊥) ys

module _ {K : Type 0} (O : Ops K) where
  open O use {zero as 𝟘, add as ◌⊕◌, mul as ◌⊗◌, neg as ⊖◌, inv}

  infixl 60 ◌⊕◌
  infixl 70 ◌⊗◌
  infix 80 ⊖◌
  -- f y over y - x
  abbrev pub over : K → (K → K) → K → K
  over x f y = f y ⊗ inv (y ⊕ ⊖ x)

  -- the sum of f x over the product of x - y for all nodes y other than x
  abbrev pub diff : List K → (K → K) → K
  diff [] f = 𝟘
  diff (x ∷ xs) f = f x ⊗ inv (gaps O x xs) ⊕ diff xs (over x f)

module _ {K : Type 0} {O : Ops K} (F : Field O) where
  open O use {zero as 𝟘, one as 𝟙, add as ◌⊕◌, mul as ◌⊗◌, neg as ⊖◌, inv}
  open F use {mul-inv, one-ne}

  infixl 60 ◌⊕◌
  infixl 70 ◌⊗◌
  infix 80 ⊖◌
  pub gaps-ne : (x : K) (ys : List K) → Off x ys → gaps O x ys ≡ 𝟘 → ⊥
  gaps-ne x [] h = one-ne
  gaps-ne x (y ∷ ys) h = mul-ne F (x ⊕ ⊖ y) (gaps O x ys) (sub-ne F x y h.0) (gaps-ne x ys h.1)

  pub inv-gaps : (x y : K) (ys : List K) → Off x (y ∷ ys) → inv (gaps O x (y ∷ ys)) ≡ inv (x ⊕ ⊖ y) ⊗ inv (gaps O x ys)
  inv-gaps x y ys h = inv-mul F (x ⊕ ⊖ y) (gaps O x ys) (sub-ne F x y h.0) (gaps-ne x ys h.1)

  -- the first difference the other way round
  pub inv-gaps-turned : (x y : K) (ys : List K) → Off x (y ∷ ys) → inv (gaps O x (y ∷ ys)) ≡ ⊖ (inv (y ⊕ ⊖ x) ⊗ inv (gaps O x ys))
  inv-gaps-turned x y ys h =
      inv_unique F (gaps O x (y ∷ ys)) (⊖ (inv (y ⊕ ⊖ x) ⊗ inv (gaps O x ys))) (gaps-ne x (y ∷ ys) h)
      (given F (sub-inv F y x h.0) (given F (mul-inv (gaps O x ys) (gaps-ne x ys h.1))
      (solve F (x ∷ y ∷ gaps O x ys ∷ inv (y ⊕ ⊖ x) ∷ inv (gaps O x ys) ∷ [])
      (λ x y g i w. (x ⊞ ⊟ y) ⊠ g ⊠ ⊟ (i ⊠ w) == one ⊞ g ⊠ w ⊠ ((y ⊞ ⊟ x) ⊠ i ⊞ ⊟ one) ⊞ one ⊠ (g ⊠ w ⊞ ⊟ one))
      refl)))

  -- ---- it depends on the values at the nodes only, and is linear
  pub diff-same : (xs : List K) (f g : K → K) → All (λ x. f x ≡ g x) xs → diff O xs f ≡ diff O xs g
  diff-same [] f g h = refl
  diff-same (x ∷ xs) f g h =
      let rest : diff O xs (over O x f) ≡ diff O xs (over O x g) =
      diff-same xs (over O x f) (over O x g) (All-to xs (λ y e. ap (λ v. v ⊗ inv (y ⊕ ⊖ x)) e) h.1) in
      λ j. h.0 j ⊗ inv (gaps O x xs) ⊕ rest j

  diff-linear : (a b : K) (xs : List K) (f g : K → K) → diff O xs (λ y. a ⊗ f y ⊕ b ⊗ g y) ≡ a ⊗ diff O xs f ⊕ b ⊗ diff O xs g
  diff-linear a b [] f g = solve F (a ∷ b ∷ []) (λ a b. nil == a ⊠ nil ⊞ b ⊠ nil) refl
  diff-linear a b (x ∷ xs) f g =
      let apart : (y : K) → (a ⊗ f y ⊕ b ⊗ g y) ⊗ inv (y ⊕ ⊖ x) ≡ a ⊗ over O x f y ⊕ b ⊗ over O x g y =
      λ y. solve F (a ∷ b ∷ f y ∷ g y ∷ inv (y ⊕ ⊖ x) ∷ []) (λ a b f g i. (a ⊠ f ⊞ b ⊠ g) ⊠ i == a ⊠ (f ⊠ i) ⊞ b ⊠ (g ⊠ i)) refl in
      ap (λ v. (a ⊗ f x ⊕ b ⊗ g x) ⊗ inv (gaps O x xs) ⊕ v) (ap (diff O xs) (fun_ext apart) ∙ diff-linear a b xs (over O x f) (over O x g))
      ∙ solve F (a ∷ b ∷ f x ∷ g x ∷ inv (gaps O x xs) ∷ diff O xs (over O x f) ∷ diff O xs (over O x g) ∷ [])
      (λ a b f g i d e. (a ⊠ f ⊞ b ⊠ g) ⊠ i ⊞ (a ⊠ d ⊞ b ⊠ e) == a ⊠ (f ⊠ i ⊞ d) ⊞ b ⊠ (g ⊠ i ⊞ e)) refl

  diff-zero : (xs : List K) → diff O xs (λ _. 𝟘) ≡ 𝟘
  diff-zero xs =
      ap (diff O xs) (fun_ext (λ y. solve F [] (nil == nil ⊠ nil ⊞ nil ⊠ nil) refl))
      ∙ diff-linear 𝟘 𝟘 xs (λ _. 𝟘) (λ _. 𝟘)
      ∙ solve F (diff O xs (λ _. 𝟘) ∷ []) (λ d. nil ⊠ d ⊞ nil ⊠ d == nil) refl

  -- ---- the constant 1
  -- partial fractions of 1 over the product of a - x for all nodes x
  fractions : (a x : K) (xs : List K) → Off a (x ∷ xs) → Distinct (x ∷ xs) → diff O (x ∷ xs) (over O a (λ _. 𝟙)) ≡ ⊖ inv (gaps O a (x ∷ xs))
  fractions a x [] h d =
      solve F (inv (x ⊕ ⊖ a) ∷ inv 𝟙 ∷ []) (λ i w. one ⊠ i ⊠ w ⊞ nil == ⊟ ⊟ (i ⊠ w)) refl
      ∙ ap (λ v. ⊖ v) (sym (inv-gaps-turned a x [] h))
  fractions a x (y ∷ ys) h d =
      let i : K = inv (x ⊕ ⊖ a) in
      let at : K → K → K = λ z. over O z (λ _. 𝟙) in
      let rest : diff O (y ∷ ys) (over O x (at a)) ≡ ⊖ i ⊗ ⊖ inv (gaps O a (y ∷ ys)) ⊕ i ⊗ ⊖ inv (gaps O x (y ∷ ys)) =
      diff-same (y ∷ ys) (over O x (at a)) (λ z. ⊖ i ⊗ at a z ⊕ i ⊗ at x z) (All-both (y ∷ ys) (inv-split F a x h.0) h.1 d.0)
      ∙ diff-linear (⊖ i) i (y ∷ ys) (at a) (at x)
      ∙ (λ j. ⊖ i ⊗ fractions a y ys h.1 d.1 j ⊕ i ⊗ fractions x y ys d.0 d.1 j) in
      ap (λ v. 𝟙 ⊗ i ⊗ inv (gaps O x (y ∷ ys)) ⊕ v) rest
      ∙ solve F (i ∷ inv (gaps O a (y ∷ ys)) ∷ inv (gaps O x (y ∷ ys)) ∷ [])
      (λ i u v. one ⊠ i ⊠ v ⊞ (⊟ i ⊠ ⊟ u ⊞ i ⊠ ⊟ v) == ⊟ ⊟ (i ⊠ u)) refl
      ∙ ap (λ v. ⊖ v) (sym (inv-gaps-turned a x (y ∷ ys) h))

  diff-one : (a x : K) (xs : List K) → Distinct (a ∷ x ∷ xs) → diff O (a ∷ x ∷ xs) (λ _. 𝟙) ≡ 𝟘
  diff-one a x xs d =
      ap (λ v. 𝟙 ⊗ inv (gaps O a (x ∷ xs)) ⊕ v) (fractions a x xs d.0 d.1)
      ∙ solve F (inv (gaps O a (x ∷ xs)) ∷ []) (λ w. one ⊠ w ⊞ ⊟ w == nil) refl

  -- ---- polynomials
  -- the factor y - x takes the node x away
  diff-drop : (x : K) (xs : List K) (g : K → K) → Off x xs → diff O (x ∷ xs) (λ y. (y ⊕ ⊖ x) ⊗ g y) ≡ diff O xs g
  diff-drop x xs g h =
      ap (λ v. (x ⊕ ⊖ x) ⊗ g x ⊗ inv (gaps O x xs) ⊕ v) (diff-same xs (over O x (λ y. (y ⊕ ⊖ x) ⊗ g y)) g (All-to xs away h))
      ∙ solve F (x ∷ g x ∷ inv (gaps O x xs) ∷ diff O xs g ∷ []) (λ x g i d. (x ⊞ ⊟ x) ⊠ g ⊠ i ⊞ d == d) refl
    where
      away : (y : K) → (x ≡ y → ⊥) → (y ⊕ ⊖ x) ⊗ g y ⊗ inv (y ⊕ ⊖ x) ≡ g y
      away y n =
          given F (sub-inv F y x n)
          (solve F (x ∷ y ∷ g y ∷ inv (y ⊕ ⊖ x) ∷ []) (λ x y g i. (y ⊞ ⊟ x) ⊠ g ⊠ i == g ⊞ g ⊠ ((y ⊞ ⊟ x) ⊠ i ⊞ ⊟ one)) refl)

  -- Leibniz's rule along Horner's
  diff-cons : (a : K) (cs : List K) (x : K) (xs : List K) → Off x xs
      → diff O (x ∷ xs) (eval O (a ∷ cs)) ≡ a ⊗ diff O (x ∷ xs) (λ _. 𝟙) ⊕ (x ⊗ diff O (x ∷ xs) (eval O cs) ⊕ diff O xs (eval O cs))
  diff-cons a cs x xs h =
      let e : K → K = eval O cs in
      let rest : K → K = λ y. x ⊗ e y ⊕ 𝟙 ⊗ ((y ⊕ ⊖ x) ⊗ e y) in
      let apart : (y : K) → a ⊕ y ⊗ e y ≡ a ⊗ 𝟙 ⊕ 𝟙 ⊗ rest y =
      λ y. solve F (a ∷ x ∷ y ∷ e y ∷ []) (λ a x y e. a ⊞ y ⊠ e == a ⊠ one ⊞ one ⊠ (x ⊠ e ⊞ one ⊠ ((y ⊞ ⊟ x) ⊠ e))) refl in
      ap (diff O (x ∷ xs)) (fun_ext apart)
      ∙ diff-linear a 𝟙 (x ∷ xs) (λ _. 𝟙) rest
      ∙ ap (λ v. a ⊗ diff O (x ∷ xs) (λ _. 𝟙) ⊕ 𝟙 ⊗ v)
      (diff-linear x 𝟙 (x ∷ xs) e (λ y. (y ⊕ ⊖ x) ⊗ e y) ∙ ap (λ v. x ⊗ diff O (x ∷ xs) e ⊕ 𝟙 ⊗ v) (diff-drop x xs e h))
      ∙ solve F (a ∷ x ∷ diff O (x ∷ xs) (λ _. 𝟙) ∷ diff O (x ∷ xs) e ∷ diff O xs e ∷ [])
      (λ a x o d r. a ⊠ o ⊞ one ⊠ (x ⊠ d ⊞ one ⊠ r) == a ⊠ o ⊞ (x ⊠ d ⊞ r)) refl

  -- the law of degrees
  pub degree : (cs : List K) (x : K) (xs : List K) → Distinct (x ∷ xs) → length cs ≤ suc (length xs)
      → diff O (x ∷ xs) (eval O cs) ≡ get_or cs (length xs) 𝟘
  degree [] x xs d h = diff-zero (x ∷ xs)
  degree (a ∷ []) x [] d h =
      ap (λ v. (a ⊕ x ⊗ 𝟘) ⊗ v ⊕ 𝟘) (inv-one F) ∙ solve F (a ∷ x ∷ []) (λ a x. (a ⊞ x ⊠ nil) ⊠ one ⊞ nil == a) refl
  degree (a ∷ b ∷ cs) x [] d h = absurd (not-suc-le-zero (le_of_suc-le-suc h))
  degree (a ∷ cs) x (y ∷ ys) d h =
      let past : diff O (x ∷ y ∷ ys) (eval O cs) ≡ 𝟘 =
      degree cs x (y ∷ ys) d (omega (arith, le_of_suc-le-suc h)) ∙ get_or-eq_default cs 𝟘 (le_of_suc-le-suc h) in
      diff-cons a cs x (y ∷ ys) d.0
      ∙ (λ j. a ⊗ diff-one x y ys d j ⊕ (x ⊗ past j ⊕ degree cs y ys d.1 (le_of_suc-le-suc h) j))
      ∙ solve F (a ∷ x ∷ get_or cs (length ys) 𝟘 ∷ []) (λ a x c. a ⊠ nil ⊞ (x ⊠ nil ⊞ c) == c) refl
