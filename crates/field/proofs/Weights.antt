-- The divided difference as the sum with weights is that of the function: so the law of degrees holds of the sum.
use mathlib.Core.Path.{◌≡◌, refl, sym, ap, ◌∙◌, fun_ext}
use mathlib.Core.List.{List, [], ◌∷◌}
use Prim.Native.Nat.{ℕ, suc, ◌≤◌, ◌<◌}
use native.Mathlib.Omega.{arith}
use native.Mathlib.Nat.{not-suc-le-zero}
use lib.ListN.{length, get_or, get_or-eq_default}
use Rattle.words.specs.Lists.{All, Distinct, map}
use Rattle.words.proofs.Lists.{All-both, All-each, All-to}
use Rattle.field.specs.Algebra.{Ops, Field}
use Rattle.field.specs.Polynomial.{eval, dot, gaps, weights, divided}
use Rattle.field.proofs.Solver.{Expr.◌⊞◌, Expr.◌⊠◌, ◌==◌, solve}
use Rattle.field.proofs.Reciprocal.{inv-one, inv-mul}
use Rattle.field.proofs.Divided.{Off, over, diff, gaps-ne, inv-gaps, diff-same, degree}

-- x moves from the nodes that follow to those before
pub off_next : {A : Type 0} (x : A) (before xs : List A) → Off x xs → All (λ y. Off y before) xs → All (λ y. Off y (x ∷ before)) xs
off_next x before xs h o = All-both xs (λ y n k. ((λ e. n (sym e)), k)) h o

module _ {K : Type 0} {O : Ops K} (F : Field O) where
  open O use {zero as 𝟘, add as ◌⊕◌, mul as ◌⊗◌, neg as ⊖◌, inv}
  open F use {mul-one}

  infixl 60 ◌⊕◌
  infixl 70 ◌⊗◌
  infix 80 ⊖◌
  weights-diff : (f : K → K) (before xs : List K) → Distinct xs → All (λ y. Off y before) xs
      → dot O (map f xs) (weights O before xs) ≡ diff O xs (λ y. f y ⊗ inv (gaps O y before))
  weights-diff f before [] d h = refl
  weights-diff f before (x ∷ xs) d h =
      let u : K = inv (gaps O x before) in
      let v : K = inv (gaps O x xs) in
      let f' : K → K = over O x (λ y. f y ⊗ inv (gaps O y before)) in
      let next : All (λ y. Off y (x ∷ before)) xs = off_next x before xs d.0 h.1 in
      let rest : dot O (map f xs) (weights O (x ∷ before) xs) ≡ diff O xs f' =
      weights-diff f (x ∷ before) xs d.1 next ∙ diff-same F xs (λ y. f y ⊗ inv (gaps O y (x ∷ before))) f' (All-to xs apart next) in
      (λ j. f x ⊗ inv-mul F (gaps O x before) (gaps O x xs) (gaps-ne F x before h.0) (gaps-ne F x xs d.0) j ⊕ rest j)
      ∙ solve F (f x ∷ u ∷ v ∷ diff O xs f' ∷ []) (λ f u v d. f ⊠ (u ⊠ v) ⊞ d == f ⊠ u ⊠ v ⊞ d) refl
    where
      apart : (y : K) → Off y (x ∷ before) → f y ⊗ inv (gaps O y (x ∷ before)) ≡ f y ⊗ inv (gaps O y before) ⊗ inv (y ⊕ ⊖ x)
      apart y n =
          ap (λ v. f y ⊗ v) (inv-gaps F y x before n)
          ∙ solve F (f y ∷ inv (y ⊕ ⊖ x) ∷ inv (gaps O y before) ∷ []) (λ f i g. f ⊠ (i ⊠ g) == f ⊠ g ⊠ i) refl

  pub divided-diff : (f : K → K) (xs : List K) → Distinct xs → divided O xs (map f xs) ≡ diff O xs f
  divided-diff f xs d =
      weights-diff f [] xs d (All-each xs (λ y. tt)) ∙ ap (diff O xs) (fun_ext (λ y. ap (λ v. f y ⊗ v) (inv-one F) ∙ mul-one (f y)))

  -- at k + 1 nodes, of at most k + 1 coefficients: the coefficient k
  pub divided-eval : (k : ℕ) (cs xs : List K) → Distinct xs → length xs ≡ suc k → length cs ≤ suc k
      → divided O xs (map (eval O cs) xs) ≡ get_or cs k 𝟘
  divided-eval k cs [] d n h = absurd (omega arith)
  divided-eval k cs (x ∷ xs) d n h =
      let e : length xs ≡ k = omega arith in
      divided-diff (eval O cs) (x ∷ xs) d ∙ degree F cs x xs d (omega arith) ∙ ap (λ i. get_or cs i 𝟘) e

  pub divided-low : (cs xs : List K) → Distinct xs → length cs < length xs → divided O xs (map (eval O cs) xs) ≡ 𝟘
  divided-low cs [] d h = absurd (not-suc-le-zero h)
  divided-low cs (x ∷ xs) d h = divided-eval (length xs) cs (x ∷ xs) d refl (omega arith) ∙ get_or-eq_default cs 𝟘 (omega arith)
