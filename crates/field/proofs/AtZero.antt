-- Lagrange's formula at zero: its coefficient at the node x is, up to a factor that all nodes share, the weight of x over x.
-- So the law of degrees with zero as a further node gives the value at zero.
use mathlib.Core.Path.{◌≡◌, refl, sym, ap, ◌∙◌}
use mathlib.Core.List.{List, [], ◌∷◌}
use Prim.Native.Nat.{◌≤◌}
use native.Mathlib.Omega.{arith}
use lib.ListN.{length, get_or-eq_default}
use Rattle.words.specs.Lists.{All, Distinct, map}
use Rattle.words.proofs.Lists.{All-each}
use Rattle.field.specs.Algebra.{Ops, Field}
use Rattle.field.specs.Polynomial.{eval, dot, gaps, weights, ratios, lagrange, at_zero}
use Rattle.field.proofs.Solver.{Expr.nil, Expr.one, Expr.◌⊞◌, Expr.◌⊠◌, Expr.⊟◌, ◌==◌, solve, given}
use Rattle.field.proofs.Reciprocal.{sub-inv, inv-one, inv-mul}
use Rattle.field.proofs.Divided.{Off, over, diff, gaps-ne, inv-gaps-turned, degree}
use Rattle.field.proofs.Weights.{off_next, divided-diff}

module _ {K : Type 0} {O : Ops K} (F : Field O) where
  open O use {zero as 𝟘, one as 𝟙, add as ◌⊕◌, mul as ◌⊗◌, neg as ⊖◌, inv}
  open F use {mul-one, mul-inv}

  infixl 60 ◌⊕◌
  infixl 70 ◌⊗◌
  infix 80 ⊖◌
  ratios-gaps : (x : K) (ys : List K) → Off x ys → ratios O x ys ≡ gaps O 𝟘 ys ⊗ inv (gaps O x ys)
  ratios-gaps x [] h = sym (ap (λ v. 𝟙 ⊗ v) (inv-one F) ∙ mul-one 𝟙)
  ratios-gaps x (y ∷ ys) h =
      ap (λ v. y ⊗ inv (y ⊕ ⊖ x) ⊗ v) (ratios-gaps x ys h.1)
      ∙ solve F (y ∷ inv (y ⊕ ⊖ x) ∷ gaps O 𝟘 ys ∷ inv (gaps O x ys) ∷ []) (λ y i g w. y ⊠ i ⊠ (g ⊠ w) == (nil ⊞ ⊟ y) ⊠ g ⊠ ⊟ (i ⊠ w)) refl
      ∙ ap (λ v. (𝟘 ⊕ ⊖ y) ⊗ gaps O 𝟘 ys ⊗ v) (sym (inv-gaps-turned F x y ys h))

  -- one term of both sums, where i is the inverse of x
  term : (f x b g u v i r : K) → (x ⊕ ⊖ 𝟘) ⊗ i ≡ 𝟙
      → f ⊗ (b ⊗ u ⊗ (g ⊗ v)) ⊕ ⊖ ((𝟘 ⊕ ⊖ x) ⊗ b ⊗ g) ⊗ r ≡ ⊖ (b ⊗ ((𝟘 ⊕ ⊖ x) ⊗ g)) ⊗ (f ⊗ i ⊗ (u ⊗ v) ⊕ r)
  term f x b g u v i r e =
      given F e
      (solve F (f ∷ x ∷ b ∷ g ∷ u ∷ v ∷ i ∷ r ∷ [])
      (λ f x b g u v i r. f ⊠ (b ⊠ u ⊠ (g ⊠ v)) ⊞ ⊟ ((nil ⊞ ⊟ x) ⊠ b ⊠ g) ⊠ r
      == ⊟ (b ⊠ ((nil ⊞ ⊟ x) ⊠ g)) ⊠ (f ⊠ i ⊠ (u ⊠ v) ⊞ r) ⊞ ⊟ (f ⊠ b ⊠ g ⊠ u ⊠ v) ⊠ ((x ⊞ ⊟ nil) ⊠ i ⊞ ⊟ one))
      refl)

  lagrange-weights : (f : K → K) (before xs : List K) → Distinct xs → All (λ y. Off y before) xs → Off 𝟘 xs
      → dot O (map f xs) (lagrange O before xs) ≡ ⊖ (gaps O 𝟘 before ⊗ gaps O 𝟘 xs) ⊗ dot O (map (over O 𝟘 f) xs) (weights O before xs)
  lagrange-weights f before [] d h z = solve F (gaps O 𝟘 before ∷ []) (λ g. nil == ⊟ (g ⊠ one) ⊠ nil) refl
  lagrange-weights f before (x ∷ xs) d h z =
      let u : K = inv (gaps O x before) in
      let v : K = inv (gaps O x xs) in
      let i : K = inv (x ⊕ ⊖ 𝟘) in
      let rest : K = dot O (map (over O 𝟘 f) xs) (weights O (x ∷ before) xs) in
      (λ j. f x ⊗ (ratios-gaps x before h.0 j ⊗ ratios-gaps x xs d.0 j)
      ⊕ lagrange-weights f (x ∷ before) xs d.1 (off_next x before xs d.0 h.1) z.1 j)
      ∙ term (f x) x (gaps O 𝟘 before) (gaps O 𝟘 xs) u v i rest (sub-inv F x 𝟘 z.0)
      ∙ ap (λ w. ⊖ (gaps O 𝟘 before ⊗ gaps O 𝟘 (x ∷ xs)) ⊗ (f x ⊗ i ⊗ w ⊕ rest))
      (sym (inv-mul F (gaps O x before) (gaps O x xs) (gaps-ne F x before h.0) (gaps-ne F x xs d.0)))

  pub value-at-zero : (cs xs : List K) → Distinct xs → Off 𝟘 xs → length cs ≤ length xs → at_zero O xs (map (eval O cs) xs) ≡ eval O cs 𝟘
  value-at-zero cs xs d z h =
      let e : K → K = eval O cs in
      let g : K = gaps O 𝟘 xs in
      let law : e 𝟘 ⊗ inv g ⊕ diff O xs (over O 𝟘 e) ≡ 𝟘 = degree F cs 𝟘 xs (z, d) (omega arith) ∙ get_or-eq_default cs 𝟘 h in
      lagrange-weights e [] xs d (All-each xs (λ y. tt)) z
      ∙ ap (λ v. ⊖ (𝟙 ⊗ g) ⊗ v) (divided-diff F (over O 𝟘 e) xs d)
      ∙ given F law (given F (mul-inv g (gaps-ne F 𝟘 xs z))
      (solve F (e 𝟘 ∷ g ∷ inv g ∷ diff O xs (over O 𝟘 e) ∷ [])
      (λ e g w r. ⊟ (one ⊠ g) ⊠ r == e ⊞ ⊟ g ⊠ (e ⊠ w ⊞ r ⊞ ⊟ nil) ⊞ e ⊠ (g ⊠ w ⊞ ⊟ one)) refl))
