-- A map that keeps the operations keeps what is defined by them: so a law of a field holds of the numbers of its elements.
use mathlib.Core.Path.{◌≡◌, refl, ap, ◌∙◌}
use mathlib.Core.List.{List, [], ◌∷◌}
use Prim.Native.Nat.{ℕ, zero, suc}
use Rattle.words.specs.Lists.{map}
use Rattle.field.specs.Algebra.{Ops, Hom}
use Rattle.field.specs.Polynomial.{eval, power, dot, gaps, weights, divided, scaled, products, ratios, lagrange, at_zero}

module _ {A B : Type 0} {O : Ops A} {P : Ops B} {h : A → B} (H : Hom O P h) where
  -- ---- the operations, on values that are kept
  add_kept : {a b : A} {u v : B} → h a ≡ u → h b ≡ v → h (O.add a b) ≡ P.add u v
  add_kept {a} {b} e f = H.at-add a b ∙ (λ j. P.add (e j) (f j))

  mul-kept : {a b : A} {u v : B} → h a ≡ u → h b ≡ v → h (O.mul a b) ≡ P.mul u v
  mul-kept {a} {b} e f = H.at_mul a b ∙ (λ j. P.mul (e j) (f j))

  inv-kept : {a : A} {u : B} → h a ≡ u → h (O.inv a) ≡ P.inv u
  inv-kept {a} e = H.at-inv a ∙ ap P.inv e

  sub-kept : (a b : A) → h (O.add a (O.neg b)) ≡ P.add (h a) (P.neg (h b))
  sub-kept a b = add_kept refl (H.at-neg b)

  -- ---- polynomials
  pub eval-kept : (cs : List A) (x : A) → h (eval O cs x) ≡ eval P (map h cs) (h x)
  eval-kept [] x = H.at_zero
  eval-kept (c ∷ cs) x = add_kept refl (mul-kept refl (eval-kept cs x))

  pub values-kept : (cs xs : List A) → map h (map (eval O cs) xs) ≡ map (eval P (map h cs)) (map h xs)
  values-kept cs [] = refl
  values-kept cs (x ∷ xs) = λ j. eval-kept cs x j ∷ values-kept cs xs j

  power-kept : (x : A) (k : ℕ) → h (power O x k) ≡ power P (h x) k
  power-kept x zero = H.at_one
  power-kept x (suc k) = mul-kept refl (power-kept x k)

  -- ---- sums with weights
  pub dot-kept : (ys ws : List A) → h (dot O ys ws) ≡ dot P (map h ys) (map h ws)
  dot-kept [] ws = H.at_zero
  dot-kept (y ∷ ys) [] = H.at_zero
  dot-kept (y ∷ ys) (w ∷ ws) = add_kept (H.at_mul y w) (dot-kept ys ws)

  gaps-kept : (x : A) (ys : List A) → h (gaps O x ys) ≡ gaps P (h x) (map h ys)
  gaps-kept x [] = H.at_one
  gaps-kept x (y ∷ ys) = mul-kept (sub-kept x y) (gaps-kept x ys)

  weights-kept : (before xs : List A) → map h (weights O before xs) ≡ weights P (map h before) (map h xs)
  weights-kept before [] = refl
  weights-kept before (x ∷ xs) = λ j. inv-kept (mul-kept (gaps-kept x before) (gaps-kept x xs)) j ∷ weights-kept (x ∷ before) xs j

  pub divided-kept : (xs ys : List A) → h (divided O xs ys) ≡ divided P (map h xs) (map h ys)
  divided-kept xs ys = dot-kept ys (weights O [] xs) ∙ ap (dot P (map h ys)) (weights-kept [] xs)

  pub scaled-kept : (k : ℕ) (xs ys : List A) → map h (scaled O k xs ys) ≡ scaled P k (map h xs) (map h ys)
  scaled-kept k [] ys = refl
  scaled-kept k (x ∷ xs) [] = refl
  scaled-kept k (x ∷ xs) (y ∷ ys) = λ j. mul-kept {b = y} (power-kept x k) refl j ∷ scaled-kept k xs ys j

  pub products-kept : (xs ys : List A) → map h (products O xs ys) ≡ products P (map h xs) (map h ys)
  products-kept [] ys = refl
  products-kept (x ∷ xs) [] = refl
  products-kept (x ∷ xs) (y ∷ ys) = λ j. H.at_mul x y j ∷ products-kept xs ys j

  -- ---- Lagrange's formula
  ratios-kept : (x : A) (ys : List A) → h (ratios O x ys) ≡ ratios P (h x) (map h ys)
  ratios-kept x [] = H.at_one
  ratios-kept x (y ∷ ys) = mul-kept (mul-kept refl (inv-kept (sub-kept y x))) (ratios-kept x ys)

  lagrange-kept : (before xs : List A) → map h (lagrange O before xs) ≡ lagrange P (map h before) (map h xs)
  lagrange-kept before [] = refl
  lagrange-kept before (x ∷ xs) = λ j. mul-kept (ratios-kept x before) (ratios-kept x xs) j ∷ lagrange-kept (x ∷ before) xs j

  pub at_zero-kept : (xs ys : List A) → h (at_zero O xs ys) ≡ at_zero P (map h xs) (map h ys)
  at_zero-kept xs ys = dot-kept ys (lagrange O [] xs) ∙ ap (dot P (map h ys)) (lagrange-kept [] xs)
