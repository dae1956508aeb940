-- The weights and Lagrange's coefficients, as products over the other members of a list, are those of the nodes before and after each node.
-- So sums with them are divided differences, and Lagrange's formula at zero.
use mathlib.Core.Path.{◌≡◌, refl, sym, ap, ◌∙◌}
use mathlib.Core.Bool.{Bool, true, false}
use mathlib.Core.List.{List, [], ◌∷◌}
use Prim.Native.Nat.{ℕ, ◌<◌}
use lib.Dec.{eqb}
use Rattle.words.specs.Choice.{pick}
use Rattle.words.specs.Lists.{All, Distinct, map}
use Rattle.words.proofs.Lists.{All-each, up-distinct}
use Rattle.field.specs.Residue.{add, mul, sub, inv, residue_ops}
use Rattle.field.specs.Polynomial.{dot, gaps, weights, divided, products, ratios, lagrange, at_zero, value_at}
use Rattle.field.proofs.Modular.{mul_comm, mul_assoc, mul-one, sub-add-neg}
use Rattle.group.specs.declared.Group.{Group}
use Rattle.sharing.specs.Setting.{members}
use Rattle.sharing.specs.Weights.{product_over, gaps_at, weight_at, weights_of, lagrange_at}
use Rattle.sharing.specs.declared.Setting.{Setting}
use Rattle.sharing.proofs.Products.{self, other, others_below}

-- x is none of the list
abbrev Apart : ℕ → List ℕ → Type 0
Apart x l = All (λ y. x ≡ y → ⊥) l

-- the nodes before, which were met last first, and those that follow: the whole list of nodes
abbrev whole : List ℕ → List ℕ → List ℕ
whole [] l = l
whole (y ∷ before) l = whole before (y ∷ l)

-- ---- a product over the others of a whole list
module _ (q : ℕ) (above : 1 < q) (f : ℕ → ℕ) (x : ℕ) where
  abbrev others : List ℕ → ℕ
  others l = product_over q f x l

  others-whole : (before l : List ℕ) → others (whole before l) ≡ mul q (others before) (others l)
  others-whole [] l = sym (mul_comm q 1 (others l) ∙ mul-one q (others l) (others_below q f x above l))
  others-whole (y ∷ before) l = others-whole before (y ∷ l) ∙ split (eqb x y)
    where
      split : (b : Bool) → mul q (others before) (pick b (others l) (mul q (f y) (others l)))
          ≡ mul q (pick b (others before) (mul q (f y) (others before))) (others l)
      split true = refl
      split false = sym (mul_assoc q (others before) (f y) (others l)) ∙ ap (λ v. mul q v (others l)) (mul_comm q (others before) (f y))

  -- those before and those after
  others-split : (before after : List ℕ) → mul q (others before) (others after) ≡ others (whole before (x ∷ after))
  others-split before after = sym (others-whole before (x ∷ after) ∙ ap (mul q (others before)) (self q f x x after refl))

-- ---- each node among those before and after it
-- the nodes after are none of those before
abbrev Fresh : List ℕ → List ℕ → Type 0
Fresh before xs = All (λ y. Apart y before) xs

fresh-next : (x : ℕ) (before xs : List ℕ) → Apart x xs → Fresh before xs → Fresh (x ∷ before) xs
fresh-next x before [] a h = tt
fresh-next x before (y ∷ xs) a h = (((λ e. a.0 (sym e)), h.0), fresh-next x before xs a.1 h.1)

module _ (q : ℕ) (above : 1 < q) where
  gaps-others : (x : ℕ) (l : List ℕ) → Apart x l → gaps (residue_ops q) x l ≡ product_over q (sub q x) x l
  gaps-others x [] a = refl
  gaps-others x (y ∷ l) a =
      (λ j. mul q (sym (sub-add-neg q x y) j) (gaps-others x l a.1 j)) ∙ sym (other q (sub q x) x y l a.0)

  abbrev ratio : ℕ → ℕ → ℕ
  ratio i j = mul q j (inv q (sub q j i))

  ratios-others : (x : ℕ) (l : List ℕ) → Apart x l → ratios (residue_ops q) x l ≡ product_over q (ratio x) x l
  ratios-others x [] a = refl
  ratios-others x (y ∷ l) a =
      (λ j. mul q (mul q y (inv q (sym (sub-add-neg q y x) j))) (ratios-others x l a.1 j)) ∙ sym (other q (ratio x) x y l a.0)

  weights-others : (before xs : List ℕ) → Distinct xs → Fresh before xs
      → weights (residue_ops q) before xs ≡ map (λ x. inv q (product_over q (sub q x) x (whole before xs))) xs
  weights-others before [] d h = refl
  weights-others before (x ∷ xs) d h =
      let e = (λ j. mul q (gaps-others x before h.0 j) (gaps-others x xs d.0 j)) ∙ others-split q above (sub q x) x before xs in
      λ j. inv q (e j) ∷ weights-others (x ∷ before) xs d.1 (fresh-next x before xs d.0 h.1) j

  lagrange-others : (before xs : List ℕ) → Distinct xs → Fresh before xs
      → lagrange (residue_ops q) before xs ≡ map (λ x. product_over q (ratio x) x (whole before xs)) xs
  lagrange-others before [] d h = refl
  lagrange-others before (x ∷ xs) d h =
      let e = (λ j. mul q (ratios-others x before h.0 j) (ratios-others x xs d.0 j)) ∙ others-split q above (ratio x) x before xs in
      λ j. e j ∷ lagrange-others (x ∷ before) xs d.1 (fresh-next x before xs d.0 h.1) j

  -- ---- the sums
  -- weights that are products go over to the values
  dot-products : (w f : ℕ → ℕ) (ys xs : List ℕ)
      → dot (residue_ops q) ys (map (λ x. mul q (w x) (f x)) xs) ≡ dot (residue_ops q) (products (residue_ops q) ys (map f xs)) (map w xs)
  dot-products w f [] xs = refl
  dot-products w f (y ∷ ys) [] = refl
  dot-products w f (y ∷ ys) (x ∷ xs) =
      λ j. add q ((ap (mul q y) (mul_comm q (w x) (f x)) ∙ sym (mul_assoc q y (f x) (w x))) j) (dot-products w f ys xs j)

-- ---- in a setting and in a group
pub weights-divided : (S : Setting) → 1 < S.group.q → (es ds : List ℕ)
    → dot (residue_ops S.group.q) es (weights_of S ds)
    ≡ divided (residue_ops S.group.q) (members S.n) (products (residue_ops S.group.q) es (map (value_at S.group.q ds) (members S.n)))
unfolding weights_of weight_at gaps_at
weights-divided S above es ds =
    let q : ℕ = S.group.q in
    let ms : List ℕ = members S.n in
    dot-products q above (λ i. inv q (product_over q (sub q i) i ms)) (value_at q ds) es ms
    ∙ ap (dot (residue_ops q) (products (residue_ops q) es (map (value_at q ds) ms)))
    (sym (weights-others q above [] ms (up-distinct 1 S.n) (All-each ms (λ x. tt))))

pub lagrange-at-zero : (G : Group) → 1 < G.q → (ms ys : List ℕ) → Distinct ms
    → dot (residue_ops G.q) ys (map (lagrange_at G ms) ms) ≡ at_zero (residue_ops G.q) ms ys
unfolding lagrange_at
lagrange-at-zero G above ms ys d =
    ap (dot (residue_ops G.q) ys) (sym (lagrange-others G.q above [] ms d (All-each ms (λ x. tt))))
