-- Linear forms modulo a prime q: the sum of x_k times z_k over the places k of two lists.
-- Where two lists of x differ at one place, their forms differ by the difference there times z there; so if that z is not 0,
-- equal forms have equal x there.
use mathlib.Core.Path.{◌≡◌, refl, sym, ap, ◌∙◌}
use mathlib.Core.List.{List, [], ◌∷◌}
use Prim.Native.Nat.{ℕ, zero, suc, ◌%◌, ◌<◌}
use native.Mathlib.Nat as N
use native.Mathlib.Nat.{zero-mod, not-suc-le-zero, le_of_suc-le-suc}
use native.Mathlib.Omega.{arith}
use lib.ListN.{length, get_or, replicate}
use lib.Seq.{ext_get_or}
use Rattle.words.specs.Lists.{All, Below}
use Rattle.words.proofs.Lists.{All-at}
use Rattle.field.specs.Residue.{add, mul, inv, residue_ops}
use Rattle.field.specs.Prime.{Prime}
use Rattle.field.specs.Polynomial.{dot}
use Rattle.field.proofs.Modular.{add_comm, add_assoc, add-zero, add-below, mul_comm, mul_assoc, mul-one, mul-below}
use Rattle.field.proofs.Inverses.{positive, mul-inv}
use Rattle.sharing.specs.Carried.{unit_at, AgreeOff}

mul-zero : (q a : ℕ) → mul q a 0 ≡ 0
unfolding mul
mul-zero q a = rw (N.mul-zero, zero-mod)

zero-mul : (q a : ℕ) → mul q 0 a ≡ 0
zero-mul q a = mul_comm q 0 a ∙ mul-zero q a

module _ (q : ℕ) (P : Prime q) where
  abbrev form : List ℕ → List ℕ → ℕ
  form xs zs = dot (residue_ops q) xs zs

  zero-add : (a : ℕ) → a < q → add q 0 a ≡ a
  zero-add a h = add_comm q 0 a ∙ add-zero q a h

  one-mul : (a : ℕ) → a < q → mul q 1 a ≡ a
  one-mul a h = mul_comm q 1 a ∙ mul-one q a h

  pub form-below : (xs zs : List ℕ) → form xs zs < q
  form-below [] zs = positive q P
  form-below (x ∷ xs) [] = positive q P
  form-below (x ∷ xs) (z ∷ zs) = add-below q (mul q x z) (form xs zs) (positive q P)

  -- every z is 0
  pub form-zero : (xs zs : List ℕ) → All (λ z. z ≡ 0) zs → form xs zs ≡ 0
  form-zero [] zs h = refl
  form-zero (x ∷ xs) [] h = refl
  form-zero (x ∷ xs) (z ∷ zs) h =
      (λ j. add q ((ap (mul q x) h.0 ∙ mul-zero q x) j) (form-zero xs zs h.1 j)) ∙ add-zero q 0 (positive q P)

  form-zeros : (m : ℕ) (zs : List ℕ) → form (replicate m 0) zs ≡ 0
  form-zeros zero zs = refl
  form-zeros (suc m) [] = refl
  form-zeros (suc m) (z ∷ zs) = (λ j. add q (zero-mul q z j) (form-zeros m zs j)) ∙ add-zero q 0 (positive q P)

  -- a unit picks the z at its place
  pub form-unit : (k m : ℕ) (zs : List ℕ) → length zs ≡ m → k < m → Below q zs → form (unit_at k m) zs ≡ get_or zs k 0
  form-unit k zero zs l h b = absurd (not-suc-le-zero h)
  form-unit k (suc m) [] l h b = absurd (omega arith)
  form-unit zero (suc m) (z ∷ zs) l h b =
      (λ j. add q (one-mul z b.0 j) (form-zeros m zs j)) ∙ add-zero q z b.0
  form-unit (suc k) (suc m) (z ∷ zs) l h b =
      ap (λ v. add q v (form (unit_at k m) zs)) (zero-mul q z)
      ∙ zero-add (form (unit_at k m) zs) (form-below (unit_at k m) zs)
      ∙ form-unit k m zs (omega arith) (le_of_suc-le-suc h) b.1

  -- ---- two lists that differ at one place: the difference of the forms is that of the products there
  swap : (a b c : ℕ) → add q (add q a b) c ≡ add q (add q c b) a
  swap a b c = add_comm q (add q a b) c ∙ ap (add q c) (add_comm q a b) ∙ sym (add_assoc q c b a)

  pub form-differ : (k : ℕ) (xs ys zs : List ℕ) → length xs ≡ length ys → AgreeOff k xs ys
      → add q (form xs zs) (mul q (get_or ys k 0) (get_or zs k 0)) ≡ add q (form ys zs) (mul q (get_or xs k 0) (get_or zs k 0))
  form-differ k [] [] zs l a = refl
  form-differ k [] (y ∷ ys) zs l a = absurd (omega arith)
  form-differ k (x ∷ xs) [] zs l a = absurd (omega arith)
  form-differ k (x ∷ xs) (y ∷ ys) [] l a = ap (add q 0) (mul-zero q (get_or (y ∷ ys) k 0) ∙ sym (mul-zero q (get_or (x ∷ xs) k 0)))
  form-differ zero (x ∷ xs) (y ∷ ys) (z ∷ zs) l a =
      let e : xs ≡ ys = ext_get_or 0 xs ys (omega arith) (λ i h. a (suc i) (λ z. omega arith)) in
      ap (λ r. add q (add q (mul q x z) (form r zs)) (mul q y z)) e ∙ swap (mul q x z) (form ys zs) (mul q y z)
  form-differ (suc k) (x ∷ xs) (y ∷ ys) (z ∷ zs) l a =
      let r = form-differ k xs ys zs (omega arith) (λ j n. a (suc j) (λ e. n (omega arith))) in
      add_assoc q (mul q x z) (form xs zs) (mul q (get_or ys k 0) (get_or zs k 0))
      ∙ (λ j. add q (mul q (a 0 (λ e. omega arith) j) z) (r j))
      ∙ sym (add_assoc q (mul q y z) (form ys zs) (mul q (get_or xs k 0) (get_or zs k 0)))

  cancel : (a b z : ℕ) → a < q → b < q → 0 < z % q → mul q a z ≡ mul q b z → a ≡ b
  cancel a b z h k p e = sym (back a h) ∙ ap (λ v. mul q v (inv q z)) e ∙ back b k
    where
      back : (a : ℕ) → a < q → mul q (mul q a z) (inv q z) ≡ a
      back a h = mul_assoc q a z (inv q z) ∙ ap (mul q a) (mul-inv q P z p) ∙ mul-one q a h

  -- where z at the place is not 0, at most one value there makes the form 0
  pub form-one-value : (k : ℕ) (xs ys zs : List ℕ) → length xs ≡ length ys → k < length ys → Below q xs → Below q ys → AgreeOff k xs ys
      → 0 < get_or zs k 0 % q → form xs zs ≡ 0 → form ys zs ≡ 0 → get_or xs k 0 ≡ get_or ys k 0
  form-one-value k xs ys zs l h hx hy a p ex ey =
      let z : ℕ = get_or zs k 0 in
      let x : ℕ = get_or xs k 0 in
      let y : ℕ = get_or ys k 0 in
      let d : add q 0 (mul q y z) ≡ add q 0 (mul q x z) =
      (λ j. add q (sym ex j) (mul q y z)) ∙ form-differ k xs ys zs l a ∙ (λ j. add q (ey j) (mul q x z)) in
      let e : mul q x z ≡ mul q y z =
      sym (zero-add (mul q x z) (mul-below q x z (positive q P))) ∙ sym d ∙ zero-add (mul q y z) (mul-below q y z (positive q P)) in
      cancel x y z (All-at (λ v. v < q) xs k 0 (omega arith) hx) (All-at (λ v. v < q) ys k 0 h hy) p e
