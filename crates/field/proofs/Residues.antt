-- The residues modulo a prime as a field: a number below m with the proof that it is; and lists of numbers below m as lists of residues.
use mathlib.Core.Path.{◌≡◌, refl, sym, ap, ◌∙◌}
use mathlib.Core.List.{List, [], ◌∷◌}
use mathlib.Core.HLevel.{hedberg}
use mathlib.Core.Logic.{⊎_elim}
use Prim.Native.Nat.{ℕ, Fin, suc, ◌%◌, ◌<◌}
use native.Mathlib.Nat.{mod-eq_of_lt, eq-zero-or-pos}
use native.Mathlib.Decide.{Fin-discrete}
use native.Mathlib.Omega.{arith}
use lib.ListN.{length}
use Rattle.words.specs.Lists.{All, Distinct, Below, map}
use Rattle.words.proofs.Lists.{All-each, map-all}
use Rattle.field.specs.Residue.{add, mul, neg, inv}
use Rattle.field.specs.Prime.{Prime}
use Rattle.field.specs.Algebra.{Ops, Field}
use Rattle.field.specs.Claims.{ResidueField, ResiduesAreField}
use Rattle.field.proofs.Modular as M
use Rattle.field.proofs.Inverses.{positive, inv-below, mul-inv}

module _ (m : ℕ) (P : Prime m) where
  abbrev ops : Ops (Fin m)
  ops =
      record {
        zero = (0, positive m P);
        one = (1, P.above-one);
        add = λ a b. (add m a.0 b.0, M.add-below m a.0 b.0 (positive m P));
        mul = λ a b. (mul m a.0 b.0, M.mul-below m a.0 b.0 (positive m P));
        neg = λ a. (neg m a.0, M.neg-below m a.0 (positive m P));
        inv = λ a. (inv m a.0, inv-below m P a.0);
      }

  nonzero : (x : Fin m) → (x ≡ ops.zero → ⊥) → 0 < x.0 % m
  nonzero x n =
      rw (mod-eq_of_lt x.1) (⊎_elim (λ e. absurd (n (native.Mathlib.Fin.val_path e))) (λ p. p) (eq-zero-or-pos x.0))

  field : Field ops
  field =
      record {
        is_set = hedberg (Fin-discrete m);
        add_assoc = λ a b c. native.Mathlib.Fin.val_path (M.add_assoc m a.0 b.0 c.0);
        add_comm = λ a b. native.Mathlib.Fin.val_path (M.add_comm m a.0 b.0);
        add-zero = λ a. native.Mathlib.Fin.val_path (M.add-zero m a.0 a.1);
        add-neg = λ a. native.Mathlib.Fin.val_path (M.add-neg m a.0 (positive m P));
        mul_assoc = λ a b c. native.Mathlib.Fin.val_path (M.mul_assoc m a.0 b.0 c.0);
        mul_comm = λ a b. native.Mathlib.Fin.val_path (M.mul_comm m a.0 b.0);
        mul-one = λ a. native.Mathlib.Fin.val_path (M.mul-one m a.0 a.1);
        mul-add = λ a b c. native.Mathlib.Fin.val_path (M.mul-add m a.0 b.0 c.0);
        one-ne = λ e. let z : ◌≡◌ {A = ℕ} 1 0 = ap (λ (u : Fin m). u.0) e in omega arith;
        mul-inv = λ a h. native.Mathlib.Fin.val_path (mul-inv m P a.0 (nonzero a h));
        eq-zero = λ a. Fin-discrete m a ops.zero;
      }

pub residues : ResiduesAreField
residues m P =
    record {
      Residue = Fin m;
      number = λ a. a.0;
      ops = ops m P;
      field = field m P;
      keeps =
          record { at_zero = refl; at_one = refl; at-add = λ a b. refl; at_mul = λ a b. refl; at-neg = λ a. refl; at-inv = λ a. refl };
      below = λ a. a.1;
      of = λ a h. (a, h);
      number-of = λ a h. refl;
      same = λ x y e. native.Mathlib.Fin.val_path e;
    }

-- ---- lists
module _ {m : ℕ} (R : ResidueField m) where
  -- the residues that numbers below m stand for
  abbrev pub lift : (xs : List ℕ) → Below m xs → List R.Residue
  lift [] h = []
  lift (x ∷ xs) h = R.of x h.0 ∷ lift xs h.1

  pub lift-numbers : (xs : List ℕ) (h : Below m xs) → map R.number (lift xs h) ≡ xs
  lift-numbers [] h = refl
  lift-numbers (x ∷ xs) h = λ j. R.number-of x h.0 j ∷ lift-numbers xs h.1 j

  pub lift-length : (xs : List ℕ) (h : Below m xs) → length (lift xs h) ≡ length xs
  lift-length [] h = refl
  lift-length (x ∷ xs) h = ap suc (lift-length xs h.1)

  -- a fact of every number gives one of every residue
  pub lift-all : (P : ℕ → Type 0) (Q : R.Residue → Type 0) → ((a : R.Residue) → P (R.number a) → Q a)
      → (xs : List ℕ) (h : Below m xs) → All P xs → All Q (lift xs h)
  lift-all P Q f [] h p = tt
  lift-all P Q f (x ∷ xs) h p = (f (R.of x h.0) (rw R.number-of p.0), lift-all P Q f xs h.1 p.1)

  pub lift-distinct : (xs : List ℕ) (h : Below m xs) → Distinct xs → Distinct (lift xs h)
  lift-distinct [] h d = tt
  lift-distinct (x ∷ xs) h d =
      (lift-all _ _ (λ a n e. n (sym (R.number-of x h.0) ∙ ap R.number e)) xs h.1 d.0, lift-distinct xs h.1 d.1)

  pub lift-nonzero : (xs : List ℕ) (h : Below m xs) → All (λ x. x ≡ 0 → ⊥) xs → All (λ a. a ≡ R.ops.zero → ⊥) (lift xs h)
  lift-nonzero xs h n = lift-all _ _ (λ a n e. n (ap R.number e ∙ R.keeps.at_zero)) xs h n

  -- the numbers of residues are below m
  pub numbers-below : (xs : List R.Residue) → Below m (map R.number xs)
  numbers-below xs = map-all R.number (λ x. x < m) xs (All-each xs R.below)
