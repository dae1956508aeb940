-- What the loops over members and figures keep, each of which runs down a list: the members, or a product of powers, of the part of the
-- list from an index on. Each has a law for its start, at the list's end, and one for a turn.
use mathlib.Core.Path.{◌≡◌, sym, ap, ◌∙◌}
use mathlib.Core.List.{List, [], ◌∷◌, reverse}
use mathlib.Core.List as lists
use Prim.Native.Nat.{ℕ, ◌+◌, ◌-◌, ◌≤◌, ◌<◌}
use native.Mathlib.Omega.{arith}
use denote.Ref.{Bor}
use Rattle.std.specs.Iterator.{Yields}
use Rattle.std.specs.Iterator.Adapters.{rev_source, rev_steps}
use Rattle.std.specs.Slice.Iter.{iter_rest, iter_steps_back}
use Rattle.std.specs.declared.iter.Rev.{Rev}
use Rattle.std.proofs.Common.{Option, None, Iter}
use Rattle.std.proofs.lemmas.List.{reverse-reverse, drop_all}
use Rattle.std.proofs.lemmas.Iterator.Consumers.{YieldsList-end}
use Rattle.std.proofs.lemmas.Iterator.Adapters.{YieldsList-from_rev_slice}
use lib.ListN.{length, get_or, drop}
use lib.Seq.{drop-length}
use Rattle.words.specs.Lists.{map}
use Rattle.words.proofs.Lists.{drop-back, drop-next, map-length, map_at, up-length, up_at}
use Rattle.field.specs.Residue.{mul}
use Rattle.group.specs.Power.{pow}
use Rattle.sharing.specs.Setting.{members}
use Rattle.sharing.specs.Weights.{weight_at, weights_of, powers_product}
use Rattle.sharing.specs.declared.Setting.{Setting}

pub member-at : (n j : ℕ) → 0 < j → j ≤ n → get_or (members n) (j - 1) 0 ≡ j
member-at n j h l = up_at 1 n (j - 1) (omega arith) ∙ omega arith

-- all that a loop over a list from its last to its first was given, when it ends: the list, read the other way
pub came_back : {A : Type 0} (xs : List A) (s t u : Rev (Iter A)) (r : Option (Bor A)) (came : List (Bor A)) → iter_rest (rev_source s) ≡ xs
    → Yields (rev_steps iter_steps_back) s came t → r ≡ None → rev_steps iter_steps_back t r u → reverse (lists.map (λ x. x.now) came) ≡ xs
came_back xs s t u r came e y n steps =
    ap reverse (YieldsList-end (YieldsList-from_rev_slice xs e) came t y r u n steps).0 ∙ reverse-reverse xs

-- the members from index j on, as a loop runs down
pub members_end : (n : ℕ) → drop n (members n) ≡ []
members_end n = ap (λ (k : ℕ). drop k (members n)) (sym (up-length 1 n)) ∙ drop-length (members n)

pub members_back : (n j : ℕ) → 0 < j → j ≤ n → drop (j - 1) (members n) ≡ j ∷ drop j (members n)
members_back n j h l = rw (drop-back (members n) j 0 h (omega (arith, up-length 1 n)), member-at n j h l)

-- ---- the product of the powers of two lists of one length from index k on
pub powers_end : (p k : ℕ) (vs es : List ℕ) → length vs ≤ k → powers_product p (drop k vs) (drop k es) ≡ 1
unfolding powers_product
powers_end p k vs es h = rw (drop_all k vs h)

pub powers-next : (p : ℕ) (vs es : List ℕ) (k : ℕ) → 0 < k → k ≤ length vs → length es ≡ length vs
    → mul p (pow p (get_or vs (k - 1) 0) (get_or es (k - 1) 0)) (powers_product p (drop k vs) (drop k es)) ≡ powers_product p (drop (k - 1) vs) (drop (k - 1) es)
unfolding powers_product
powers-next p vs es k h b s =
    let c : k ≤ length es = omega arith in
    rw (drop-back vs k 0 h b, drop-back es k 0 h c)

pub powers_back : (p k n : ℕ) (vs : List ℕ) (f : ℕ → ℕ) (is : List ℕ) → n ≡ k + 1 → k < length is → length is ≡ length vs
    → mul p (pow p (get_or vs k 0) (f (get_or is k 0))) (powers_product p (drop n vs) (drop n (map f is))) ≡ powers_product p (drop k vs) (drop k (map f is))
unfolding powers_product
powers_back p k n vs f is o h e =
    let l : k < length vs = omega arith in
    let m : k < length (map f is) = omega (arith, map-length f is) in
    rw (o, drop-next vs k 0 l, drop-next (map f is) k 0 m, map_at f is k 0 0 h)

-- ---- the weights
module _ (S : Setting) (ds : List ℕ) where
  pub weights-length : length (weights_of S ds) ≡ S.n
  unfolding weights_of
  weights-length = map-length (weight_at S ds) (members S.n) ∙ up-length 1 S.n

  pub weights-at : (j : ℕ) → 0 < j → j ≤ S.n → get_or (weights_of S ds) (j - 1) 0 ≡ weight_at S ds j
  unfolding weights_of
  weights-at j h l =
      map_at (weight_at S ds) (members S.n) (j - 1) 0 0 (omega (arith, up-length 1 S.n)) ∙ ap (weight_at S ds) (member-at S.n j h l)

-- the product of the powers where they are the exponents
pub weights_back : (S : Setting) (ds vs : List ℕ) (i : ℕ) → 0 < i → i ≤ S.n → length vs ≡ S.n
    → mul S.group.p (pow S.group.p (get_or vs (i - 1) 0) (weight_at S ds i)) (powers_product S.group.p (drop i vs) (drop i (weights_of S ds)))
    ≡ powers_product S.group.p (drop (i - 1) vs) (drop (i - 1) (weights_of S ds))
weights_back S ds vs i h l e =
    ap (λ (x : ℕ). mul S.group.p (pow S.group.p (get_or vs (i - 1) 0) x) (powers_product S.group.p (drop i vs) (drop i (weights_of S ds)))) (sym (weights-at S ds i h l))
    ∙ powers-next S.group.p vs (weights_of S ds) i h (omega arith) (weights-length S ds ∙ sym e)
