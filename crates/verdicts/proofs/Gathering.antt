-- The turns of the loop that gathers the t lowest members with accepted shares: after k records of a form's shares, which stand from s on,
-- it holds the first t that these give.
use mathlib.Core.Path.{◌≡◌, refl, sym, ap, ◌∙◌}
use mathlib.Core.Bool.{Bool, true, false}
use mathlib.Core.List.{List, [], ◌∷◌, ◌++◌, append-nil}
use Prim.Native.Nat.{ℕ, zero, suc, ◌+◌, ◌<◌, ◌≤◌}
use native.Mathlib.Omega.{arith}
use lib.ListN.{length, take, set, replicate, length-take, length-append}
use lib.Seq.{take-nil, take-append-le}
use Rattle.words.specs.Choice.{pick}
use Rattle.words.specs.Lists.{map, up_from, filled}
use Rattle.words.specs.Bytes.{record_at}
use Rattle.words.proofs.Lists.{map-length, map-append, up-last, filled_none, filled_next}
use Rattle.sharing.specs.declared.Setting.{Setting}
use Rattle.records.specs.Layout.{member_of, Z_of}
use Rattle.board.specs.Search.{filter}
use Rattle.share.specs.declared.ShareForm.{ShareForm}
use Rattle.verdicts.specs.Shares.{Judges, is_share_in, shares_in}
use Rattle.verdicts.specs.Gathered.{pushed, with_share, held_of, lowest_in}
use Rattle.verdicts.specs.declared.GatheredShares.{GatheredShares}

-- ---- the first t of a list
take-room : (t : ℕ) (xs : List ℕ) (x : ℕ) → length (take t xs) < t → take t (xs ++ (x ∷ [])) ≡ take t xs ++ (x ∷ [])
take-room zero xs x h = absurd (omega arith)
take-room (suc t) [] x h = ap (λ (l : List ℕ). x ∷ l) (take-nil t)
take-room (suc t) (y ∷ xs) x h = ap (λ (l : List ℕ). y ∷ l) (take-room t xs x (omega arith))

-- ---- the first t of the k numbers from s on that pass a test
up_more : (s k m : ℕ) → up_from s (k + m) ≡ up_from s k ++ up_from (s + k) m
up_more s zero m =
    let a : 0 + m ≡ m = omega arith in
    let e : s ≡ s + 0 = omega arith in
    λ j. up_from (e j) (a j)
up_more s (suc k) m =
    let a : suc k + m ≡ suc (k + m) = omega arith in
    let e : suc s + k ≡ s + suc k = omega arith in
    ap (up_from s) a ∙ ap (λ (l : List ℕ). s ∷ l) (up_more (suc s) k m ∙ ap (λ (x : ℕ). up_from (suc s) k ++ up_from x m) e)

module _ (f : ℕ → Bool) (s : ℕ) where
  filter-append : (xs ys : List ℕ) → filter f (xs ++ ys) ≡ filter f xs ++ filter f ys
  filter-append [] ys = refl
  filter-append (x ∷ xs) ys = by-test (f x) (filter-append xs ys)
    where
      by-test : (b : Bool) → filter f (xs ++ ys) ≡ filter f xs ++ filter f ys
          → pick b (x ∷ filter f (xs ++ ys)) (filter f (xs ++ ys)) ≡ pick b (x ∷ filter f xs) (filter f xs) ++ filter f ys
      by-test true e = ap (λ (l : List ℕ). x ∷ l) e
      by-test false e = e

  abbrev passing : ℕ → List ℕ
  passing k = filter f (up_from s k)

  module _ (t k : ℕ) where
    abbrev pub lowest : List ℕ
    lowest = take t (passing k)

    last : passing (k + 1) ≡ passing k ++ pick (f (s + k)) ((s + k) ∷ []) []
    last = ap (filter f) (up-last s k) ∙ filter-append (up_from s k) ((s + k) ∷ [])

    lowest-more : f (s + k) ≡ true → length lowest < t → take t (passing (k + 1)) ≡ lowest ++ ((s + k) ∷ [])
    lowest-more p h = ap (take t) (last ∙ ap (λ (x : Bool). passing k ++ pick x ((s + k) ∷ []) []) p) ∙ take-room t (passing k) (s + k) h

    lowest-same : f (s + k) ≡ false → take t (passing (k + 1)) ≡ lowest
    lowest-same p = ap (take t) (last ∙ ap (λ (x : Bool). passing k ++ pick x ((s + k) ∷ []) []) p ∙ append-nil (passing k))

    lowest-full : (m : ℕ) → t ≤ length lowest → take t (passing (k + m)) ≡ lowest
    lowest-full m h =
        ap (take t) (ap (filter f) (up_more s k m) ∙ filter-append (up_from s k) (up_from (s + k) m))
        ∙ take-append-le t (passing k) (filter f (up_from (s + k) m)) (omega (arith, length-take t (passing k)))

-- ---- one more, held behind the others
held_more : (b is : List ℕ) (i : ℕ) → length is < 31
    → pushed (member_of (record_at b i)) (Z_of (record_at b i)) (held_of b is) ≡ held_of b (is ++ (i ∷ []))
unfolding held_of
held_more b is i h =
    let more : (g : ℕ → ℕ) → set (filled 31 (map g is)) (length is) (g i) ≡ filled 31 (map g (is ++ (i ∷ []))) =
    λ g. filled_next 31 (length is) (map g is) (map-length g is) refl (g i) h (sym (map-append g is (i ∷ []))) in
    λ j. record { members = more (λ i. member_of (record_at b i)) j; shares = more (λ i. Z_of (record_at b i)) j; count = sym (length-append is (i ∷ [])) j }

-- ---- the loop
module _ (J : Judges) (S : Setting) (b : List ℕ) (F : ShareForm) (Ys : List ℕ) (s : ℕ) where
  abbrev pub held_at : ℕ → GatheredShares
  held_at k = held_of b (lowest (is_share_in J S b F Ys) s S.t k)

  pub held_none : record { members = replicate 31 0; shares = replicate 31 0; count = 0 } ≡ held_at 0
  unfolding held_of
  held_none =
      let e : [] ≡ lowest (is_share_in J S b F Ys) s S.t 0 = sym (take-nil S.t) in
      λ j. record { members = (filled_none 31 ∙ ap (λ (is : List ℕ). filled 31 (map (λ i. member_of (record_at b i)) is)) e) j; shares = (filled_none 31 ∙ ap (λ (is : List ℕ). filled 31 (map (λ i. Z_of (record_at b i)) is)) e) j; count = length (e j) }

  module _ (k : ℕ) {A : GatheredShares} (e : A ≡ held_at k) where
    held-count : A.count ≡ length (lowest (is_share_in J S b F Ys) s S.t k)
    unfolding held_of
    held-count = ap (λ (B : GatheredShares). B.count) e

    pub held-most : A.count ≤ S.t
    held-most = omega (arith, held-count, length-take S.t (passing (is_share_in J S b F Ys) s k))

    pub held_next : S.t ≤ 31 → A.count < S.t → with_share J S b F Ys (s + k) A ≡ held_at (k + 1)
    unfolding with_share held_of
    held_next l h = ap (with_share J S b F Ys (s + k)) e ∙ by-test (is_share_in J S b F Ys (s + k)) refl
      where
        is : List ℕ
        is = lowest (is_share_in J S b F Ys) s S.t k

        by-test : (x : Bool) → is_share_in J S b F Ys (s + k) ≡ x
            → pick x
            (pushed (member_of (record_at b (s + k))) (Z_of (record_at b (s + k))) (held_of b is))
            (held_of b is)
            ≡ held_at (k + 1)
        by-test true p = held_more b is (s + k) (omega (arith, held-count)) ∙ ap (held_of b) (sym (lowest-more (is_share_in J S b F Ys) s S.t k p (omega (arith, held-count))))
        by-test false p = ap (held_of b) (sym (lowest-same (is_share_in J S b F Ys) s S.t k p))

    -- all n of the shares are seen, or t are found
    module _ (n : ℕ) (all : filter (is_share_in J S b F Ys) (up_from s n) ≡ shares_in J S b F Ys) where
      pub held_all : k ≡ n → A ≡ lowest_in J S b F Ys
      unfolding lowest_in
      held_all h = e ∙ ap held_at h ∙ ap (λ (is : List ℕ). held_of b (take S.t is)) all

      pub held-full : (m : ℕ) → k + m ≡ n → S.t ≤ A.count → A ≡ lowest_in J S b F Ys
      unfolding lowest_in
      held-full m h l =
          e ∙ ap (held_of b) (sym (lowest-full (is_share_in J S b F Ys) s S.t k m (omega (arith, held-count)))) ∙ ap held_at h
          ∙ ap (λ (is : List ℕ). held_of b (take S.t is)) all
