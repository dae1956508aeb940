-- The turns of the loop over the dealers, from the last to the first: what is held is what the dealers above d give.
use mathlib.Core.Path.{◌≡◌, refl, sym, ap, ◌∙◌, subst}
use mathlib.Core.Bool.{Bool, true, false}
use mathlib.Core.List.{List, [], ◌∷◌}
use Prim.Native.Nat.{ℕ, zero, suc, ◌+◌, ◌-◌, ◌<◌, ◌≤◌}
use native.Mathlib.Omega.{arith}
use borrow.Author.Tests.{le-leb, lt-leb}
use lib.ListN.{length, get_or, drop, set, replicate, length-set}
use lib.Seq.{drop-set-lt, get_or-set_same}
use Rattle.words.specs.Choice.{pick}
use Rattle.words.specs.Lists.{map, up_from}
use Rattle.words.proofs.Lists.{drop-back, map-length, map_at, up-length, up_at}
use Rattle.sharing.specs.Setting.{members}
use Rattle.verdicts.specs.Verdict.{is_stuck}
use Rattle.verdicts.specs.Draw.{count_one, count_accepted, any_stuck, times_secret, secrets_product, place_for, verdict_places, no_verdicts}
use Rattle.verdicts.specs.declared.Verdict.{Verdict}
use Rattle.verdicts.specs.declared.Verdict.TheVariants.{None, Refused, Accepted}

pub count_most : (v : Verdict) → count_one v ≤ 1
count_most None = omega arith
count_most (Refused k) = omega arith
count_most (Accepted s) = omega arith

-- ---- the dealers above d
module _ (n : ℕ) where
  abbrev pub dealers_above : ℕ → List ℕ
  dealers_above d = up_from (d + 1) (n - d)

  pub dealers-none : dealers_above n ≡ []
  dealers-none = let z : n - n ≡ 0 = omega arith in ap (up_from (n + 1)) z

  pub dealers-more : (d : ℕ) → 0 < d → d ≤ n → dealers_above (d - 1) ≡ d ∷ dealers_above d
  dealers-more d h l =
      let a : d - 1 + 1 ≡ d = omega arith in
      let m : n - (d - 1) ≡ suc (n - d) = omega arith in
      let s : suc d ≡ d + 1 = omega arith in
      (λ j. up_from (a j) (m j)) ∙ ap (λ (x : ℕ). d ∷ up_from x (n - d)) s

  pub dealers-all : (d : ℕ) → d ≡ 0 → dealers_above d ≡ members n
  dealers-all d e =
      let a : d + 1 ≡ 1 = omega arith in
      let m : n - d ≡ n = omega arith in
      λ j. up_from (a j) (m j)

-- their verdicts
module _ (w : ℕ → Verdict) (n : ℕ) where
  above-none : map w (dealers_above n n) ≡ []
  above-none = ap (map w) (dealers-none n)

  above_more : (d : ℕ) → 0 < d → d ≤ n → map w (dealers_above n (d - 1)) ≡ w d ∷ map w (dealers_above n d)
  above_more d h l = ap (map w) (dealers-more n d h l)

  above-all : (d : ℕ) → d ≡ 0 → map w (dealers_above n d) ≡ map w (members n)
  above-all d e = ap (map w) (dealers-all n d e)

-- ---- the places
module _ (w : ℕ → Verdict) (n : ℕ) where
  -- behind the first n there is no verdict
  behind : (k i m : ℕ) → n < i + k → drop k (replicate m None) ≡ drop k (map (place_for w n) (up_from i m))
  behind zero i zero h = refl
  behind zero i (suc m) h =
      let e : place_for w n i ≡ None = ap (λ (x : Bool). pick x (w i) None) (lt-leb i n (omega arith)) in
      λ j. sym e j ∷ behind zero (suc i) m (omega arith) j
  behind (suc k) i zero h = refl
  behind (suc k) i (suc m) h = behind k (suc i) m (omega arith)

  places-start : drop n no_verdicts ≡ drop n (verdict_places w n)
  unfolding verdict_places
  places-start = behind n 1 31 (omega arith)

  places-length : length (verdict_places w n) ≡ 31
  unfolding verdict_places
  places-length = map-length (place_for w n) (up_from 1 31) ∙ up-length 1 31

  -- the place of the dealer d
  pub place-of : (d : ℕ) → 0 < d → d ≤ n → n ≤ 31 → get_or (verdict_places w n) (d - 1) None ≡ w d
  unfolding verdict_places
  place-of d h u v =
      let e : 1 + (d - 1) ≡ d = omega arith in
      map_at (place_for w n) (up_from 1 31) (d - 1) 0 None (omega arith)
      ∙ ap (place_for w n) (up_at 1 31 (d - 1) (omega arith) ∙ e)
      ∙ ap (λ (x : Bool). pick x (w d) None) (le-leb d n u)

  place_at : (d : ℕ) → 0 < d → d ≤ n → n ≤ 31 → drop (d - 1) (verdict_places w n) ≡ w d ∷ drop d (verdict_places w n)
  place_at d h u v =
      drop-back (verdict_places w n) d None h (omega (arith, places-length))
      ∙ ap (λ (x : Verdict). x ∷ drop d (verdict_places w n)) (place-of d h u v)

  places-next : (d : ℕ) (l : List Verdict) (x : Verdict) → 0 < d → d ≤ n → n ≤ 31 → length l ≡ 31 → drop d l ≡ drop d (verdict_places w n) → x ≡ w d
      → drop (d - 1) (set l (d - 1) x) ≡ drop (d - 1) (verdict_places w n)
  places-next d l x h u v z e f =
      drop-back (set l (d - 1) x) d None h (omega (arith, length-set l (d - 1) x, z))
      ∙ (λ i. get_or-set_same l (d - 1) x None (omega (arith, z)) i ∷ drop-set-lt d l (d - 1) x (omega arith) i)
      ∙ (λ i. f i ∷ e i)
      ∙ sym (place_at d h u v)

-- ---- the loop
pub record DealersAbove (w : ℕ → Verdict) (p n d : ℕ) (verdicts : List Verdict) (accepted : ℕ) (stuck : Bool) (product : ℕ) : Type 0 where
  pub within : d ≤ n
  pub size : length verdicts ≡ 31
  pub filled : drop d verdicts ≡ drop d (verdict_places w n)
  pub count : accepted ≡ count_accepted (map w (dealers_above n d))
  pub any : stuck ≡ any_stuck (map w (dealers_above n d))
  pub whole : product ≡ secrets_product p (map w (dealers_above n d))
  pub few : accepted ≤ n - d

pub above-start : (w : ℕ → Verdict) (p n : ℕ) → DealersAbove w p n n no_verdicts 0 false 1
above-start w p n =
    record {
      within = omega arith;
      size = refl;
      filled = places-start w n;
      count = ap count_accepted (sym (above-none w n));
      any = ap any_stuck (sym (above-none w n));
      whole = ap (secrets_product p) (sym (above-none w n));
      few = omega arith;
    }

module _ (w : ℕ → Verdict) (p n d : ℕ) (verdicts : List Verdict) (accepted : ℕ) (stuck : Bool) (product : ℕ) (T : DealersAbove w p n d verdicts accepted stuck product) where
  pub above-next : 0 < d → n ≤ 31 → (v : Verdict) (c : ℕ) (y : Bool) (x : ℕ)
      → v ≡ w d → c ≡ count_one v → y ≡ pick (is_stuck v) true stuck → x ≡ times_secret p v product
      → DealersAbove w p n (d - 1) (set verdicts (d - 1) v) (accepted + c) y x
  above-next h l v c y x e ec ey ex =
      let m = above_more w n d h T.within in
      let turned : accepted + c ≡ c + accepted = omega arith in
      record {
        within = omega (arith, T.within);
        size = length-set verdicts (d - 1) v ∙ T.size;
        filled = places-next w n d verdicts v h T.within l T.size T.filled e;
        count = turned ∙ (λ j. ec j + T.count j) ∙ ap (λ (u : Verdict). count_one u + count_accepted (map w (dealers_above n d))) e ∙ ap count_accepted (sym m);
        any = ey ∙ (λ j. pick (is_stuck (e j)) true (T.any j)) ∙ ap any_stuck (sym m);
        whole = ex ∙ (λ j. times_secret p (e j) (T.whole j)) ∙ ap (secrets_product p) (sym m);
        few = omega (arith, ec, count_most v, T.few, T.within);
      }

  module _ (z : d ≡ 0) where
    pub all-verdicts : verdicts ≡ verdict_places w n
    all-verdicts = subst (λ (i : ℕ). drop i verdicts ≡ drop i (verdict_places w n)) z T.filled

    pub all-counted : accepted ≡ count_accepted (map w (members n))
    all-counted = T.count ∙ ap count_accepted (above-all w n d z)

    pub all-stuck : stuck ≡ any_stuck (map w (members n))
    all-stuck = T.any ∙ ap any_stuck (above-all w n d z)

    pub all-secrets : product ≡ secrets_product p (map w (members n))
    all-secrets = T.whole ∙ ap (secrets_product p) (above-all w n d z)
