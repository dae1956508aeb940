-- Figures in decimal: the last digit behind the others, and how many there are.
use mathlib.Core.Path.{◌≡◌, refl, sym, ap, ◌∙◌}
use mathlib.Core.Bool.{Bool, true, false}
use mathlib.Core.List.{List, [], ◌∷◌, ◌++◌}
use Prim.Native.Nat.{ℕ, zero, suc, ◌+◌, ◌/◌, ◌%◌, ◌^◌, ◌≤◌, ◌<◌}
use native.Mathlib.Nat.{pow-suc}
use native.Mathlib.Omega.{arith}
use borrow.Author.Tests.{lt-ltb, le-ltb, ltb-true, ltb-false}
use lib.ListN.{length, set, length-append}
use lib.Dec.{ltb}
use Rattle.words.specs.Choice.{pick}
use Rattle.words.proofs.Tests.{pick_true, pick-false}
use Rattle.text.specs.Text.{digits, figure}
use Rattle.text.specs.Buffer.{Room, Written}
use Rattle.text.proofs.Writing.{room-first, room-rest, both, written_one}

-- ---- digits
pub digits-one : (k v : ℕ) → v < 10 → digits (suc k) v ≡ (48 + v) ∷ []
unfolding digits
digits-one k v h = pick_true (ltb v 10) _ _ (lt-ltb v 10 h)

digits_last : (k v : ℕ) → 10 ≤ v → digits (suc k) v ≡ digits k (v / 10) ++ ((48 + v % 10) ∷ [])
unfolding digits
digits_last k v h = pick-false (ltb v 10) _ _ (le-ltb v 10 h)

-- where there are enough places, one more adds nothing
enough : (k v : ℕ) → v < 10 ^ suc k → digits (suc k) v ≡ digits (suc (suc k)) v
unfolding digits
enough zero v h = let s : v < 10 = omega (arith, h) in digits-one 0 v s ∙ sym (digits-one 1 v s)
enough (suc k) v h =
    let s : v / 10 < 10 ^ suc k = omega (arith, h, pow-suc 10 (suc k)) in
    ap (λ (t : List ℕ). pick (ltb v 10) ((48 + v) ∷ []) (t ++ ((48 + v % 10) ∷ []))) (enough k (v / 10) s)

-- of a number of 32 bits
pub digits_more : (v : ℕ) → 10 ≤ v → v < 2 ^ 32 → digits 10 v ≡ digits 10 (v / 10) ++ ((48 + v % 10) ∷ [])
digits_more v h l =
    let s : v / 10 < 10 ^ 9 = omega (arith, h, l) in
    digits_last 9 v h ∙ ap (λ (t : List ℕ). t ++ ((48 + v % 10) ∷ [])) (enough 8 (v / 10) s)

-- ---- digits written
-- one digit
module _ {k v : ℕ} {l : List ℕ} (h : v < 10) (room : Room k (digits 10 v) l) where
  pub one-room : k < length l
  one-room = omega (arith, (rw (digits-one 9 v h) at room).fits)

  pub one-digit : Written k (digits 10 v) l (set l k (48 + v)) (k + 1)
  one-digit = rw (digits-one 9 v h) (written_one k (48 + v) l one-room)

-- the last digit behind the others
module _ {k v : ℕ} {l : List ℕ} (h : 10 ≤ v) (b : v < 2 ^ 32) (room : Room k (digits 10 v) l) where
  split-room : Room k (digits 10 (v / 10) ++ ((48 + v % 10) ∷ [])) l
  split-room = rw (digits_more v h b) at room

  pub others-room : Room k (digits 10 (v / 10)) l
  others-room = room-first _ _ split-room

  module _ {m : List ℕ} {i : ℕ} (w : Written k (digits 10 (v / 10)) l m i) where
    pub last-room : i < length m
    last-room = omega (arith, (room-rest (digits 10 (v / 10)) _ split-room w).fits)

    pub last-digit : Written k (digits 10 v) l (set m i (48 + v % 10)) (i + 1)
    last-digit = rw (digits_more v h b) (both (digits 10 (v / 10)) _ split-room w (written_one i (48 + v % 10) m last-room))

-- ---- a figure
module _ (k v : ℕ) (l : List ℕ) (room : Room k (figure v) l) where
  pub space-room : k < length l
  unfolding figure
  space-room = omega (arith, room.fits)

  pub digits-room : Room (k + 1) (digits 10 v) (set l k 32)
  unfolding figure
  digits-room = room-rest (32 ∷ []) (digits 10 v) room (written_one k 32 l space-room)

  pub figure-written : {m : List ℕ} {r : ℕ} → Written (k + 1) (digits 10 v) (set l k 32) m r → Written k (figure v) l m r
  unfolding figure
  figure-written w = both (32 ∷ []) (digits 10 v) room (written_one k 32 l space-room) w

-- ---- how many bytes
digits-most : (k v : ℕ) → length (digits k v) ≤ k
unfolding digits
digits-most zero v = omega arith
digits-most (suc k) v = go (ltb v 10) (digits-most k (v / 10))
  where
    go : (b : Bool) → length (digits k (v / 10)) ≤ k
        → length (pick b ((48 + v) ∷ []) (digits k (v / 10) ++ ((48 + v % 10) ∷ []))) ≤ suc k
    go true h = omega arith
    go false h = omega (arith, length-append (digits k (v / 10)) ((48 + v % 10) ∷ []))

pub figure-most : (v : ℕ) → length (figure v) ≤ 11
unfolding figure
figure-most v = omega (arith, digits-most 10 v)

-- a number of two digits
pub short-figure : (v : ℕ) → v < 100 → length (figure v) ≤ 3
unfolding figure
short-figure v h = go (ltb v 10) refl
  where
    go : (b : Bool) → ltb v 10 ≡ b → length (32 ∷ digits 10 v) ≤ 3
    go true e = omega (arith, ap length (digits-one 9 v (ltb-true v 10 e)))
    go false e =
        let s : v / 10 < 10 = omega arith in
        omega (
          arith,
          ap length (digits_last 9 v (ltb-false v 10 e)),
          length-append (digits 9 (v / 10)) ((48 + v % 10) ∷ []),
          ap length (digits-one 8 (v / 10) s),
        )
