-- Text written one piece behind the other: where each piece finds room, and what they are together.
use mathlib.Core.Path.{◌≡◌, refl, sym, ap, ◌∙◌, subst}
use mathlib.Core.List.{List, [], ◌∷◌, ◌++◌}
use Prim.Native.Nat.{ℕ, ◌+◌, ◌<◌}
use native.Mathlib.Omega.{arith}
use lib.ListN.{length, drop, set, length-append}
use Rattle.words.specs.Bytes.{put_at}
use Rattle.words.proofs.Bytes.{put-length, put-none, put_byte, put-put}
use Rattle.text.specs.Buffer.{Room, Written}

-- ---- another name of the same text
module _ {k : ℕ} {xs ys l : List ℕ} (e : xs ≡ ys) where
  pub room_as : Room k xs l → Room k ys l
  room_as = subst (λ (t : List ℕ). Room k t l) e

  pub written_as : {m : List ℕ} {r : ℕ} → Written k ys l m r → Written k xs l m r
  written_as {m} {r} = subst (λ (t : List ℕ). Written k t l m r) (sym e)

-- ---- two pieces
module _ {k : ℕ} {l : List ℕ} (xs ys : List ℕ) (room : Room k (xs ++ ys) l) where
  pub room-first : Room k xs l
  room-first = record { fits = omega (arith, room.fits, length-append xs ys) }

  module _ {m : List ℕ} {i : ℕ} (w : Written k xs l m i) where
    pub room-rest : Room i ys m
    room-rest =
        record {
          fits =
              omega (arith, room.fits, w.behind, length-append xs ys, ap length w.bytes, put-length k xs l room-first.fits);
        }

    pub both : {n : List ℕ} {j : ℕ} → Written i ys m n j → Written k (xs ++ ys) l n j
    both {n} {j} v =
        record {
          bytes =
              v.bytes
              ∙ ap (put_at i ys) w.bytes
              ∙ put-put k i xs ys l w.behind (omega (arith, w.behind, room-first.fits));
          behind = omega (arith, v.behind, w.behind, length-append xs ys);
        }

-- ---- four pieces
module _ {k : ℕ} {l : List ℕ} (a b c d : List ℕ) (room : Room k (a ++ (b ++ (c ++ d))) l) where
  pub first-room : Room k a l
  first-room = room-first a (b ++ (c ++ d)) room

  module _ {m : List ℕ} {i : ℕ} (u : Written k a l m i) where
    rest : Room i (b ++ (c ++ d)) m
    rest = room-rest a (b ++ (c ++ d)) room u

    pub second-room : Room i b m
    second-room = room-first b (c ++ d) rest

    module _ {n : List ℕ} {j : ℕ} (v : Written i b m n j) where
      pub third-room : Room j c n
      third-room = room-first c d (room-rest b (c ++ d) rest v)

      module _ {o : List ℕ} {h : ℕ} (w : Written j c n o h) where
        pub fourth-room : Room h d o
        fourth-room = room-rest c d (room-rest b (c ++ d) rest v) w

        pub all-four : {p : List ℕ} {r : ℕ} → Written h d o p r → Written k (a ++ (b ++ (c ++ d))) l p r
        all-four x = both a (b ++ (c ++ d)) room u (both b (c ++ d) rest v (both c d (room-rest b (c ++ d) rest v) w x))

-- ---- bytes one by one
pub written_none : (k r : ℕ) (l : List ℕ) → r ≡ k → Written k [] l l r
written_none k r l e = record { bytes = sym (put-none k l); behind = omega arith }

pub written_one : (k x : ℕ) (l : List ℕ) → k < length l → Written k (x ∷ []) l (set l k x) (k + 1)
written_one k x l h = record { bytes = put_byte k x l h; behind = refl }

-- ---- at the start of a buffer
pub at-start : (bs l m : List ℕ) (r : ℕ) → Written 0 bs l m r → (r ≡ length bs) × (m ≡ bs ++ drop r l)
unfolding put_at
at-start bs l m r w =
    let e : r ≡ length bs = omega (arith, w.behind) in
    (e, w.bytes ∙ ap (λ (x : ℕ). bs ++ drop x l) (let z : 0 + length bs ≡ r = omega arith in z))
