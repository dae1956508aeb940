-- The words of a block, and an array that is filled with them in order.
use Rattle.std.proofs.Common.{◌≡◌, ℕ, ◌+◌, ◌*◌, ◌<◌, ◌≤◌, List, length, get_or, take, set, sym, refl, ap, ◌∙◌, add-one, arith, take_all, take-suc, take-suc-set}
use Rattle.words.specs.Lists.{up_from}
use Rattle.words.specs.Bytes.{word_at}
use Rattle.words.proofs.Lists.{map_at, up_at}
use Rattle.sha256.specs.Padding.{block}

module _ (p : List ℕ) (i : ℕ) where
  block-length : length (block p i) ≡ 16
  unfolding block
  block-length = refl

  block_at : (j : ℕ) → j < 16 → get_or (block p i) j 0 ≡ word_at p (4 * (16 * i + j))
  unfolding block
  block_at j h =
      let e : 64 * i + 4 * get_or (up_from 0 16) j 0 ≡ 4 * (16 * i + j) = omega (arith, up_at 0 16 j h) in
      map_at (λ t. word_at p (64 * i + 4 * t)) (up_from 0 16) j 0 0 h ∙ ap (word_at p) e

  -- a store of word j, where the first j words stand
  module _ (m : List ℕ) (j : ℕ) (stand : take j m ≡ take j (block p i)) where
    pub block-next : (v : ℕ) → j < 16 → j < length m → v ≡ word_at p (4 * (16 * i + j)) → take (j + 1) (set m j v) ≡ take (j + 1) (block p i)
    block-next v h r e =
        let l : j < length (block p i) = omega (arith, block-length) in
        rw (add-one, take-suc-set, take-suc (block p i) j 0) (cc (block_at j h))

    pub block-end : length m ≡ 16 → 16 ≤ j → m ≡ block p i
    block-end l h = sym (take_all j m (omega arith)) ∙ stand ∙ take_all j (block p i) (omega (arith, block-length))
