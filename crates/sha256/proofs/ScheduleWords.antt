-- The message schedule, word by word: what each word is made of, and an array that is filled with the words in order.
use Rattle.std.proofs.Common.{◌≡◌, ℕ, zero, suc, ◌+◌, ◌-◌, ◌<◌, ◌≤◌, List, [], ◌∷◌, ◌++◌, length, get_or, take, set, replicate, sym, refl, ap, ◌∙◌, append-nil, add-one, arith, length-append, get_or-take, le-ltb, lt-ltb}
use Rattle.words.specs.Lists.{filled}
use Rattle.words.proofs.Lists.{filled-front, filled_next}
use Rattle.sha256.specs.Hash.{later, W, schedule}

pub W-first : (m w : List ℕ) (t : ℕ) → t < 16 → W m w t ≡ get_or m t 0
unfolding W
W-first m w t h = rw (lt-ltb t 16)

-- a later word depends only on words below it
pub W-later : (m w : List ℕ) (t : ℕ) → 16 ≤ t → W m (take t w) t ≡ later w t
unfolding W later
W-later m w t h =
    let h2 : t - 2 < t = omega arith in
    let h7 : t - 7 < t = omega arith in
    let h15 : t - 15 < t = omega arith in
    let h16 : t - 16 < t = omega arith in
    rw (le-ltb t 16) (simp get_or-take)

schedule-length : (m : List ℕ) (t : ℕ) → length (schedule m t) ≡ t
unfolding schedule
schedule-length m zero = refl
schedule-length m (suc t) = length-append (schedule m t) (W m (schedule m t) t ∷ []) ∙ omega (arith, schedule-length m t)

-- an array that holds the first t words, and 0 behind them
module _ (m w : List ℕ) (t : ℕ) (e : w ≡ filled 64 (schedule m t)) where
  words-stand : take t w ≡ schedule m t
  words-stand = filled-front 64 t (schedule m t) (schedule-length m t) e

  pub words-all : t ≡ 64 → w ≡ schedule m 64
  unfolding filled
  words-all f =
      let none : 64 - length (schedule m t) ≡ 0 = omega (arith, schedule-length m t) in
      e ∙ ap (λ (k : ℕ). schedule m t ++ replicate k 0) none ∙ append-nil (schedule m t) ∙ ap (schedule m) f

  -- a store of word t
  next : (v : ℕ) → t < 64 → v ≡ W m (schedule m t) t → set w t v ≡ filled 64 (schedule m (t + 1))
  unfolding schedule
  next v room f = filled_next 64 t (schedule m t) (schedule-length m t) e v room (rw (add-one t) cc)

  pub first_next : (v : ℕ) → t < 64 → t < 16 → v ≡ get_or m t 0 → set w t v ≡ filled 64 (schedule m (t + 1))
  first_next v room h f = next v room (f ∙ sym (W-first m (schedule m t) t h))

  pub later-next : (v : ℕ) → t < 64 → 16 ≤ t → v ≡ later w t → set w t v ≡ filled 64 (schedule m (t + 1))
  later-next v room h f = next v room (f ∙ sym (W-later m w t h) ∙ ap (λ (l : List ℕ). W m l t) words-stand)
