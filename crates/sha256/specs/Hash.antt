-- FIPS 180-4, section 6.2.2: the message schedule, the rounds, and the hash value.
use Rattle.std.specs.Prelude.{ℕ, zero, suc, ◌-◌, List, [], ◌∷◌, ◌++◌, nat_lt, slice_index, slice_index_or}
use Rattle.words.specs.Choice.{pick}
use Rattle.words.specs.Bytes.{record_bytes}
use Rattle.words.specs.declared.Record.{Record}
use Rattle.sha256.specs.declared.state.State.{State}
use Rattle.sha256.specs.Word.{◌⊞◌, Ch, Maj, Σ₀, Σ₁, σ₀, σ₁}
use Rattle.sha256.specs.Constants.{K, initial}
use Rattle.sha256.specs.Padding.{pad, blocks, block}

-- 6.2.2, step 1: word t of the schedule, from 16 on, of the words w before it
unfoldable pub later : List ℕ → ℕ → ℕ
later w t = σ₁ (slice_index w (t - 2)) ⊞ slice_index_or w (t - 7) 0 ⊞ σ₀ (slice_index w (t - 15)) ⊞ slice_index_or w (t - 16) 0

-- 6.2.2, step 1: word t of the schedule of the block m, after the words w
unfoldable pub W : List ℕ → List ℕ → ℕ → ℕ
W m w t = pick (nat_lt t 16) (slice_index m t) (later w t)

-- 6.2.2, step 1: the first t words of the schedule of the block m
unfoldable pub schedule : List ℕ → ℕ → List ℕ
schedule m zero = []
schedule m (suc t) = schedule m t ++ (W m (schedule m t) t ∷ [])

-- 6.2.2, step 3: the temporary words of a round, of the working variables s, the constant k and the word w
unfoldable pub T₁ : State → ℕ → ℕ → ℕ
T₁ s k w = s.h ⊞ Σ₁ s.e ⊞ Ch s.e s.f s.g ⊞ k ⊞ w

unfoldable pub T₂ : State → ℕ
T₂ s = Σ₀ s.a ⊞ Maj s.a s.b s.c

-- 6.2.2, step 3: the working variables after a round
unfoldable pub round : State → ℕ → ℕ → State
round s k w =
    record { a = T₁ s k w ⊞ T₂ s; b = s.a; c = s.b; d = s.c; e = s.d ⊞ T₁ s k w; f = s.e; g = s.f; h = s.g }

-- 6.2.2, steps 2 and 3: the working variables after t rounds from the hash value s, over the schedule w
unfoldable pub rounds : List ℕ → State → ℕ → State
rounds w s zero = s
rounds w s (suc t) = round (rounds w s t) (slice_index K t) (slice_index w t)

-- 6.2.2, step 4: the sum of the working variables v and the hash value s, word by word
unfoldable pub add_states : State → State → State
add_states v s =
    record { a = v.a ⊞ s.a; b = v.b ⊞ s.b; c = v.c ⊞ s.c; d = v.d ⊞ s.d; e = v.e ⊞ s.e; f = v.f ⊞ s.f; g = v.g ⊞ s.g; h = v.h ⊞ s.h }

-- 6.2.2, steps 1 to 4: the hash value after the block m, from the hash value s
unfoldable pub compress : State → List ℕ → State
compress s m = add_states (rounds (schedule m 64) s 64) s

-- 6.2.2: the intermediate hash value after i blocks of the padded message p
unfoldable pub intermediate : List ℕ → ℕ → State
intermediate p zero = initial
intermediate p (suc i) = compress (intermediate p i) (block p i)

-- the words of a hash value in order
abbrev pub state_record : State → Record
state_record s =
    record { w0 = s.a; w1 = s.b; w2 = s.c; w3 = s.d; w4 = s.e; w5 = s.f; w6 = s.g; w7 = s.h }

-- 6.2.2: the hash value of a message, after its last block
unfoldable pub hash_value : List ℕ → Record
hash_value m = state_record (intermediate (pad m) (blocks (pad m)))

-- 6.2.2: the message digest, in bytes
unfoldable pub hash : List ℕ → List ℕ
hash m = record_bytes (hash_value m)
