-- The hashed messages, and their challenges.
use Rattle.std.specs.Prelude.{List, [], ◌∷◌, ◌++◌, ℕ, ◌-◌, eqb}
use Rattle.words.specs.Choice.{pick}
use Rattle.words.specs.Lists.{map, up_from}
use Rattle.words.specs.Bytes.{word_bytes, words_bytes}
use Rattle.sha256.specs.Hash.{hash}
use Rattle.sharing.specs.Setting.{members}
use Rattle.sharing.specs.declared.Setting.{Setting}
use Rattle.challenge.specs.Exponent.{exponent_of}

-- ---- what a message is of
abbrev pub dealing_tag : ℕ
dealing_tag = 0x44

abbrev pub share_tag : ℕ
share_tag = 0x53

abbrev pub added_tag : ℕ
added_tag = 0x41

abbrev pub coefficient_tag : ℕ
coefficient_tag = 0x50

-- ---- messages
-- the round's number as 4 bytes; in round 0 it is not hashed
unfoldable pub round_bytes : ℕ → List ℕ
round_bytes round = pick (eqb round 0) [] (word_bytes round)

-- the head of every message: a byte each for the tag, the group's number, n and t, then the round's number, and a byte for the dealer
unfoldable pub head_bytes : ℕ → Setting → ℕ → List ℕ
head_bytes tag S d = tag ∷ S.number ∷ S.n ∷ S.t ∷ (round_bytes S.round ++ (d ∷ []))

abbrev pub message : ℕ → Setting → ℕ → List ℕ → List ℕ
message tag S d rest = head_bytes tag S d ++ rest

-- the bytes of the words f i for each i of a list, in order
unfoldable pub bytes_over : (ℕ → List ℕ) → List ℕ → List ℕ
bytes_over f [] = []
bytes_over f (i ∷ is) = words_bytes (f i) ++ bytes_over f is

-- a dealing: v, Y, a1, a2 of every line
abbrev pub dealing_figures : ℕ → (ℕ → ℕ) → (ℕ → ℕ) → (ℕ → ℕ) → (ℕ → ℕ) → List ℕ
dealing_figures n v Y a1 a2 = bytes_over (λ i. v i ∷ Y i ∷ a1 i ∷ a2 i ∷ []) (members n)

unfoldable pub dealing_message : Setting → ℕ → (ℕ → ℕ) → (ℕ → ℕ) → (ℕ → ℕ) → (ℕ → ℕ) → List ℕ
dealing_message S d v Y a1 a2 = message dealing_tag S d (dealing_figures S.n v Y a1 a2)

-- an opened or added share Z (the paper's S) of member i: y, Y, Z, a1, a2
abbrev pub share_figures : ℕ → ℕ → ℕ → ℕ → ℕ → ℕ → List ℕ
share_figures i y Y Z a1 a2 = i ∷ words_bytes (y ∷ Y ∷ Z ∷ a1 ∷ a2 ∷ [])

unfoldable pub share_message : ℕ → Setting → ℕ → ℕ → ℕ → ℕ → ℕ → ℕ → ℕ → List ℕ
share_message tag S d i y Y Z a1 a2 = message tag S d (share_figures i y Y Z a1 a2)

-- the coefficient k of the judge's own check polynomial: v, Y of every line
abbrev pub coefficient_figures : ℕ → (ℕ → ℕ) → (ℕ → ℕ) → ℕ → List ℕ
coefficient_figures n v Y k = k ∷ bytes_over (λ i. v i ∷ Y i ∷ []) (members n)

unfoldable pub coefficient_message : Setting → ℕ → (ℕ → ℕ) → (ℕ → ℕ) → ℕ → List ℕ
coefficient_message S d v Y k = message coefficient_tag S d (coefficient_figures S.n v Y k)

-- ---- a message of the scope paper, which has nothing of the round in it
unfoldable pub roundless_head : ℕ → Setting → ℕ → List ℕ
roundless_head tag S d = tag ∷ S.number ∷ S.n ∷ S.t ∷ d ∷ []

abbrev pub roundless_message : ℕ → Setting → ℕ → List ℕ → List ℕ
roundless_message tag S d rest = roundless_head tag S d ++ rest

-- ---- challenges
-- the challenge of a message
unfoldable pub challenge_of : Setting → List ℕ → ℕ
challenge_of S m = exponent_of S (hash m)

-- the judge's own check polynomial, of n - t coefficients
unfoldable pub check_polynomial : Setting → ℕ → (ℕ → ℕ) → (ℕ → ℕ) → List ℕ
check_polynomial S d v Y = map (λ k. challenge_of S (coefficient_message S d v Y k)) (up_from 0 (S.n - S.t))
