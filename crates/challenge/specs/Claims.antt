-- What is claimed of challenges and of their messages.
use Rattle.std.specs.Prelude.{◌≡◌, true, false, List, [], ◌∷◌, ℕ, ◌%◌, ◌^◌, ◌<◌, length, take}
use Rattle.words.specs.Bytes.{words_bytes, big_endian}
use Rattle.sha256.specs.Hash.{hash}
use Rattle.sharing.specs.Setting.{ProperSetting, setting_in}
use Rattle.sharing.specs.declared.Setting.{Setting}
use Rattle.challenge.specs.Exponent.{exponent_of, remainder_behind}
use Rattle.challenge.specs.Message.{dealing_tag, share_tag, added_tag, coefficient_tag, dealing_figures, share_figures, coefficient_figures}
use Rattle.challenge.specs.Message.{head_bytes, dealing_message, share_message, coefficient_message, roundless_message, challenge_of}

-- all that writers, judges and demand 3 have of a challenge, under either rule
abbrev pub ChallengeLow : Type 0
ChallengeLow = (S : Setting) → ProperSetting S → (m : List ℕ) → challenge_of S m < S.group.q

-- A challenge by the rule: all 32 digest bytes as one number, modulo q, under the new one, and the first 8 under that of
-- the scope paper.
pub record ByRule (S : Setting) (m : List ℕ) : Type 0 where
  pub size : length (hash m) ≡ 32
  pub new : S.whole_digest ≡ true → challenge_of S m ≡ big_endian 0 (hash m) % S.group.q
  pub old : S.whole_digest ≡ false → challenge_of S m ≡ big_endian 0 (take 8 (hash m)) % S.group.q

abbrev pub ChallengeByRule : Type 0
ChallengeByRule = (S : Setting) (m : List ℕ) → ByRule S m

-- Nothing else of the setting enters but q: neither the round's number nor the first round under the new rule.
abbrev pub RuleEnters : Type 0
RuleEnters = (S T : Setting) → S.group.q ≡ T.group.q → S.whole_digest ≡ T.whole_digest → (D : List ℕ) → exponent_of S D ≡ exponent_of T D

-- The remainder of a number a with any words behind it, worked out word by word, is that of the whole number.
abbrev pub WordByWord : Type 0
WordByWord = (q a : ℕ) (ws : List ℕ) → remainder_behind q (a % q) ws ≡ big_endian a (words_bytes ws) % q

-- worked figures: what the digest of "abc" gives in group 3, in rounds around the first one under the new rule
abbrev pub large_in : ℕ → ℕ → Setting
large_in round first = setting_in [] (record { group = 3; n = 1; t = 1; round = round; first_new_round = first })

abbrev pub abc_in : ℕ → ℕ → ℕ
abc_in round first = challenge_of (large_in round first) (97 ∷ 98 ∷ 99 ∷ [])

pub record AroundFirst : Type 0 where
  pub before : abc_in 6 7 ≡ 92599939
  pub at_first : abc_in 7 7 ≡ 614395964
  pub behind : abc_in 8 7 ≡ 614395964
  -- in round 0, and with no first round
  pub in-zero : abc_in 0 1 ≡ 92599939
  pub without : abc_in 7 0 ≡ 92599939

-- worked figures: the head of a message with group 3, n = 7 and t = 5, in the round 0x01020304 and in round 0; the number stands right
-- behind t, its most significant byte first
abbrev pub head_in : ℕ → ℕ → ℕ → List ℕ
head_in round tag d = head_bytes tag (setting_in [] (record { group = 3; n = 7; t = 5; round = round; first_new_round = 0 })) d

pub record HeadFigures : Type 0 where
  pub in-round : (tag d : ℕ) → head_in 0x01020304 tag d ≡ tag ∷ 3 ∷ 7 ∷ 5 ∷ 1 ∷ 2 ∷ 3 ∷ 4 ∷ d ∷ []
  pub in-zero : (tag d : ℕ) → head_in 0 tag d ≡ tag ∷ 3 ∷ 7 ∷ 5 ∷ d ∷ []

-- Round 0 is hashed without its number: the three messages are then those of the scope paper.
pub record MessagesOfZero (S : Setting) (d : ℕ) : Type 0 where
  pub dealing : (v Y a1 a2 : ℕ → ℕ) → dealing_message S d v Y a1 a2 ≡ roundless_message dealing_tag S d (dealing_figures S.n v Y a1 a2)
  pub share : (tag i y Y Z a1 a2 : ℕ) → share_message tag S d i y Y Z a1 a2 ≡ roundless_message tag S d (share_figures i y Y Z a1 a2)
  pub coefficient : (v Y : ℕ → ℕ) (k : ℕ)
      → coefficient_message S d v Y k ≡ roundless_message coefficient_tag S d (coefficient_figures S.n v Y k)

abbrev pub RoundZero : Type 0
RoundZero = (S : Setting) → S.round ≡ 0 → (d : ℕ) → MessagesOfZero S d

-- ---- the messages by kind: a dealing, a share that is opened or added, a coefficient
pub data Hashed : Type 0 where
  dealing : (v Y a1 a2 : ℕ → ℕ) → Hashed
  opened : (i y Y Z a1 a2 : ℕ) → Hashed
  added : (i y Y Z a1 a2 : ℕ) → Hashed
  coefficient : (v Y : ℕ → ℕ) → ℕ → Hashed

abbrev pub tag_of : Hashed → ℕ
tag_of (dealing v Y a1 a2) = dealing_tag
tag_of (opened i y Y Z a1 a2) = share_tag
tag_of (added i y Y Z a1 a2) = added_tag
tag_of (coefficient v Y k) = coefficient_tag

abbrev pub message_of : Setting → ℕ → Hashed → List ℕ
message_of S d (dealing v Y a1 a2) = dealing_message S d v Y a1 a2
message_of S d (opened i y Y Z a1 a2) = share_message share_tag S d i y Y Z a1 a2
message_of S d (added i y Y Z a1 a2) = share_message added_tag S d i y Y Z a1 a2
message_of S d (coefficient v Y k) = coefficient_message S d v Y k

-- The number is hashed: two messages of different rounds are different, and so are two of different kinds, whatever groups, n, t, dealers
-- and figures they have. It asks only that the rounds' numbers are words, as every lent one is.
abbrev pub RoundHashed : Type 0
RoundHashed =
    (S T : Setting) → S.round < 2 ^ 32 → T.round < 2 ^ 32 → (d e : ℕ) (x y : Hashed)
    → message_of S d x ≡ message_of T e y → (tag_of x ≡ tag_of y) × (S.round ≡ T.round)
