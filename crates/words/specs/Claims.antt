-- What is claimed of checks and of bytes. The proofs are in Checks, Stages, Bytes and Records of proofs/.
use Rattle.std.specs.Prelude.{◌≡◌, true, List, ◌++◌, ◌↔◌, ℕ, ◌^◌, length, Ok, Err}
use Rattle.words.specs.Lists.{Below}
use Rattle.words.specs.Numbers.{number}
use Rattle.words.specs.Checks.{Check, refusal, outcome, Met, FirstUnmet, if_met, without, MetBy}
use Rattle.words.specs.Bytes.{record_words, record_bytes, record_in, agrees}
use Rattle.words.specs.declared.Record.{Record}
use Rattle.words.specs.declared.refusal.Refusal.{Refusal}

-- ---- checks in their order
-- a value is answered exactly if every check is met
abbrev pub ValueExactly : Type 1
ValueExactly = (A : Type 0) (cs : List Check) (a : A) → (outcome cs a ≡ Ok a) ↔ Met cs

-- k is the refusal exactly if the first check that is not met refuses by k
abbrev pub RefusedExactly : Type 1
RefusedExactly = (A : Type 0) (cs : List Check) (a : A) (k : Refusal) → (outcome cs a ≡ Err k) ↔ FirstUnmet k cs

-- the number is 0 exactly if every check is met
abbrev pub NoneExactly : Type 0
NoneExactly = (cs : List Check) → (refusal cs ≡ 0) ↔ Met cs

-- the number is that of k exactly if the first check that is not met refuses by k
abbrev pub FirstExactly : Type 0
FirstExactly = (cs : List Check) (k : Refusal) → (refusal cs ≡ number k) ↔ FirstUnmet k cs

-- the refusal answered is k exactly if the number is that of k
abbrev pub RefusedNumber : Type 1
RefusedNumber = (A : Type 0) (cs : List Check) (a : A) (k : Refusal) → (outcome cs a ≡ Err k) ↔ (refusal cs ≡ number k)

-- the choice by checks, which says what a lent buffer holds afterwards: the first where every check is met, the second where one is not
abbrev pub ChosenMet : Type 0 → Type 0
ChosenMet A = (a b : A) (cs : List Check) → Met cs → if_met cs a b ≡ a

abbrev pub ChosenUnmet : Type 0 → Type 0
ChosenUnmet A = (a b : A) (cs : List Check) (k : Refusal) → FirstUnmet k cs → if_met cs a b ≡ b

-- ---- checks in two stages: where the first is met the second decides, and else the first
abbrev pub StagesNumber : Type 0
StagesNumber = (cs ds : List Check) → refusal (cs ++ ds) ≡ if_met cs (refusal ds) (refusal cs)

abbrev pub StagesOutcome : Type 1
StagesOutcome = (A : Type 0) (cs ds : List Check) (a : A) → outcome (cs ++ ds) a ≡ if_met cs (outcome ds a) (outcome cs a)

abbrev pub StagesChoice : Type 1
StagesChoice = (A : Type 0) (cs ds : List Check) (a b : A) → if_met (cs ++ ds) a b ≡ if_met cs (if_met ds a b) b

abbrev pub StagesMet : Type 0
StagesMet = (cs ds : List Check) → Met (cs ++ ds) ↔ (Met cs × Met ds)

-- ---- checks of one number: where each of them is met, the answer and the choice are those without them
abbrev pub WithoutOutcome : Type 1
WithoutOutcome = (A : Type 0) (k : Refusal) (cs : List Check) (a : A) → MetBy k cs → outcome cs a ≡ outcome (without k cs) a

abbrev pub WithoutChoice : Type 1
WithoutChoice = (A : Type 0) (k : Refusal) (cs : List Check) (a b : A) → MetBy k cs → if_met cs a b ≡ if_met (without k cs) a b

-- ---- records
-- a record that is written reads back
abbrev pub ReadBack : Type 0
ReadBack = (r : Record) → Below (2 ^ 32) (record_words r) → record_in (record_bytes r) ≡ r

-- 32 bytes that are read write back
abbrev pub WriteBack : Type 0
WriteBack = (b : List ℕ) → length b ≡ 32 → Below 256 b → record_bytes (record_in b) ≡ b

-- two records agree exactly if they are one
abbrev pub AgreesExactly : Type 0
AgreesExactly = (r s : Record) → (agrees r s ≡ true) ↔ (r ≡ s)
