-- One link: two records of 32 bytes, its figures and its digest; what is hashed for it, and its checks.
use Rattle.std.specs.Prelude.{Bool, List, [], ◌∷◌, ◌++◌, ℕ, eqb}
use Rattle.words.specs.Checks.{Check, ◌unless◌}
use Rattle.words.specs.Bytes.{words_bytes, record_bytes, agrees}
use Rattle.words.specs.declared.Record.{Record}
use Rattle.sha256.specs.Hash.{hash_value}
use Rattle.group.specs.Table.{is_group, group_of}
use Rattle.group.specs.Element.{is_element}
use Rattle.group.specs.declared.Group.{Group}
use Rattle.words.specs.declared.refusal.Refusal.TheVariants.{UnknownGroup, BadForm, NoElement, WrongDigest, NotNext}

-- ---- figures: the round, the draw value v and the group's number, and 20 spare bytes that are 0
abbrev pub link_layout : ℕ → ℕ → ℕ → Record
link_layout round v number = record { w0 = round; w1 = v; w2 = number; w3 = 0; w4 = 0; w5 = 0; w6 = 0; w7 = 0 }

abbrev pub link_round : Record → ℕ
link_round r = r.w0

abbrev pub link_value : Record → ℕ
link_value r = r.w1

abbrev pub link_group : Record → ℕ
link_group r = r.w2

-- its spare bytes are 0: it agrees with the layout of its own figures
abbrev pub is_link_record : Record → Bool
is_link_record r = agrees r (link_layout (link_round r) (link_value r) (link_group r))

-- ---- digest
-- before the first link there are 32 zero bytes
abbrev pub no_digest : Record
no_digest = record { w0 = 0; w1 = 0; w2 = 0; w3 = 0; w4 = 0; w5 = 0; w6 = 0; w7 = 0 }

-- what is hashed for a link: the digest before it, its draw value and its round; the group is not
unfoldable pub link_message : Record → ℕ → ℕ → List ℕ
link_message before v round = record_bytes before ++ words_bytes (v ∷ round ∷ [])

abbrev pub link_digest : Record → ℕ → ℕ → Record
link_digest before v round = hash_value (link_message before v round)

-- ---- checks
-- a draw value of the group of that number, among the groups of a table
abbrev pub value_checks : List Group → ℕ → ℕ → List Check
value_checks Gs number v = UnknownGroup unless is_group Gs number ∷ NoElement unless is_element (group_of Gs number) v ∷ []

-- this round, and a digest behind this one
abbrev pub place_checks : Record → ℕ → Record → Record → List Check
place_checks before round figures digest =
    NotNext unless eqb (link_round figures) round
    ∷ WrongDigest unless agrees digest (link_digest before (link_value figures) (link_round figures))
    ∷ []

-- a link of this round behind this digest
abbrev pub link_checks : List Group → Record → ℕ → Record → Record → List Check
link_checks Gs before round figures digest =
    (BadForm unless is_link_record figures ∷ value_checks Gs (link_group figures) (link_value figures)) ++ place_checks before round figures digest
