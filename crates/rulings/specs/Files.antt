-- The files of a round: groups.tab and round.set, and the setting that they leave.
use Rattle.std.specs.Prelude.{List, [], ◌∷◌, ◌++◌, ℕ, length, eqb}
use Rattle.words.specs.Checks.{Check, ◌unless◌, Outcome, outcome}
use Rattle.words.specs.Bytes.{record_in}
use Rattle.group.specs.Table.{groups_of, table_checks}
use Rattle.sharing.specs.Setting.{setting_in, round_figures}
use Rattle.sharing.specs.declared.Round.{Round}
use Rattle.sharing.specs.declared.Setting.{Setting}
use Rattle.records.specs.Layout.{set_group, set_n, set_t, set_round, set_first, is_set_record}
use Rattle.words.specs.declared.refusal.Refusal.TheVariants.{BadLength, BadForm}

-- ---- round.set: one record
-- another length by 3, another shape by 4
abbrev pub set_checks : List ℕ → List Check
set_checks s =
    BadLength unless eqb (length s) 32
    ∷ BadForm unless is_set_record (record_in s)
    ∷ []

-- the round of its record
abbrev pub round_in : List ℕ → Round
round_in s =
    let r = record_in s in
    record { group = set_group r; n = set_n r; t = set_t r; round = set_round r; first_new_round = set_first r }

-- ---- the two files: groups.tab comes first
abbrev pub file_checks : List ℕ → List ℕ → List Check
file_checks T s = table_checks T ++ set_checks s

-- then the figures of the round, among the groups of the table
abbrev pub setting_checks : List ℕ → List ℕ → List Check
setting_checks T s = file_checks T s ++ round_figures (groups_of T) (round_in s)

unfoldable pub files_outcome : List ℕ → List ℕ → Outcome Setting
files_outcome T s = outcome (setting_checks T s) (setting_in T (round_in s))
