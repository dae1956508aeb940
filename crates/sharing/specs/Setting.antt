-- A table of groups and a round's figures as they are lent, the checks by which operations over a round begin, and the setting that they leave.
use Rattle.std.specs.Prelude.{◌≡◌, Bool, not, ◌&&◌, List, [], ◌∷◌, ◌++◌, ℕ, ◌^◌, ◌≤◌, ◌<◌, leb, ltb, eqb}
use Rattle.words.specs.Lists.{up_from}
use Rattle.words.specs.Checks.{Check, ◌unless◌, Outcome, outcome, if_met}
use Rattle.group.specs.Table.{groups_of, table_checks, is_group, group_of}
use Rattle.group.specs.Element.{Proper}
use Rattle.group.specs.declared.Group.{Group}
use Rattle.sharing.specs.declared.Round.{Round}
use Rattle.sharing.specs.declared.Setting.{Setting}
use Rattle.words.specs.declared.refusal.Refusal.TheVariants.{UnknownGroup, OutOfRange}

-- all that is asked of a setting: a proper group whose figures fit a word, a number that fits a byte, n from 1 to 31 and below q,
-- t from 1 to n. Any round's number is proper, and either rule
pub record ProperSetting (S : Setting) : Type 0 where
  pub proper : Proper S.group
  pub p-word : S.group.p < 2 ^ 32
  pub q-word : S.group.q < 2 ^ 32
  pub number-byte : S.number < 256
  pub n-positive : 1 ≤ S.n
  pub n-most : S.n ≤ 31
  pub n-below : S.n < S.group.q
  pub t-positive : 1 ≤ S.t
  pub t-most : S.t ≤ S.n

-- two settings of one group, n and t; the group's number, the round's and the rule may differ
pub record OneGroup (S T : Setting) : Type 0 where
  pub group : S.group ≡ T.group
  pub n : S.n ≡ T.n
  pub t : S.t ≡ T.t

-- ---- from a round
-- the rule is new, and exponents come from the whole digest: the first round under it is not 0, and the round is not below it
unfoldable pub takes_whole : ℕ → ℕ → Bool
takes_whole first round = not (eqb first 0) && leb first round

-- T is the table's bytes
abbrev pub setting_in : List ℕ → Round → Setting
setting_in T R =
    record { group = group_of (groups_of T) R.group; number = R.group; n = R.n; t = R.t; round = R.round; whole_digest = takes_whole R.first_new_round R.round }

-- the same group, n and t, under another number of the group, in the round of another number, under either rule
abbrev pub renumbered : ℕ → ℕ → Bool → Setting → Setting
renumbered number round whole S = record { group = S.group; number = number; n = S.n; t = S.t; round = round; whole_digest = whole }

-- the same setting in the round of another number, under either rule
abbrev pub in_round : ℕ → Bool → Setting → Setting
in_round round whole S = renumbered S.number round whole S

-- the same round's figures with another number, and with another first round under the new rule
abbrev pub with_numbers : ℕ → ℕ → Round → Round
with_numbers round first R = record { group = R.group; n = R.n; t = R.t; round = round; first_new_round = first }

-- n from 1 to 31 and below q, t from 1 to n
unfoldable pub in_range : ℕ → ℕ → ℕ → Bool
in_range q n t = leb 1 n && (leb n 31 && (ltb n q && (leb 1 t && leb t n)))

-- a round among the groups of an accepted table
unfoldable pub round_figures : List Group → Round → List Check
round_figures Gs R = UnknownGroup unless is_group Gs R.group ∷ OutOfRange unless in_range (group_of Gs R.group).q R.n R.t ∷ []

-- the table comes first
unfoldable pub round_checks : List ℕ → Round → List Check
round_checks T R = table_checks T ++ round_figures (groups_of T) R

-- of an accepted table, and of any
unfoldable pub figures_outcome : List ℕ → Round → Outcome Setting
figures_outcome T R = outcome (round_figures (groups_of T) R) (setting_in T R)

unfoldable pub setting_outcome : List ℕ → Round → Outcome Setting
setting_outcome T R = outcome (round_checks T R) (setting_in T R)

-- ---- what an operation does over a table and a round: their checks come first, then those of the setting
-- its answer
unfoldable pub judged : {A : Type 0} → List ℕ → Round → (Setting → List Check) → (Setting → A) → Outcome A
judged T R checks answer = outcome (round_checks T R ++ checks (setting_in T R)) (answer (setting_in T R))

-- a lent buffer afterwards
unfoldable pub judged_else : {A : Type 0} → List ℕ → Round → (Setting → List Check) → (Setting → A) → A → A
judged_else T R checks new old = if_met (round_checks T R ++ checks (setting_in T R)) (new (setting_in T R)) old

-- ---- members
-- a member's number is from 1 to n
unfoldable pub is_member : ℕ → ℕ → Bool
is_member n i = leb 1 i && leb i n

-- the members 1 to n
abbrev pub members : ℕ → List ℕ
members n = up_from 1 n
