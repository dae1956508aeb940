-- What is claimed of the text that `draw` prints.
use Rattle.std.specs.Prelude.{◌≡◌, List, [], ◌∷◌, ◌++◌, ℕ, ◌≤◌, length}
use Rattle.words.specs.Checks.{Met, FirstUnmet}
use Rattle.words.specs.declared.refusal.Refusal.{Refusal}
use Rattle.words.specs.Bytes.{record_bytes}
use Rattle.group.specs.Table.{groups_of, table_checks}
use Rattle.records.specs.Layout.{key_layout, set_layout}
use Rattle.verdicts.specs.Shares.{Judges, judges}
use Rattle.rulings.specs.Ruling.{ruling_checks}
use Rattle.text.specs.Text.{refused_line, draw_text}

-- no text is longer than 1,024 bytes
abbrev pub TextFits : Type 0
TextFits = (J : Judges) (T s b : List ℕ) → length (draw_text J T s b) ≤ 1024

-- where a check before the verdicts refuses, of the table, the set, their round or the board, its line is the whole text
abbrev pub TextRefused : Type 0
TextRefused = (J : Judges) (T s b : List ℕ) (k : Refusal) → FirstUnmet k (ruling_checks T s b) → draw_text J T s b ≡ refused_line k

-- a table that is refused gives one line, whatever the other files hold
abbrev pub TableFirst : Type 0
TableFirst = (J : Judges) (T s b : List ℕ) (k : Refusal) → FirstUnmet k (table_checks T) → draw_text J T s b ≡ refused_line k

-- of an accepted table nothing but its groups enters the text; so a table of the built-in groups gives that of no bytes
abbrev pub TextByGroups : Type 0
TextByGroups =
    (J : Judges) (T₁ T₂ s b : List ℕ) → Met (table_checks T₁) → Met (table_checks T₂) → groups_of T₁ ≡ groups_of T₂
    → draw_text J T₁ s b ≡ draw_text J T₂ s b

-- ---- the scope paper's round: group 1, n = 2, t = 1, and a board of the keys 12 and 9
-- its round.set
abbrev pub example_set : List ℕ
example_set = record_bytes (set_layout 1 2 1 0 0)

-- its board.bin
abbrev pub example_board : List ℕ
example_board = record_bytes (key_layout 1 12 0) ++ record_bytes (key_layout 2 9 0)

-- "round 1 2 1", "dealer 1 none", "dealer 2 none", "accepted 0", "refused 14", each with the end of a line
abbrev pub example_text : List ℕ
example_text =
    114 ∷ 111 ∷ 117 ∷ 110 ∷ 100 ∷ 32 ∷ 49 ∷ 32 ∷ 50 ∷ 32 ∷ 49 ∷ 10
    ∷ 100 ∷ 101 ∷ 97 ∷ 108 ∷ 101 ∷ 114 ∷ 32 ∷ 49 ∷ 32 ∷ 110 ∷ 111 ∷ 110 ∷ 101 ∷ 10
    ∷ 100 ∷ 101 ∷ 97 ∷ 108 ∷ 101 ∷ 114 ∷ 32 ∷ 50 ∷ 32 ∷ 110 ∷ 111 ∷ 110 ∷ 101 ∷ 10
    ∷ 97 ∷ 99 ∷ 99 ∷ 101 ∷ 112 ∷ 116 ∷ 101 ∷ 100 ∷ 32 ∷ 48 ∷ 10
    ∷ 114 ∷ 101 ∷ 102 ∷ 117 ∷ 115 ∷ 101 ∷ 100 ∷ 32 ∷ 49 ∷ 52 ∷ 10
    ∷ []

-- its text is these five lines
abbrev pub ExampleRound : Type 0
ExampleRound = draw_text judges [] example_set example_board ≡ example_text
