-- What `draw` prints: the one place where the format of its output stands.
use Rattle.std.specs.Prelude.{List, [], ◌∷◌, ◌++◌, ℕ, zero, suc, ◌+◌, ◌/◌, ◌%◌, ltb, Ok, Err}
use Rattle.words.specs.Choice.{pick}
use Rattle.words.specs.Numbers.{number}
use Rattle.words.specs.Checks.{Outcome, outcome}
use Rattle.words.specs.declared.refusal.Refusal.{Refusal}
use Rattle.group.specs.declared.Element.{Element}
use Rattle.sharing.specs.Setting.{judged}
use Rattle.sharing.specs.declared.Round.{Round}
use Rattle.sharing.specs.declared.Setting.{Setting}
use Rattle.board.specs.Board.{board_checks}
use Rattle.verdicts.specs.Shares.{Judges}
use Rattle.verdicts.specs.Verdict.{verdicts_on}
use Rattle.verdicts.specs.Draw.{count_accepted, draw_in}
use Rattle.verdicts.specs.declared.Secret.{Secret}
use Rattle.verdicts.specs.declared.Secret.TheVariants.{Opened, Recovered, Stuck}
use Rattle.verdicts.specs.declared.Verdict.{Verdict}
use Rattle.verdicts.specs.declared.Verdict.TheVariants.{None, Refused, Accepted}
use Rattle.rulings.specs.Files.{round_in, file_checks}

-- the decimal digits of v, which is below 10 to the power k
unfoldable pub digits : ℕ → ℕ → List ℕ
digits zero v = []
digits (suc k) v = pick (ltb v 10) ((48 + v) ∷ []) (digits k (v / 10) ++ ((48 + v % 10) ∷ []))

-- a space and a figure
unfoldable pub figure : ℕ → List ℕ
figure v = 32 ∷ digits 10 v

-- the end of a line
abbrev pub new_line : List ℕ
new_line = 10 ∷ []

-- "round", "dealer", "accepted", "refused", "draw", "none", "opened", "recovered", "stuck"
abbrev pub round_word : List ℕ
round_word = 114 ∷ 111 ∷ 117 ∷ 110 ∷ 100 ∷ []

abbrev pub dealer_word : List ℕ
dealer_word = 100 ∷ 101 ∷ 97 ∷ 108 ∷ 101 ∷ 114 ∷ []

abbrev pub accepted_word : List ℕ
accepted_word = 97 ∷ 99 ∷ 99 ∷ 101 ∷ 112 ∷ 116 ∷ 101 ∷ 100 ∷ []

abbrev pub refused_word : List ℕ
refused_word = 114 ∷ 101 ∷ 102 ∷ 117 ∷ 115 ∷ 101 ∷ 100 ∷ []

abbrev pub draw_word : List ℕ
draw_word = 100 ∷ 114 ∷ 97 ∷ 119 ∷ []

abbrev pub none_word : List ℕ
none_word = 110 ∷ 111 ∷ 110 ∷ 101 ∷ []

abbrev pub opened_word : List ℕ
opened_word = 111 ∷ 112 ∷ 101 ∷ 110 ∷ 101 ∷ 100 ∷ []

abbrev pub recovered_word : List ℕ
recovered_word = 114 ∷ 101 ∷ 99 ∷ 111 ∷ 118 ∷ 101 ∷ 114 ∷ 101 ∷ 100 ∷ []

abbrev pub stuck_word : List ℕ
stuck_word = 115 ∷ 116 ∷ 117 ∷ 99 ∷ 107 ∷ []

-- ---- lines
-- a refusal, by its number
unfoldable pub refused_line : Refusal → List ℕ
refused_line k = refused_word ++ (figure (number k) ++ new_line)

-- how the secret of an accepted dealing came, and its value
abbrev pub secret_text : Secret → List ℕ
secret_text (Opened v) = opened_word ++ figure v.0
secret_text (Recovered v) = recovered_word ++ figure v.0
secret_text Stuck = stuck_word

-- a verdict: none, refused with its number, or how the secret came
abbrev pub verdict_text : Verdict → List ℕ
verdict_text None = none_word
verdict_text (Refused k) = refused_word ++ figure (number k)
verdict_text (Accepted s) = secret_text s

-- the verdict on the dealer d
unfoldable pub dealer_line : ℕ → Verdict → List ℕ
dealer_line d v = (dealer_word ++ figure d) ++ ((32 ∷ []) ++ (verdict_text v ++ new_line))

-- the lines of the dealers from d on
abbrev pub dealer_lines : ℕ → List Verdict → List ℕ
dealer_lines d [] = []
dealer_lines d (v ∷ vs) = dealer_line d v ++ dealer_lines (suc d) vs

-- the last line: the draw value, or a refusal
abbrev pub draw_line : Outcome Element → List ℕ
draw_line (Ok v) = draw_word ++ (figure v.0 ++ new_line)
draw_line (Err k) = refused_line k

-- the first line: the group's number, n, t
unfoldable pub round_line : Setting → List ℕ
round_line S = (round_word ++ figure S.number) ++ (figure S.n ++ (figure S.t ++ new_line))

-- the count of accepted dealings
unfoldable pub accepted_line : ℕ → List ℕ
accepted_line m = accepted_word ++ (figure m ++ new_line)

-- ---- the text
-- of what an operation answers: only the refusal where it refuses
abbrev pub text_of : Outcome (List ℕ) → List ℕ
text_of (Ok t) = t
text_of (Err k) = refused_line k

-- of a board whose verdicts are reached
unfoldable pub report : Judges → Setting → List ℕ → List ℕ
report J S b =
    round_line S ++ (dealer_lines 1 (verdicts_on J S b) ++ (accepted_line (count_accepted (verdicts_on J S b)) ++ draw_line (draw_in J S b)))

-- of a board, over a table and a round
unfoldable pub board_text : Judges → List ℕ → Round → List ℕ → List ℕ
board_text J T R b = text_of (judged T R (λ S. board_checks S b) (λ S. report J S b))

-- of the bytes of groups.tab, round.set and board.bin
unfoldable pub draw_text : Judges → List ℕ → List ℕ → List ℕ → List ℕ
draw_text J T s b = text_of (outcome (file_checks T s) (board_text J T (round_in s) b))
