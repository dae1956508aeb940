-- The operations' answers as the figures that a caller is handed, and figures as the operations take them.
use Rattle.std.specs.Prelude.{List, ℕ, length, Ok, Err}
use Rattle.words.specs.Lists.{map}
use Rattle.words.specs.Numbers.{number}
use Rattle.words.specs.Checks.{Outcome}
use Rattle.group.specs.declared.Element.{Element}
use Rattle.group.specs.declared.Exponent.{Exponent}
use Rattle.sharing.specs.declared.Round.{Round}
use Rattle.equality.specs.declared.Equality.{Equality}
use Rattle.board.specs.Board.{lines_outcome, lines_part, lines_at}
use Rattle.verdicts.specs.Shares.{Judges}
use Rattle.verdicts.specs.Draw.{draw_outcome}
use Rattle.verdicts.specs.declared.Secret.TheVariants.{Opened, Recovered, Stuck}
use Rattle.verdicts.specs.declared.Verdict.{Verdict}
use Rattle.verdicts.specs.declared.Verdict.TheVariants.{None, Refused, Accepted}
use Rattle.rulings.specs.Ruling.{count_on, places_on}
use Rattle.tadlovimpe.specs.declared.Answer.{Answer}
use Rattle.tadlovimpe.specs.declared.Part.{Part}
use Rattle.tadlovimpe.specs.declared.Proof.{Proof}
use Rattle.tadlovimpe.specs.declared.VerdictFigures.{VerdictFigures}
use Rattle.tadlovimpe.specs.declared.BoardAnswer.{BoardAnswer}

-- ---- figures as the operations take them
abbrev pub element_of : ℕ → Element
element_of v = record { 0 = v }

abbrev pub exponent_of : ℕ → Exponent
exponent_of e = record { 0 = e }

abbrev pub equality_of : Proof → Equality
equality_of P =
    record {
      b1 = element_of P.b1;
      x1 = element_of P.x1;
      b2 = element_of P.b2;
      x2 = element_of P.x2;
      a1 = element_of P.a1;
      a2 = element_of P.a2;
      c = exponent_of P.c;
      r = exponent_of P.r;
    }

-- ---- answers as figures
-- the number of a refusal, 0 where there is none
abbrev pub number_of : {A : Type 0} → Outcome A → ℕ
number_of (Ok a) = 0
number_of (Err k) = number k

abbrev pub answer_of : Outcome Element → Answer
answer_of (Ok v) = record { refusal = 0; value = v.0 }
answer_of (Err k) = record { refusal = number k; value = 0 }

abbrev pub verdict_of : Verdict → VerdictFigures
verdict_of None = record { kind = 0; value = 0 }
verdict_of (Refused k) = record { kind = 1; value = number k }
verdict_of (Accepted (Opened v)) = record { kind = 2; value = v.0 }
verdict_of (Accepted (Recovered v)) = record { kind = 3; value = v.0 }
verdict_of (Accepted Stuck) = record { kind = 4; value = 0 }

-- a dealer's lines: how many bytes behind the board's start they begin, and how many bytes they are
abbrev pub part_of : Outcome (Unit {0}) → ℕ → ℕ → Part
part_of (Ok _) start bytes = record { refusal = 0; start = start; length = bytes }
part_of (Err k) start bytes = record { refusal = number k; start = 0; length = 0 }

-- the lines of dealer d on the board b
abbrev pub part_on : List ℕ → Round → ℕ → List ℕ → Part
part_on T R d b = part_of (lines_outcome T R d b) (lines_at T R d b) (length (lines_part T R d b))

-- a board: the draw, the count of accepted dealings, and the dealers' verdicts
abbrev pub board_of : Outcome Element → ℕ → List Verdict → BoardAnswer
board_of draw count places =
    record { refusal = (answer_of draw).refusal; value = (answer_of draw).value; accepted = count; verdicts = map verdict_of places }

-- what judge_board answers, over a table, a round and a board
abbrev pub board_on : Judges → List ℕ → Round → List ℕ → BoardAnswer
board_on J T R b = board_of (draw_outcome J T R b) (count_on J T R b) (places_on J T R b)
