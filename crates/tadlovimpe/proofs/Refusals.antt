-- Proofs of what specs/Claims.antt states. Two facts carry them: an answer goes by cases on its outcome, and no refusal has the number 0.
use mathlib.Core.Path.{◌≡◌, refl, sym, ap}
use mathlib.Core.Bool.{Bool, true, false}
use mathlib.Core.List.{List, [], ◌∷◌, ◌++◌}
use Prim.Native.Nat.{ℕ}
use native.Mathlib.Omega.{arith}
use lib.ListN.{length}
use Rattle.words.specs.Lists.{map}
use Rattle.words.specs.Choice.{pick}
use Rattle.words.specs.Numbers.{number}
use Rattle.words.specs.Checks.{Check, Outcome, outcome, refusal}
use Rattle.words.proofs.NumberLaws.{positive}
use Rattle.group.specs.declared.Element.{Element}
use Rattle.sharing.specs.Setting.{setting_in, round_checks, judged}
use Rattle.sharing.specs.declared.Round.{Round}
use Rattle.board.specs.Board.{lines_checks, lines_outcome, lines_part, lines_at}
use Rattle.verdicts.specs.Draw.{draw_outcome}
use Rattle.rulings.proofs.Theorems.{judgement-exactly}
use Rattle.tadlovimpe.specs.Figures.{number_of, answer_of, part_of, verdict_of}
use Rattle.tadlovimpe.specs.Claims.{NumberExactly, NumberBeside, AnswerRefused, PartRefused, PartExactly, BoardRefused, BoardUnmet}
use Rattle.std.specs.Prelude.{Ok, Err}

-- ---- by cases on the outcome
pub number-exactly : NumberExactly
number-exactly A [] a = refl
number-exactly A (c ∷ cs) a = split c.met (number-exactly A cs a)
  where
    split : (b : Bool) → number_of (outcome cs a) ≡ refusal cs
        → number_of {A = A} (pick b (outcome cs a) (Err c.by)) ≡ pick b (refusal cs) (number c.by)
    split true e = e
    split false e = refl

answer-number : (o : Outcome Element) → (answer_of o).refusal ≡ number_of o
answer-number (Ok v) = refl
answer-number (Err k) = refl

part-number : (o : Outcome (Unit {0})) (start bytes : ℕ) → (part_of o start bytes).refusal ≡ number_of o
part-number (Ok _) start bytes = refl
part-number (Err k) start bytes = refl

pub number-beside : NumberBeside
number-beside = (answer-number, part-number, λ J T R b. answer-number (draw_outcome J T R b))

pub answer-refused : AnswerRefused
answer-refused (Ok v) n = absurd (n refl)
answer-refused (Err k) n = refl

pub part-refused : PartRefused
part-refused T R d b = by-outcome (lines_outcome T R d b) (lines_at T R d b) (length (lines_part T R d b))
  where
    by-outcome : (o : Outcome (Unit {0})) (start bytes : ℕ) → ((part_of o start bytes).refusal ≡ 0 → ⊥)
        → ((part_of o start bytes).start ≡ 0) × ((part_of o start bytes).length ≡ 0)
    by-outcome (Ok _) start bytes n = absurd (n refl)
    by-outcome (Err k) start bytes n = (refl, refl)

pub board-refused : BoardRefused
board-refused J T R b = answer-refused (draw_outcome J T R b)

-- ---- a part with the number 0
-- those of the table and the round, and of their setting
abbrev pub all_checks : List ℕ → Round → ℕ → List ℕ → List Check
all_checks T R d b = round_checks T R ++ lines_checks (setting_in T R) d b

-- no refusal has the number 0
zero-passed : (o : Outcome (Unit {0})) (start bytes : ℕ) → (part_of o start bytes).refusal ≡ 0 → o ≡ Ok tt
zero-passed (Ok tt) start bytes e = refl
zero-passed (Err k) start bytes e = absurd (omega (arith, positive k, e))

pub part-exactly : PartExactly
unfolding lines_outcome judged
part-exactly T R d b =
    let start = lines_at T R d b in
    let bytes = length (lines_part T R d b) in (
      zero-passed (lines_outcome T R d b) start bytes,
      ap (λ (o : Outcome (Unit {0})). (part_of o start bytes).refusal),
    )

-- ---- a board that is refused before its verdicts
pub board-unmet : BoardUnmet
board-unmet J T R b k u =
    let j = judgement-exactly J T R b (Err k) u in
    record {
      number = ap (λ (x : Outcome Element). (answer_of x).refusal) (sym j.draw);
      none-counted = sym j.accepted;
      none-judged = ap (map verdict_of) (sym j.verdicts);
    }
