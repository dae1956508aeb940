-- No text is longer than 1,024 bytes.
use mathlib.Core.Path.{◌≡◌, refl, ap, ◌∙◌, subst}
use mathlib.Core.List.{List, [], ◌∷◌, ◌++◌}
use Prim.Native.Nat.{ℕ, suc, ◌+◌, ◌*◌, ◌≤◌, ◌<◌}
use native.Mathlib.Omega.{arith}
use lib.ListN.{length, drop, length-append}
use Rattle.words.specs.Numbers.{number}
use Rattle.words.specs.Checks.{Check, Outcome, outcome}
use Rattle.words.proofs.Lists.{map-length, up-length}
use Rattle.words.proofs.Checks.{value-met}
use Rattle.group.specs.declared.Element.{Element}
use Rattle.sharing.specs.Setting.{ProperSetting, setting_in, judged, members}
use Rattle.sharing.specs.declared.Round.{Round}
use Rattle.sharing.specs.declared.Setting.{Setting}
use Rattle.sharing.proofs.Rounds.{round-proper, judged-exactly}
use Rattle.board.specs.Board.{board_checks}
use Rattle.verdicts.specs.Shares.{Judges}
use Rattle.verdicts.specs.Verdict.{verdict_on, verdicts_on}
use Rattle.verdicts.specs.Draw.{count_accepted, draw_in}
use Rattle.verdicts.specs.declared.Secret.{Secret}
use Rattle.verdicts.specs.declared.Secret.TheVariants.{Opened, Recovered, Stuck}
use Rattle.verdicts.specs.declared.Verdict.{Verdict}
use Rattle.verdicts.specs.declared.Verdict.TheVariants.{None, Refused, Accepted}
use Rattle.rulings.specs.Files.{round_in, file_checks}
use Rattle.text.specs.Text.{figure, new_line, dealer_word, opened_word, recovered_word, refused_word, round_word, accepted_word, draw_word, secret_text, verdict_text, dealer_line, dealer_lines, refused_line, draw_line, round_line, accepted_line, text_of, report, board_text, draw_text}
use Rattle.text.specs.Buffer.{Room}
use Rattle.text.specs.Claims.{TextFits}
use Rattle.text.proofs.Decimals.{figure-most, short-figure}
use Rattle.std.specs.Prelude.{Ok, Err}
use Rattle.words.specs.declared.refusal.Refusal.{Refusal}

-- ---- lines
-- a word and a figure, and a line of them
worded-most : (w : List ℕ) (v : ℕ) → length (w ++ figure v) ≤ length w + 11
worded-most w v = omega (arith, length-append w (figure v), figure-most v)

line-most : (w : List ℕ) (v : ℕ) → length (w ++ (figure v ++ new_line)) ≤ length w + 12
line-most w v = omega (arith, length-append w (figure v ++ new_line), length-append (figure v) new_line, figure-most v)

secret-most : (s : Secret) → length (secret_text s) ≤ 20
secret-most (Opened v) = omega (arith, worded-most opened_word v.0)
secret-most (Recovered v) = omega (arith, worded-most recovered_word v.0)
secret-most Stuck = omega arith

verdict-most : (v : Verdict) → length (verdict_text v) ≤ 20
verdict-most None = omega arith
verdict-most (Refused k) = omega (arith, worded-most refused_word (number k))
verdict-most (Accepted s) = secret-most s

dealer-most : (d : ℕ) (v : Verdict) → d < 100 → length (dealer_line d v) ≤ 31
unfolding dealer_line
dealer-most d v h =
    omega (
      arith,
      length-append (dealer_word ++ figure d) (32 ∷ (verdict_text v ++ new_line)),
      length-append dealer_word (figure d),
      length-append (verdict_text v) new_line,
      short-figure d h,
      verdict-most v,
    )

dealers-most : (d : ℕ) (vs : List Verdict) → d + length vs ≤ 100 → length (dealer_lines d vs) ≤ 31 * length vs
dealers-most d [] h = omega arith
dealers-most d (v ∷ vs) h =
    omega (
      arith,
      length-append (dealer_line d v) (dealer_lines (suc d) vs),
      dealer-most d v (omega arith),
      dealers-most (suc d) vs (omega arith),
    )

refused-most : (k : Refusal) → length (refused_line k) ≤ 19
unfolding refused_line
refused-most k = line-most refused_word (number k)

draw-most : (o : Outcome Element) → length (draw_line o) ≤ 19
draw-most (Ok v) = omega (arith, line-most draw_word v.0)
draw-most (Err k) = refused-most k

round-most : (S : Setting) → S.n < 100 → S.t < 100 → length (round_line S) ≤ 23
unfolding round_line
round-most S h g =
    omega (
      arith,
      length-append (round_word ++ figure S.number) (figure S.n ++ (figure S.t ++ new_line)),
      worded-most round_word S.number,
      length-append (figure S.n) (figure S.t ++ new_line),
      length-append (figure S.t) new_line,
      short-figure S.n h,
      short-figure S.t g,
    )

-- ---- the text
report-most : (J : Judges) (S : Setting) (b : List ℕ) → ProperSetting S → length (report J S b) ≤ 1024
unfolding report accepted_line
report-most J S b P =
    let vs = verdicts_on J S b in
    let s : length vs ≡ S.n = map-length (verdict_on J S b) (members S.n) ∙ up-length 1 S.n in
    let ds = dealer_lines 1 vs in
    let al = accepted_word ++ (figure (count_accepted vs) ++ new_line) in
    let last = draw_line (draw_in J S b) in
    omega (
      arith,
      length-append (round_line S) (ds ++ (al ++ last)),
      length-append ds (al ++ last),
      length-append al last,
      round-most S (omega arith) (omega arith),
      dealers-most 1 vs (omega arith),
      line-most accepted_word (count_accepted vs),
      draw-most (draw_in J S b),
    )

-- a text that is due where checks are met
text-most : (o : Outcome (List ℕ)) → ((t : List ℕ) → o ≡ Ok t → length t ≤ 1024) → length (text_of o) ≤ 1024
text-most (Ok t) h = h t refl
text-most (Err k) h = omega (arith, refused-most k)

outcome-most : (cs : List Check) (a t : List ℕ) → length a ≤ 1024 → outcome cs a ≡ Ok t → length t ≤ 1024
outcome-most cs a t h e = subst (λ (x : List ℕ). length x ≤ 1024) (value-met cs a t e).1 h

board-most : (J : Judges) (T : List ℕ) (R : Round) (b : List ℕ) → length (board_text J T R b) ≤ 1024
unfolding board_text
board-most J T R b =
    text-most (judged T R (λ S. board_checks S b) (λ S. report J S b)) λ t e.
    let w = (judged-exactly T R (λ S. board_checks S b) (λ S. report J S b) t).0 e in
    outcome-most (board_checks (setting_in T R) b) (report J (setting_in T R) b) t (report-most J (setting_in T R) b (round-proper T R w.0)) w.1

pub text-fits : TextFits
unfolding draw_text
text-fits J T s b =
    text-most (outcome (file_checks T s) (board_text J T (round_in s) b))
    λ t e. outcome-most (file_checks T s) (board_text J T (round_in s) b) t (board-most J T (round_in s) b) e

-- ---- in a buffer of 1,024 bytes
pub text-room : (l : List ℕ) → length l ≡ 1024 → (J : Judges) (T s b : List ℕ) → Room 0 (draw_text J T s b) l
text-room l e J T s b = record { fits = omega (arith, text-fits J T s b) }

-- what `draw_text` answers is within the buffer
pub text-within : (J : Judges) (T s b l m : List ℕ) (r : ℕ) → (r ≡ length (draw_text J T s b)) × (m ≡ draw_text J T s b ++ drop r l) → r ≤ length m
text-within J T s b l m r e = omega (arith, e.0, ap length e.1, length-append (draw_text J T s b) (drop r l))
