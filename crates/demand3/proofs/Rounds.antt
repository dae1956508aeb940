-- Over a table and a round: the first check that is not met settles all that is answered and printed, and board judges that agree in their
-- setting agree over them.
use mathlib.Core.Path.{◌≡◌, refl, sym, ap, ◌∙◌, subst}
use mathlib.Core.List.{List, ◌++◌, append_assoc}
use mathlib.Core.Logic.{◌↔◌}
use Prim.Native.Nat.{ℕ}
use Rattle.std.specs.Prelude.{Ok, Err}
use Rattle.words.specs.Lists.{map}
use Rattle.words.specs.Checks.{Check, Outcome, outcome, Met, FirstUnmet}
use Rattle.words.specs.declared.refusal.Refusal.{Refusal}
use Rattle.words.specs.declared.refusal.Refusal.TheVariants.{OtherRound, SameKey}
use Rattle.words.proofs.Checks.{value-exactly, refused-exactly}
use Rattle.words.proofs.Stages.{met-both, rest-first, front-outcome}
use Rattle.words.proofs.RefuseAlike.{same-behind, same-value, same-choice}
use Rattle.sharing.specs.Setting.{setting_in, round_checks, judged, judged_else, members}
use Rattle.sharing.specs.declared.Round.{Round}
use Rattle.sharing.specs.declared.Setting.{Setting}
use Rattle.board.specs.Board.{form_checks, board_key_checks, board_checks}
use Rattle.board.proofs.Order.{board-of-other-round}
use Rattle.board.proofs.KeyRecords.{board-key-twice}
use Rattle.verdicts.specs.Shares.{Judges, judges}
use Rattle.verdicts.specs.Verdict.{verdict_on}
use Rattle.verdicts.specs.Draw.{count_accepted, draw_checks, draw_value, draw_in, draw_outcome, verdict_places, no_verdicts}
use Rattle.verdicts.specs.declared.Judgement.{Judgement}
use Rattle.rulings.specs.Ruling.{JudgementOf, verdicts_of, count_of}
use Rattle.rulings.specs.Files.{round_in, file_checks}
use Rattle.rulings.proofs.Theorems.{judgement-exactly}
use Rattle.text.specs.Text.{refused_line, dealer_lines, accepted_line, draw_line, round_line, text_of, report, board_text, draw_text}
use Rattle.text.proofs.Reports.{text-passed}
use Rattle.demand3.specs.Rounds.{FirstRefusal, OtherRoundRefused, KeyTwiceRefused, BoardJudge, checks_over, draw_over, places_over, count_over, report_by, text_over, JudgedAs, AnsweredBySetting}

module _ (T : List ℕ) (R : Round) (b : List ℕ) where
  abbrev S : Setting
  S = setting_in T R

  -- all that comes before the verdicts
  abbrev own : List Check
  own = round_checks T R ++ board_checks S b

  -- ---- refused before the verdicts
  module _ (J : Judges) (k : Refusal) (u : FirstUnmet k own) where
    no-draw : draw_outcome J T R b ≡ Err k
    unfolding draw_outcome judged
    no-draw =
        sym
        (front-outcome own (draw_checks J S b) k u (draw_value J S b)
        ∙ ap (λ (cs : List Check). outcome cs (draw_value J S b)) (append_assoc (round_checks T R) (board_checks S b) (draw_checks J S b)))

    no-verdict : (o : Outcome Judgement) → JudgementOf J T R b o → o ≡ Err k
    no-verdict (Ok A) a =
        let met = (value-exactly Unit own tt).1 a.0 in
        let refused = (refused-exactly Unit own tt k).1 u in
        cc
    no-verdict (Err i) v =
        let first = (refused-exactly Unit own tt i).1 v in
        let refused = (refused-exactly Unit own tt k).1 u in
        cc

    one_line : (s : List ℕ) → Met (file_checks T s) → round_in s ≡ R → draw_text J T s b ≡ refused_line k
    unfolding draw_text board_text judged
    one_line s m e =
        text-passed (file_checks T s) (board_text J T (round_in s) b) m
        ∙ ap (λ (Q : Round). board_text J T Q b) e
        ∙ ap text_of ((refused-exactly (List ℕ) own (report J S b) k).1 u)

  -- ---- judged as by another board judge in their setting
  module _ (B : BoardJudge) (h : Met (round_checks T R) → JudgedAs B S b) where
    abbrev other : List Check
    other = checks_over B T R b

    before : outcome own tt ≡ outcome other (tt {0})
    before = same-behind (round_checks T R) (round_checks T R) refl (board_checks S b) (B.before S b) tt tt (λ m. (h m).before)

    draw-over : draw_outcome judges T R b ≡ draw_over B T R b
    unfolding draw_outcome draw_in judged
    draw-over = same-behind (round_checks T R) (round_checks T R) refl _ _ _ _ (λ m. (h m).draw)

    module _ (m : Met own) where
      both : Met (round_checks T R) × Met (board_checks S b)
      both = met-both (round_checks T R) (board_checks S b) m

      verdict : (d : ℕ) → verdict_on judges S b d ≡ B.verdict S b d
      verdict = (h both.0).verdict both.1

      same-report : report judges S b ≡ report_by B S b
      unfolding report
      same-report = λ j.
          let vs = map (λ d. verdict d j) (members S.n) in
          round_line S ++ (dealer_lines 1 vs ++ (accepted_line (count_accepted vs) ++ draw_line ((h both.0).draw j)))

    refused-over : (o : Outcome Judgement) → JudgementOf judges T R b o → (k : Refusal) → (o ≡ Err k) ↔ FirstUnmet k other
    refused-over (Ok A) a k =
        let met = (value-exactly Unit own tt).1 a.0 in
        (λ e. absurd (cc), λ u. let refused = before ∙ (refused-exactly Unit other tt k).1 u in cc)
    refused-over (Err i) v k =
        let first = sym before ∙ (refused-exactly Unit own tt i).1 v in (
          λ e. let same : i ≡ k = cc in (refused-exactly Unit other tt k).0 (first ∙ ap Err same),
          λ u. let refused = (refused-exactly Unit other tt k).1 u in cc,
        )

    verdicts-over : (o : Outcome Judgement) → JudgementOf judges T R b o → verdicts_of o ≡ places_over B T R b
    unfolding judged_else
    verdicts-over o a =
        (judgement-exactly judges T R b o a).verdicts
        ∙ same-choice own other before _ _ no_verdicts (λ m j. verdict_places (λ d. verdict m d j) S.n)

    accepted-over : (o : Outcome Judgement) → JudgementOf judges T R b o → count_of o ≡ count_over B T R b
    unfolding judged_else
    accepted-over o a =
        (judgement-exactly judges T R b o a).accepted
        ∙ same-choice own other before _ _ 0 (λ m j. count_accepted (map (λ d. verdict m d j) (members S.n)))

    board-text : board_text judges T R b ≡ text_of (judged T R (λ S. B.before S b) (λ S. report_by B S b))
    unfolding board_text judged
    board-text = ap text_of (same-value own other before _ _ same-report)

    text-over : (s : List ℕ) → round_in s ≡ R → draw_text judges T s b ≡ text_over B T s b
    unfolding draw_text
    text-over s e =
        ap (λ (t : List ℕ). text_of (outcome (file_checks T s) t))
        (subst (λ (Q : Round). board_text judges T Q b ≡ text_of (judged T Q (λ S. B.before S b) (λ S. report_by B S b))) (sym e) board-text)

pub first-refusal : FirstRefusal
first-refusal J T R b k u = record { draw = no-draw T R b J k u; answer = no-verdict T R b J k u; text = one_line T R b J k u }

pub answered-by-setting : AnsweredBySetting
answered-by-setting B T R b h =
    record {
      draw = draw-over T R b B h;
      refused = refused-over T R b B h;
      verdicts = verdicts-over T R b B h;
      accepted = accepted-over T R b B h;
      text = text-over T R b B h;
    }

-- ---- by 17 and by 22
pub other-round-refused : OtherRoundRefused
unfolding board_checks
other-round-refused J T R m b i h before shaped other =
    let S : Setting = setting_in T R in
    first-refusal J T R b OtherRound
    (rest-first (round_checks T R) (board_checks S b) OtherRound m
    ((refused-exactly Unit (board_checks S b) tt OtherRound).0
    (sym (front-outcome (form_checks S b) (board_key_checks S b) OtherRound (board-of-other-round S b i h before shaped other) tt))))

pub key-twice-refused : KeyTwiceRefused
key-twice-refused J T R m b form keys twice =
    let S : Setting = setting_in T R in
    first-refusal J T R b SameKey (rest-first (round_checks T R) (board_checks S b) SameKey m (board-key-twice S b form keys twice))
