-- What is known of each board, by computing the definitions around the two judges, whose answers stand in Answers.
use mathlib.Core.Path.{◌≡◌, refl, ap, ◌∙◌}
use mathlib.Core.Bool.{Bool, true, false, ◌&&◌}
use mathlib.Core.List.{List, [], ◌∷◌}
use Prim.Native.Nat.{ℕ}
use native.Mathlib.Omega.{arith}
use lib.Dec.{eqb}
use Rattle.std.specs.Prelude.{Ok, Err, is_ok}
use Rattle.words.specs.Choice.{pick}
use Rattle.words.specs.Lists.{map, all, up_from, entry}
use Rattle.words.specs.Checks.{Outcome, outcome}
use Rattle.words.specs.Bytes.{word_at, word_bytes, words_bytes, record_bytes, record_in, records_in, record_at, agrees}
use Rattle.words.specs.declared.refusal.Refusal.TheVariants.{DegreeFails}
use Rattle.field.specs.Residue.{add, mul, sub, inv}
use Rattle.field.specs.Polynomial.{value_at}
use Rattle.group.specs.Power.{pow}
use Rattle.group.specs.Table.{groups_of, group_of}
use Rattle.group.specs.Element.{is_element, is_generator, is_exponent}
use Rattle.group.specs.declared.Element.{Element}
use Rattle.sharing.specs.Setting.{is_member, members}
use Rattle.sharing.specs.Weights.{gaps_at, weight_at, weights_of, lagrange_at, powers_product}
use Rattle.sharing.specs.Answer.{degree_product, degree_figures, degree_equation, degree_in, recovered, is_opening, opening_figures, opening_equation, opening_in}
use Rattle.sharing.specs.Carried.{powers_at, Carries}
use Rattle.sharing.specs.Figures.{small}
use Rattle.sharing.specs.Sum.{sum_of}
use Rattle.records.specs.Layout.{share_kind, dealer_of, member_of, Z_of}
use Rattle.records.specs.Keys.{is_key, key_checks}
use Rattle.lines.specs.Lines.{v_in, Y_in, vs_in}
use Rattle.board.specs.Board.{is_shaped, is_below, form_checks, place_of, is_at, record_place, key_in, board_key_checks, board_checks, line_count, lines_of}
use Rattle.share.specs.Share.{added_form}
use Rattle.verdicts.specs.Shares.{judges, share_answer, is_share_in, shares_in, recovered_from, from_lowest}
use Rattle.verdicts.specs.Verdict.{is_accepted, commitments_of, encrypted_of, secret_from, from_shares, is_opened, secret_by, verdict_on}
use Rattle.verdicts.specs.Added.{accepted_dealers, multiplied_at, multiplied, added_by}
use Rattle.verdicts.specs.declared.Secret.{Secret}
use Rattle.verdicts.specs.declared.Secret.TheVariants.{Opened, Recovered, Stuck}
use Rattle.verdicts.specs.declared.Verdict.TheVariants.{None}
use Rattle.demand3.specs.Claims.{power_of_h}
use Rattle.conditions.specs.Boards.{opened_board, silent_board, forged_board, uncarried_low, uncarried_high, added_board, forged_added}
use Rattle.conditions.specs.Claims.{polynomial_of}
use Rattle.conditions.proofs.Answers.{answers}

abbrev pub opened : ℕ → Secret
opened v = Opened (record { 0 = v })

abbrev pub recovered_as : ℕ → Secret
recovered_as v = Recovered (record { 0 = v })

-- dealer d has no lines
abbrev pub NoLines : List ℕ → ℕ → Type 0
NoLines b d = (is_accepted judges small b d ≡ false) × (verdict_on judges small b d ≡ None)

-- nothing refuses the board before the verdicts; the dealings of 1 and 2 are accepted, that of 1 with the commitments vs and the
-- secret s; the others have no lines
pub record Known (b vs : List ℕ) (s : Secret) : Type 0 where
  pub passes : outcome (board_checks small b) tt ≡ Ok (tt {0})
  pub first : is_accepted judges small b 1 ≡ true
  pub second : is_accepted judges small b 2 ≡ true
  pub first-secret : secret_by judges small b 1 ≡ s
  pub second-secret : secret_by judges small b 2 ≡ opened 3
  pub commitments : (commitments_of small b 1 ≡ vs) × (commitments_of small b 2 ≡ 6 ∷ 18 ∷ 8 ∷ 1 ∷ [])
  pub third : NoLines b 3
  pub fourth : NoLines b 4

known : (b : List ℕ) {vs : List ℕ} {s : Secret} → outcome (board_checks small b) tt ≡ Ok (tt {0})
    → is_accepted judges small b 1 ≡ true → is_accepted judges small b 2 ≡ true → secret_by judges small b 1 ≡ s → secret_by judges small b 2 ≡ opened 3
    → (commitments_of small b 1 ≡ vs) × (commitments_of small b 2 ≡ 6 ∷ 18 ∷ 8 ∷ 1 ∷ []) → NoLines b 3 → NoLines b 4 → Known b vs s
known b p f s e g c t u =
    record { passes = p; first = f; second = s; first-secret = e; second-secret = g; commitments = c; third = t; fourth = u }

-- the secret from the shares in the records is
abbrev from_records : List ℕ → List ℕ → Secret
from_records b is = secret_from (from_lowest small b is)

-- the records 13 and 14, so far as they are accepted
abbrev last : Outcome Element → List ℕ
last a = pick (is_ok a) (14 ∷ []) []

abbrev last_two : Outcome Element → Outcome Element → List ℕ
last_two a c = pick (is_ok a) (13 ∷ last c) (last c)

-- ---- added shares, where the dealings of 1 and 2 alone are accepted
pub two-accepted : {b vs : List ℕ} {s : Secret} → Known b vs s → accepted_dealers judges small b ≡ 1 ∷ 2 ∷ []
two-accepted {b} K = λ j.
    let behind : Bool → List ℕ → ℕ → List ℕ = λ x ds d. pick x (d ∷ ds) ds in
    behind (K.first j) (behind (K.second j) (behind (K.third.0 j) (behind (K.fourth.0 j) [] 4) 3) 2) 1

-- every share on the board is one of dealer 1, and passes the test
abbrev pub every_share : List ℕ → (ℕ → Bool) → Bool
every_share b f = all (λ i. pick (eqb (record_at b i).w0 share_kind) (eqb (dealer_of (record_at b i)) 1 && f i) true) (up_from 0 (records_in b))

-- the share in the record i is h to the value of 3 + 5 times the member number
abbrev pub is_true_share : List ℕ → ℕ → Bool
is_true_share b i = eqb (Z_of (record_at b i)) (power_of_h small.group (value_at small.group.q (3 ∷ 5 ∷ []) (member_of (record_at b i))))

-- the share in the record i is h to the exponent of its line among 8, 2, 1, 3
abbrev pub is_true_to_line : List ℕ → ℕ → Bool
is_true_to_line b i =
    let m = member_of (record_at b i) in
    let e = entry (8 ∷ 2 ∷ 1 ∷ 3 ∷ []) m in
    eqb (v_in (lines_of b 1) m) (pow small.group.p small.group.g.0 e) && eqb (Z_of (record_at b i)) (power_of_h small.group e)

pub record AllKnown : Type 0 where
  pub opened-known : Known opened_board (9 ∷ 16 ∷ 8 ∷ 4 ∷ []) (opened 16)
  pub silent-known : Known silent_board (9 ∷ 16 ∷ 8 ∷ 4 ∷ []) (recovered_as 16)
  pub forged-known : Known forged_board (9 ∷ 16 ∷ 8 ∷ 4 ∷ []) (recovered_as 3)
  pub low-known : Known uncarried_low (9 ∷ 16 ∷ 4 ∷ 18 ∷ []) (recovered_as 16)
  pub high-known : Known uncarried_high (9 ∷ 16 ∷ 4 ∷ 18 ∷ []) (recovered_as 3)
  pub opened-true : every_share opened_board (is_true_share opened_board) ≡ true
  pub silent-true : every_share silent_board (is_true_share silent_board) ≡ true
  pub low-true : every_share uncarried_low (is_true_to_line uncarried_low) ≡ true
  pub high-true : every_share uncarried_high (is_true_to_line uncarried_high) ≡ true
  pub added-known : Known added_board (9 ∷ 16 ∷ 8 ∷ 4 ∷ []) Stuck
  pub added-forged-known : Known forged_added (9 ∷ 16 ∷ 8 ∷ 4 ∷ []) Stuck
  pub not-passed : degree_in small (9 ∷ 16 ∷ 4 ∷ 18 ∷ []) (1 ∷ 0 ∷ []) ≡ Err DegreeFails
  pub second-carried : Carries small (polynomial_of 2) (6 ∷ 18 ∷ 8 ∷ 1 ∷ [])

pub all_known : AllKnown
unfolding word_at word_bytes words_bytes record_bytes record_in add mul sub inv pow groups_of group_of is_element is_exponent is_member gaps_at weight_at weights_of lagrange_at powers_product degree_product degree_figures degree_equation degree_in recovered is_opening opening_figures opening_equation opening_in powers_at agrees entry record_at is_generator is_key key_checks v_in Y_in vs_in is_shaped is_below form_checks place_of is_at record_place key_in board_key_checks board_checks line_count lines_of is_accepted encrypted_of share_answer is_share_in shares_in from_lowest from_shares is_opened secret_by verdict_on
all_known =
    let first = ap is_ok answers.first in
    let uncarried = ap is_ok answers.uncarried in
    let second = ap is_ok answers.second in
    record {
      opened-known = known opened_board refl first second refl refl (refl, refl) (refl, refl) (refl, refl);
      silent-known = known silent_board refl first second (λ j. from_records silent_board (last_two (answers.share-1 j) (answers.share-2 j))) refl
          (refl, refl) (refl, refl) (refl, refl);
      forged-known = known forged_board refl first second (λ j. from_records forged_board (last_two (answers.forged j) (answers.share-2 j))) refl
          (refl, refl) (refl, refl) (refl, refl);
      low-known = known uncarried_low refl uncarried second (λ j. from_records uncarried_low (last_two (answers.share-1 j) (answers.share-2 j))) refl
          (refl, refl) (refl, refl) (refl, refl);
      high-known = known uncarried_high refl uncarried second (λ j. from_records uncarried_high (last_two (answers.share-1 j) (answers.share-3 j))) refl
          (refl, refl) (refl, refl) (refl, refl);
      opened-true = refl;
      silent-true = refl;
      low-true = refl;
      high-true = refl;
      added-known = known added_board refl first second refl refl (refl, refl) (refl, refl) (refl, refl);
      added-forged-known = known forged_added refl first second refl refl (refl, refl) (refl, refl) (refl, refl);
      not-passed = refl;
      second-carried = record { polynomial = record { size = refl; low = (omega arith, (omega arith, tt)) }; powers = refl };
    }

-- ---- the boards that end by added shares: what the records 13 and 14 are judged with, and their answers
-- the Y multiplied, and the commitments
abbrev product : List ℕ → (List ℕ → ℕ → ℕ) → List ℕ
product b figure = map (multiplied_at 23 b figure (1 ∷ 2 ∷ [])) (members 4)

products-are : {b vs : List ℕ} {s : Secret} → Known b vs s → (figure : List ℕ → ℕ → ℕ) → multiplied judges small b figure ≡ product b figure
unfolding multiplied groups_of group_of
products-are {b} K figure = ap (λ (ds : List ℕ). map (multiplied_at 23 b figure ds) (members 4)) (two-accepted K)

pub record AddedKnown (b : List ℕ) (v : ℕ) : Type 0 where
  pub records : added_by judges small b ≡ 13 ∷ 14 ∷ []
  pub recovers : recovered_from small.group b (13 ∷ 14 ∷ []) ≡ v

pub record AllAdded : Type 0 where
  pub honest : AddedKnown added_board 2
  pub forged : AddedKnown forged_added 9
  -- the shares in the records 13 and 14 are true to 9 + 9 times the member number, which is the sum
  pub sum : sum_of small ((3 ∷ 5 ∷ []) ∷ (6 ∷ 4 ∷ []) ∷ []) ≡ 9 ∷ 9 ∷ []
  pub shares : (Z_of (record_at added_board 13) ≡ power_of_h small.group (value_at small.group.q (9 ∷ 9 ∷ []) (member_of (record_at added_board 13))))
      × (Z_of (record_at added_board 14) ≡ power_of_h small.group (value_at small.group.q (9 ∷ 9 ∷ []) (member_of (record_at added_board 14))))
  pub multiplied-vs : multiplied judges small added_board v_in ≡ 8 ∷ 12 ∷ 18 ∷ 4 ∷ []
  pub sum_carries : Carries small (9 ∷ 9 ∷ []) (8 ∷ 12 ∷ 18 ∷ 4 ∷ [])

pub all-added : AllAdded
unfolding word_at word_bytes words_bytes record_bytes record_in add mul sub inv pow groups_of group_of is_element lagrange_at powers_product recovered powers_at entry record_at v_in Y_in is_below place_of is_at record_place key_in lines_of share_answer is_share_in shares_in
all-added =
    let shares : List ℕ → List ℕ → List ℕ = λ b Ys. shares_in judges small b added_form Ys in
    record {
      honest = record { records = ap (shares added_board) (products-are all_known.added-known Y_in) ∙ (λ j. last_two (answers.added-1 j) (answers.added-2 j)); recovers = refl };
      forged = record { records = ap (shares forged_added) (products-are all_known.added-forged-known Y_in) ∙ (λ j. last_two (answers.added-forged j) (answers.added-2 j)); recovers = refl };
      sum = refl;
      shares = (refl, refl);
      multiplied-vs = products-are all_known.added-known v_in;
      sum_carries = record { polynomial = record { size = refl; low = (omega arith, (omega arith, tt)) }; powers = refl };
    }
