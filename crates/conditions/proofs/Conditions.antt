-- The claims, from what is known of each board.
use mathlib.Core.Path.{◌≡◌, refl, sym, ap, ◌∙◌, subst}
use mathlib.Core.Bool.{Bool, true, ◌&&◌}
use mathlib.Core.List.{List, [], ◌∷◌}
use mathlib.Core.Logic.{inl, inr}
use Prim.Native.Nat.{ℕ, zero, suc, ◌<◌, ◌≤◌}
use native.Mathlib.Omega.{arith}
use borrow.Author.Tests.{eqb-true, eq-eqb}
use lib.Dec.{eqb}
use lib.ListN.{length, get_or, take}
use Rattle.std.specs.Prelude.{Ok}
use Rattle.words.specs.Choice.{pick}
use Rattle.words.specs.Lists.{All, map, up_from, entry}
use Rattle.words.specs.Checks.{Outcome, outcome, Met}
use Rattle.words.specs.Bytes.{records_in, record_at}
use Rattle.words.proofs.Lists.{up-length, up_at}
use Rattle.words.proofs.Tests.{false-true, and-true, all-at, pick_true}
use Rattle.words.proofs.Checks.{value-exactly}
use Rattle.field.specs.Residue.{mul}
use Rattle.field.specs.Polynomial.{value_at}
use Rattle.group.specs.Table.{groups_of, group_of}
use Rattle.group.specs.declared.Element.{Element}
use Rattle.sharing.specs.Carried.{Carries}
use Rattle.sharing.specs.Figures.{small_round, small}
use Rattle.sharing.specs.Sum.{sum_of}
use Rattle.sharing.proofs.Figures.{small-proper, carried-figures, refused-uncarried}
use Rattle.records.specs.Layout.{share_kind, dealer_of, member_of, Z_of}
use Rattle.lines.specs.Lines.{v_in}
use Rattle.share.specs.Share.{opened_form}
use Rattle.board.specs.Board.{board_checks, lines_of}
use Rattle.verdicts.specs.Shares.{judges, recovered_from}
use Rattle.verdicts.specs.Verdict.{is_accepted, commitments_of, encrypted_of, is_share_by, secret_by}
use Rattle.verdicts.specs.Added.{added_by}
use Rattle.verdicts.specs.Draw.{count_accepted, any_stuck, secrets_product, end_checks, reached_draw, draw_outcome}
use Rattle.verdicts.proofs.ShareAnswers.{share-address}
use Rattle.verdicts.specs.declared.Secret.{Secret}
use Rattle.verdicts.specs.declared.Secret.TheVariants.{Opened, Recovered, Stuck}
use Rattle.verdicts.specs.declared.Verdict.{Verdict}
use Rattle.verdicts.specs.declared.Verdict.TheVariants.{None, Accepted}
use Rattle.demand3.specs.Claims.{Revealed, power_of_h, VerdictRule, SomeStuck, Recoverable, AllRecoverable, AddedTrue, sum_on, SameDealings}
use Rattle.demand3.proofs.VerdictCases.{verdict-rules}
use Rattle.demand3.proofs.Endings.{reached-draw}
use Rattle.demand3.proofs.TwoBoards.{draw-by-round}
use Rattle.conditions.specs.Boards.{uncarried_low, uncarried_high, added_board}
use Rattle.conditions.specs.Claims.{polynomial_of, DrawIs, ConditionsMet, OtherConditions, EachCarried, AllTrue, CarriedNeeded, TrueNeeded, AddedMet, OtherAdded, AddedTrueNeeded}
use Rattle.conditions.proofs.Known.{opened, Known, two-accepted, every_share, is_true_share, is_true_to_line, all_known, AddedKnown, all-added}

-- ---- a fact of each of four members
by-four : (P : ℕ → Type 0) → P 1 → P 2 → P 3 → P 4 → (d : ℕ) → 1 ≤ d → d ≤ 4 → P d
by-four P a b c e zero h k = absurd (omega arith)
by-four P a b c e (suc zero) h k = a
by-four P a b c e (suc (suc zero)) h k = b
by-four P a b c e (suc (suc (suc zero))) h k = c
by-four P a b c e (suc (suc (suc (suc zero)))) h k = e
by-four P a b c e (suc (suc (suc (suc (suc d))))) h k = absurd (omega arith)

-- a secret that is not stuck
abbrev Found : Secret → Type 0
Found (Opened v) = Unit {0}
Found (Recovered v) = Unit {0}
Found Stuck = ⊥

-- how the board ends, by the verdicts and the records of accepted added shares
abbrev end_of : List ℕ → List Verdict → List ℕ → Outcome Element
end_of b vs is =
    outcome (end_checks 2 (count_accepted vs) (any_stuck vs) (length is))
    (pick (any_stuck vs) (record { 0 = recovered_from (group_of (groups_of []) 1) b (take 2 is) }) (record { 0 = secrets_product 23 vs }))

-- ---- one board
module _ {b vs : List ℕ} {s : Secret} (K : Known b vs s) where
  reached : Met (board_checks small b)
  reached = (value-exactly Unit (board_checks small b) tt).0 K.passes

  rule : (d : ℕ) → VerdictRule judges small b d
  rule = verdict-rules judges small small-proper b reached

  -- a fact of each accepted dealing
  of-accepted : (P : ℕ → Type 0) → P 1 → P 2 → (d : ℕ) → 1 ≤ d → d ≤ 4 → is_accepted judges small b d ≡ true → P d
  of-accepted P p q =
      by-four (λ d. is_accepted judges small b d ≡ true → P d) (λ a. p) (λ a. q)
      (λ a. absurd (false-true (sym K.third.0 ∙ a))) (λ a. absurd (false-true (sym K.fourth.0 ∙ a)))

  draw : draw_outcome judges [] small_round b ≡ end_of b (Accepted s ∷ Accepted (opened 3) ∷ None ∷ None ∷ []) (added_by judges small b)
  unfolding groups_of group_of reached_draw
  draw =
      let v = ((rule 1).accepted s).1 (K.first, K.first-secret) in
      let w = ((rule 2).accepted (opened 3)).1 (K.second, K.second-secret) in
      (draw-by-round judges [] small_round).draw-in carried-figures.0 b
      ∙ reached-draw judges small b reached
      ∙ (λ j. end_of b (v j ∷ w j ∷ K.third.1 j ∷ K.fourth.1 j ∷ []) (added_by judges small b))

  revealed-by : (d : ℕ) (r : Secret) → Found r → secret_by judges small b d ≡ r → Revealed judges small b d
  revealed-by d (Opened v) f e = inl (((rule d).opened v).0 e).0
  revealed-by d (Recovered v) f e = inr (((rule d).recovers v).0 e).1
  revealed-by d Stuck f e = absurd f

  revealed : Found s → Revealed judges small b 1 × Revealed judges small b 2
  revealed f = (revealed-by 1 s f K.first-secret, revealed-by 2 (opened 3) tt K.second-secret)

  other-conditions : Found s → OtherConditions b
  other-conditions f =
      record {
        reached = reached;
        count = rw (K.first, K.second, K.third.0, K.fourth.0) (omega arith);
        revealed = of-accepted _ (revealed f).0 (revealed f).1;
      }

-- ---- one board whose dealings are carried
module _ {b : List ℕ} {s : Secret} (K : Known b (9 ∷ 16 ∷ 8 ∷ 4 ∷ []) s) where
  carries : Carries small (polynomial_of 1) (commitments_of small b 1) × Carries small (polynomial_of 2) (commitments_of small b 2)
  carries = (rw K.commitments.0 carried-figures.1, rw K.commitments.1 all_known.second-carried)

  carried : EachCarried b
  carried = of-accepted K _ (polynomial_of 1, carries.0) (polynomial_of 2, carries.1)

-- ---- two boards with the same commitments
same : {b c vs : List ℕ} {s r : Secret} → Known b vs s → Known c vs r → SameDealings judges small small b c
same {b} {c} K L =
    record {
      dealers =
          by-four (λ d. is_accepted judges small b d ≡ is_accepted judges small c d) (K.first ∙ sym L.first) (K.second ∙ sym L.second)
          (K.third.0 ∙ sym L.third.0) (K.fourth.0 ∙ sym L.fourth.0);
      commitments = of-accepted K _ (K.commitments.0 ∙ sym L.commitments.0) (K.commitments.1 ∙ sym L.commitments.1);
    }

-- ---- the shares of a board
module _ (b : List ℕ) (f : ℕ → Bool) (t : every_share b f ≡ true) where
  share-passes : (d i : ℕ) → i < records_in b → is_share_by judges small b d i ≡ true → (1 ≡ d) × (f i ≡ true)
  share-passes d i h e =
      let s = share-address judges small b (opened_form d) (encrypted_of small b d) i e in
      let g : ℕ → Bool = λ k. pick (eqb (record_at b k).w0 share_kind) (eqb (dealer_of (record_at b k)) 1 && f k) true in
      let k : get_or (up_from 0 (records_in b)) i 0 ≡ i = up_at 0 (records_in b) i h ∙ omega arith in
      let at = sym (ap g k) ∙ all-at g (up_from 0 (records_in b)) i 0 (rw up-length h) t in
      let two = and-true (eqb (dealer_of (record_at b i)) 1) (f i) (sym (pick_true (eqb (record_at b i).w0 share_kind) _ true (eq-eqb _ share_kind s.0)) ∙ at) in
      (sym (eqb-true _ 1 two.0) ∙ s.1, two.1)

true-to-lines : (b : List ℕ) → every_share b (is_true_to_line b) ≡ true → AllTrue b
true-to-lines b t d i h e =
    let m = member_of (record_at b i) in
    let p = share-passes b (is_true_to_line b) t d i h e in
    let two = and-true _ _ p.1 in
    (entry (8 ∷ 2 ∷ 1 ∷ 3 ∷ []) m, ap (λ (k : ℕ). v_in (lines_of b k) m) (sym p.0) ∙ eqb-true _ _ two.0, eqb-true _ _ two.1)

recoverable : {b : List ℕ} {s : Secret} → Known b (9 ∷ 16 ∷ 8 ∷ 4 ∷ []) s → Found s → every_share b (is_true_share b) ≡ true
    → AllRecoverable judges small b polynomial_of
recoverable {b} K f t =
    record {
      reached = reached K;
      recoverable = of-accepted K _ (of-dealer 1 (carries K).0 (revealed K f).0) (of-dealer 2 (carries K).1 (revealed K f).1);
    }
  where
    of-dealer : (d : ℕ) → Carries small (polynomial_of d) (commitments_of small b d) → Revealed judges small b d → Recoverable judges small b d (polynomial_of d)
    of-dealer d k r =
        record {
          carries = k;
          true-shares =
              λ i h e.
              let p = share-passes b (is_true_share b) t d i h e in
              eqb-true _ _ p.1 ∙ ap (λ (k : ℕ). power_of_h small.group (value_at small.group.q (polynomial_of k) (member_of (record_at b i)))) p.0;
          revealed = r;
        }

-- ---- the claims
pub conditions-met : ConditionsMet
unfolding mul
conditions-met =
    let A = all_known in
    record {
      proper = small-proper;
      opened = recoverable A.opened-known tt A.opened-true;
      silent = recoverable A.silent-known tt A.silent-true;
      same = same A.opened-known A.silent-known;
      count = (other-conditions A.opened-known tt).count;
      draws = (draw A.opened-known, draw A.silent-known);
    }

uncarried : (f : List ℕ) → Carries small f (commitments_of small uncarried_low 1) → ⊥
unfolding groups_of group_of
uncarried f C =
    refused-uncarried (9 ∷ 16 ∷ 4 ∷ 18 ∷ []) (1 ∷ 0 ∷ []) (record { size = refl; low = (omega arith, (omega arith, tt)) }) all_known.not-passed f
    (subst (Carries small f) all_known.low-known.commitments.0 C)

pub carried-needed : CarriedNeeded
unfolding mul
carried-needed =
    let A = all_known in (
      uncarried,
      (other-conditions A.low-known tt, other-conditions A.high-known tt, same A.low-known A.high-known),
      true-to-lines uncarried_low A.low-true,
      true-to-lines uncarried_high A.high-true,
      draw A.low-known,
      draw A.high-known,
    )

pub true-needed : TrueNeeded
unfolding mul
true-needed =
    let A = all_known in (
      (other-conditions A.silent-known tt, other-conditions A.forged-known tt, same A.silent-known A.forged-known),
      carried A.silent-known,
      carried A.forged-known,
      draw A.silent-known,
      draw A.forged-known,
    )

-- ---- added shares
module _ {b : List ℕ} (K : Known b (9 ∷ 16 ∷ 8 ∷ 4 ∷ []) Stuck) {v : ℕ} (A : AddedKnown b v) where
  first-stuck : SomeStuck judges small b
  first-stuck = (1, omega arith, omega arith, ((rule K 1).accepted Stuck).1 (K.first, K.first-secret))

  added-enough : 2 ≤ length (added_by judges small b)
  added-enough = rw A.records (omega arith)

  added-drawn : DrawIs b v
  added-drawn =
      draw K ∙ ap (end_of b (Accepted Stuck ∷ Accepted (opened 3) ∷ None ∷ None ∷ [])) A.records
      ∙ (λ j. Ok (record { 0 = A.recovers j }))

  other-added : OtherAdded b
  other-added = record { reached = reached K; carried = carried K; stuck = first-stuck; enough = added-enough }

added_true : AddedTrue judges small added_board polynomial_of
added_true =
    let K = all_known.added-known in
    let A = all-added in
    let f : sum_on judges small added_board polynomial_of ≡ 9 ∷ 9 ∷ [] = ap (λ (ds : List ℕ). sum_of small (map polynomial_of ds)) (two-accepted K) ∙ A.sum in
    record {
      reached = reached K;
      carried = of-accepted K _ (carries K).0 (carries K).1;
      stuck = first-stuck K A.honest;
      enough = added-enough K A.honest;
      true-shares =
          subst
          (λ (is : List ℕ). All (λ i. Z_of (record_at added_board i) ≡ power_of_h small.group (value_at small.group.q (sum_on judges small added_board polynomial_of) (member_of (record_at added_board i)))) (take 2 is))
          (sym A.honest.records)
          (subst
          (λ (g : List ℕ). All (λ i. Z_of (record_at added_board i) ≡ power_of_h small.group (value_at small.group.q g (member_of (record_at added_board i)))) (13 ∷ 14 ∷ []))
          (sym f) (A.shares.0, (A.shares.1, tt)));
    }

pub added-met : AddedMet
added-met =
    let K = all_known.added-known in
    record {
      added = added_true;
      same = same all_known.opened-known K;
      count = rw (K.first, K.second, K.third.0, K.fourth.0) (omega arith);
      draw = added-drawn K all-added.honest;
      multiplied-vs = all-added.multiplied-vs;
      sum_carries = all-added.sum_carries;
    }

pub added-true-needed : AddedTrueNeeded
added-true-needed =
    let K = all_known.added-known in
    let L = all_known.added-forged-known in
    let A = all-added in
    (other-added K A.honest, other-added L A.forged, same K L, added-drawn K A.honest, added-drawn L A.forged)
