-- Boards of what is written meet the hypotheses of demand 3, and so end in the product of the h^s: what is said of two boards there is said
-- here of one board beside itself.
use mathlib.Core.Path.{◌≡◌, refl, ap, ◌∙◌}
use mathlib.Core.Bool.{Bool, true}
use mathlib.Core.List.{List, [], ◌∷◌}
use mathlib.Core.Logic.{inl, inr, ⊎_elim}
use Prim.Native.Nat.{ℕ, ◌^◌, ◌<◌, ◌≤◌}
use native.Mathlib.Omega.{arith}
use lib.ListN.{length}
use Rattle.std.specs.Prelude.{Ok}
use Rattle.words.specs.Choice.{pick}
use Rattle.words.specs.Lists.{All, map, entry}
use Rattle.words.specs.Checks.{Outcome, Met}
use Rattle.words.proofs.Lists.{All-to, up-length}
use Rattle.group.specs.declared.Element.{Element}
use Rattle.sharing.specs.Setting.{ProperSetting, OneGroup, setting_in, members}
use Rattle.sharing.specs.Carried.{secret_of}
use Rattle.sharing.specs.declared.Setting.{Setting}
use Rattle.sharing.specs.Sum.{product_of}
use Rattle.sharing.proofs.Rounds.{round-proper}
use Rattle.sharing.proofs.EachMember.{each-members}
use Rattle.lines.specs.Lines.{Y_in}
use Rattle.share.specs.Share.{added_form}
use Rattle.board.specs.Search.{filter}
use Rattle.board.specs.Board.{board_checks}
use Rattle.board.proofs.Order.{reached}
use Rattle.verdicts.specs.Shares.{judges}
use Rattle.verdicts.specs.Verdict.{is_accepted}
use Rattle.verdicts.specs.Added.{accepted_dealers, multiplied}
use Rattle.verdicts.specs.Draw.{draw_in, draw_outcome}
use Rattle.demand3.specs.Claims.{power_of_h, AllRecoverable, AddedTrue, EitherTrue, TwoBoards, secrets_of}
use Rattle.demand3.specs.Complete.{WrittenLines, WrittenBoard, WrittenStuck, EitherWritten, WrittenEnds, WrittenBoardsEnd, WrittenByRound}
use Rattle.demand3.proofs.Serving.{serving, serving-shares}
use Rattle.demand3.proofs.TwoBoards.{same-draw-either}
use Rattle.demand3.proofs.Complete.{lines-accepted, rightly, shares-enough, opened-true, opened-enough, added-kind, added_true}

-- a test that every number passes leaves none out
filter-every : (t : ℕ → Bool) (xs : List ℕ) → All (λ x. t x ≡ true) xs → filter t xs ≡ xs
filter-every t [] a = refl
filter-every t (x ∷ xs) a = λ j. pick (a.0 j) (x ∷ filter-every t xs a.1 j) (filter-every t xs a.1 j)

-- ---- whole boards
module _ (S : Setting) (P : ProperSetting S) (word : S.round < 2 ^ 32) (b : List ℕ) (f : ℕ → List ℕ) where
  recoverable : WrittenBoard S b f → AllRecoverable judges S b f
  recoverable B =
      let met = B.reached in
      record {
        reached = met;
        recoverable = λ d h l a.
            let T = B.dealings d h l a in
            record {
              carries = T.carries;
              true-shares = λ i u e. opened-true S P word b met d (B.shares d i a u e) T;
              revealed =
                  ⊎_elim (λ o. inl (rightly S P word b met d (f d) T.carries o)) (λ Q. inr (opened-enough S P word b met d Q))
                  (B.revealed d h l a);
            };
      }

  added-all-true : WrittenStuck S b f → AddedTrue judges S b f
  added-all-true B =
      let met = B.reached in
      let products = multiplied judges S b Y_in in
      let R = reached S b met in
      record {
        reached = met;
        carried = λ d h l a. (B.dealings d h l a).carries;
        stuck = B.stuck;
        enough = shares-enough S P word b met added_form (added-kind S P word b met) products (entry products) (λ m h l. refl) B.enough;
        true-shares =
            All-to (serving judges R added_form products) (λ i s. added_true S P word b met B.dealings (B.shares i s.0 s.1))
            (serving-shares judges R added_form products);
      }

  either : EitherWritten S b f → EitherTrue judges S b f
  either = ⊎_elim (λ B. inl (recoverable B)) (λ B. inr (added-all-true B))

  -- demand 3 for the board beside itself
  module _ (draw : List ℕ → Outcome Element) (same : TwoBoards EitherTrue judges S S draw draw) where
    ends : EitherWritten S b f → S.t ≤ length (accepted_dealers judges S b) → draw b ≡ Ok (record { 0 = secrets_of judges S b f })
    ends B l = (same b b f f (either B) (either B) (record { dealers = λ d h u. refl; commitments = λ d h u a. refl }) l).0

    all-dealt : EitherWritten S b f → ((d : ℕ) → 1 ≤ d → d ≤ S.n → WrittenLines S b d (f d))
        → draw b ≡ Ok (record { 0 = product_of S.group.p (map (λ d. power_of_h S.group (secret_of S (f d))) (members S.n)) })
    all-dealt B W =
        let met : Met (board_checks S b) = ⊎_elim (λ B. B.reached) (λ B. B.reached) B in
        let every : accepted_dealers judges S b ≡ members S.n =
        filter-every (is_accepted judges S b) (members S.n)
        (each-members (λ d. is_accepted judges S b d ≡ true) S.n (λ d h l. lines-accepted S P word b met d (f d) (W d h l))) in
        ends B (omega (arith, P.t-most, ap length every, up-length 1 S.n))
        ∙ (λ j. Ok (record { 0 = product_of S.group.p (map (λ d. power_of_h S.group (secret_of S (f d))) (every j)) }))

    written-ends : WrittenEnds S draw b f
    written-ends = record { recoverable = recoverable; added_true = added-all-true; ends = ends; all-dealt = all-dealt }

itself : (S : Setting) → OneGroup S S
itself S = record { group = refl; n = refl; t = refl }

pub written-boards-end : WrittenBoardsEnd
written-boards-end S P word b f = written-ends S P word b f (draw_in judges S) (same-draw-either.same-draw S S P P (itself S))

pub written-by-round : WrittenByRound
written-by-round T R m word b f =
    written-ends (setting_in T R) (round-proper T R m) word b f (draw_outcome judges T R)
    ((same-draw-either.draw-by-round T R).same-draw m T R m (itself (setting_in T R)))
