-- Two pairs of judges that answer the same on a board: they give it the same verdicts and the same end.
use mathlib.Core.Path.{◌≡◌, ap, ◌∙◌}
use mathlib.Core.Bool.{◌&&◌}
use mathlib.Core.List.{List}
use Prim.Native.Nat.{ℕ, ◌+◌, ◌<◌}
use native.Mathlib.Omega.{arith}
use borrow.Author.Tests.{eqb-true}
use lib.ListN.{length, take}
use lib.Dec.{eqb}
use Rattle.std.specs.Prelude.{is_ok}
use Rattle.words.specs.Choice.{pick}
use Rattle.words.specs.Lists.{map, up_from}
use Rattle.words.specs.Checks.{Outcome, outcome}
use Rattle.words.specs.Bytes.{records_in, record_at}
use Rattle.words.proofs.Lists.{All-to, up-within}
use Rattle.words.proofs.Tests.{pick_same}
use Rattle.group.specs.Power.{pow}
use Rattle.group.specs.declared.Element.{Element}
use Rattle.sharing.specs.Setting.{members}
use Rattle.sharing.specs.declared.Setting.{Setting}
use Rattle.records.specs.Layout.{dealer_of, u_of}
use Rattle.lines.specs.Lines.{Y_in}
use Rattle.share.specs.Share.{opened_form, added_form}
use Rattle.share.specs.declared.ShareForm.{ShareForm}
use Rattle.board.specs.Search.{filter}
use Rattle.board.specs.Board.{line_count, opening_place}
use Rattle.board.proofs.Searches.{filter_same}
use Rattle.verdicts.specs.Shares.{Judges, share_answer, is_share_in, shares_in, recovered_from, from_lowest}
use Rattle.verdicts.specs.Verdict.{dealing_answer, is_accepted, encrypted_of, secret_from, from_shares, is_opened, secret_by, verdict_from, verdict_on}
use Rattle.verdicts.specs.Added.{multiplied_at, multiplied, added_by}
use Rattle.verdicts.specs.Draw.{count_accepted, any_stuck, secrets_product, end_checks, draw_checks, draw_value}
use Rattle.verdicts.specs.declared.Secret.TheVariants.{Opened}
use Rattle.verdicts.specs.declared.Verdict.TheVariants.{None}

module _ (J K : Judges) (S : Setting) (b : List ℕ) where
  -- the same shares of a form
  same-shares : (F : ShareForm) (Ys : List ℕ) → ((i : ℕ) → i < records_in b → share_answer J S b F Ys i ≡ share_answer K S b F Ys i)
      → shares_in J S b F Ys ≡ shares_in K S b F Ys
  unfolding shares_in is_share_in
  same-shares F Ys share =
      filter_same (is_share_in J S b F Ys) (is_share_in K S b F Ys) (up_from 0 (records_in b))
      (All-to (up_from 0 (records_in b))
      (λ i s. ap (λ (o : Outcome Element). eqb (record_at b i).w0 F.kind && (eqb (dealer_of (record_at b i)) F.dealer && is_ok o)) (share i (omega (arith, s.1))))
      (up-within 0 (records_in b) (0 + records_in b) (omega arith)))

  -- and the same verdict on a dealer
  module _ (d : ℕ) (share : (i : ℕ) → i < records_in b → share_answer J S b (opened_form d) (encrypted_of S b d) i ≡ share_answer K S b (opened_form d) (encrypted_of S b d) i) where
    same-secret : secret_by J S b d ≡ secret_by K S b d
    unfolding secret_by from_shares
    same-secret =
        ap
        (λ (is : List ℕ).
        pick (is_opened S b d) (Opened (record { 0 = pow S.group.p S.group.h.0 (u_of (record_at b (opening_place b d))) }))
        (secret_from (from_lowest S b is)))
        (same-shares (opened_form d) (encrypted_of S b d) share)

    pub same-verdict : (line_count b d ≡ S.n → dealing_answer J S b d ≡ dealing_answer K S b d) → verdict_on J S b d ≡ verdict_on K S b d
    unfolding verdict_on
    same-verdict h =
        ap (pick (eqb (line_count b d) 0) None)
        (pick_same (eqb (line_count b d) S.n) _ _ _ (λ e j. verdict_from (h (eqb-true (line_count b d) S.n e) j) (same-secret j)))

  -- and, where they answer the same on all dealings and shares, the same end
  module _ (dealing : (d : ℕ) → dealing_answer J S b d ≡ dealing_answer K S b d)
      (share : (F : ShareForm) (Ys : List ℕ) (i : ℕ) → share_answer J S b F Ys i ≡ share_answer K S b F Ys i) where
    pub all_same : (d : ℕ) → verdict_on J S b d ≡ verdict_on K S b d
    all_same d = same-verdict d (λ i h. share (opened_form d) (encrypted_of S b d) i) (λ c. dealing d)

    same-added : added_by J S b ≡ added_by K S b
    unfolding is_accepted multiplied
    same-added =
        let accepted : (d : ℕ) → is_accepted J S b d ≡ is_accepted K S b d =
        λ d. ap (λ (o : Outcome Unit). eqb (line_count b d) S.n && is_ok o) (dealing d) in
        same-shares added_form (multiplied J S b Y_in) (λ i h. share added_form (multiplied J S b Y_in) i)
        ∙ (λ j.
        shares_in K S b added_form (map (multiplied_at S.group.p b Y_in (filter (λ d. accepted d j) (members S.n))) (members S.n)))

    pub same_end : outcome (draw_checks J S b) (draw_value J S b) ≡ outcome (draw_checks K S b) (draw_value K S b)
    same_end = λ j.
        let vs = map (λ d. all_same d j) (members S.n) in
        let is = same-added j in
        outcome (end_checks S.t (count_accepted vs) (any_stuck vs) (length is))
        (pick (any_stuck vs) (record { 0 = recovered_from S.group b (take S.t is) }) (record { 0 = secrets_product S.group.p vs }))
