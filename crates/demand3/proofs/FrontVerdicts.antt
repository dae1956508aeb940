-- A dealer's verdict reads records of the kinds below 5 only, and all of them stand on the front: so it is the same on the front, whatever
-- the judges answer.
use mathlib.Core.Path.{◌≡◌, refl, sym, ap, ◌∙◌}
use mathlib.Core.Bool.{Bool, true, false, ◌&&◌}
use mathlib.Core.List.{List, [], ◌∷◌}
use mathlib.Core.Logic.{⊎_elim}
use Prim.Native.Nat.{ℕ, ◌-◌, ◌*◌, ◌<◌, ◌≤◌}
use native.Mathlib.Decide.{dec_le}
use native.Mathlib.Omega.{arith}
use borrow.Author.Tests.{lt-ltb, le-ltb, eqb-true}
use lib.ListN.{length, take, drop}
use lib.Dec.{leb, ltb, eqb}
use Rattle.std.specs.Prelude.{is_ok}
use Rattle.words.specs.Choice.{pick}
use Rattle.words.specs.Lists.{All, map, up_from, entry}
use Rattle.words.specs.Checks.{◌unless◌, Outcome, outcome, Met}
use Rattle.words.specs.Bytes.{records_in, record_at}
use Rattle.words.specs.declared.Record.{Record}
use Rattle.words.specs.declared.refusal.Refusal.TheVariants.{Incomplete, StillStuck}
use Rattle.words.proofs.Lists.{All-to, All-take, map_same, up-within}
use Rattle.words.proofs.Tests.{pick-false}
use Rattle.group.specs.Power.{pow}
use Rattle.group.specs.declared.Element.{Element}
use Rattle.sharing.specs.Setting.{members}
use Rattle.sharing.specs.Answer.{recovered, opening_in}
use Rattle.sharing.specs.declared.Setting.{Setting}
use Rattle.records.specs.Layout.{opening_kind, share_kind, dealer_of, member_of, u_of, Z_of}
use Rattle.lines.specs.Lines.{vs_in, Y_in}
use Rattle.share.specs.Share.{opened_form}
use Rattle.board.specs.Search.{filter}
use Rattle.board.specs.Board.{key_in, board_checks, opening_place}
use Rattle.board.proofs.Searches.{filter-up, filter_same, filter-run}
use Rattle.board.proofs.Order.{reached, shapes}
use Rattle.verdicts.specs.Shares.{Judges, share_answer, is_share_in, shares_in, from_lowest}
use Rattle.verdicts.specs.Verdict.{dealing_answer, is_accepted, commitments_of, encrypted_of, secret_from, from_shares, is_opened, secret_by, verdict_from, verdict_on}
use Rattle.verdicts.specs.declared.Secret.TheVariants.{Opened}
use Rattle.verdicts.specs.declared.Verdict.TheVariants.{None, Refused}
use Rattle.verdicts.proofs.ShareAnswers.{share-address}
use Rattle.demand3.proofs.Front.{Front, bytes_same, record_same}
use Rattle.demand3.proofs.Found.{line-count-same, lines_same, record-found, key-same, keys-same}

-- what stands behind a test counts only where it holds
behind_test : (x : Bool) {y z : Bool} → (x ≡ true → y ≡ z) → x && y ≡ x && z
behind_test true e = e refl
behind_test false e = refl

module _ (J : Judges) (S : Setting) {b c : List ℕ} (F : Front b c) (met : Met (board_checks S b)) where
  -- ---- the dealing
  dealing-same : (d : ℕ) → dealing_answer J S c d ≡ dealing_answer J S b d
  dealing-same d = λ j. J.dealing S d (keys-same F S met j) (lines_same F d j)

  pub accepted-same : (d : ℕ) → is_accepted J S c d ≡ is_accepted J S b d
  unfolding is_accepted
  accepted-same d = λ j. eqb (line-count-same F d j) S.n && is_ok (dealing-same d j)

  encrypted-same : (d : ℕ) → encrypted_of S c d ≡ encrypted_of S b d
  unfolding encrypted_of
  encrypted-same d = λ j. map (Y_in (lines_same F d j)) (members S.n)

  -- ---- opened shares: each is of a member, whose key is the same
  module _ (d : ℕ) (Ys : List ℕ) where
    answer-same : (i : ℕ) → i < records_in c → (record_at c i).w0 ≡ share_kind → share_answer J S c (opened_form d) Ys i ≡ share_answer J S b (opened_form d) Ys i
    unfolding share_answer
    answer-same i h e =
        let r : record_at c i ≡ record_at b i = record_same F i h in
        let m = member_of (record_at b i) in
        let s = shapes S b (reached S b met).form i (omega (arith, F.within)) in
        let o = s.share (ap (λ (x : Record). x.w0) (sym r) ∙ e) in
        let y = key-same F S met m o.2 s.member in
        let p = bytes_same F i h in
        ap (λ (x : Record). J.share S (opened_form d) (member_of x) (key_in c (member_of x)) (entry Ys (member_of x)) (take 32 (drop (32 * i) c))) r
        ∙ (λ j. J.share S (opened_form d) m (y j) (entry Ys m) (p j))

    share-same : (i : ℕ) → i < records_in c → is_share_in J S c (opened_form d) Ys i ≡ is_share_in J S b (opened_form d) Ys i
    unfolding is_share_in
    share-same i h =
        let r : record_at c i ≡ record_at b i = record_same F i h in
        behind_test (eqb (record_at c i).w0 share_kind)
        (λ e. ap (λ (o : Outcome Element). eqb (dealer_of (record_at c i)) d && is_ok o) (answer-same i h (eqb-true (record_at c i).w0 share_kind e)))
        ∙ ap (λ (x : Record). eqb x.w0 share_kind && (eqb (dealer_of x) d && is_ok (share_answer J S b (opened_form d) Ys i))) r

    shares-same : shares_in J S c (opened_form d) Ys ≡ shares_in J S b (opened_form d) Ys
    unfolding shares_in
    shares-same =
        let z : records_in c ≡ records_in c - 0 = omega arith in
        filter_same (is_share_in J S c (opened_form d) Ys) (is_share_in J S b (opened_form d) Ys) (up_from 0 (records_in c))
        (All-to (up_from 0 (records_in c)) (λ i s. share-same i s.1) (up-within 0 (records_in c) (records_in c) (omega arith)))
        ∙ ap (λ (m : ℕ). filter (is_share_in J S b (opened_form d) Ys) (up_from 0 m)) z
        ∙ filter-run (is_share_in J S b (opened_form d) Ys) 0 (records_in c) (records_in b) (omega arith) F.within in-front
      where
        in-front : (i : ℕ) → i < records_in b → is_share_in J S b (opened_form d) Ys i ≡ true → (0 ≤ i) × (i < records_in c)
        in-front i h e = elim (dec_le (records_in c) i) [
          | yes w ↦ absurd (omega (arith, F.added i w h, (share-address J S b (opened_form d) Ys i e).0))
          | no w ↦ (omega arith, omega arith)
        ]

    -- ---- what they recover
    inside : All (λ i. i < records_in c) (take S.t (shares_in J S c (opened_form d) Ys))
    unfolding shares_in
    inside =
        All-take (λ i. i < records_in c) S.t (shares_in J S c (opened_form d) Ys)
        (All-to (shares_in J S c (opened_form d) Ys) (λ i s. omega (arith, s.0.1)) (filter-up (is_share_in J S c (opened_form d) Ys) 0 (records_in c)))

    lowest-same : from_lowest S c (shares_in J S c (opened_form d) Ys) ≡ from_lowest S b (shares_in J S b (opened_form d) Ys)
    unfolding from_lowest
    lowest-same =
        let is = shares_in J S c (opened_form d) Ys in
        let lowest = take S.t is in
        let ms =
        map_same (λ i. member_of (record_at c i)) (λ i. member_of (record_at b i)) lowest
        (All-to lowest (λ i h. ap (λ (x : Record). member_of x) (record_same F i h)) inside) in
        let Zs =
        map_same (λ i. Z_of (record_at c i)) (λ i. Z_of (record_at b i)) lowest
        (All-to lowest (λ i h. ap (λ (x : Record). Z_of x) (record_same F i h)) inside) in
        (λ j. outcome (StillStuck unless leb S.t (length is) ∷ []) (record { 0 = recovered S.group (ms j) (Zs j) }))
        ∙ ap (from_lowest S b) shares-same

  -- ---- the secret
  module _ (d : ℕ) where
    from-shares-same : from_shares J S c d ≡ from_shares J S b d
    unfolding from_shares
    from-shares-same =
        ap (λ (Ys : List ℕ). secret_from (from_lowest S c (shares_in J S c (opened_form d) Ys))) (encrypted-same d)
        ∙ ap secret_from (lowest-same d (encrypted_of S b d))

    -- without an opening from his shares, and else by the same opening
    not_opened : (x : List ℕ) → opening_place x d ≡ records_in x → secret_by J S x d ≡ from_shares J S x d
    unfolding secret_by is_opened
    not_opened x e =
        pick-false (is_opened S x d) _ _
        (ap (λ (t : Bool). t && is_ok (opening_in S (commitments_of S x d) (u_of (record_at x (opening_place x d)))))
        (le-ltb (opening_place x d) (records_in x) (omega arith)))

    opened-same : opening_place b d < records_in c → opening_place c d ≡ opening_place b d → secret_by J S c d ≡ secret_by J S b d
    unfolding secret_by is_opened
    opened-same h e =
        let r : record_at c (opening_place c d) ≡ record_at b (opening_place b d) = ap (record_at c) e ∙ record_same F (opening_place b d) h in
        let there : ltb (opening_place c d) (records_in c) ≡ ltb (opening_place b d) (records_in b) =
        lt-ltb (opening_place c d) (records_in c) (omega arith) ∙ sym (lt-ltb (opening_place b d) (records_in b) (omega (arith, F.within))) in
        λ j.
        pick (there j && is_ok (opening_in S (vs_in S.n (lines_same F d j)) (u_of (r j))))
        (Opened (record { 0 = pow S.group.p S.group.h.0 (u_of (r j)) }))
        (from-shares-same j)

    secret-same : secret_by J S c d ≡ secret_by J S b d
    secret-same =
        ⊎_elim (λ w. opened-same w.0 w.1) (λ w. not_opened c w.1 ∙ from-shares-same ∙ sym (not_opened b w.0))
        (record-found F opening_kind d 0 (omega arith))

    -- ---- the verdict
    pub verdict-same : verdict_on J S c d ≡ verdict_on J S b d
    unfolding verdict_on
    verdict-same =
        λ j.
        pick (eqb (line-count-same F d j) 0) None
        (pick (eqb (line-count-same F d j) S.n) (verdict_from (dealing-same d j) (secret-same j)) (Refused Incomplete))
