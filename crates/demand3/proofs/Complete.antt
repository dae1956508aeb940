-- What is written and stands on a board is accepted there: the bytes on the board are the written ones, which the judges accept with the
-- board's keys and Y. It is true, and different members have different records, so a quorum has t or more accepted shares.
use mathlib.Core.Path.{◌≡◌, refl, sym, ap, ◌∙◌, subst}
use mathlib.Core.Bool.{true}
use mathlib.Core.List.{List}
use Prim.Native.Nat.{ℕ, ◌*◌, ◌^◌, ◌<◌, ◌≤◌}
use native.Mathlib.Omega.{arith}
use borrow.Author.Tests.{eq-eqb, eqb-true}
use lib.ListN.{length, take, drop, length-take, length-drop}
use lib.Dec.{eqb}
use Rattle.std.specs.Prelude.{Ok, is_ok}
use Rattle.words.specs.Checks.{Met}
use Rattle.words.specs.Bytes.{record_in, records_in, record_at, agrees}
use Rattle.words.specs.declared.Record.{Record}
use Rattle.words.specs.Lists.{entry}
use Rattle.words.proofs.Lists.{All-to, entry-all}
use Rattle.words.proofs.Tests.{and-true, true-and, all_true}
use Rattle.words.proofs.Checks.{value-met, value-exactly}
use Rattle.field.specs.Polynomial.{value_at}
use Rattle.group.specs.Power.{pow}
use Rattle.group.specs.Element.{is_element}
use Rattle.group.specs.declared.Element.{Element}
use Rattle.group.specs.declared.Group.{Group}
use Rattle.sharing.specs.Setting.{ProperSetting}
use Rattle.sharing.specs.Carried.{Carries, secret_of}
use Rattle.sharing.specs.declared.Setting.{Setting}
use Rattle.sharing.proofs.Theorems.{opening-exactly}
use Rattle.sharing.proofs.EachMember.{member-exactly, member-entry}
use Rattle.records.specs.Layout.{dealer_of, member_of, u_of, Z_of}
use Rattle.records.proofs.ProperKeys.{key-element}
use Rattle.lines.specs.Lines.{vs_in, Y_in}
use Rattle.dealing.specs.Dealing.{judge_dealing_in, written_Y}
use Rattle.dealing.proofs.Judged.{dealing-exactly}
use Rattle.dealing.proofs.Written.{value-writable, Y-is, dealing-complete, written-carried}
use Rattle.share.specs.declared.ShareForm.{ShareForm}
use Rattle.share.specs.Share.{opened_form, added_form, is_dealer, share_of, write_share_checks, write_share_in, judge_share_checks, judge_share_in}
use Rattle.share.specs.Claims.{AcceptedShare}
use Rattle.share.proofs.Settled.{WritableShare, write-settled}
use Rattle.share.proofs.Keys.{share-true}
use Rattle.share.proofs.Shares.{share-exactly, share-complete}
use Rattle.board.specs.Board.{board_checks, key_in, keys_in, line_count, lines_of}
use Rattle.board.proofs.Order.{reached}
use Rattle.board.proofs.Searches.{filter-up}
use Rattle.board.proofs.LineRun.{lines-exact}
use Rattle.board.proofs.KeyRecords.{keys-exact}
use Rattle.verdicts.specs.Shares.{judges, share_answer, is_share_in, shares_in}
use Rattle.verdicts.specs.Verdict.{is_accepted, commitments_of, encrypted_of, is_share_by, shares_by, secret_by}
use Rattle.verdicts.specs.Added.{accepted_dealers, multiplied_at, multiplied}
use Rattle.verdicts.specs.declared.Secret.TheVariants.{Opened}
use Rattle.verdicts.proofs.Products.{added-shares}
use Rattle.demand3.specs.Claims.{RightlyOpened, power_of_h, sum_on}
use Rattle.demand3.specs.Complete.{WrittenLines, OpeningOn, WrittenShare, OpenedOn, AddedOn, QuorumOn, TrueDealing, AllTrue, CompleteOn, CompleteOnBoard}
use Rattle.demand3.proofs.VerdictCases.{verdict-rules}
use Rattle.demand3.proofs.Honest.{share-written, product-power}
use Rattle.demand3.proofs.Counted.{counted}

module _ (S : Setting) (P : ProperSetting S) (word : S.round < 2 ^ 32) (b : List ℕ) (met : Met (board_checks S b)) where
  abbrev G : Group
  G = S.group

  abbrev keys : List ℕ
  keys = keys_in S.n b

  -- ---- a dealer's lines
  module _ (d : ℕ) (f : List ℕ) (W : WrittenLines S b d f) where
    lines-judged : judge_dealing_in S d keys (lines_of b d) ≡ Ok tt
    lines-judged = ap (judge_dealing_in S d keys) W.written ∙ dealing-complete S P word d keys f W.nonces W.writes

    pub lines-accepted : is_accepted judges S b d ≡ true
    unfolding is_accepted
    lines-accepted =
        let size = ((dealing-exactly S d keys (lines_of b d)).0 lines-judged).posted.size in
        let n : line_count b d ≡ S.n = omega (arith, size, (lines-exact S b P (reached S b met).form d).size) in
        true-and (eqb (line_count b d) S.n) _ (eq-eqb (line_count b d) S.n n) (ap is_ok lines-judged)

    lines-true : TrueDealing S b d f
    unfolding written_Y
    lines-true =
        let writable = value-writable S d keys f W.nonces _ W.writes in
        record {
          carries =
              subst (λ (l : List ℕ). Carries S f (vs_in S.n l)) (sym W.written) (written-carried S P word d keys f W.nonces W.writes);
          encrypted = λ m h l.
              ap (λ (l : List ℕ). Y_in l m) W.written
              ∙ Y-is S P word d keys f W.nonces writable m h l
              ∙ ap (λ (y : ℕ). pow G.p y (value_at G.q f m)) (member-entry (key_in b) S.n m h l);
        }

  -- ---- an opening
  module _ (d : ℕ) (f : List ℕ) (K : Carries S f (commitments_of S b d)) (O : OpeningOn S b d (secret_of S f)) where
    u-is : u_of (record_at b O.at) ≡ secret_of S f
    u-is = ap (λ (r : Record). u_of r) O.opening

    pub rightly : RightlyOpened S b d
    rightly =
        record {
          at = O.at;
          inside = O.inside;
          kind = ap (λ (r : Record). r.w0) O.opening;
          dealer = ap (λ (r : Record). dealer_of r) O.opening;
          right = (opening-exactly S P f (commitments_of S b d) K (u_of (record_at b O.at))).1 u-is;
        }

    opened-secret : secret_by judges S b d ≡ Opened (record { 0 = power_of_h G (secret_of S f) })
    unfolding rightly
    opened-secret =
        ((verdict-rules judges S P b met d).opened (record { 0 = power_of_h G (secret_of S f) })).1 (rightly, ap (power_of_h G) (sym u-is))

  -- ---- a share in either form
  module _ (F : ShareForm) (kind : F.kind < 2 ^ 32) {Y m i : ℕ} (W : WrittenShare S b F Y m i) where
    abbrev part : List ℕ
    part = take 32 (drop (32 * i) b)

    abbrev x : ℕ
    x = W.secret-key

    writable : WritableShare S F m Y x W.nonce 32
    unfolding write_share_in
    writable = write-settled S F m Y x W.nonce 32 ((value-exactly Unit (write_share_checks S F m Y x W.nonce 32) tt).0 W.writes)

    judged : judge_share_in S F m (key_in b m) Y part ≡ Ok (record { 0 = share_of G Y x })
    judged = (λ j. judge_share_in S F m (W.key j) Y (W.written j)) ∙ share-complete S P word F kind m Y x W.nonce W.writes

    Z-is : Z_of (record_at b i) ≡ share_of G Y x
    unfolding judge_share_in record_at
    Z-is =
        ap (λ (Z : Element). Z.0)
        (value-met (judge_share_checks S F m (key_in b m) Y part) (record { 0 = Z_of (record_in part) }) _ judged).1

    accepted : AcceptedShare S F m (key_in b m) Y part (record_at b i)
    unfolding record_at
    accepted = (share-exactly S F m (key_in b m) Y part).0 (judged ∙ (λ j. Ok (record { 0 = sym Z-is j })))

    share-inside : i < records_in b
    share-inside = omega (arith, accepted.admitted.size, length-take 32 (drop (32 * i) b), length-drop (32 * i) b)

    share-of : member_of (record_at b i) ≡ m
    share-of = accepted.admitted.member-word

    share-kind : (record_at b i).w0 ≡ F.kind
    unfolding agrees
    share-kind = eqb-true (record_at b i).w0 F.kind (and-true (eqb (record_at b i).w0 F.kind) _ accepted.admitted.kind).0

    share-accepted : (Ys : List ℕ) → entry Ys m ≡ Y → is_share_in judges S b F Ys i ≡ true
    unfolding is_share_in share_answer
    share-accepted Ys same =
        let dealer = accepted.admitted.dealer-word in
        let answer : share_answer judges S b F Ys i ≡ Ok (record { 0 = share_of G Y x }) =
        (λ j. judge_share_in S F (share-of j) (key_in b (share-of j)) (entry Ys (share-of j)) part)
        ∙ ap (λ (v : ℕ). judge_share_in S F m (key_in b m) v part) same
        ∙ judged in
        true-and (eqb (record_at b i).w0 F.kind) _ (eq-eqb (record_at b i).w0 F.kind share-kind)
        (true-and (eqb (dealer_of (record_at b i)) F.dealer) _ (eq-eqb (dealer_of (record_at b i)) F.dealer dealer) (ap is_ok answer))

    share-is-true : (e : ℕ) → Y ≡ pow G.p (key_in b m) e → Z_of (record_at b i) ≡ power_of_h G e
    share-is-true e h =
        Z-is
        ∙ ap (λ (v : ℕ). share_of G v x) (h ∙ ap (λ (y : ℕ). pow G.p y e) W.key)
        ∙ share-true G P.proper x e writable.x-some writable.x-low

  -- with the members' Y, those of a quorum are t or more
  pub shares-enough : (F : ShareForm) → F.kind < 2 ^ 32 → (Ys : List ℕ) (Y : ℕ → ℕ) → ((m : ℕ) → 1 ≤ m → m ≤ S.n → entry Ys m ≡ Y m)
      → QuorumOn S (λ m i. WrittenShare S b F (Y m) m i) → S.t ≤ length (shares_in judges S b F Ys)
  unfolding shares_in
  shares-enough F kind Ys Y same Q =
      omega (
        arith,
        Q.quorum.enough,
        counted (λ i. member_of (record_at b i)) (records_in b) (is_share_in judges S b F Ys) Q.of Q.quorum.distinct
            (All-to Q.of
            (λ m s.
            let W = s.1 in
            let member = (writable F kind W).member in
            (s.0, share-inside F kind W, share-accepted F kind W Ys (same m member.0 member.1), share-of F kind W))
            Q.each),
      )

  -- ---- opened shares, of the dealing of d
  module _ (d : ℕ) where
    opened-kind : (opened_form d).kind < 2 ^ 32
    opened-kind = omega arith

    encrypted-at : (m : ℕ) → 1 ≤ m → m ≤ S.n → entry (encrypted_of S b d) m ≡ Y_in (lines_of b d) m
    unfolding encrypted_of
    encrypted-at m h l = member-entry (Y_in (lines_of b d)) S.n m h l

    opened-accepted : {m i : ℕ} → OpenedOn S b d m i → is_share_by judges S b d i ≡ true
    opened-accepted {m} W =
        let member = (writable (opened_form d) opened-kind W).member in
        share-accepted (opened_form d) opened-kind W (encrypted_of S b d) (encrypted-at m member.0 member.1)

    pub opened-true : {m i : ℕ} → OpenedOn S b d m i → {f : List ℕ} → TrueDealing S b d f → Z_of (record_at b i) ≡ power_of_h G (value_at G.q f m)
    opened-true {m} W {f} T =
        let member = (writable (opened_form d) opened-kind W).member in
        share-is-true (opened_form d) opened-kind W (value_at G.q f m) (T.encrypted m member.0 member.1)

    pub opened-enough : QuorumOn S (OpenedOn S b d) → S.t ≤ length (shares_by judges S b d)
    opened-enough = shares-enough (opened_form d) opened-kind (encrypted_of S b d) (Y_in (lines_of b d)) encrypted-at

    can-open : is_accepted judges S b d ≡ true → (m x w : ℕ) → 1 ≤ m → m ≤ S.n → 1 ≤ x → x < G.q → w < G.q
        → write_share_in S (opened_form d) m (Y_in (lines_of b d) m) x w 32 ≡ Ok tt
    unfolding is_dealer
    can-open a m x w h l s u =
        let posted = ((dealing-exactly S d keys (lines_of b d)).0 ((verdict-rules judges S P b met d).accepts.0 a).1).posted in
        share-written S P word (opened_form d) ((member-exactly S.n d).1 posted.dealer) opened-kind m h l x s u _ w
        (posted.lines m h l).Y-element

  -- ---- added shares
  abbrev products : List ℕ
  products = multiplied judges S b Y_in

  pub added-kind : added_form.kind < 2 ^ 32
  added-kind = omega arith

  can-add : (m x w : ℕ) → 1 ≤ m → m ≤ S.n → 1 ≤ x → x < G.q → w < G.q
      → write_share_in S added_form m (entry products m) x w 32 ≡ Ok tt
  can-add m x w h l s u =
      let A = added-shares S b P met refl in
      share-written S P word added_form A.dealer added-kind m h l x s u (entry products m) w
      (entry-all (λ Y. is_element G Y ≡ true) products (all_true (is_element G) products A.elements) m h (omega (arith, A.size)))

  -- the product of a member's Y is his key to the sum's value
  module _ {f : ℕ → List ℕ} (A : AllTrue S b f) where
    product_is : (m : ℕ) → 1 ≤ m → m ≤ S.n → entry products m ≡ pow G.p (key_in b m) (value_at G.q (sum_on judges S b f) m)
    unfolding multiplied
    product_is m h l =
        let ds = accepted_dealers judges S b in
        member-entry (multiplied_at G.p b Y_in ds) S.n m h l
        ∙ product-power S P (key_in b m) (key-element G (key_in b m) (keys-exact S b met m h l).proper) ds f (λ d. Y_in (lines_of b d) m) m
        (All-to ds
        (λ d s. let T = A d s.0.0 (omega (arith, s.0.1)) s.1 in (T.carries.polynomial, T.encrypted m h l))
        (filter-up (is_accepted judges S b) 1 S.n))

    pub added_true : {m i : ℕ} → AddedOn S b m i → Z_of (record_at b i) ≡ power_of_h G (value_at G.q (sum_on judges S b f) m)
    added_true {m} W =
        let member = (writable added_form added-kind W).member in
        share-is-true added_form added-kind W (value_at G.q (sum_on judges S b f) m) (product_is m member.0 member.1)

  complete-on : CompleteOn S b
  complete-on =
      record {
        lines = λ d f W. (lines-accepted d f W, lines-true d f W);
        opening = λ d f K O. (rightly d f K O, opened-secret d f K O);
        can-open = λ d m x w a h l. can-open d a m x w h l;
        can-add = can-add;
        opened = λ d m i W. (opened-accepted d W, λ f T. opened-true d W T);
        added = λ m i W. (share-accepted added_form added-kind W products refl, λ f A. added_true A W);
      }

pub complete-on-board : CompleteOnBoard
complete-on-board = complete-on
