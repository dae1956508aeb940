-- The shares of a form stand in a run, and what the answer on one of them tells: a value says that it is accepted and holds this value,
-- a refusal that it is not. On a board the figures of a share decide.
use mathlib.Core.Path.{◌≡◌, refl, sym, ap, ◌∙◌}
use mathlib.Core.Bool.{true, ◌&&◌}
use mathlib.Core.List.{List, []}
use mathlib.Core.Logic.{⊎_elim}
use Prim.Native.Nat.{ℕ, ◌-◌, ◌*◌, ◌<◌, ◌≤◌}
use native.Mathlib.Omega.{arith}
use borrow.Author.Tests.{eq-eqb, eqb-true}
use lib.ListN.{take, drop, length-drop}
use lib.Seq.{length-take-le}
use lib.Dec.{eqb}
use Rattle.words.specs.Lists.{up_from, entry}
use Rattle.words.specs.Checks.{Met}
use Rattle.words.specs.Bytes.{record_in, records_in, record_at}
use Rattle.words.specs.declared.Record.{Record}
use Rattle.words.proofs.Tests.{all_true, and-true, pick_true, pick-false}
use Rattle.words.proofs.Checks.{value-met}
use Rattle.words.proofs.Lists.{entry-all}
use Rattle.group.specs.Element.{is_element}
use Rattle.group.specs.declared.Element.{Element}
use Rattle.sharing.specs.declared.Setting.{Setting}
use Rattle.records.specs.Layout.{is_share_record, dealer_of, member_of, y_of, Z_of}
use Rattle.share.specs.Share.{judge_share_checks, judge_share_figures_in, judge_share_in}
use Rattle.share.specs.Claims.{AdmittedShare}
use Rattle.share.specs.declared.ShareForm.{ShareForm}
use Rattle.share.proofs.Settled.{dealer-most}
use Rattle.share.proofs.Shares.{figures-decide}
use Rattle.board.specs.Search.{filter}
use Rattle.board.specs.Board.{form_checks, place_of, key_place, key_in}
use Rattle.board.specs.Sorted.{Sorted}
use Rattle.board.proofs.Searches.{filter-run}
use Rattle.board.proofs.Order.{reached, shapes, of-round, sorted}
use Rattle.board.proofs.Places.{place-within, run-rises, in-run, to-run}
use Rattle.board.proofs.KeyRecords.{keys-exact}
use Rattle.verdicts.specs.Shares.{Judges, judges, share_answer, is_share_in, shares_in}
use Rattle.verdicts.specs.Posted.{SharesOn, ShareOf}
use Rattle.verdicts.specs.Gathered.{pushed, with_share}
use Rattle.verdicts.specs.declared.GatheredShares.{GatheredShares}
use Rattle.std.specs.Prelude.{Ok, Err, is_ok}
use Rattle.words.specs.declared.refusal.Refusal.{Refusal}

module _ (J : Judges) (S : Setting) (b : List ℕ) (F : ShareForm) (Ys : List ℕ) (i : ℕ) where
  pub share-address : is_share_in J S b F Ys i ≡ true → ((record_at b i).w0 ≡ F.kind) × (dealer_of (record_at b i) ≡ F.dealer)
  unfolding is_share_in
  share-address e =
      let s = and-true (eqb (record_at b i).w0 F.kind) _ e in
      (eqb-true (record_at b i).w0 F.kind s.0, eqb-true (dealer_of (record_at b i)) F.dealer (and-true (eqb (dealer_of (record_at b i)) F.dealer) _ s.1).0)

  share-told : ShareOf b F i → is_share_in J S b F Ys i ≡ is_ok (share_answer J S b F Ys i)
  unfolding is_share_in
  share-told s =
      let k = eq-eqb (record_at b i).w0 F.kind s.kind in
      let e = eq-eqb (dealer_of (record_at b i)) F.dealer s.dealer in
      λ j. k j && (e j && is_ok (share_answer J S b F Ys i))

share-value : (S : Setting) (b : List ℕ) (F : ShareForm) (Ys : List ℕ) (i : ℕ) (Z : Element) → share_answer judges S b F Ys i ≡ Ok Z → Z.0 ≡ Z_of (record_at b i)
unfolding share_answer judge_share_in record_at
share-value S b F Ys i Z e =
    let m = member_of (record_at b i) in
    let part = take 32 (drop (32 * i) b) in
    sym
    (ap (λ (x : Element). x.0)
    (value-met (judge_share_checks S F m (key_in b m) (entry Ys m) part) (record { 0 = Z_of (record_in part) }) Z e).1)

-- where no record has its kind there is none
pub none-of-kind : (J : Judges) (S : Setting) (b : List ℕ) (F : ShareForm) (Ys : List ℕ) → ((i : ℕ) → i < records_in b → (record_at b i).w0 ≡ F.kind → ⊥)
    → shares_in J S b F Ys ≡ []
unfolding shares_in
none-of-kind J S b F Ys n =
    sym
    (filter-run (is_share_in J S b F Ys) 0 0 (records_in b) (omega arith) (omega arith)
    (λ i h e. absurd (n i h (share-address J S b F Ys i e).0)))

-- ---- the shares found so far, by the answer on the next record
module _ (S : Setting) (b : List ℕ) (F : ShareForm) (Ys : List ℕ) (i : ℕ) (H : ShareOf b F i) (A : GatheredShares) where
  pub with_none : {k : Refusal} → Err k ≡ share_answer judges S b F Ys i → A ≡ with_share judges S b F Ys i A
  unfolding with_share
  with_none e = sym (pick-false (is_share_in judges S b F Ys i) _ A (share-told judges S b F Ys i H ∙ ap is_ok (sym e)))

  pub with_one : {Z : Element} → Ok Z ≡ share_answer judges S b F Ys i
      → pushed (member_of (record_at b i)) Z.0 A ≡ with_share judges S b F Ys i A
  unfolding with_share
  with_one {Z} e =
      let v = share-value S b F Ys i Z (sym e) in
      (λ j. pushed (member_of (record_at b i)) (v j) A)
      ∙ sym (pick_true (is_share_in judges S b F Ys i) _ A (share-told judges S b F Ys i H ∙ ap is_ok (sym e)))

-- ---- on a board with an encrypted share for each member
module _ {S : Setting} {b : List ℕ} {F : ShareForm} {Ys : List ℕ} (L : SharesOn S b F Ys) where
  form : Met (form_checks S b)
  form = (reached S b L.reached).form

  pub shares_sorted : Sorted b
  shares_sorted = sorted S b form

  -- the run of the form's shares
  pub run-share : (i : ℕ) → place_of b F.kind F.dealer 0 ≤ i → i < place_of b F.kind F.dealer 32 → ShareOf b F i
  run-share i h l =
      let s = in-run shares_sorted F.kind F.dealer i h l in
      record { inside = omega (arith, place-within b F.kind F.dealer 32); kind = s.0; dealer = s.1 }

  pub run-shares : (J : Judges) {s e : ℕ} → s ≡ place_of b F.kind F.dealer 0 → e ≡ place_of b F.kind F.dealer 32
      → filter (is_share_in J S b F Ys) (up_from s (e - s)) ≡ shares_in J S b F Ys
  unfolding shares_in
  run-shares J start end =
      (λ j. filter (is_share_in J S b F Ys) (up_from (start j) (end j - start j)))
      ∙ filter-run (is_share_in J S b F Ys) (place_of b F.kind F.dealer 0) (place_of b F.kind F.dealer 32) (records_in b) (run-rises shares_sorted F.kind F.dealer) (place-within b F.kind F.dealer 32)
      (λ i h e.
      let s = share-address J S b F Ys i e in
      to-run shares_sorted F.kind F.dealer i h s.0 s.1 (omega (arith, (shapes S b form i h).member, L.proper.n-most)))

  -- ---- one share: its member's key is there, and all but its figures is settled
  module _ {i : ℕ} (H : ShareOf b F i) where
    abbrev m : ℕ
    m = member_of (record_at b i)

    -- a record of its kind, of a member
    share-shaped : (is_share_record F.kind (record_at b i) ≡ true) × (1 ≤ m)
    share-shaped =
        let s = shapes S b form i H.inside in
        ⊎_elim
        (λ k. let o = s.share (H.kind ∙ k) in (ap (λ (x : ℕ). is_share_record x (record_at b i)) k ∙ o.0, o.2))
        (λ k. let o = s.added (H.kind ∙ k) in (ap (λ (x : ℕ). is_share_record x (record_at b i)) k ∙ o.0, o.2))
        L.kind

    share-admitted : AdmittedShare S F m (key_in b m) (entry Ys m) (take 32 (drop (32 * i) b)) (record_in (take 32 (drop (32 * i) b)))
    unfolding record_at
    share-admitted =
        let s = shapes S b form i H.inside in
        record {
          dealer = L.dealer;
          member = (share-shaped.1, s.member);
          size = length-take-le 32 (drop (32 * i) b) (omega (arith, length-drop (32 * i) b, H.inside));
          key = (keys-exact S b L.reached m share-shaped.1 s.member).proper;
          Y-element = entry-all (λ Y. is_element S.group Y ≡ true) Ys (all_true (is_element S.group) Ys L.elements) m share-shaped.1 (omega (arith, s.member, L.size));
          kind = share-shaped.0;
          dealer-word = H.dealer;
          member-word = refl;
          round = of-round S b form i H.inside;
        }

    pub share_dealer : F.dealer ≤ S.n
    share_dealer = dealer-most S.n F L.dealer

    module _ {share : Record} (e : share ≡ record_at b i) where
      pub share_member : (1 ≤ member_of share) × (member_of share ≤ S.n) × (key_place b (member_of share) < records_in b)
      share_member =
          let a = share-admitted.member in
          let m = ap (λ (r : Record). member_of r) e in
          let h : 1 ≤ member_of share = omega (arith, a.0, m) in
          let l : member_of share ≤ S.n = omega (arith, a.1, m) in
          (h, l, (keys-exact S b L.reached (member_of share) h l).inside)

      pub answered : {key : Record} → key ≡ record_at b (key_place b (member_of share))
          → judge_share_figures_in S F (member_of share) (y_of key) (entry Ys (member_of share)) share ≡ share_answer judges S b F Ys i
      unfolding share_answer key_in record_at
      answered {key} ek =
          let m : member_of share ≡ member_of (record_at b i) = ap (λ (r : Record). member_of r) e in
          let y = ap (λ (r : Record). y_of r) (ek ∙ ap (λ (x : ℕ). record_at b (key_place b x)) m) in
          (λ j. judge_share_figures_in S F (m j) (y j) (entry Ys (m j)) (e j))
          ∙ figures-decide S F (member_of (record_at b i)) (key_in b (member_of (record_at b i))) (entry Ys (member_of (record_at b i))) (take 32 (drop (32 * i) b)) share-admitted
