-- Recovery from the members and shares found: their members are below q, and there are t of them exactly if t or more shares are accepted.
-- Then the figures of a dealer's lines, and his accepted lines as the functions below a verdict ask for them.
use mathlib.Core.Path.{◌≡◌, refl, sym, ap, ◌∙◌, subst}
use mathlib.Core.Bool.{true}
use mathlib.Core.List.{List}
use mathlib.Core.Logic.{inl}
use Prim.Native.Nat.{ℕ, ◌<◌, ◌≤◌}
use native.Mathlib.Omega.{arith}
use borrow.Author.Tests.{ltb-true, le-leb, lt-leb}
use lib.ListN.{length, take, length-take}
use lib.Dec.{leb, ltb}
use Rattle.words.specs.Lists.{Below, map, all, up_from}
use Rattle.words.specs.Bytes.{records_in, record_at}
use Rattle.words.proofs.Lists.{All-to, All-take, map-all, map-length, up-length, filled-front}
use Rattle.words.proofs.Tests.{true-all, and-true, pick_true, pick-false}
use Rattle.group.specs.Element.{is_element}
use Rattle.sharing.specs.Setting.{members}
use Rattle.sharing.specs.Answer.{recovered}
use Rattle.sharing.specs.Carried.{Commitments}
use Rattle.sharing.specs.declared.Setting.{Setting}
use Rattle.sharing.proofs.EachMember.{members-front, each-members, member-exactly}
use Rattle.records.specs.Layout.{member_of, Z_of}
use Rattle.lines.specs.Lines.{v_in, Y_in, vs_in}
use Rattle.lines.specs.Columns.{columns_of}
use Rattle.lines.specs.declared.Columns.{Columns}
use Rattle.dealing.proofs.Judged.{dealing-exactly, accepted-passes}
use Rattle.share.specs.Share.{opened_form, is_dealer}
use Rattle.share.specs.declared.ShareForm.{ShareForm}
use Rattle.board.specs.Search.{filter}
use Rattle.board.specs.Board.{keys_in, lines_of, opening_place}
use Rattle.board.proofs.Searches.{filter-up}
use Rattle.board.specs.Sorted.{Sorted}
use Rattle.board.proofs.Order.{reached, shapes, sorted}
use Rattle.verdicts.specs.Shares.{Judges, is_share_in, shares_in, from_lowest}
use Rattle.verdicts.specs.Verdict.{commitments_of, encrypted_of, is_opened}
use Rattle.verdicts.specs.Posted.{LinesOn, SharesOn}
use Rattle.verdicts.specs.Gathered.{held_of, lowest_in}
use Rattle.verdicts.specs.declared.GatheredShares.{GatheredShares}
use Rattle.std.specs.Prelude.{Ok, Err}
use Rattle.words.specs.declared.refusal.Refusal.TheVariants.{StillStuck}

few-taken : (t : ℕ) (xs : List ℕ) → length (take t xs) < t → length xs < t
few-taken t xs h = omega (arith, length-take t xs)

all-taken : (t : ℕ) (xs : List ℕ) → t ≤ length (take t xs) → t ≤ length xs
all-taken t xs h = omega (arith, length-take t xs)

module _ (J : Judges) {S : Setting} {b : List ℕ} {F : ShareForm} {Ys : List ℕ} (L : SharesOn S b F Ys) where
  abbrev shares : List ℕ
  shares = shares_in J S b F Ys

  abbrev taken : List ℕ
  taken = take S.t shares

  members-low : Below S.group.q (map (λ i. member_of (record_at b i)) taken)
  unfolding shares_in
  members-low =
      let form = (reached S b L.reached).form in
      let is = filter (is_share_in J S b F Ys) (up_from 0 (records_in b)) in
      map-all (λ i. member_of (record_at b i)) (λ m. m < S.group.q) (take S.t is)
      (All-take (λ i. member_of (record_at b i) < S.group.q) S.t is
      (All-to is (λ i s. let z = (shapes S b form i (omega (arith, s.0.1))).member in omega (arith, z, L.proper.n-below)) (filter-up (is_share_in J S b F Ys) 0 (records_in b))))

  module _ {A : GatheredShares} (g : A ≡ lowest_in J S b F Ys) where
    count-is : A.count ≡ length taken
    unfolding lowest_in held_of
    count-is = ap (λ (B : GatheredShares). B.count) g

    members-are : take A.count A.members ≡ map (λ i. member_of (record_at b i)) taken
    unfolding lowest_in held_of
    members-are = filled-front 31 A.count _ (map-length (λ i. member_of (record_at b i)) taken ∙ sym count-is) (ap (λ (B : GatheredShares). B.members) g)

    shares-are : take A.count A.shares ≡ map (λ i. Z_of (record_at b i)) taken
    unfolding lowest_in held_of
    shares-are = filled-front 31 A.count _ (map-length (λ i. Z_of (record_at b i)) taken ∙ sym count-is) (ap (λ (B : GatheredShares). B.shares) g)

    pub members_count : length (take A.count A.members) ≡ A.count
    members_count = ap length members-are ∙ map-length (λ i. member_of (record_at b i)) taken ∙ sym count-is

    pub shares_count : length (take A.count A.shares) ≡ A.count
    shares_count = ap length shares-are ∙ map-length (λ i. Z_of (record_at b i)) taken ∙ sym count-is

    pub count_most : A.count ≤ 31
    count_most = omega (arith, count-is, length-take S.t shares, L.proper.t-most, L.proper.n-most)

    pub found_low : Below S.group.q (take A.count A.members)
    found_low = subst (Below S.group.q) (sym members-are) members-low

    pub found-few : A.count < S.t → Err StillStuck ≡ from_lowest S b shares
    unfolding from_lowest
    found-few h = sym (pick-false (leb S.t (length shares)) _ _ (lt-leb _ _ (few-taken S.t shares (omega (arith, count-is)))))

    pub found_enough : S.t ≤ A.count → {v : ℕ} → v ≡ recovered S.group (take A.count A.members) (take A.count A.shares)
        → Ok (record { 0 = v }) ≡ from_lowest S b shares
    unfolding from_lowest
    found_enough h f =
        (λ j. Ok (record { 0 = (f ∙ (λ k. recovered S.group (members-are k) (shares-are k))) j }))
        ∙ sym (pick_true (leb S.t (length shares)) _ _ (le-leb _ _ (all-taken S.t shares (omega (arith, count-is)))))

-- the same without the name of what is found
pub few_refused : (J : Judges) {S : Setting} {b : List ℕ} {F : ShareForm} {Ys : List ℕ} → SharesOn S b F Ys → (lowest_in J S b F Ys).count < S.t
    → from_lowest S b (shares_in J S b F Ys) ≡ Err StillStuck
few_refused J L h = sym (found-few J L refl h)

-- ---- the figures of a dealer's lines
module _ (S : Setting) (b : List ℕ) (d : ℕ) where
  -- the first n places of a column hold the figures of his lines
  pub encrypted_count : {Ys : List ℕ} → Ys ≡ encrypted_of S b d → length Ys ≡ S.n
  unfolding encrypted_of
  encrypted_count Y = ap length Y ∙ map-length (Y_in (lines_of b d)) (members S.n) ∙ up-length 1 S.n

  module _ {figures : Columns} (f : figures ≡ columns_of S.n (lines_of b d)) where
    pub commitments_are : take S.n figures.vs ≡ commitments_of S b d
    unfolding vs_in columns_of
    commitments_are = members-front (v_in (lines_of b d)) S.n (ap (λ (x : Columns). x.vs) f)

    pub encrypted_are : take S.n figures.encrypted ≡ encrypted_of S b d
    unfolding encrypted_of columns_of
    encrypted_are = members-front (Y_in (lines_of b d)) S.n (ap (λ (x : Columns). x.encrypted) f)

  pub lines_sorted : LinesOn S b d → Sorted b
  lines_sorted L = sorted S b (reached S b L.reached).form

  -- the shares of his dealing: each member has an encrypted share in an accepted line
  pub lines_shares : LinesOn S b d → {F : ShareForm} → F ≡ opened_form d → {Ys : List ℕ} → Ys ≡ encrypted_of S b d → SharesOn S b F Ys
  unfolding encrypted_of is_dealer
  lines_shares L f {Ys} Y =
      let posted = ((dealing-exactly S d (keys_in S.n b) (lines_of b d)).0 L.accepted).posted in
      subst (λ (F : ShareForm). SharesOn S b F Ys) (sym f)
      (record {
        proper = L.proper;
        reached = L.reached;
        kind = inl refl;
        dealer = (member-exactly S.n d).1 posted.dealer;
        size = encrypted_count Y;
        elements =
            ap (all (is_element S.group)) Y
            ∙ true-all (is_element S.group) (map (Y_in (lines_of b d)) (members S.n))
            (map-all (Y_in (lines_of b d)) (λ v. is_element S.group v ≡ true) (members S.n)
            (each-members (λ i. is_element S.group (Y_in (lines_of b d) i) ≡ true) S.n (λ i h l. (posted.lines i h l).Y-element)));
      })

  pub lines_commitments : LinesOn S b d → {vs : List ℕ} → vs ≡ commitments_of S b d → Commitments S vs
  lines_commitments L v = subst (Commitments S) (sym v) (accepted-passes S L.proper d (keys_in S.n b) (lines_of b d) L.accepted).0

  -- a right opening lies on the board
  pub opening-inside : is_opened S b d ≡ true → opening_place b d < records_in b
  unfolding is_opened
  opening-inside e = ltb-true _ _ (and-true (ltb (opening_place b d) (records_in b)) _ e).0
