-- From a written dealing to its secret: the share that a member writes from his line is accepted and true, and enough of them recover h^s.
-- And from many of them to the sum: the added share is accepted and true too.
use mathlib.Core.Path.{◌≡◌, refl, sym, ap, ◌∙◌}
use mathlib.Core.Bool.{true}
use mathlib.Core.List.{List}
use Prim.Native.Nat.{ℕ, ◌*◌, ◌^◌, ◌≤◌, ◌<◌}
use native.Mathlib.Omega.{arith}
use borrow.Author.Tests.{le-leb, lt-ltb}
use lib.Dec.{leb}
use Rattle.std.specs.Prelude.{Ok}
use Rattle.words.specs.Lists.{All, map}
use Rattle.words.proofs.Lists.{All-to, All-both, map_same}
use Rattle.words.proofs.Tests.{true-and}
use Rattle.words.proofs.Checks.{value-exactly}
use Rattle.field.specs.Polynomial.{value_at}
use Rattle.group.specs.Power.{pow}
use Rattle.group.specs.declared.Group.{Group}
use Rattle.group.specs.Element.{is_element}
use Rattle.group.proofs.Elements.{true-exponent, power-element}
use Rattle.sharing.specs.Setting.{ProperSetting}
use Rattle.sharing.specs.Carried.{Polynomial, powers_at, TrueShares}
use Rattle.sharing.specs.declared.Setting.{Setting}
use Rattle.sharing.specs.Sum.{product_of, sum_of}
use Rattle.sharing.proofs.Theorems.{quorum-recovers}
use Rattle.sharing.proofs.EachMember.{member-exactly}
use Rattle.sharing.proofs.Sums.{sum-value}
use Rattle.records.specs.Keys.{is_secret_key}
use Rattle.lines.specs.Lines.{vs_in}
use Rattle.dealing.specs.Dealing.{written_Y, written_dealing, write_dealing_in}
use Rattle.dealing.proofs.Settled.{WritableDealing}
use Rattle.dealing.proofs.Written.{value-writable, Y-is, line-proper, carries}
use Rattle.share.specs.declared.ShareForm.{ShareForm}
use Rattle.share.specs.Share.{opened_form, added_form, is_dealer, members_checks, key_of, share_of, written_share, write_share_checks, write_share_in, judge_share_in}
use Rattle.share.proofs.Keys.{h-element, share-true}
use Rattle.share.proofs.Shares.{share-complete}
use Rattle.demand3.specs.Claims.{power_of_h}
use Rattle.demand3.specs.Honest.{HoldsKey, line_Y, lines_Y, LineShareAccepted, WrittenRecovered, AddedShareAccepted}

-- ---- in any form, a member writes a share of an element with a secret key, and it is accepted with its key
module _ (S : Setting) (P : ProperSetting S) (word : S.round < 2 ^ 32) (F : ShareForm) (D : is_dealer S.n F ≡ true) (kind : F.kind < 2 ^ 32)
    (i : ℕ) (h : 1 ≤ i) (l : i ≤ S.n) (x : ℕ) (some : 1 ≤ x) (low : x < S.group.q) (Y w : ℕ) (e : is_element S.group Y ≡ true)
    (v : w < S.group.q) where
  pub share-written : write_share_in S F i Y x w 32 ≡ Ok tt
  unfolding write_share_in write_share_checks members_checks is_secret_key
  share-written =
      let G = S.group in
      let eight = true-and (is_dealer S.n F) _ D ((member-exactly S.n i).1 (h, l)) in
      let secret = true-and (leb 1 x) _ (le-leb 1 x some) (lt-ltb x G.q low) in
      let seven = true-and (is_secret_key G x) _ secret (true-exponent G w v) in
      (value-exactly Unit (write_share_checks S F i Y x w 32) tt).1 (eight, (refl, (e, (seven, tt))))

  share-judged : {y Z : ℕ} → y ≡ key_of S.group x → share_of S.group Y x ≡ Z
      → judge_share_in S F i y Y (written_share S F i Y x w) ≡ Ok (record { 0 = Z })
  share-judged k z =
      ap (λ (y : ℕ). judge_share_in S F i y Y (written_share S F i Y x w)) k
      ∙ share-complete S P word F kind i Y x w share-written
      ∙ ap (λ (Z : ℕ). Ok (record { 0 = Z })) z

-- ---- one dealing
module _ (S : Setting) (P : ProperSetting S) (word : S.round < 2 ^ 32) (d : ℕ) (ys f ws : List ℕ) (W : WritableDealing S d ys f ws) where
  abbrev G : Group
  G = S.group

  abbrev Y : ℕ → ℕ
  Y = line_Y S d ys f ws

  module _ (i : ℕ) (h : 1 ≤ i) (l : i ≤ S.n) (x : ℕ) (K : HoldsKey S.group ys i x) where
    pub Y-power : Y i ≡ pow G.p (key_of G x) (value_at G.q f i)
    unfolding written_Y
    Y-power = Y-is S P word d ys f ws W i h l ∙ ap (λ (y : ℕ). pow G.p y (value_at G.q f i)) K.key

    share-is : share_of G (Y i) x ≡ power_of_h G (value_at G.q f i)
    share-is =
        ap (λ (v : ℕ). share_of G v x) Y-power
        ∙ share-true G P.proper x (value_at G.q f i) K.some K.low

  shares-true : (x : ℕ → ℕ) (ms : List ℕ) → All (λ i. (1 ≤ i) × (i ≤ S.n)) ms → All (λ i. HoldsKey S.group ys i (x i)) ms
      → TrueShares S f ms (map (λ i. share_of G (Y i) (x i)) ms)
  unfolding powers_at
  shares-true x ms m k =
      map_same (λ i. share_of G (Y i) (x i)) (λ i. power_of_h G (value_at G.q f i)) ms
      (All-both ms (λ i s K. share-is i s.0 s.1 (x i) K) m k)

pub line-share-accepted : LineShareAccepted
unfolding is_dealer
line-share-accepted S P k d ys f ws e i x w h l K v =
    let W = value-writable S d ys f ws _ e in
    let D = (member-exactly S.n d).1 W.dealer in
    let Y : ℕ = line_Y S d ys f ws i in
    let z = (line-proper S P k d ys f ws W i h l).Y-element in (
      share-written S P k (opened_form d) D (omega arith) i h l x K.some K.low Y w z v,
      share-judged S P k (opened_form d) D (omega arith) i h l x K.some K.low Y w z v K.key (share-is S P k d ys f ws W i h l x K),
    )

pub written-recovered : WrittenRecovered
written-recovered S P k d ys f ws e x ms Q h =
    let W = value-writable S d ys f ws _ e in
    (quorum-recovers S P f (vs_in S.n (written_dealing S d ys f ws)) (carries S P k d ys f ws W) ms _ Q
    (shares-true S P k d ys f ws W x ms Q.within h)).0

-- ---- the dealings of a list: the product of a member's Y is his key to the sum's value
pub product-power : (S : Setting) → ProperSetting S → (y : ℕ) → is_element S.group y ≡ true
    → (ds : List ℕ) (f : ℕ → List ℕ) (Y : ℕ → ℕ) (i : ℕ)
    → All (λ d. Polynomial S (f d) × (Y d ≡ pow S.group.p y (value_at S.group.q (f d) i))) ds
    → product_of S.group.p (map Y ds) ≡ pow S.group.p y (value_at S.group.q (sum_of S (map f ds)) i)
product-power S P y e ds f Y i a =
    let G = S.group in
    ap (product_of G.p) (map_same Y (λ d. pow G.p y (value_at G.q (f d) i)) ds (All-to ds (λ d s. s.1) a))
    ∙ sym (sum-value S P y e ds f (All-to ds (λ d s. s.0) a) i)

module _ (S : Setting) (P : ProperSetting S) (word : S.round < 2 ^ 32) (ds ys : List ℕ) (f ws : ℕ → List ℕ)
    (W : All (λ d. write_dealing_in S d ys (f d) (ws d) (32 * S.n) ≡ Ok tt) ds) (i : ℕ) (h : 1 ≤ i) (l : i ≤ S.n) (x : ℕ) (K : HoldsKey S.group ys i x) where
  abbrev sum_at : ℕ
  sum_at = value_at S.group.q (sum_of S (map f ds)) i

  key-element : is_element S.group (key_of S.group x) ≡ true
  unfolding key_of
  key-element = power-element S.group P.proper S.group.h.0 x (h-element S.group P.proper)

  lines_Y-is : lines_Y S ds ys f ws i ≡ pow S.group.p (key_of S.group x) sum_at
  lines_Y-is =
      product-power S P (key_of S.group x) key-element ds f (λ d. line_Y S d ys (f d) (ws d) i) i
      (All-to ds
      (λ d e.
      let W = value-writable S d ys (f d) (ws d) _ e in
      ((carries S P word d ys (f d) (ws d) W).polynomial, Y-power S P word d ys (f d) (ws d) W i h l x K))
      W)

  lines_Y-element : is_element S.group (lines_Y S ds ys f ws i) ≡ true
  lines_Y-element =
      ap (is_element S.group) lines_Y-is ∙ power-element S.group P.proper (key_of S.group x) sum_at key-element

  added_is : share_of S.group (lines_Y S ds ys f ws i) x ≡ power_of_h S.group sum_at
  added_is =
      ap (λ (Y : ℕ). share_of S.group Y x) lines_Y-is ∙ share-true S.group P.proper x sum_at K.some K.low

pub added-share-accepted : AddedShareAccepted
unfolding is_dealer
added-share-accepted S P k ds ys f ws W i x w h l K v =
    let Y : ℕ = lines_Y S ds ys f ws i in
    let z = lines_Y-element S P k ds ys f ws W i h l x K in (
      share-written S P k added_form refl (omega arith) i h l x K.some K.low Y w z v,
      share-judged S P k added_form refl (omega arith) i h l x K.some K.low Y w z v K.key (added_is S P k ds ys f ws W i h l x K),
    )
