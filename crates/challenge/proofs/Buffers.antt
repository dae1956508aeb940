-- Messages laid out in a buffer: words put one after the other, the words of every member, what is put behind the head, and the byte
-- that tells coefficients apart.
use mathlib.Core.Path.{◌≡◌, refl, sym, ap, ◌∙◌}
use mathlib.Core.Bool.{Bool, true, false}
use mathlib.Core.List.{List, [], ◌∷◌, ◌++◌, append_assoc, append-nil}
use Prim.Native.Nat.{ℕ, ◌+◌, ◌*◌, ◌≤◌, ◌<◌}
use native.Mathlib.Nat.{mul-zero, mul-suc}
use native.Mathlib.Omega.{arith}
use borrow.Author.Tests.{eq-eqb, ne_eqb}
use borrow.Rule.Slice.PartMut.{put_mid}
use lib.ListN.{length, take, set, length-append}
use lib.Dec.{eqb}
use lib.Seq.{set_at, take-set-lt}
use Rattle.words.specs.Choice.{pick}
use Rattle.words.specs.Bytes.{word_bytes, words_bytes, put_at}
use Rattle.words.proofs.Lists.{up-length, up-last}
use Rattle.words.proofs.Tests.{pick_true, pick-false}
use Rattle.words.proofs.Bytes.{word-length, words-length, put-length, put-take, put-none, put_byte, put_back, put-put}
use Rattle.sharing.specs.Setting.{members}
use Rattle.sharing.specs.declared.Setting.{Setting}
use Rattle.challenge.specs.Message.{coefficient_tag, round_bytes, head_bytes, message, bytes_over, coefficient_message}

-- ---- words put one after the other
words_append : (ws us : List ℕ) → words_bytes (ws ++ us) ≡ words_bytes ws ++ words_bytes us
unfolding words_bytes
words_append [] us = refl
words_append (w ∷ ws) us =
    ap (λ (t : List ℕ). word_bytes w ++ t) (words_append ws us) ∙ sym (append_assoc (word_bytes w) (words_bytes ws) (words_bytes us))

pub words-one : (w : ℕ) → word_bytes w ≡ words_bytes (w ∷ [])
unfolding words_bytes
words-one w = sym (append-nil (word_bytes w))

-- some words, and then others behind them
pub put-words : (k i : ℕ) (ws us l : List ℕ) {m n : List ℕ} → i ≡ k + 4 * length ws → i ≤ length l
    → m ≡ put_at k (words_bytes ws) l → n ≡ put_at i (words_bytes us) m → n ≡ put_at k (words_bytes (ws ++ us)) l
put-words k i ws us l e h p q =
    q
    ∙ ap (put_at i (words_bytes us)) p
    ∙ put-put k i (words_bytes ws) (words_bytes us) l (omega (arith, words-length ws)) h
    ∙ ap (λ (t : List ℕ). put_at k t l) (sym (words_append ws us))

-- ---- the words of every member
module _ (f : ℕ → List ℕ) where
  over-append : (is js : List ℕ) → bytes_over f (is ++ js) ≡ bytes_over f is ++ bytes_over f js
  unfolding bytes_over
  over-append [] js = refl
  over-append (i ∷ is) js =
      ap (λ (t : List ℕ). words_bytes (f i) ++ t) (over-append is js) ∙ sym (append_assoc (words_bytes (f i)) (bytes_over f is) (bytes_over f js))

  over_last : (i : ℕ) → bytes_over f (members (i + 1)) ≡ bytes_over f (members i) ++ words_bytes (f (i + 1))
  unfolding bytes_over
  over_last i =
      let e : 1 + i ≡ i + 1 = omega arith in
      ap (bytes_over f) (up-last 1 i)
      ∙ over-append (members i) ((1 + i) ∷ [])
      ∙ ap (λ (t : List ℕ). bytes_over f (members i) ++ t) (append-nil (words_bytes (f (1 + i))) ∙ ap (λ (x : ℕ). words_bytes (f x)) e)

  -- w bytes for each
  module _ (w : ℕ) (sized : (i : ℕ) → 4 * length (f i) ≡ w) where
    over-length : (is : List ℕ) → length (bytes_over f is) ≡ w * length is
    unfolding bytes_over
    over-length [] = sym (mul-zero w)
    over-length (i ∷ is) =
        length-append (words_bytes (f i)) (bytes_over f is) ∙ omega (arith, words-length (f i), sized i, over-length is, mul-suc w (length is))

    pub members-length : (i : ℕ) → length (bytes_over f (members i)) ≡ w * i
    members-length i = over-length (members i) ∙ ap (λ (n : ℕ). w * n) (up-length 1 i)

    -- the turn of a loop that puts the words of one member more
    pub over-next : (k i : ℕ) (ws l : List ℕ) {m n : List ℕ} → k + w * i ≤ length l → ws ≡ f (i + 1)
        → m ≡ put_at k (bytes_over f (members i)) l → n ≡ put_at (k + w * i) (words_bytes ws) m
        → n ≡ put_at k (bytes_over f (members (i + 1))) l
    over-next k i ws l h e p q =
        q
        ∙ (λ j. put_at (k + w * i) (words_bytes (e j)) (p j))
        ∙ put-put k (k + w * i) (bytes_over f (members i)) (words_bytes (f (i + 1))) l (omega (arith, members-length i)) h
        ∙ ap (λ (t : List ℕ). put_at k t l) (sym (over_last i))

-- ---- the head
module _ (round : ℕ) where
  pub round-none : round ≡ 0 → round_bytes round ≡ []
  unfolding round_bytes
  round-none e = pick_true (eqb round 0) [] (word_bytes round) (eq-eqb round 0 e)

  pub round-some : (round ≡ 0 → ⊥) → round_bytes round ≡ word_bytes round
  unfolding round_bytes
  round-some e = pick-false (eqb round 0) [] (word_bytes round) (ne_eqb round 0 e)

  -- in round 0 nothing is put
  pub no_round_length : round ≡ 0 → length (round_bytes round) ≡ 0
  no_round_length e = ap length (round-none e)

  pub no_round_put : (at : ℕ) (m : List ℕ) → round ≡ 0 → put_at at (round_bytes round) m ≡ m
  no_round_put at m e = ap (λ (bs : List ℕ). put_at at bs m) (round-none e) ∙ put-none at m

  pub round-length : length (round_bytes round) ≤ 4
  unfolding round_bytes
  round-length = by-test (eqb round 0)
    where
      by-test : (z : Bool) → length (pick z [] (word_bytes round)) ≤ 4
      by-test true = omega arith
      by-test false = omega (arith, word-length round)

module _ (tag : ℕ) (S : Setting) (d : ℕ) where
  pub head-length : length (head_bytes tag S d) ≡ 5 + length (round_bytes S.round)
  unfolding head_bytes
  head-length = omega (arith, length-append (round_bytes S.round) (d ∷ []))

  -- four bytes over the front of a buffer l, the round's number put behind them up to a, and a store at a
  pub head-put : (l : List ℕ) {a : ℕ} {f r : List ℕ} → 16 ≤ length l → f ≡ tag ∷ S.number ∷ S.n ∷ S.t ∷ []
      → a ≡ 4 + length (round_bytes S.round) → r ≡ put_at 4 (round_bytes S.round) (put_mid 0 4 l f) → a < length r
      → set r a d ≡ put_at 0 (head_bytes tag S d) l
  unfolding head_bytes
  head-put l {a} {f} {r} room four e p h =
      let bs = round_bytes S.round in
      let ts = tag ∷ S.number ∷ S.n ∷ S.t ∷ [] in
      let front = ap (put_mid 0 4 l) four ∙ put_back 0 ts l in
      put_byte a d r h
      ∙ ap (put_at a (d ∷ [])) (p ∙ ap (put_at 4 bs) front ∙ put-put 0 4 ts bs l refl (omega arith))
      ∙ put-put 0 a (ts ++ bs) (d ∷ []) l (omega arith) (omega (arith, round-length S.round))

  -- the bytes bs that are put behind the head in a buffer l
  put-behind : (bs l : List ℕ) {a : ℕ} {h m : List ℕ} → a ≡ length (head_bytes tag S d) → h ≡ put_at 0 (head_bytes tag S d) l
      → m ≡ put_at a bs h → a ≤ length l → m ≡ put_at 0 (message tag S d bs) l
  put-behind bs l {a} e p q r = q ∙ ap (put_at a bs) p ∙ put-put 0 a (head_bytes tag S d) bs l (omega arith) (omega arith)

  -- with the byte x before bs
  pub put-behind-byte : (bs l : List ℕ) (x : ℕ) {a : ℕ} {h m : List ℕ} → a ≡ length (head_bytes tag S d) → h ≡ put_at 0 (head_bytes tag S d) l
      → m ≡ put_at (a + 1) bs (set h a x) → a + 1 ≤ length l → m ≡ put_at 0 (message tag S d (x ∷ bs)) l
  put-behind-byte bs l x {a} {h} e p q r =
      let n : length h ≡ length l = ap length p ∙ put-length 0 (head_bytes tag S d) l (omega arith) in
      put-behind (x ∷ bs) l e p
      (q ∙ ap (put_at (a + 1) bs) (put_byte a x h (omega arith)) ∙ put-put a (a + 1) (x ∷ []) bs h refl (omega arith)) (omega arith)

  -- what stands in it up to the end k
  pub behind-head : (bs l : List ℕ) (k : ℕ) {a : ℕ} {h m : List ℕ} → a ≡ length (head_bytes tag S d) → h ≡ put_at 0 (head_bytes tag S d) l
      → m ≡ put_at a bs h → k ≡ a + length bs → k ≤ length l → take k m ≡ message tag S d bs
  behind-head bs l k e p q s r =
      let hd = head_bytes tag S d in
      let n : k ≡ 0 + length (hd ++ bs) = omega (arith, length-append hd bs) in
      ap (take k) (put-behind bs l e p q (omega arith))
      ∙ ap (λ (x : ℕ). take x (put_at 0 (hd ++ bs) l)) n
      ∙ put-take 0 (hd ++ bs) l (omega arith)

  pub behind-byte : (bs l : List ℕ) (k x : ℕ) {a : ℕ} {h m : List ℕ} → a ≡ length (head_bytes tag S d) → h ≡ put_at 0 (head_bytes tag S d) l
      → m ≡ put_at (a + 1) bs (set h a x) → k ≡ a + 1 + length bs → k ≤ length l → take k m ≡ message tag S d (x ∷ bs)
  behind-byte bs l k x {a} {h} e p q s r =
      let hd = head_bytes tag S d in
      let n : k ≡ 0 + length (hd ++ (x ∷ bs)) = omega (arith, length-append hd (x ∷ bs)) in
      ap (take k) (put-behind-byte bs l x e p q (omega arith))
      ∙ ap (λ (y : ℕ). take y (put_at 0 (hd ++ (x ∷ bs)) l)) n
      ∙ put-take 0 (hd ++ (x ∷ bs)) l (omega arith)

-- ---- the messages of two coefficients differ in the byte behind the head
module _ (S : Setting) (d : ℕ) (v Y : ℕ → ℕ) (i k : ℕ) {a : ℕ} (e : a ≡ length (head_bytes coefficient_tag S d)) where
  coefficient-set : set (coefficient_message S d v Y i) a k ≡ coefficient_message S d v Y k
  unfolding coefficient_message
  coefficient-set = set_at (head_bytes coefficient_tag S d) i (bytes_over (λ j. v j ∷ Y j ∷ []) (members S.n)) k a (sym e)

  -- in the first n bytes of a buffer, where the message ends: as it is put, and with another byte
  pub coefficient-put : (n : ℕ) (l : List ℕ) {m : List ℕ} → m ≡ put_at 0 (coefficient_message S d v Y i) l → n ≡ a + 1 + 8 * S.n → n ≤ length l
      → take n m ≡ coefficient_message S d v Y i
  unfolding coefficient_message
  coefficient-put n l p s r =
      let hd = head_bytes coefficient_tag S d in
      let bs = bytes_over (λ j. v j ∷ Y j ∷ []) (members S.n) in
      let z : n ≡ 0 + length (hd ++ (i ∷ bs)) =
      omega (arith, length-append hd (i ∷ bs), members-length (λ j. v j ∷ Y j ∷ []) 8 (λ j. refl) S.n) in
      ap (take n) p ∙ ap (λ (x : ℕ). take x (put_at 0 (hd ++ (i ∷ bs)) l)) z ∙ put-take 0 (hd ++ (i ∷ bs)) l (omega arith)

  pub coefficient-next : (n : ℕ) (m : List ℕ) → a < n → take n m ≡ coefficient_message S d v Y i
      → take n (set m a k) ≡ coefficient_message S d v Y k
  coefficient-next n m h p = take-set-lt n m a k h ∙ ap (λ (t : List ℕ). set t a k) p ∙ coefficient-set
