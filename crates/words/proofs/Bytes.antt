-- Laws of words and records of bytes: their lengths, a word read in a longer list or in a part, bytes put into a list.
-- A record that is written reads back and 32 bytes that are read write back, both by induction over a run of words.
use mathlib.Core.Path.{◌≡◌, refl, sym, ap, ◌∙◌}
use mathlib.Core.List.{List, [], ◌∷◌, ◌++◌, append_assoc, append-nil}
use Prim.Native.Nat.{ℕ, zero, suc, ◌+◌, ◌*◌, ◌/◌, ◌%◌, ◌^◌, ◌<◌, ◌≤◌}
use native.Mathlib.Nat.{mod-eq_of_lt}
use native.Mathlib.Omega.{arith}
use borrow.Rule.Slice.PartMut.{put_mid}
use lib.ListN.{length, get_or, take, drop, set, length-append, length-drop, take-append-drop, get_or-append}
use lib.Seq.{length-take-le, sets-eq, take_at, take_all, drop-length, drop-cons, drop-drop, drop-append-add, get_or-append-add}
use Rattle.words.specs.Lists.{Below}
use Rattle.words.specs.Bytes.{word, word_at, word_bytes, words_bytes, big_endian, put_at, record_words, record_bytes, record_in}
use Rattle.words.specs.Claims.{ReadBack, WriteBack}
use Rattle.words.specs.declared.Record.{Record}

-- ---- lengths
pub word-length : (w : ℕ) → length (word_bytes w) ≡ 4
unfolding word_bytes
word-length w = refl

pub words-length : (ws : List ℕ) → length (words_bytes ws) ≡ 4 * length ws
unfolding words_bytes
words-length [] = refl
words-length (w ∷ ws) = length-append (word_bytes w) (words_bytes ws) ∙ omega (arith, word-length w, words-length ws)

pub record-length : (r : Record) → length (record_bytes r) ≡ 32
unfolding record_bytes
record-length r = words-length (record_words r)

-- ---- words read
-- a word is told by its four bytes
word_same : (b c : List ℕ) (k m : ℕ) → ((i : ℕ) → i < 4 → get_or b (k + i) 0 ≡ get_or c (m + i) 0) → word_at b k ≡ word_at c m
unfolding word_at
word_same b c k m h = λ j. word (first j) (h 1 (omega arith) j) (h 2 (omega arith) j) (h 3 (omega arith) j)
  where
    first : get_or b k 0 ≡ get_or c m 0
    first = let s : k + 0 ≡ k = omega arith in let t : m + 0 ≡ m = omega arith in rw (s, t) at (h 0 (omega arith))

module _ (xs ys : List ℕ) (k : ℕ) where
  -- past the first list
  pub word-append : word_at (xs ++ ys) (length xs + k) ≡ word_at ys k
  word-append = word_same (xs ++ ys) ys (length xs + k) k (λ i h. byte i)
    where
      byte : (i : ℕ) → get_or (xs ++ ys) (length xs + k + i) 0 ≡ get_or ys (k + i) 0
      byte i = let e : length xs + k + i ≡ length xs + (k + i) = omega arith in rw e (get_or-append-add xs ys (k + i) 0)

  -- in the first list
  pub word-front : k + 4 ≤ length xs → word_at (xs ++ ys) k ≡ word_at xs k
  word-front l = word_same (xs ++ ys) xs k k (λ i h. get_or-append xs ys 0 (k + i) (omega arith))

-- ---- the size of a byte
byte_low : (b : List ℕ) (k : ℕ) → Below 256 b → get_or b k 0 < 256
byte_low [] k h = omega arith
byte_low (x ∷ b) zero h = h.0
byte_low (x ∷ b) (suc k) h = byte_low b k h.1

pub word_low : (b : List ℕ) (k : ℕ) → Below 256 b → word_at b k < 2 ^ 32
unfolding word_at
word_low b k h = omega (arith, byte_low b k h, byte_low b (k + 1) h, byte_low b (k + 2) h, byte_low b (k + 3) h)

-- the number of a word's four bytes, behind the number a
pub word_number : (a w : ℕ) → w < 2 ^ 32 → big_endian a (word_bytes w) ≡ a * 4294967296 + w
unfolding word_bytes
word_number a w h = let t : w / 16777216 < 256 = omega arith in omega (arith, mod-eq_of_lt t)

-- ---- a word that is written
pub word_back : (w : ℕ) (rest : List ℕ) → w < 2 ^ 32 → word_at (word_bytes w ++ rest) 0 ≡ w
unfolding word_at word_bytes
word_back w rest h = let t : w / 16777216 < 256 = omega arith in omega (arith, mod-eq_of_lt t)

-- ---- bytes put into a list
-- a part that was lent comes back as the bytes bs
pub put_back : (k : ℕ) (bs l : List ℕ) → put_mid k (length bs) l bs ≡ put_at k bs l
unfolding put_at
put_back k bs l =
    sym (append_assoc (take k l) bs (drop (length bs) (drop k l))) ∙ ap (λ (r : List ℕ). take k l ++ bs ++ r) (drop-drop (length bs) k l)

module _ (k : ℕ) (bs l : List ℕ) (h : k + length bs ≤ length l) where
  front_length : length (take k l ++ bs) ≡ k + length bs
  front_length = length-append (take k l) bs ∙ omega (arith, length-take-le k l (omega arith))

  pub put-length : length (put_at k bs l) ≡ length l
  unfolding put_at
  put-length = length-append (take k l ++ bs) (drop (k + length bs) l) ∙ omega (arith, front_length, length-drop (k + length bs) l)

  pub put-take : take (k + length bs) (put_at k bs l) ≡ take k l ++ bs
  unfolding put_at
  put-take = take_at (take k l ++ bs) (drop (k + length bs) l) (k + length bs) front_length

-- nothing put
pub put-none : (k : ℕ) (l : List ℕ) → put_at k [] l ≡ l
unfolding put_at
put-none k l = let e : k + 0 ≡ k = omega arith in rw (append-nil, e) (take-append-drop k l)

-- one byte stored
pub put_byte : (k x : ℕ) (l : List ℕ) → k < length l → set l k x ≡ put_at k (x ∷ []) l
unfolding put_at
put_byte k x l h = sets-eq (x ∷ []) l k (omega arith)

-- bytes put behind others
pub put-put : (k m : ℕ) (xs ys l : List ℕ) → m ≡ k + length xs → m ≤ length l → put_at m ys (put_at k xs l) ≡ put_at k (xs ++ ys) l
unfolding put_at
put-put k m xs ys l e h =
    let p = take k l ++ xs in
    let s : length p ≡ m = length-append (take k l) xs ∙ omega (arith, length-take-le k l (omega arith)) in
    let r = drop (k + length xs) l in
    let a : m + length ys ≡ length p + length ys = omega arith in
    let b : k + length xs + length ys ≡ k + length (xs ++ ys) = omega (arith, length-append xs ys) in
    (λ j. take_at p r m s j ++ ys ++ drop (a j) (p ++ r))
    ∙ ap (λ (t : List ℕ). p ++ ys ++ t) (drop-append-add p r (length ys) ∙ drop-drop (length ys) (k + length xs) l ∙ ap (λ (n : ℕ). drop n l) b)
    ∙ ap (λ (t : List ℕ). t ++ drop (k + length (xs ++ ys)) l) (append_assoc (take k l) xs ys)

-- ---- runs of words
-- n words from the place k on
abbrev words_from : ℕ → ℕ → List ℕ → List ℕ
words_from k zero b = []
words_from k (suc n) b = word_at b k ∷ words_from (k + 4) n b

-- words written one after the other from the place k on
abbrev put_words : ℕ → List ℕ → List ℕ → List ℕ
put_words k [] l = l
put_words k (w ∷ ws) l = put_words (k + 4) ws (put_at k (word_bytes w) l)

-- they stand behind the first k bytes
words-put : (k : ℕ) (ws l : List ℕ) → length l ≡ k + 4 * length ws → put_words k ws l ≡ take k l ++ words_bytes ws
unfolding words_bytes
words-put k [] l h = sym (append-nil (take k l) ∙ take_all k l (omega arith))
words-put k (w ∷ ws) l h =
    let e : k + length (word_bytes w) ≡ k + 4 = omega (arith, word-length w) in
    let f : k + length (word_bytes w) ≤ length l = omega arith in
    words-put (k + 4) ws (put_at k (word_bytes w) l) (put-length k (word_bytes w) l f ∙ omega arith)
    ∙ ap (λ (x : List ℕ). x ++ words_bytes ws) (ap (λ (n : ℕ). take n (put_at k (word_bytes w) l)) (sym e) ∙ put-take k (word_bytes w) l f)
    ∙ append_assoc (take k l) (word_bytes w) (words_bytes ws)

-- words that are written read back
words-read : (xs ws : List ℕ) → Below (2 ^ 32) ws → words_from (length xs) (length ws) (xs ++ words_bytes ws) ≡ ws
unfolding words_bytes
words-read xs [] h = refl
words-read xs (w ∷ ws) h =
    let bs = xs ++ (word_bytes w ++ words_bytes ws) in
    let z : length xs ≡ length xs + 0 = omega arith in
    let first : word_at bs (length xs) ≡ w = ap (word_at bs) z ∙ word-append xs (word_bytes w ++ words_bytes ws) 0 ∙ word_back w (words_bytes ws) h.0 in
    let e : length xs + 4 ≡ length (xs ++ word_bytes w) = omega (arith, length-append xs (word_bytes w), word-length w) in
    let a : bs ≡ (xs ++ word_bytes w) ++ words_bytes ws = sym (append_assoc xs (word_bytes w) (words_bytes ws)) in
    λ j. first j ∷ ((λ i. words_from (e i) (length ws) (a i)) ∙ words-read (xs ++ word_bytes w) ws h.1) j

bytes_back : (b : List ℕ) (k : ℕ) → Below 256 b → word_bytes (word_at b k) ≡ get_or b k 0 ∷ get_or b (k + 1) 0 ∷ get_or b (k + 2) 0 ∷ get_or b (k + 3) 0 ∷ []
unfolding word_at word_bytes
bytes_back b k h = digits _ _ _ _ (byte_low b k h) (byte_low b (k + 1) h) (byte_low b (k + 2) h) (byte_low b (k + 3) h)
  where
    digits : (a b c d : ℕ) → a < 256 → b < 256 → c < 256 → d < 256
        → word a b c d / 16777216 % 256 ∷ word a b c d / 65536 % 256 ∷ word a b c d / 256 % 256 ∷ word a b c d % 256 ∷ [] ≡ a ∷ b ∷ c ∷ d ∷ []
    digits a b c d p q r s =
        let e : word a b c d / 16777216 % 256 ≡ a = omega arith in
        let f : word a b c d / 65536 % 256 ≡ b = omega arith in
        let g : word a b c d / 256 % 256 ≡ c = omega arith in
        let i : word a b c d % 256 ≡ d = omega arith in
        λ j. e j ∷ f j ∷ g j ∷ i j ∷ []

four-next : (b : List ℕ) (k : ℕ) → k + 4 ≤ length b → drop k b ≡ get_or b k 0 ∷ get_or b (k + 1) 0 ∷ get_or b (k + 2) 0 ∷ get_or b (k + 3) 0 ∷ drop (k + 4) b
four-next b k h =
    next k (k + 1) (omega arith) (omega arith)
    ∙ ap (λ l. get_or b k 0 ∷ l) (next (k + 1) (k + 2) (omega arith) (omega arith)
    ∙ ap (λ l. get_or b (k + 1) 0 ∷ l) (next (k + 2) (k + 3) (omega arith) (omega arith)
    ∙ ap (λ l. get_or b (k + 2) 0 ∷ l) (next (k + 3) (k + 4) (omega arith) (omega arith))))
  where
    next : (i m : ℕ) → m ≡ suc i → i < length b → drop i b ≡ get_or b i 0 ∷ drop m b
    next i m e l = rw e (drop-cons b i 0 l)

-- bytes that are read write back
words-write : (k n : ℕ) (b : List ℕ) → length b ≡ k + 4 * n → Below 256 b → words_bytes (words_from k n b) ≡ drop k b
unfolding words_bytes
words-write k zero b h l = let e : length b ≡ k = omega arith in sym (ap (λ (i : ℕ). drop i b) (sym e) ∙ drop-length b)
words-write k (suc n) b h l =
    (λ j. bytes_back b k l j ++ words-write (k + 4) n b (omega arith) l j)
    ∙ sym (four-next b k (omega arith))

-- ---- records
record_same : (r s : Record) → record_words r ≡ record_words s → r ≡ s
record_same r s e =
    λ j. record { w0 = get_or (e j) 0 0; w1 = get_or (e j) 1 0; w2 = get_or (e j) 2 0; w3 = get_or (e j) 3 0; w4 = get_or (e j) 4 0; w5 = get_or (e j) 5 0; w6 = get_or (e j) 6 0; w7 = get_or (e j) 7 0 }

-- eight words put one after the other into 32 bytes
pub record-put : (r : Record) (l : List ℕ) {a b c d e f g h : List ℕ} → length l ≡ 32
    → a ≡ put_at 0 (word_bytes r.w0) l → b ≡ put_at 4 (word_bytes r.w1) a → c ≡ put_at 8 (word_bytes r.w2) b → d ≡ put_at 12 (word_bytes r.w3) c
    → e ≡ put_at 16 (word_bytes r.w4) d → f ≡ put_at 20 (word_bytes r.w5) e → g ≡ put_at 24 (word_bytes r.w6) f → h ≡ put_at 28 (word_bytes r.w7) g
    → h ≡ record_bytes r
unfolding record_bytes
record-put r l n p0 p1 p2 p3 p4 p5 p6 p7 = cc (words-put 0 (record_words r) l n)

pub read_back : ReadBack
unfolding record_bytes record_in
read_back r h = record_same (record_in (record_bytes r)) r (words-read [] (record_words r) h)

pub write-back : WriteBack
unfolding record_bytes record_in
write-back b l h = words-write 0 8 b l h
