-- What is hashed for a link, and a link itself, as they are written: a record, and bytes over all that stands behind it.
use mathlib.Core.Path.{◌≡◌, sym, ap, ◌∙◌}
use mathlib.Core.List.{List, [], ◌++◌, append-nil}
use Prim.Native.Nat.{ℕ, ◌+◌, ◌-◌, ◌≤◌}
use native.Mathlib.Omega.{arith}
use borrow.Rule.Slice.PartMut.{put_mid}
use lib.ListN.{length, drop, replicate, length-append, length-drop}
use lib.Seq.{take_at, drop-append-add, drop-length}
use Rattle.words.specs.Bytes.{word_bytes, words_bytes, put_at, record_bytes}
use Rattle.words.specs.declared.Record.{Record}
use Rattle.words.proofs.Bytes.{record-length, put_back, put-put}
use Rattle.chain.specs.Link.{link_message}

-- bytes put over the list ys, which is as long
put-behind : (k : ℕ) (xs ys bs : List ℕ) → length xs ≡ k → length ys ≡ length bs → put_at k bs (xs ++ ys) ≡ xs ++ bs
unfolding put_at
put-behind k xs ys bs e f =
    let none : drop (length bs) ys ≡ [] = ap (λ (n : ℕ). drop n ys) (sym f) ∙ drop-length ys in
    (λ j. take_at xs ys k e j ++ bs ++ drop (sym e j + length bs) (xs ++ ys))
    ∙ ap (λ (r : List ℕ). xs ++ bs ++ r) (drop-append-add xs ys (length bs) ∙ none)
    ∙ append-nil (xs ++ bs)

module _ (r : Record) {l : List ℕ} (e : l ≡ record_bytes r) where
  size : length l ≡ 32
  size = ap (λ (x : List ℕ). length x) e ∙ record-length r

  pub message-length : length (l ++ replicate 8 0) ≡ 40
  message-length = length-append l (replicate 8 0) ∙ omega (arith, size)

  -- the record, and two words over 8 bytes behind it
  pub message-put : (v round : ℕ) {m n : List ℕ} → m ≡ put_at 32 (word_bytes v) (l ++ replicate 8 0) → n ≡ put_at 36 (word_bytes round) m
      → n ≡ link_message r v round
  unfolding link_message words_bytes word_bytes
  message-put v round {m} {n} f g =
      let room : 36 ≤ length (l ++ replicate 8 0) = omega (arith, message-length) in
      g
      ∙ ap (put_at 36 (word_bytes round)) f
      ∙ put-put 32 36 (word_bytes v) (word_bytes round) (l ++ replicate 8 0) (omega arith) room
      ∙ put-behind 32 l (replicate 8 0) (word_bytes v ++ word_bytes round) size (omega arith)
      ∙ ap (λ (x : List ℕ). x ++ (word_bytes v ++ word_bytes round)) e

  -- the record, and another over the second half of 64 bytes
  pub link-put : (s : Record) (out : List ℕ) {d : List ℕ} → length out ≡ 64 → d ≡ record_bytes s
      → put_mid 32 (length (l ++ drop 32 out) - 32) (l ++ drop 32 out) d ≡ record_bytes r ++ record_bytes s
  link-put s out {d} h f =
      let behind : length (drop 32 out) ≡ length d = length-drop 32 out ∙ omega (arith, h, ap (λ (x : List ℕ). length x) f, record-length s) in
      let room : length (l ++ drop 32 out) - 32 ≡ length d = omega (arith, length-append l (drop 32 out), size, behind) in
      ap (λ (n : ℕ). put_mid 32 n (l ++ drop 32 out) d) room
      ∙ put_back 32 d (l ++ drop 32 out)
      ∙ put-behind 32 l (drop 32 out) d size behind
      ∙ (λ j. e j ++ f j)
