-- Words of 32 bits as four bytes, the most significant first, and records of eight words.
use Rattle.std.specs.Prelude.{Bool, ◌&&◌, List, [], ◌∷◌, ◌++◌, ℕ, ◌+◌, ◌*◌, ◌/◌, ◌%◌, length, get_or, take, drop, eqb}
use Rattle.words.specs.declared.Record.{Record}

-- the word of four bytes
abbrev pub word : ℕ → ℕ → ℕ → ℕ → ℕ
word a b c d = a * 16777216 + b * 65536 + c * 256 + d

-- the word whose first byte stands at k
unfoldable pub word_at : List ℕ → ℕ → ℕ
word_at b k = word (get_or b k 0) (get_or b (k + 1) 0) (get_or b (k + 2) 0) (get_or b (k + 3) 0)

-- the four bytes of a word
unfoldable pub word_bytes : ℕ → List ℕ
word_bytes w = w / 16777216 % 256 ∷ w / 65536 % 256 ∷ w / 256 % 256 ∷ w % 256 ∷ []

-- the bytes of words in order
unfoldable pub words_bytes : List ℕ → List ℕ
words_bytes [] = []
words_bytes (w ∷ ws) = word_bytes w ++ words_bytes ws

-- a number from its bytes, the most significant first, behind the number a
abbrev pub big_endian : ℕ → List ℕ → ℕ
big_endian a [] = a
big_endian a (b ∷ bs) = big_endian (a * 256 + b) bs

-- the list with the bytes bs from the place k on
unfoldable pub put_at : ℕ → List ℕ → List ℕ → List ℕ
put_at k bs l = take k l ++ bs ++ drop (k + length bs) l

-- the words of a record in order
abbrev pub record_words : Record → List ℕ
record_words r = r.w0 ∷ r.w1 ∷ r.w2 ∷ r.w3 ∷ r.w4 ∷ r.w5 ∷ r.w6 ∷ r.w7 ∷ []

-- the 32 bytes of a record
unfoldable pub record_bytes : Record → List ℕ
record_bytes r = words_bytes (record_words r)

-- the record that 32 bytes hold
unfoldable pub record_in : List ℕ → Record
record_in b =
    record { w0 = word_at b 0; w1 = word_at b 4; w2 = word_at b 8; w3 = word_at b 12; w4 = word_at b 16; w5 = word_at b 20; w6 = word_at b 24; w7 = word_at b 28 }

-- how many records bytes hold
abbrev pub records_in : List ℕ → ℕ
records_in b = length b / 32

-- the record number k, from 0, of bytes that hold records
unfoldable pub record_at : List ℕ → ℕ → Record
record_at b k = record_in (take 32 (drop (32 * k) b))

-- two records have the same words
unfoldable pub agrees : Record → Record → Bool
agrees r s =
    eqb r.w0 s.w0
    && (eqb r.w1 s.w1 && (eqb r.w2 s.w2 && (eqb r.w3 s.w3
    && (eqb r.w4 s.w4 && (eqb r.w5 s.w5 && (eqb r.w6 s.w6 && eqb r.w7 s.w7))))))
