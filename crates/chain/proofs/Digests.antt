-- Two accepted chains with one digest behind m links, by induction on m from the last of them to the first: as long as two links hash the
-- same figures, the digests before them are equal too.
use mathlib.Core.Path.{◌≡◌, refl, sym, ap, ◌∙◌, subst}
use mathlib.Core.Bool.{Bool, true, false}
use mathlib.Core.List.{List, [], ◌∷◌, ◌++◌}
use mathlib.Core.Logic.{◌⊎◌, inl, inr, ⊎_elim}
use Prim.Native.Nat.{ℕ, zero, suc, ◌^◌, ◌≤◌, ◌<◌}
use native.Mathlib.Nat.{not-suc-le-zero}
use native.Mathlib.Omega.{arith}
use lib.ListN.{take, drop}
use lib.Seq.{take_at, drop_at}
use Rattle.words.specs.Lists.{Below}
use Rattle.words.specs.Checks.{Met}
use Rattle.words.specs.Bytes.{word_at, word_bytes, words_bytes, record_words, record_bytes, record_in, agrees}
use Rattle.words.specs.declared.Record.{Record}
use Rattle.words.proofs.Tests.{false-true, and-true, true-and, equal-true, true-equal, pick_true, pick-false}
use Rattle.words.proofs.Records.{agrees-exactly}
use Rattle.words.proofs.Bytes.{record-length, word-append, word_back, read_back}
use Rattle.sha256.specs.Hash.{hash}
use Rattle.group.specs.Table.{groups_of, table_checks}
use Rattle.chain.specs.Link.{link_message}
use Rattle.chain.specs.Chain.{links_in, digest_at, digest_after}
use Rattle.chain.specs.Claims.{IsChain, round_at, drawn_at, message_at, SameDraws, Collision, hash_alike, last_apart, CollisionAt, KeptDigest, LastDigests, OneRound}
use Rattle.chain.proofs.Accepted.{each_more, accepted-exactly, value-word, digest-words}

-- ---- what two equal messages tell
-- the second of two words
second_word : (v w : ℕ) → w < 2 ^ 32 → word_at (words_bytes (v ∷ w ∷ [])) 4 ≡ w
unfolding words_bytes word_bytes
second_word v w h = word-append (word_bytes v) (word_bytes w ++ []) 0 ∙ word_back w [] h

module _ (b : List ℕ) (i : ℕ) (c : List ℕ) (j : ℕ) (e : message_at b i ≡ message_at c j) where
  abbrev d : Record
  d = digest_after b i

  abbrev d' : Record
  d' = digest_after c j

  figures-same : words_bytes (drawn_at b i ∷ round_at b i ∷ []) ≡ words_bytes (drawn_at c j ∷ round_at c j ∷ [])
  unfolding link_message
  figures-same = sym (drop_at (record_bytes d) _ 32 (record-length d)) ∙ ap (drop 32) e ∙ drop_at (record_bytes d') _ 32 (record-length d')

  before_same : Below (2 ^ 32) (record_words d) → Below (2 ^ 32) (record_words d') → d ≡ d'
  unfolding link_message
  before_same h l =
      let front = sym (take_at (record_bytes d) _ 32 (record-length d)) ∙ ap (take 32) e ∙ take_at (record_bytes d') _ 32 (record-length d') in
      sym (read_back d h) ∙ ap record_in front ∙ read_back d' l

  value_same : drawn_at b i < 2 ^ 32 → drawn_at c j < 2 ^ 32 → drawn_at b i ≡ drawn_at c j
  unfolding words_bytes
  value_same h l = sym (word_back (drawn_at b i) _ h) ∙ ap (λ (bs : List ℕ). word_at bs 0) figures-same ∙ word_back (drawn_at c j) _ l

  round_same : round_at b i < 2 ^ 32 → round_at c j < 2 ^ 32 → round_at b i ≡ round_at c j
  round_same h l = sym (second_word (drawn_at b i) (round_at b i) h) ∙ ap (λ (bs : List ℕ). word_at bs 4) figures-same ∙ second_word (drawn_at c j) (round_at c j) l

-- ---- two chains
abbrev SameDraw : List ℕ → List ℕ → ℕ → Type 0
SameDraw b c i = (round_at b i ≡ round_at c i) × (drawn_at b i ≡ drawn_at c i)

module _ (T T' b c : List ℕ) (t : Met (table_checks T)) (t' : Met (table_checks T')) (B : IsChain (groups_of T) b) (C : IsChain (groups_of T') c) where
  -- links that hash the same message hash the same figures
  alike : (i : ℕ) → i < links_in b → i < links_in c → message_at b i ≡ message_at c i → hash_alike b c i ≡ true
  alike i h l e =
      let r = B.links i h in
      let s = C.links i l in
      let before = before_same b i c i e (digest-words (groups_of T) b B i (omega arith)) (digest-words (groups_of T') c C i (omega arith)) in
      let v = value_same b i c i e (value-word T t _ (drawn_at b i) r.drawn) (value-word T' t' _ (drawn_at c i) s.drawn) in
      true-and _ _ ((agrees-exactly (digest_after b i) (digest_after c i)).1 before)
      (true-equal (drawn_at b i) (drawn_at c i) (round_at b i) (round_at c i) v (r.next ∙ sym s.next))

  -- one digest of two messages
  collision : (i j : ℕ) → i < links_in b → j < links_in c → digest_at b i ≡ digest_at c j → (message_at b i ≡ message_at c j → ⊥) → Collision b i c j
  unfolding hash
  collision i j h l e n = record { different = n; one-digest = ap record_bytes (sym (B.links i h).hashed ∙ e ∙ (C.links j l).hashed) }

  rounds-apart : (i j : ℕ) → i < links_in b → j < links_in c → (i ≡ j → ⊥) → message_at b i ≡ message_at c j → ⊥
  rounds-apart i j h l n e =
      let r = (B.links i h).next in
      let s = (C.links j l).next in
      n (omega (arith, r, s, round_same b i c j e (omega (arith, r, B.most)) (omega (arith, s, C.most))))

  abbrev Claimed : ℕ → Type 0
  Claimed m = SameDraws b c m ⊎ CollisionAt b c m (last_apart b c m)

  -- the last of the links, where the digests are equal
  module _ (m : ℕ) (h : m < links_in b) (l : m < links_in c) where
    -- it hashes the same: then those before it decide
    agreed : hash_alike b c m ≡ true → Claimed m → Claimed (suc m)
    agreed t s =
        let draw = equal-true (drawn_at b m) (drawn_at c m) (round_at b m) (round_at c m) (and-true (agrees (digest_after b m) (digest_after c m)) _ t).1 in
        ⊎_elim
        (λ f. inl (each_more (SameDraw b c) m f (draw.1, draw.0)))
        (λ k. inr (subst (CollisionAt b c (suc m)) (sym (pick_true _ _ m t)) (omega (arith, k.0), k.1)))
        s

    -- it does not: then it is the place
    apart : hash_alike b c m ≡ false → digest_at b m ≡ digest_at c m → Claimed (suc m)
    apart t e =
        inr (subst (CollisionAt b c (suc m)) (sym (pick-false _ (last_apart b c m) m t)) (omega arith, collision m m h l e (λ q. false-true (sym t ∙ alike m h l q))))

    either : (digest_after b m ≡ digest_after c m → Claimed m) → digest_at b m ≡ digest_at c m → Claimed (suc m)
    either f e = by-test (hash_alike b c m) refl
      where
        by-test : (t : Bool) → hash_alike b c m ≡ t → Claimed (suc m)
        by-test true t = agreed t (f ((agrees-exactly (digest_after b m) (digest_after c m)).0 (and-true (agrees (digest_after b m) (digest_after c m)) _ t).0))
        by-test false t = apart t e

  kept : (m : ℕ) → m ≤ links_in b → m ≤ links_in c → digest_after b m ≡ digest_after c m → Claimed m
  unfolding digest_after
  kept zero h l e = inl (λ i n. absurd (not-suc-le-zero n))
  kept (suc m) h l e = either m h l (kept m (omega arith) (omega arith)) e

-- ---- the claims
pub kept-digest : KeptDigest
kept-digest T T' b c e f =
    let B = (accepted-exactly T b).0 e in
    let C = (accepted-exactly T' c).0 f in
    kept T T' b c B.0 C.0 B.1 C.1

pub last-digests : LastDigests
last-digests T T' b c e f l d =
    let size : links_in c ≡ links_in b = omega (arith, l) in
    kept-digest T T' b c e f (links_in b) (omega arith) (omega (arith, size)) (d ∙ ap (digest_after c) size)

pub one-round : OneRound
one-round T T' b c e f i j h l n d =
    let B = (accepted-exactly T b).0 e in
    let C = (accepted-exactly T' c).0 f in
    collision T T' b c B.0 C.0 B.1 C.1 i j h l d (rounds-apart T T' b c B.0 C.0 B.1 C.1 i j h l n)
