-- Which chains are accepted. What a link is judged by are the records up to it, so chains with the same first records have the same links.
use mathlib.Core.Path.{◌≡◌, refl, sym, ap, subst}
use mathlib.Core.Bool.{Bool, true, false}
use mathlib.Core.List.{List, ◌++◌}
use Prim.Native.Nat.{ℕ, zero, suc, ◌+◌, ◌*◌, ◌%◌, ◌^◌, ◌≤◌, ◌<◌}
use native.Mathlib.Nat.{le_of_suc-le-suc, not-suc-le-zero}
use native.Mathlib.Omega.{arith}
use borrow.Author.Tests.{leb-true, le-leb, ltb-true, ltb-false, eqb-true, eq-eqb}
use lib.Dec.{ltb, eqb}
use lib.ListN.{length, take}
use lib.Seq.{length-take-le}
use Rattle.words.specs.Lists.{Below}
use Rattle.words.specs.Checks.{Check, Met}
use Rattle.words.specs.Bytes.{record_words, record_in, record_at}
use Rattle.words.specs.declared.Record.{Record}
use Rattle.words.proofs.Lists.{part-part}
use Rattle.words.proofs.Records.{agrees-exactly}
use Rattle.words.proofs.Tests.{and-true, true-and}
use Rattle.words.proofs.Checks.{value-exactly}
use Rattle.words.proofs.Stages.{both-met, met-both}
use Rattle.sha256.proofs.Values.{hash-words}
use Rattle.group.specs.Table.{groups_of, table_checks, is_group, group_of}
use Rattle.group.specs.declared.Group.{Group}
use Rattle.group.proofs.Table.{group-sound, number-low}
use Rattle.group.proofs.Elements.{element-true}
use Rattle.chain.specs.Link.{link_round, link_value, link_group, link_message, value_checks, place_checks, link_checks}
use Rattle.chain.specs.Chain.{links_in, figures_at, digest_at, digest_after, links_checks, linked_checks, chain_checks, chain_outcome}
use Rattle.chain.specs.Claims.{DrawValue, IsLink, IsChain, AcceptedExactly, StartsAccepted}
use Rattle.chain.proofs.Steps.{checks_at}

-- ---- a draw value
module _ {Gs : List Group} {number v : ℕ} where
  pub draw-value : Met (value_checks Gs number v) → DrawValue Gs number v
  draw-value m = record { group = m.0; element = m.1.0 }

  value-met : DrawValue Gs number v → Met (value_checks Gs number v)
  value-met d = (d.group, (d.element, tt))

-- ---- one link
module _ {Gs : List Group} {before : Record} {round : ℕ} {figures digest : Record} where
  is-link : Met (link_checks Gs before round figures digest) → IsLink Gs before round figures digest
  is-link m =
      let s = met-both (value_checks Gs (link_group figures) (link_value figures)) (place_checks before round figures digest) m.1 in
      record {
        spare = (agrees-exactly figures _).0 m.0;
        drawn = draw-value s.0;
        next = eqb-true (link_round figures) round s.1.0;
        hashed = (agrees-exactly digest _).0 s.1.1.0;
      }

  link-met : IsLink Gs before round figures digest → Met (link_checks Gs before round figures digest)
  link-met l =
      let place : Met (place_checks before round figures digest) = (eq-eqb (link_round figures) round l.next, ((agrees-exactly digest _).1 l.hashed, tt)) in
      ((agrees-exactly figures _).1 l.spare, both-met (value_checks Gs (link_group figures) (link_value figures)) (place_checks before round figures digest) (value-met l.drawn) place)

-- ---- every link
-- a fact of each number below n, and of n
pub each_more : (P : ℕ → Type 0) (n : ℕ) → ((i : ℕ) → i < n → P i) → P n → (i : ℕ) → i < suc n → P i
each_more P n f p i h = by-test (ltb i n) refl
  where
    by-test : (t : Bool) → ltb i n ≡ t → P i
    by-test true e = f i (ltb-true i n e)
    by-test false e = let at : n ≡ i = omega (arith, ltb-false i n e) in subst P at p

abbrev pub LinkAt : List Group → List ℕ → ℕ → Type 0
LinkAt Gs b i = IsLink Gs (digest_after b i) (suc i) (figures_at b i) (digest_at b i)

module _ (Gs : List Group) (b : List ℕ) where
  links-each : (i m : ℕ) → Met (links_checks Gs b i m) → (j : ℕ) → j < m → LinkAt Gs b (j + i)
  links-each i zero a j h = absurd (not-suc-le-zero h)
  links-each i (suc m) a zero h =
      let e : i ≡ 0 + i = omega arith in
      subst (LinkAt Gs b) e (is-link (met-both (checks_at Gs b i) (links_checks Gs b (suc i) m) a).0)
  links-each i (suc m) a (suc j) h =
      let e : j + suc i ≡ suc j + i = omega arith in
      subst (LinkAt Gs b) e (links-each (suc i) m (met-both (checks_at Gs b i) (links_checks Gs b (suc i) m) a).1 j (le_of_suc-le-suc h))

  each-links : (i m : ℕ) → ((j : ℕ) → j < m → LinkAt Gs b (j + i)) → Met (links_checks Gs b i m)
  each-links i zero f = tt
  each-links i (suc m) f =
      let e : 0 + i ≡ i = omega arith in
      let next : (j : ℕ) → suc j + i ≡ j + suc i = λ j. omega arith in
      both-met (checks_at Gs b i) (links_checks Gs b (suc i) m) (link-met (subst (LinkAt Gs b) e (f 0 (omega arith))))
      (each-links (suc i) m (λ j h. subst (LinkAt Gs b) (next j) (f (suc j) (omega arith))))

  at : (i : ℕ) → i + 0 ≡ i
  at i = omega arith

  is-chain : Met (linked_checks Gs b) → IsChain Gs b
  unfolding linked_checks
  is-chain m =
      let s = and-true (eqb (length b % 64) 0) _ m.0 in
      record {
        whole = eqb-true (length b % 64) 0 s.0;
        most = leb-true (links_in b) 1024 s.1;
        links = λ i h. subst (LinkAt Gs b) (at i) (links-each 0 (links_in b) m.1 i h);
      }

  chain-met : IsChain Gs b → Met (linked_checks Gs b)
  unfolding linked_checks
  chain-met c = (
    true-and _ _ (eq-eqb (length b % 64) 0 c.whole) (le-leb (links_in b) 1024 c.most),
    each-links 0 (links_in b) (λ i h. subst (LinkAt Gs b) (sym (at i)) (c.links i h)),
  )

pub accepted-exactly : AcceptedExactly
unfolding chain_outcome chain_checks
accepted-exactly T b =
    let own : List Check = linked_checks (groups_of T) b in (
      λ e.
          let m = met-both (table_checks T) own ((value-exactly Unit (table_checks T ++ own) tt).0 e) in
          (m.0, is-chain (groups_of T) b m.1),
      λ c. (value-exactly Unit (table_checks T ++ own) tt).1 (both-met (table_checks T) own c.0 (chain-met (groups_of T) b c.1)),
    )

-- ---- figures of a link are words
module _ (T : List ℕ) (m : Met (table_checks T)) (k : ℕ) where
  pub number_word : is_group (groups_of T) k ≡ true → k < 2 ^ 32
  number_word e = omega (arith, number-low T m k e)

  pub value-word : (v : ℕ) → DrawValue (groups_of T) k v → v < 2 ^ 32
  value-word v d = omega (arith, (element-true (group_of (groups_of T) k) v d.element).low, (group-sound T m k d.group).p-word)

-- and so are the words of a digest
pub digest-words : (Gs : List Group) (b : List ℕ) → IsChain Gs b → (i : ℕ) → i ≤ links_in b → Below (2 ^ 32) (record_words (digest_after b i))
unfolding digest_after
digest-words Gs b c zero h =
    (omega arith, (omega arith, (omega arith, (omega arith, (omega arith, (omega arith, (omega arith, (omega arith, tt))))))))
digest-words Gs b c (suc i) h =
    let l = c.links i h in
    subst (λ (r : Record). Below (2 ^ 32) (record_words r)) (sym l.hashed) (hash-words (link_message (digest_after b i) (link_value (figures_at b i)) (link_round (figures_at b i))))

-- ---- chains whose first m links have the same records
pub record SameLinks (b c : List ℕ) (m : ℕ) : Type 0 where
  pub figures : (i : ℕ) → i < m → figures_at b i ≡ figures_at c i
  pub digests : (i : ℕ) → i < m → digest_at b i ≡ digest_at c i

pub same_after : (b c : List ℕ) (m : ℕ) → SameLinks b c m → (i : ℕ) → i ≤ m → digest_after b i ≡ digest_after c i
unfolding digest_after
same_after b c m s zero h = refl
same_after b c m s (suc i) h = s.digests i h

pub link-same : (Gs : List Group) {before before' : Record} (round : ℕ) {figures figures' digest digest' : Record} → before ≡ before' → figures ≡ figures'
    → digest ≡ digest' → IsLink Gs before round figures digest → IsLink Gs before' round figures' digest'
link-same Gs {before} {before'} round {figures} {figures'} {digest} {digest'} d f e l =
    subst (λ (r : Record). IsLink Gs before' round figures' r) e
    (subst (λ (r : Record). IsLink Gs before' round r digest) f (subst (λ (r : Record). IsLink Gs r round figures digest) d l))

pub same-link : (Gs : List Group) (b c : List ℕ) (m : ℕ) → SameLinks b c m → (i : ℕ) → i < m → LinkAt Gs b i → LinkAt Gs c i
same-link Gs b c m s i h l = link-same Gs (suc i) (same_after b c m s i (omega arith)) (s.figures i h) (s.digests i h) l

-- a start has the records of the whole
start-record : (b : List ℕ) (n k : ℕ) → 32 * k + 32 ≤ n → record_at b k ≡ record_at (take n b) k
unfolding record_at
start-record b n k h = ap record_in (sym (part-part 32 (32 * k) n b h))

pub start-links : (b : List ℕ) (m : ℕ) → SameLinks b (take (64 * m) b) m
start-links b m =
    record {
      figures = λ i h. start-record b (64 * m) (2 * i) (omega arith);
      digests = λ i h. start-record b (64 * m) (2 * i + 1) (omega arith);
    }

pub starts-accepted : StartsAccepted
starts-accepted T b e m h =
    let c = ((accepted-exactly T b).0 e).1 in
    let size : length (take (64 * m) b) ≡ 64 * m = length-take-le (64 * m) b (omega arith) in
    let count : links_in (take (64 * m) b) ≡ m = omega (arith, size) in
    (accepted-exactly T (take (64 * m) b)).1 (
      ((accepted-exactly T b).0 e).0,
      record {
        whole = omega (arith, size);
        most = omega (arith, count, c.most);
        links = λ i l. same-link (groups_of T) b (take (64 * m) b) m (start-links b m) i (omega (arith, count)) (c.links i (omega (arith, count)));
      },
    )
