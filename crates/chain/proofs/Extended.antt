-- The extended chain: the links that it had, and the one that is written, which is read back.
use mathlib.Core.Path.{◌≡◌, refl, sym, ap, ◌∙◌, subst}
use mathlib.Core.List.{List, [], ◌++◌, append_assoc, append-nil}
use Prim.Native.Nat.{ℕ, suc, ◌+◌, ◌*◌, ◌^◌, ◌<◌}
use native.Mathlib.Omega.{arith}
use borrow.Author.Tests.{ltb-true}
use lib.Dec.{ltb}
use lib.ListN.{length, take, drop, length-append}
use lib.Seq.{take_at, drop_at}
use Rattle.words.specs.Lists.{Below}
use Rattle.words.specs.Checks.{Met}
use Rattle.words.specs.Bytes.{record_words, record_bytes, record_in, record_at}
use Rattle.words.specs.declared.Record.{Record}
use Rattle.words.proofs.Tests.{and-true}
use Rattle.words.proofs.Bytes.{record-length, read_back}
use Rattle.words.proofs.Checks.{if-met, if-unmet, value-exactly, refused-exactly}
use Rattle.words.proofs.Stages.{met-both}
use Rattle.sha256.proofs.Values.{hash-words}
use Rattle.group.specs.Table.{groups_of, table_checks}
use Rattle.chain.specs.Link.{link_layout, link_message, link_digest}
use Rattle.chain.specs.Chain.{links_in, figures_at, digest_at, digest_after, chain_checks, chain_outcome, next_link, next_checks, extend_checks, extend_outcome, lent_link}
use Rattle.chain.specs.Claims.{AcceptedChain, DrawValue, IsChain, ExtendLent, GroupNotHashed}
use Rattle.chain.proofs.Accepted.{draw-value, each_more, LinkAt, accepted-exactly, number_word, value-word, SameLinks, same_after, link-same, same-link, start-links}
use Rattle.std.specs.Prelude.{Ok, Err}
use Rattle.words.specs.declared.refusal.Refusal.{Refusal}

-- ---- what the checks settle
record Extendable (T b : List ℕ) (number v : ℕ) : Type 0 where
  table : Met (table_checks T)
  chain : IsChain (groups_of T) b
  more : links_in b < 1024
  drawn : DrawValue (groups_of T) number v

module _ (T b : List ℕ) (number v : ℕ) (out : List ℕ) (e : extend_outcome T b number v (length out) ≡ Ok tt) where
  met : Met (extend_checks T b number v (length out))
  unfolding extend_outcome
  met = (value-exactly Unit (extend_checks T b number v (length out)) tt).0 e

  extendable : Extendable T b number v
  unfolding extend_checks chain_outcome
  extendable =
      let m = met-both (chain_checks T b) (next_checks (groups_of T) b number v (length out)) met in
      let a = (accepted-exactly T b).0 ((value-exactly Unit (chain_checks T b) tt).1 m.0) in
      record {
        table = a.0;
        chain = a.1;
        more = ltb-true (links_in b) 1024 (and-true (ltb (links_in b) 1024) _ m.1.0).0;
        drawn = draw-value m.1.1;
      }

  lent-next : lent_link T b number v out ≡ next_link b number v
  unfolding lent_link
  lent-next = if-met (next_link b number v) out (extend_checks T b number v (length out)) met

kept : (T b : List ℕ) (number v : ℕ) (out : List ℕ) (k : Refusal) → extend_outcome T b number v (length out) ≡ Err k → lent_link T b number v out ≡ out
unfolding extend_outcome lent_link
kept T b number v out k e =
    let cs = extend_checks T b number v (length out) in
    if-unmet (next_link b number v) out cs k ((refused-exactly Unit cs tt k).0 e)

-- ---- the link that is written
-- a record behind so many others
record-behind : (xs : List ℕ) (k : ℕ) (r : Record) (ys : List ℕ) → length xs ≡ 32 * k → Below (2 ^ 32) (record_words r)
    → record_at (xs ++ (record_bytes r ++ ys)) k ≡ r
unfolding record_at
record-behind xs k r ys e w =
    ap (λ (l : List ℕ). record_in (take 32 l)) (drop_at xs (record_bytes r ++ ys) (32 * k) e)
    ∙ ap record_in (take_at (record_bytes r) ys 32 (record-length r))
    ∙ read_back r w

module _ (T b : List ℕ) (number v : ℕ) (x : Extendable T b number v) where
  abbrev n : ℕ
  n = links_in b

  abbrev whole : List ℕ
  whole = b ++ next_link b number v

  abbrev digest : Record
  digest = link_digest (digest_after b n) v (n + 1)

  size : length b ≡ 64 * n
  size = omega (arith, x.chain.whole)

  next-size : length whole ≡ 64 * (n + 1)
  unfolding next_link
  next-size =
      length-append b (next_link b number v)
      ∙ omega (arith, size, length-append (record_bytes (link_layout (n + 1) v number)) (record_bytes digest), record-length (link_layout (n + 1) v number), record-length digest)

  -- its first links are those of the chain
  first-links : SameLinks b whole n
  first-links =
      let start : take (64 * n) whole ≡ b = take_at b (next_link b number v) (64 * n) size in
      let s = start-links whole n in
      record {
        figures = λ i h. sym (s.figures i h ∙ ap (λ (l : List ℕ). figures_at l i) start);
        digests = λ i h. sym (s.digests i h ∙ ap (λ (l : List ℕ). digest_at l i) start);
      }

  -- the next one reads back
  figures-next : figures_at whole n ≡ link_layout (n + 1) v number
  unfolding next_link
  figures-next =
      let word = value-word T x.table number v x.drawn in
      record-behind b (2 * n) (link_layout (n + 1) v number) (record_bytes digest) (omega (arith, size))
      (omega (arith, x.more), (word, (number_word T x.table number x.drawn.group, (omega arith, (omega arith, (omega arith, (omega arith, (omega arith, tt))))))))

  digest-next : digest_at whole n ≡ digest
  unfolding next_link
  digest-next =
      let figures = record_bytes (link_layout (n + 1) v number) in
      let front : length (b ++ figures) ≡ 32 * (2 * n + 1) = length-append b figures ∙ omega (arith, size, record-length (link_layout (n + 1) v number)) in
      let at : whole ≡ b ++ figures ++ (record_bytes digest ++ []) = sym (append_assoc b figures (record_bytes digest)) ∙ ap (λ (l : List ℕ). b ++ figures ++ l) (sym (append-nil (record_bytes digest))) in
      ap (λ (l : List ℕ). digest_at l n) at ∙ record-behind (b ++ figures) (2 * n + 1) digest [] front (hash-words (link_message (digest_after b n) v (n + 1)))

  next-link : LinkAt (groups_of T) whole n
  next-link =
      link-same (groups_of T) (suc n) (same_after b whole n first-links n (omega arith)) (sym figures-next) (sym digest-next)
      (record { spare = refl; drawn = x.drawn; next = omega arith; hashed = refl })

  extended : AcceptedChain T whole
  extended =
      let count : links_in whole ≡ n + 1 = omega (arith, next-size) in
      (accepted-exactly T whole).1 (
        x.table,
        record {
          whole = omega (arith, next-size);
          most = omega (arith, count, x.more);
          links = λ i h. each_more (LinkAt (groups_of T) whole) n (λ j l. same-link (groups_of T) b whole n first-links j l (x.chain.links j l)) next-link i (omega (arith, count));
        },
      )

-- ---- the claims
pub extend-lent : ExtendLent
extend-lent T b number v out =
    record {
      written = lent-next T b number v out;
      accepted = λ e. subst (λ (l : List ℕ). AcceptedChain T (b ++ l)) (sym (lent-next T b number v out e)) (extended T b number v (extendable T b number v out e));
      kept = kept T b number v out;
    }

second-half : (b : List ℕ) (number v : ℕ) → drop 32 (next_link b number v) ≡ record_bytes (link_digest (digest_after b (links_in b)) v (links_in b + 1))
unfolding next_link
second-half b number v = drop_at (record_bytes (link_layout (links_in b + 1) v number)) _ 32 (record-length (link_layout (links_in b + 1) v number))

pub group-not-hashed : GroupNotHashed
group-not-hashed T T' b number number' v out out' e f =
    ap (drop 32) (lent-next T b number v out e) ∙ second-half b number v
    ∙ sym (ap (drop 32) (lent-next T' b number' v out' f) ∙ second-half b number' v)
