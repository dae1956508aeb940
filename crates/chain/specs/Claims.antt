-- What is claimed of chains: which ones are accepted, that an extended chain is, and what two chains have in common that end in one digest.
use Rattle.std.specs.Prelude.{◌≡◌, Bool, true, ◌&&◌, List, [], ◌∷◌, ◌++◌, ◌⊎◌, ◌↔◌, ℕ, zero, suc, ◌*◌, ◌%◌, ◌≤◌, ◌<◌, eqb, length, take, drop, replicate, Ok, Err}
use Rattle.words.specs.Choice.{pick}
use Rattle.words.specs.Checks.{Met}
use Rattle.words.specs.Bytes.{agrees}
use Rattle.words.specs.declared.Record.{Record}
use Rattle.words.specs.declared.refusal.Refusal.{Refusal}
use Rattle.sha256.specs.Hash.{hash}
use Rattle.group.specs.Table.{groups_of, table_checks, is_group, group_of}
use Rattle.group.specs.Element.{is_element}
use Rattle.group.specs.declared.Group.{Group}
use Rattle.chain.specs.Link.{link_layout, link_round, link_value, link_group, link_message, link_digest}
use Rattle.chain.specs.Chain.{links_in, figures_at, digest_at, digest_after, chain_outcome, next_link, extend_outcome, lent_link}

-- ---- accepted chains
-- by the table T
abbrev pub AcceptedChain : List ℕ → List ℕ → Type 0
AcceptedChain T b = chain_outcome T b ≡ Ok tt

-- v is an element of the group of that number, which there is
pub record DrawValue (Gs : List Group) (number v : ℕ) : Type 0 where
  pub group : is_group Gs number ≡ true
  pub element : is_element (group_of Gs number) v ≡ true

-- a link of this round behind this digest: its spare bytes are 0, its draw value is of its group, and its digest is the one worked out
pub record IsLink (Gs : List Group) (before : Record) (round : ℕ) (figures digest : Record) : Type 0 where
  pub spare : figures ≡ link_layout (link_round figures) (link_value figures) (link_group figures)
  pub drawn : DrawValue Gs (link_group figures) (link_value figures)
  pub next : link_round figures ≡ round
  pub hashed : digest ≡ link_digest before (link_value figures) (link_round figures)

-- whole links, at most 1,024, of the rounds 1, 2, 3 and so on, each behind the digest of the one before
pub record IsChain (Gs : List Group) (b : List ℕ) : Type 0 where
  pub whole : length b % 64 ≡ 0
  pub most : links_in b ≤ 1024
  pub links : (i : ℕ) → i < links_in b → IsLink Gs (digest_after b i) (suc i) (figures_at b i) (digest_at b i)

-- by an accepted table these chains are accepted, and no others; by another one none is
abbrev pub AcceptedExactly : Type 0
AcceptedExactly = (T b : List ℕ) → AcceptedChain T b ↔ (Met (table_checks T) × IsChain (groups_of T) b)

-- every start of an accepted chain is accepted
abbrev pub StartsAccepted : Type 0
StartsAccepted = (T b : List ℕ) → AcceptedChain T b → (m : ℕ) → m ≤ links_in b → AcceptedChain T (take (64 * m) b)

-- ---- extending
-- where it passes, the output is the next link, and the chain with it behind is accepted; where it refuses, the output is as it was
pub record Extended (T b : List ℕ) (number v : ℕ) (out : List ℕ) : Type 0 where
  pub written : extend_outcome T b number v (length out) ≡ Ok tt → lent_link T b number v out ≡ next_link b number v
  pub accepted : extend_outcome T b number v (length out) ≡ Ok tt → AcceptedChain T (b ++ lent_link T b number v out)
  pub kept : (k : Refusal) → extend_outcome T b number v (length out) ≡ Err k → lent_link T b number v out ≡ out

abbrev pub ExtendLent : Type 0
ExtendLent = (T b : List ℕ) (number v : ℕ) (out : List ℕ) → Extended T b number v out

-- the group is not in the digest: links by one draw value in two groups, of one table or of two, have one digest
abbrev pub GroupNotHashed : Type 0
GroupNotHashed =
    (T T' b : List ℕ) (number number' v : ℕ) (out out' : List ℕ)
    → extend_outcome T b number v (length out) ≡ Ok tt → extend_outcome T' b number' v (length out') ≡ Ok tt
    → drop 32 (lent_link T b number v out) ≡ drop 32 (lent_link T' b number' v out')

-- ---- the table
-- of an accepted table nothing but its groups enters; so a table of the built-in groups gives the answers of no bytes
pub record ChainByTable (T₁ T₂ b : List ℕ) : Type 0 where
  pub judged : chain_outcome T₁ b ≡ chain_outcome T₂ b
  pub extended : (number v room : ℕ) → extend_outcome T₁ b number v room ≡ extend_outcome T₂ b number v room
  pub lent : (number v : ℕ) (out : List ℕ) → lent_link T₁ b number v out ≡ lent_link T₂ b number v out

abbrev pub ChainByGroups : Type 0
ChainByGroups =
    (T₁ T₂ b : List ℕ) → Met (table_checks T₁) → Met (table_checks T₂) → groups_of T₁ ≡ groups_of T₂ → ChainByTable T₁ T₂ b

-- ---- worked example
-- the first link by the draw value 4 in the built-in group 1, byte by byte; group 2 has this value too
pub record FirstLink : Type 0 where
  pub passed : extend_outcome [] [] 1 4 64 ≡ Ok tt
  pub passed-too : extend_outcome [] [] 2 4 64 ≡ Ok tt
  pub bytes : next_link [] 1 4
      ≡ 0 ∷ 0 ∷ 0 ∷ 1 ∷ 0 ∷ 0 ∷ 0 ∷ 4 ∷ 0 ∷ 0 ∷ 0 ∷ 1 ∷ (replicate 20 0
      ++ (0x7b ∷ 0xb2 ∷ 0xaa ∷ 0x9c ∷ 0x3a ∷ 0x5e ∷ 0x60 ∷ 0x98 ∷ 0xdc ∷ 0xe7 ∷ 0x38 ∷ 0x5b ∷ 0x89 ∷ 0x62 ∷ 0xc1 ∷ 0x25
      ∷ 0x17 ∷ 0x24 ∷ 0x95 ∷ 0x67 ∷ 0x0f ∷ 0x40 ∷ 0x21 ∷ 0xb9 ∷ 0x68 ∷ 0xe8 ∷ 0x00 ∷ 0xd1 ∷ 0x3e ∷ 0x9c ∷ 0x7e ∷ 0x72 ∷ []))

-- ---- two chains
abbrev pub round_at : List ℕ → ℕ → ℕ
round_at b i = link_round (figures_at b i)

abbrev pub drawn_at : List ℕ → ℕ → ℕ
drawn_at b i = link_value (figures_at b i)

-- what the link i hashes
abbrev pub message_at : List ℕ → ℕ → List ℕ
message_at b i = link_message (digest_after b i) (drawn_at b i) (round_at b i)

-- the first m links have the same rounds and draw values; of groups nothing is said
abbrev pub SameDraws : List ℕ → List ℕ → ℕ → Type 0
SameDraws b c m = (i : ℕ) → i < m → (round_at b i ≡ round_at c i) × (drawn_at b i ≡ drawn_at c i)

-- the link i of one chain and the link j of another hash two different messages to one digest
pub record Collision (b : List ℕ) (i : ℕ) (c : List ℕ) (j : ℕ) : Type 0 where
  pub different : message_at b i ≡ message_at c j → ⊥
  pub one-digest : hash (message_at b i) ≡ hash (message_at c j)

-- the two links i hash the same figures
abbrev pub hash_alike : List ℕ → List ℕ → ℕ → Bool
hash_alike b c i =
    agrees (digest_after b i) (digest_after c i) && (eqb (drawn_at b i) (drawn_at c i) && eqb (round_at b i) (round_at c i))

-- the place of the last two, among the first m, that do not; 0 where all do
abbrev pub last_apart : List ℕ → List ℕ → ℕ → ℕ
last_apart b c zero = 0
last_apart b c (suc m) = pick (hash_alike b c m) (last_apart b c m) m

-- the two links at one place, among the first m, collide
abbrev pub CollisionAt : List ℕ → List ℕ → ℕ → ℕ → Type 0
CollisionAt b c m i = (i < m) × Collision b i c i

-- accepted chains, by one table or by two, with one digest behind m links have the same m rounds and draw values, or the last two links
-- apart collide
abbrev pub KeptDigest : Type 0
KeptDigest =
    (T T' b c : List ℕ) → AcceptedChain T b → AcceptedChain T' c → (m : ℕ) → m ≤ links_in b → m ≤ links_in c → digest_after b m ≡ digest_after c m
    → SameDraws b c m ⊎ CollisionAt b c m (last_apart b c m)

-- the same of the last digests of two accepted chains of equal length
abbrev pub LastDigests : Type 0
LastDigests =
    (T T' b c : List ℕ) → AcceptedChain T b → AcceptedChain T' c → length b ≡ length c → digest_after b (links_in b) ≡ digest_after c (links_in c)
    → SameDraws b c (links_in b) ⊎ CollisionAt b c (links_in b) (last_apart b c (links_in b))

-- links of two rounds with one digest collide: so who keeps a digest need not keep its round
abbrev pub OneRound : Type 0
OneRound =
    (T T' b c : List ℕ) → AcceptedChain T b → AcceptedChain T' c → (i j : ℕ) → i < links_in b → j < links_in c → (i ≡ j → ⊥) → digest_at b i ≡ digest_at c j
    → Collision b i c j
