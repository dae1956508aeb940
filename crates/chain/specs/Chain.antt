-- The chain: its links one after the other, what judging it answers, and the link that extends it.
use Rattle.std.specs.Prelude.{◌&&◌, List, [], ◌∷◌, ◌++◌, ℕ, zero, suc, ◌+◌, ◌*◌, ◌/◌, ◌%◌, leb, ltb, eqb, length}
use Rattle.words.specs.Checks.{Check, ◌unless◌, Outcome, outcome, if_met}
use Rattle.words.specs.Bytes.{record_bytes, record_at}
use Rattle.words.specs.declared.Record.{Record}
use Rattle.group.specs.Table.{groups_of, table_checks}
use Rattle.group.specs.declared.Group.{Group}
use Rattle.chain.specs.Link.{link_layout, no_digest, link_digest, value_checks, link_checks}
use Rattle.words.specs.declared.refusal.Refusal.TheVariants.{BadLength}

-- ---- links by number, from 0
abbrev pub links_in : List ℕ → ℕ
links_in b = length b / 64

abbrev pub figures_at : List ℕ → ℕ → Record
figures_at b i = record_at b (2 * i)

abbrev pub digest_at : List ℕ → ℕ → Record
digest_at b i = record_at b (2 * i + 1)

-- the digest behind the first i links
unfoldable pub digest_after : List ℕ → ℕ → Record
digest_after b zero = no_digest
digest_after b (suc i) = digest_at b i

-- ---- judging
-- link by link, for m links from the link i on, whose round is i + 1
abbrev pub links_checks : List Group → List ℕ → ℕ → ℕ → List Check
links_checks Gs b i zero = []
links_checks Gs b i (suc m) = link_checks Gs (digest_after b i) (suc i) (figures_at b i) (digest_at b i) ++ links_checks Gs b (suc i) m

-- whole links, at most 1,024, and each of them, among the groups of an accepted table
unfoldable pub linked_checks : List Group → List ℕ → List Check
linked_checks Gs b = BadLength unless (eqb (length b % 64) 0 && leb (links_in b) 1024) ∷ links_checks Gs b 0 (links_in b)

-- the table T comes first
unfoldable pub chain_checks : List ℕ → List ℕ → List Check
chain_checks T b = table_checks T ++ linked_checks (groups_of T) b

unfoldable pub chain_outcome : List ℕ → List ℕ → Outcome (Unit {0})
chain_outcome T b = outcome (chain_checks T b) tt

-- ---- extending by the draw value v in the group of that number
-- the bytes of the next link
unfoldable pub next_link : List ℕ → ℕ → ℕ → List ℕ
next_link b number v =
    record_bytes (link_layout (links_in b + 1) v number) ++ record_bytes (link_digest (digest_after b (links_in b)) v (links_in b + 1))

-- what is asked beside the chain: that it is not full, room for one link, and a draw value of the group
abbrev pub next_checks : List Group → List ℕ → ℕ → ℕ → ℕ → List Check
next_checks Gs b number v room = BadLength unless (ltb (links_in b) 1024 && eqb room 64) ∷ value_checks Gs number v

-- the table and the chain are judged first
unfoldable pub extend_checks : List ℕ → List ℕ → ℕ → ℕ → ℕ → List Check
extend_checks T b number v room = chain_checks T b ++ next_checks (groups_of T) b number v room

unfoldable pub extend_outcome : List ℕ → List ℕ → ℕ → ℕ → ℕ → Outcome (Unit {0})
extend_outcome T b number v room = outcome (extend_checks T b number v room) tt

-- the lent output afterwards
unfoldable pub lent_link : List ℕ → List ℕ → ℕ → ℕ → List ℕ → List ℕ
lent_link T b number v out = if_met (extend_checks T b number v (length out)) (next_link b number v) out
