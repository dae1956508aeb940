-- Tables of groups: the built-in groups, the records of groups.tab, what is asked of them, the group of a number, and what an operation
-- does by a table and a number.
use Rattle.std.specs.Prelude.{Bool, not, ◌&&◌, List, [], ◌∷◌, ◌++◌, ℕ, suc, ◌-◌, ◌%◌, ◌^◌, leb, ltb, eqb, length, get_or}
use Rattle.words.specs.Lists.{map, all, up_from}
use Rattle.words.specs.Checks.{Check, ◌unless◌, Outcome, outcome, if_met}
use Rattle.words.specs.Bytes.{records_in, record_at, agrees}
use Rattle.words.specs.declared.Record.{Record}
use Rattle.field.specs.Prime.{is_prime}
use Rattle.group.specs.Element.{is_generator}
use Rattle.group.specs.declared.Group.{Group}
use Rattle.words.specs.declared.refusal.Refusal.TheVariants.{UnknownGroup, BadLength, BadForm, NotPrime, NoGenerator}

-- a group by its modulus, its order and its two generators
abbrev pub group : ℕ → ℕ → ℕ → ℕ → Group
group p q g h = record { p = p; q = q; g = record { 0 = g }; h = record { 0 = h } }

-- the built-in groups
abbrev pub built_in : List Group
built_in = group 23 11 4 9 ∷ group 2039 1019 4 9 ∷ group 4294967087 2147483543 4 9 ∷ []

-- ---- groups.tab: a record to each group
abbrev pub group_kind : ℕ
group_kind = 7

-- a group's number, p, q, g and h
abbrev pub group_layout : ℕ → ℕ → ℕ → ℕ → ℕ → Record
group_layout number p q g h = record { w0 = group_kind; w1 = number; w2 = p; w3 = q; w4 = g; w5 = h; w6 = 0; w7 = 0 }

-- form: a record agrees with the layout of its own figures, under this number
abbrev pub is_group_record : ℕ → Record → Bool
is_group_record number r = agrees r (group_layout number r.w2 r.w3 r.w4 r.w5)

-- the group in the record number i, from 0
unfoldable pub group_at : List ℕ → ℕ → Group
group_at T i = let r = record_at T i in group r.w2 r.w3 r.w4 r.w5

-- the groups of n records from the record i on
abbrev pub groups_from : List ℕ → ℕ → ℕ → List Group
groups_from T i n = map (group_at T) (up_from i n)

-- the groups of a table: no bytes stand for the built-in ones
unfoldable pub groups_of : List ℕ → List Group
groups_of [] = built_in
groups_of (b ∷ bs) = groups_from (b ∷ bs) 0 (records_in (b ∷ bs))

-- ---- what is asked of a table
-- q an odd prime, p a prime, and q divides p - 1; p is below 2 to the power 32, as all that four bytes hold
unfoldable pub has_primes : Group → Bool
has_primes G =
    eqb (G.q % 2) 1 && (is_prime G.q && (is_prime G.p && (ltb G.p (2 ^ 32) && eqb ((G.p - 1) % G.q) 0)))

-- g and h distinct elements other than 1
unfoldable pub has_generators : Group → Bool
has_generators G = is_generator G G.g.0 && (is_generator G G.h.0 && not (eqb G.g.0 G.h.0))

-- group by group
abbrev pub groups_checks : List Group → List Check
groups_checks [] = []
groups_checks (G ∷ Gs) = NotPrime unless has_primes G ∷ NoGenerator unless has_generators G ∷ groups_checks Gs

-- the form of n records from the record i on, whose number is i + 1
abbrev pub are_groups : List ℕ → ℕ → ℕ → Bool
are_groups T i n = all (λ j. is_group_record (suc j) (record_at T j)) (up_from i n)

-- whole records, at most 8, numbered 1 upwards without gaps, and each of their groups
unfoldable pub table_checks : List ℕ → List Check
table_checks T =
    BadLength unless (eqb (length T % 32) 0 && leb (records_in T) 8)
    ∷ BadForm unless are_groups T 0 (records_in T)
    ∷ groups_checks (groups_from T 0 (records_in T))

-- ---- the group of a number, from 1
unfoldable pub is_group : List Group → ℕ → Bool
is_group Gs k = leb 1 k && leb k (length Gs)

-- where there is none of that number, figures of no group
unfoldable pub group_of : List Group → ℕ → Group
group_of Gs k = get_or Gs (k - 1) (group 0 0 0 0)

-- the group of a number among groups, or 1 where it has none
abbrev pub looked_up : List Group → ℕ → Outcome Group
looked_up Gs k = outcome (UnknownGroup unless is_group Gs k ∷ []) (group_of Gs k)

-- ---- what an operation does by a table and a number: the table comes first, then 1, then the checks of the group
unfoldable pub group_checks : List ℕ → ℕ → List Check
group_checks T k = table_checks T ++ (UnknownGroup unless is_group (groups_of T) k ∷ [])

abbrev pub group_outcome : List ℕ → ℕ → Outcome Group
group_outcome T k = outcome (group_checks T k) (group_of (groups_of T) k)

-- its answer
unfoldable pub in_group : {A : Type 0} → List ℕ → ℕ → (Group → List Check) → (Group → A) → Outcome A
in_group T k checks answer = let G = group_of (groups_of T) k in outcome (group_checks T k ++ checks G) (answer G)

-- a lent list afterwards
unfoldable pub in_group_else : {A : Type 0} → List ℕ → ℕ → (Group → List Check) → (Group → A) → A → A
in_group_else T k checks new old = let G = group_of (groups_of T) k in if_met (group_checks T k ++ checks G) (new G) old
