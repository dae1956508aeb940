-- Tables of groups: which bytes are accepted, that the groups of an accepted table are proper, and what of it enters an operation.
-- Trial division shows the built-in p and q prime, and the power from halves that 4 and 9 have the order q: both are computed.
use mathlib.Core.Path.{◌≡◌, refl, sym, ap, ◌∙◌}
use mathlib.Core.Bool.{Bool, true, not, ◌&&◌}
use mathlib.Core.List.{List, [], ◌∷◌, ◌++◌}
use Prim.Native.Nat.{ℕ, suc, ◌-◌, ◌*◌, ◌%◌, ◌^◌, ◌≤◌, ◌<◌}
use native.Mathlib.Nat.{mod-eq_of_lt}
use native.Mathlib.Decide.{dec_le}
use native.Mathlib.Omega.{arith}
use lib.Dec.{T, leb, ltb, eqb, lit<}
use lib.ListN.{length, take, drop}
use borrow.Author.Tests.{leb-true, le-leb, ltb-true, lt-ltb, eqb-true, eq-eqb, eqb-false, ne_eqb, not-true}
use Rattle.words.specs.Lists.{All, Below, up_from}
use Rattle.words.specs.Checks.{Check, ◌unless◌, outcome, Met, if_met}
use Rattle.words.specs.Bytes.{word_at, word_bytes, words_bytes, record_bytes, record_in, records_in, record_at, agrees}
use Rattle.words.proofs.Lists.{All-to, All-at, All-take, All-drop, map-length, map-all, map_each, up-length, up-each, each-up}
use Rattle.words.proofs.Tests.{and-true, true-and, all_true, true-all}
use Rattle.words.proofs.Stages.{behind-outcome, behind-choice}
use Rattle.words.proofs.Bytes.{word_low}
use Rattle.words.proofs.Records.{agrees-exactly}
use Rattle.field.specs.Prime.{is_prime, trial_division}
use Rattle.field.proofs.Primality.{trial-division, prime-exactly}
use Rattle.group.specs.Power.{halves_power}
use Rattle.group.specs.Element.{is_element, is_generator, Generator, Proper}
use Rattle.group.specs.Table.{group, built_in, is_group_record, group_at, groups_from, groups_of, has_primes, has_generators, groups_checks, table_checks, is_group, group_of, group_checks, in_group, in_group_else}
use Rattle.group.specs.Claims.{Chosen, IsOwnGroup, IsTable, TableExactly, TableProper, SameGroups, BuiltInTable}
use Rattle.group.specs.declared.Group.{Group}
use Rattle.group.proofs.Powers.{halves-power}
use Rattle.group.proofs.Elements.{element-true, true-element}
use Rattle.words.specs.declared.refusal.Refusal.TheVariants.{UnknownGroup}

-- a prime is no 0, so that the code may subtract 1
pub prime_positive : (m : ℕ) → is_prime m ≡ true → 1 ≤ m
prime_positive m e = omega (arith, ((prime-exactly m).0 e).above-one)

-- ---- the built-in groups
-- b is below p, not 1, and its power q is 1: right where q is below 2 to the power k
abbrev generates : ℕ → ℕ → ℕ → ℕ → Bool
generates k p q b = ltb b p && (not (eqb b 1) && eqb (halves_power k p b q) 1)

generator : (G : Group) (k b : ℕ) → 1 < G.p → G.q < 2 ^ k → generates k G.p G.q b ≡ true → Generator G b
generator G k b h l e =
    let s = and-true (ltb b G.p) (not (eqb b 1) && eqb (halves_power k G.p b G.q) 1) e in
    let t = and-true (not (eqb b 1)) (eqb (halves_power k G.p b G.q) 1) s.1 in
    record {
      low = ltb-true b G.p s.0;
      not-one = eqb-false b 1 (not-true (eqb b 1) t.0);
      order = sym (halves-power k G.p b G.q h l) ∙ eqb-true (halves_power k G.p b G.q) 1 t.1;
    }

-- i and j odd numbers are tried as divisors of p and q
proper : (G : Group) (i j k : ℕ) → T (trial_division i G.p) → T (trial_division j G.q) → G.q < 2 ^ k
    → generates k G.p G.q G.g.0 ≡ true → generates k G.p G.q G.h.0 ≡ true → Proper G
proper G i j k P Q l g h =
    let a = trial-division i G.p P in
    record {
      prime-p = a;
      prime-q = trial-division j G.q Q;
      g-generates = generator G k G.g.0 a.above-one l g;
      h-generates = generator G k G.h.0 a.above-one l h;
    }

-- a proper group whose figures are words
pub record Sound (G : Group) : Type 0 where
  pub proper : Proper G
  pub p-word : G.p < 2 ^ 32
  pub q-word : G.q < 2 ^ 32

built-in-sound : All Sound built_in
built-in-sound = (
  record { proper = proper (group 23 11 4 9) 1 1 4 tt tt (lit< tt) refl refl; p-word = lit< tt; q-word = lit< tt },
  (
    record { proper = proper (group 2039 1019 4 9) 22 15 10 tt tt (lit< tt) refl refl; p-word = lit< tt; q-word = lit< tt },
    (
      record {
        proper = proper (group 4294967087 2147483543 4 9) 32767 23170 31 tt tt (lit< tt) refl refl;
        p-word = lit< tt;
        q-word = lit< tt;
      },
      tt,
    ),
  ),
)

-- ---- one group
generator-true : (G : Group) (b : ℕ) → is_generator G b ≡ true → Chosen G b
unfolding is_generator
generator-true G b e =
    let s = and-true (is_element G b) (not (eqb b 1)) e in
    let f = element-true G b s.0 in
    record { above-one = omega (arith, f.positive, eqb-false b 1 (not-true (eqb b 1) s.1)); low = f.low; order = f.order }

true-generator : (G : Group) (b : ℕ) → Chosen G b → is_generator G b ≡ true
unfolding is_generator
true-generator G b m =
    let n : b ≡ 1 → ⊥ = λ e. omega (arith, m.above-one) in
    true-and (is_element G b) _ (true-element G b (record { positive = omega (arith, m.above-one); low = m.low; order = m.order }))
    (ap not (ne_eqb b 1 n))

module _ (G : Group) where
  own-group : has_primes G ≡ true → has_generators G ≡ true → IsOwnGroup G × (G.p < 2 ^ 32)
  unfolding has_primes has_generators
  own-group e f =
      let a = and-true (eqb (G.q % 2) 1) _ e in
      let b = and-true (is_prime G.q) _ a.1 in
      let c = and-true (is_prime G.p) _ b.1 in
      let d = and-true (ltb G.p (2 ^ 32)) (eqb ((G.p - 1) % G.q) 0) c.1 in
      let s = and-true (is_generator G G.g.0) _ f in
      let t = and-true (is_generator G G.h.0) (not (eqb G.g.0 G.h.0)) s.1 in (
        record {
          prime-q = (prime-exactly G.q).0 b.0;
          odd-q = eqb-true (G.q % 2) 1 a.0;
          prime-p = (prime-exactly G.p).0 c.0;
          divides = eqb-true ((G.p - 1) % G.q) 0 d.1;
          g-chosen = generator-true G G.g.0 s.0;
          h-chosen = generator-true G G.h.0 t.0;
          distinct = eqb-false G.g.0 G.h.0 (not-true (eqb G.g.0 G.h.0) t.1);
        },
        ltb-true G.p (2 ^ 32) d.0,
      )

  module _ (O : IsOwnGroup G) (w : G.p < 2 ^ 32) where
    own-primes : has_primes G ≡ true
    unfolding has_primes
    own-primes =
        true-and (eqb (G.q % 2) 1) _ (eq-eqb (G.q % 2) 1 O.odd-q) (true-and (is_prime G.q) _ ((prime-exactly G.q).1 O.prime-q)
        (true-and (is_prime G.p) _ ((prime-exactly G.p).1 O.prime-p)
        (true-and (ltb G.p (2 ^ 32)) _ (lt-ltb G.p (2 ^ 32) w) (eq-eqb ((G.p - 1) % G.q) 0 O.divides))))

    own-generators : has_generators G ≡ true
    unfolding has_generators
    own-generators =
        true-and (is_generator G G.g.0) _ (true-generator G G.g.0 O.g-chosen)
        (true-and (is_generator G G.h.0) _ (true-generator G G.h.0 O.h-chosen) (ap not (ne_eqb G.g.0 G.h.0 O.distinct)))

    -- p is above 1 and q divides p - 1, so q is below p
    own-sound : Sound G
    own-sound =
        let chosen : (b : ℕ) → Chosen G b → Generator G b =
        λ b m. record { low = m.low; not-one = λ e. omega (arith, m.above-one); order = m.order } in
        record {
          proper = record {
            prime-p = O.prime-p;
            prime-q = O.prime-q;
            g-generates = chosen G.g.0 O.g-chosen;
            h-generates = chosen G.h.0 O.h-chosen;
          };
          p-word = w;
          q-word = elim (dec_le G.q (G.p - 1)) [
            | yes l ↦ omega (arith, w, l)
            | no l ↦ let m : (G.p - 1) % G.q ≡ G.p - 1 = mod-eq_of_lt (omega (arith, l)) in omega (arith, m, O.divides, O.prime-p.above-one)
          ];
        }

-- ---- the groups of a list
own-groups : (Gs : List Group) → Met (groups_checks Gs) → All (λ (G : Group). IsOwnGroup G × (G.p < 2 ^ 32)) Gs
own-groups [] m = tt
own-groups (G ∷ Gs) m = (own-group G m.0 m.1.0, own-groups Gs m.1.1)

groups-met : (Gs : List Group) → All (λ (G : Group). IsOwnGroup G × (G.p < 2 ^ 32)) Gs → Met (groups_checks Gs)
groups-met [] a = tt
groups-met (G ∷ Gs) a = (own-primes G a.0.0 a.0.1, (own-generators G a.0.0 a.0.1, groups-met Gs a.1))

-- ---- accepted tables
table-sound : (T : List ℕ) → Met (table_checks T) → All Sound (groups_of T)
unfolding table_checks groups_of
table-sound [] m = built-in-sound
table-sound (b ∷ bs) m =
    let Gs : List Group = groups_from (b ∷ bs) 0 (records_in (b ∷ bs)) in
    All-to Gs (λ (G : Group) o. own-sound G o.0 o.1) (own-groups Gs m.1.1)

pub table-proper : TableProper
table-proper T m = All-to (groups_of T) (λ (G : Group) s. s.proper) (table-sound T m)

-- the group of a number
module _ (T : List ℕ) (m : Met (table_checks T)) (k : ℕ) (e : is_group (groups_of T) k ≡ true) where
  number-most : k ≤ length (groups_of T)
  unfolding is_group
  number-most = leb-true k (length (groups_of T)) (and-true (leb 1 k) _ e).1

  pub group-sound : Sound (group_of (groups_of T) k)
  unfolding group_of is_group
  group-sound =
      let h : 1 ≤ k = leb-true 1 k (and-true (leb 1 k) (leb k (length (groups_of T))) e).0 in
      All-at Sound (groups_of T) (k - 1) (group 0 0 0 0) (omega (arith, h, number-most)) (table-sound T m)

  -- it fits a byte
  pub number-low : k < 256
  unfolding table_checks groups_of
  number-low = omega (arith, number-most, few T m)
    where
      few : (T : List ℕ) → Met (table_checks T) → length (groups_of T) ≤ 8
      few [] m = omega arith
      few (b ∷ bs) m =
          let n : ℕ = records_in (b ∷ bs) in
          let l : n ≤ 8 = leb-true n 8 (and-true (eqb (length (b ∷ bs) % 32) 0) _ m.0).1 in
          omega (arith, l, map-length (group_at (b ∷ bs)) (up_from 0 n), up-length 0 n)

-- ---- exactly
record-word : (T : List ℕ) (i : ℕ) → Below 256 T → (group_at T i).p < 2 ^ 32
unfolding group_at record_at record_in
record-word T i h =
    word_low (take 32 (drop (32 * i) T)) 8 (All-take (λ x. x < 256) 32 (drop (32 * i) T) (All-drop (λ x. x < 256) (32 * i) T h))

module _ (T : List ℕ) where
  abbrev size : ℕ
  size = records_in T

  abbrev is_formed : ℕ → Bool
  is_formed i = is_group_record (suc i) (record_at T i)

  abbrev IsOwnWord : Group → Type 0
  IsOwnWord G = IsOwnGroup G × (G.p < 2 ^ 32)

  is-table : Met (table_checks T) → IsTable T
  unfolding table_checks
  is-table m =
      let s = and-true (eqb (length T % 32) 0) (leb size 8) m.0 in
      let form = up-each (λ i. is_formed i ≡ true) 0 size (all_true is_formed (up_from 0 size) m.1.0) in
      let own = up-each (λ i. IsOwnWord (group_at T i)) 0 size (map_each (group_at T) IsOwnWord (up_from 0 size) (own-groups (groups_from T 0 size) m.1.1)) in
      record {
        whole = eqb-true (length T % 32) 0 s.0;
        most = leb-true size 8 s.1;
        records = λ i h. (agrees-exactly (record_at T i) _).0 (form i (omega arith) (omega arith));
        groups = λ i h. (own i (omega arith) (omega arith)).0;
      }

  table-met : Below 256 T → IsTable T → Met (table_checks T)
  unfolding table_checks
  table-met h t = (
    true-and (eqb (length T % 32) 0) _ (eq-eqb (length T % 32) 0 t.whole) (le-leb size 8 t.most),
    (
      true-all is_formed (up_from 0 size) (each-up (λ i. is_formed i ≡ true) 0 size (λ i a b. (agrees-exactly (record_at T i) _).1 (t.records i (omega arith)))),
      groups-met (groups_from T 0 size)
          (map-all (group_at T) IsOwnWord (up_from 0 size) (each-up (λ i. IsOwnWord (group_at T i)) 0 size (λ i a b. (t.groups i (omega arith), record-word T i h)))),
    ),
  )

pub table-exactly : TableExactly
table-exactly T h = (is-table T, table-met T h)

-- ---- what of a table enters an operation: behind an accepted one, checks and answers by its groups
module _ (T₁ T₂ : List ℕ) (m₁ : Met (table_checks T₁)) (m₂ : Met (table_checks T₂)) (e : groups_of T₁ ≡ groups_of T₂) where
  module _ (first rest : List Group → List Check) where
    abbrev behind : List ℕ → List Check
    behind T = table_checks T ++ first (groups_of T) ++ rest (groups_of T)

    pub groups-outcome : {A : Type 0} (answer : List Group → A) → outcome (behind T₁) (answer (groups_of T₁)) ≡ outcome (behind T₂) (answer (groups_of T₂))
    groups-outcome answer =
        sym (behind-outcome (table_checks T₁) (first (groups_of T₁)) (rest (groups_of T₁)) m₁ (answer (groups_of T₁)))
        ∙ (λ j. outcome (first (e j) ++ rest (e j)) (answer (e j)))
        ∙ behind-outcome (table_checks T₂) (first (groups_of T₂)) (rest (groups_of T₂)) m₂ (answer (groups_of T₂))

    pub groups-choice : {A : Type 0} (new : List Group → A) (old : A) → if_met (behind T₁) (new (groups_of T₁)) old ≡ if_met (behind T₂) (new (groups_of T₂)) old
    groups-choice new old =
        sym (behind-choice (table_checks T₁) (first (groups_of T₁)) (rest (groups_of T₁)) m₁ (new (groups_of T₁)) old)
        ∙ (λ j. if_met (first (e j) ++ rest (e j)) (new (e j)) old)
        ∙ behind-choice (table_checks T₂) (first (groups_of T₂)) (rest (groups_of T₂)) m₂ (new (groups_of T₂)) old

pub same-groups : SameGroups
unfolding in_group in_group_else group_checks
same-groups T₁ T₂ m₁ m₂ e =
    let number : ℕ → List Group → List Check = λ k Gs. UnknownGroup unless is_group Gs k ∷ [] in
    record {
      answer = λ k checks answer. groups-outcome T₁ T₂ m₁ m₂ e (number k) (λ Gs. checks (group_of Gs k)) (λ Gs. answer (group_of Gs k));
      lent = λ k checks new old. groups-choice T₁ T₂ m₁ m₂ e (number k) (λ Gs. checks (group_of Gs k)) (λ Gs. new (group_of Gs k)) old;
    }

-- ---- the built-in groups as a table
built-in-own : All (λ (G : Group). IsOwnGroup G × (G.p < 2 ^ 32)) built_in
built-in-own =
    let own : (G : Group) → Sound G → G.q % 2 ≡ 1 → (G.p - 1) % G.q ≡ 0 → 1 < G.g.0 → 1 < G.h.0 → (G.g.0 ≡ G.h.0 → ⊥) → IsOwnGroup G × (G.p < 2 ^ 32) =
    λ G s odd divides g h d. (
      record {
        prime-q = s.proper.prime-q;
        odd-q = odd;
        prime-p = s.proper.prime-p;
        divides = divides;
        g-chosen = record { above-one = g; low = s.proper.g-generates.low; order = s.proper.g-generates.order };
        h-chosen = record { above-one = h; low = s.proper.h-generates.low; order = s.proper.h-generates.order };
        distinct = d;
      },
      s.p-word,
    ) in
    let apart : ◌≡◌ {A = ℕ} 4 9 → ⊥ = λ e. omega arith in (
      own _ built-in-sound.0 refl refl (lit< tt) (lit< tt) apart,
      (
        own _ built-in-sound.1.0 refl refl (lit< tt) (lit< tt) apart,
        (own _ built-in-sound.1.1.0 refl refl (lit< tt) (lit< tt) apart, tt),
      ),
    )

pub built-in-table : BuiltInTable
unfolding table_checks groups_of group_at word_at word_bytes words_bytes record_bytes record_in record_at agrees
built-in-table = ((refl, (refl, tt)), (refl, (refl, groups-met built_in built-in-own)), refl)
