-- What the checks of a table and a round settle: the setting is proper, and an operation over them does what it does in the setting.
-- Then quorums, the members of a proper setting as nodes, and its figures as words.
use mathlib.Core.Path.{◌≡◌, sym, ◌∙◌, subst}
use mathlib.Core.Bool.{Bool, true}
use mathlib.Core.List.{List, ◌++◌}
use mathlib.Core.Logic.{◌↔◌}
use Prim.Native.Nat.{ℕ, ◌+◌, ◌^◌, ◌≤◌, ◌<◌}
use native.Mathlib.Omega.{arith}
use borrow.Author.Tests.{ltb-true, leb-true, le-leb}
use lib.ListN.{length, take}
use lib.Dec.{leb, ltb}
use Rattle.words.specs.Lists.{All, Below, all, none_twice}
use Rattle.words.specs.Checks.{Check, outcome, Met, if_met, Outcome}
use Rattle.words.proofs.Lists.{All-to, up-take, up-length, up-within, up-distinct}
use Rattle.words.proofs.Tests.{and-true, true-and, all_true, true-all, true-distinct}
use Rattle.words.proofs.Checks.{value-met}
use Rattle.words.proofs.Stages.{met-both, rest-outcome, rest-choice, given-refused, given-value, given-kept, given-choice}
use Rattle.field.specs.Claims.{Nodes}
use Rattle.group.specs.Table.{groups_of, table_checks}
use Rattle.group.specs.Element.{is_element}
use Rattle.group.proofs.Elements.{element-true}
use Rattle.group.proofs.Table.{group-sound, number-low}
use Rattle.sharing.specs.Setting.{ProperSetting, OneGroup, setting_in, renumbered, in_round, in_range, round_figures, round_checks, figures_outcome, setting_outcome, judged, judged_else, is_member, members}
use Rattle.sharing.specs.Answer.{is_quorum}
use Rattle.sharing.specs.Carried.{Carries, Quorum}
use Rattle.sharing.specs.declared.Round.{Round}
use Rattle.sharing.specs.declared.Setting.{Setting}
use Rattle.std.specs.Prelude.{Ok, Err}
use Rattle.words.specs.declared.refusal.Refusal.{Refusal}

pub round-proper : (T : List ℕ) (R : Round) → Met (round_checks T R) → ProperSetting (setting_in T R)
unfolding round_checks round_figures in_range
round-proper T R m =
    let S : Setting = setting_in T R in
    let s = met-both (table_checks T) (round_figures (groups_of T) R) m in
    let a = and-true (leb 1 S.n) _ s.1.1.0 in
    let b = and-true (leb S.n 31) _ a.1 in
    let c = and-true (ltb S.n S.group.q) _ b.1 in
    let d = and-true (leb 1 S.t) (leb S.t S.n) c.1 in
    let g = group-sound T s.0 R.group s.1.0 in
    record {
      proper = g.proper;
      p-word = g.p-word;
      q-word = g.q-word;
      number-byte = number-low T s.0 R.group s.1.0;
      n-positive = leb-true 1 S.n a.0;
      n-most = leb-true S.n 31 b.0;
      n-below = ltb-true S.n S.group.q c.0;
      t-positive = leb-true 1 S.t d.0;
      t-most = leb-true S.t S.n d.1;
    }

-- ---- under other numbers, of the group and of the round, and under either rule
-- a setting of the same group, n and t is this one under its numbers
pub of-one-group : (S T : Setting) → OneGroup S T → renumbered T.number T.round T.whole_digest S ≡ T
of-one-group S T E = λ j. record { group = E.group j; number = T.number; n = E.n j; t = E.t j; round = T.round; whole_digest = T.whole_digest }

module _ {S : Setting} (number round : ℕ) (whole : Bool) where
  pub renumbered-proper : ProperSetting S → number < 256 → ProperSetting (renumbered number round whole S)
  renumbered-proper P low =
      record {
        proper = P.proper;
        p-word = P.p-word;
        q-word = P.q-word;
        number-byte = low;
        n-positive = P.n-positive;
        n-most = P.n-most;
        n-below = P.n-below;
        t-positive = P.t-positive;
        t-most = P.t-most;
      }

  pub renumbered-carries : {f vs : List ℕ} → Carries (renumbered number round whole S) f vs → Carries S f vs
  renumbered-carries K = record { polynomial = record { size = K.polynomial.size; low = K.polynomial.low }; powers = K.powers }

-- in the round of another number
module _ {S : Setting} (round : ℕ) (whole : Bool) where
  pub proper-in-round : ProperSetting S → ProperSetting (in_round round whole S)
  proper-in-round P = renumbered-proper S.number round whole P P.number-byte

  pub carries-in-round : {f vs : List ℕ} → Carries (in_round round whole S) f vs → Carries S f vs
  carries-in-round = renumbered-carries S.number round whole

-- ---- an operation over a table and a round, where their checks do not refuse
module _ {A : Type 0} (T : List ℕ) (R : Round) (checks : Setting → List Check) (answer : Setting → A) where
  module _ (m : Met (round_checks T R)) where
    pub judged-in : judged T R checks answer ≡ outcome (checks (setting_in T R)) (answer (setting_in T R))
    unfolding judged
    judged-in = sym (rest-outcome (round_checks T R) (checks (setting_in T R)) m (answer (setting_in T R)))

    pub judged-else-in : (old : A) → judged_else T R checks answer old ≡ if_met (checks (setting_in T R)) (answer (setting_in T R)) old
    unfolding judged_else
    judged-else-in old = sym (rest-choice (round_checks T R) (checks (setting_in T R)) m (answer (setting_in T R)) old)

  -- a value over them is one in their setting, and neither is refused
  pub judged-exactly : (a : A)
      → (judged T R checks answer ≡ Ok a) ↔ (Met (round_checks T R) × (outcome (checks (setting_in T R)) (answer (setting_in T R)) ≡ Ok a))
  unfolding judged
  judged-exactly a = (
    λ e.
        let m = (met-both (round_checks T R) (checks (setting_in T R)) (value-met (round_checks T R ++ checks (setting_in T R)) (answer (setting_in T R)) a e).0).0 in
        (m, sym (judged-in m) ∙ e),
    λ w. judged-in w.0 ∙ w.1,
  )

  -- ---- the same by the answer r of the function that gives the setting
  module _ {r : Outcome Setting} (e : r ≡ setting_outcome T R) where
    pub judged-refused : {k : Refusal} → r ≡ Err k → Err k ≡ judged T R checks answer
    unfolding judged setting_outcome
    judged-refused f = given-refused (round_checks T R) (setting_in T R) checks answer (sym e ∙ f)

    pub judged-value : {S : Setting} → r ≡ Ok S → outcome (checks S) (answer S) ≡ judged T R checks answer
    unfolding judged setting_outcome
    judged-value f = given-value (round_checks T R) (setting_in T R) checks answer (sym e ∙ f)

    pub judged-kept : {k : Refusal} → r ≡ Err k → (old : A) → old ≡ judged_else T R checks answer old
    unfolding judged_else setting_outcome
    judged-kept f old = given-kept (round_checks T R) (setting_in T R) checks answer (sym e ∙ f) old

    pub judged-lent : {S : Setting} → r ≡ Ok S → (old : A) → if_met (checks S) (answer S) old ≡ judged_else T R checks answer old
    unfolding judged_else setting_outcome
    judged-lent f old = given-choice (round_checks T R) (setting_in T R) checks answer (sym e ∙ f) old

-- where the table is accepted, the function that looks the setting up in it gives the same
pub figures-setting : (T : List ℕ) (R : Round) → Met (table_checks T) → figures_outcome T R ≡ setting_outcome T R
unfolding figures_outcome setting_outcome round_checks
figures-setting T R m = rest-outcome (table_checks T) (round_figures (groups_of T) R) m (setting_in T R)

pub setting-proper : (T : List ℕ) (R : Round) {r : Outcome Setting} → r ≡ setting_outcome T R → {S : Setting} → r ≡ Ok S → ProperSetting S
unfolding setting_outcome
setting-proper T R e {S} f =
    let s = value-met (round_checks T R) (setting_in T R) S (sym e ∙ f) in
    subst ProperSetting s.1 (round-proper T R s.0)

-- ---- members and quorums
pub true-quorum : (S : Setting) (ms : List ℕ) → Quorum S ms → is_quorum S ms ≡ true
unfolding is_quorum is_member
true-quorum S ms Q =
    let member : (i : ℕ) → (1 ≤ i) × (i ≤ S.n) → is_member S.n i ≡ true =
    λ i s. true-and (leb 1 i) (leb i S.n) (le-leb 1 i s.0) (le-leb i S.n s.1) in
    true-and (leb S.t (length ms)) _ (le-leb S.t (length ms) Q.enough)
    (true-and (all (is_member S.n) ms) _ (true-all (is_member S.n) ms (All-to ms member Q.within)) (true-distinct ms Q.distinct))

module _ {S : Setting} (Y : ProperSetting S) where
  -- the test of a quorum leaves members below q
  pub tested_low : (ms : List ℕ) → is_quorum S ms ≡ true → Below S.group.q ms
  unfolding is_quorum is_member
  tested_low ms e =
      All-to ms (λ i s. omega (arith, leb-true i S.n (and-true (leb 1 i) (leb i S.n) s).1, Y.n-below))
      (all_true (is_member S.n) ms (and-true (all (is_member S.n) ms) (none_twice ms) (and-true (leb S.t (length ms)) _ e).1).0)

  -- the members, with a value for each
  pub member-nodes : (es : List ℕ) → Below S.group.q es → length es ≡ S.n → Nodes S.group.q (members S.n) es
  member-nodes es low size =
      record {
        nodes-low = All-to (members S.n) (λ i s. s.1) (up-within 1 S.n S.group.q (omega (arith, Y.n-below)));
        values_low = low;
        distinct = up-distinct 1 S.n;
        size = omega (arith, up-length 1 S.n);
      }

  -- the first t members
  pub first-quorum : Quorum S (members S.t)
  first-quorum =
      record {
        within = All-to (members S.t) (λ i s. (s.0, omega (arith, s.1, Y.t-most))) (up-within 1 S.t (1 + S.t) (omega arith));
        distinct = up-distinct 1 S.t;
        enough = omega (arith, up-length 1 S.t);
      }

  module _ {ms : List ℕ} (Q : Quorum S ms) where
    pub quorum-low : Below S.group.q ms
    quorum-low = All-to ms (λ i s. omega (arith, s.1, Y.n-below)) Q.within

    pub quorum-nonzero : All (λ i. i ≡ 0 → ⊥) ms
    quorum-nonzero = All-to ms (λ i s e. omega (arith, s.0)) Q.within

-- ---- figures are words
module _ {S : Setting} (P : ProperSetting S) where
  pub member-word : (i : ℕ) → i ≤ S.n → i < 2 ^ 32
  member-word i h = omega (arith, P.n-most)

  pub element-word : (v : ℕ) → is_element S.group v ≡ true → v < 2 ^ 32
  element-word v e = omega (arith, (element-true S.group v e).low, P.p-word)

  pub exponent-word : (e : ℕ) → e < S.group.q → e < 2 ^ 32
  exponent-word e h = omega (arith, P.q-word)

-- ---- the first t of the numbers 1 to 31, as the code has them: they are the members 1 to t, and below q
pub first_members : (t : ℕ) → t ≤ 31 → take t (members 31) ≡ members t
first_members t h = up-take 1 t 31 h

pub first_length : (t : ℕ) → length (members t) ≡ t
first_length t = up-length 1 t

pub first_low : (S : Setting) → ProperSetting S → Below S.group.q (take S.t (members 31))
first_low S Y = subst (Below S.group.q) (sym (first_members S.t (omega (arith, Y.t-most, Y.n-most)))) (quorum-low Y (first-quorum Y))
