-- The arrays that the writer works out hold the figures of the dealing, so that the lines made of them are the dealing's.
use mathlib.Core.Path.{◌≡◌, refl, ap, ◌∙◌}
use mathlib.Core.List.{List, [], ◌∷◌, ◌++◌}
use Prim.Native.Nat.{ℕ, ◌-◌, ◌≤◌}
use native.Mathlib.Omega.{arith}
use lib.ListN.{replicate, get_or-replicate}
use Rattle.words.specs.Lists.{All, map, filled, entry}
use Rattle.words.specs.Bytes.{record_bytes}
use Rattle.words.specs.declared.Record.{Record}
use Rattle.field.specs.Polynomial.{value_at}
use Rattle.group.specs.Power.{pow}
use Rattle.group.specs.declared.Group.{Group}
use Rattle.sharing.specs.Setting.{members}
use Rattle.sharing.specs.declared.Setting.{Setting}
use Rattle.sharing.proofs.EachMember.{each-members, Agree, filled-agree}
use Rattle.records.specs.Layout.{line_layout, records_bytes}
use Rattle.challenge.specs.Message.{challenge_of, dealing_message}
use Rattle.equality.specs.Equality.{response}
use Rattle.lines.specs.Columns.{line_from}
use Rattle.dealing.specs.Dealing.{written_v, written_Y, written_c, written_r, written_line, written_dealing}
use Rattle.dealing.proofs.Entries.{challenge-same}

records-same : (f g : ℕ → Record) (is : List ℕ) → All (λ i. f i ≡ g i) is → records_bytes f is ≡ records_bytes g is
unfolding records_bytes
records-same f g [] h = refl
records-same f g (i ∷ is) h = λ j. record_bytes (h.0 j) ++ records-same f g is h.1 j

-- the power of member i
abbrev pub power_of : Group → List ℕ → List ℕ → ℕ → ℕ
power_of G bs xs i = pow G.p (entry bs i) (entry xs i)

-- the response of member i to the challenge c
abbrev pub response_of : Group → List ℕ → List ℕ → ℕ → ℕ → ℕ
response_of G ws xs c i = response G (entry ws i) c (entry xs i)

-- the base g for every member
bases : (g n : ℕ) → n ≤ 31 → Agree n (entry (replicate 31 g)) (λ i. g)
unfolding entry
bases g n h = record { at = λ i k l. get_or-replicate 31 (i - 1) g 0 (omega arith) }

-- powers of bases b and exponents x
powers-are : (G : Group) (n : ℕ) (bs xs : List ℕ) {b x : ℕ → ℕ} → Agree n (entry bs) b → Agree n (entry xs) x
    → {rs : List ℕ} → rs ≡ filled 31 (map (power_of G bs xs) (members n)) → Agree n (entry rs) (λ i. pow G.p (b i) (x i))
powers-are G n bs xs p q r =
    record { at = λ i h l. (filled-agree (power_of G bs xs) n r).at i h l ∙ (λ j. pow G.p (p.at i h l j) (q.at i h l j)) }

module _ (S : Setting) (few : S.n ≤ 31) (d : ℕ) (ys f ws xs vs Ys a1s a2s : List ℕ) where
  abbrev n : ℕ
  n = S.n

  abbrev G : Group
  G = S.group

  abbrev gs : List ℕ
  gs = replicate 31 G.g.0

  given : (l : List ℕ) → Agree n (entry l) (entry l)
  given l = record { at = λ i h k. refl }

  -- of a polynomial's values xs, commitments vs, encrypted shares Ys, announcements a1s and a2s, and responses rs to their challenge c
  pub lines_are : {m c : ℕ} {rs : List ℕ} → m ≡ n → xs ≡ filled 31 (map (value_at G.q f) (members n))
      → vs ≡ filled 31 (map (power_of G gs xs) (members n)) → Ys ≡ filled 31 (map (power_of G ys xs) (members n))
      → a1s ≡ filled 31 (map (power_of G gs ws) (members n)) → a2s ≡ filled 31 (map (power_of G ys ws) (members n))
      → c ≡ challenge_of S (dealing_message S d (entry vs) (entry Ys) (entry a1s) (entry a2s))
      → rs ≡ filled 31 (map (response_of G ws xs c) (members m))
      → records_bytes (line_from S.round d vs Ys rs c) (members n) ≡ written_dealing S d ys f ws
  unfolding written_v written_Y written_c written_r written_line written_dealing
  lines_are {m} {c} {rs} all x v y a1 a2 k r =
      let value = filled-agree (value_at G.q f) n x in
      let base = bases G.g.0 n few in
      let v-is = powers-are G n gs xs base value v in
      let Y-is = powers-are G n ys xs (given ys) value y in
      let a1-is = powers-are G n gs ws base (given ws) a1 in
      let a2-is = powers-are G n ys ws (given ys) (given ws) a2 in
      let r-is = filled-agree (response_of G ws xs c) n (r ∙ ap (λ (x : ℕ). filled 31 (map (response_of G ws xs c) (members x))) all) in
      let line : (i : ℕ) → 1 ≤ i → i ≤ n → line_from S.round d vs Ys rs c i ≡ written_line S d ys f ws c i = λ i l m.
      (λ j. line_layout d i (v-is.at i l m j) (Y-is.at i l m j) (r-is.at i l m j) c S.round)
      ∙ (λ j. line_layout d i (written_v G f i) (written_Y G ys f i) (response G (entry ws i) c (value.at i l m j)) c S.round) in
      records-same (line_from S.round d vs Ys rs c) (written_line S d ys f ws c) (members n)
      (each-members (λ i. line_from S.round d vs Ys rs c i ≡ written_line S d ys f ws c i) n line)
      ∙ ap (λ (x : ℕ). records_bytes (written_line S d ys f ws x) (members n)) (k ∙ challenge-same S d v-is Y-is a1-is a2-is)
