-- Messages and checks that only the members' figures tell: where figures agree they are the same, so lines are judged as their columns.
use mathlib.Core.Path.{◌≡◌, ap}
use mathlib.Core.Bool.{◌&&◌}
use mathlib.Core.List.{List, [], ◌∷◌}
use Prim.Native.Nat.{ℕ, ◌-◌}
use lib.Dec.{eqb}
use Rattle.words.specs.Lists.{up_from, entry}
use Rattle.words.specs.Checks.{◌unless◌}
use Rattle.words.proofs.Lists.{All-each, map_same}
use Rattle.group.specs.Element.{is_element, is_exponent}
use Rattle.sharing.specs.Setting.{members}
use Rattle.sharing.specs.Answer.{degree_product}
use Rattle.sharing.specs.declared.Setting.{Setting}
use Rattle.sharing.proofs.EachMember.{each-members, Agree, filled-agree, tests_same}
use Rattle.challenge.specs.Message.{message, coefficient_tag, challenge_of, dealing_message, coefficient_message, check_polynomial}
use Rattle.challenge.proofs.Challenges.{bytes_same, message-same}
use Rattle.equality.specs.Equality.{announced}
use Rattle.lines.specs.Lines.{v_in, Y_in, r_in, c_in}
use Rattle.lines.specs.Columns.{columns_of}
use Rattle.lines.specs.declared.Columns.{Columns}
use Rattle.dealing.specs.Dealing.{recomputed, range_checks, equation_checks, figure_checks, line_figure_checks}
use Rattle.dealing.specs.Columns.{column_checks}
use Rattle.words.specs.declared.refusal.Refusal.TheVariants.{NoElement, NoExponent, DegreeFails, ProofFails}

-- ---- what figures that agree tell alike
module _ (S : Setting) (d : ℕ) {v Y v' Y' : ℕ → ℕ} (p : Agree S.n v v') (q : Agree S.n Y Y') where
  pub challenge-same : {a b a' b' : ℕ → ℕ} → Agree S.n a a' → Agree S.n b b'
      → challenge_of S (dealing_message S d v Y a b) ≡ challenge_of S (dealing_message S d v' Y' a' b')
  challenge-same {a} {b} {a'} {b'} r s =
      ap (challenge_of S)
      (message-same S d v Y a b v' Y' a' b' (λ i h l j. p.at i h l j ∷ q.at i h l j ∷ r.at i h l j ∷ s.at i h l j ∷ []))

  pub polynomial-same : check_polynomial S d v Y ≡ check_polynomial S d v' Y'
  unfolding check_polynomial coefficient_message
  polynomial-same =
      let f : ℕ → List ℕ = λ i. v i ∷ Y i ∷ [] in
      let g : ℕ → List ℕ = λ i. v' i ∷ Y' i ∷ [] in
      let same = bytes_same f g (members S.n) (each-members (λ i. f i ≡ g i) S.n (λ i h l j. p.at i h l j ∷ q.at i h l j ∷ [])) in
      let u : ℕ → ℕ = λ k. challenge_of S (coefficient_message S d v Y k) in
      let w : ℕ → ℕ = λ k. challenge_of S (coefficient_message S d v' Y' k) in
      let ks : List ℕ = up_from 0 (S.n - S.t) in
      map_same u w ks (All-each {P = λ k. u k ≡ w k} ks (λ k j. challenge_of S (message coefficient_tag S d (k ∷ same j))))

  module _ (ys : List ℕ) {r c r' c' : ℕ → ℕ} (s : Agree S.n r r') (t : Agree S.n c c') where
    recomputed-same : recomputed S d ys v Y r c ≡ recomputed S d ys v' Y' r' c'
    unfolding recomputed
    recomputed-same =
        challenge-same
        (record { at = λ i h l j. announced S.group S.group.g.0 (p.at i h l j) (t.at i h l j) (s.at i h l j) })
        (record { at = λ i h l j. announced S.group (entry ys i) (q.at i h l j) (t.at i h l j) (s.at i h l j) })

    figures-same : figure_checks S d ys v Y r c ≡ figure_checks S d ys v' Y' r' c'
    unfolding range_checks equation_checks
    figures-same =
        let G = S.group in
        let v-test = tests_same _ _ S.n (λ i h l j. is_element G (p.at i h l j)) in
        let Y-test = tests_same _ _ S.n (λ i h l j. is_element G (q.at i h l j)) in
        let r-test = tests_same _ _ S.n (λ i h l j. is_exponent G (s.at i h l j)) in
        let c-test = tests_same _ _ S.n (λ i h l j. is_exponent G (t.at i h l j)) in
        let vs = map_same v v' (members S.n) (each-members (λ i. v i ≡ v' i) S.n p.at) in
        let ten = tests_same _ _ S.n (λ i h l j. eqb (t.at i h l j) (recomputed-same j)) in
        λ j.
        NoElement unless (v-test j && Y-test j)
        ∷ NoExponent unless (r-test j && c-test j)
        ∷ DegreeFails unless eqb (degree_product S (vs j) (polynomial-same j)) 1
        ∷ ProofFails unless ten j
        ∷ []

-- the columns of lines are checked as the lines are
pub columns-same : (S : Setting) (d : ℕ) (ys b : List ℕ) {t : Columns} → t ≡ columns_of S.n b → column_checks S d ys t ≡ line_figure_checks S d ys b
unfolding columns_of
columns-same S d ys b e =
    let v = filled-agree (v_in b) S.n (ap (λ (x : Columns). x.vs) e) in
    let Y = filled-agree (Y_in b) S.n (ap (λ (x : Columns). x.encrypted) e) in
    let r = filled-agree (r_in b) S.n (ap (λ (x : Columns). x.rs) e) in
    let c = filled-agree (c_in b) S.n (ap (λ (x : Columns). x.cs) e) in
    figures-same S d v Y ys r c
