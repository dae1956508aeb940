-- A dealing as it is written, and as it is judged: definitions over a setting, and over a round, whose own checks come first.
use Rattle.std.specs.Prelude.{◌&&◌, List, [], ◌∷◌, ◌++◌, ℕ, ◌*◌, length, eqb}
use Rattle.words.specs.Lists.{map, all, entry}
use Rattle.words.specs.Checks.{Check, ◌unless◌, Outcome, outcome, if_met}
use Rattle.words.specs.declared.Record.{Record}
use Rattle.field.specs.Polynomial.{value_at}
use Rattle.group.specs.Power.{pow}
use Rattle.group.specs.Element.{is_element, is_exponent}
use Rattle.group.specs.declared.Group.{Group}
use Rattle.sharing.specs.Setting.{judged, judged_else, members}
use Rattle.sharing.specs.Answer.{degree_product}
use Rattle.sharing.specs.declared.Round.{Round}
use Rattle.sharing.specs.declared.Setting.{Setting}
use Rattle.records.specs.Layout.{line_layout, records_bytes}
use Rattle.records.specs.Keys.{key_checks}
use Rattle.challenge.specs.Message.{challenge_of, dealing_message, check_polynomial}
use Rattle.equality.specs.Equality.{announced, response}
use Rattle.lines.specs.Lines.{address_checks, v_in, Y_in, r_in, c_in, line_checks}
use Rattle.words.specs.declared.refusal.Refusal.TheVariants.{BadLength, NoElement, NoExponent, DegreeFails, ProofFails}

-- ---- written: from the keys ys, the polynomial f and the nonces ws
unfoldable pub written_v : Group → List ℕ → ℕ → ℕ
written_v G f i = pow G.p G.g.0 (value_at G.q f i)

unfoldable pub written_Y : Group → List ℕ → List ℕ → ℕ → ℕ
written_Y G ys f i = pow G.p (entry ys i) (value_at G.q f i)

-- the challenge over the announcements g^w and y^w
unfoldable pub written_c : Setting → ℕ → List ℕ → List ℕ → List ℕ → ℕ
written_c S d ys f ws =
    challenge_of S
    (dealing_message S d (written_v S.group f) (written_Y S.group ys f)
    (λ i. pow S.group.p S.group.g.0 (entry ws i)) (λ i. pow S.group.p (entry ys i) (entry ws i)))

unfoldable pub written_r : Group → List ℕ → List ℕ → ℕ → ℕ → ℕ
written_r G f ws c i = response G (entry ws i) c (value_at G.q f i)

-- the line of member i under the challenge c
unfoldable pub written_line : Setting → ℕ → List ℕ → List ℕ → List ℕ → ℕ → ℕ → Record
written_line S d ys f ws c i =
    let G = S.group in
    line_layout d i (written_v G f i) (written_Y G ys f i) (written_r G f ws c i) c S.round

unfoldable pub written_dealing : Setting → ℕ → List ℕ → List ℕ → List ℕ → List ℕ
written_dealing S d ys f ws = records_bytes (written_line S d ys f ws (written_c S d ys f ws)) (members S.n)

-- n keys, t coefficients, n nonces, and room for n lines
unfoldable pub write_size_checks : Setting → List ℕ → List ℕ → List ℕ → ℕ → List Check
write_size_checks S ys f ws room =
    BadLength unless (eqb (length ys) S.n && (eqb (length f) S.t && (eqb (length ws) S.n && eqb room (32 * S.n)))) ∷ []

-- coefficients and nonces below q
unfoldable pub secret_checks : Group → List ℕ → List ℕ → List Check
secret_checks G f ws = NoExponent unless (all (is_exponent G) f && all (is_exponent G) ws) ∷ []

-- with room for so many bytes
abbrev pub write_dealing_checks : Setting → ℕ → List ℕ → List ℕ → List ℕ → ℕ → List Check
write_dealing_checks S d ys f ws room =
    (address_checks S d ++ write_size_checks S ys f ws room) ++ (key_checks S.group ys ++ secret_checks S.group f ws)

unfoldable pub write_dealing_in : Setting → ℕ → List ℕ → List ℕ → List ℕ → ℕ → Outcome (Unit {0})
write_dealing_in S d ys f ws room = outcome (write_dealing_checks S d ys f ws room) tt

unfoldable pub write_dealing_outcome : List ℕ → Round → ℕ → List ℕ → List ℕ → List ℕ → ℕ → Outcome (Unit {0})
write_dealing_outcome T R d ys f ws room = judged T R (λ S. write_dealing_checks S d ys f ws room) (λ S. tt)

-- the lent bytes afterwards
unfoldable pub lent_dealing_in : Setting → ℕ → List ℕ → List ℕ → List ℕ → List ℕ → List ℕ
lent_dealing_in S d ys f ws out = if_met (write_dealing_checks S d ys f ws (length out)) (written_dealing S d ys f ws) out

unfoldable pub lent_dealing : List ℕ → Round → ℕ → List ℕ → List ℕ → List ℕ → List ℕ → List ℕ
lent_dealing T R d ys f ws out = judged_else T R (λ S. write_dealing_checks S d ys f ws (length out)) (λ S. written_dealing S d ys f ws) out

-- ---- judged: before the figures
-- n keys and n lines
unfoldable pub judge_size_checks : Setting → List ℕ → List ℕ → List Check
judge_size_checks S ys b = BadLength unless (eqb (length ys) S.n && eqb (length b) (32 * S.n)) ∷ []

-- the stages before the figures
unfoldable pub dealing_form_checks : Setting → ℕ → List ℕ → List ℕ → List Check
dealing_form_checks S d ys b = (address_checks S d ++ judge_size_checks S ys b) ++ (key_checks S.group ys ++ line_checks S d b)

-- ---- judged: the figures v, Y, r and c of the members
-- the challenge that they give
unfoldable pub recomputed : Setting → ℕ → List ℕ → (ℕ → ℕ) → (ℕ → ℕ) → (ℕ → ℕ) → (ℕ → ℕ) → ℕ
recomputed S d ys v Y r c =
    challenge_of S
    (dealing_message S d v Y
    (λ i. announced S.group S.group.g.0 (v i) (c i) (r i)) (λ i. announced S.group (entry ys i) (Y i) (c i) (r i)))

-- v and Y are elements, r and c below q
unfoldable pub range_checks : Setting → (ℕ → ℕ) → (ℕ → ℕ) → (ℕ → ℕ) → (ℕ → ℕ) → List Check
range_checks S v Y r c =
    let is = members S.n in
    NoElement unless (all (λ i. is_element S.group (v i)) is && all (λ i. is_element S.group (Y i)) is)
    ∷ NoExponent unless (all (λ i. is_exponent S.group (r i)) is && all (λ i. is_exponent S.group (c i)) is)
    ∷ []

-- the judge's own check polynomial passes, and every challenge is the recomputed one
unfoldable pub equation_checks : Setting → ℕ → List ℕ → (ℕ → ℕ) → (ℕ → ℕ) → (ℕ → ℕ) → (ℕ → ℕ) → List Check
equation_checks S d ys v Y r c =
    DegreeFails unless eqb (degree_product S (map v (members S.n)) (check_polynomial S d v Y)) 1
    ∷ ProofFails unless all (λ i. eqb (c i) (recomputed S d ys v Y r c)) (members S.n)
    ∷ []

abbrev pub figure_checks : Setting → ℕ → List ℕ → (ℕ → ℕ) → (ℕ → ℕ) → (ℕ → ℕ) → (ℕ → ℕ) → List Check
figure_checks S d ys v Y r c = range_checks S v Y r c ++ equation_checks S d ys v Y r c

-- those of the lines b
abbrev pub line_figure_checks : Setting → ℕ → List ℕ → List ℕ → List Check
line_figure_checks S d ys b = figure_checks S d ys (v_in b) (Y_in b) (r_in b) (c_in b)

abbrev pub judge_dealing_checks : Setting → ℕ → List ℕ → List ℕ → List Check
judge_dealing_checks S d ys b = dealing_form_checks S d ys b ++ line_figure_checks S d ys b

unfoldable pub judge_dealing_in : Setting → ℕ → List ℕ → List ℕ → Outcome (Unit {0})
judge_dealing_in S d ys b = outcome (judge_dealing_checks S d ys b) tt

unfoldable pub judge_dealing_outcome : List ℕ → Round → ℕ → List ℕ → List ℕ → Outcome (Unit {0})
judge_dealing_outcome T R d ys b = judged T R (λ S. judge_dealing_checks S d ys b) (λ S. tt)
