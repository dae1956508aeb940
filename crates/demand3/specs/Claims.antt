-- What is claimed of judged boards, in every proper setting: the rules of verdicts, how a board ends, and the last sentence of demand 3.
-- DrawByRound reads this off for rounds, as the board judge answers.
use Rattle.std.specs.Prelude.{◌≡◌, true, List, ◌⊎◌, ◌↔◌, ℕ, ◌<◌, ◌≤◌, length, take, Ok, Err}
use Rattle.words.specs.Lists.{All, map}
use Rattle.words.specs.Checks.{Outcome, Met, FirstUnmet}
use Rattle.words.specs.Bytes.{records_in, record_at}
use Rattle.words.specs.declared.refusal.Refusal.{Refusal}
use Rattle.words.specs.declared.refusal.Refusal.TheVariants.{Incomplete, StillStuck, TooFew}
use Rattle.field.specs.Polynomial.{value_at}
use Rattle.group.specs.Power.{pow}
use Rattle.group.specs.declared.Element.{Element}
use Rattle.group.specs.declared.Group.{Group}
use Rattle.sharing.specs.Setting.{ProperSetting, OneGroup, setting_in, round_checks}
use Rattle.sharing.specs.Answer.{opening_in}
use Rattle.sharing.specs.Carried.{Carries, secret_of}
use Rattle.sharing.specs.declared.Round.{Round}
use Rattle.sharing.specs.declared.Setting.{Setting}
use Rattle.sharing.specs.Sum.{product_of, sum_of}
use Rattle.records.specs.Layout.{line_kind, opening_kind, dealer_of, member_of, u_of, Z_of}
use Rattle.board.specs.Search.{Ascending}
use Rattle.board.specs.Board.{board_checks, line_count}
use Rattle.verdicts.specs.Shares.{Judges, recovered_from}
use Rattle.verdicts.specs.Verdict.{dealing_answer, is_accepted, commitments_of, is_share_by, shares_by, secret_by, verdict_on, verdicts_on}
use Rattle.verdicts.specs.Added.{accepted_dealers, added_by}
use Rattle.verdicts.specs.Draw.{count_accepted, secret_value, draw_in, draw_outcome}
use Rattle.verdicts.specs.declared.Secret.{Secret}
use Rattle.verdicts.specs.declared.Secret.TheVariants.{Opened, Recovered, Stuck}
use Rattle.verdicts.specs.declared.Verdict.TheVariants.{None, Refused, Accepted}

-- ---- words of the claims
-- the board's kind 3 record of the dealer holds an opening accepted for his commitments
pub record RightlyOpened (S : Setting) (b : List ℕ) (d : ℕ) : Type 0 where
  pub at : ℕ
  pub inside : at < records_in b
  pub kind : (record_at b at).w0 ≡ opening_kind
  pub dealer : dealer_of (record_at b at) ≡ d
  pub right : opening_in S (commitments_of S b d) (u_of (record_at b at)) ≡ Ok tt

-- his dealing is rightly opened or has t or more accepted shares
abbrev pub Revealed : Judges → Setting → List ℕ → ℕ → Type 0
Revealed J S b d = RightlyOpened S b d ⊎ (S.t ≤ length (shares_by J S b d))

-- h^e
abbrev pub power_of_h : Group → ℕ → ℕ
power_of_h G e = pow G.p G.h.0 e

-- ---- verdict rules: "A dealer's verdict is none exactly where he has no lines", and what follows it
pub record VerdictRule (J : Judges) (S : Setting) (b : List ℕ) (d : ℕ) : Type 0 where
  -- none exactly where he has no lines
  pub none : (verdict_on J S b d ≡ None) ↔ ((i : ℕ) → i < records_in b → (record_at b i).w0 ≡ line_kind → dealer_of (record_at b i) ≡ d → ⊥)
  -- refused by 12 where he has some lines but not n, and by the judge's number where it refuses his n lines
  pub refuses : (k : Refusal) → (verdict_on J S b d ≡ Refused k)
      ↔ (((line_count b d ≡ 0 → ⊥) × (line_count b d ≡ S.n → ⊥) × (k ≡ Incomplete)) ⊎ ((line_count b d ≡ S.n) × (dealing_answer J S b d ≡ Err k)))
  -- accepted where the judge accepts his n lines
  pub accepts : (is_accepted J S b d ≡ true) ↔ ((line_count b d ≡ S.n) × (dealing_answer J S b d ≡ Ok tt))
  pub accepted : (s : Secret) → (verdict_on J S b d ≡ Accepted s) ↔ ((is_accepted J S b d ≡ true) × (secret_by J S b d ≡ s))
  -- the secret is opened exactly where the board's kind 3 record of the dealer holds an accepted opening, and is h to it
  pub opened : (v : Element) → (secret_by J S b d ≡ Opened v) ↔ ((o : RightlyOpened S b d) × (v.0 ≡ power_of_h S.group (u_of (record_at b o.at))))
  -- recovered exactly where no opening is right and t or more shares are accepted; the t lowest members serve
  pub recovers : (v : Element) → (secret_by J S b d ≡ Recovered v)
      ↔ ((RightlyOpened S b d → ⊥) × (S.t ≤ length (shares_by J S b d)) × (v.0 ≡ recovered_from S.group b (take S.t (shares_by J S b d))))
  pub lowest-first : Ascending (map (λ i. member_of (record_at b i)) (shares_by J S b d))
  -- stuck exactly where no opening is right and fewer than t shares are accepted
  pub stuck : (secret_by J S b d ≡ Stuck) ↔ ((RightlyOpened S b d → ⊥) × (length (shares_by J S b d) < S.t))

abbrev pub VerdictRules : Type 0
VerdictRules = (J : Judges) (S : Setting) → ProperSetting S → (b : List ℕ) → Met (board_checks S b) → (d : ℕ) → VerdictRule J S b d

-- ---- how a board ends
-- a board that a check before the verdicts refuses: "Verdicts are reached only on a board that no check before them refuses"
abbrev pub RefusedBefore : Type 0
RefusedBefore = (J : Judges) (S : Setting) (b : List ℕ) (k : Refusal) → FirstUnmet k (board_checks S b) → draw_in J S b ≡ Err k

abbrev pub SomeStuck : Judges → Setting → List ℕ → Type 0
SomeStuck J S b = (d : ℕ) × (1 ≤ d) × (d ≤ S.n) × (verdict_on J S b d ≡ Accepted Stuck)

-- the draw is the product modulo p of the secrets of the accepted dealings, of which none is stuck
abbrev pub DrawnBySecrets : Judges → Setting → List ℕ → Element → Type 0
DrawnBySecrets J S b v =
    (SomeStuck J S b → ⊥) × (v.0 ≡ product_of S.group.p (map (λ d. secret_value (secret_by J S b d)) (accepted_dealers J S b)))

-- the draw is what the t lowest members with accepted added shares recover; a dealing is stuck
abbrev pub DrawnByAdded : Judges → Setting → List ℕ → Element → Type 0
DrawnByAdded J S b v =
    SomeStuck J S b × (S.t ≤ length (added_by J S b)) × (v.0 ≡ recovered_from S.group b (take S.t (added_by J S b)))

-- a board whose verdicts are reached: after all verdicts 14 fewer than t accepted, then 13 a stuck dealing where fewer than t added shares
-- are accepted
pub record EndRule (J : Judges) (S : Setting) (b : List ℕ) : Type 0 where
  -- the count of accepted dealings, stuck ones included
  pub count : count_accepted (verdicts_on J S b) ≡ length (accepted_dealers J S b)
  -- 14 exactly where fewer than t dealings are accepted
  pub fourteen : (draw_in J S b ≡ Err TooFew) ↔ (length (accepted_dealers J S b) < S.t)
  -- 13 exactly where t or more are accepted, one is stuck, and fewer than t added shares are accepted
  pub thirteen : (draw_in J S b ≡ Err StillStuck) ↔ ((S.t ≤ length (accepted_dealers J S b)) × SomeStuck J S b × (length (added_by J S b) < S.t))
  -- a draw exactly where t or more are accepted and it comes from the secrets or, where one is stuck, from added shares
  pub drawn : (v : Element) → (draw_in J S b ≡ Ok v)
      ↔ ((S.t ≤ length (accepted_dealers J S b)) × (DrawnBySecrets J S b v ⊎ DrawnByAdded J S b v))
  pub lowest-first : Ascending (map (λ i. member_of (record_at b i)) (added_by J S b))

abbrev pub EndRules : Type 0
EndRules = (J : Judges) (S : Setting) → ProperSetting S → (b : List ℕ) → Met (board_checks S b) → EndRule J S b

-- ---- demand 3, two boards
-- the dealing of d on the board b is carried by f, its accepted shares are true, and it is rightly opened or has t or more of them
pub record Recoverable (J : Judges) (S : Setting) (b : List ℕ) (d : ℕ) (f : List ℕ) : Type 0 where
  pub carries : Carries S f (commitments_of S b d)
  pub true-shares : (i : ℕ) → i < records_in b → is_share_by J S b d i ≡ true
      → Z_of (record_at b i) ≡ power_of_h S.group (value_at S.group.q f (member_of (record_at b i)))
  pub revealed : Revealed J S b d

-- no check before the verdicts refuses the board, and every accepted dealing is recoverable, that of d with the polynomial f d
pub record AllRecoverable (J : Judges) (S : Setting) (b : List ℕ) (f : ℕ → List ℕ) : Type 0 where
  pub reached : Met (board_checks S b)
  pub recoverable : (d : ℕ) → 1 ≤ d → d ≤ S.n → is_accepted J S b d ≡ true → Recoverable J S b d (f d)

-- on the board b in the setting S and the board c in T the same dealers' dealings are accepted, and each has the same commitments; keys, Y
-- and all else may differ
pub record SameDealings (J : Judges) (S T : Setting) (b c : List ℕ) : Type 0 where
  pub dealers : (d : ℕ) → 1 ≤ d → d ≤ S.n → is_accepted J S b d ≡ is_accepted J T c d
  pub commitments : (d : ℕ) → 1 ≤ d → d ≤ S.n → is_accepted J S b d ≡ true → commitments_of S b d ≡ commitments_of T c d

-- the product modulo p of the h^s of the accepted dealings, that of d with the polynomial f d
abbrev pub secrets_of : Judges → Setting → List ℕ → (ℕ → List ℕ) → ℕ
secrets_of J S b f = product_of S.group.p (map (λ d. power_of_h S.group (secret_of S (f d))) (accepted_dealers J S b))

-- ---- added shares
-- the sum of the polynomials of the accepted dealings, that of d with the polynomial f d
abbrev pub sum_on : Judges → Setting → List ℕ → (ℕ → List ℕ) → List ℕ
sum_on J S b f = sum_of S (map f (accepted_dealers J S b))

-- every accepted dealing is carried, that of d by the polynomial f d
abbrev pub AllCarried : Judges → Setting → List ℕ → (ℕ → List ℕ) → Type 0
AllCarried J S b f = (d : ℕ) → 1 ≤ d → d ≤ S.n → is_accepted J S b d ≡ true → Carries S (f d) (commitments_of S b d)

-- no check before the verdicts refuses the board, every accepted dealing is carried, one is stuck, and t or more added shares are
-- accepted, of which those of the t lowest members are true to the sum
pub record AddedTrue (J : Judges) (S : Setting) (b : List ℕ) (f : ℕ → List ℕ) : Type 0 where
  pub reached : Met (board_checks S b)
  pub carried : AllCarried J S b f
  pub stuck : SomeStuck J S b
  pub enough : S.t ≤ length (added_by J S b)
  pub true-shares : All (λ i. Z_of (record_at b i) ≡ power_of_h S.group (value_at S.group.q (sum_on J S b f) (member_of (record_at b i)))) (take S.t (added_by J S b))

-- the board ends by separate secrets or by added shares, and what it ends by is true
abbrev pub EitherTrue : Judges → Setting → List ℕ → (ℕ → List ℕ) → Type 0
EitherTrue J S b f = AllRecoverable J S b f ⊎ AddedTrue J S b f

-- ---- two boards
-- what is asked of a board, by which it ends in a draw
abbrev pub Asked : Type 1
Asked = Judges → Setting → List ℕ → (ℕ → List ℕ) → Type 0

-- F. Any two boards of one group, n and t with the same accepted dealings, at least t of them, each carried by a polynomial of degree
-- below t, end in the same draw value, the product of the h^s modulo p, if on each board every one of these dealings is rightly opened
-- or has t or more accepted shares and all accepted shares are true: what is asked of each is then AllRecoverable. With EitherTrue each
-- of them may as well end by added shares that are true. The polynomials may be named differently for the two boards; draw₁ b and draw₂ c
-- are what is answered for the board b in the setting S and for the board c in T.
abbrev pub TwoBoards : Asked → Judges → Setting → Setting → (List ℕ → Outcome Element) → (List ℕ → Outcome Element) → Type 0
TwoBoards A J S T draw₁ draw₂ =
    (b c : List ℕ) (f₁ f₂ : ℕ → List ℕ) → A J S b f₁ → A J T c f₂ → SameDealings J S T b c
    → S.t ≤ length (accepted_dealers J S b)
    → (draw₁ b ≡ Ok (record { 0 = secrets_of J S b f₁ })) × (draw₂ c ≡ Ok (record { 0 = secrets_of J S b f₁ }))

-- in every two proper settings of one group, n and t: what is accepted decides the draw value, and neither the number that the group has in a
-- table, nor the round, nor the rule by which challenges were made; nothing is asked of the judges
abbrev pub SameDraw : Asked → Judges → Type 0
SameDraw A J = (S T : Setting) → ProperSetting S → ProperSetting T → OneGroup S T → TwoBoards A J S T (draw_in J S) (draw_in J T)

-- ---- over a table and a round
-- what the board judge answers: it refuses a table or a round that their checks refuse by that number. The setting of any other is proper,
-- whichever group of an accepted table it has, and the board judge answers what it answers there, so F holds of its answers: for two offices,
-- each with a table and a round of its own, where the two rounds have one n and t, and each the same group under its number in its table
pub record DrawOverRound (A : Asked) (J : Judges) (T : List ℕ) (R : Round) : Type 0 where
  pub refuses : (b : List ℕ) (k : Refusal) → FirstUnmet k (round_checks T R) → draw_outcome J T R b ≡ Err k
  pub proper : Met (round_checks T R) → ProperSetting (setting_in T R)
  pub draw-in : Met (round_checks T R) → (b : List ℕ) → draw_outcome J T R b ≡ draw_in J (setting_in T R) b
  pub same-draw : Met (round_checks T R) → (T' : List ℕ) (R' : Round) → Met (round_checks T' R') → OneGroup (setting_in T R) (setting_in T' R')
      → TwoBoards A J (setting_in T R) (setting_in T' R') (draw_outcome J T R) (draw_outcome J T' R')

abbrev pub DrawByRound : Asked → Judges → Type 0
DrawByRound A J = (T : List ℕ) (R : Round) → DrawOverRound A J T R
