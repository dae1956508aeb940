-- What is claimed of added shares on judged boards, in every proper setting: what they are shares of, the draw value that true ones give,
-- and the last sentence of demand 3 with them. The last line reads that off for rounds.
use Rattle.std.specs.Prelude.{◌≡◌, List, ℕ, ◌≤◌, length, Ok}
use Rattle.sharing.specs.Setting.{ProperSetting}
use Rattle.sharing.specs.Carried.{Carries}
use Rattle.sharing.specs.declared.Setting.{Setting}
use Rattle.lines.specs.Lines.{v_in}
use Rattle.verdicts.specs.Shares.{Judges, judges}
use Rattle.verdicts.specs.Added.{accepted_dealers, multiplied}
use Rattle.verdicts.specs.Draw.{draw_in}
use Rattle.demand3.specs.Claims.{sum_on, AllCarried, AddedTrue, EitherTrue, secrets_of, SameDraw, DrawByRound}

-- Where polynomials of degree below t carry the accepted dealings, their sum carries the commitments multiplied member by member.
abbrev pub SumCarriesBoard : Type 0
SumCarriesBoard =
    (J : Judges) (S : Setting) → ProperSetting S → (b : List ℕ) (f : ℕ → List ℕ) → AllCarried J S b f
    → Carries S (sum_on J S b f) (multiplied J S b v_in)

-- Where a dealing is stuck and the t lowest members' accepted added shares are true to the sum, the draw value is the product modulo p
-- of the h^s of the accepted dealings, as if each had been opened.
abbrev pub AddedDraw : Type 0
AddedDraw =
    (J : Judges) (S : Setting) → ProperSetting S → (b : List ℕ) (f : ℕ → List ℕ) → AddedTrue J S b f
    → S.t ≤ length (accepted_dealers J S b) → draw_in J S b ≡ Ok (record { 0 = secrets_of J S b f })

-- Two boards as in demand 3, each ending by separate secrets or by true added shares, end in the same value: in any two settings of one
-- group, n and t, and as the board judge answers over tables and rounds.
pub record SameDrawEither : Type 0 where
  pub same-draw : SameDraw EitherTrue judges
  pub draw-by-round : DrawByRound EitherTrue judges
