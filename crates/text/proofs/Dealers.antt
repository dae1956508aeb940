-- The lines of the dealers: one more behind the others, and the verdicts in the board judge's array.
use mathlib.Core.Path.{◌≡◌, sym, ap, ◌∙◌}
use mathlib.Core.List.{List, [], ◌∷◌, ◌++◌, append_assoc, append-nil}
use Prim.Native.Nat.{ℕ, zero, suc, ◌+◌, ◌≤◌, ◌<◌}
use native.Mathlib.Nat.{le_of_suc-le-suc, not-suc-le-zero}
use native.Mathlib.Omega.{arith}
use lib.ListN.{length, get_or, length-append}
use Rattle.verdicts.specs.declared.Verdict.{Verdict}
use Rattle.text.specs.Text.{dealer_line, dealer_lines}
use Rattle.text.specs.Buffer.{Room, Written}
use Rattle.text.specs.Report.{verdicts_at}
use Rattle.text.proofs.Writing.{written_as, room-rest, both}

-- the line of the dealer at place i, behind those of the places before
last_line : (d i : ℕ) (ws : List Verdict) (z : Verdict) → i < length ws
    → dealer_lines d (verdicts_at (suc i) ws) ≡ dealer_lines d (verdicts_at i ws) ++ dealer_line (d + i) (get_or ws i z)
last_line d i [] z h = absurd (not-suc-le-zero h)
last_line d zero (v ∷ ws) z h =
    let e : d ≡ d + 0 = omega arith in
    append-nil (dealer_line d v) ∙ ap (λ (x : ℕ). dealer_line x v) e
last_line d (suc i) (v ∷ ws) z h =
    let e : suc d + i ≡ d + suc i = omega arith in
    let l = dealer_line d v in
    let m = dealer_lines (suc d) (verdicts_at i ws) in
    ap (λ (t : List ℕ). l ++ t) (last_line (suc d) i ws z (le_of_suc-le-suc h))
    ∙ ap (λ (x : ℕ). l ++ (m ++ dealer_line x (get_or ws i z))) e
    ∙ sym (append_assoc l m (dealer_line (d + suc i) (get_or ws i z)))

lines-grow : (d i n : ℕ) (ws : List Verdict) → i ≤ n → length (dealer_lines d (verdicts_at i ws)) ≤ length (dealer_lines d (verdicts_at n ws))
lines-grow d zero n ws h = omega arith
lines-grow d (suc i) zero ws h = absurd (not-suc-le-zero h)
lines-grow d (suc i) (suc n) [] h = omega arith
lines-grow d (suc i) (suc n) (v ∷ ws) h =
    let l = dealer_line d v in
    omega (
      arith,
      length-append l (dealer_lines (suc d) (verdicts_at i ws)),
      length-append l (dealer_lines (suc d) (verdicts_at n ws)),
      lines-grow (suc d) i n ws (le_of_suc-le-suc h),
    )

-- ---- the turn of the loop over the dealers
module _ (k i n : ℕ) (ws : List Verdict) (z : Verdict) {l m : List ℕ} {j : ℕ}
    (room : Room k (dealer_lines 1 (verdicts_at n ws)) l) (here : i < length ws) (more : i < n)
    (w : Written k (dealer_lines 1 (verdicts_at i ws)) l m j) where
  next-lines : dealer_lines 1 (verdicts_at (i + 1) ws) ≡ dealer_lines 1 (verdicts_at i ws) ++ dealer_line (i + 1) (get_or ws i z)
  next-lines =
      let s : i + 1 ≡ suc i = omega arith in
      let e : 1 + i ≡ i + 1 = omega arith in
      ap (λ (x : ℕ). dealer_lines 1 (verdicts_at x ws)) s
      ∙ last_line 1 i ws z here
      ∙ ap (λ (x : ℕ). dealer_lines 1 (verdicts_at i ws) ++ dealer_line x (get_or ws i z)) e

  next-room : Room k (dealer_lines 1 (verdicts_at i ws) ++ dealer_line (i + 1) (get_or ws i z)) l
  next-room = record { fits = omega (arith, room.fits, ap length next-lines, lines-grow 1 (i + 1) n ws (omega arith)) }

  pub line-room : Room j (dealer_line (i + 1) (get_or ws i z)) m
  line-room = room-rest (dealer_lines 1 (verdicts_at i ws)) _ next-room w

  pub line-written : {o : List ℕ} {r : ℕ} → Written j (dealer_line (i + 1) (get_or ws i z)) m o r
      → Written k (dealer_lines 1 (verdicts_at (i + 1) ws)) l o r
  line-written v = written_as next-lines (both (dealer_lines 1 (verdicts_at i ws)) _ next-room w v)
