-- The turns of the loop over a chain's links: what the checks from the link i on give, by those of the link i and those from the next on.
use mathlib.Core.Path.{◌≡◌, refl, sym, ap, ◌∙◌}
use mathlib.Core.Bool.{Bool, true, false, ◌&&◌}
use mathlib.Core.List.{List, ◌++◌}
use Prim.Native.Nat.{ℕ, suc, ◌+◌, ◌-◌, ◌<◌, ◌≤◌}
use native.Mathlib.Omega.{arith}
use borrow.Author.Tests.{le-ltb, ne_eqb}
use lib.Dec.{ltb, eqb}
use Rattle.std.specs.Prelude.{Ok, Err}
use Rattle.words.specs.Checks.{Check, Outcome, outcome}
use Rattle.words.specs.declared.Record.{Record}
use Rattle.words.specs.declared.refusal.Refusal.{Refusal}
use Rattle.words.specs.declared.refusal.Refusal.TheVariants.{BadLength}
use Rattle.words.proofs.Tests.{pick-false}
use Rattle.words.proofs.Stages.{stage-met, stage-refused, rest-outcome}
use Rattle.group.specs.declared.Group.{Group}
use Rattle.chain.specs.Link.{link_checks}
use Rattle.group.specs.Table.{groups_of}
use Rattle.chain.specs.Chain.{links_in, figures_at, digest_at, digest_after, links_checks, chain_checks, chain_outcome, next_checks, extend_checks}

-- the checks of the link i
abbrev pub checks_at : List Group → List ℕ → ℕ → List Check
checks_at Gs b i = link_checks Gs (digest_after b i) (suc i) (figures_at b i) (digest_at b i)

-- what the checks of the links from i on come to, m links in all
abbrev pub outcome_from : List Group → List ℕ → ℕ → ℕ → Outcome (Unit {0})
outcome_from Gs b m i = outcome (links_checks Gs b i (m - i)) tt

module _ (Gs : List Group) (b : List ℕ) (m i : ℕ) (h : i < m) where
  turn : outcome_from Gs b m i ≡ outcome (checks_at Gs b i ++ links_checks Gs b (suc i) (m - (i + 1))) tt
  turn = let e : m - i ≡ suc (m - (i + 1)) = omega arith in ap (λ (k : ℕ). outcome (links_checks Gs b i k) (tt {0})) e

  next : suc i ≡ i + 1
  next = omega arith

  -- the link i by what its function answers, from the digest kept and the records read
  module _ {before figures digest : Record} (d : before ≡ digest_after b i) (f : figures ≡ figures_at b i) (g : digest ≡ digest_at b i) where
    found : outcome (link_checks Gs before (i + 1) figures digest) (tt {0}) ≡ outcome (checks_at Gs b i) (tt {0})
    found j = outcome (link_checks Gs (d j) (sym next j) (f j) (g j)) tt

    pub link_refused : {k : Refusal} → Err k ≡ outcome (link_checks Gs before (i + 1) figures digest) (tt {0}) → Err k ≡ outcome_from Gs b m i
    link_refused e = stage-refused (checks_at Gs b i) (links_checks Gs b (suc i) (m - (i + 1))) (e ∙ found) tt ∙ sym turn

    pub link_passed : Ok tt ≡ outcome (link_checks Gs before (i + 1) figures digest) (tt {0}) → outcome_from Gs b m i ≡ outcome_from Gs b m (i + 1)
    link_passed e =
        turn
        ∙ sym (rest-outcome (checks_at Gs b i) (links_checks Gs b (suc i) (m - (i + 1))) (stage-met (checks_at Gs b i) (e ∙ found)) tt)
        ∙ ap (λ (j : ℕ). outcome (links_checks Gs b j (m - (i + 1))) (tt {0})) next

-- ---- an extension of an accepted chain
pub behind_chain : (T b : List ℕ) (number v room : ℕ) → Ok tt ≡ chain_outcome T b
    → outcome (extend_checks T b number v room) (tt {0}) ≡ outcome (next_checks (groups_of T) b number v room) tt
unfolding chain_outcome extend_checks
behind_chain T b number v room e =
    sym (rest-outcome (chain_checks T b) (next_checks (groups_of T) b number v room) (stage-met (chain_checks T b) e) tt)

-- it is refused by 3 where the chain is full, and where there is not the room of one link
module _ (T b : List ℕ) (number v room : ℕ) (e : Ok tt ≡ chain_outcome T b) where
  without-room : (ltb (links_in b) 1024 && eqb room 64) ≡ false → outcome (extend_checks T b number v room) (tt {0}) ≡ Err BadLength
  without-room f = behind_chain T b number v room e ∙ pick-false _ _ (Err BadLength) f

  pub full_refused : 1024 ≤ links_in b → outcome (extend_checks T b number v room) (tt {0}) ≡ Err BadLength
  full_refused h = without-room (ap (λ (x : Bool). x && eqb room 64) (le-ltb (links_in b) 1024 h))

  pub room_refused : (room ≡ 64 → ⊥) → outcome (extend_checks T b number v room) (tt {0}) ≡ Err BadLength
  room_refused n = without-room (last-false (ltb (links_in b) 1024) (ne_eqb room 64 n))
    where
      last-false : (x : Bool) {y : Bool} → y ≡ false → (x && y) ≡ false
      last-false true e = e
      last-false false e = refl
