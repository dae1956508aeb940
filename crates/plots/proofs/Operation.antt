-- What the checks of the operation settle, and what the lent list holds afterwards.
use mathlib.Core.Path.{◌≡◌, refl, sym, ◌∙◌}
use mathlib.Core.Bool.{Bool, true, false, ◌||◌}
use mathlib.Core.List.{List, ◌++◌}
use Prim.Native.Nat.{ℕ, ◌≤◌, ◌<◌}
use native.Mathlib.Omega.{arith}
use borrow.Author.Tests.{leb-true, eqb-true}
use lib.Dec.{leb, eqb}
use lib.ListN.{length}
use Rattle.words.specs.Checks.{Check, Met}
use Rattle.words.proofs.Tests.{and-true}
use Rattle.words.proofs.Stages.{met-both}
use Rattle.words.proofs.Checks.{if-met, if-unmet, value-exactly, refused-exactly}
use Rattle.group.specs.Table.{groups_of, group_of, group_checks, in_group, in_group_else}
use Rattle.group.specs.declared.Element.{Element}
use Rattle.plots.specs.Picked.{is_radius, picked, plot_checks, pick_checks, pick_outcome, lent_plots}
use Rattle.plots.specs.Claims.{PickLent, SamePlots}
use Rattle.plots.proofs.Picked.{picked-exactly}
use Rattle.std.specs.Prelude.{Ok, Err}
use Rattle.words.specs.declared.refusal.Refusal.{Refusal}

-- ---- what the checks settle
pub record Pickable (radius N k room : ℕ) : Type 0 where
  pub radius-low : radius < 256
  pub N-most : N ≤ 4096
  pub k-most : k ≤ N
  pub size : room ≡ k

module _ (radius N k room : ℕ) where
  radius-fits : is_radius radius ≡ true → radius < 256
  radius-fits = by-test (eqb radius 10) refl
    where
      by-test : (t : Bool) → eqb radius 10 ≡ t → (t || eqb radius 15) ≡ true → radius < 256
      by-test true e h = omega (arith, eqb-true radius 10 e)
      by-test false e h = omega (arith, eqb-true radius 15 h)

  pub pickable : Met (plot_checks radius N k room) → Pickable radius N k room
  pickable m =
      let c = (and-true (leb 1 N) _ m.1.0).1 in
      let d = and-true (leb N 4096) _ c in
      record {
        radius-low = radius-fits m.0;
        N-most = leb-true N 4096 d.0;
        k-most = leb-true k N (and-true (leb 1 k) _ d.1).1;
        size = eqb-true room k m.1.1.0;
      }

-- ---- by a table and the number of a group
module _ (T : List ℕ) (number : ℕ) (v : Element) (radius N k : ℕ) (out : List ℕ) where
  abbrev own : List Check
  own = pick_checks (group_of (groups_of T) number) v radius N k (length out)

  passed-lent : pick_outcome T number v radius N k (length out) ≡ Ok tt
      → (k ≤ N) × (lent_plots T number v radius N k out ≡ picked v.0 radius N k)
  unfolding pick_outcome lent_plots in_group in_group_else
  passed-lent e =
      let m = (value-exactly Unit (group_checks T number ++ own) tt).0 e in
      let w = (met-both (group_checks T number) own m).1 in
      ((pickable radius N k (length out) w.1).k-most, if-met (picked v.0 radius N k) out (group_checks T number ++ own) m)

  refused-lent : (i : Refusal) → pick_outcome T number v radius N k (length out) ≡ Err i → lent_plots T number v radius N k out ≡ out
  unfolding pick_outcome lent_plots in_group in_group_else
  refused-lent i e =
      let cs = group_checks T number ++ own in
      if-unmet (picked v.0 radius N k) out cs i ((refused-exactly Unit cs tt i).0 e)

-- ---- the claims
pub pick-lent : PickLent
pick-lent T number v radius N k out =
    record {
      passed = λ e. let w = passed-lent T number v radius N k out e in (w.1, (picked-exactly v.0 radius N k w.0 _).0 w.1);
      kept = refused-lent T number v radius N k out;
    }

pub same-plots : SamePlots
same-plots T T' number number' v radius N k out out' e f =
    (passed-lent T number v radius N k out e).1 ∙ sym (passed-lent T' number' v radius N k out' f).1
