-- Plots of equal rank in a picked list: the higher number first.
use mathlib.Core.Path.{◌≡◌, refl, sym, ◌∙◌}
use mathlib.Core.Bool.{true}
use Prim.Native.Nat.{ℕ, ◌<◌}
use borrow.Author.Tests.{ltb-true}
use Rattle.words.proofs.Lists.{All-to, Pairwise-to}
use Rattle.plots.specs.Rank.{rank, comes_before}
use Rattle.plots.specs.Picked.{picked}
use Rattle.plots.specs.Claims.{PickedFarFirst}
use Rattle.plots.proofs.Order.{higher, by_equal}
use Rattle.plots.proofs.Picked.{picked-exactly}

pub far-before : (r : ℕ → ℕ) (a b : ℕ) → comes_before r a b ≡ true → r a ≡ r b → b < a
unfolding comes_before
far-before r a b e f = ltb-true b a (sym (by_equal r higher a b f) ∙ e)

pub far-first : PickedFarFirst
far-first v radius N k h =
    let r = rank v radius in
    let xs = picked v radius N k in
    let I = (picked-exactly v radius N k h xs).0 refl in
    record {
      in_list = Pairwise-to xs (far-before r) I.in_order;
      left_out = λ a l u e. All-to xs (λ x. far-before r x a) (I.first a l u e);
    }
