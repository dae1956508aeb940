-- `put_first` meets its contract: the keys are written and sorted, and the plots of the first ones are the picked ones.
use mathlib.Core.Path.{ap, ◌∙◌}
use mathlib.Core.List.{List}
use Prim.Native.Nat.{ℕ}
use lib.Dec.{ltb}
use lib.ListN.{length, take}
use Rattle.words.specs.Lists.{map}
use Rattle.plots.specs.Picked.{sorted}
use Rattle.plots.specs.Sorting.{plot_of}
use Rattle.plots.proofs.Ascending.{ascending-sorted}
use Rattle.plots.proofs.Keys.{picked-keys}
use Rattle.plots.proofs.put_first.Goals as goal

pub returns : goal.returns
returns c =
    let a = c.args in
    let n : ℕ = length a.keys.now in
    let keys = ascending-sorted c.put_keys.new.keys c.sort_unstable.new.self c.sort_unstable.ensures.permutation c.sort_unstable.ensures.sorted
    ∙ ap (sorted ltb) c.put_keys.ensures in
    let plots = c.put_plots.ensures ∙ ap (λ (l : List ℕ). map plot_of (take (length a.out.now) l)) keys
    ∙ picked-keys a.value.0 a.radius n (length a.out.now) c.requires.0 in
    record { keys_after = keys; out_after = plots }
