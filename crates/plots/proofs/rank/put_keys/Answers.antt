-- `put_keys` meets its contract. The loop's invariant: the first i places hold the keys of the first i plots.
use mathlib.Core.Path.{refl, sym, ap, ◌∙◌}
use Prim.Native.Nat.{ℕ, ◌<◌}
use native.Mathlib.Omega.{arith}
use lib.ListN.{length}
use Rattle.words.specs.Lists.{up_from}
use Rattle.words.proofs.Lists.{map-length, map_at, up-length, up_at}
use Rattle.plots.specs.Rank.{rank}
use Rattle.plots.specs.Sorting.{sort_key}
use Rattle.plots.proofs.Loops.{copied_next}
use Rattle.plots.proofs.rank.put_keys.Goals as goal

pub loop-i-init : goal.loop-i-init
loop-i-init c =
    let a = c.args in
    let n : ℕ = length a.keys.now in
    record { size = sym (map-length (sort_key (rank a.value.0 a.radius)) (up_from 1 n) ∙ up-length 1 n); front = refl }

pub loop-i-preserved : goal.loop-i-preserved
loop-i-preserved c =
    let l = c.loop-i in
    let a = c.args in
    let f = sort_key (rank a.value.0 a.radius) in
    let n : ℕ = length a.keys.now in
    let h : l.i < n = omega arith in
    let s = map-length f (up_from 1 n) ∙ up-length 1 n in
    copied_next l.invariant (omega (arith, s))
    (c.key.ensures ∙ sym (map_at f (up_from 1 n) l.i 0 0 (omega (arith, up-length 1 n)) ∙ ap f (up_at 1 n l.i h ∙ omega arith)))
