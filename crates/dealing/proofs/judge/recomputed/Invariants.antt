-- `recomputed` meets its contract. The loop's invariant: two arrays hold the announcements of the first i members, and 0 behind.
use mathlib.Core.List.{List}
use mathlib.Core.Path.{◌≡◌}
use Prim.Native.Nat.{ℕ}
use Rattle.words.specs.Lists.{map, filled, entry}
use Rattle.group.specs.declared.Group.{Group}
use Rattle.sharing.specs.Setting.{members}
use Rattle.equality.specs.Equality.{announced}
use Rattle.lines.specs.declared.Columns.{Columns}
use Rattle.dealing.proofs.judge.recomputed.Given as goal

-- the announcements of member i
abbrev pub first_of : Group → Columns → ℕ → ℕ
first_of G figures i = announced G G.g.0 (entry figures.vs i) (entry figures.cs i) (entry figures.rs i)

abbrev pub second_of : Group → List ℕ → Columns → ℕ → ℕ
second_of G ys figures i = announced G (entry ys i) (entry figures.encrypted i) (entry figures.cs i) (entry figures.rs i)

abbrev pub invariant-loop-i : goal.invariant-loop-i
invariant-loop-i l =
    let is = members l.i in
    (l.a1s ≡ filled 31 (map (first_of l.s.group l.figures) is)) × (l.a2s ≡ filled 31 (map (second_of l.s.group l.ys l.figures) is))
