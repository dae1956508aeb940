-- `groups::group_in` meets its contract: no bytes leave the number to the built-in groups, else the number of records decides.
use mathlib.Core.Path.{sym, ap, ◌∙◌}
use mathlib.Core.List.{List}
use native.Mathlib.Omega.{arith}
use Rattle.group.specs.Table.{groups_of, looked_up}
use Rattle.group.specs.declared.Group.{Group}
use Rattle.group.proofs.Turns.{no_bytes, number-zero, number-high, number_at}
use Rattle.group.proofs.groups.group_in.Goals.{then-number-lt1-via-then-number-lt1, then-number-lt1-via-else-number-lt1+then-number-table}
use Rattle.group.proofs.groups.group_in.Goals as goal
use Rattle.std.specs.Prelude.{Ok}

pub returns-then-table-eq0 : goal.returns-then-table-eq0
returns-then-table-eq0 c =
    let a = c.args in
    c.built_in.ensures ∙ ap (λ (Gs : List Group). looked_up Gs a.number) (sym (no_bytes _ c.if-table-eq0.true))

pub returns-then-number-lt1 : goal.returns-then-number-lt1
returns-then-number-lt1 c =
    let a = c.args in
    elim c.then-number-lt1.branch [
      | then-number-lt1-via-then-number-lt1 w ↦ simp (number-zero (groups_of a.table.now) a.number w.if-number-lt1.true)
      | then-number-lt1-via-else-number-lt1+then-number-table w ↦
          simp (number-high a.table.now a.number c.if-table-eq0.false w.if-number-lt1.false w.if-number-table.true)
    ]

pub group_at-requires : goal.group_at-requires
group_at-requires c = omega arith

pub returns : goal.returns
returns c =
    let a = c.args in
    let s = number_at a.table.now a.number c.if-table-eq0.false c.if-number-lt1.false c.if-number-table.false in
    ap Ok c.group_at.ensures ∙ sym (simp (s.0, s.1))
