-- `groups::check_table` meets its contract: length, number and forms of the records decide, and then their groups one by one.
use borrow.Author.Tests.{eq-eqb, ne_eqb, le-leb, lt-leb}
use Rattle.words.specs.Bytes.{records_in}
use Rattle.words.proofs.Tests.{passed, failed}
use Rattle.group.specs.Table.{table_checks}
use Rattle.group.proofs.groups.check_table.Goals.{then-table-ne0-via-then-table-ne0, then-table-ne0-via-else-table-ne0+then-table-gt8}
use Rattle.group.proofs.groups.check_table.Goals as goal

pub returns-then-table-ne0 : goal.returns-then-table-ne0
unfolding table_checks
returns-then-table-ne0 c =
    let n = records_in c.args.table.now in
    elim c.then-table-ne0.branch [
      | then-table-ne0-via-then-table-ne0 w ↦ simp (ne_eqb _ 0 w.if-table-ne0.true)
      | then-table-ne0-via-else-table-ne0+then-table-gt8 w ↦ simp (eq-eqb _ 0 w.if-table-ne0.false, lt-leb n 8 w.if-table-gt8.true)
    ]

pub returns-then-not-are_groups : goal.returns-then-not-are_groups
unfolding table_checks
returns-then-not-are_groups c =
    let n = records_in c.args.table.now in
    simp (eq-eqb _ 0 c.if-table-ne0.false, le-leb n 8 c.if-table-gt8.false, failed c.are_groups.ensures c.if-not-are_groups.true-raw)

pub returns : goal.returns
unfolding table_checks
returns c =
    let n = records_in c.args.table.now in
    simp (eq-eqb _ 0 c.if-table-ne0.false, le-leb n 8 c.if-table-gt8.false, passed c.are_groups.ensures c.if-not-are_groups.false-raw)
    c.check_groups.ensures
