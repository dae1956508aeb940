-- `put_dealers` meets its contract: after i turns the lines of the first i dealers are written.
use Rattle.text.specs.Text.{dealer_lines}
use Rattle.text.specs.Buffer.{Written}
use Rattle.text.specs.Report.{verdicts_at}
use Rattle.text.proofs.report.put_dealers.Given as goal

abbrev pub invariant-loop-i : goal.invariant-loop-i
invariant-loop-i l = Written l.at (dealer_lines 1 (verdicts_at l.i l.verdicts)) l.initial.out l.out l.next
