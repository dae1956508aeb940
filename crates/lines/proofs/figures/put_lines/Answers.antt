-- `put_lines` meets its contract. The loop's invariant: what is written, with the lines that are left, is all the lines.
use mathlib.Core.Path.{◌≡◌, refl, sym, ap, ◌∙◌}
use Prim.Native.Nat.{ℕ, ◌+◌, ◌-◌, ◌*◌, ◌<◌}
use native.Mathlib.Omega.{arith}
use lib.ListN.{length}
use Rattle.words.specs.Bytes.{record_bytes}
use Rattle.words.proofs.Lists.{up-length, entry_at}
use Rattle.sharing.specs.Setting.{members}
use Rattle.sharing.proofs.EachMember.{index-within, number_at}
use Rattle.records.specs.Layout.{line_layout}
use Rattle.lines.specs.Columns.{line_from}
use Rattle.lines.proofs.Parts.{lines_next, lines-end}
use Rattle.lines.proofs.figures.put_lines.Goals as goal

pub loop-i-init : goal.loop-i-init
loop-i-init c = refl

pub loop-i-preserved : goal.loop-i-preserved
loop-i-preserved c =
    let a = c.args in
    let l = c.loop-i in
    let i : ℕ = l.i in
    let h : i < a.n = c.loop-i-test.true in
    let line = c.write_record.ensures ∙ ap record_bytes c.line_record-line.ensures
    ∙ (λ j. record_bytes (line_layout a.d (i + 1) (entry_at a.vs.now i j) (entry_at a.encrypted.now i j) (entry_at a.rs.now i j) a.c.0 a.round)) in
    let size : 32 * i + 32 - 32 * i ≡ 32 = omega arith in
    l.invariant
    ∙ lines_next (line_from a.round a.d a.vs.now a.encrypted.now a.rs.now a.c.0) (members a.n) i l.out
    (index-within a.n i h) (omega arith) size (number_at a.n i h) line

pub returns : goal.returns
returns c =
    let a = c.args in
    let l = c.loop-i in
    let end : l.i ≡ length (members a.n) = omega (arith, up-length 1 a.n) in
    sym (l.invariant ∙ lines-end (line_from a.round a.d a.vs.now a.encrypted.now a.rs.now a.c.0) (members a.n) l.i l.out end (omega (arith, up-length 1 a.n)))
