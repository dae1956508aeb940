-- `found_keys` meets its contract: the first member without a key decides, and behind the last one the array holds all keys.
use mathlib.Core.Path.{◌≡◌, refl, ap, ◌∙◌}
use Prim.Native.Nat.{◌+◌, ◌<◌, ◌≤◌}
use native.Mathlib.Omega.{arith}
use borrow.Author.Tests.{lt-ltb, le-ltb}
use Rattle.words.specs.Bytes.{records_in, record_at}
use Rattle.words.specs.declared.Record.{Record}
use Rattle.words.proofs.Lists.{filled_none}
use Rattle.sharing.proofs.EachMember.{members-next, tests-stop, tests-next, tests-end}
use Rattle.records.specs.Layout.{y_of}
use Rattle.board.specs.Board.{key_place, key_in}
use Rattle.board.specs.Loops.{found_keys}
use Rattle.board.proofs.keys.found_keys.Goals as goal

pub loop-i-init : goal.loop-i-init
loop-i-init c = record { tested = refl; found = filled_none 31 }

pub returns-then-place-record_count : goal.returns-then-place-record_count
unfolding found_keys
returns-then-place-record_count c =
    let l = c.loop-i in
    let b = c.args.b.now in
    let none : records_in b ≤ key_place b (l.i + 1) = omega (arith, c.record_count.ensures, c.find_key-place.ensures) in
    simp (← tests-stop _ _ l.i l.invariant.tested (omega arith) (le-ltb _ _ none))

pub loop-i-preserved : goal.loop-i-preserved
unfolding key_in
loop-i-preserved c =
    let l = c.loop-i in
    let b = c.args.b.now in
    let found : key_place b (l.i + 1) < records_in b = omega (arith, c.record_count.ensures, c.find_key-place.ensures) in
    let key = ap (λ (r : Record). y_of r) (c.record_at.ensures ∙ ap (record_at b) c.find_key-place.ensures) in
    record {
      tested = tests-next _ _ l.i l.invariant.tested (omega arith) (lt-ltb _ _ found);
      found = members-next _ l.i l.invariant.found (omega arith) key;
    }

pub returns : goal.returns
unfolding found_keys
returns c =
    let l = c.loop-i in
    let a = c.args in
    let end : l.i ≡ a.n = omega arith in
    simp (← tests-end _ _ l.i l.invariant.tested end, l.invariant.found, end)
