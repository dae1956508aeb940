-- `record_place` meets its contract: the record at the address's place has the address, or none has.
use mathlib.Core.Path.{◌≡◌, sym, ap, ◌∙◌}
use mathlib.Core.Bool.{Bool}
use mathlib.Core.List.{List}
use Prim.Native.Nat.{ℕ}
use native.Mathlib.Omega.{arith}
use Rattle.words.specs.Bytes.{record_at}
use Rattle.words.specs.declared.Record.{Record}
use Rattle.board.specs.Board.{is_at, place_of}
use Rattle.board.proofs.Places.{only-record, no-record}
use Rattle.board.proofs.search.record_place.Goals as goal
use Rattle.board.proofs.search.record_place.Goals.{else-at-all-via-then-at-all+else-is_at, else-at-all-via-else-at-all}

-- the test of the record that was read at the place
at_place : (b : List ℕ) (k d m : ℕ) {p : ℕ} {r : Record} {s t : Bool} → p ≡ place_of b k d m → r ≡ record_at b p → s ≡ is_at r k d m → s ≡ t
    → is_at (record_at b (place_of b k d m)) k d m ≡ t
at_place b k d m h e f g = ap (λ (x : Record). is_at x k d m) (sym (e ∙ ap (record_at b) h)) ∙ sym f ∙ g

pub returns-then-is_at : goal.returns-then-is_at
returns-then-is_at c =
    let a = c.args in
    let e = at_place a.b.now a.k a.d a.m c.place_of-at.ensures c.record_at.ensures c.is_at.ensures c.if-is_at.true in
    c.place_of-at.ensures ∙ only-record c.requires a.k a.d a.m (place_of a.b.now a.k a.d a.m) (omega arith) e

pub returns-else-at-all : goal.returns-else-at-all
returns-else-at-all c =
    let a = c.args in
    let n = c.record_count-all.ensures in
    n
    ∙ no-record c.requires a.k a.d a.m
    (λ l.
    elim c.else-at-all.branch [
      | else-at-all-via-then-at-all+else-is_at w ↦
          at_place a.b.now a.k a.d a.m c.place_of-at.ensures w.record_at.ensures w.is_at.ensures w.if-is_at.false
      | else-at-all-via-else-at-all w ↦ absurd (omega (arith, n, c.place_of-at.ensures, w.if-at-all.false))
    ])
