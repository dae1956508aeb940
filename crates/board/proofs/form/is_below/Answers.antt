-- `is_below` meets its contract: in the order of tuples too the first word in which the addresses differ decides.
use mathlib.Core.Path.{◌≡◌, refl, ap, ◌∙◌}
use Prim.Native.Nat.{ℕ}
use native.Mathlib.Decide.{dec_lt}
use native.Mathlib.Omega.{arith}
use borrow.Author.Tests.{eq-eqb, ne_eqb, lt-ltb, le-ltb}
use lib.Dec.{eqb, ltb}
use Rattle.std.proofs.Common.{Option, Some, Ordering, Less, Equal, Greater}
use Rattle.std.specs.Ordering.{nat_cmp, partial_ordering_then, is_some_and, is_lt}
use Rattle.words.specs.Choice.{pick}
use Rattle.board.specs.Board.{is_below}
use Rattle.board.proofs.form.is_below.Goals as goal

-- one word decides, and where it is the same what stands behind it
word : (x y : ℕ) (p : Option Ordering) → is_some_and is_lt (partial_ordering_then (Some (nat_cmp x y)) p) ≡ pick (eqb x y) (is_some_and is_lt p) (ltb x y)
word x y p = elim (dec_lt x y) [
  | yes h ↦ simp (lt-ltb x y h, ne_eqb x y (λ e. omega arith))
  | no h ↦
      elim (dec_lt y x) [
        | yes g ↦ simp (le-ltb x y (omega arith), ne_eqb x y (λ e. omega arith))
        | no g ↦ let e : x ≡ y = omega arith in simp (le-ltb x y (omega arith), eq-eqb x y e)
      ]
]

last : (x y : ℕ) → is_some_and is_lt (Some (nat_cmp x y)) ≡ ltb x y
last x y = elim (dec_lt x y) [
  | yes h ↦ simp (lt-ltb x y h)
  | no h ↦
      elim (dec_lt y x) [
        | yes g ↦ simp (le-ltb x y (omega arith), ne_eqb x y (λ e. omega arith))
        | no g ↦ let e : x ≡ y = omega arith in simp (le-ltb x y (omega arith), eq-eqb x y e)
      ]
]

grouped : (o : Ordering) (p q : Option Ordering) → partial_ordering_then (partial_ordering_then (Some o) p) q ≡ partial_ordering_then (Some o) (partial_ordering_then p q)
grouped Less p q = refl
grouped Equal p q = refl
grouped Greater p q = refl

pub returns : goal.returns
unfolding is_below
returns c =
    let a = c.args in
    c.lt.ensures
    ∙ ap (is_some_and is_lt) (grouped (nat_cmp a.r.w0 a.k) (Some (nat_cmp a.r.w1 a.d)) (Some (nat_cmp a.r.w2 a.m)))
    ∙ word a.r.w0 a.k (partial_ordering_then (Some (nat_cmp a.r.w1 a.d)) (Some (nat_cmp a.r.w2 a.m)))
    ∙ simp (word, last)
