-- `groups::built_in` meets its contract: at each number of a built-in group the definition computes to it, at any other to the refusal.
use mathlib.Core.Path.{◌≡◌}
use mathlib.Core.Bool.{false}
use Prim.Native.Nat.{ℕ}
use native.Mathlib.Decide.{dec_le}
use native.Mathlib.Omega.{arith}
use borrow.Author.Tests.{le-leb, lt-leb}
use Rattle.group.specs.Table.{built_in, is_group, group_of}
use Rattle.group.proofs.groups.built_in.Goals as goal

pub returns-in-1 : goal.returns-in-1
unfolding is_group group_of
returns-in-1 c = rw c.in-1.is

pub returns-in-2 : goal.returns-in-2
unfolding is_group group_of
returns-in-2 c = rw c.in-2.is

pub returns-in-3 : goal.returns-in-3
unfolding is_group group_of
returns-in-3 c = rw c.in-3.is

no-group : (k : ℕ) → (k ≡ 1 → ⊥) → (k ≡ 2 → ⊥) → (k ≡ 3 → ⊥) → is_group built_in k ≡ false
unfolding is_group
no-group k a b c =
    elim (dec_le 1 k) [
      | yes h ↦ simp (le-leb 1 k h, lt-leb k 3 (omega arith))
      | no h ↦ simp (lt-leb 1 k (omega arith))
    ]

pub returns-in_default : goal.returns-in_default
returns-in_default c = rw (no-group c.args.number (λ e. omega arith) (λ e. omega arith) (λ e. omega arith))
