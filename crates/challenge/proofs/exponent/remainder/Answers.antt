-- `remainder` meets its contract: the number fits 64 bits, and a remainder is below q.
use mathlib.Core.Path.{sym, ap}
use Prim.Native.Nat.{ℕ, ◌%◌}
use borrow.Author.Rules.{rules}
use Rattle.words.proofs.Bytes.{word_number}
use Rattle.challenge.proofs.exponent.remainder.Goals as goal

pub returns : goal.returns
returns c = ap (λ (x : ℕ). x % c.args.q) (sym (word_number c.args.r c.args.w (search rules)))
