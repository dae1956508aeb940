-- `challenge` meets its contract: a message of this length is not refused, and the digest gives the exponent.
use mathlib.Core.Path.{sym, ap, ◌∙◌}
use Prim.Native.Nat.{◌≤◌}
use native.Mathlib.Omega.{arith}
use lib.ListN.{length, take}
use lib.Seq.{length-take-le}
use Rattle.words.specs.Bytes.{record_bytes}
use Rattle.words.specs.declared.Record.{Record}
use Rattle.sha256.specs.Hash.{hash}
use Rattle.sha256.proofs.Values.{never-refused, answer-value}
use Rattle.challenge.specs.Exponent.{exponent_of}
use Rattle.challenge.specs.Message.{challenge_of}
use Rattle.challenge.proofs.message.challenge.Goals as goal

pub slice_bounds-digest-end : goal.slice_bounds-digest-end
slice_bounds-digest-end c = sym (length-take-le c.args.k c.args.m.now c.requires.1)

pub returns-in_default : goal.returns-in_default
returns-in_default c =
    let m = take c.args.k c.args.m.now in
    let short : length m ≤ 65536 = omega (arith, length-take-le c.args.k c.args.m.now c.requires.1, c.requires.2) in
    absurd (never-refused m c.digest.ensures short c.in_default.is)

pub returns : goal.returns
unfolding challenge_of hash
returns c =
    c.exponent_of.ensures ∙ ap (λ (d : Record). exponent_of c.args.s (record_bytes d)) (sym (answer-value (take c.args.k c.args.m.now) c.digest.ensures c.in-Ok.is))
