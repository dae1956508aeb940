-- `put_next` meets its contract: the figures and the digest are written, one behind the other.
use mathlib.Core.Path.{sym, ap, ◌∙◌}
use mathlib.Core.List.{◌++◌}
use Prim.Native.Nat.{◌+◌}
use native.Mathlib.Omega.{arith}
use lib.Seq.{length-take-le}
use Rattle.words.specs.Bytes.{record_bytes}
use Rattle.chain.specs.Link.{link_layout, link_digest}
use Rattle.chain.specs.Chain.{links_in, digest_after, next_link}
use Rattle.chain.proofs.Written.{link-put}
use Rattle.chain.proofs.put_next.Goals as goal

pub slice_bounds-write_record-end-2 : goal.slice_bounds-write_record-end-2
slice_bounds-write_record-end-2 c = sym (length-take-le 32 c.args.out.now (omega (arith, c.requires.1)))

pub write_record-requires : goal.write_record-requires
write_record-requires c = length-take-le 32 c.args.out.now (omega (arith, c.requires.1))

pub returns : goal.returns
unfolding next_link
returns c =
    let a = c.args in
    let b = a.b.now in
    let round = c.links.result + 1 in
    let digest = c.link_digest-digest.ensures ∙ (λ j. link_digest (c.last_digest.ensures j) a.value.0 round) in
    link-put (link_layout round a.value.0 a.number) (c.write_record.ensures ∙ ap record_bytes c.link_record.ensures)
    (link_digest (digest_after b (links_in b)) a.value.0 round) a.out.now c.requires.1 (c.write_record-2.ensures ∙ ap record_bytes digest)
    ∙ (λ j. record_bytes (link_layout (c.links.ensures j + 1) a.value.0 a.number) ++ record_bytes (link_digest (digest_after b (links_in b)) a.value.0 (c.links.ensures j + 1)))
