-- `place_of` meets its contract: the records below the address stand before the others, and the search finds where these begin.
use Rattle.std.proofs.Common.{rules, of_calls, arith}
use Rattle.std.proofs.lemmas.List.Sorted.{IsPartitionPoint-from_clause}
use Rattle.words.specs.Bytes.{record_in}
use Rattle.board.specs.Board.{is_below}
use Rattle.board.proofs.Chunks.{below-parts, point-place}
use Rattle.board.proofs.search.place_of.Goals as goal

pub returns : goal.returns
returns c =
    let a = c.args in
    let h = c.partition_point.ensures in
    let S = c.requires in
    let e = c.as_chunks.ensures.front in
    point-place S a.k a.d a.m (omega (arith, h.bound, c.as_chunks.ensures.front_len))
    (IsPartitionPoint-from_clause (λ y. is_below (record_in y) a.k a.d a.m) _ _ (rw e at h.partitioned) (below-parts S a.k a.d a.m) (λ x r q k. search (rules, of_calls)))
