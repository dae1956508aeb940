-- `with_rest` meets its contract: each word's remainder is taken behind that of the words before.
use Rattle.std.proofs.Common.{rules, ◌%◌}
use Rattle.std.proofs.lemmas.Iterator.{YieldsList-from_slice}
use Rattle.std.proofs.lemmas.Iterator.Consumers.{fold_from_yields_List}
use Rattle.words.specs.Bytes.{word_bytes, big_endian}
use Rattle.challenge.specs.Exponent.{last_words}
use Rattle.challenge.proofs.exponent.with_rest.Goals as goal

pub returns : goal.returns
returns c =
    let a = c.args in
    fold_from_yields_List _ (λ r w. big_endian r (word_bytes w) % a.q) a.r c.fold.result c.fold.ensures.ran
    (YieldsList-from_slice (last_words a.d) c.iter.ensures.rest) (λ r w s f k. search rules)
