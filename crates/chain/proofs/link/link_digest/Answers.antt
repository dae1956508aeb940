-- `link_digest` meets its contract: the message is written whole.
use mathlib.Core.Path.{sym, ap, ◌∙◌}
use Rattle.sha256.specs.Hash.{hash_value}
use Rattle.sha256.proofs.Values.{answer-value}
use Rattle.chain.proofs.Written.{message-put}
use Rattle.chain.proofs.link.link_digest.Goals as goal

pub returns : goal.returns
returns c =
    let a = c.args in
    let m = message-put a.before c.write_record.ensures a.value.0 a.round c.put_word.ensures c.put_word-2.ensures in
    sym (answer-value c.put_word-2.new.b c.digest.ensures c.in-Ok.is) ∙ ap hash_value m
