-- `write_record` meets its contract: eight words put one after the other fill the 32 bytes (`record-put`).
use Rattle.words.proofs.Bytes.{record-put}
use Rattle.words.proofs.write_record.Goals as goal

pub returns : goal.returns
returns c =
    record-put c.args.r c.args.b.now c.requires
    c.put_word.ensures c.put_word-2.ensures c.put_word-3.ensures c.put_word-4.ensures
    c.put_word-5.ensures c.put_word-6.ensures c.put_word-7.ensures c.put_word-8.ensures
