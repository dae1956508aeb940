-- `check_keys` meets its contract: each return by the tests that led to it.
use Rattle.words.proofs.Tests.{passed, failed}
use Rattle.records.specs.Keys.{key_checks}
use Rattle.records.proofs.keys.check_keys.Goals as goal

pub returns-then-not-all_keys : goal.returns-then-not-all_keys
unfolding key_checks
returns-then-not-all_keys c = simp (failed c.all_keys.ensures c.if-not-all_keys.true-raw)

pub returns-then-not-none_twice : goal.returns-then-not-none_twice
unfolding key_checks
returns-then-not-none_twice c =
    simp (passed c.all_keys.ensures c.if-not-all_keys.false-raw, failed c.none_twice.ensures c.if-not-none_twice.true-raw)

pub returns : goal.returns
unfolding key_checks
returns c =
    simp (passed c.all_keys.ensures c.if-not-all_keys.false-raw, passed c.none_twice.ensures c.if-not-none_twice.false-raw)
