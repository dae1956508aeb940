-- The board of specs/EqualKeys.antt: its figures by computing, and its number now by the claim on filed boards.
use mathlib.Core.Path.{refl}
use Prim.Native.Nat.{zero, suc}
use native.Mathlib.Omega.{arith}
use Rattle.words.specs.Checks.{Met}
use Rattle.words.specs.Bytes.{word_at, word_bytes, words_bytes, record_bytes, record_in, record_at, agrees}
use Rattle.words.specs.Lists.{entry}
use Rattle.group.specs.Power.{pow}
use Rattle.group.specs.Table.{groups_of, group_of}
use Rattle.group.specs.Element.{is_element, is_generator}
use Rattle.sharing.specs.Setting.{is_member}
use Rattle.sharing.specs.Figures.{small}
use Rattle.records.specs.Keys.{is_key}
use Rattle.records.specs.Claims.{KeyTwice}
use Rattle.board.specs.Board.{is_below, place_of, record_place, is_at, key_in, keys_in, line_count}
use Rattle.verdicts.specs.Verdict.{verdict_on}
use Rattle.demand3.specs.Filed.{OfThen, filed_board_checks}
use Rattle.demand3.proofs.Filed.{filed-key-twice}
use Rattle.conditions.specs.EqualKeys.{equal_keys, EqualKeysFiled}

of-then : OfThen equal_keys
unfolding word_at word_bytes words_bytes record_bytes record_in record_at
of-then zero h = (refl, λ e. omega arith)
of-then (suc zero) h = (refl, λ e. omega arith)
of-then (suc (suc zero)) h = (refl, λ e. omega arith)
of-then (suc (suc (suc zero))) h = (refl, λ e. omega arith)
of-then (suc (suc (suc (suc i)))) h = absurd (omega arith)

let_through : Met (filed_board_checks small equal_keys)
unfolding word_at word_bytes words_bytes record_bytes record_in record_at agrees pow groups_of group_of is_element is_generator is_member is_key is_below place_of record_place is_at key_in
let_through = (refl, (refl, (refl, (refl, (refl, (refl, (refl, (refl, (refl, (refl, (refl, (refl, (refl, (refl, (refl, tt)))))))))))))))

twice : KeyTwice small.group (keys_in small.n equal_keys)
unfolding word_at word_bytes words_bytes record_bytes record_in record_at agrees pow groups_of group_of is_element is_generator is_key is_below place_of record_place is_at key_in entry
twice =
    record { keys = (refl, (refl, (refl, (refl, tt)))); one = 1; other = 4; member = omega arith; later = omega arith; within = omega arith; same = refl }

pub equal-keys-filed : EqualKeysFiled
unfolding word_at word_bytes words_bytes record_bytes record_in record_at agrees pow groups_of group_of is_element is_generator is_member is_key is_below place_of record_place is_at key_in line_count verdict_on
equal-keys-filed =
    record { of-then = of-then; let_through = let_through; twice = twice; then = refl; now = filed-key-twice small refl equal_keys of-then let_through twice }
