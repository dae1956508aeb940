-- The challenges of "abc" around the first round under the new rule, by computing them from its digest; the head of a message, by its bytes.
use mathlib.Core.Path.{refl, ap}
use Rattle.words.specs.Bytes.{word_bytes}
use Rattle.sha256.proofs.Examples.{abc}
use Rattle.group.specs.Table.{groups_of, group_of}
use Rattle.sharing.specs.Setting.{takes_whole}
use Rattle.challenge.specs.Exponent.{exponent_of}
use Rattle.challenge.specs.Message.{round_bytes, head_bytes, challenge_of}
use Rattle.challenge.specs.Claims.{large_in, AroundFirst, HeadFigures}

pub around-first : AroundFirst
unfolding challenge_of exponent_of takes_whole groups_of group_of
around-first =
    record {
      before = ap (exponent_of (large_in 6 7)) abc;
      at_first = ap (exponent_of (large_in 7 7)) abc;
      behind = ap (exponent_of (large_in 8 7)) abc;
      in-zero = ap (exponent_of (large_in 0 1)) abc;
      without = ap (exponent_of (large_in 7 0)) abc;
    }

pub head-figures : HeadFigures
unfolding head_bytes round_bytes word_bytes
head-figures = record { in-round = λ tag d. refl; in-zero = λ tag d. refl }
