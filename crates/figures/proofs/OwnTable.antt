-- The figures of specs/OwnTable.antt, by computing.
use mathlib.Core.Path.{refl}
use Rattle.words.specs.Bytes.{word_at, word_bytes, words_bytes, record_bytes, record_in, record_at, agrees}
use Rattle.field.specs.Prime.{is_prime}
use Rattle.group.specs.Power.{pow}
use Rattle.group.specs.Table.{group_at, groups_of, has_primes, has_generators, table_checks, is_group, group_of, group_checks, in_group}
use Rattle.group.specs.Element.{is_element, is_generator, is_exponent}
use Rattle.group.specs.Answer.{power_outcome}
use Rattle.figures.specs.OwnTable.{OwnTable}

pub own-table : OwnTable
unfolding word_at word_bytes words_bytes record_bytes record_in record_at agrees is_prime pow group_at groups_of has_primes has_generators table_checks is_group group_of group_checks in_group is_element is_generator is_exponent power_outcome
own-table =
    record {
      accepted = (refl, (refl, (refl, (refl, tt))));
      power = refl;
      no_second = refl;
      square-5 = refl;
      base-5 = λ e. refl;
      g-5 = refl;
      h-2 = refl;
      h-1 = refl;
      q_2 = refl;
      q-15 = refl;
      q-7 = refl;
      p-51 = refl;
    }
