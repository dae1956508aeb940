-- The figures of specs/EqualKeys.antt, by computing.
use mathlib.Core.Path.{refl}
use Rattle.group.specs.Power.{pow}
use Rattle.group.specs.Table.{groups_of, group_of}
use Rattle.group.specs.Element.{is_element, is_generator}
use Rattle.records.specs.Keys.{is_key, key_checks}
use Rattle.figures.specs.EqualKeys.{EqualKeyFigures}

pub equal-key-figures : EqualKeyFigures
unfolding pow groups_of group_of is_element is_generator is_key key_checks
equal-key-figures =
    record {
      neighbours = refl;
      ends = refl;
      three = refl;
      beside-bad = refl;
      one-twice = refl;
      five-twice = refl;
      modulo = refl;
      all-ten = refl;
    }
