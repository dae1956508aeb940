-- The text of the scope paper's round, by computation.
use mathlib.Core.Path.{refl}
use Rattle.words.specs.Bytes.{word_at, word_bytes, words_bytes, record_bytes, record_in, record_at, agrees}
use Rattle.group.specs.Power.{pow}
use Rattle.group.specs.Table.{groups_of, table_checks, is_group, group_of}
use Rattle.group.specs.Element.{is_element, is_generator}
use Rattle.sharing.specs.Setting.{in_range, round_figures, round_checks, judged, is_member}
use Rattle.records.specs.Keys.{is_key, key_checks}
use Rattle.board.specs.Board.{is_shaped, is_below, form_checks, place_of, record_place, is_at, key_in, board_key_checks, board_checks, line_count}
use Rattle.verdicts.specs.Verdict.{verdict_on}
use Rattle.verdicts.specs.Draw.{draw_in}
use Rattle.text.specs.Text.{digits, figure, refused_line, dealer_line, round_line, accepted_line, report, board_text, draw_text}
use Rattle.text.specs.Claims.{ExampleRound}

pub example-round : ExampleRound
unfolding word_at word_bytes words_bytes record_bytes record_in pow groups_of table_checks is_group group_of is_element in_range round_figures round_checks judged is_member agrees record_at is_generator is_key key_checks is_shaped is_below form_checks place_of record_place is_at key_in board_key_checks board_checks line_count verdict_on draw_in digits figure refused_line dealer_line round_line accepted_line report board_text draw_text
example-round = refl
