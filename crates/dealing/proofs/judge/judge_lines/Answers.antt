-- `judge_lines` meets its contract: the columns hold the lines' figures, and are judged as the lines are.
use mathlib.Core.List.{List}
use mathlib.Core.Path.{ap, ◌∙◌}
use Rattle.words.specs.Checks.{Check, outcome}
use Rattle.dealing.proofs.Entries.{columns-same}
use Rattle.dealing.proofs.judge.judge_lines.Goals as goal

pub returns : goal.returns
returns c =
    let e = c.read_lines-figures.ensures in
    record {
      answer_value = c.judge_figures-answer.ensures ∙ ap (λ (x : List Check). outcome x (tt {0})) (columns-same _ _ _ _ e);
      figures_value = e;
    }
