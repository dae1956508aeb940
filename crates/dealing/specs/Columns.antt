-- A dealing's figures in columns, as they are judged.
use Rattle.std.specs.Prelude.{List, ℕ}
use Rattle.words.specs.Lists.{entry}
use Rattle.words.specs.Checks.{Check}
use Rattle.sharing.specs.declared.Setting.{Setting}
use Rattle.lines.specs.declared.Columns.{Columns}
use Rattle.dealing.specs.Dealing.{figure_checks}

-- the checks of figures in columns
abbrev pub column_checks : Setting → ℕ → List ℕ → Columns → List Check
column_checks S d ys t = figure_checks S d ys (entry t.vs) (entry t.encrypted) (entry t.rs) (entry t.cs)
