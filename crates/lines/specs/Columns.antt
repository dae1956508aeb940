-- The figures of a dealing's lines in columns, as they are read once and handed on, and lines by such figures.
use Rattle.std.specs.Prelude.{List, ℕ}
use Rattle.words.specs.Lists.{map, entry, filled}
use Rattle.words.specs.declared.Record.{Record}
use Rattle.sharing.specs.Setting.{members}
use Rattle.records.specs.Layout.{line_layout}
use Rattle.lines.specs.Lines.{v_in, Y_in, r_in, c_in}
use Rattle.lines.specs.declared.Columns.{Columns}

-- those of n lines, and 0 behind them
unfoldable pub columns_of : ℕ → List ℕ → Columns
columns_of n b =
    let column : (ℕ → ℕ) → List ℕ = λ f. filled 31 (map f (members n)) in
    record { vs = column (v_in b); encrypted = column (Y_in b); rs = column (r_in b); cs = column (c_in b) }

-- the line of member i by the figures of the columns vs, Ys and rs, under the challenge c
abbrev pub line_from : ℕ → ℕ → List ℕ → List ℕ → List ℕ → ℕ → ℕ → Record
line_from round d vs Ys rs c i = line_layout d i (entry vs i) (entry Ys i) (entry rs i) c round
