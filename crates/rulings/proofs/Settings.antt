-- The setting of a table and a set: what refuses them, or what the accepted table gives for the set's round.
use mathlib.Core.Path.{◌≡◌, sym, ◌∙◌, subst}
use mathlib.Core.List.{List}
use Prim.Native.Nat.{ℕ}
use Rattle.std.specs.Prelude.{Ok}
use Rattle.words.specs.Checks.{Check, Outcome, Met}
use Rattle.words.proofs.Checks.{value-met}
use Rattle.words.proofs.Stages.{met-both, both-met, rest-outcome}
use Rattle.group.specs.Table.{groups_of, table_checks}
use Rattle.sharing.specs.Setting.{ProperSetting, setting_in, round_figures, round_checks, figures_outcome, setting_outcome}
use Rattle.sharing.specs.declared.Setting.{Setting}
use Rattle.sharing.proofs.Rounds.{figures-setting, round-proper}
use Rattle.rulings.specs.Files.{set_checks, round_in, file_checks, setting_checks, files_outcome}

module _ (T s : List ℕ) where
  abbrev figures : List Check
  figures = round_figures (groups_of T) (round_in s)

  -- where both files are accepted the round's figures decide
  pub files-passed : Met (file_checks T s) → figures_outcome T (round_in s) ≡ files_outcome T s
  unfolding figures_outcome files_outcome
  files-passed m = rest-outcome (file_checks T s) figures m (setting_in T (round_in s))

  -- as over the table and the round
  pub files-round : Met (file_checks T s) → files_outcome T s ≡ setting_outcome T (round_in s)
  files-round m = sym (files-passed m) ∙ figures-setting T (round_in s) (met-both (table_checks T) (set_checks s) m).0

  -- all that is tested before the board, by the table and the round of the set
  pub checked-round : Met (setting_checks T s) → Met (round_checks T (round_in s))
  unfolding round_checks
  checked-round m =
      let f = met-both (file_checks T s) figures m in
      both-met (table_checks T) figures (met-both (table_checks T) (set_checks s) f.0).0 f.1

  pub checked-proper : Met (setting_checks T s) → ProperSetting (setting_in T (round_in s))
  checked-proper m = round-proper T (round_in s) (checked-round m)

  -- the setting that is answered
  pub files-value : {r : Outcome Setting} → r ≡ files_outcome T s → {S : Setting} → r ≡ Ok S → Met (setting_checks T s) × (setting_in T (round_in s) ≡ S)
  unfolding files_outcome
  files-value e {S} f = value-met (setting_checks T s) (setting_in T (round_in s)) S (sym e ∙ f)

  pub files-proper : {r : Outcome Setting} → r ≡ files_outcome T s → {S : Setting} → r ≡ Ok S → ProperSetting S
  files-proper e f = let v = files-value e f in subst ProperSetting v.1 (checked-proper v.0)
