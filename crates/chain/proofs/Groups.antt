-- What of a table enters the operations on chains: its groups.
use mathlib.Core.Path.{sym, ◌∙◌}
use lib.ListN.{length}
use Rattle.words.specs.Checks.{outcome}
use Rattle.words.proofs.Stages.{rest-outcome}
use Rattle.group.specs.Table.{groups_of, table_checks}
use Rattle.group.proofs.Table.{groups-outcome, groups-choice}
use Rattle.chain.specs.Chain.{linked_checks, chain_checks, chain_outcome, next_link, next_checks, extend_checks, extend_outcome, lent_link}
use Rattle.chain.specs.Claims.{ChainByGroups}

pub chain-by-groups : ChainByGroups
unfolding chain_checks chain_outcome extend_checks extend_outcome lent_link
chain-by-groups T₁ T₂ b m₁ m₂ e =
    record {
      judged =
          sym (rest-outcome (table_checks T₁) (linked_checks (groups_of T₁) b) m₁ tt)
          ∙ (λ j. outcome (linked_checks (e j) b) tt)
          ∙ rest-outcome (table_checks T₂) (linked_checks (groups_of T₂) b) m₂ tt;
      extended = λ number v room. groups-outcome T₁ T₂ m₁ m₂ e (λ Gs. linked_checks Gs b) (λ Gs. next_checks Gs b number v room) (λ Gs. tt);
      lent = λ number v out.
          groups-choice T₁ T₂ m₁ m₂ e (λ Gs. linked_checks Gs b) (λ Gs. next_checks Gs b number v (length out)) (λ Gs. next_link b number v) out;
    }
