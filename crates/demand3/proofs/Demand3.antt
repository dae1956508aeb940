-- The theorems of demand 3, one for each of its sentences.
use Rattle.sharing.proofs.Theorems.{always-carried, uncarried-one-value, carried-passes, carried-exactly, opening-exactly, quorum-recovers, one-group-answers, round-by-setting}
use Rattle.verdicts.specs.Shares.{judges}
use Rattle.demand3.specs.Demand3.{Demand3}
use Rattle.demand3.proofs.TwoBoards.{same-draw, draw-by-round}

pub demand3 : Demand3
demand3 =
    record {
      always-carried = always-carried;
      one_value = uncarried-one-value;
      carried-passes = carried-passes;
      carried-exactly = carried-exactly;
      opening-exactly = opening-exactly;
      quorum-recovers = quorum-recovers;
      one-group-answers = one-group-answers;
      same-draw = same-draw judges;
      round-by-setting = round-by-setting;
      draw-by-round = draw-by-round judges;
    }
