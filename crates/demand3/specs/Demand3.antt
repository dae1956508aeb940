-- Demand 3 whole, sentence by sentence: A to E on one dealing's commitments, F on two boards. Each is stated over what the operations
-- answer, for every proper setting: any proper group whose figures fit a word, with any n and t in their ranges, in any round and under
-- either rule. The two last lines read it off for every group of every accepted table, the built-in ones among them,
-- with any n and t that 2 does not refuse, whatever the round's two numbers are.
use Rattle.sharing.specs.Claims.{AlwaysCarried, UncarriedOneValue, CarriedPasses, CarriedExactly, OpeningExactly, QuorumRecovers, OneGroupAnswers, RoundBySetting}
use Rattle.verdicts.specs.Shares.{judges}
use Rattle.demand3.specs.Claims.{AllRecoverable, SameDraw, DrawByRound}

pub record Demand3 : Type 0 where
  -- A. With n = t there is no place of a check polynomial, and some polynomial of degree below t carries any n elements.
  pub always-carried : AlwaysCarried
  -- B. Where no polynomial of degree below t carries n elements, the commitments alone fix one place of the check polynomial at which,
  -- whatever stands in the other places, at most one of the q values passes.
  pub one_value : UncarriedOneValue
  -- C. Where such a polynomial carries the commitments, every check polynomial passes.
  pub carried-passes : CarriedPasses
  -- B and C together: n elements are carried exactly if the unit check polynomial of every place passes.
  pub carried-exactly : CarriedExactly
  -- D. An opening is accepted exactly when it is the polynomial's value at 0.
  pub opening-exactly : OpeningExactly
  -- E. True shares of t or more different members, in whatever order, recover h^s, the secret that the accepted opening gives.
  pub quorum-recovers : QuorumRecovers
  -- Nothing but group, n, t and the commitments enters the place of B, nor anything that the three operations answer.
  pub one-group-answers : OneGroupAnswers
  -- F. Two boards of one group, n and t with the same accepted dealings, t or more, each carried, opened or with t or more accepted shares, all
  -- of them true, end in the same draw value, the product of the h^s modulo p. The judges are those of the crates dealing and share.
  pub same-draw : SameDraw AllRecoverable judges
  -- A to E over a table and a round: each operation answers what it answers in their setting, which is proper.
  pub round-by-setting : RoundBySetting
  -- F over a table and a round: what the board judge answers.
  pub draw-by-round : DrawByRound AllRecoverable judges
