-- What is claimed of judged boards and of added shares on them, what records of kind 5 may change on a board and in the text of `draw`, that
-- honest delegates meet the hypotheses, with a board and without one, what is answered over a table and a round, boards filed before, the
-- other rule, that secrets and draws are elements, and demand 3 whole.
pub mod Claims
pub mod Added
pub mod KindFive
pub mod Printed
pub mod Honest
pub mod Complete
pub mod Rounds
pub mod Filed
pub mod Rules
pub mod Elements
pub mod Demand3
