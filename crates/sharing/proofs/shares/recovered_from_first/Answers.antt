-- `shares::recovered_from_first` meets its contract: the first t of the numbers 1 to 31 are the members 1 to t, which are below q.
use Rattle.std.proofs.Common.{arith}
use Rattle.std.proofs.lemmas.Grind.{common_steps}
use Rattle.sharing.proofs.Rounds.{first_members, first_length, first_low}
use Rattle.sharing.proofs.shares.recovered_from_first.Goals as goal

pub recovered_from-requires : goal.recovered_from-requires
recovered_from-requires c =
    let low = first_low c.args.s c.requires.0 in
    grind (arith, common_steps, first_members, first_length)
