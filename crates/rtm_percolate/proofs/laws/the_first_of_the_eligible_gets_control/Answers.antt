use Rattle.rtm_percolate.proofs.Firsts.{eligible_routines-first}
use Rattle.rtm_percolate.proofs.laws.the_first_of_the_eligible_gets_control.Goals as goal

pub returns : goal.returns
returns c = eligible_routines-first
