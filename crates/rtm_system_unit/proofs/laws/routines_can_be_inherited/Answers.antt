use Rattle.rtm_system_unit.proofs.Inheriting.{can_inherit}
use Rattle.rtm_system_unit.proofs.laws.routines_can_be_inherited.Goals as goal

pub returns : goal.returns
returns c = can_inherit
