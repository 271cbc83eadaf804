use Rattle.rtm_system_unit.proofs.Making.{can_apply}
use Rattle.rtm_system_unit.proofs.laws.what_can_be_made_can_be_applied.Goals as goal

pub returns : goal.returns
returns c = can_apply
