use Rattle.rtm_law_sound.proofs.Histories.{world_sound}
use Rattle.rtm_law_sound.proofs.laws.legal_histories_are_sound.Goals as goal

pub returns : goal.returns
returns c = world_sound
