use Rattle.rtm_law_births.proofs.Frrs.{frrs_live}
use Rattle.rtm_law_births.proofs.Sound.{sound_history}
use Rattle.rtm_law_births.proofs.laws.frrs_are_born_and_die.Goals as goal

pub returns : goal.returns
returns c = λ d h deck legal. frrs_live d h (sound_history d h deck legal) legal
