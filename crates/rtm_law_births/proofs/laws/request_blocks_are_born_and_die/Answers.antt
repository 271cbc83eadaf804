use Rattle.rtm_law_births.proofs.LiveBlocks.{blocks_live}
use Rattle.rtm_law_births.proofs.Sound.{sound_history}
use Rattle.rtm_law_births.proofs.laws.request_blocks_are_born_and_die.Goals as goal

pub returns : goal.returns
returns c = λ d h deck legal. blocks_live d h (sound_history d h deck legal) legal
