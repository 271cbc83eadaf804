use Rattle.rtm_law_flags.proofs.Once.{lives_once}
use Rattle.rtm_law_flags.proofs.laws.each_unit_lives_once.Goals as goal

pub returns : goal.returns
returns c = λ d h u deck legal. lives_once d h u deck legal
