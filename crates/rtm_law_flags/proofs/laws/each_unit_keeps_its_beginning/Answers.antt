use Rattle.rtm_law_flags.proofs.Beginnings.{keeps_its_beginning}
use Rattle.rtm_law_flags.proofs.laws.each_unit_keeps_its_beginning.Goals as goal

pub returns : goal.returns
returns c = λ d h u deck legal. keeps_its_beginning d h u deck legal
