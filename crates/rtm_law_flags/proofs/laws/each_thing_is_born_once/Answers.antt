use Rattle.rtm_law_flags.proofs.Births.{are_born_once}
use Rattle.rtm_law_flags.proofs.laws.each_thing_is_born_once.Goals as goal

pub returns : goal.returns
returns c = λ d h deck legal. are_born_once d h deck legal
