use Rattle.rtm_law_landings.proofs.Doomed.{interrupts_agree}
use Rattle.rtm_law_landings.proofs.laws.entries_say_where_a_unit_may_be_interrupted.Goals as goal

pub returns : goal.returns
returns c = λ d h i u deck legal. interrupts_agree d h deck legal i u
