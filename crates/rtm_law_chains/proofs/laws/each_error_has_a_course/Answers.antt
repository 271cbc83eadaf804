use Rattle.rtm_law_chains.proofs.Whole.{has_courses}
use Rattle.rtm_law_chains.proofs.laws.each_error_has_a_course.Goals as goal

pub returns : goal.returns
returns c = λ d h deck legal. has_courses d h deck legal
