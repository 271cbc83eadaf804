use Rattle.rtm_codes.proofs.Written.{length-spelled}
use Rattle.rtm_codes.proofs.laws.spellings_are_short.Goals as goal

pub returns-clause-least : goal.returns-clause-least
returns-clause-least c = λ text code s. (length-spelled text code s).0

pub returns-clause-most : goal.returns-clause-most
returns-clause-most c = λ text code s. (length-spelled text code s).1
