use Rattle.rtm_codes.proofs.Codes.{packed_of-lt}
use Rattle.rtm_codes.proofs.laws.words_fit.Goals as goal

pub returns : goal.returns
returns c = packed_of-lt
