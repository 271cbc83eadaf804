use Rattle.rtm_codes.proofs.Spellings.{Spells-in_range}
use Rattle.rtm_codes.proofs.laws.spelled_is_in_range.Goals as goal

pub returns : goal.returns
returns c = Spells-in_range
