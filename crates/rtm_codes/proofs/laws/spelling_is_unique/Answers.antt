use Rattle.rtm_codes.proofs.Spellings.{Spells-one}
use Rattle.rtm_codes.proofs.laws.spelling_is_unique.Goals as goal

pub returns : goal.returns
returns c = Spells-one
