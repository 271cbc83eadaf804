use Rattle.rtm_codes.proofs.Spellings.{code_in-spelled, Spells-code_in}
use Rattle.rtm_codes.proofs.laws.reading_is_spelling.Goals as goal

pub returns : goal.returns
returns c = λ text code. (Spells-code_in text code, code_in-spelled text code)
