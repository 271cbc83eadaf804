use Rattle.rtm_codes.specs.Code.{text_of, short_of}
use Rattle.rtm_codes.proofs.Spellings.{code_in-spelled}
use Rattle.rtm_codes.proofs.Written.{Spells-text_of, Spells-short_of}
use Rattle.rtm_codes.proofs.laws.written_is_read.Goals as goal

pub returns-clause-text : goal.returns-clause-text
returns-clause-text c = Spells-text_of

pub returns-clause-short : goal.returns-clause-short
returns-clause-short c = Spells-short_of

pub returns-clause-text_again : goal.returns-clause-text_again
returns-clause-text_again c = λ code h. code_in-spelled (text_of code) code (Spells-text_of code h)

pub returns-clause-short_again : goal.returns-clause-short_again
returns-clause-short_again c = λ code h. code_in-spelled (short_of code) code (Spells-short_of code h)
