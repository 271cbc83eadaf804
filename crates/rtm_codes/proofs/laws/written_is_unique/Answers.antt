use Rattle.rtm_codes.proofs.Codes.{packed_of-one}
use Rattle.rtm_codes.proofs.Written.{text_of-one, short_of-one}
use Rattle.rtm_codes.proofs.laws.written_is_unique.Goals as goal

pub returns-clause-text : goal.returns-clause-text
returns-clause-text c = text_of-one

pub returns-clause-short : goal.returns-clause-short
returns-clause-short c = short_of-one

pub returns-clause-word : goal.returns-clause-word
returns-clause-word c = packed_of-one
