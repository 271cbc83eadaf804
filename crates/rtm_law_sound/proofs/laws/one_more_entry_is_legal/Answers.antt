use Rattle.rtm_law_sound.proofs.Histories.{Legal-append}
use Rattle.rtm_law_sound.proofs.laws.one_more_entry_is_legal.Goals as goal

pub returns : goal.returns
returns c = Legal-append
