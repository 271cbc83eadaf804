use Rattle.rtm_law_sound.proofs.Histories.{each_applies}
use Rattle.rtm_law_sound.proofs.laws.each_entry_was_applied.Goals as goal

pub returns : goal.returns
returns c = each_applies
