use Rattle.rtm_law_sound.proofs.Histories.{prefix_legal}
use Rattle.rtm_law_sound.proofs.laws.prefixes_are_legal.Goals as goal

pub returns : goal.returns
returns c = prefix_legal
