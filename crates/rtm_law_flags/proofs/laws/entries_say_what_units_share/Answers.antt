use Rattle.std.proofs.Common.{take}
use Rattle.rtm_law_sound.proofs.Histories.{prefix_legal}
use Rattle.rtm_law_flags.proofs.Shared.{code_agree, over_agree, posted_agree}
use Rattle.rtm_law_flags.proofs.laws.entries_say_what_units_share.Goals as goal

pub returns : goal.returns
returns c = λ d h i deck legal. record {
  posted = λ event. posted_agree d deck event (take i h) (prefix_legal d h i legal);
  memory_end = code_agree d deck (take i h) (prefix_legal d h i legal);
  over = over_agree d deck (take i h) (prefix_legal d h i legal);
}
