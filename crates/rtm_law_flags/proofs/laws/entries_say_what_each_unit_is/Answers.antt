use Rattle.std.proofs.Common.{take}
use Rattle.rtm_law_landings.proofs.Changes.{begun_agree}
use Rattle.rtm_law_landings.proofs.Doomed.{doomed_agree}
use Rattle.rtm_law_landings.proofs.Lives.{mothers_agree}
use Rattle.rtm_law_sound.proofs.Histories.{prefix_legal}
use Rattle.rtm_law_flags.proofs.Commands.{arrived_agree}
use Rattle.rtm_law_flags.proofs.Units.{born_agree, ended_agree}
use Rattle.rtm_law_flags.proofs.laws.entries_say_what_each_unit_is.Goals as goal

pub returns : goal.returns
returns c = λ d h i u deck legal. record {
  born = born_agree d deck u (take i h) (prefix_legal d h i legal);
  mother = λ task. mothers_agree d (take i h) deck (prefix_legal d h i legal) task u;
  begun = begun_agree d (take i h) deck (prefix_legal d h i legal) u;
  doomed = doomed_agree d (take i h) deck (prefix_legal d h i legal) u;
  ended = ended_agree d deck u (take i h) (prefix_legal d h i legal);
  arrived = arrived_agree d deck u (take i h) (prefix_legal d h i legal);
}
