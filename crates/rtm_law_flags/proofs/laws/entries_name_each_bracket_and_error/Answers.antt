use Rattle.std.proofs.Common.{take}
use Rattle.rtm_law_sound.proofs.Histories.{prefix_legal}
use Rattle.rtm_law_flags.proofs.Names.{named_brackets}
use Rattle.rtm_law_flags.proofs.laws.entries_name_each_bracket_and_error.Goals as goal

pub returns : goal.returns
returns c = λ d h i u deck legal. named_brackets d (take i h) u deck (prefix_legal d h i legal)
