use Rattle.std.proofs.Common.{take}
use Rattle.rtm_law_sound.proofs.Histories.{prefix_legal}
use Rattle.rtm_law_landings.proofs.MemoryEnd.{memory_agrees}
use Rattle.rtm_law_landings.proofs.laws.entries_say_whether_memory_end_has_begun.Goals as goal

pub returns : goal.returns
returns c = λ d h i deck legal. memory_agrees d (take i h) deck (prefix_legal d h i legal)
