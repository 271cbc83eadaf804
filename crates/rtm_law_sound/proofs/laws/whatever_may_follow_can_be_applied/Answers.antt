use Rattle.std.proofs.Common.{length}
use Rattle.rtm_model.specs.Advance.{world}
use Rattle.rtm_model.specs.Turns.{entry_of}
use Rattle.rtm_law_sound.proofs.Histories.{world_sound}
use Rattle.rtm_law_sound_units.proofs.CanNext.{arrival_applies, next_applies}
use Rattle.rtm_law_sound.proofs.laws.whatever_may_follow_can_be_applied.Goals as goal

pub returns : goal.returns
returns c = record {
  next = λ d history u what f h e. next_applies d (length history) (world d history) (entry_of u what) f (world_sound d history f h) e;
  arrival = λ d history cmd e f h at. arrival_applies d (length history) (world d history) cmd e (world_sound d history f h) at;
}
