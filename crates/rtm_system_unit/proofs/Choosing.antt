-- The entry of the choice is what the open error leads to.
use Rattle.std.proofs.Common.{◌≡◌, Bool, Option, Some, None, refl}
use Rattle.rtm_model.specs.declared.error_record.ErrorRecord.{ErrorRecord}
use Rattle.rtm_model.specs.declared.reg.Reg.{Reg}
use Rattle.rtm_model.specs.Levels.{choice_of}
use Rattle.rtm_model.specs.NextEntry.{handling_of}
use Rattle.rtm_percolate.specs.declared.choice.Choice.TheVariants.{Begin, Enter, FailRoutine}
use Rattle.rtm_system_unit.specs.Choosing.{entry_of}

pub handled : (sdwa : Bool) (r : ErrorRecord) (eligible own : Option Reg) → entry_of sdwa r (choice_of Enter FailRoutine (Begin r) eligible own) ≡ handling_of sdwa r eligible own
handled sdwa r (Some reg) own = refl
handled sdwa r None (Some own) = refl
handled sdwa r None None = refl
