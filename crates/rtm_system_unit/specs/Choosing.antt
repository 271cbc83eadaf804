-- What an open error leads to, as an entry (this profile).
use Rattle.std.specs.Prelude.{Bool}
use Rattle.rtm_model.specs.declared.error_record.ErrorRecord.{ErrorRecord}
use Rattle.rtm_model.specs.declared.entry.What.{What}
use Rattle.rtm_model.specs.NextEntry.{begin_of, enter_of, failure_of}
use Rattle.rtm_percolate.specs.declared.choice.Choice.{Choice}
use Rattle.rtm_percolate.specs.declared.choice.Choice.TheVariants.{Begin, Enter, FailRoutine}

-- the entry of a choice for an error of that record
abbrev pub entry_of : Bool → ErrorRecord → Choice → What
entry_of sdwa r (Enter reg) = enter_of sdwa r reg
entry_of sdwa r (FailRoutine own) = failure_of own
entry_of sdwa r (Begin error) = begin_of error
