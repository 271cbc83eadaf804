-- The records that recovery routines get: each is the SDWA of the error that a routine is entered for, as it is just
-- before the ENTER (Authorized Assembler Services Guide, "Providing recovery"). A bare routine and a resource manager
-- get none (this profile).
use Rattle.std.specs.Prelude.{List, [], if◌then◌else◌, ℕ, ◌++◌, ◌+◌, ◌||◌, ◌∷◌}
use Rattle.std.specs.Option.{option_to_list}
use Rattle.rtm_deck_items.specs.View.{DeckView}
use Rattle.rtm_model.specs.declared.entry.Entry.{Entry}
use Rattle.rtm_model.specs.declared.entry.What.{What}
use Rattle.rtm_model.specs.declared.entry.What.TheVariants.{Enter}
use Rattle.rtm_model.specs.declared.error_record.ErrorRecord.{ErrorRecord}
use Rattle.rtm_model.specs.Advance.{advance}
use Rattle.rtm_model.specs.Levels.{error_in, is_manager}
use Rattle.rtm_model.specs.World.{Core, World, core_at, start}

-- the record that the entry hands to a routine, if it enters a recovery routine that isn't bare: of the error that is
-- open in the unit's innermost bracket
abbrev pub record_for : Core → What → List ErrorRecord
record_for c (Enter kind born mark bare) = if bare || is_manager kind then [] else option_to_list (error_in c.levels)
record_for c _ = []

abbrev pub records_from : DeckView → World → ℕ → List Entry → List ErrorRecord
records_from d w n [] = []
records_from d w n (e ∷ es) = record_for (core_at e.unit w) e.what ++ records_from d (advance d w n e) (n + 1) es

-- the records of a history, by the ENTERs of recovery routines that aren't bare, in order
unfoldable pub records : DeckView → List Entry → List ErrorRecord
records d history = records_from d (start d) 0 history
