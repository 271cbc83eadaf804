-- Each bracket and each error of a unit has a name: the index of the entry that opened it (this profile).
use Rattle.std.specs.Prelude.{Bool, List, None, Option, Some, [], length, true, ℕ, ◌<◌, ◌∷◌, ◌≡◌}
use Rattle.rtm_deck_items.specs.View.{DeckView}
use Rattle.rtm_model.specs.declared.entry.Entry.{Entry}
use Rattle.rtm_model.specs.declared.entry.What.TheVariants.{Enter}
use Rattle.rtm_model.specs.declared.error_record.ErrorRecord.{ErrorRecord}
use Rattle.rtm_model.specs.declared.mark.Mark.{Mark}
use Rattle.rtm_model.specs.declared.reg.Reg.{Reg}
use Rattle.rtm_model.specs.Advance.{world}
use Rattle.rtm_model.specs.Course.{opens_error}
use Rattle.rtm_model.specs.Entries.{OpenBracket, Opening, brackets_of, open_enters}
use Rattle.rtm_model.specs.Levels.{Bracket}
use Rattle.rtm_model.specs.Moments.{IsAt, IsWhat}
use Rattle.rtm_model.specs.World.{Core, core_at}

-- the entry of that index is the unit's ENTER of that routine, bare or not
pub record IsItsEnter (history : List Entry) (u : ℕ) (opening : Opening) : Type 0 where
  pub mark : Mark
  pub bare : Bool
  pub at : IsWhat history opening.at u (Enter opening.kind opening.born mark bare)

-- the routine that runs in the bracket is the one that its ENTER names; in the outermost none runs
abbrev pub IsEnteredBy : List Entry → ℕ → Option Reg → Option Opening → Type 0
IsEnteredBy history u None None = Unit {0}
IsEnteredBy history u (Some reg) (Some opening) =
    (reg.kind ≡ opening.kind) × (reg.born ≡ opening.born) × IsItsEnter history u opening
IsEnteredBy history u _ _ = ⊥

-- the entry of that index is an ERROR or a LAND of the unit
pub record IsItsError (history : List Entry) (u i : ℕ) : Type 0 where
  pub entry : Entry
  pub at : IsAt history i entry
  pub unit_is : entry.unit ≡ u
  pub opens : opens_error entry.what ≡ true

-- an error is open in the bracket, which that entry has opened; or none is
abbrev pub IsOpenedBy : List Entry → ℕ → Option ErrorRecord → Option ℕ → Type 0
IsOpenedBy history u None None = Unit {0}
IsOpenedBy history u (Some r) (Some i) = IsItsError history u i
IsOpenedBy history u _ _ = ⊥

pub record IsNamedBy (history : List Entry) (u : ℕ) (bracket : Bracket) (named : OpenBracket) : Type 0 where
  pub routine : IsEnteredBy history u bracket.routine named.opening
  pub error : IsOpenedBy history u bracket.error named.error

abbrev pub AreNamedBy : List Entry → ℕ → List Bracket → List OpenBracket → Type 0
AreNamedBy history u [] [] = Unit {0}
AreNamedBy history u (bracket ∷ outer) (named ∷ outer_named) =
    IsNamedBy history u bracket named × AreNamedBy history u outer outer_named
AreNamedBy history u _ _ = ⊥

-- each of these indices is below the one before it
abbrev pub FallsBelow : ℕ → List Opening → Type 0
FallsBelow n [] = Unit {0}
FallsBelow n (opening ∷ outer) = (opening.at < n) × FallsBelow opening.at outer

-- what lives is what the entries name: the brackets of a unit, innermost first, each with its error
pub record HasNamedBrackets (d : DeckView) (history : List Entry) (u : ℕ) : Type 0 where
  pub named : AreNamedBy history u (Core.levels (core_at u (world d history))) (brackets_of u history)
  -- each was entered after the one around it, so that no two have one name
  pub fall : FallsBelow (length history) (open_enters u history)
