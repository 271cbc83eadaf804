-- Births and deaths of brackets: each is opened for a recovery routine or a resource manager that is entered
-- (Authorized Assembler Services Guide, "Providing recovery"; the word bracket is this profile's). The outermost is
-- always there.
use Rattle.std.specs.Prelude.{Bool, List, Some, [], length, ℕ, ◌<◌, ◌∷◌, ◌≡◌, ◌⊎◌}
use Rattle.rtm_deck_items.specs.View.{DeckView}
use Rattle.rtm_model.specs.declared.entry.Entry.{Entry}
use Rattle.rtm_model.specs.declared.entry.What.{What}
use Rattle.rtm_model.specs.declared.entry.What.TheVariants.{Enter, Leave}
use Rattle.rtm_model.specs.declared.holding.Manager1.{Manager1}
use Rattle.rtm_model.specs.declared.reg.Reg.{Reg}
use Rattle.rtm_model.specs.OwnChange.{routine_named}
use Rattle.rtm_model.specs.Levels.{Bracket, depth_in}
use Rattle.rtm_model.specs.World.{Core, core_at}
use Rattle.rtm_law_births.specs.Life.{HasTheLiving, LivesSince, Table}
use Rattle.rtm_law_births.specs.Units.{IsPurgeOf}

-- a bracket of a unit: how many brackets enclose it, the routine that runs in it, and whether that was entered bare,
-- without an SDWA
pub record UnitBracket : Type 0 where
  pub unit : ℕ
  pub depth : ℕ
  pub routine : Reg
  pub bare : Bool

-- it is one of a unit's brackets
abbrev pub IsAmong : UnitBracket → List Bracket → Type 0
IsAmong x [] = ⊥
IsAmong x (l ∷ outer) = ((x.depth ≡ length outer) × (l.routine ≡ Some x.routine) × (l.bare ≡ x.bare)) ⊎ IsAmong x outer

-- ENTER makes one, inside of all that are there, for the routine that it names, bare or not as it says
abbrev pub EntryMakes : Core → List Manager1 → What → UnitBracket → Type 0
EntryMakes c managers (Enter kind born mark bare) x =
    (x.depth ≡ length c.levels) × (routine_named kind born managers c ≡ Some x.routine) × (bare ≡ x.bare)
EntryMakes c managers _ x = ⊥

-- the LEAVE at which it is the innermost is its death; and the unit's PURGE is
abbrev pub EntryKills : Core → What → ℕ → Type 0
EntryKills c (Leave kind born verdict logrec dump) depth = depth ≡ depth_in c.levels
EntryKills c _ depth = ⊥

abbrev pub brackets : Table UnitBracket
brackets = record {
  has = λ w x. IsAmong x (Core.levels (core_at x.unit w));
  starts = λ d x. ⊥;
  makes = λ d w n e x. (x.unit ≡ e.unit) × EntryMakes (core_at e.unit w) w.managers e.what x;
  kills = λ d w n e x. ((x.unit ≡ e.unit) × EntryKills (core_at e.unit w) e.what x.depth) ⊎ IsPurgeOf x.unit e.what;
}

-- each unit's inner brackets are those that live; of two the inner one was entered later, so that the innermost is the
-- newest that lives
pub record AreTheBrackets (d : DeckView) (history : List Entry) : Type 0 where
  pub living : HasTheLiving brackets d history
  pub order : (x y : UnitBracket) (i j : ℕ) → x.unit ≡ y.unit → x.depth < y.depth
      → LivesSince brackets d history (length history) x i → LivesSince brackets d history (length history) y j → i < j
