-- How the brackets of a unit stand in one another.
use Rattle.std.specs.Prelude.{Bool, true, false, ◌||◌, List, [], ◌∷◌, Option, Some, None, IsTrue, is_some}
use Rattle.rtm_model.specs.declared.entry.Verdict.{Verdict}
use Rattle.rtm_model.specs.declared.entry.Verdict.TheVariants.{Over}
use Rattle.rtm_model.specs.declared.reg.Reg.{Reg}
use Rattle.rtm_model.specs.Levels.{Bracket, innermost_bracket, is_manager}

-- the outermost bracket has no routine; every other one has, and was entered for the error that is open in the
-- enclosing bracket or for a resource manager
abbrev pub IsWithin : Option Reg → Option Bracket → Type 0
IsWithin None None = Unit {0}
IsWithin None (Some outer) = ⊥
IsWithin (Some reg) None = ⊥
IsWithin (Some reg) (Some outer) = IsTrue (is_manager reg.kind || is_some outer.error)

-- each bracket stands so within the next
abbrev pub IsNested : List Bracket → Type 0
IsNested [] = Unit {0}
IsNested (l ∷ ls) = IsWithin l.routine (innermost_bracket ls) × IsNested ls

-- the verdict is that of a resource manager
abbrev pub is_over : Verdict → Bool
is_over Over = true
is_over _ = false
