-- What an open error leads to (Authorized Assembler Services Guide, "Providing recovery").
use Rattle.std.specs.Prelude.{ℕ, Bool, ◌&&◌, ◌==◌, if◌then◌else◌, List, [], ◌∷◌, ◌++◌, Option, Some, None, filter}
use Rattle.rtm_model.specs.declared.error_record.ErrorRecord.{ErrorRecord}
use Rattle.rtm_model.specs.declared.reg.Reg.{Reg}
use Rattle.rtm_model.specs.Chains.{is_of_depth, is_admitted}
use Rattle.rtm_model.specs.Levels.{Bracket, current, depth_in, first_eligible, choice_of}
use Rattle.rtm_percolate.specs.declared.choice.Choice.{Choice}
use Rattle.rtm_percolate.specs.declared.choice.Choice.TheVariants.{Enter, FailRoutine, Begin}

-- The choice for an error of that record, open in the newest bracket: the first eligible routine; where there is none,
-- the failure of the bracket's own routine, and in the outermost bracket the begin of the unit's end.
abbrev pub choice_for : List Bracket → List Reg → List Reg → List Reg → ErrorRecord → Choice
choice_for ls frrs estaes estais r =
    choice_of Enter FailRoutine (Begin r) (first_eligible (depth_in ls) r.flags.term_only frrs estaes estais) (current ls)

-- The eligible routines, in the order in which they get control: the FRRs of the error's bracket and its ESTAE
-- routines, each newest first, and in the outermost bracket the ESTAI routines. A TERM-only record admits those with
-- TERM=YES alone, and no FRR.
abbrev pub eligible_routines : ℕ → Bool → List Reg → List Reg → List Reg → List Reg
eligible_routines depth term_only frrs estaes estais =
    (if term_only then [] else filter (is_of_depth depth) frrs)
    ++ filter (λ reg. is_of_depth depth reg && is_admitted term_only reg) estaes
    ++ (if depth == 0 then filter (is_admitted term_only) estais else [])

-- the first of a list
abbrev pub first : List Reg → Option Reg
first [] = None
first (reg ∷ regs) = Some reg
