-- Lists of recovery routines, as a unit holds them: its FRRs and its ESTAE routines, each newest first, and its ESTAI
-- routines, of which the one that its own ATTACHX named comes first, then those that its mother had.
use Rattle.std.specs.Prelude.{ℕ, Bool, not, ◌&&◌, ◌||◌, ◌==◌, if◌then◌else◌, List, [], ◌∷◌, Option, Some, None, is_some, filter, find}
use Rattle.rtm_model.specs.declared.reg.Reg.{Reg}

-- the list without the first that passes a test; the whole list where none does
abbrev pub without_first : {A : Type 0} → (A → Bool) → List A → List A
without_first p [] = []
without_first p (x ∷ xs) = if p x then xs else x ∷ without_first p xs

-- the list with y in the place of the first that passes a test; the list itself where none does
abbrev pub with_in_place : {A : Type 0} → (A → Bool) → A → List A → List A
with_in_place p y [] = []
with_in_place p y (x ∷ xs) = if p x then y ∷ xs else x ∷ with_in_place p y xs

-- the routine was made in the bracket of that depth
abbrev pub is_of_depth : ℕ → Reg → Bool
is_of_depth depth reg = reg.depth == depth

-- the request block of that birth made it
abbrev pub is_of_owner : ℕ → Reg → Bool
is_of_owner owner reg = reg.owner == owner

-- a TERM-only record admits routines with TERM=YES alone (the option: Assembler Services Reference, ESTAEX; what it
-- admits here is this profile's)
abbrev pub is_admitted : Bool → Reg → Bool
is_admitted term_only reg = not term_only || reg.term

-- the newest routine of the bracket of that depth
abbrev pub newest_of : ℕ → List Reg → Option Reg
newest_of depth regs = find (is_of_depth depth) regs

-- the routine, where that request block made it
abbrev pub if_of_owner : ℕ → Option Reg → Option Reg
if_of_owner owner None = None
if_of_owner owner (Some reg) = if is_of_owner owner reg then Some reg else None

-- the newest routine of the bracket, where that request block made it: the one that ESTAEX OV and ESTAEX 0 speak of
abbrev pub newest_owned : ℕ → ℕ → List Reg → Option Reg
newest_owned depth owner regs = if_of_owner owner (newest_of depth regs)

-- what ESTAEX 0 leaves: that routine is gone (Assembler Services Reference, ESTAEX)
abbrev pub after_cancel : ℕ → ℕ → List Reg → List Reg
after_cancel depth owner regs =
    if is_some (newest_owned depth owner regs) then without_first (is_of_depth depth) regs else regs

-- what ESTAEX OV leaves: the new routine stands in the place of that one (Assembler Services Reference, ESTAEX)
abbrev pub after_overlay : ℕ → ℕ → Reg → List Reg → List Reg
after_overlay depth owner reg regs =
    if is_some (newest_owned depth owner regs) then with_in_place (is_of_depth depth) reg regs else regs

-- the ESTAE routine that gets control next: the newest of the bracket that is admitted
-- (Authorized Assembler Services Guide, "Providing recovery")
abbrev pub next_estae : ℕ → Bool → List Reg → Option Reg
next_estae depth term_only regs = find (λ reg. is_of_depth depth reg && is_admitted term_only reg) regs

-- the ESTAI routine that gets control next: of the nearest attacher (the order of several is this profile's)
abbrev pub next_estai : Bool → List Reg → Option Reg
next_estai term_only regs = find (is_admitted term_only) regs

-- without the routine that was born at that entry
abbrev pub without_born : ℕ → List Reg → List Reg
without_born born regs = filter (λ reg. not (reg.born == born)) regs

-- without the routines of the bracket of that depth
abbrev pub without_depth : ℕ → List Reg → List Reg
without_depth depth regs = filter (λ reg. not (is_of_depth depth reg)) regs

-- without those of a request block that is gone
abbrev pub without_owner : ℕ → List Reg → List Reg
without_owner owner regs = filter (λ reg. not (is_of_owner owner reg)) regs

-- what an XCTL under that request block leaves: of its own routines those with XCTL=YES alone
-- (Assembler Services Reference, ESTAEX)
abbrev pub after_xctl : ℕ → List Reg → List Reg
after_xctl owner regs = filter (λ reg. not (is_of_owner owner reg) || reg.xctl) regs

-- the ESTAI routines of a task at its birth: its own first, then those that its mother has
-- (Assembler Services Reference, ATTACHX; the order is this profile's)
abbrev pub inherited_estais : Option Reg → List Reg → List Reg
inherited_estais None mother = mother
inherited_estais (Some own) mother = own ∷ mother
