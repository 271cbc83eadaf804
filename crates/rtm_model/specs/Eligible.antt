-- The list of the routines that are eligible for an error of the innermost bracket, in the order in which they get
-- control (Authorized Assembler Services Guide, "Providing recovery"; the order of several ESTAI routines is this
-- profile's).
use Rattle.std.specs.Prelude.{Bool, List, [], false, filter, if◌then◌else◌, true, ℕ, ◌&&◌, ◌++◌, ◌+◌, ◌<◌, ◌==◌, ◌∷◌, ◌≡◌}
use Rattle.std.specs.List.{list_any}
use Rattle.std.specs.Option.{option_map_or}
use Rattle.rtm_deck_items.specs.View.{DeckView}
use Rattle.rtm_model.specs.declared.entry.Entry.{Entry}
use Rattle.rtm_model.specs.declared.error_record.ErrorRecord.{ErrorRecord}
use Rattle.rtm_model.specs.declared.reg.Kind.{Kind}
use Rattle.rtm_model.specs.declared.reg.Kind.TheVariants.{Estae, Estai, Frr, Mgr}
use Rattle.rtm_model.specs.declared.reg.Reg.{Reg}
use Rattle.rtm_model.specs.Chains.{is_admitted, is_of_depth}
use Rattle.rtm_model.specs.Levels.{depth_in, error_in}
use Rattle.rtm_model.specs.Moments.{core_before}
use Rattle.rtm_model.specs.World.{Core}

abbrev pub frrs_for : ℕ → Bool → List Reg → List Reg
frrs_for depth term_only frrs = if term_only then [] else filter (is_of_depth depth) frrs

abbrev pub estaes_for : ℕ → Bool → List Reg → List Reg
estaes_for depth term_only estaes = filter (λ reg. is_of_depth depth reg && is_admitted term_only reg) estaes

abbrev pub estais_for : ℕ → Bool → List Reg → List Reg
estais_for depth term_only estais = if depth == 0 then filter (is_admitted term_only) estais else []

abbrev pub bracket_routines : Core → ErrorRecord → List Reg
bracket_routines c r =
    frrs_for (depth_in c.levels) r.flags.term_only c.frrs ++ estaes_for (depth_in c.levels) r.flags.term_only c.estaes

abbrev pub eligible_list : Core → ErrorRecord → List Reg
eligible_list c r = bracket_routines c r ++ estais_for (depth_in c.levels) r.flags.term_only c.estais

-- those for the error that is open in the innermost bracket: of the bracket, and with the ESTAI routines
abbrev pub bracket_list : Core → List Reg
bracket_list c = option_map_or (bracket_routines c) (error_in c.levels) []

abbrev pub list_here : Core → List Reg
list_here c = option_map_or (eligible_list c) (error_in c.levels) []

-- those for the error that is born at the entry of index i, an entry of the unit u
abbrev pub list_of : DeckView → List Entry → ℕ → ℕ → List Reg
list_of d history i u = list_here (core_before d history (i + 1) u)

-- each is older than the one before it
abbrev pub AreFalling : List Reg → Type 0
AreFalling [] = Unit {0}
AreFalling (reg ∷ []) = Unit {0}
AreFalling (reg ∷ older ∷ regs) = (older.born < reg.born) × AreFalling (older ∷ regs)

abbrev pub is_same_kind : Kind → Kind → Bool
is_same_kind Frr Frr = true
is_same_kind Estae Estae = true
is_same_kind Estai Estai = true
is_same_kind Mgr Mgr = true
is_same_kind _ _ = false

-- the routine is the one of that kind and birth
abbrev pub is_named : Kind → ℕ → Reg → Bool
is_named kind born reg = is_same_kind kind reg.kind && (reg.born == born)

-- no two of them have one name
abbrev pub AreDistinct : List Reg → Type 0
AreDistinct [] = Unit {0}
AreDistinct (reg ∷ regs) = (list_any (is_named reg.kind reg.born) regs ≡ false) × AreDistinct regs
