-- The deck that cards say, whose names are all there.
use Rattle.std.specs.Prelude.{ℕ, ◌+◌, Bool, true, if◌then◌else◌, List, [], ◌∷◌, Option, Some, None, unwrap_or, filter_map}
use Rattle.rtm_cards.specs.Limits.{default_entries}
use Rattle.rtm_deck_items.specs.declared.deck.Line.{Line as LineCard}
use Rattle.rtm_deck_items.specs.declared.deck.Unit.{Unit as UnitCard}
use Rattle.rtm_deck_items.specs.declared.deck.Command.{Command as CommandCard}
use Rattle.rtm_deck_items.specs.declared.deck.UnitKind.{UnitKind}
use Rattle.rtm_deck_items.specs.declared.deck.UnitKind.TheVariants as kinds
use Rattle.rtm_deck_items.specs.View.{ProgramView, DeckView}
use Rattle.rtm_deck.specs.declared.role.Role.{Role}
use Rattle.rtm_deck.specs.declared.role.Role.TheVariants.{Region, Program, Task, Srb, Command}
use Rattle.rtm_deck.specs.inner.View.{ReadView, SeenView, ScanView}
use Rattle.rtm_deck.specs.inner.Roles.{role_of, is_line}
use Rattle.rtm_deck.specs.inner.Operations.{op_of, named_number_at, named_number_in, number_at, flag_at, value_at, no_name}

-- the card of a program
abbrev pub line_of : SeenView → ReadView → LineCard
line_of s r = record { label = r.name; op = op_of s r.form r.values }

-- how many cards stand before the first that is none of a program
abbrev pub line_count : List ReadView → ℕ
line_count [] = 0
line_count (r ∷ rs) = if is_line (role_of r.form) then 1 + line_count rs else 0

-- the cards of a program, up to the first that is none
abbrev pub lines_from : SeenView → List ReadView → List LineCard
lines_from s [] = []
lines_from s (r ∷ rs) = if is_line (role_of r.form) then line_of s r ∷ lines_from s rs else []

abbrev pub program_of : SeenView → ReadView → List ReadView → ProgramView
program_of s r rs = record { name = unwrap_or r.name no_name; lines = lines_from s rs }

abbrev pub programs_with : SeenView → Role → ReadView → List ReadView → List ProgramView → List ProgramView
programs_with s Program r rs others = program_of s r rs ∷ others
programs_with s _ r rs others = others

-- the programs, in the order of their cards
abbrev pub programs_from : SeenView → List ReadView → List ProgramView
programs_from s [] = []
programs_from s (r ∷ rs) = programs_with s (role_of r.form) r rs (programs_from s rs)

abbrev pub unit_of : SeenView → ReadView → UnitKind → Option ℕ → UnitCard
unit_of s r kind related = record { name = unwrap_or r.name no_name; kind = kind; prog = named_number_at s.programs r.values 0; related = related }

-- the unit of work that a card says
abbrev pub unit_in : SeenView → Role → ReadView → Option UnitCard
unit_in s Task r = Some (unit_of s r kinds.Task None)
unit_in s Srb r = Some (unit_of s r kinds.Srb (named_number_in s.units (value_at r.values 1)))
unit_in s _ r = None

abbrev pub units_from : SeenView → List ReadView → List UnitCard
units_from s reads = filter_map (λ r. unit_in s (role_of r.form) r) reads

-- the command that a card says
abbrev pub command_in : SeenView → Role → ReadView → Option CommandCard
command_in s Command r = Some (record { target = named_number_at s.units r.values 0; at = number_at r.values 1; dump = flag_at r.values 2 })
command_in s _ r = None

abbrev pub commands_from : SeenView → List ReadView → List CommandCard
commands_from s reads = filter_map (λ r. command_in s (role_of r.form) r) reads

abbrev pub region_with : Role → ReadView → ℕ × Bool → ℕ × Bool
region_with Region r others = (number_at r.values 0, flag_at r.values 1)
region_with _ r others = others

-- the limit of entries and whether routines get an SDWA: of REGION, or the defaults
abbrev pub region_from : List ReadView → ℕ × Bool
region_from [] = (default_entries, true)
region_from (r ∷ rs) = region_with (role_of r.form) r (region_from rs)

-- the deck
abbrev pub deck_of : ScanView → DeckView
deck_of t = record {
  limit = (region_from t.reads).0;
  sdwa = (region_from t.reads).1;
  programs = programs_from t.seen t.reads;
  units = units_from t.seen t.reads;
  commands = commands_from t.seen t.reads;
}
