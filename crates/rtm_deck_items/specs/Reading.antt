-- What a deck answers to those who run it.
use Rattle.std.specs.Prelude.{ℕ, ◌+◌, ◌-◌, Bool, true, false, List, [], Option, Some, None, slice_get, position, bytes_eq, unwrap_or}
use Rattle.std.specs.Option.{option_map_or, option_map}
use Rattle.rtm_deck_items.specs.declared.deck.Line.{Line}
use Rattle.rtm_deck_items.specs.declared.deck.Unit.{Unit as UnitCard}
use Rattle.rtm_deck_items.specs.declared.deck.UnitKind.{UnitKind}
use Rattle.rtm_deck_items.specs.declared.deck.UnitKind.TheVariants.{Task, Srb}
use Rattle.rtm_deck_items.specs.declared.op.Op.{Op}
use Rattle.rtm_deck_items.specs.declared.op.Op.TheVariants.{Return}
use Rattle.rtm_deck_items.specs.View.{ProgramView, DeckView}

-- the cards of the program of that number, none where there is no such program
abbrev pub lines_in : Option ProgramView → List Line
lines_in None = []
lines_in (Some p) = p.lines

abbrev pub lines_of : DeckView → ℕ → List Line
lines_of d prog = lines_in (slice_get d.programs prog)

-- what the operation does; behind the last card a program returns (this profile)
abbrev pub op_in : Option Line → Op
op_in None = Return
op_in (Some line) = line.op

-- what stands at the operation of that number, from 1
abbrev pub op_at : DeckView → ℕ → ℕ → Op
op_at d prog op = op_in (slice_get (lines_of d prog) (op - 1))

-- the card carries the label
abbrev pub carries : List ℕ → Line → Bool
carries label line = option_map_or (λ own. bytes_eq own label) line.label false

-- the number of the operation that carries the label
abbrev pub label_at : DeckView → ℕ → List ℕ → Option ℕ
label_at d prog label = option_map (λ i. i + 1) (position (carries label) (lines_of d prog))

abbrev pub is_task : UnitKind → Bool
is_task Task = true
is_task Srb = false

-- the unit is a task
abbrev pub is_task_card : UnitCard → Bool
is_task_card unit = is_task unit.kind

-- the number of the first task, which is the job step task (this profile)
abbrev pub job_step : DeckView → ℕ
job_step d = unwrap_or (position is_task_card d.units) 0

-- the program of the unit of that number
abbrev pub program_of : DeckView → ℕ → ℕ
program_of d unit = option_map_or (λ card. card.prog) (slice_get d.units unit) 0
