-- The operator's board, its seats, and how they fit each other. Operator commands, their words and seats are this
-- profile's.
use Rattle.std.specs.Prelude.{◌≡◌, ℕ, ◌+◌, ◌*◌, ◌<◌, ◌≤◌, true, false, ◌&&◌, ◌||◌, ◌==◌, if◌then◌else◌, List, [], ◌∷◌, length, map, replicate, slice_index, slice_set}
use Rattle.std.specs.List.{AllByRecursion, range_with_len}
use Rattle.rtm_deck_items.specs.View.{DeckView}
use Rattle.rtm_board.specs.Commands.{no_commands, has, with_one, union_of}

-- the unit that each command of the deck is for, by the command's number; and a word for each unit, with the commands
-- that were posted to it and that it hasn't taken
pub record BoardView : Type 0 where
  pub targets : List ℕ
  pub words : List ℕ

-- the same units; and the commands that the console has posted
pub record ConsoleView : Type 0 where
  pub targets : List ℕ
  pub posted : ℕ

-- a unit, the commands of the deck for it, and those that it has taken
pub record UnitView : Type 0 where
  pub unit : ℕ
  pub commands : ℕ
  pub taken : ℕ

-- the commands of the deck for that unit: bit by bit, from the first command on
abbrev pub commands_for : ℕ → List ℕ → ℕ
commands_for unit [] = 0
commands_for unit (target ∷ targets) = (if target == unit then 1 else 0) + 2 * commands_for unit targets

-- the unit that each command of the deck is for
abbrev pub targets_of : DeckView → List ℕ
targets_of d = map (λ command. command.target) d.commands

-- what stands in the unit's word
abbrev pub word_of : ℕ → BoardView → ℕ
word_of unit board = slice_index board.words unit

-- the board with another word for the unit
abbrev pub with_word : ℕ → ℕ → BoardView → BoardView
with_word unit word board = record board { words = slice_set board.words unit word }

-- the unit that the command is for
abbrev pub target_of : ℕ → BoardView → ℕ
target_of cmd board = slice_index board.targets cmd

-- the board with the command in the word of its unit
abbrev pub with_command : ℕ → BoardView → BoardView
with_command cmd board = with_word (target_of cmd board) (with_one cmd (word_of (target_of cmd board) board)) board

-- the commands of all words, or of all sets of a list
abbrev pub all_of : List ℕ → ℕ
all_of [] = no_commands
all_of (word ∷ words) = union_of word (all_of words)

-- the commands that the units of these seats have taken
abbrev pub commands_taken_by : List UnitView → ℕ
commands_taken_by seats = all_of (map (λ seat. seat.taken) seats)

-- the seat is one of the board's
pub record IsSeatOf (board : BoardView) (seat : UnitView) : Type 0 where
  pub unit : seat.unit < length board.words
  pub commands : seat.commands ≡ commands_for seat.unit board.targets

-- the seats are those of all units from that one on, in their order
abbrev pub AreSeatsFrom : BoardView → ℕ → List UnitView → Type 0
AreSeatsFrom board unit [] = unit ≡ length board.words
AreSeatsFrom board unit (seat ∷ seats) = (seat.unit ≡ unit) × IsSeatOf board seat × AreSeatsFrom board (unit + 1) seats

-- what the console has posted to the seat's unit is what stands in its word and what the seat has taken, and no
-- command is both
pub record IsAccountedFor (board : BoardView) (console : ConsoleView) (seat : UnitView) : Type 0 where
  pub is_seat : IsSeatOf board seat
  pub posted : (cmd : ℕ) → (has cmd (word_of seat.unit board) || has cmd seat.taken) ≡ (has cmd console.posted && has cmd seat.commands)
  pub never_both : (cmd : ℕ) → (has cmd (word_of seat.unit board) && has cmd seat.taken) ≡ false

-- the same of all seats of the board
pub record AreAccountedFor (board : BoardView) (console : ConsoleView) (seats : List UnitView) : Type 0 where
  pub all : AreSeatsFrom board 0 seats
  pub each : AllByRecursion (IsAccountedFor board console) seats

-- The views at the start, of so many units and of commands for those targets: nothing is posted and nothing is taken.

abbrev pub opening_board : List ℕ → ℕ → BoardView
opening_board targets units = record { targets = targets; words = replicate units no_commands }

abbrev pub opening_console : List ℕ → ConsoleView
opening_console targets = record { targets = targets; posted = no_commands }

abbrev pub opening_seat : List ℕ → ℕ → UnitView
opening_seat targets unit = record { unit = unit; commands = commands_for unit targets; taken = no_commands }

-- a seat for each unit, in their order
abbrev pub opening_seats : List ℕ → ℕ → List UnitView
opening_seats targets units = map (opening_seat targets) (range_with_len 0 units)

-- a new board and its seats
pub record IsOpening (targets : List ℕ) (units : ℕ) (board : BoardView) (console : ConsoleView) (seats : List UnitView) : Type 0 where
  pub board_is : board ≡ opening_board targets units
  pub console_is : console ≡ opening_console targets
  pub seats_are : seats ≡ opening_seats targets units
  pub accounted : AreAccountedFor board console seats

-- What the board and the console's seat keep

-- each command is for a unit of the board, and each word has only commands for its unit
pub record IsBoard (targets words : List ℕ) : Type 0 where
  pub few : length targets ≤ 64
  pub units : (cmd : ℕ) → cmd < length targets → slice_index targets cmd < length words
  pub own : (unit cmd : ℕ) → has cmd (slice_index words unit) ≡ true → has cmd (commands_for unit targets) ≡ true

-- what is posted are commands of the deck
pub record IsConsole (targets : List ℕ) (posted : ℕ) : Type 0 where
  pub own : (cmd : ℕ) → has cmd posted ≡ true → cmd < length targets
