-- The limits of an input and of the deck that it spells (this profile).
use Rattle.std.specs.Prelude.{ℕ}

-- bytes of an input
abbrev pub most_bytes : ℕ
most_bytes = 16777216

-- cards of an input, comments and blank ones among them
abbrev pub most_cards : ℕ
most_cards = 10000

-- bytes of a card, its line feed left out
abbrev pub most_card_bytes : ℕ
most_card_bytes = 80

-- programs of a deck
abbrev pub most_programs : ℕ
most_programs = 256

-- units of work of a deck
abbrev pub most_units : ℕ
most_units = 64

-- commands of a deck
abbrev pub most_commands : ℕ
most_commands = 64

-- entries of a history, as a deck may ask for them
abbrev pub most_entries : ℕ
most_entries = 100000

-- entries of a history where a deck doesn't say
abbrev pub default_entries : ℕ
default_entries = 20000
