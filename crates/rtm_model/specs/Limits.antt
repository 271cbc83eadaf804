-- The limits of the machine (this profile). Those of a deck are passed on.
use Rattle.std.specs.Prelude.{ℕ}
pub use Rattle.rtm_cards.specs.Limits

-- ESTAE routines of a unit that live at one time
abbrev pub most_estaes : ℕ
most_estaes = 64

-- ESTAI routines of a task: its own, and one for each of its ancestors but the job step task, of as many units as a deck
-- has at most
abbrev pub most_estais : ℕ
most_estais = 63

-- FRRs of a unit that live at one time
abbrev pub most_frrs : ℕ
most_frrs = 16

-- request blocks of a bracket
abbrev pub most_blocks : ℕ
most_blocks = 32

-- brackets of a unit
abbrev pub most_brackets : ℕ
most_brackets = 16

-- the depth of the last of so many brackets, in which no recovery routine is made
abbrev pub deepest : ℕ
deepest = 15

-- holdings of a unit
abbrev pub most_holdings : ℕ
most_holdings = 256

-- resource managers of an address space
abbrev pub most_managers : ℕ
most_managers = 64

-- how many numbers a word of 32 bits tells apart: reason codes, and indexes of entries
abbrev pub words : ℕ
words = 4294967296
