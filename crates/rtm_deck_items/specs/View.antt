-- A deck as plain data: what contracts see of it, with lists in the place of vectors.
use Rattle.std.specs.Prelude.{ℕ, Bool, List}
use Rattle.rtm_deck_items.specs.declared.deck.Line.{Line}
use Rattle.rtm_deck_items.specs.declared.deck.Unit.{Unit as UnitCard}
use Rattle.rtm_deck_items.specs.declared.deck.Command.{Command}

-- a program's name, padded with blanks, and its cards
pub record ProgramView : Type 0 where
  pub name : List ℕ
  pub lines : List Line

-- a deck: the limit of entries, whether ESTAE and ESTAI routines get an SDWA, and programs, units and commands in the
-- order of their cards
pub record DeckView : Type 0 where
  pub limit : ℕ
  pub sdwa : Bool
  pub programs : List ProgramView
  pub units : List UnitCard
  pub commands : List Command
