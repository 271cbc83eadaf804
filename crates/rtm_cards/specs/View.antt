-- What is cut from an input, as plain data.
use Rattle.std.specs.Prelude.{ℕ, List, Option}
use Rattle.rtm_cards.specs.declared.fault.CutFault.{CutFault}
use Rattle.rtm_cards.specs.declared.span.Span.{Span}

-- a card, by the parts of the input that its fields are
pub record CardSpans : Type 0 where
  pub number : ℕ
  pub name : Span
  pub op : Span
  pub operands : List Span

-- the cards before the first fault, how many cards stand before it with comments and blank ones, and the fault
pub record CutView : Type 0 where
  pub cards : List CardSpans
  pub lines : ℕ
  pub fault : Option CutFault
