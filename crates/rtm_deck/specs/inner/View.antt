-- What contracts see of a card that was read.
use Rattle.std.specs.Prelude.{ℕ, Bool, List, Option}
use Rattle.rtm_deck_operands.specs.declared.value.Value.{Value}
use Rattle.rtm_deck_items.specs.declared.form.CardForm.{CardForm}
use Rattle.rtm_deck_items.specs.declared.why.Why.{Why}

-- a card that was read: its number, its name with its padding, its form and the values of its operands
pub record ReadView : Type 0 where
  pub number : ℕ
  pub name : Option (List ℕ)
  pub form : CardForm
  pub values : List (Option Value)

-- the names that stand on the cards so far, and what the next card may be
pub record SeenView : Type 0 where
  pub started : Bool
  pub inside : Bool
  pub oper : Bool
  pub ended : Bool
  pub programs : List (List ℕ)
  pub units : List (List ℕ)
  pub tasks : List (List ℕ)
  pub srbs : List (List ℕ)
  pub commands : ℕ
  pub own : List (List ℕ)
  pub labels : List (List ℕ)

-- the cards that were read, and what was seen on them
pub record ScanView : Type 0 where
  pub reads : List ReadView
  pub seen : SeenView

-- a refusal: the number of the card, and what is wrong with it
pub record Refusal : Type 0 where
  pub card : ℕ
  pub why : Why
