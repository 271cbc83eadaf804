-- What the reader answers where it reads no deck.
use Rattle.std.specs.Prelude.{◌≡◌, ℕ, List, Result, Ok, Err}
use Rattle.rtm_deck_items.specs.declared.why.Why.{Why}
use Rattle.rtm_deck_items.specs.View.{DeckView}
use Rattle.rtm_deck_items.specs.Faults.{IsFirstFault}
use Rattle.rtm_deck.specs.declared.fault.DeckFault.{DeckFault}
use Rattle.rtm_deck.specs.declared.fault.DeckFault.TheVariants.{Memory, Refused}

-- Want of memory, or exactly the first fault of the bytes.
abbrev pub IsRefusalOf : List ℕ → DeckFault → Type 0
IsRefusalOf bytes Memory = Unit {0}
IsRefusalOf bytes (Refused card why) = IsFirstFault bytes card why

-- That deck, but for want of memory.
abbrev pub IsThatDeck : DeckView → Result DeckView DeckFault → Type 0
IsThatDeck d (Ok deck) = deck ≡ d
IsThatDeck d (Err Memory) = Unit {0}
IsThatDeck d (Err (Refused card why)) = ⊥

-- That refusal, but for want of memory.
abbrev pub IsThatRefusal : ℕ → Why → Result DeckView DeckFault → Type 0
IsThatRefusal card why (Ok deck) = ⊥
IsThatRefusal card why (Err Memory) = Unit {0}
IsThatRefusal card why (Err (Refused c w)) = (c ≡ card) × (w ≡ why)
