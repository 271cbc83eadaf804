-- An abort that lands is the first that is pending.
use Rattle.std.proofs.Common.{◌≡◌, ℕ, List, Option}
use Rattle.rtm_deck_items.specs.View.{DeckView}
use Rattle.rtm_codes.specs.Code.{IsInRange}
use Rattle.rtm_model.specs.declared.abort.Abort.{Abort}
use Rattle.rtm_model.specs.declared.entry.Class.{Class}
use Rattle.rtm_model.specs.declared.entry.What.{What}
use Rattle.rtm_model.specs.declared.entry.What.TheVariants as whats
use Rattle.rtm_model.specs.declared.holding.Manager1.{Manager1}
use Rattle.rtm_model.specs.Aborts.{abort_named, first_abort}
use Rattle.rtm_model.specs.World.{Core}
use Rattle.rtm_model.proofs.Landing.{named_first}
use Rattle.rtm_system_unit.specs.Applying.{CanApplyTo, LandsFirst, NamesFirst}

pub named : (class : Class) (from : ℕ) (aborts : List Abort) → NamesFirst class from (first_abort aborts) → abort_named class from aborts ≡ first_abort aborts
named class from aborts h = named_first class from (λ abort. IsInRange abort.code) aborts h

pub lands : (d : DeckView) (c : Core) (managers : List Manager1) (abort : Option Abort) (what : What) → CanApplyTo d c managers abort what → LandsFirst abort what
lands d c managers abort (whats.Land class from mark) h = h
lands d c managers abort _ h = tt
