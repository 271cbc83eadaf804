-- Births and deaths of holdings (this profile).
use Rattle.std.specs.Prelude.{List, Some, length, ℕ, ◌≡◌}
use Rattle.rtm_deck_items.specs.Reading.{op_at}
use Rattle.rtm_deck_items.specs.View.{DeckView}
use Rattle.rtm_deck_items.specs.declared.op.Op.{Op}
use Rattle.rtm_deck_items.specs.declared.op.Op.TheVariants.{Free, Get}
use Rattle.rtm_deck_operands.specs.declared.value.Res.{Res}
use Rattle.rtm_model.specs.declared.entry.Entry.{Entry}
use Rattle.rtm_model.specs.declared.entry.What.{What}
use Rattle.rtm_model.specs.declared.entry.What.TheVariants.{Exec, Release}
use Rattle.rtm_model.specs.declared.holding.Holding.{Holding}
use Rattle.rtm_model.specs.Advance.{world}
use Rattle.rtm_model.specs.Ending.{holdings_of, newest_equal, of_class}
use Rattle.rtm_model.specs.Moments.{IsHeld}
use Rattle.rtm_model.specs.inner.Soundness.{HoldingsFall}
use Rattle.rtm_model.specs.World.{World}
use Rattle.rtm_law_births.specs.Life.{HasTheLiving, Table}

-- GET makes a holding of the unit that executes it
abbrev pub CardMakes : ℕ → ℕ → ℕ → Op → Holding → Type 0
CardMakes n u rc (Get class id) holding = (rc ≡ 0) × (holding ≡ record { born = n; class = class; id = id; owner = u })
CardMakes n u rc _ holding = ⊥

abbrev pub EntryMakes : DeckView → ℕ → ℕ → What → Holding → Type 0
EntryMakes d n u (Exec at rc) holding = CardMakes n u rc (op_at d at.prog at.op) holding
EntryMakes d n u _ holding = ⊥

-- FREE is the death of the unit's newest holding of that class and number
abbrev pub CardKills : World → ℕ → ℕ → Op → Holding → Type 0
CardKills w u rc (Free class id) holding = (rc ≡ 0) × (newest_equal u class id w.holdings ≡ Some holding)
CardKills w u rc _ holding = ⊥

-- and RELEASE is that of its owner's newest
abbrev pub EntryKills : DeckView → World → ℕ → What → Holding → Type 0
EntryKills d w u (Exec at rc) holding = CardKills w u rc (op_at d at.prog at.op) holding
EntryKills d w u (Release class id owner) holding = newest_equal owner class id w.holdings ≡ Some holding
EntryKills d w u _ holding = ⊥

abbrev pub holdings : Table Holding
holdings = record {
  has = λ w holding. IsHeld w holding;
  starts = λ d holding. ⊥;
  makes = λ d w n e holding. EntryMakes d n e.unit e.what holding;
  kills = λ d w n e holding. EntryKills d w e.unit e.what holding;
}

-- each owner's list of a class has those that live, newest first
pub record AreTheHoldings (d : DeckView) (history : List Entry) : Type 0 where
  pub living : HasTheLiving holdings d history
  pub order : (owner : ℕ) (class : Res)
      → HoldingsFall (length history) (of_class class (holdings_of owner (World.holdings (world d history))))
