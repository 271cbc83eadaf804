-- Each thing has one birth entry, and what lives is not born again (this profile). The tables of births and deaths are
-- those of rtm_law_births.
use Rattle.std.specs.Prelude.{List, ℕ, ◌≡◌}
use Rattle.rtm_deck_items.specs.View.{DeckView}
use Rattle.rtm_model.specs.declared.block.Place.{Place}
use Rattle.rtm_model.specs.declared.entry.Entry.{Entry}
use Rattle.rtm_model.specs.Moments.{IsAt, before}
use Rattle.rtm_law_births.specs.Aborts.{AreTheAborts, aborts}
use Rattle.rtm_law_births.specs.Brackets.{AreTheBrackets}
use Rattle.rtm_law_births.specs.Errors.{AreTheErrors}
use Rattle.rtm_law_births.specs.Estaes.{AreTheEstaes, estaes}
use Rattle.rtm_law_births.specs.Estais.{AreTheEstais, estais}
use Rattle.rtm_law_births.specs.Frrs.{AreTheFrrs, frrs}
use Rattle.rtm_law_births.specs.Holdings.{AreTheHoldings, holdings}
use Rattle.rtm_law_births.specs.Life.{StateTable, Table}
use Rattle.rtm_law_births.specs.LivingUnits.{AreTheUnits, units}
use Rattle.rtm_law_births.specs.Managers.{AreTheManagers, managers}
use Rattle.rtm_law_births.specs.RequestBlocks.{AreTheBlocks, UnitBlock, blocks}

pub record IsBornOnce {X : Type 0} (table : Table X) (d : DeckView) (history : List Entry) : Type 0 where
  -- no two entries make the same thing
  pub once : (x : X) (i j : ℕ) (e other : Entry) → IsAt history i e → IsAt history j other
      → table.makes d (before d history i) i e x → table.makes d (before d history j) j other x → i ≡ j
  -- and none makes what lives already
  pub new : (x : X) (i : ℕ) (e : Entry) → IsAt history i e → table.makes d (before d history i) i e x
      → table.has (before d history i) x → ⊥

-- units, recovery routines of each kind, resource managers, holdings, pending aborts, and request blocks
pub record AreBornOnce (d : DeckView) (history : List Entry) : Type 0 where
  pub units : IsBornOnce units d history
  pub frrs : IsBornOnce frrs d history
  pub estaes : IsBornOnce estaes d history
  pub estais : IsBornOnce estais d history
  pub managers : IsBornOnce managers d history
  pub holdings : IsBornOnce holdings d history
  pub aborts : IsBornOnce aborts d history
  pub blocks : (x : UnitBlock) (place other_place : Place) (i j : ℕ) (e other : Entry) → IsAt history i e
      → IsAt history j other
      → StateTable.makes blocks d (before d history i) i e x place
      → StateTable.makes blocks d (before d history j) j other x other_place → i ≡ j

-- all that lives after the history is what its entries have made and not ended, kind by kind
pub record HasWhatLives (d : DeckView) (history : List Entry) : Type 0 where
  pub units : AreTheUnits d history
  pub blocks : AreTheBlocks d history
  pub brackets : AreTheBrackets d history
  pub errors : AreTheErrors d history
  pub frrs : AreTheFrrs d history
  pub estaes : AreTheEstaes d history
  pub estais : AreTheEstais d history
  pub managers : AreTheManagers d history
  pub holdings : AreTheHoldings d history
  pub aborts : AreTheAborts d history
