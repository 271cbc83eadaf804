-- The three laws of a history together (this profile).
use Rattle.std.specs.Prelude.{List}
use Rattle.rtm_deck_items.specs.View.{DeckView}
use Rattle.rtm_model.specs.declared.entry.Entry.{Entry}
use Rattle.rtm_model.specs.AbortLaw.{AbortLaw}
use Rattle.rtm_model.specs.ChainLaw.{ChainLaw}
use Rattle.rtm_model.specs.HoldLaw.{HoldLaw}

pub record KeepsTheLaws (d : DeckView) (history : List Entry) : Type 0 where
  -- an error enters the routines that are eligible for it, in their order, at most once each
  pub chains : ChainLaw d history
  -- an abort lands at most once, where its unit may be interrupted, and no retry follows one that forbids it
  pub aborts : AbortLaw d history
  -- a holding ends by a single FREE or RELEASE, and none is left after its unit's DONE, or after MEMEND
  pub holdings : HoldLaw d history
