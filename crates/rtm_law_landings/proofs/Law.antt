-- Every legal history keeps the law of aborts.
use Rattle.std.proofs.Common.{List}
use Rattle.std.specs.Prelude.{IsTrue}
use Rattle.rtm_deck_items.specs.View.{DeckView}
use Rattle.rtm_deck_items.specs.WellFormed.{is_well_formed}
use Rattle.rtm_model.specs.declared.entry.Entry.{Entry}
use Rattle.rtm_model.specs.AbortLaw.{AbortLaw}
use Rattle.rtm_model.specs.Legal.{Legal}
use Rattle.rtm_model.specs.inner.Soundness.{ArePending, IsSound}
use Rattle.rtm_law_births.proofs.Sound.{IsSoundHistory, sound_history}
use Rattle.rtm_law_landings.proofs.Each.{each_keeps}
use Rattle.rtm_law_landings.proofs.Ends.{abort_dies}
use Rattle.rtm_law_landings.proofs.Fields.{land_last, land_lands, land_later, land_once, land_queued, land_shows}
use Rattle.rtm_law_landings.proofs.Over.{nothing_pending}
use Rattle.rtm_law_landings.proofs.Queues.{queued_pending}
use Rattle.rtm_law_landings.proofs.Waits.{lands_next}

pub keeps_law : (d : DeckView) (h : List Entry) → IsTrue (is_well_formed d) → Legal d h → AbortLaw d h
keeps_law d h deck legal = record {
  queued = λ i u class from mark at.
      let queue = land_queued d h deck legal i u class from mark at in
      (land_later d h deck legal i u class from mark at, queue, queued_pending d h deck legal from u class queue);
  posts = λ from target class queue. queued_pending d h deck legal from target class queue;
  once = λ i j u class from mark other at then. land_once d h deck legal i j u class from mark other at then;
  lands = λ i u class from mark at. land_lands d h deck legal i u class from mark at;
  prompt = λ i j u class from what may own. lands_next d h deck legal u class from i j what may own;
  dies = λ i u class from e at pending gone. abort_dies d h deck legal i u e at class from pending gone;
  over = λ i j u e at ends less within. nothing_pending d h deck legal i j u e at less ends within;
  shows = λ i u class from mark at. land_shows d h deck legal i u class from mark at;
  last = λ i j u class from mark what at forbids less then. land_last d h deck legal i j u class from mark what at forbids less then;
  distinct = λ i u le. ArePending.distinct (IsSound.pending (IsSoundHistory.worlds (sound_history d h deck legal) i le) u);
  each = each_keeps d h deck legal;
}
