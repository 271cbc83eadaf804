-- How many entries a legal history has: as many as its deck allows at most, which a word of 32 bits holds.
use Rattle.std.proofs.Common.{IsTrue, List, arith, length, ◌<◌, ◌^◌, ◌≤◌}
use Rattle.rtm_deck_items.specs.View.{DeckView}
use Rattle.rtm_deck_items.specs.WellFormed.{is_well_formed}
use Rattle.rtm_deck_items.proofs.FormFacts.{limits}
use Rattle.rtm_model.specs.declared.entry.Entry.{Entry}
use Rattle.rtm_model.specs.Legal.{Legal}
use Rattle.rtm_crew.proofs.Regions.{within_limit}

pub is_counted : (d : DeckView) (history : List Entry) → IsTrue (is_well_formed d) → Legal d history → length history < 2 ^ 32
is_counted d history form legal =
    let most : d.limit ≤ 100000 = (limits d form).most in
    let all : length history ≤ d.limit = within_limit d history legal in
    omega (arith, most, all)
