use Rattle.rtm_deck_canon.proofs.Shortest.{shortest}
use Rattle.rtm_deck_canon.proofs.Covered.{canon-count}
use Rattle.rtm_deck_canon.proofs.CanonLaws.{canon_short, fewest_cards}
use Rattle.rtm_deck_canon.proofs.laws.no_spelling_is_shorter.Goals as goal

pub returns-clause-card : goal.returns-clause-card
returns-clause-card c = shortest

pub returns-clause-fits : goal.returns-clause-fits
returns-clause-fits c = canon_short

pub returns-clause-cards : goal.returns-clause-cards
returns-clause-cards c = fewest_cards

pub returns-clause-count : goal.returns-clause-count
returns-clause-count c = canon-count
