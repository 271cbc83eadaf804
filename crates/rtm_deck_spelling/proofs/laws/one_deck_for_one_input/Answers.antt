use Rattle.rtm_deck_spelling.proofs.OneDeck.{one_deck}
use Rattle.rtm_deck_spelling.proofs.laws.one_deck_for_one_input.Goals as goal

pub returns : goal.returns
returns c = one_deck
