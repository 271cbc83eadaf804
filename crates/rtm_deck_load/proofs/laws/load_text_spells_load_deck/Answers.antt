use Rattle.rtm_deck_load.proofs.Spelled.{spelled}
use Rattle.rtm_deck_load.proofs.laws.load_text_spells_load_deck.Goals as goal

pub returns : goal.returns
returns c = spelled
