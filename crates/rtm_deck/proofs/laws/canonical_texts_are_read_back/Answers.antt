use Rattle.rtm_deck.proofs.Inputs.BothWays.{reads_back, same_text}
use Rattle.rtm_deck.proofs.laws.canonical_texts_are_read_back.Goals as goal

pub returns-clause-back : goal.returns-clause-back
returns-clause-back c = reads_back

pub returns-clause-same : goal.returns-clause-same
returns-clause-same c = same_text
