use Rattle.rtm_deck_spelling.proofs.NotBoth.{never_both}
use Rattle.rtm_deck_spelling.proofs.laws.no_deck_with_a_fault.Goals as goal

pub returns : goal.returns
returns c = never_both
