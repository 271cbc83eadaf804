use Rattle.rtm_deck_spelling.proofs.OneDeck.{one_deck}
use Rattle.rtm_deck_spelling.proofs.NotBoth.{never_both}
use Rattle.rtm_deck.proofs.Inputs.BothWays.{deck_or_fault}
use Rattle.rtm_deck.proofs.laws.each_input_is_a_deck_or_has_a_fault.Goals as goal

pub returns-clause-either : goal.returns-clause-either
returns-clause-either c = deck_or_fault

pub returns-clause-not_both : goal.returns-clause-not_both
returns-clause-not_both c = never_both

pub returns-clause-one_deck : goal.returns-clause-one_deck
returns-clause-one_deck c = one_deck
