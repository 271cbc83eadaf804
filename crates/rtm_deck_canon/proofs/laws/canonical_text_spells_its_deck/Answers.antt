use Rattle.rtm_deck_canon.proofs.CanonLaws.{canon_short, canon_spells, canon-lines}
use Rattle.rtm_deck_canon.proofs.laws.canonical_text_spells_its_deck.Goals as goal

pub returns-clause-spelled : goal.returns-clause-spelled
returns-clause-spelled c = λ d bytes h. canon_spells d h.well_formed (canon_short d bytes h)

pub returns-clause-possible : goal.returns-clause-possible
returns-clause-possible c = canon_spells

pub returns-clause-lines : goal.returns-clause-lines
returns-clause-lines c = λ d bytes h. canon-lines d h.well_formed (canon_short d bytes h)
