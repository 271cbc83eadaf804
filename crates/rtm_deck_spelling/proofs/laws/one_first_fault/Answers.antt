use Rattle.rtm_deck_spelling.proofs.FirstFault.{one_fault_of_input}
use Rattle.rtm_deck_spelling.proofs.laws.one_first_fault.Goals as goal

pub returns-clause-card : goal.returns-clause-card
returns-clause-card c = λ bytes a b p q f g. (one_fault_of_input bytes a b p q f g).0

pub returns-clause-why : goal.returns-clause-why
returns-clause-why c = λ bytes a b p q f g. (one_fault_of_input bytes a b p q f g).1
