use Rattle.rtm_deck.proofs.Inputs.BothWays.{that_deck, that_refusal}
use Rattle.rtm_deck.proofs.reading.read_deck.Goals as goal

pub returns-clause-spelled : goal.returns-clause-spelled
returns-clause-spelled c = λ d h. that_deck c.args.bytes.now d c.read_bytes.result c.read_bytes.ensures.found c.read_bytes.ensures.refused h

pub returns-clause-fault : goal.returns-clause-fault
returns-clause-fault c = λ card why h. that_refusal c.args.bytes.now card why c.read_bytes.result c.read_bytes.ensures.found c.read_bytes.ensures.refused h
