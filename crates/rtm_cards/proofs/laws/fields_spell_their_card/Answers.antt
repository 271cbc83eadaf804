use Rattle.rtm_cards.proofs.Spelled.{card_read, card_spelled}
use Rattle.rtm_cards.proofs.laws.fields_spell_their_card.Goals as goal

pub returns : goal.returns
returns c = record { spelled = card_spelled; only = λ line card h. card_read card.number line card.name card.op card.operands h.blanks h.rest h.whole h.name h.op h.op_stands h.operands }
