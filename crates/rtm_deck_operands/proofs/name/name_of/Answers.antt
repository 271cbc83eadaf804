use Rattle.std.proofs.Common.{◌≡◌, ◌∙◌, sym, true, subst, List, ℕ}
use Rattle.rtm_cards.specs.Name.{is_name}
use Rattle.rtm_deck_operands.specs.Name.{is_padded_name}
use Rattle.rtm_deck_operands.proofs.Names.{is_padded-padded_text}
use Rattle.rtm_deck_operands.proofs.name.name_of.Goals as goal

pub invariant_of-result : goal.invariant_of-result
invariant_of-result c =
    let name : is_name c.args.text.now ≡ true = sym c.is_name.ensures.value ∙ c.if-not-is_name.false in
    rw c.padded_text-bytes.ensures (is_padded-padded_text c.args.text.now name)
