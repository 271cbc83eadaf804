-- Each card of a deck is one that a unit can carry out.
use Rattle.std.proofs.Common.{◌≡◌, ℕ, sym}
use Rattle.std.specs.Prelude.{IsTrue}
use Rattle.rtm_deck_items.specs.declared.op.Op.{Op}
use Rattle.rtm_deck_items.specs.declared.op.Op.TheVariants as ops
use Rattle.rtm_deck_items.specs.View.{DeckView}
use Rattle.rtm_deck_items.specs.Reading.{op_at}
use Rattle.rtm_deck_items.specs.WellFormed.{is_well_formed}
use Rattle.rtm_model.proofs.SetrpCards.{ret15_at, setrp_at}
use Rattle.rtm_system_unit.specs.Applying.{IsFitting}

fitting : (d : DeckView) → IsTrue (is_well_formed d) → (prog op : ℕ) → (card : Op) → op_at d prog op ≡ card → IsFitting card
fitting d h prog op (ops.SetRp setrp) e = setrp_at d h prog op setrp e
fitting d h prog op (ops.Ret15 rc label) e = ret15_at d h prog op rc label e
fitting d h prog op _ e = tt

pub card_is_fitting : (d : DeckView) → IsTrue (is_well_formed d) → (prog op : ℕ) (card : Op) → card ≡ op_at d prog op → IsFitting card
card_is_fitting d h prog op card e = fitting d h prog op card (sym e)
