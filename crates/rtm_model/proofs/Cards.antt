-- What a card leaves of its unit's own control blocks.
use Rattle.std.proofs.Common.{◌≡◌, ℕ, refl}
use Rattle.rtm_deck_items.specs.declared.op.Op.{Op}
use Rattle.rtm_deck_items.specs.declared.op.Op.TheVariants.{Nop}
use Rattle.rtm_model.specs.declared.block.Place.{Place}
use Rattle.rtm_model.specs.OwnChange.{own_card}
use Rattle.rtm_model.specs.World.{Core}

-- the ESTAI routines
pub card_estais : (n : ℕ) (place : Place) (op : Op) (c : Core) → Core.estais (own_card n place op c) ≡ c.estais
card_estais n place Nop c = refl
card_estais n place _ c = refl

-- how the unit has begun to end
pub card_begun : (n : ℕ) (place : Place) (op : Op) (c : Core) → Core.begun (own_card n place op c) ≡ c.begun
card_begun n place Nop c = refl
card_begun n place _ c = refl
