-- The units before the birth of any.
use Rattle.std.proofs.Common.{◌≡◌, ℕ, suc, ◌+◌, List, [], ◌∷◌, ◌++◌, length, map, refl, ap, ◌∙◌, arith, replicate}
use Rattle.rtm_deck_items.specs.declared.deck.Unit.{Unit as UnitCard}
use Rattle.rtm_model.specs.World.{UnitOfWork, unborn_unit}

one_more : (units : List UnitCard) → replicate (suc (length units)) unborn_unit ≡ map (λ unit. unborn_unit) units ++ unborn_unit ∷ []
one_more [] = refl
one_more (unit ∷ units) = ap (λ (l : List UnitOfWork). unborn_unit ∷ l) (one_more units)

-- one for each card, and the master
pub units_unborn : (units : List UnitCard) (n : ℕ) → n ≡ length units → replicate (n + 1) unborn_unit ≡ map (λ unit. unborn_unit) units ++ unborn_unit ∷ []
units_unborn units n e =
    let k : n + 1 ≡ suc (length units) = omega arith in
    ap (λ (m : ℕ). replicate m unborn_unit) k ∙ one_more units
