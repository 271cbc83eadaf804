-- Units before the first entry, of which none but the job step task was born.
use Rattle.std.proofs.Common.{◌≡◌, ℕ, zero, suc, ◌+◌, ◌<◌, Bool, true, false, cond, List, [], ◌∷◌, ◌++◌, length, map, Some, None, refl, arith}
use Rattle.std.proofs.lemmas.Bool.{ltb-true}
use Rattle.std.specs.Prelude.{IsTrue, nat_lt, unwrap_or}
use Rattle.std.specs.List.{list_any, position_or_len}
use Rattle.rtm_deck_items.specs.declared.deck.Unit.{Unit as UnitCard}
use Rattle.rtm_deck_items.specs.Reading.{is_task_card, job_step}
use Rattle.rtm_deck_items.specs.View.{DeckView}
use Rattle.rtm_deck_items.specs.WellFormed.{is_well_formed}
use Rattle.rtm_deck_items.proofs.FormFacts.{conditions}
use Rattle.rtm_model.specs.Tasks.{Dormant, life_of}
use Rattle.rtm_model.specs.World.{unborn_unit, unit_at}

first_if : (b : Bool) (k m : ℕ) → nat_lt k m ≡ b → 0 < m → unwrap_or (cond b (Some k) None) 0 < m
first_if true k m e some = ltb-true k m e
first_if false k m e some = some

some_where : {X : Type 0} (p : X → Bool) (xs : List X) → list_any p xs ≡ true → 0 < length xs
some_where p [] h = absurd cc
some_where p (x ∷ xs) h = omega arith

-- the job step task is a unit of the deck
pub job_step_in : (d : DeckView) → IsTrue (is_well_formed d) → job_step d < length d.units
job_step_in d h = first_if _ (position_or_len is_task_card d.units) (length d.units) refl (some_where is_task_card d.units (conditions d h).task)

-- each unit, also the master, is as before its birth
pub all_unborn : (cards : List UnitCard) (v : ℕ) → unit_at v (map (λ card. unborn_unit) cards ++ unborn_unit ∷ []) ≡ unborn_unit
all_unborn [] zero = refl
all_unborn [] (suc v) = refl
all_unborn (card ∷ cards) zero = refl
all_unborn (card ∷ cards) (suc v) = all_unborn cards v

pub length-unborn : (cards : List UnitCard) → length (map (λ card. unborn_unit) cards ++ unborn_unit ∷ []) ≡ length cards + 1
length-unborn [] = refl
length-unborn (card ∷ cards) = omega (arith, length-unborn cards)

pub all_dormant : (cards : List UnitCard) (v : ℕ) → life_of v (map (λ card. Dormant) cards) ≡ Dormant
all_dormant [] v = refl
all_dormant (card ∷ cards) zero = refl
all_dormant (card ∷ cards) (suc v) = all_dormant cards v

pub length-dormant : (cards : List UnitCard) → length (map (λ card. Dormant) cards) ≡ length cards
length-dormant [] = refl
length-dormant (card ∷ cards) = omega (arith, length-dormant cards)
