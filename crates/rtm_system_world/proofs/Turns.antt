-- Whether some unit goes on: a search by number.
use Rattle.std.proofs.Common.{◌≡◌, ℕ, suc, ◌+◌, ◌<◌, false, true, length, sym, subst, arith}
use Rattle.std.specs.Prelude.{is_some}
use Rattle.std.proofs.lemmas.Bool.{or_from}
use Rattle.rtm_deck_items.specs.View.{DeckView}
use Rattle.rtm_model.specs.Arrivals.{goes_on, goes_on_below}
use Rattle.rtm_model.specs.NextEntry.{next}
use Rattle.rtm_model.specs.World.{World}
use Rattle.rtm_model.proofs.GoingOn.{goes_on_by}

suc_is : (u : ℕ) → u + 1 ≡ suc u
suc_is u = omega arith

-- none below it, and not it
pub none_more : (d : DeckView) (w : World) (u : ℕ) → goes_on_below d w u ≡ false → is_some (next d w u) ≡ false → goes_on_below d w (u + 1) ≡ false
none_more d w u e f = subst (λ (k : ℕ). goes_on_below d w k ≡ false) (sym (suc_is u)) (or_from (goes_on_below d w u) (is_some (next d w u)) e f)

-- one of the deck's does
pub some_in_all : (d : DeckView) (w : World) (u : ℕ) → u < length d.units → is_some (next d w u) ≡ true → goes_on d w ≡ true
some_in_all d w u lt e = goes_on_by d w u (omega (arith, lt)) e
