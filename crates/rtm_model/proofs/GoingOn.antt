-- Where a unit has a next entry, the whole goes on.
use Rattle.std.proofs.Common.{◌≡◌, ℕ, zero, suc, ◌<◌, ◌≤◌, Bool, true, false, length, refl, subst, arith, eqb}
use Rattle.std.specs.Prelude.{is_some}
use Rattle.std.proofs.lemmas.Bool.{eqb-false, eqb-true, or_left, or_right}
use Rattle.rtm_deck_items.specs.View.{DeckView}
use Rattle.rtm_model.specs.Arrivals.{goes_on, goes_on_below}
use Rattle.rtm_model.specs.NextEntry.{next}
use Rattle.rtm_model.specs.World.{World}

less : (u k : ℕ) → u < suc k → (u ≡ k → ⊥) → u < k
less u k lt ne = omega (arith, lt, ne)

-- one below that number
here_or_below : (d : DeckView) (w : World) (u k : ℕ) (b : Bool) → eqb u k ≡ b → u < suc k → is_some (next d w u) ≡ true → (u < k → goes_on_below d w k ≡ true) → goes_on_below d w (suc k) ≡ true
here_or_below d w u k true same lt e more = or_right (goes_on_below d w k) (is_some (next d w k)) (subst (λ (j : ℕ). is_some (next d w j) ≡ true) (eqb-true u k same) e)
here_or_below d w u k false same lt e more = or_left (goes_on_below d w k) (is_some (next d w k)) (more (less u k lt (eqb-false u k same)))

some_below : (d : DeckView) (w : World) (u k : ℕ) → u < k → is_some (next d w u) ≡ true → goes_on_below d w k ≡ true
some_below d w u zero lt e = absurd (omega arith)
some_below d w u (suc k) lt e = here_or_below d w u k (eqb u k) refl lt e (λ below. some_below d w u k below e)

-- a unit of the deck, or the master
pub goes_on_by : (d : DeckView) (w : World) (u : ℕ) → u ≤ length d.units → is_some (next d w u) ≡ true → goes_on d w ≡ true
goes_on_by d w u h e = some_below d w u (suc (length d.units)) (omega arith) e
