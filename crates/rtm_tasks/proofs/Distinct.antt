-- A list of events in which none stands twice has at most 256.
use Rattle.std.proofs.Common.{◌≡◌, ℕ, ◌<◌, ◌≤◌, Bool, true, false, ◌||◌, List, [], ◌∷◌, ◌++◌, length, refl, sym, subst, arith}
use Rattle.std.specs.Prelude.{eqb, reverse}
use Rattle.std.specs.List.{list_any, AllByRecursion, IsDistinct}
use Rattle.std.proofs.lemmas.Bool.{eqb-true, or_parts}
use Rattle.std.proofs.lemmas.List.{length-reverse, reverse-append}
use Rattle.std.proofs.lemmas.Map.Keys.{IsDistinct-cons}
use Rattle.std.proofs.lemmas.Map.Steps.{length-le_from_distinct_below}
use Rattle.rtm_model.specs.Tasks.{is_posted}
use Rattle.rtm_tasks.specs.EventList.{AreEvents}

not_there : (event : ℕ) (events : List ℕ) → list_any (λ posted. eqb event posted) events ≡ false → AllByRecursion (λ y. eqb event y ≡ false) events
not_there event [] e = tt
not_there event (y ∷ ys) e =
    let parts : (eqb event y ≡ false) × (list_any (λ posted. eqb event posted) ys ≡ false) = or_parts (eqb event y) (list_any (λ posted. eqb event posted) ys) e in
    (parts.0, not_there event ys parts.1)

among : (q y : ℕ) (ys : List ℕ) (t : Bool) → eqb q y ≡ t → y < 256 → (list_any (eqb q) ys ≡ true → q < 256) → (t || list_any (eqb q) ys) ≡ true → q < 256
among q y ys true is below rest e = let same : q ≡ y = eqb-true q y is in omega arith
among q y ys false is below rest e = rest e

below : (events : List ℕ) → AllByRecursion (λ event. event < 256) events → (q : ℕ) → list_any (eqb q) events ≡ true → q < 256
below [] w q e = absurd cc
below (y ∷ ys) w q e = among q y ys (eqb q y) refl w.0 (below ys w.1 q) e

pub no_events : AreEvents []
unfolding IsDistinct
no_events = record { within = tt; distinct = tt }

one_more : (event : ℕ) (events : List ℕ) → event < 256 → AreEvents events → is_posted event events ≡ false → AreEvents (event ∷ events)
one_more event events fits are absent = record {
  within = (fits, are.within);
  distinct = IsDistinct-cons eqb event events (not_there event events absent) are.distinct;
}

at_most_256 : (events : List ℕ) → AreEvents events → length events ≤ 256
at_most_256 events are = length-le_from_distinct_below events 256 are.distinct (below events are.within)

-- an event that isn't there yet: there is room for it, and it may join the others
pub record MayJoin (event : ℕ) (items : List ℕ) : Type 0 where
  pub room : length items < 256
  pub joined : AreEvents (reverse (items ++ event ∷ []))

pub may_join : (event : ℕ) (items : List ℕ) → event < 256 → AreEvents (reverse items) → is_posted event (reverse items) ≡ false → MayJoin event items
may_join event items fits are absent =
    let more : AreEvents (event ∷ reverse items) = one_more event (reverse items) fits are absent in
    record {
      room = omega (arith, at_most_256 (event ∷ reverse items) more, length-reverse items);
      joined = subst AreEvents (sym (reverse-append items (event ∷ []))) more;
    }
