-- Where a unit has a next entry, the run goes on.
use Rattle.std.proofs.Common.{◌≡◌, ℕ, ◌≤◌, Bool, true, false, length, Option, Some, None, refl, sym, ap, ◌∙◌}
use Rattle.std.specs.Prelude.{if◌then◌else◌, is_some, nat_le, not, ◌&&◌}
use Rattle.rtm_deck_items.specs.View.{DeckView}
use Rattle.rtm_model.specs.declared.entry.End.TheVariants as ends
use Rattle.rtm_model.specs.declared.entry.What.{What}
use Rattle.rtm_model.specs.Arrivals.{goes_on}
use Rattle.rtm_model.specs.Legal.{end_in, is_stalled}
use Rattle.rtm_model.specs.NextEntry.{next}
use Rattle.rtm_model.specs.World.{World}
use Rattle.rtm_model.proofs.GoingOn.{goes_on_by}
use Rattle.rtm_model.specs.Turns.{entry_of}
use Rattle.rtm_system.specs.Steps.{step_answer_by, step_answer_in, stops}
use Rattle.rtm_system.specs.declared.stepped.Stepped.{Stepped}
use Rattle.rtm_system.specs.declared.stepped.Stepped.TheVariants.{AtLimit, IsOver, Made}

limit_stops : (b : Bool) → stops (if b then Some ends.Limit else None) ≡ false
limit_stops true = refl
limit_stops false = refl

not_stalled : (over stalled limit : Bool) → over ≡ false → stalled ≡ false → stops (if over then Some ends.Ended else if stalled then Some ends.Stalled else if limit then Some ends.Limit else None) ≡ false
not_stalled true stalled limit e f = absurd cc
not_stalled false true limit e f = absurd cc
not_stalled false false limit e f = limit_stops limit

quiet_not : (on other : Bool) → on ≡ true → (not on && other) ≡ false
quiet_not true other e = refl
quiet_not false other e = absurd cc

-- so nothing stops it but the limit
pub nothing_stops : (d : DeckView) (w : World) (n u : ℕ) (what : What) → w.over ≡ false → u ≤ length d.units → next d w u ≡ Some what → stops (end_in d w n) ≡ false
nothing_stops d w n u what over h e =
    let on = goes_on_by d w u h (ap (λ (o : Option What). is_some o) e) in
    not_stalled w.over (is_stalled d w n (not (goes_on d w))) (nat_le d.limit n) over (quiet_not (goes_on d w) _ on)

-- the address space has ended
pub over_stops : (d : DeckView) (w : World) (n : ℕ) → w.over ≡ true → stops (end_in d w n) ≡ true
over_stops d w n e = rw e refl

third : (a b : Bool) (x y z : Stepped) → a ≡ false → b ≡ true → y ≡ (if a then x else if b then y else z)
third true b x y z e f = absurd cc
third false true x y z e f = refl
third false false x y z e f = absurd cc

last_of : (a b : Bool) (x y z : Stepped) → a ≡ false → b ≡ false → z ≡ (if a then x else if b then y else z)
last_of true b x y z e f = absurd cc
last_of false true x y z e f = absurd cc
last_of false false x y z e f = refl

-- what is answered where a unit has a next entry and the address space hasn't ended
pub answers_limit : (d : DeckView) (w : World) (n u : ℕ) (what : What) → w.over ≡ false → u ≤ length d.units → next d w u ≡ Some what → nat_le d.limit n ≡ true → AtLimit ≡ step_answer_in d w n u
answers_limit d w n u what over h e full = third (stops (end_in d w n)) (nat_le d.limit n) IsOver AtLimit (step_answer_by u (next d w u)) (nothing_stops d w n u what over h e) full

pub answers_made : (d : DeckView) (w : World) (n u : ℕ) (what : What) → w.over ≡ false → u ≤ length d.units → next d w u ≡ Some what → nat_le d.limit n ≡ false → Made (entry_of u what) ≡ step_answer_in d w n u
answers_made d w n u what over h e room =
    ap (step_answer_by u) (sym e) ∙ last_of (stops (end_in d w n)) (nat_le d.limit n) IsOver AtLimit (step_answer_by u (next d w u)) (nothing_stops d w n u what over h e) room
