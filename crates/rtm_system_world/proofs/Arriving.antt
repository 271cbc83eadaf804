-- The first command that may arrive, found command by command.
use Rattle.std.proofs.Common.{◌≡◌, ℕ, ◌+◌, ◌<◌, ◌≤◌, Bool, true, false, List, drop, eqb, length, take, Option, Some, None, refl, ap, ◌∙◌, arith, get_or}
use Rattle.std.specs.Prelude.{◌==◌}
use Rattle.std.specs.Option.{option_or}
use Rattle.std.proofs.lemmas.Bool.{eqb-true}
use Rattle.std.proofs.lemmas.List.{drop_more, drop_all, length-take}
use Rattle.rtm_deck_items.specs.declared.deck.Command.{Command}
use Rattle.rtm_deck_items.specs.View.{DeckView}
use Rattle.rtm_model.specs.declared.entry.Entry.{Entry}
use Rattle.rtm_model.specs.Arrivals.{arrival_fate, arrival_of, earlier_count, first_arrival, first_arrival_in, is_in_turn}
use Rattle.rtm_model.proofs.Lists.{length-filter-le}
use Rattle.rtm_model.specs.World.{UnitOfWork, World, unit_at}

opened : (d : DeckView) (w : World) (n : ℕ) (quiet : Bool) (k : ℕ) (x : Command) → k < length d.commands → first_arrival_in d w n quiet k (drop k d.commands)
    ≡ option_or (arrival_of (Command.target (get_or d.commands k x)) k (arrival_fate d w n quiet k (Some (get_or d.commands k x)))) (first_arrival_in d w n quiet (k + 1) (drop (k + 1) d.commands))
opened d w n quiet k x h = ap (first_arrival_in d w n quiet k) (drop_more d.commands k x h)

-- it is this one
pub arrives_here : (d : DeckView) (w : World) (n : ℕ) (quiet : Bool) (k : ℕ) (x : Command) (e : Entry) → k < length d.commands
    → first_arrival d w n quiet ≡ first_arrival_in d w n quiet k (drop k d.commands)
    → arrival_of (Command.target (get_or d.commands k x)) k (arrival_fate d w n quiet k (Some (get_or d.commands k x))) ≡ Some e → first_arrival d w n quiet ≡ Some e
arrives_here d w n quiet k x e h so here =
    so ∙ opened d w n quiet k x h ∙ ap (λ (o : Option Entry). option_or o (first_arrival_in d w n quiet (k + 1) (drop (k + 1) d.commands))) here

-- it is a later one
pub arrives_later : (d : DeckView) (w : World) (n : ℕ) (quiet : Bool) (k : ℕ) (x : Command) → k < length d.commands
    → first_arrival d w n quiet ≡ first_arrival_in d w n quiet k (drop k d.commands)
    → arrival_of (Command.target (get_or d.commands k x)) k (arrival_fate d w n quiet k (Some (get_or d.commands k x))) ≡ None
    → first_arrival d w n quiet ≡ first_arrival_in d w n quiet (k + 1) (drop (k + 1) d.commands)
arrives_later d w n quiet k x h so here =
    so ∙ opened d w n quiet k x h ∙ ap (λ (o : Option Entry). option_or o (first_arrival_in d w n quiet (k + 1) (drop (k + 1) d.commands))) here

-- there is none
pub arrives_never : (d : DeckView) (w : World) (n : ℕ) (quiet : Bool) (k : ℕ) → length d.commands ≤ k → first_arrival d w n quiet ≡ first_arrival_in d w n quiet k (drop k d.commands) → first_arrival d w n quiet ≡ None
arrives_never d w n quiet k h so = so ∙ ap (first_arrival_in d w n quiet k) (drop_all k d.commands h)

-- no more than k commands stand before the k-th
earlier_few : (target k : ℕ) (commands : List Command) → earlier_count target k commands ≤ k
earlier_few target k commands =
    let a = length-filter-le (λ command. command.target == target) (take k commands) in
    omega (arith, a, length-take k commands)

unequal : (n k : ℕ) (b : Bool) → eqb n k ≡ b → n < k → b ≡ false
unequal n k true e lt = absurd (omega (arith, eqb-true n k e, lt))
unequal n k false e lt = refl

-- where more have arrived than stand before it, it has arrived itself
pub more_have_arrived : (d : DeckView) (w : World) (target k : ℕ) → k < UnitOfWork.arrived (unit_at target w.units) → is_in_turn d w target k ≡ false
more_have_arrived d w target k lt =
    let few = earlier_few target k d.commands in
    unequal (earlier_count target k d.commands) (UnitOfWork.arrived (unit_at target w.units)) (is_in_turn d w target k) refl (omega (arith, few, lt))
