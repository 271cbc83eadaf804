-- The first arrival of all is one that may follow, and it leaves the turn where it is.
use Rattle.std.proofs.Common.{◌≡◌, ℕ, suc, ◌+◌, ◌≤◌, List, [], ◌∷◌, length, Option, Some, None, refl, ap, subst, ◌∙◌, arith}
use Rattle.std.specs.Prelude.{Bool, IfSome, not, slice_get}
use Rattle.std.specs.Option.{option_map_or, option_or}
use Rattle.rtm_deck_items.specs.declared.deck.Command.{Command}
use Rattle.rtm_deck_items.specs.View.{DeckView}
use Rattle.rtm_model.specs.declared.entry.Fate.{Fate}
use Rattle.rtm_model.specs.Arrivals.{arrival_fate, arrival_of, first_arrival, first_arrival_in, goes_on}
use Rattle.rtm_model.specs.Legal.{MayFollow}
use Rattle.rtm_model.specs.Turns.{turn_after}
use Rattle.rtm_model.specs.World.{World}

pub either : {A : Type 0} (P : A → Type 0) (a b : Option A) → IfSome a P → IfSome b P → IfSome (option_or a b) P
either P None b h i = i
either P (Some x) b h i = h

-- the arrival of that command
arrives : (d : DeckView) (w : World) (n cmd : ℕ) (command : Command) (posted : Option Fate) → arrival_fate d w n (not (goes_on d w)) cmd (Some command) ≡ posted → slice_get d.commands cmd ≡ Some command
    → IfSome (arrival_of command.target cmd posted) (λ e. MayFollow d w n e e.what)
arrives d w n cmd command None f s = tt
arrives d w n cmd command (Some posted) f s =
    ap (λ (o : Option Command). arrival_of (option_map_or (λ (c : Command). c.target) o 0) cmd (arrival_fate d w n (not (goes_on d w)) cmd o)) s
    ∙ ap (λ (o : Option Fate). arrival_of command.target cmd o) f

-- the commands from that number on
abbrev AreFrom : ℕ → List Command → List Command → Type 0
AreFrom cmd rest all = (i : ℕ) (command : Command) → slice_get rest i ≡ Some command → slice_get all (cmd + i) ≡ Some command

first_in : (d : DeckView) (w : World) (n cmd : ℕ) (commands : List Command) → AreFrom cmd commands d.commands → IfSome (first_arrival_in d w n (not (goes_on d w)) cmd commands) (λ e. MayFollow d w n e e.what)
first_in d w n cmd [] from = tt
first_in d w n cmd (command ∷ commands) from =
    let here : cmd + 0 ≡ cmd = omega arith in
    let later : (i : ℕ) → cmd + suc i ≡ cmd + 1 + i = λ i. omega arith in
    let quiet = not (goes_on d w) in
    either (λ e. MayFollow d w n e e.what) (arrival_of command.target cmd (arrival_fate d w n quiet cmd (Some command))) (first_arrival_in d w n quiet (cmd + 1) commands)
    (arrives d w n cmd command (arrival_fate d w n quiet cmd (Some command)) refl (subst (λ (k : ℕ). slice_get d.commands k ≡ Some command) here (from 0 command refl)))
    (first_in d w n (cmd + 1) commands (λ i other e. subst (λ (k : ℕ). slice_get d.commands k ≡ Some other) (later i) (from (suc i) other e)))

pub first_follows : (d : DeckView) (w : World) (n : ℕ) → IfSome (first_arrival d w n (not (goes_on d w))) (λ e. MayFollow d w n e e.what)
first_follows d w n = first_in d w n 0 d.commands (λ i command e. subst (λ (k : ℕ). slice_get d.commands k ≡ Some command) (omega arith) e)

-- ---- whose turn comes after it

stays : (d : DeckView) (u target cmd : ℕ) (posted : Option Fate) → u ≤ length d.units → IfSome (arrival_of target cmd posted) (λ e. turn_after d u e.unit e.what ≤ length d.units)
stays d u target cmd None h = tt
stays d u target cmd (Some posted) h = h

stays_in : (d : DeckView) (w : World) (n : ℕ) (quiet : Bool) (u cmd : ℕ) (commands : List Command) → u ≤ length d.units → IfSome (first_arrival_in d w n quiet cmd commands) (λ e. turn_after d u e.unit e.what ≤ length d.units)
stays_in d w n quiet u cmd [] h = tt
stays_in d w n quiet u cmd (command ∷ commands) h =
    either (λ e. turn_after d u e.unit e.what ≤ length d.units) (arrival_of command.target cmd (arrival_fate d w n quiet cmd (Some command))) (first_arrival_in d w n quiet (cmd + 1) commands)
    (stays d u command.target cmd (arrival_fate d w n quiet cmd (Some command)) h) (stays_in d w n quiet u (cmd + 1) commands h)

pub first_stays : (d : DeckView) (w : World) (n : ℕ) (quiet : Bool) (u : ℕ) → u ≤ length d.units → IfSome (first_arrival d w n quiet) (λ e. turn_after d u e.unit e.what ≤ length d.units)
first_stays d w n quiet u h = stays_in d w n quiet u 0 d.commands h
