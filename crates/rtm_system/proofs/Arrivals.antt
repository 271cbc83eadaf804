-- A command whose arrival may stand next is answered so.
use Rattle.std.proofs.Common.{◌≡◌, ℕ, ◌<◌, Bool, true, false, List, length, Option, Some, None, refl, ap, ◌∙◌, arith}
use Rattle.std.specs.Prelude.{if◌then◌else◌, is_none, is_some, nat_le, not, slice_get, ◌&&◌, ◌||◌}
use Rattle.std.specs.Option.{option_map_or}
use Rattle.std.proofs.lemmas.Bool.{and_parts, leb-true}
use Rattle.rtm_codes.specs.declared.code.Code.{Code}
use Rattle.rtm_deck_items.specs.declared.deck.Command.{Command}
use Rattle.rtm_deck_items.specs.View.{DeckView}
use Rattle.rtm_model.specs.declared.entry.Entry.{Entry}
use Rattle.rtm_model.specs.declared.entry.Fate.{Fate}
use Rattle.rtm_model.specs.Arrivals.{arrival, arrival_fate, arrival_of, goes_on, is_cancellable, is_due, is_in_turn, target_of}
use Rattle.rtm_model.specs.Advance.{world}
use Rattle.rtm_model.specs.Surroundings.{fate_in}
use Rattle.rtm_model.specs.Tasks.{Life, Dormant, Lives, HasEnded, Tree, has_ended, is_living, life_of}
use Rattle.rtm_model.specs.World.{Core, World, core_at}
use Rattle.rtm_model.specs.declared.entry.Class.TheVariants as classes
use Rattle.rtm_system.specs.declared.arrived.Arrived.TheVariants as arrivals
use Rattle.rtm_system.specs.Steps.{arrival_answer, arrives, is_gone}

living_not_ended : (life : Life) → is_living life ≡ true → has_ended life ≡ false
living_not_ended Dormant e = refl
living_not_ended (Lives mother) e = refl
living_not_ended (HasEnded mother) e = absurd cc

none_false : {A : Type 0} (o : Option A) → is_none o ≡ true → is_some o ≡ false
none_false None e = refl
none_false (Some x) e = absurd cc

-- of a target that can be cancelled: it lives, it hasn't begun to end, memory end hasn't begun
not_gone_by : (lives ended begun : Bool) (memory_end : Option Code) → (lives ≡ true → ended ≡ false) → (not (not lives || begun) && is_none memory_end) ≡ true → (ended || begun || is_some memory_end) ≡ false
not_gone_by true true begun memory_end l e = absurd (clash (l refl))
  where
    clash : true ≡ false → ⊥
    clash e = absurd cc
not_gone_by true false true memory_end l e = absurd cc
not_gone_by true false false None l e = refl
not_gone_by true false false (Some code) l e = absurd cc
not_gone_by false ended begun memory_end l e = absurd cc

not_gone : (d : DeckView) (w : World) (cmd : ℕ) → is_cancellable w (target_of d cmd) ≡ true → is_gone d w cmd ≡ false
not_gone d w cmd e =
    let life = life_of (target_of d cmd) (Tree.lives w.tree) in
    not_gone_by (is_living life) (has_ended life) (is_some (Core.begun (core_at (target_of d cmd) w))) w.memory_end (living_not_ended life) e

due_if : (due : Bool) (posted : Fate) (target cmd : ℕ) (e : Entry) → arrival_of target cmd (if due then Some posted else None) ≡ Some e → due ≡ true
due_if true posted target cmd e h = refl
due_if false posted target cmd e h = absurd cc

cancellable_by : (d : DeckView) (w : World) (n cmd : ℕ) (o : Option Command) (e : Entry) → slice_get d.commands cmd ≡ o → arrival_of (target_of d cmd) cmd (arrival_fate d w n (not (goes_on d w)) cmd o) ≡ Some e
    → is_cancellable w (target_of d cmd) ≡ true
cancellable_by d w n cmd None e s h = absurd cc
cancellable_by d w n cmd (Some command) e s h =
    let quiet = not (goes_on d w) in
    let target : target_of d cmd ≡ command.target = ap (λ (o : Option Command). option_map_or (λ (c : Command). c.target) o 0) s in
    let due = due_if (is_due d w n quiet cmd command) (fate_in w command.target classes.Cancel) (target_of d cmd) cmd e h in
    ap (is_cancellable w) target ∙ (and_parts (is_cancellable w command.target) (is_in_turn d w command.target cmd) (and_parts (is_cancellable w command.target && is_in_turn d w command.target cmd) (nat_le command.at n || quiet) due).0).0

answer_by : (gone full : Bool) (o : Option Entry) (e : Entry) → gone ≡ false → full ≡ false → o ≡ Some e → (if gone then arrivals.Gone else if full then arrivals.NotYet else arrives o) ≡ arrivals.Made e
answer_by true full o e g f h = absurd cc
answer_by false true o e g f h = absurd cc
answer_by false false None e g f h = absurd cc
answer_by false false (Some x) e g f h = ap arrives h

not_full : (limit n : ℕ) (full : Bool) → nat_le limit n ≡ full → n < limit → full ≡ false
not_full limit n true e h = absurd (omega (arith, leb-true limit n e, h))
not_full limit n false e h = refl

-- it is made
pub arrival_is_made : (d : DeckView) (trace : List Entry) (cmd : ℕ) (e : Entry) → length trace < d.limit → arrival d (world d trace) (length trace) cmd ≡ Some e → arrival_answer d trace cmd ≡ arrivals.Made e
arrival_is_made d trace cmd e room h =
    let w = world d trace in
    let gone = not_gone d w cmd (cancellable_by d w (length trace) cmd (slice_get d.commands cmd) e refl h) in
    answer_by (is_gone d w cmd) (nat_le d.limit (length trace)) (arrival d w (length trace) cmd) e gone (not_full d.limit (length trace) (nat_le d.limit (length trace)) refl room) h
