-- An arrival that may stand next is that of a command of the deck, and an arrival may follow.
use Rattle.std.proofs.Common.{◌≡◌, ℕ, ◌<◌, List, length, Option, Some, None, refl, subst}
use Rattle.std.specs.Prelude.{not, slice_get}
use Rattle.rtm_deck_items.specs.declared.deck.Command.{Command}
use Rattle.rtm_deck_items.specs.View.{DeckView}
use Rattle.rtm_model.specs.declared.entry.Entry.{Entry}
use Rattle.rtm_model.specs.declared.entry.Fate.{Fate}
use Rattle.rtm_model.specs.declared.entry.What.{What}
use Rattle.rtm_model.specs.declared.entry.What.TheVariants.{Arrive}
use Rattle.rtm_model.specs.Arrivals.{arrival, arrival_fate, arrival_of, goes_on, may_arrive, target_of}
use Rattle.rtm_model.specs.Advance.{world}
use Rattle.rtm_model.specs.Legal.{MayFollow}
use Rattle.rtm_model.specs.World.{World}
use Rattle.rtm_model.proofs.Lists.{below_length}
use Rattle.rtm_system.specs.Turned.{IsNext}

pub arrival_next : (d : DeckView) (trace : List Entry) (e : Entry) (cmd : ℕ) (posted : Fate) → e.what ≡ Arrive cmd posted → IsNext d trace e → arrival d (world d trace) (length trace) cmd ≡ Some e
arrival_next d trace e cmd posted is next = subst (λ (what : What). MayFollow d (world d trace) (length trace) e what) is next.may

in_deck : (d : DeckView) (w : World) (n cmd : ℕ) (o : Option Command) (e : Entry) → slice_get d.commands cmd ≡ o → arrival_of (target_of d cmd) cmd (arrival_fate d w n (not (goes_on d w)) cmd o) ≡ Some e → cmd < length d.commands
in_deck d w n cmd None e s h = absurd cc
in_deck d w n cmd (Some command) e s h = below_length d.commands cmd command s

pub arrival_in_deck : (d : DeckView) (trace : List Entry) (e : Entry) (cmd : ℕ) (posted : Fate) → e.what ≡ Arrive cmd posted → IsNext d trace e → cmd < length d.commands
arrival_in_deck d trace e cmd posted is next =
    in_deck d (world d trace) (length trace) cmd (slice_get d.commands cmd) e refl (arrival_next d trace e cmd posted is next)

arrives_by : (d : DeckView) (w : World) (n cmd target : ℕ) (o : Option Fate) (e : Entry) → arrival d w n cmd ≡ Some e → arrival_of target cmd o ≡ Some e → MayFollow d w n e e.what
arrives_by d w n cmd target None e may is = absurd cc
arrives_by d w n cmd target (Some posted) e may is = let same : Arrive cmd posted ≡ e.what = cc in subst (λ (what : What). MayFollow d w n e what) same may

-- and the arrival of a command may follow
pub arrival_follows : (d : DeckView) (w : World) (n cmd : ℕ) (e : Entry) → arrival d w n cmd ≡ Some e → MayFollow d w n e e.what
arrival_follows d w n cmd e may = arrives_by d w n cmd (target_of d cmd) (may_arrive d w n cmd) e may may
