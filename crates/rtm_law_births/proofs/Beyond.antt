-- What entries leave as it is, of what units share.
use Rattle.std.proofs.Common.{◌≡◌, ℕ, Bool, true, false, List, Option, Some, None, refl}
use Rattle.std.specs.Prelude.{if◌then◌else◌, ◌&&◌}
use Rattle.rtm_deck_items.specs.View.{DeckView}
use Rattle.rtm_deck_items.specs.declared.deck.Command.{Command}
use Rattle.rtm_model.specs.declared.entry.What.{What}
use Rattle.rtm_model.specs.declared.error_record.ErrorRecord.{ErrorRecord}
use Rattle.rtm_model.specs.Posts.{post_related, post_step}
use Rattle.rtm_model.specs.OwnChange.{own_change}
use Rattle.rtm_model.specs.Advance.{after_arrival}
use Rattle.rtm_model.specs.World.{UnitOfWork, World, on_unit}

-- the world when the entry's own unit is changed
abbrev pub own : DeckView → World → ℕ → ℕ → What → World
own d w n u what = record w { units = on_unit u (own_change d n w.managers what) w.units }

-- the world with other units
abbrev pub with_units : World → List UnitOfWork → World
with_units w units = record w { units = units }

-- a command that arrives changes units alone
pub arrived_units : (n u : ℕ) (o : Option Command) (w : World) → after_arrival n u o w ≡ with_units w (World.units (after_arrival n u o w))
arrived_units n u None w = refl
arrived_units n u (Some command) w = refl

-- so do the aborts that a unit's end posts
if_units : (b : Bool) (w : World) (units : List UnitOfWork) → (if b then with_units w units else w) ≡ with_units w (World.units (if b then with_units w units else w))
if_units true w units = refl
if_units false w units = refl

pub step_units : (n : ℕ) (is_other : Bool) (job : ℕ) (r : Option ErrorRecord) (w : World) → post_step n is_other job r w ≡ with_units w (World.units (post_step n is_other job r w))
step_units n is_other job None w = refl
step_units n is_other job (Some r) w = if_units (is_other && r.flags.step) w _

pub related_units : (n : ℕ) (task : Option ℕ) (r : Option ErrorRecord) (w : World) → post_related n task r w ≡ with_units w (World.units (post_related n task r w))
related_units n None r w = refl
related_units n (Some task) None w = refl
related_units n (Some task) (Some r) w = refl
