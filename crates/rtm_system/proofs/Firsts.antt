-- Which entries may follow: arrivals as their commands', all others as their unit's next.
use Rattle.std.proofs.Common.{◌≡◌, ℕ, Some, None, sym, subst, Bool}
use Rattle.std.specs.Prelude.{IsTrue}
use Rattle.rtm_deck_items.specs.View.{DeckView}
use Rattle.rtm_model.specs.declared.entry.Entry.{Entry}
use Rattle.rtm_model.specs.declared.entry.What.{What}
use Rattle.rtm_model.specs.declared.entry.What.TheVariants.{Arrive, Begin, Done, Enter, Error, Exec, Land, Leave, MemEnd, Purge, Release}
use Rattle.rtm_model.specs.Arrivals.{arrival}
use Rattle.rtm_model.specs.Legal.{MayFollow}
use Rattle.rtm_model.specs.NextEntry.{next}
use Rattle.rtm_model.specs.World.{World}
use Rattle.rtm_system.specs.Turned.{arriving_command}

-- an entry may follow: an arrival as that of its command, any other as its unit's next
pub arrival_may : (d : DeckView) (w : World) (n cmd : ℕ) (e : Entry) (what : What) → arriving_command what ≡ Some cmd → (b : Bool) → (IsTrue b → arrival d w n cmd ≡ Some e) × (arrival d w n cmd ≡ Some e → IsTrue b)
    → (IsTrue b → MayFollow d w n e what) × (MayFollow d w n e what → IsTrue b)
arrival_may d w n cmd e (Arrive other posted) is b h = let same : other ≡ cmd = cc in subst (λ (k : ℕ). (IsTrue b → arrival d w n k ≡ Some e) × (arrival d w n k ≡ Some e → IsTrue b)) (sym same) h
arrival_may d w n cmd e (Exec at rc) is b h = absurd cc
arrival_may d w n cmd e (Error at mark) is b h = absurd cc
arrival_may d w n cmd e (Land class from mark) is b h = absurd cc
arrival_may d w n cmd e (Enter kind reg mark bare) is b h = absurd cc
arrival_may d w n cmd e (Leave kind reg verdict logrec dump) is b h = absurd cc
arrival_may d w n cmd e (Begin code dump) is b h = absurd cc
arrival_may d w n cmd e (Release class id owner) is b h = absurd cc
arrival_may d w n cmd e (Done code to_task to_step) is b h = absurd cc
arrival_may d w n cmd e (Purge unit) is b h = absurd cc
arrival_may d w n cmd e MemEnd is b h = absurd cc

pub next_may : (d : DeckView) (w : World) (n : ℕ) (e : Entry) (what : What) → arriving_command what ≡ None → (b : Bool) → (IsTrue b → next d w e.unit ≡ Some what) × (next d w e.unit ≡ Some what → IsTrue b)
    → (IsTrue b → MayFollow d w n e what) × (MayFollow d w n e what → IsTrue b)
next_may d w n e (Arrive cmd posted) is b h = absurd cc
next_may d w n e (Exec at rc) is b h = h
next_may d w n e (Error at mark) is b h = h
next_may d w n e (Land class from mark) is b h = h
next_may d w n e (Enter kind reg mark bare) is b h = h
next_may d w n e (Leave kind reg verdict logrec dump) is b h = h
next_may d w n e (Begin code dump) is b h = h
next_may d w n e (Release class id owner) is b h = h
next_may d w n e (Done code to_task to_step) is b h = h
next_may d w n e (Purge unit) is b h = h
next_may d w n e MemEnd is b h = h
