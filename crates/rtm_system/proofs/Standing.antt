-- A system's control blocks stand for its trace: at the start, and after one more entry.
use Rattle.std.proofs.Common.{◌≡◌, ℕ, ◌<◌, ◌≤◌, List, [], ◌∷◌, ◌++◌, length, sym, ap, subst, ◌∙◌, arith}
use Rattle.std.specs.Prelude.{IsTrue, slice_index_or}
use Rattle.std.proofs.Math.Seq.{get_or-append_seam}
use Rattle.rtm_deck_items.specs.View.{DeckView}
use Rattle.rtm_deck_items.specs.WellFormed.{is_well_formed}
use Rattle.rtm_deck_items.proofs.FormFacts.{Limits, limits}
use Rattle.rtm_model.specs.declared.entry.Entry.{Entry}
use Rattle.rtm_model.specs.Advance.{advance, world}
use Rattle.rtm_model.specs.Legal.{Legal, MayFollow}
use Rattle.rtm_model.specs.inner.Soundness.{IsSound}
use Rattle.rtm_model.specs.World.{World, start}
use Rattle.rtm_law_sound.proofs.Histories.{Legal-append, Legal-nil, world-append, world-nil, world_sound}
use Rattle.rtm_system_world.specs.Follows.{Follows}
use Rattle.rtm_system_world.specs.Shape.{IsShaped}
use Rattle.rtm_system_world.proofs.Applying.{own_there}
use Rattle.rtm_system.specs.Turned.{IsNext}
use Rattle.rtm_system.specs.View.{StandsFor}

pub starts : (d : DeckView) (machine : World) (trace : List Entry) (room last : ℕ) → machine ≡ start d → trace ≡ [] → d.limit ≤ room → last ≡ 0 → StandsFor d machine trace room last
starts d machine trace room last m t r l = record {
  world_is = ap (world d) t ∙ world-nil d ∙ sym m;
  legal = subst (Legal d) (sym t) (Legal-nil d);
  room_is = r;
  last_in = omega arith;
}

-- what stands for a legal trace is sound
pub stands_sound : (d : DeckView) (machine : World) (trace : List Entry) (room last : ℕ) → IsTrue (is_well_formed d) → StandsFor d machine trace room last → IsSound d (length trace) machine
stands_sound d machine trace room last formed s = subst (IsSound d (length trace)) s.world_is (world_sound d trace formed s.legal)

pub shape_of : (d : DeckView) (n : ℕ) (w : World) → IsTrue (is_well_formed d) → IsSound d n w → IsShaped d w
shape_of d n w formed s = record { units = s.units_len; lives = s.lives_len; few = Limits.units (limits d formed) }

pub stands_shaped : (d : DeckView) (machine : World) (trace : List Entry) (room last : ℕ) → IsTrue (is_well_formed d) → StandsFor d machine trace room last → IsShaped d machine
stands_shaped d machine trace room last formed s = shape_of d (length trace) machine formed (stands_sound d machine trace room last formed s)

-- an entry that may follow the trace can be carried out
pub can_follow : (d : DeckView) (machine : World) (trace : List Entry) (room last n : ℕ) (e : Entry) → IsTrue (is_well_formed d) → StandsFor d machine trace room last → n ≡ length trace
    → MayFollow d (world d trace) (length trace) e e.what → Follows d n machine e
can_follow d machine trace room last n e formed s count may =
    let at : Follows d (length trace) machine e = record {
      sound = stands_sound d machine trace room last formed s;
      may = subst (λ (w : World). MayFollow d w (length trace) e e.what) s.world_is may;
    } in subst (λ (k : ℕ). Follows d k machine e) (sym count) at

-- the entry that was put behind the trace stands last
pub last_is : (trace more : List Entry) (e : Entry) (n : ℕ) → n ≡ length trace → more ≡ trace ++ e ∷ [] → (other : Entry) → slice_index_or more n other ≡ e
last_is trace more e n count longer other =
    ap (λ (k : ℕ). slice_index_or more k other) count ∙ ap (λ (es : List Entry). slice_index_or es (length trace) other) longer ∙ get_or-append_seam trace e [] other

-- after one more entry
pub adds : (d : DeckView) (machine new : World) (trace more : List Entry) (room space last now n : ℕ) (e : Entry) → StandsFor d machine trace room last → length trace < d.limit
    → MayFollow d (world d trace) (length trace) e e.what → n ≡ length trace → new ≡ advance d machine n e → more ≡ trace ++ e ∷ [] → space ≡ room → now ≤ length d.units → StandsFor d new more space now
adds d machine new trace more room space last now n e s below may count changed longer same in_deck = record {
  world_is = ap (world d) longer ∙ world-append d trace e ∙ ap (λ (w : World). advance d w (length trace) e) s.world_is ∙ ap (λ (k : ℕ). advance d machine k e) (sym count) ∙ sym changed;
  legal = subst (Legal d) (sym longer) (Legal-append d trace e s.legal below may);
  room_is = omega (arith, s.room_is, same);
  last_in = in_deck;
}

pub shape_at : (d : DeckView) (machine : World) (trace : List Entry) (room last : ℕ) → IsTrue (is_well_formed d) → StandsFor d machine trace room last → IsShaped d (world d trace)
shape_at d machine trace room last formed s = subst (IsShaped d) (sym s.world_is) (stands_shaped d machine trace room last formed s)

-- an entry that may stand next is of a unit of the deck, or the master's
pub next_in_deck : (d : DeckView) (trace : List Entry) (e : Entry) → IsTrue (is_well_formed d) → Legal d trace → IsNext d trace e → e.unit ≤ length d.units
next_in_deck d trace e formed legal next =
    let sound = world_sound d trace formed legal in
    let there = own_there d (length trace) (world d trace) e formed (record { sound = sound; may = next.may }) in
    omega (arith, there, IsSound.units_len sound)
