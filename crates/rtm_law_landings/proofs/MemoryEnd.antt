-- Memory end has begun where entries say so.
use Rattle.std.proofs.Common.{◌≡◌, ℕ, ◌≤◌, Bool, true, false, not, ◌||◌, List, [], ◌∷◌, ◌++◌, length, take, Option, Some, None, refl, sym, ap, inl, inr, ◌⊎◌, ◌∙◌}
use Rattle.std.proofs.lemmas.Bool.{or_right}
use Rattle.std.proofs.lemmas.List.Folds.{list_any-append}
use Rattle.std.specs.Prelude.{IsTrue, is_some, slice_get, ◌==◌}
use Rattle.rtm_codes.specs.declared.code.Code.{Code}
use Rattle.rtm_deck_items.specs.Reading.{job_step, op_at}
use Rattle.rtm_deck_items.specs.View.{DeckView}
use Rattle.rtm_deck_items.specs.WellFormed.{is_well_formed}
use Rattle.rtm_deck_items.specs.declared.op.Op.{Op}
use Rattle.rtm_deck_items.specs.declared.op.Op.TheVariants as ops
use Rattle.rtm_model.specs.declared.entry.Entry.{Entry}
use Rattle.rtm_model.specs.declared.entry.What.{What}
use Rattle.rtm_model.specs.declared.entry.What.TheVariants as whats
use Rattle.rtm_model.specs.Advance.{advance, beyond_card, memory_end_after, world}
use Rattle.rtm_model.specs.Entries.{begins_memory_end, memory_end_begun, purges, says_memory_end}
use Rattle.rtm_model.specs.Legal.{Legal}
use Rattle.rtm_model.specs.Moments.{before}
use Rattle.rtm_model.specs.World.{World, related_task}
use Rattle.rtm_law_births.proofs.Beyond.{arrived_units, own, related_units, step_units}
use Rattle.rtm_law_births.proofs.Living.{IsMade}
use Rattle.rtm_law_births.proofs.Outcomes.{outcome_of}
use Rattle.rtm_law_sound.proofs.Histories.{prefix_legal, world-append, world-nil}
use Rattle.rtm_law_landings.proofs.Appended.{any_earlier, holds_of}
use Rattle.rtm_law_landings.proofs.Booleans.{or-false}
use Rattle.rtm_law_landings.proofs.Lives.{memory_if}
use Rattle.rtm_law_landings.proofs.Nexts.{IsMasters, IsUnits, next_is}

-- One entry

module _ (d : DeckView) (n u : ℕ) where
  card_memory : (w : World) (rc : ℕ) (op : Op) → is_some (World.memory_end (beyond_card d n u rc op w)) ≡ (is_some w.memory_end || says_memory_end op)
  card_memory w rc (ops.Attachx unit estai term) = ap is_some (memory_if d n u w (rc == 0) unit (Some u) _) ∙ sym (or-false (is_some w.memory_end))
  card_memory w rc (ops.Schedule unit) = ap is_some (memory_if d n u w (rc == 0) unit None []) ∙ sym (or-false (is_some w.memory_end))
  card_memory w rc (ops.Memterm code) = sym (or_right (is_some w.memory_end) true refl)
  card_memory w rc _ = sym (or-false (is_some w.memory_end))

  done_memory : (b : Bool) (code : Code) (end : Option Code) → is_some (memory_end_after b code end) ≡ (is_some end || b)
  done_memory true code end = sym (or_right (is_some end) true refl)
  done_memory false code end = sym (or-false (is_some end))

  memory_after : (w : World) (what : What) → is_some (World.memory_end (advance d w n (record { unit = u; what = what }))) ≡ (is_some w.memory_end || begins_memory_end d u what)
  memory_after w (whats.Exec at rc) = card_memory (own d w n u (whats.Exec at rc)) rc (op_at d at.prog at.op)
  memory_after w (whats.Arrive cmd became) =
      ap (λ (k : World). is_some k.memory_end) (arrived_units n u (slice_get d.commands cmd) (own d w n u (whats.Arrive cmd became))) ∙ sym (or-false (is_some w.memory_end))
  memory_after w (whats.Done code to_task to_step) =
      ap (λ (k : World). is_some k.memory_end) (step_units n (not (u == job_step d)) (job_step d) _ _)
      ∙ ap (λ (k : World). is_some k.memory_end) (related_units n (related_task d u) _ _)
      ∙ done_memory (u == job_step d) code w.memory_end
  memory_after w _ = sym (or-false (is_some w.memory_end))

-- Each history

abbrev pub MemoryAgrees : DeckView → List Entry → Type 0
MemoryAgrees d h = is_some (World.memory_end (world d h)) ≡ memory_end_begun d h

memory_keeps : (d : DeckView) (h : List Entry) (e : Entry) → MemoryAgrees d h → MemoryAgrees d (h ++ e ∷ [])
memory_keeps d h e agree =
    ap (λ (k : World). is_some k.memory_end) (world-append d h e)
    ∙ memory_after d (length h) e.unit (world d h) e.what
    ∙ ap (λ (b : Bool). b || begins_memory_end d e.unit e.what) agree
    ∙ ap (λ (b : Bool). memory_end_begun d h || b) (sym (or-false (begins_memory_end d e.unit e.what)))
    ∙ sym (list_any-append (λ (e : Entry). begins_memory_end d e.unit e.what) h (e ∷ []))

pub memory_agrees : (d : DeckView) (h : List Entry) → IsTrue (is_well_formed d) → Legal d h → MemoryAgrees d h
memory_agrees d h deck legal =
    holds_of d deck (MemoryAgrees d) (ap (λ (k : World). is_some k.memory_end) (world-nil d)) (λ front e before m agree. memory_keeps d front e agree) h legal

-- once begun it goes on
pub memory_goes_on : (d : DeckView) (h : List Entry) → IsTrue (is_well_formed d) → Legal d h → (i j : ℕ) → i ≤ j
    → is_some (World.memory_end (before d h i)) ≡ true → is_some (World.memory_end (before d h j)) ≡ true
memory_goes_on d h deck legal i j le begun =
    memory_agrees d (take j h) deck (prefix_legal d h j legal)
    ∙ any_earlier (λ (e : Entry). begins_memory_end d e.unit e.what) h i j le (sym (memory_agrees d (take i h) deck (prefix_legal d h i legal)) ∙ begun)

-- and nobody is purged before
masters_end : (d : DeckView) (w : World) (u : ℕ) (what : What) → IsUnits d w u what ⊎ IsMasters d w u what → (IsUnits d w u what → ⊥) → is_some w.memory_end ≡ true
masters_end d w u what (inl units) other = absurd (other units)
masters_end d w u what (inr masters) other = IsMasters.ends masters

pub purge_ends : (d : DeckView) (w : World) (n u v : ℕ) (what : What) → IsMade d w n (record { unit = u; what = what }) → purges v what ≡ true → is_some w.memory_end ≡ true
purge_ends d w n u v (whats.Purge unit) m e =
    masters_end d w u (whats.Purge unit) (next_is d w u (whats.Purge unit) m.may) (λ units. IsUnits.not_master units (outcome_of d w u (whats.Purge unit) m.may))
purge_ends d w n u v _ m e = absurd cc
