-- A task's subtasks, by entries and by what lives: none is its own, and one that hasn't begun to end lives while
-- memory end hasn't begun.
use Rattle.std.proofs.Common.{◌≡◌, ℕ, ◌≤◌, true, false, ◌&&◌, List, length, take, Option, Some, None, refl, sym, ap, subst, arith, inr, ◌∙◌}
use Rattle.std.proofs.lemmas.Bool.{and_parts, eq-eqb, eqb-true}
use Rattle.std.specs.Prelude.{IsSomeAnd, IsTrue, is_some, ◌==◌}
use Rattle.rtm_deck_items.specs.Reading.{op_at}
use Rattle.rtm_deck_items.specs.View.{DeckView}
use Rattle.rtm_deck_items.specs.WellFormed.{is_well_formed}
use Rattle.rtm_deck_items.specs.declared.op.Op.{Op}
use Rattle.rtm_deck_items.specs.declared.op.Op.TheVariants as ops
use Rattle.rtm_model.specs.declared.entry.Entry.{Entry}
use Rattle.rtm_model.specs.declared.entry.What.{What}
use Rattle.rtm_model.specs.declared.entry.What.TheVariants as whats
use Rattle.rtm_model.specs.AbortLaw.{attaches, is_subtask, says_attach}
use Rattle.rtm_model.specs.Advance.{world}
use Rattle.rtm_model.specs.Blocks.{newest_bracket}
use Rattle.rtm_model.specs.Entries.{has_begun, is_begin_of}
use Rattle.rtm_model.specs.Legal.{Legal}
use Rattle.rtm_model.specs.Moments.{before}
use Rattle.rtm_model.specs.Tasks.{Lives, Tree, life_of}
use Rattle.rtm_model.specs.World.{Beginning, Core, World, core_at}
use Rattle.rtm_model.specs.inner.Applies.{CanExecute}
use Rattle.rtm_model.specs.inner.Soundness.{IsSound}
use Rattle.rtm_law_births.specs.Life.{LivesSince}
use Rattle.rtm_law_births.specs.LivingUnits.{AreTheUnits, CardMakes, EntryKills, EntryMakes, LivingUnit, units}
use Rattle.rtm_law_births.proofs.Cards.{NamesUnit, unit_named}
use Rattle.rtm_law_births.proofs.Cores.{no_self}
use Rattle.rtm_law_births.proofs.Histories.{before-all}
use Rattle.rtm_law_births.proofs.Living.{IsMade}
use Rattle.rtm_law_births.proofs.LivingUnits.{units_live}
use Rattle.rtm_law_births.proofs.Sound.{sound_history}
use Rattle.rtm_law_sound.proofs.Histories.{prefix_legal}
use Rattle.rtm_law_landings.proofs.Appended.{any_at, any_longer, below, front_made}
use Rattle.rtm_law_landings.proofs.Changes.{begun_agree}
use Rattle.rtm_law_landings.proofs.MemoryEnd.{memory_goes_on, purge_ends}

-- No task is its own subtask

self_card : (d : DeckView) (w : World) (n u v rc : ℕ) (op : Op) → IsSound d n w → NamesUnit d op → CanExecute w u rc op → 1 ≤ length (newest_bracket (Core.blocks (core_at u w)))
    → says_attach rc v op ≡ true → u ≡ v → ⊥
self_card d w n u v rc (ops.Attachx unit estai term) sound named can some h same =
    let parts = and_parts (rc == 0) (unit == v) h in
    no_self d w n u unit sound named (can (eqb-true rc 0 parts.0)) some (same ∙ sym (eqb-true unit v parts.1))
self_card d w n u v rc _ sound named can some h same = absurd cc

self_entry : (d : DeckView) (w : World) (n u v : ℕ) (what : What) → IsMade d w n (record { unit = u; what = what }) → attaches d v what ≡ true → u ≡ v → ⊥
self_entry d w n u v (whats.Exec at rc) m h same =
    self_card d w n u v rc (op_at d at.prog at.op) m.sound (unit_named d m.deck at.prog at.op) m.can.what.1 m.can.what.0.some h same
self_entry d w n u v _ m h same = absurd cc

pub no_own_subtask : (d : DeckView) (h : List Entry) → IsTrue (is_well_formed d) → Legal d h → (v : ℕ) → is_subtask d h v v ≡ true → ⊥
no_own_subtask d h deck legal v own =
    let one = any_at (λ (e : Entry). (e.unit == v) && attaches d v e.what) h own in
    let e : Entry = one.1 in
    let parts = and_parts (e.unit == v) (attaches d v e.what) one.3 in
    self_entry d (before d h one.0) one.0 e.unit v e.what (front_made d h deck legal one.0 e one.2) parts.1 (eqb-true e.unit v parts.0)

-- A subtask lives

-- its mother's card made it
card_makes : (u v rc : ℕ) (op : Op) → says_attach rc v op ≡ true → CardMakes u rc op (record { unit = v; mother = Some u })
card_makes u v rc (ops.Attachx unit estai term) h =
    let parts = and_parts (rc == 0) (unit == v) h in
    (eqb-true rc 0 parts.0, sym (eqb-true unit v parts.1), refl)
card_makes u v rc _ h = absurd cc

entry_makes : (d : DeckView) (u v : ℕ) (what : What) → attaches d v what ≡ true → EntryMakes d u what (record { unit = v; mother = Some u })
entry_makes d u v (whats.Exec at rc) h = card_makes u v rc (op_at d at.prog at.op) h
entry_makes d u v _ h = absurd cc

-- what ends it is its DONE, and then it had begun to end, or its purge
begun_some : (o : Option Beginning) (P : Beginning → Type 0) → IsSomeAnd o P → is_some o ≡ true
begun_some None P h = absurd h
begun_some (Some begun) P h = refl

module _ (d : DeckView) (h : List Entry) (deck : IsTrue (is_well_formed d)) (legal : Legal d h) (v : ℕ) (fresh : has_begun v h ≡ false) (quiet : is_some (World.memory_end (world d h)) ≡ false) where
  never_begun : (j u : ℕ) → v ≡ u → is_some (Core.begun (core_at u (before d h j))) ≡ true → ⊥
  never_begun j u same begun =
      let said : has_begun u (take j h) ≡ true = sym (begun_agree d (take j h) deck (prefix_legal d h j legal) u) ∙ begun in
      let mine : has_begun v (take j h) ≡ true = subst (λ (i : ℕ). has_begun i (take j h) ≡ true) (sym same) said in
      let later : has_begun v h ≡ true = any_longer (λ (e : Entry). is_begin_of v e.unit e.what) h j mine in
      let clash : false ≡ true = sym fresh ∙ later in
      cc

  never_purged : (j u unit : ℕ) → j ≤ length h → IsMade d (before d h j) j (record { unit = u; what = whats.Purge unit }) → ⊥
  never_purged j u unit within m =
      let begun = purge_ends d (before d h j) j u unit (whats.Purge unit) m (eq-eqb unit unit refl) in
      let later : is_some (World.memory_end (before d h (length h))) ≡ true = memory_goes_on d h deck legal j (length h) within begun in
      let clash : false ≡ true = sym quiet ∙ ap (λ (w : World). is_some w.memory_end) (sym (before-all d h)) ∙ later in
      cc

  survives : (u : ℕ) (j w : ℕ) (what : What) → j ≤ length h → IsMade d (before d h j) j (record { unit = w; what = what }) → EntryKills w what (record { unit = v; mother = Some u }) → ⊥
  survives u j w (whats.Done code to_task to_step) within m killed = never_begun j w killed (begun_some _ _ m.can.what.1)
  survives u j w (whats.Purge unit) within m killed = never_purged j w unit within m
  survives u j w _ within m killed = killed

  pub subtask_is_alive : (u : ℕ) → is_subtask d h u v ≡ true → life_of v (Tree.lives (World.tree (world d h))) ≡ Lives (Some u)
  subtask_is_alive u task =
      let one = any_at (λ (e : Entry). (e.unit == u) && attaches d v e.what) h task in
      let e : Entry = one.1 in
      let parts = and_parts (e.unit == u) (attaches d v e.what) one.3 in
      let x : LivingUnit = record { unit = v; mother = Some u } in
      let since : LivesSince units d h (length h) x one.0 = record {
        below = below h one.0 e one.2;
        entry = e;
        at = one.2;
        makes = subst (λ (i : ℕ). EntryMakes d e.unit e.what (record { unit = v; mother = Some i })) (eqb-true e.unit u parts.0) (entry_makes d e.unit v e.what parts.1);
        survives = λ j f from less at killed. survives u j f.unit f.what (omega (arith, less)) (front_made d h deck legal j f at) killed;
      } in
      (AreTheUnits.living (units_live d h (sound_history d h deck legal) legal)).there x (inr (one.0, since))
