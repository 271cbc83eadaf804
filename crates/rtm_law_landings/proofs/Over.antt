-- After a unit's BEGIN or PURGE no abort is pending for it.
use Rattle.std.proofs.Common.{◌≡◌, ℕ, ◌<◌, ◌≤◌, true, false, List, [], ◌∷◌, ◌++◌, length, take, Option, Some, None, refl, sym, subst, arith, inl, inr, ◌⊎◌, ◌∙◌}
use Rattle.std.proofs.lemmas.Bool.{and_left, and_right, cases_lt, eqb-true}
use Rattle.std.proofs.lemmas.List.{length-append}
use Rattle.std.specs.Prelude.{IsTrue, is_none, is_some}
use Rattle.rtm_deck_items.specs.View.{DeckView}
use Rattle.rtm_deck_items.specs.WellFormed.{is_well_formed}
use Rattle.rtm_model.specs.declared.entry.Entry.{Entry}
use Rattle.rtm_model.specs.declared.entry.What.{What}
use Rattle.rtm_model.specs.declared.entry.What.TheVariants as whats
use Rattle.rtm_model.specs.AbortLaw.{ends_unit}
use Rattle.rtm_model.specs.Advance.{advance, world}
use Rattle.rtm_model.specs.Entries.{has_begun, is_begin_of, purges}
use Rattle.rtm_model.specs.Legal.{Legal}
use Rattle.rtm_model.specs.Moments.{IsAt, unit_before}
use Rattle.rtm_model.specs.Tasks.{Tree, has_ended, life_of}
use Rattle.rtm_model.specs.World.{Beginning, Core, UnitOfWork, World, core_at, lives_in}
use Rattle.rtm_model.specs.inner.Soundness.{IsSound, stands}
use Rattle.rtm_law_births.proofs.Living.{IsMade}
use Rattle.rtm_law_births.proofs.Sound.{IsSoundHistory, sound_history}
use Rattle.rtm_law_sound.proofs.Histories.{prefix_legal, world-append}
use Rattle.rtm_law_landings.proofs.Appended.{any_from, at_end, at_shorter, below, holds_of, one_at, same_below}
use Rattle.rtm_law_landings.proofs.Booleans.{either_of}
use Rattle.rtm_law_landings.proofs.Changes.{begun_agree}
use Rattle.rtm_law_landings.proofs.Lives.{ended_dead, ended_next, purged_ended}

abbrev AreGone : DeckView → List Entry → Type 0
AreGone d h = (i u : ℕ) (e : Entry) → IsAt h i e → purges u e.what ≡ true → has_ended (life_of u (Tree.lives (World.tree (world d h)))) ≡ true

purged_by : (d : DeckView) (w : World) (n unit u : ℕ) (what : What) → IsMade d w n (record { unit = unit; what = what }) → purges u what ≡ true
    → has_ended (life_of u (Tree.lives (World.tree (advance d w n (record { unit = unit; what = what }))))) ≡ true
purged_by d w n unit u (whats.Purge purged) m e =
    subst (λ (k : ℕ). has_ended (life_of k (Tree.lives (World.tree (advance d w n (record { unit = unit; what = whats.Purge purged }))))) ≡ true) (eqb-true purged u e) (purged_ended d w n unit purged m)
purged_by d w n unit u _ m e = absurd cc

gone_keep : (d : DeckView) (h : List Entry) (last : Entry) → IsMade d (world d h) (length h) last → AreGone d h → AreGone d (h ++ last ∷ [])
gone_keep d h last m gone i u e at is =
    subst (λ (w : World). has_ended (life_of u (Tree.lives w.tree)) ≡ true) (sym (world-append d h last))
    (elim (cases_lt i (length h)) [
      | inl less ↦ ended_next d (world d h) (length h) last.unit u m.sound last.what m (gone i u e (sym (same_below h i (last ∷ []) less) ∙ at) is)
      | inr past ↦
          let within : i < length (h ++ last ∷ []) = below (h ++ last ∷ []) i e at in
          let here : i ≡ length h = omega (arith, within, past, length-append h (last ∷ [])) in
          let there : IsAt (h ++ last ∷ []) i last = subst (λ (k : ℕ). IsAt (h ++ last ∷ []) k last) (sym here) (at_end h last) in
          let one : e ≡ last = one_at (h ++ last ∷ []) i e last at there in
          purged_by d (world d h) (length h) last.unit u last.what m (subst (λ (x : Entry). purges u x.what ≡ true) one is)
    ])

gone_of : (d : DeckView) (h : List Entry) → IsTrue (is_well_formed d) → Legal d h → AreGone d h
gone_of d h deck legal = holds_of d deck (AreGone d) (λ i u e at is. absurd cc) (λ front e before m gone. gone_keep d front e m gone) h legal

not_none : (o : Option Beginning) → is_some o ≡ true → is_none o ≡ false
not_none None h = absurd cc
not_none (Some begun) h = refl

module _ (d : DeckView) (h : List Entry) (deck : IsTrue (is_well_formed d)) (legal : Legal d h) (i j u : ℕ) (e : Entry) (at : IsAt h i e) (less : i < j) where
  fallen : (is_begin_of u e.unit e.what ≡ true) ⊎ (purges u e.what ≡ true) → stands (world d (take j h)) u ≡ false
  fallen (inl begins) =
      let w : World = world d (take j h) in
      let said : has_begun u (take j h) ≡ true = any_from (λ (x : Entry). is_begin_of u x.unit x.what) (take j h) i e (at_shorter h j i e less at) begins in
      let begun : is_some (Core.begun (core_at u w)) ≡ true = begun_agree d (take j h) deck (prefix_legal d h j legal) u ∙ said in
      and_right (lives_in w u) (is_none (Core.begun (core_at u w))) (not_none (Core.begun (core_at u w)) begun)
  fallen (inr goes) =
      let w : World = world d (take j h) in
      let ended = gone_of d (take j h) deck (prefix_legal d h j legal) i u e (at_shorter h j i e less at) goes in
      and_left (lives_in w u) (is_none (Core.begun (core_at u w))) (ended_dead (life_of u (Tree.lives w.tree)) ended)

  pub nothing_pending : ends_unit u e ≡ true → j ≤ length h → UnitOfWork.pending (unit_before d h j u) ≡ []
  nothing_pending ends within =
      IsSound.quiet (IsSoundHistory.worlds (sound_history d h deck legal) j within) u (fallen (either_of (is_begin_of u e.unit e.what) (purges u e.what) ends))
