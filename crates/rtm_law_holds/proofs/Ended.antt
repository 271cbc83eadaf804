-- A unit that has ended stays so, and makes no entry.
use Rattle.std.proofs.Common.{◌≡◌, ℕ, ◌<◌, ◌≤◌, Bool, true, false, not, List, [], length, Option, Some, None, refl, sym, ap, subst, arith, inl, inr, ◌⊎◌, ◌∙◌}
use Rattle.std.proofs.lemmas.Bool.{cases_lt}
use Rattle.std.proofs.lemmas.List.{get_or-set_same, get_or_past}
use Rattle.std.specs.Prelude.{if◌then◌else◌, slice_get, slice_set, ◌==◌}
use Rattle.rtm_codes.specs.declared.code.Code.{Code}
use Rattle.rtm_deck_items.specs.Reading.{job_step, op_at}
use Rattle.rtm_deck_items.specs.View.{DeckView}
use Rattle.rtm_deck_items.specs.declared.op.Op.{Op}
use Rattle.rtm_deck_items.specs.declared.op.Op.TheVariants as ops
use Rattle.rtm_model.specs.declared.entry.Fate.{Fate}
use Rattle.rtm_model.specs.declared.entry.What.{What}
use Rattle.rtm_model.specs.declared.entry.What.TheVariants as whats
use Rattle.rtm_model.specs.declared.reg.Reg.{Reg}
use Rattle.rtm_model.specs.Advance.{advance, beyond_card, with_unit}
use Rattle.rtm_model.specs.Tasks.{Dormant, HasEnded, Life, Lives, Tree, ended_life, has_ended, is_dormant, is_living, life_of, with_birth, with_end}
use Rattle.rtm_model.specs.World.{UnitOfWork, World, lives_in, master, related_task}
use Rattle.rtm_model.specs.inner.Soundness.{IsSound}
use Rattle.rtm_model.proofs.Lists.{set_kept}
use Rattle.rtm_law_births.proofs.Beyond.{arrived_units, own, related_units, step_units}

abbrev pub HasEndedIn : World → ℕ → Type 0
HasEndedIn w u = has_ended (life_of u (Tree.lives w.tree)) ≡ true

-- none of these is another
not_dormant : (life : Life) → has_ended life ≡ true → is_dormant life ≡ true → ⊥
not_dormant Dormant h e = absurd cc
not_dormant (Lives mother) h e = absurd cc
not_dormant (HasEnded mother) h e = absurd cc

not_living : (life : Life) → has_ended life ≡ true → is_living life ≡ true → ⊥
not_living Dormant h e = absurd cc
not_living (Lives mother) h e = absurd cc
not_living (HasEnded mother) h e = absurd cc

ended_again : (life : Life) → has_ended life ≡ true → has_ended (ended_life life) ≡ true
ended_again Dormant h = absurd cc
ended_again (Lives mother) h = refl
ended_again (HasEnded mother) h = refl

ended_now : (life : Life) → is_living life ≡ true → has_ended (ended_life life) ≡ true
ended_now Dormant h = absurd cc
ended_now (Lives mother) h = refl
ended_now (HasEnded mother) h = absurd cc

module _ (v : ℕ) where
  -- births
  birth_if : (lives : List Life) (unit : ℕ) (mother : Option ℕ) (b : Bool) → is_dormant (life_of unit lives) ≡ b → has_ended (life_of v lives) ≡ true
      → has_ended (life_of v (if b then slice_set lives unit (Lives mother) else lives)) ≡ true
  birth_if lives unit mother true dormant h =
      set_kept (λ (life : Life). has_ended life ≡ true) Dormant lives unit v (Lives mother) h
      (λ same. absurd (not_dormant (life_of v lives) h (subst (λ (k : ℕ). is_dormant (life_of k lives) ≡ true) (sym same) dormant)))
  birth_if lives unit mother false dormant h = h

  birth_keeps : (lives : List Life) (unit : ℕ) (mother : Option ℕ) → has_ended (life_of v lives) ≡ true → has_ended (life_of v (with_birth mother unit lives)) ≡ true
  birth_keeps lives unit mother h = birth_if lives unit mother (is_dormant (life_of unit lives)) refl h

  -- ends
  end_keeps : (lives : List Life) (unit : ℕ) → has_ended (life_of v lives) ≡ true → has_ended (life_of v (with_end unit lives)) ≡ true
  end_keeps lives unit h =
      set_kept (λ (life : Life). has_ended life ≡ true) Dormant lives unit v (ended_life (life_of unit lives)) h
      (λ same. subst (λ (k : ℕ). has_ended (ended_life (life_of k lives)) ≡ true) same (ended_again (life_of v lives) h))

  module _ (d : DeckView) (n u rc : ℕ) (w : World) (units : List UnitOfWork) (h : HasEndedIn w v) where
    born_keeps : (b : Bool) (unit : ℕ) (mother : Option ℕ) (estais : List Reg)
        → HasEndedIn (if b then with_unit d n unit mother estais (record w { units = units }) else record w { units = units }) v
    born_keeps true unit mother estais = birth_keeps (Tree.lives w.tree) unit mother h
    born_keeps false unit mother estais = h

    card_keeps : (op : Op) → HasEndedIn (beyond_card d n u rc op (record w { units = units })) v
    card_keeps (ops.Attachx unit estai term) = born_keeps (rc == 0) unit (Some u) _
    card_keeps (ops.Schedule unit) = born_keeps (rc == 0) unit None []
    card_keeps _ = h

  -- what has ended stays so at each entry
  pub ended_keeps : (d : DeckView) (w : World) (n u : ℕ) (what : What) → HasEndedIn w v → HasEndedIn (advance d w n (record { unit = u; what = what })) v
  ended_keeps d w n u (whats.Exec at rc) h = card_keeps d n u rc w (World.units (own d w n u (whats.Exec at rc))) h (op_at d at.prog at.op)
  ended_keeps d w n u (whats.Arrive cmd fate) h =
      subst (λ (ls : List Life). has_ended (life_of v ls) ≡ true) (sym (ap (λ (k : World). Tree.lives k.tree) (arrived_units n u (slice_get d.commands cmd) (own d w n u (whats.Arrive cmd fate))))) h
  ended_keeps d w n u (whats.Done code to_task to_step) h =
      subst (λ (ls : List Life). has_ended (life_of v ls) ≡ true)
      (sym (ap (λ (k : World). Tree.lives k.tree) (step_units n (not (u == job_step d)) (job_step d) _ _) ∙ ap (λ (k : World). Tree.lives k.tree) (related_units n (related_task d u) _ _)))
      (end_keeps (Tree.lives w.tree) u h)
  ended_keeps d w n u (whats.Purge unit) h = end_keeps (Tree.lives w.tree) unit h
  ended_keeps d w n u _ h = h

-- a living unit is one of the deck's
within_or : (w : World) (u : ℕ) → lives_in w u ≡ true → (u < length (Tree.lives w.tree)) ⊎ (length (Tree.lives w.tree) ≤ u) → u < length (Tree.lives w.tree)
within_or w u h (inl within) = within
within_or w u h (inr past) =
    let none : life_of u (Tree.lives w.tree) ≡ Dormant = get_or_past (Tree.lives w.tree) u Dormant past in
    let dead : is_living (life_of u (Tree.lives w.tree)) ≡ false = ap is_living none in
    absurd cc

pub living_within : (w : World) (u : ℕ) → lives_in w u ≡ true → u < length (Tree.lives w.tree)
living_within w u h = within_or w u h (cases_lt u (length (Tree.lives w.tree)))

-- its DONE ends it
pub ended_by_done : (d : DeckView) (w : World) (n u : ℕ) (code : Code) (to_task to_step : Option Fate) → lives_in w u ≡ true
    → HasEndedIn (advance d w n (record { unit = u; what = whats.Done code to_task to_step })) u
ended_by_done d w n u code to_task to_step h =
    let lives : List Life = Tree.lives w.tree in
    subst (λ (ls : List Life). has_ended (life_of u ls) ≡ true)
    (sym (ap (λ (k : World). Tree.lives k.tree) (step_units n (not (u == job_step d)) (job_step d) _ _) ∙ ap (λ (k : World). Tree.lives k.tree) (related_units n (related_task d u) _ _)))
    (subst (λ (life : Life). has_ended life ≡ true) (sym (get_or-set_same lives u (ended_life (life_of u lives)) Dormant (living_within w u h))) (ended_now (life_of u lives) h))

-- neither the master nor a unit that lives has ended
pub makes_none : (d : DeckView) (n : ℕ) (w : World) (u : ℕ) → IsSound d n w → HasEndedIn w u → (u ≡ master d) ⊎ (lives_in w u ≡ true) → ⊥
makes_none d n w u sound h (inl is_master) =
    let past : length (Tree.lives w.tree) ≤ u = omega (arith, sound.lives_len, is_master) in
    let none : life_of u (Tree.lives w.tree) ≡ Dormant = get_or_past (Tree.lives w.tree) u Dormant past in
    let not_so : has_ended (life_of u (Tree.lives w.tree)) ≡ false = ap has_ended none in
    absurd cc
makes_none d n w u sound h (inr lives) = not_living (life_of u (Tree.lives w.tree)) h lives
