-- Who was born, and who has ended, after an entry.
use Rattle.std.proofs.Common.{◌≡◌, ℕ, ◌<◌, Bool, true, false, not, ◌&&◌, ◌||◌, List, length, map, Option, Some, None, refl, sym, ap, subst, arith, ◌∙◌}
use Rattle.std.proofs.lemmas.Bool.{eqb-false, eqb-true, or_right}
use Rattle.std.proofs.lemmas.List.{get_or-set_other, get_or-set_same}
use Rattle.std.specs.Prelude.{IsTrue, if◌then◌else◌, slice_set, ◌==◌}
use Rattle.rtm_deck_items.specs.Reading.{job_step, op_at}
use Rattle.rtm_deck_items.specs.View.{DeckView}
use Rattle.rtm_deck_items.specs.WellFormed.{is_well_formed}
use Rattle.rtm_deck_items.specs.declared.op.Op.{Op}
use Rattle.rtm_deck_items.specs.declared.op.Op.TheVariants as ops
use Rattle.rtm_model.specs.declared.entry.Entry.{Entry}
use Rattle.rtm_model.specs.declared.entry.What.{What}
use Rattle.rtm_model.specs.declared.entry.What.TheVariants as whats
use Rattle.rtm_model.specs.inner.Applies.{CanExecute}
use Rattle.rtm_model.specs.inner.Soundness.{IsSound}
use Rattle.rtm_model.specs.Advance.{world}
use Rattle.rtm_model.specs.Legal.{Legal}
use Rattle.rtm_model.specs.Tasks.{Dormant, HasEnded, Life, Lives, Tree, ended_life, has_ended, is_dormant, is_living, life_of, with_birth, with_end}
use Rattle.rtm_model.specs.World.{World, start}
use Rattle.rtm_model.proofs.Start.{all_dormant, job_step_in, length-dormant}
use Rattle.rtm_law_births.proofs.Cards.{NamesUnit, unit_named}
use Rattle.rtm_law_births.proofs.Living.{IsMade}
use Rattle.rtm_law_landings.proofs.Booleans.{or-false}
use Rattle.rtm_law_landings.proofs.Lives.{card_lives, lives_are, lives_next, living_ends, there}
use Rattle.rtm_law_flags.specs.Said.{ends_life, gives_birth, is_born, is_gone, says_birth}
use Rattle.rtm_law_flags.proofs.Agree.{any_agrees}

abbrev was_born : Life → Bool
was_born life = not (is_dormant life)

unborn_is : (life : Life) → is_dormant life ≡ true → life ≡ Dormant
unborn_is Dormant h = refl
unborn_is (Lives mother) h = absurd cc
unborn_is (HasEnded mother) h = absurd cc

born_end : (life : Life) → was_born (ended_life life) ≡ was_born life
born_end Dormant = refl
born_end (Lives mother) = refl
born_end (HasEnded mother) = refl

set_or : (a b : Bool) → b ≡ true → true ≡ (a || b)
set_or a b h = sym (or_right a b h)

-- a birth, and an end, in the list of lives
module _ (lives : List Life) (unit x : ℕ) (within : unit < length lives) where
  birth_life : (mother : Option ℕ) → is_dormant (life_of unit lives) ≡ true → (c : Bool) → (unit == x) ≡ c → life_of x (with_birth mother unit lives) ≡ (if c then Lives mother else life_of x lives)
  birth_life mother dormant true e =
      rw dormant (subst (λ (i : ℕ). life_of i (slice_set lives unit (Lives mother)) ≡ Lives mother) (eqb-true unit x e) (get_or-set_same lives unit (Lives mother) Dormant within))
  birth_life mother dormant false e =
      rw dormant (get_or-set_other lives unit x (Lives mother) Dormant (λ same. eqb-false unit x e (sym same)))

  end_life : (c : Bool) → (unit == x) ≡ c → life_of x (with_end unit lives) ≡ (if c then ended_life (life_of x lives) else life_of x lives)
  end_life true e =
      subst (λ (i : ℕ). life_of i (with_end unit lives) ≡ ended_life (life_of i lives)) (eqb-true unit x e) (get_or-set_same lives unit (ended_life (life_of unit lives)) Dormant within)
  end_life false e = get_or-set_other lives unit x (ended_life (life_of unit lives)) Dormant (λ same. eqb-false unit x e (sym same))

  born_here : (mother : Option ℕ) → is_dormant (life_of unit lives) ≡ true → (c : Bool) → (unit == x) ≡ c → was_born (life_of x (with_birth mother unit lives)) ≡ (was_born (life_of x lives) || c)
  born_here mother dormant true e = rw (birth_life mother dormant true e) (sym (or_right (was_born (life_of x lives)) true refl))
  born_here mother dormant false e = rw (birth_life mother dormant false e) (sym (or-false (was_born (life_of x lives))))

  -- a birth ends nobody
  unended_here : (mother : Option ℕ) → is_dormant (life_of unit lives) ≡ true → (c : Bool) → (unit == x) ≡ c → has_ended (life_of x (with_birth mother unit lives)) ≡ has_ended (life_of x lives)
  unended_here mother dormant true e =
      let was : life_of x lives ≡ Dormant = subst (λ (i : ℕ). life_of i lives ≡ Dormant) (eqb-true unit x e) (unborn_is (life_of unit lives) dormant) in
      rw (birth_life mother dormant true e, was) refl
  unended_here mother dormant false e = ap has_ended (birth_life mother dormant false e)

  -- an end bears nobody
  end_born : (c : Bool) → (unit == x) ≡ c → was_born (life_of x (with_end unit lives)) ≡ was_born (life_of x lives)
  end_born true e = ap was_born (end_life true e) ∙ born_end (life_of x lives)
  end_born false e = ap was_born (end_life false e)

  ended_here : is_living (life_of unit lives) ≡ true → (c : Bool) → (unit == x) ≡ c → has_ended (life_of x (with_end unit lives)) ≡ (has_ended (life_of x lives) || c)
  ended_here alive true e =
      let lived : is_living (life_of x lives) ≡ true = subst (λ (i : ℕ). is_living (life_of i lives) ≡ true) (eqb-true unit x e) alive in
      ap has_ended (end_life true e) ∙ living_ends (life_of x lives) lived ∙ sym (or_right (has_ended (life_of x lives)) true refl)
  ended_here alive false e = ap has_ended (end_life false e) ∙ sym (or-false (has_ended (life_of x lives)))

module _ (d : DeckView) (w : World) (n u x : ℕ) (sound : IsSound d n w) where
  before_life : Life
  before_life = life_of x (Tree.lives w.tree)

  -- births
  born_if : (mother : Option ℕ) (unit rc : ℕ) → unit < length (Tree.lives w.tree) → (rc ≡ 0 → is_dormant (life_of unit (Tree.lives w.tree)) ≡ true) → (b : Bool) → (rc == 0) ≡ b
      → was_born (life_of x (if b then with_birth mother unit (Tree.lives w.tree) else Tree.lives w.tree)) ≡ (was_born (life_of x (Tree.lives w.tree)) || (b && (unit == x)))
  born_if mother unit rc within can true z = born_here (Tree.lives w.tree) unit x within mother (can (eqb-true rc 0 z)) (unit == x) refl
  born_if mother unit rc within can false z = sym (or-false (was_born (life_of x (Tree.lives w.tree))))

  born_card : (rc : ℕ) (op : Op) → NamesUnit d op → CanExecute w u rc op
      → was_born (life_of x (card_lives u rc op (Tree.lives w.tree))) ≡ (was_born (life_of x (Tree.lives w.tree)) || says_birth rc x op)
  born_card rc (ops.Attachx unit estai term) named can = born_if (Some u) unit rc (omega (arith, named, sound.lives_len)) can (rc == 0) refl
  born_card rc (ops.Schedule unit) named can = born_if None unit rc (omega (arith, named, sound.lives_len)) can (rc == 0) refl
  born_card rc _ named can = sym (or-false (was_born (life_of x (Tree.lives w.tree))))

  born_next : (what : What) → IsMade d w n (record { unit = u; what = what })
      → was_born (life_of x (lives_next d u what (Tree.lives w.tree))) ≡ (was_born (life_of x (Tree.lives w.tree)) || gives_birth d x what)
  born_next (whats.Exec at rc) m = born_card rc (op_at d at.prog at.op) (unit_named d m.deck at.prog at.op) m.can.what.1
  born_next (whats.Done code to_task to_step) m =
      end_born (Tree.lives w.tree) u x (there w u m.can.what.0) (u == x) refl ∙ sym (or-false (was_born (life_of x (Tree.lives w.tree))))
  born_next (whats.Purge unit) m =
      end_born (Tree.lives w.tree) unit x (omega (arith, m.can.what.0, sound.lives_len)) (unit == x) refl ∙ sym (or-false (was_born (life_of x (Tree.lives w.tree))))
  born_next _ m = sym (or-false (was_born (life_of x (Tree.lives w.tree))))

  -- ends
  unended_if : (mother : Option ℕ) (unit rc : ℕ) → unit < length (Tree.lives w.tree) → (rc ≡ 0 → is_dormant (life_of unit (Tree.lives w.tree)) ≡ true) → (b : Bool) → (rc == 0) ≡ b
      → has_ended (life_of x (if b then with_birth mother unit (Tree.lives w.tree) else Tree.lives w.tree)) ≡ has_ended (life_of x (Tree.lives w.tree))
  unended_if mother unit rc within can true z = unended_here (Tree.lives w.tree) unit x within mother (can (eqb-true rc 0 z)) (unit == x) refl
  unended_if mother unit rc within can false z = refl

  unended_card : (rc : ℕ) (op : Op) → NamesUnit d op → CanExecute w u rc op → has_ended (life_of x (card_lives u rc op (Tree.lives w.tree))) ≡ has_ended (life_of x (Tree.lives w.tree))
  unended_card rc (ops.Attachx unit estai term) named can = unended_if (Some u) unit rc (omega (arith, named, sound.lives_len)) can (rc == 0) refl
  unended_card rc (ops.Schedule unit) named can = unended_if None unit rc (omega (arith, named, sound.lives_len)) can (rc == 0) refl
  unended_card rc _ named can = refl

  ended_next : (what : What) → IsMade d w n (record { unit = u; what = what })
      → has_ended (life_of x (lives_next d u what (Tree.lives w.tree))) ≡ (has_ended (life_of x (Tree.lives w.tree)) || ends_life x u what)
  ended_next (whats.Exec at rc) m =
      unended_card rc (op_at d at.prog at.op) (unit_named d m.deck at.prog at.op) m.can.what.1 ∙ sym (or-false (has_ended (life_of x (Tree.lives w.tree))))
  ended_next (whats.Done code to_task to_step) m = ended_here (Tree.lives w.tree) u x (there w u m.can.what.0) m.can.what.0 (u == x) refl
  ended_next (whats.Purge unit) m = ended_here (Tree.lives w.tree) unit x (omega (arith, m.can.what.0, sound.lives_len)) m.can.what.1 (unit == x) refl
  ended_next _ m = sym (or-false (has_ended (life_of x (Tree.lives w.tree))))

-- before the first entry the job step task alone was born
module _ (d : DeckView) (deck : IsTrue (is_well_formed d)) (x : ℕ) where
  first_life : (b : Bool) → (x == job_step d) ≡ b → life_of x (slice_set (map (λ card. Dormant) d.units) (job_step d) (Lives None)) ≡ (if b then Lives None else Dormant)
  first_life true e =
      let lives : List Life = map (λ card. Dormant) d.units in
      let within : job_step d < length lives = omega (arith, job_step_in d deck, length-dormant d.units) in
      rw (eqb-true x (job_step d) e) (get_or-set_same lives (job_step d) (Lives None) Dormant within)
  first_life false e =
      get_or-set_other (map (λ card. Dormant) d.units) (job_step d) x (Lives None) Dormant (eqb-false x (job_step d) e) ∙ all_dormant d.units x

  born_first : (b : Bool) → (x == job_step d) ≡ b → was_born (life_of x (Tree.lives (World.tree (start d)))) ≡ b
  born_first true e = ap was_born (first_life true e)
  born_first false e = ap was_born (first_life false e)

  ended_first : (b : Bool) → (x == job_step d) ≡ b → has_ended (life_of x (Tree.lives (World.tree (start d)))) ≡ false
  ended_first true e = ap has_ended (first_life true e)
  ended_first false e = ap has_ended (first_life false e)

  pub born_agree : (h : List Entry) → Legal d h → not (is_dormant (life_of x (Tree.lives (World.tree (world d h))))) ≡ is_born d x h
  born_agree h legal =
      any_agrees d deck (λ w. was_born (life_of x (Tree.lives w.tree))) (λ e. gives_birth d x e.what) (x == job_step d) (born_first (x == job_step d) refl)
      (λ w n e m. ap (λ (ls : List Life). was_born (life_of x ls)) (lives_are d n e.unit w e.what) ∙ born_next d w n e.unit x m.sound e.what m)
      h legal

  pub ended_agree : (h : List Entry) → Legal d h → has_ended (life_of x (Tree.lives (World.tree (world d h)))) ≡ is_gone x h
  ended_agree h legal =
      any_agrees d deck (λ w. has_ended (life_of x (Tree.lives w.tree))) (λ e. ends_life x e.unit e.what) false (ended_first (x == job_step d) refl)
      (λ w n e m. ap (λ (ls : List Life). has_ended (life_of x ls)) (lives_are d n e.unit w e.what) ∙ ended_next d w n e.unit x m.sound e.what m)
      h legal
