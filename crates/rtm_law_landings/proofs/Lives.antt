-- Who lives after an entry, and who has attached whom.
use Rattle.std.proofs.Common.{◌≡◌, ℕ, ◌<◌, ◌≤◌, Bool, true, false, not, ◌&&◌, ◌||◌, List, [], ◌∷◌, ◌++◌, length, Option, Some, None, refl, sym, ap, subst, arith, inl, inr, ◌⊎◌, ◌∙◌}
use Rattle.std.proofs.lemmas.Bool.{cases_lt, eqb-false, eqb-true}
use Rattle.std.proofs.lemmas.List.{get_or-set_other, get_or-set_same, get_or_past}
use Rattle.std.proofs.lemmas.List.Folds.{list_any-append}
use Rattle.std.specs.Prelude.{IsTrue, if◌then◌else◌, map, slice_get, slice_set, ◌==◌}
use Rattle.rtm_deck_items.specs.Reading.{job_step, op_at}
use Rattle.rtm_deck_items.specs.View.{DeckView}
use Rattle.rtm_deck_items.specs.WellFormed.{is_well_formed}
use Rattle.rtm_deck_items.specs.declared.op.Op.{Op}
use Rattle.rtm_deck_items.specs.declared.op.Op.TheVariants as ops
use Rattle.rtm_model.specs.declared.entry.Entry.{Entry}
use Rattle.rtm_model.specs.declared.entry.What.{What}
use Rattle.rtm_model.specs.declared.entry.What.TheVariants as whats
use Rattle.rtm_model.specs.declared.reg.Reg.{Reg}
use Rattle.rtm_model.specs.inner.Applies.{CanExecute}
use Rattle.rtm_model.specs.inner.Soundness.{IsSound}
use Rattle.rtm_model.specs.AbortLaw.{attaches, is_subtask, says_attach}
use Rattle.rtm_model.specs.Advance.{advance, beyond_card, with_unit, world}
use Rattle.rtm_model.specs.Legal.{Legal}
use Rattle.rtm_model.specs.Tasks.{Dormant, HasEnded, Life, Lives, Tree, ended_life, has_ended, is_dormant, is_living, is_number, life_of, mother_of, with_birth, with_end}
use Rattle.rtm_model.specs.World.{World, lives_in, master, related_task, start}
use Rattle.rtm_model.proofs.Start.{all_dormant, job_step_in, length-dormant}
use Rattle.rtm_law_births.proofs.Beyond.{arrived_units, own, related_units, step_units}
use Rattle.rtm_law_births.proofs.Cards.{NamesUnit, unit_named}
use Rattle.rtm_law_births.proofs.Living.{IsMade}
use Rattle.rtm_law_sound.proofs.Histories.{world-append, world-nil}
use Rattle.rtm_law_landings.proofs.Appended.{holds_of}
use Rattle.rtm_law_landings.proofs.Booleans.{and-true, kept_or, or-false}

abbrev pub card_lives : ℕ → ℕ → Op → List Life → List Life
card_lives u rc (ops.Attachx unit estai term) lives = if rc == 0 then with_birth (Some u) unit lives else lives
card_lives u rc (ops.Schedule unit) lives = if rc == 0 then with_birth None unit lives else lives
card_lives u rc _ lives = lives

abbrev pub lives_next : DeckView → ℕ → What → List Life → List Life
lives_next d u (whats.Exec at rc) lives = card_lives u rc (op_at d at.prog at.op) lives
lives_next d u (whats.Done code to_task to_step) lives = with_end u lives
lives_next d u (whats.Purge unit) lives = with_end unit lives
lives_next d u _ lives = lives

module _ (d : DeckView) (n u : ℕ) where
  lives_if : (w : World) (b : Bool) (unit : ℕ) (mother : Option ℕ) (estais : List Reg)
      → Tree.lives (World.tree (if b then with_unit d n unit mother estais w else w)) ≡ (if b then with_birth mother unit (Tree.lives w.tree) else Tree.lives w.tree)
  lives_if w true unit mother estais = refl
  lives_if w false unit mother estais = refl

  card_lives_are : (w : World) (rc : ℕ) (op : Op) → Tree.lives (World.tree (beyond_card d n u rc op w)) ≡ card_lives u rc op (Tree.lives w.tree)
  card_lives_are w rc (ops.Attachx unit estai term) = lives_if w (rc == 0) unit (Some u) _
  card_lives_are w rc (ops.Schedule unit) = lives_if w (rc == 0) unit None []
  card_lives_are w rc _ = refl

  pub lives_are : (w : World) (what : What) → Tree.lives (World.tree (advance d w n (record { unit = u; what = what }))) ≡ lives_next d u what (Tree.lives w.tree)
  lives_are w (whats.Exec at rc) = card_lives_are (own d w n u (whats.Exec at rc)) rc (op_at d at.prog at.op)
  lives_are w (whats.Arrive cmd became) = ap (λ (k : World). Tree.lives k.tree) (arrived_units n u (slice_get d.commands cmd) (own d w n u (whats.Arrive cmd became)))
  lives_are w (whats.Done code to_task to_step) =
      ap (λ (k : World). Tree.lives k.tree) (step_units n (not (u == job_step d)) (job_step d) _ _) ∙ ap (λ (k : World). Tree.lives k.tree) (related_units n (related_task d u) _ _)
  lives_are w _ = refl

  -- a birth leaves memory end
  pub memory_if : (w : World) (b : Bool) (unit : ℕ) (mother : Option ℕ) (estais : List Reg) → World.memory_end (if b then with_unit d n unit mother estais w else w) ≡ w.memory_end
  memory_if w true unit mother estais = refl
  memory_if w false unit mother estais = refl

-- One life

dormant_is : (life : Life) → is_dormant life ≡ true → life ≡ Dormant
dormant_is Dormant h = refl
dormant_is (Lives mother) h = absurd cc
dormant_is (HasEnded mother) h = absurd cc

module _ (lives : List Life) (unit x : ℕ) (within : unit < length lives) where
  born_if : (mother : Option ℕ) → is_dormant (life_of unit lives) ≡ true → (b : Bool) → (unit == x) ≡ b → life_of x (with_birth mother unit lives) ≡ (if b then Lives mother else life_of x lives)
  born_if mother dormant true e =
      let same = eqb-true unit x e in
      rw dormant (subst (λ (i : ℕ). life_of i (slice_set lives unit (Lives mother)) ≡ Lives mother) same (get_or-set_same lives unit (Lives mother) Dormant within))
  born_if mother dormant false e =
      let other = eqb-false unit x e in
      rw dormant (get_or-set_other lives unit x (Lives mother) Dormant (λ same. other (sym same)))

  ended_if : (b : Bool) → (unit == x) ≡ b → life_of x (with_end unit lives) ≡ (if b then ended_life (life_of x lives) else life_of x lives)
  ended_if true e =
      let same = eqb-true unit x e in
      subst (λ (i : ℕ). life_of i (with_end unit lives) ≡ ended_life (life_of i lives)) same (get_or-set_same lives unit (ended_life (life_of unit lives)) Dormant within)
  ended_if false e = get_or-set_other lives unit x (ended_life (life_of unit lives)) Dormant (λ same. eqb-false unit x e (sym same))

ended_mother : (life : Life) → mother_of (ended_life life) ≡ mother_of life
ended_mother Dormant = refl
ended_mother (Lives mother) = refl
ended_mother (HasEnded mother) = refl

ended_stays : (life : Life) → has_ended life ≡ true → has_ended (ended_life life) ≡ true
ended_stays Dormant h = h
ended_stays (Lives mother) h = refl
ended_stays (HasEnded mother) h = h

not_both : (life : Life) → has_ended life ≡ true → is_dormant life ≡ true → ⊥
not_both Dormant h k = cc
not_both (Lives mother) h k = cc
not_both (HasEnded mother) h k = cc

pub ended_dead : (life : Life) → has_ended life ≡ true → is_living life ≡ false
ended_dead Dormant h = refl
ended_dead (Lives mother) h = absurd cc
ended_dead (HasEnded mother) h = refl

pub living_ends : (life : Life) → is_living life ≡ true → has_ended (ended_life life) ≡ true
living_ends Dormant h = absurd cc
living_ends (Lives mother) h = refl
living_ends (HasEnded mother) h = refl

-- a living unit is one of the deck's
there_or : (w : World) (u : ℕ) → lives_in w u ≡ true → (u < length (Tree.lives w.tree)) ⊎ (length (Tree.lives w.tree) ≤ u) → u < length (Tree.lives w.tree)
there_or w u h (inl within) = within
there_or w u h (inr past) =
    let none : life_of u (Tree.lives w.tree) ≡ Dormant = get_or_past (Tree.lives w.tree) u Dormant past in
    let dead : is_living (life_of u (Tree.lives w.tree)) ≡ false = ap is_living none in
    absurd cc

pub there : (w : World) (u : ℕ) → lives_in w u ≡ true → u < length (Tree.lives w.tree)
there w u h = there_or w u h (cases_lt u (length (Tree.lives w.tree)))

-- so it isn't the master
pub not_master : (d : DeckView) (w : World) (n u : ℕ) → IsSound d n w → lives_in w u ≡ true → u ≡ master d → ⊥
not_master d w n u sound lives is = omega (arith, there w u lives, IsSound.lives_len sound, is)

-- Who has attached whom, and who has ended

module _ (d : DeckView) (w : World) (n u x : ℕ) (sound : IsSound d n w) where
  lives : List Life
  lives = Tree.lives w.tree

  attached_if : (v unit rc : ℕ) → unit < length (Tree.lives w.tree) → (rc ≡ 0 → is_dormant (life_of unit (Tree.lives w.tree)) ≡ true) → (b : Bool) → (rc == 0) ≡ b → (c : Bool) → (unit == x) ≡ c
      → is_number v (mother_of (life_of x (if b then with_birth (Some u) unit (Tree.lives w.tree) else Tree.lives w.tree))) ≡ (is_number v (mother_of (life_of x (Tree.lives w.tree))) || ((u == v) && (b && c)))
  attached_if v unit rc within can true z true e =
      let same = eqb-true unit x e in
      let was : life_of x (Tree.lives w.tree) ≡ Dormant = subst (λ (i : ℕ). life_of i (Tree.lives w.tree) ≡ Dormant) same (dormant_is (life_of unit (Tree.lives w.tree)) (can (eqb-true rc 0 z))) in
      rw (was, born_if (Tree.lives w.tree) unit x within (Some u) (can (eqb-true rc 0 z)) true e) (sym (and-true (u == v)))
  attached_if v unit rc within can true z false e =
      rw (born_if (Tree.lives w.tree) unit x within (Some u) (can (eqb-true rc 0 z)) false e) (kept_or (is_number v (mother_of (life_of x (Tree.lives w.tree)))) (u == v))
  attached_if v unit rc within can false z c e = kept_or (is_number v (mother_of (life_of x (Tree.lives w.tree)))) (u == v)

  scheduled_if : (v unit rc : ℕ) → unit < length (Tree.lives w.tree) → (rc ≡ 0 → is_dormant (life_of unit (Tree.lives w.tree)) ≡ true) → (b : Bool) → (rc == 0) ≡ b → (c : Bool) → (unit == x) ≡ c
      → is_number v (mother_of (life_of x (if b then with_birth None unit (Tree.lives w.tree) else Tree.lives w.tree))) ≡ is_number v (mother_of (life_of x (Tree.lives w.tree)))
  scheduled_if v unit rc within can true z true e =
      let same = eqb-true unit x e in
      let was : life_of x (Tree.lives w.tree) ≡ Dormant = subst (λ (i : ℕ). life_of i (Tree.lives w.tree) ≡ Dormant) same (dormant_is (life_of unit (Tree.lives w.tree)) (can (eqb-true rc 0 z))) in
      rw (was, born_if (Tree.lives w.tree) unit x within None (can (eqb-true rc 0 z)) true e) refl
  scheduled_if v unit rc within can true z false e = rw (born_if (Tree.lives w.tree) unit x within None (can (eqb-true rc 0 z)) false e) refl
  scheduled_if v unit rc within can false z c e = refl

  attached_card : (v rc : ℕ) (op : Op) → NamesUnit d op → CanExecute w u rc op
      → is_number v (mother_of (life_of x (card_lives u rc op (Tree.lives w.tree)))) ≡ (is_number v (mother_of (life_of x (Tree.lives w.tree))) || ((u == v) && says_attach rc x op))
  attached_card v rc (ops.Attachx unit estai term) named can = attached_if v unit rc (omega (arith, named, sound.lives_len)) can (rc == 0) refl (unit == x) refl
  attached_card v rc (ops.Schedule unit) named can =
      scheduled_if v unit rc (omega (arith, named, sound.lives_len)) can (rc == 0) refl (unit == x) refl ∙ kept_or (is_number v (mother_of (life_of x (Tree.lives w.tree)))) (u == v)
  attached_card v rc _ named can = kept_or (is_number v (mother_of (life_of x (Tree.lives w.tree)))) (u == v)

  end_mother : (v unit : ℕ) → unit < length (Tree.lives w.tree) → (b : Bool) → (unit == x) ≡ b → is_number v (mother_of (life_of x (with_end unit (Tree.lives w.tree)))) ≡ is_number v (mother_of (life_of x (Tree.lives w.tree)))
  end_mother v unit within true e = rw (ended_if (Tree.lives w.tree) unit x within true e) (ap (is_number v) (ended_mother (life_of x (Tree.lives w.tree))))
  end_mother v unit within false e = rw (ended_if (Tree.lives w.tree) unit x within false e) refl

  attached : (v : ℕ) (what : What) → IsMade d w n (record { unit = u; what = what })
      → is_number v (mother_of (life_of x (lives_next d u what (Tree.lives w.tree)))) ≡ (is_number v (mother_of (life_of x (Tree.lives w.tree))) || ((u == v) && attaches d x what))
  attached v (whats.Exec at rc) m = attached_card v rc (op_at d at.prog at.op) (unit_named d m.deck at.prog at.op) m.can.what.1
  attached v (whats.Done code to_task to_step) m =
      end_mother v u (there w u m.can.what.0) (u == x) refl ∙ kept_or (is_number v (mother_of (life_of x (Tree.lives w.tree)))) (u == v)
  attached v (whats.Purge unit) m =
      end_mother v unit (omega (arith, m.can.what.0, sound.lives_len)) (unit == x) refl ∙ kept_or (is_number v (mother_of (life_of x (Tree.lives w.tree)))) (u == v)
  attached v _ m = kept_or (is_number v (mother_of (life_of x (Tree.lives w.tree)))) (u == v)

  -- what has ended stays so
  still_if : (mother : Option ℕ) (unit rc : ℕ) → unit < length (Tree.lives w.tree) → (rc ≡ 0 → is_dormant (life_of unit (Tree.lives w.tree)) ≡ true) → has_ended (life_of x (Tree.lives w.tree)) ≡ true → (b : Bool) → (rc == 0) ≡ b → (c : Bool) → (unit == x) ≡ c
      → has_ended (life_of x (if b then with_birth mother unit (Tree.lives w.tree) else Tree.lives w.tree)) ≡ true
  still_if mother unit rc within can h true z true e =
      absurd (not_both (life_of x (Tree.lives w.tree)) h (subst (λ (i : ℕ). is_dormant (life_of i (Tree.lives w.tree)) ≡ true) (eqb-true unit x e) (can (eqb-true rc 0 z))))
  still_if mother unit rc within can h true z false e = rw (born_if (Tree.lives w.tree) unit x within mother (can (eqb-true rc 0 z)) false e) h
  still_if mother unit rc within can h false z c e = h

  still_card : (rc : ℕ) (op : Op) → NamesUnit d op → CanExecute w u rc op → has_ended (life_of x (Tree.lives w.tree)) ≡ true → has_ended (life_of x (card_lives u rc op (Tree.lives w.tree))) ≡ true
  still_card rc (ops.Attachx unit estai term) named can h = still_if (Some u) unit rc (omega (arith, named, sound.lives_len)) can h (rc == 0) refl (unit == x) refl
  still_card rc (ops.Schedule unit) named can h = still_if None unit rc (omega (arith, named, sound.lives_len)) can h (rc == 0) refl (unit == x) refl
  still_card rc _ named can h = h

  still_end : (unit : ℕ) → unit < length (Tree.lives w.tree) → has_ended (life_of x (Tree.lives w.tree)) ≡ true → (b : Bool) → (unit == x) ≡ b → has_ended (life_of x (with_end unit (Tree.lives w.tree))) ≡ true
  still_end unit within h true e = rw (ended_if (Tree.lives w.tree) unit x within true e) (ended_stays (life_of x (Tree.lives w.tree)) h)
  still_end unit within h false e = rw (ended_if (Tree.lives w.tree) unit x within false e) h

  still_ended : (what : What) → IsMade d w n (record { unit = u; what = what }) → has_ended (life_of x (Tree.lives w.tree)) ≡ true → has_ended (life_of x (lives_next d u what (Tree.lives w.tree))) ≡ true
  still_ended (whats.Exec at rc) m h = still_card rc (op_at d at.prog at.op) (unit_named d m.deck at.prog at.op) m.can.what.1 h
  still_ended (whats.Done code to_task to_step) m h = still_end u (there w u m.can.what.0) h (u == x) refl
  still_ended (whats.Purge unit) m h = still_end unit (omega (arith, m.can.what.0, sound.lives_len)) h (unit == x) refl
  still_ended _ m h = h

  pub ended_next : (what : What) → IsMade d w n (record { unit = u; what = what }) → has_ended (life_of x (Tree.lives w.tree)) ≡ true
      → has_ended (life_of x (Tree.lives (World.tree (advance d w n (record { unit = u; what = what }))))) ≡ true
  ended_next what m h = subst (λ (ls : List Life). has_ended (life_of x ls) ≡ true) (sym (lives_are d n u w what)) (still_ended what m h)

-- a purged unit has ended
pub purged_ended : (d : DeckView) (w : World) (n u unit : ℕ) → IsMade d w n (record { unit = u; what = whats.Purge unit })
    → has_ended (life_of unit (Tree.lives (World.tree (advance d w n (record { unit = u; what = whats.Purge unit }))))) ≡ true
purged_ended d w n u unit m =
    let len : length (Tree.lives w.tree) ≡ length d.units = IsSound.lives_len m.sound in
    let within : unit < length (Tree.lives w.tree) = omega (arith, m.can.what.0, len) in
    ap has_ended (get_or-set_same (Tree.lives w.tree) unit (ended_life (life_of unit (Tree.lives w.tree))) Dormant within)
    ∙ living_ends (life_of unit (Tree.lives w.tree)) m.can.what.1

-- at the start nobody has attached anyone
alone_if : (d : DeckView) → IsTrue (is_well_formed d) → (v x : ℕ) (b : Bool) → (x == job_step d) ≡ b → is_number v (mother_of (life_of x (Tree.lives (World.tree (start d))))) ≡ false
alone_if d deck v x true e =
    let lives : List Life = map (λ card. Dormant) d.units in
    let within : job_step d < length lives = omega (arith, job_step_in d deck, length-dormant d.units) in
    let now : life_of x (slice_set lives (job_step d) (Lives None)) ≡ Lives None = rw (eqb-true x (job_step d) e) (get_or-set_same lives (job_step d) (Lives None) Dormant within) in
    ap (λ (l : Life). is_number v (mother_of l)) now
alone_if d deck v x false e =
    let lives : List Life = map (λ card. Dormant) d.units in
    let now : life_of x (slice_set lives (job_step d) (Lives None)) ≡ Dormant = get_or-set_other lives (job_step d) x (Lives None) Dormant (eqb-false x (job_step d) e) ∙ all_dormant d.units x in
    ap (λ (l : Life). is_number v (mother_of l)) now

-- who attached a unit is what entries say
abbrev pub MothersAgree : DeckView → List Entry → Type 0
MothersAgree d h = (v x : ℕ) → is_number v (mother_of (life_of x (Tree.lives (World.tree (world d h))))) ≡ is_subtask d h v x

mothers_keep : (d : DeckView) (h : List Entry) (e : Entry) → IsMade d (world d h) (length h) e → MothersAgree d h → MothersAgree d (h ++ e ∷ [])
mothers_keep d h e m agree v x =
    let w : World = world d h in
    let after : List Life = lives_next d e.unit e.what (Tree.lives w.tree) in
    ap (λ (k : World). is_number v (mother_of (life_of x (Tree.lives k.tree)))) (world-append d h e)
    ∙ ap (λ (ls : List Life). is_number v (mother_of (life_of x ls))) (lives_are d (length h) e.unit w e.what)
    ∙ attached d w (length h) e.unit x m.sound v e.what m
    ∙ ap (λ (b : Bool). b || ((e.unit == v) && attaches d x e.what)) (agree v x)
    ∙ ap (λ (b : Bool). is_subtask d h v x || b) (sym (or-false ((e.unit == v) && attaches d x e.what)))
    ∙ sym (list_any-append (λ (e : Entry). (e.unit == v) && attaches d x e.what) h (e ∷ []))

pub mothers_agree : (d : DeckView) (h : List Entry) → IsTrue (is_well_formed d) → Legal d h → MothersAgree d h
mothers_agree d h deck legal =
    holds_of d deck (MothersAgree d) (λ v x. ap (λ (k : World). is_number v (mother_of (life_of x (Tree.lives k.tree)))) (world-nil d) ∙ alone_if d deck v x (x == job_step d) refl)
    (λ front e before m agree. mothers_keep d front e m agree) h legal
