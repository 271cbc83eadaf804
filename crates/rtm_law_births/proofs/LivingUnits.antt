-- Births and deaths of units, entry by entry.
use Rattle.std.proofs.Common.{◌≡◌, ℕ, ◌<◌, ◌≤◌, Bool, true, false, not, List, [], length, Option, Some, None, refl, sym, ap, subst, arith, inl, inr, ◌⊎◌, ◌∙◌}
use Rattle.std.proofs.lemmas.Bool.{cases_lt, eqb-false, eqb-true}
use Rattle.std.proofs.lemmas.List.{get_or-set_other, get_or-set_same, get_or_past}
use Rattle.std.specs.Prelude.{IsTrue, if◌then◌else◌, map, slice_get, slice_set, ◌==◌}
use Rattle.rtm_deck_items.specs.Reading.{job_step, op_at}
use Rattle.rtm_deck_items.specs.View.{DeckView}
use Rattle.rtm_deck_items.specs.WellFormed.{is_well_formed}
use Rattle.rtm_deck_items.specs.declared.op.Op.{Op}
use Rattle.rtm_deck_items.specs.declared.op.Op.TheVariants as ops
use Rattle.rtm_model.specs.declared.entry.Entry.{Entry}
use Rattle.rtm_model.specs.declared.entry.What.{What}
use Rattle.rtm_model.specs.declared.entry.What.TheVariants as whats
use Rattle.rtm_model.specs.declared.reg.Reg.{Reg}
use Rattle.rtm_model.specs.inner.Applies.{CanExecute}
use Rattle.rtm_model.specs.Advance.{beyond_card, with_unit}
use Rattle.rtm_model.specs.Legal.{Legal}
use Rattle.rtm_model.specs.inner.Soundness.{IsSound}
use Rattle.rtm_model.specs.Tasks.{Dormant, HasEnded, Life, Lives, Tree, ended_life, is_dormant, is_living, life_of, with_birth, with_end}
use Rattle.rtm_model.specs.World.{UnitOfWork, World, lives_in, related_task, start}
use Rattle.rtm_model.proofs.Units.{}
use Rattle.rtm_model.proofs.Start.{all_dormant, job_step_in, length-dormant}
use Rattle.rtm_law_births.specs.LivingUnits.{AreTheUnits, CardMakes, LivingUnit, master, units}
use Rattle.rtm_law_births.proofs.Beyond.{arrived_units, own, related_units, step_units}
use Rattle.rtm_law_births.proofs.Cards.{NamesUnit, unit_named}
use Rattle.rtm_law_births.proofs.Living.{Changes, Follows, IsMade, Moves, living, unmoved}
use Rattle.rtm_law_births.proofs.Sound.{IsSoundHistory}

-- the unit lives, as that task's subtask or as nobody's
abbrev pub LivesAs : List Life → LivingUnit → Type 0
LivesAs lives x = life_of x.unit lives ≡ Lives x.mother

-- an entry that leaves who lives
same_lives : (x : LivingUnit) (before after : List Life) → after ≡ before → Moves (LivesAs after x) (LivesAs before x) ⊥ ⊥
same_lives x before after e = unmoved (λ h. subst (λ (ls : List Life). LivesAs ls x) e h) (λ h. subst (λ (ls : List Life). LivesAs ls x) (sym e) h) (λ h. h) (λ h. h)

-- a dormant unit is born
born_if : (x : LivingUnit) (lives : List Life) (unit : ℕ) (mother : Option ℕ) → unit < length lives → is_dormant (life_of unit lives) ≡ true → (b : Bool) → (x.unit == unit) ≡ b
    → Moves (LivesAs (slice_set lives unit (Lives mother)) x) (LivesAs lives x) ((x.unit ≡ unit) × (x.mother ≡ mother)) ⊥
born_if x lives unit mother within dormant true e =
    let same = eqb-true x.unit unit e in
    let now : life_of x.unit (slice_set lives unit (Lives mother)) ≡ Lives mother = rw same (get_or-set_same lives unit (Lives mother) Dormant within) in
    record {
      came = λ h. let one : Lives mother ≡ Lives x.mother = sym now ∙ h in let two : x.mother ≡ mother = cc in inl (same, two);
      born = λ h. now ∙ ap Lives (sym h.1);
      stays = λ h alive.
          let was : is_dormant (life_of x.unit lives) ≡ true = subst (λ (v : ℕ). is_dormant (life_of v lives) ≡ true) (sym same) dormant in
          let no_more : is_dormant (Lives x.mother) ≡ true = subst (λ (l : Life). is_dormant l ≡ true) h was in
          absurd cc;
    }
born_if x lives unit mother within dormant false e =
    let other = eqb-false x.unit unit e in
    let same : life_of x.unit (slice_set lives unit (Lives mother)) ≡ life_of x.unit lives = get_or-set_other lives unit x.unit (Lives mother) Dormant other in
    unmoved (λ h. sym same ∙ h) (λ h. same ∙ h) (λ h. other h.0) (λ h. h)

birth_moves : (x : LivingUnit) (lives : List Life) (unit : ℕ) (mother : Option ℕ) → unit < length lives → is_dormant (life_of unit lives) ≡ true
    → Moves (LivesAs (with_birth mother unit lives) x) (LivesAs lives x) ((x.unit ≡ unit) × (x.mother ≡ mother)) ⊥
birth_moves x lives unit mother within dormant = rw dormant (born_if x lives unit mother within dormant (x.unit == unit) refl)

-- a unit ends
never : (life : Life) (mother : Option ℕ) → ended_life life ≡ Lives mother → ⊥
never Dormant mother e = absurd cc
never (Lives other) mother e = absurd cc
never (HasEnded other) mother e = absurd cc

end_if : (x : LivingUnit) (lives : List Life) (unit : ℕ) → unit < length lives → (b : Bool) → (x.unit == unit) ≡ b → Moves (LivesAs (with_end unit lives) x) (LivesAs lives x) ⊥ (x.unit ≡ unit)
end_if x lives unit within true e =
    let same = eqb-true x.unit unit e in
    let now : life_of x.unit (with_end unit lives) ≡ ended_life (life_of unit lives) = rw same (get_or-set_same lives unit (ended_life (life_of unit lives)) Dormant within) in
    record {
      came = λ h. absurd (never (life_of unit lives) x.mother (sym now ∙ h));
      born = λ h. absurd h;
      stays = λ h alive. absurd (alive same);
    }
end_if x lives unit within false e =
    let other = eqb-false x.unit unit e in
    let same : life_of x.unit (with_end unit lives) ≡ life_of x.unit lives = get_or-set_other lives unit x.unit (ended_life (life_of unit lives)) Dormant other in
    unmoved (λ h. sym same ∙ h) (λ h. same ∙ h) (λ h. h) other

end_moves : (x : LivingUnit) (lives : List Life) (unit : ℕ) → unit < length lives → Moves (LivesAs (with_end unit lives) x) (LivesAs lives x) ⊥ (x.unit ≡ unit)
end_moves x lives unit within = end_if x lives unit within (x.unit == unit) refl

-- a living unit is one of the deck's
there_or : (w : World) (u : ℕ) → lives_in w u ≡ true → (u < length (Tree.lives w.tree)) ⊎ (length (Tree.lives w.tree) ≤ u) → u < length (Tree.lives w.tree)
there_or w u h (inl within) = within
there_or w u h (inr past) =
    let none : life_of u (Tree.lives w.tree) ≡ Dormant = get_or_past (Tree.lives w.tree) u Dormant past in
    let dead : is_living (life_of u (Tree.lives w.tree)) ≡ false = ap is_living none in
    absurd cc

there : (w : World) (u : ℕ) → lives_in w u ≡ true → u < length (Tree.lives w.tree)
there w u h = there_or w u h (cases_lt u (length (Tree.lives w.tree)))

module _ (d : DeckView) (n u rc : ℕ) (w : World) (units2 : List UnitOfWork) (x : LivingUnit) (sound : IsSound d n w) where
  -- a card makes a unit where it is executed with 0
  with_rc : (unit : ℕ) (mother : Option ℕ) (estais : List Reg) → unit < length d.units → (rc ≡ 0 → is_dormant (life_of unit (Tree.lives w.tree)) ≡ true) → (b : Bool) → (rc == 0) ≡ b
      → Moves (LivesAs (Tree.lives (World.tree (if b then with_unit d n unit mother estais (record w { units = units2 }) else record w { units = units2 }))) x) (LivesAs (Tree.lives w.tree) x) ((rc ≡ 0) × (x.unit ≡ unit) × (x.mother ≡ mother)) ⊥
  with_rc unit mother estais named can true e =
      let zero_is = eqb-true rc 0 e in
      let moves = birth_moves x (Tree.lives w.tree) unit mother (omega (arith, named, sound.lives_len)) (can zero_is) in
      record {
        came = λ h. elim (moves.came h) [ inl born ↦ inl (zero_is, born.0, born.1) | inr stayed ↦ inr stayed ];
        born = λ h. moves.born (h.1, h.2);
        stays = moves.stays;
      }
  with_rc unit mother estais named can false e = unmoved (λ h. h) (λ h. h) (λ h. eqb-false rc 0 e h.0) (λ h. h)

  card : (op : Op) → NamesUnit d op → CanExecute w u rc op
      → Moves (LivesAs (Tree.lives (World.tree (beyond_card d n u rc op (record w { units = units2 })))) x) (LivesAs (Tree.lives w.tree) x) (CardMakes u rc op x) ⊥
  card (ops.Attachx unit estai term) named can = with_rc unit (Some u) _ named can (rc == 0) refl
  card (ops.Schedule unit) named can = with_rc unit None [] named can (rc == 0) refl
  card _ named can = unmoved (λ h. h) (λ h. h) (λ h. h) (λ h. h)

module _ (d : DeckView) (w : World) (n u : ℕ) (x : LivingUnit) where
  entry : (what : What) → IsMade d w n (record { unit = u; what = what }) → Changes units d w n (record { unit = u; what = what }) x
  entry (whats.Exec at rc) m = card d n u rc w (World.units (own d w n u (whats.Exec at rc))) x m.sound (op_at d at.prog at.op) (unit_named d m.deck at.prog at.op) m.can.what.1
  entry (whats.Arrive cmd became) m =
      same_lives x (Tree.lives w.tree) _ (ap (λ (k : World). Tree.lives k.tree) (arrived_units n u (slice_get d.commands cmd) (own d w n u (whats.Arrive cmd became))))
  entry (whats.Done code to_task to_step) m =
      let ends = end_moves x (Tree.lives w.tree) u (there w u m.can.what.0) in
      let same = ap (λ (k : World). Tree.lives k.tree) (step_units n (not (u == job_step d)) (job_step d) _ _) ∙ ap (λ (k : World). Tree.lives k.tree) (related_units n (related_task d u) _ _) in
      record {
        came = λ h. ends.came (subst (λ (ls : List Life). LivesAs ls x) same h);
        born = λ h. absurd h;
        stays = λ h alive. subst (λ (ls : List Life). LivesAs ls x) (sym same) (ends.stays h alive);
      }
  entry (whats.Purge unit) m = end_moves x (Tree.lives w.tree) unit (omega (arith, m.can.what.0, IsSound.lives_len m.sound))
  entry _ m = unmoved (λ h. h) (λ h. h) (λ h. h) (λ h. h)

-- the master's life
module _ (d : DeckView) (n u rc : ℕ) (w : World) where
  over_if : (b : Bool) (unit : ℕ) (mother : Option ℕ) (estais : List Reg) → World.over (if b then with_unit d n unit mother estais w else w) ≡ w.over
  over_if true unit mother estais = refl
  over_if false unit mother estais = refl

  card_over : (op : Op) → World.over (beyond_card d n u rc op w) ≡ w.over
  card_over (ops.Attachx unit estai term) = over_if (rc == 0) unit (Some u) _
  card_over (ops.Schedule unit) = over_if (rc == 0) unit None []
  card_over _ = refl

same_over : (before after : Bool) → after ≡ before → Moves (after ≡ false) (before ≡ false) ⊥ ⊥
same_over before after e = unmoved (λ h. sym e ∙ h) (λ h. e ∙ h) (λ h. h) (λ h. h)

module _ (d : DeckView) (w : World) (n u : ℕ) (x : Unit {0}) where
  entry_over : (what : What) → IsMade d w n (record { unit = u; what = what }) → Changes master d w n (record { unit = u; what = what }) x
  entry_over (whats.Exec at rc) m = same_over w.over _ (card_over d n u rc (own d w n u (whats.Exec at rc)) (op_at d at.prog at.op))
  entry_over (whats.Arrive cmd became) m = same_over w.over _ (ap World.over (arrived_units n u (slice_get d.commands cmd) (own d w n u (whats.Arrive cmd became))))
  entry_over (whats.Done code to_task to_step) m =
      same_over w.over _ (ap World.over (step_units n (not (u == job_step d)) (job_step d) _ _) ∙ ap World.over (related_units n (related_task d u) _ _))
  entry_over whats.MemEnd m = record {
    came = λ h. absurd cc;
    born = λ h. absurd h;
    stays = λ h alive. absurd (alive tt);
  }
  entry_over _ m = unmoved (λ h. h) (λ h. h) (λ h. h) (λ h. h)

follows_over : Follows master
follows_over = record {
  first = λ d deck x h. tt;
  there = λ d deck x h. refl;
  changes = λ d w n e m x. entry_over d w n e.unit x e.what m;
}

-- at the start the job step task lives
start_moves : (d : DeckView) → IsTrue (is_well_formed d) → (x : LivingUnit) (b : Bool) → (x.unit == job_step d) ≡ b
    → Moves (LivesAs (Tree.lives (World.tree (start d))) x) ⊥ ((x.unit ≡ job_step d) × (x.mother ≡ None)) ⊥
start_moves d deck x true e =
    let same = eqb-true x.unit (job_step d) e in
    let lives : List Life = map (λ card. Dormant) d.units in
    let within : job_step d < length lives = omega (arith, job_step_in d deck, length-dormant d.units) in
    let now : life_of x.unit (slice_set lives (job_step d) (Lives None)) ≡ Lives None = rw same (get_or-set_same lives (job_step d) (Lives None) Dormant within) in
    record {
      came = λ h. let one : Lives None ≡ Lives x.mother = sym now ∙ h in let two : x.mother ≡ None = cc in inl (same, two);
      born = λ h. now ∙ ap Lives (sym h.1);
      stays = λ h alive. absurd h;
    }
start_moves d deck x false e =
    let other = eqb-false x.unit (job_step d) e in
    let lives : List Life = map (λ card. Dormant) d.units in
    let now : life_of x.unit (slice_set lives (job_step d) (Lives None)) ≡ Dormant = get_or-set_other lives (job_step d) x.unit (Lives None) Dormant other ∙ all_dormant d.units x.unit in
    record {
      came = λ h. let one : Dormant ≡ Lives x.mother = sym now ∙ h in absurd cc;
      born = λ h. absurd (other h.0);
      stays = λ h alive. absurd h;
    }

from_start : (d : DeckView) → IsTrue (is_well_formed d) → (x : LivingUnit) → LivesAs (Tree.lives (World.tree (start d))) x → (x.unit ≡ job_step d) × (x.mother ≡ None)
from_start d deck x h = elim ((start_moves d deck x (x.unit == job_step d) refl).came h) [ inl born ↦ born | inr none ↦ absurd none.0 ]

follows : Follows units
follows = record {
  first = λ d deck x h. from_start d deck x h;
  there = λ d deck x h. (start_moves d deck x (x.unit == job_step d) refl).born h;
  changes = λ d w n e m x. entry d w n e.unit x e.what m;
}

pub units_live : (d : DeckView) (h : List Entry) → IsSoundHistory d h → Legal d h → AreTheUnits d h
units_live d h sound legal = record {
  living = living units d h sound legal follows;
  master_lives = living master d h sound legal follows_over;
}
