-- What a card changes leaves every unit's own control blocks sound.
use Rattle.std.proofs.Common.{◌≡◌, ℕ, ◌+◌, ◌<◌, ◌≤◌, Bool, true, false, List, [], ◌∷◌, length, Option, Some, None, refl, sym, subst, arith}
use Rattle.std.specs.Prelude.{IsTrue, if◌then◌else◌, is_some, not, slice_get, ◌==◌, ◌&&◌, ◌||◌}
use Rattle.std.specs.List.{AllByRecursion, list_all}
use Rattle.std.specs.Option.{option_map_or}
use Rattle.std.proofs.lemmas.Bool.{eqb-false, eqb-true, ltb-true}
use Rattle.std.proofs.lemmas.Option.{slice_get_within}
use Rattle.rtm_deck_items.specs.declared.deck.Command.{Command}
use Rattle.rtm_deck_items.specs.declared.deck.Line.{Line}
use Rattle.rtm_deck_items.specs.declared.deck.Unit.{Unit as UnitCard}
use Rattle.rtm_deck_items.specs.declared.op.Op.{Op}
use Rattle.rtm_deck_items.specs.declared.op.Op.TheVariants as ops
use Rattle.rtm_deck_items.specs.View.{DeckView}
use Rattle.rtm_deck_items.specs.Reading.{is_task_card, lines_of, op_at, program_of}
use Rattle.rtm_deck_items.specs.WellFormed.{is_op, is_program, is_program_or_none, is_related, is_task_in, is_unit_of, is_well_formed}
use Rattle.rtm_deck_items.proofs.FormFacts.{Conditions, conditions}
use Rattle.rtm_deck_operands.specs.Name.{is_padded_name}
use Rattle.rtm_model.specs.declared.abort.Abort.{Abort}
use Rattle.rtm_model.specs.declared.block.Block.{Block}
use Rattle.rtm_model.specs.declared.block.Place.{Place}
use Rattle.rtm_model.specs.declared.entry.What.{What}
use Rattle.rtm_model.specs.declared.entry.What.TheVariants as whats
use Rattle.rtm_model.specs.declared.error_record.ErrorRecord.{ErrorRecord}
use Rattle.rtm_model.specs.declared.reg.Reg.{Reg}
use Rattle.rtm_model.specs.inner.Applies.{CanExecute, StandsAt}
use Rattle.rtm_model.specs.Births.{block_birth, new_estai}
use Rattle.rtm_model.specs.Posts.{post_related, post_step, post_to, step_abort, srb_abort, detach_abort, abterm_abort, cancel_abort, with_posted}
use Rattle.rtm_model.specs.OwnChange.{own_card, own_change, own_entry, place_after}
use Rattle.rtm_model.specs.Advance.{after_arrival, after_attach, beyond_card, with_unit}
use Rattle.rtm_model.specs.Blocks.{newest_bracket, place_in}
use Rattle.rtm_model.specs.Chains.{inherited_estais}
use Rattle.rtm_model.specs.Surroundings.{is_late}
use Rattle.rtm_model.specs.inner.Soundness.{IsBracket, IsCoreSound, IsPlace, IsSound}
use Rattle.rtm_model.specs.Tasks.{Tree, is_dormant, life_of}
use Rattle.rtm_model.specs.World.{Core, UnitOfWork, World, at_birth, core_at, on_unit, unborn_unit, unit_at}
use Rattle.rtm_model.proofs.Lists.{at_from_list_all, both_true}
use Rattle.rtm_model.proofs.Units.{unit_there}
pub use Rattle.rtm_model.proofs.Cards.{card_estais}
use Rattle.rtm_law_sound_units.proofs.CardKeeps.{CanCard, card_kept}
use Rattle.rtm_law_sound_units.proofs.EntryKeeps.{born_sound}
use Rattle.rtm_law_sound_units.proofs.Parts.{AreEstais, estais_later, estais_of, later}
use Rattle.rtm_law_sound_units.proofs.Places.{after_is_place, card_may_stand}
use Rattle.rtm_law_sound_units.proofs.RequestBlocks.{opened}
use Rattle.rtm_law_sound_units.proofs.Units.{EachUnit, on_each}

-- a unit's own control blocks are sound
abbrev pub HasSoundCore : DeckView → ℕ → UnitOfWork → Type 0
HasSoundCore d n unit = IsCoreSound d n unit.core

-- its ESTAI routines are
abbrev pub HasSoundEstais : DeckView → ℕ → UnitOfWork → Type 0
HasSoundEstais d n unit = AreEstais d n (Core.estais unit.core)

-- posts change no control blocks
pub posted_cores : (d : DeckView) (n v : ℕ) (abort : Abort) (w : World) → EachUnit (HasSoundCore d n) w.units → EachUnit (HasSoundCore d n) (World.units (post_to v abort w))
posted_cores d n v abort w h = on_each (HasSoundCore d n) w.units v (with_posted (is_late w v) abort) h (h v)

pub related_cores : (d : DeckView) (n m : ℕ) (o : Option ℕ) (r : Option ErrorRecord) (w : World) → EachUnit (HasSoundCore d n) w.units → EachUnit (HasSoundCore d n) (World.units (post_related m o r w))
related_cores d n m (Some task) (Some r) w h = posted_cores d n task (srb_abort m r) w h
related_cores d n m (Some task) None w h = h
related_cores d n m None r w h = h

step_if : (d : DeckView) (n job : ℕ) (abort : Abort) (b : Bool) (w : World) → EachUnit (HasSoundCore d n) w.units → EachUnit (HasSoundCore d n) (World.units (if b then post_to job abort w else w))
step_if d n job abort true w h = posted_cores d n job abort w h
step_if d n job abort false w h = h

pub step_cores : (d : DeckView) (n m : ℕ) (other : Bool) (job : ℕ) (r : Option ErrorRecord) (w : World) → EachUnit (HasSoundCore d n) w.units → EachUnit (HasSoundCore d n) (World.units (post_step m other job r w))
step_cores d n m other job (Some r) w h = step_if d n job (step_abort m r) (other && r.flags.step) w h
step_cores d n m other job None w h = h

pub arrived_cores : (d : DeckView) (n m u : ℕ) (o : Option Command) (w : World) → EachUnit (HasSoundCore d n) w.units → EachUnit (HasSoundCore d n) (World.units (after_arrival m u o w))
arrived_cores d n m u None w h = h
arrived_cores d n m u (Some command) w h =
    let after = post_to u (cancel_abort m command.dump) w in
    let p = posted_cores d n u (cancel_abort m command.dump) w h in
    on_each (HasSoundCore d n) (World.units after) u (λ unit. record unit { arrived = unit.arrived + 1 }) p (p u)

-- the program of a unit of a well formed deck is there
pub program_at : (d : DeckView) → IsTrue (list_all (is_unit_of d) d.units) → (u : ℕ) (p : UnitCard → Bool) (o : Option UnitCard) → slice_get d.units u ≡ o → IsTrue (option_map_or p o false) → option_map_or (λ card. card.prog) o 0 < length d.programs
program_at d h u p None e there = absurd cc
program_at d h u p (Some card) e there =
    let ab = both_true _ (is_related d card.kind card.related) (at_from_list_all (is_unit_of d) d.units u card h e) in
    ltb-true card.prog (length d.programs) (both_true (is_padded_name card.name) (is_program d card.prog) ab.0).1

pub in_units : (d : DeckView) (u : ℕ) (p : UnitCard → Bool) (o : Option UnitCard) → slice_get d.units u ≡ o → IsTrue (option_map_or p o false) → u < length d.units
in_units d u p None e there = absurd cc
in_units d u p (Some card) e there = slice_get_within d.units u card e

-- a unit that is born
own_routine : (d : DeckView) (n : ℕ) (term : Bool) (o : Option ℕ) (estais : List Reg) → IsTrue (is_program_or_none d o) → AreEstais d n estais → AreEstais d (n + 1) (inherited_estais (new_estai n term o) estais)
own_routine d n term None estais h e = estais_later d n (n + 1) estais (omega arith) e
own_routine d n term (Some prog) estais h e = record {
  each = (record { kind_is = refl; prog = ltb-true prog (length d.programs) h; depth = omega arith }, e.each);
  fall = (omega arith, omega arith, e.fall);
}

birth_cores : (d : DeckView) (n unit prog : ℕ) (estais : List Reg) (units : List UnitOfWork) → prog < length d.programs → AreEstais d (n + 1) estais → unit_at unit units ≡ unborn_unit → EachUnit (HasSoundCore d (n + 1)) units
    → EachUnit (HasSoundCore d (n + 1)) (on_unit unit (at_birth (block_birth n) prog estais) units)
birth_cores d n unit prog estais units h e fresh s =
    on_each (HasSoundCore d (n + 1)) units unit (at_birth (block_birth n) prog estais) s
    (subst (λ (x : UnitOfWork). HasSoundCore d (n + 1) (at_birth (block_birth n) prog estais x)) (sym fresh)
    (born_sound d (n + 1) (block_birth n) prog estais h (opened d n prog [] h (record { each = tt; births = tt })) e))

none : 1 ≤ length (newest_bracket (Core.blocks (UnitOfWork.core unborn_unit))) → ⊥
none h = omega arith

-- the unit of a card is another than a dormant one
pub still_unborn : (u unit : ℕ) (f : UnitOfWork → UnitOfWork) (units : List UnitOfWork) (b : Bool) → (unit == u) ≡ b → 1 ≤ length (newest_bracket (Core.blocks (UnitOfWork.core (unit_at u units)))) → unit_at unit units ≡ unborn_unit → unit_at unit (on_unit u f units) ≡ unborn_unit
still_unborn u unit f units true e some fresh =
    let same : unit ≡ u = eqb-true unit u e in
    absurd (none (subst (λ (x : UnitOfWork). 1 ≤ length (newest_bracket (Core.blocks (UnitOfWork.core x)))) (subst (λ (k : ℕ). unit_at k units ≡ unborn_unit) same fresh) some))
still_unborn u unit f units false e some fresh = rw (unit_there u unit f units (eqb-false unit u e)) fresh

-- a card that is executed, beyond its own unit
record Executes (d : DeckView) (n : ℕ) (w : World) (u rc : ℕ) (op : Op) (lines : List Line) (after : World) : Type 0 where
  pub form : IsTrue (is_well_formed d)
  pub fits : IsTrue (is_op d lines op)
  pub cores : EachUnit (HasSoundCore d (n + 1)) after.units
  pub estais : AreEstais d n (Core.estais (core_at u after))
  pub dormant : (unit : ℕ) → unit < length d.units → is_dormant (life_of unit (Tree.lives w.tree)) ≡ true → unit_at unit after.units ≡ unborn_unit

attach_if : (d : DeckView) (n : ℕ) (w : World) (u rc : ℕ) (unit : ℕ) (estai : Option ℕ) (term : Bool) (lines : List Line) (after : World) (b : Bool) → (rc == 0) ≡ b → Executes d n w u rc (ops.Attachx unit estai term) lines after
    → (rc ≡ 0 → is_dormant (life_of unit (Tree.lives w.tree)) ≡ true) → EachUnit (HasSoundCore d (n + 1)) (World.units (if b then after_attach d n u unit estai term after else after))
attach_if d n w u rc unit estai term lines after false e x can = x.cores
attach_if d n w u rc unit estai term lines after true e x can =
    let abc = both_true _ (is_some estai || not term) x.fits in
    let ab = both_true (is_task_in d unit) (is_program_or_none d estai) abc.0 in
    birth_cores d n unit (program_of d unit) (inherited_estais (new_estai n term estai) (Core.estais (core_at u after))) after.units (program_at d (Conditions.units (conditions d x.form)) unit is_task_card (slice_get d.units unit) refl ab.0)
    (own_routine d n term estai (Core.estais (core_at u after)) ab.1 x.estais) (x.dormant unit (in_units d unit is_task_card (slice_get d.units unit) refl ab.0) (can (eqb-true rc 0 e))) x.cores

schedule_if : (d : DeckView) (n : ℕ) (w : World) (u rc : ℕ) (unit : ℕ) (lines : List Line) (after : World) (b : Bool) → (rc == 0) ≡ b → Executes d n w u rc (ops.Schedule unit) lines after
    → (rc ≡ 0 → is_dormant (life_of unit (Tree.lives w.tree)) ≡ true) → EachUnit (HasSoundCore d (n + 1)) (World.units (if b then with_unit d n unit None [] after else after))
schedule_if d n w u rc unit lines after false e x can = x.cores
schedule_if d n w u rc unit lines after true e x can =
    birth_cores d n unit (program_of d unit) [] after.units (program_at d (Conditions.units (conditions d x.form)) unit (λ card. not (is_task_card card)) (slice_get d.units unit) refl x.fits)
    (record { each = tt; fall = tt }) (x.dormant unit (in_units d unit (λ card. not (is_task_card card)) (slice_get d.units unit) refl x.fits) (can (eqb-true rc 0 e))) x.cores

card_cores : (d : DeckView) (n : ℕ) (w : World) (u rc : ℕ) (op : Op) (lines : List Line) (after : World) → Executes d n w u rc op lines after → CanExecute w u rc op → EachUnit (HasSoundCore d (n + 1)) (World.units (beyond_card d n u rc op after))
card_cores d n w u rc (ops.Attachx unit estai term) lines after x can = attach_if d n w u rc unit estai term lines after (rc == 0) refl x can
card_cores d n w u rc (ops.Schedule unit) lines after x can = schedule_if d n w u rc unit lines after (rc == 0) refl x can
card_cores d n w u rc (ops.Detach unit stae) lines after x can = posted_cores d (n + 1) unit (detach_abort n stae) after x.cores
card_cores d n w u rc (ops.Abterm unit code reason dump retry) lines after x can = posted_cores d (n + 1) unit (abterm_abort n code reason dump retry) after x.cores
card_cores d n w u rc _ lines after x can = x.cores

-- and its own unit
own_can : (w : World) (u rc : ℕ) (op : Op) → CanExecute w u rc op → CanCard (core_at u w) op
own_can w u rc (ops.Link prog) h = h
own_can w u rc ops.Return h = h
own_can w u rc (ops.EstaexCt prog term cancel xctl) h = h
own_can w u rc (ops.FrrAdd prog) h = h
own_can w u rc _ h = tt

-- the world after an entry's change of its own unit
abbrev pub own_world : DeckView → World → ℕ → ℕ → What → World
own_world d w n u what = record w { units = on_unit u (own_change d n w.managers what) w.units }

pub all_later : (d : DeckView) (n : ℕ) (w : World) → EachUnit (HasSoundCore d n) w.units → EachUnit (HasSoundCore d (n + 1)) w.units
all_later d n w h v = later d n (core_at v w) (h v)

-- an entry whose change of its own unit keeps that one sound
pub own_cores : (d : DeckView) (n : ℕ) (w : World) (u : ℕ) (what : What) → EachUnit (HasSoundCore d n) w.units → IsCoreSound d (n + 1) (own_entry d n w.managers (UnitOfWork.pending (unit_at u w.units)) what (core_at u w))
    → EachUnit (HasSoundCore d (n + 1)) (World.units (own_world d w n u what))
own_cores d n w u what h new = on_each (HasSoundCore d (n + 1)) w.units u (own_change d n w.managers what) (all_later d n w h) new

-- an EXEC
place_by : (d : DeckView) (blocks : List (List Block)) → AllByRecursion (IsBracket d) blocks → 1 ≤ length (newest_bracket blocks) → IsPlace d (place_in blocks)
place_by d [] b some = absurd (omega arith)
place_by d ([] ∷ outer) b some = absurd (omega arith)
place_by d ((block ∷ blocks) ∷ outer) b some = b.0.places.0

pub place_of_block : (d : DeckView) (n : ℕ) (c : Core) → IsCoreSound d n c → 1 ≤ length (newest_bracket c.blocks) → IsPlace d (place_in c.blocks)
place_of_block d n c s some = place_by d c.blocks s.brackets some

exec_own : (d : DeckView) (n : ℕ) (w : World) (u rc : ℕ) (at : Place) → IsTrue (is_well_formed d) → IsSound d n w → StandsAt d (core_at u w) at → CanExecute w u rc (op_at d at.prog at.op)
    → IsCoreSound d (n + 1) (own_card n (place_after d at rc (op_at d at.prog at.op)) (op_at d at.prog at.op) (core_at u w))
exec_own d n w u rc at f s here can =
    let p = subst (λ (x : Place). IsPlace d x) (sym here.place) (place_of_block d n (core_at u w) (s.cores u) here.some) in
    card_kept d n (place_after d at rc (op_at d at.prog at.op)) (core_at u w) (lines_of d at.prog) (op_at d at.prog at.op) (s.cores u) here.some (card_may_stand d f at.prog at.op)
    (λ other. after_is_place d at rc p other) (own_can w u rc (op_at d at.prog at.op) can)

-- a unit that isn't the card's stays unborn
estais_after : (d : DeckView) (n : ℕ) (w : World) (u rc : ℕ) (at : Place) → IsSound d n w → AreEstais d n (Core.estais (core_at u (own_world d w n u (whats.Exec at rc))))
estais_after d n w u rc at s =
    on_each (HasSoundEstais d n) w.units u (own_change d n w.managers (whats.Exec at rc)) (λ v. estais_of d n (core_at v w) (s.cores v))
    (subst (λ (l : List Reg). AreEstais d n l) (sym (card_estais n (place_after d at rc (op_at d at.prog at.op)) (op_at d at.prog at.op) (core_at u w))) (estais_of d n (core_at u w) (s.cores u))) u

pub exec_cores : (d : DeckView) (n : ℕ) (w : World) (u rc : ℕ) (at : Place) → IsTrue (is_well_formed d) → IsSound d n w → StandsAt d (core_at u w) at → CanExecute w u rc (op_at d at.prog at.op)
    → EachUnit (HasSoundCore d (n + 1)) (World.units (beyond_card d n u rc (op_at d at.prog at.op) (own_world d w n u (whats.Exec at rc))))
exec_cores d n w u rc at f s here can =
    let after = own_world d w n u (whats.Exec at rc) in
    card_cores d n w u rc (op_at d at.prog at.op) (lines_of d at.prog) after
    (record {
      form = f;
      fits = card_may_stand d f at.prog at.op;
      cores = own_cores d n w u (whats.Exec at rc) s.cores (exec_own d n w u rc at f s here can);
      estais = estais_after d n w u rc at s;
      dormant = λ unit in_deck dormant. still_unborn u unit (own_change d n w.managers (whats.Exec at rc)) w.units (unit == u) refl here.some (s.dormant unit in_deck dormant);
    }) can
