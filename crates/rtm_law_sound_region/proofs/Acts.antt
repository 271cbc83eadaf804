-- What may follow is made by a unit that lives, or by the master; and the master adds no resource manager and
-- attaches no task, for it runs no card but in a manager's bracket.
use Rattle.std.proofs.Common.{◌≡◌, ℕ, zero, suc, ◌+◌, ◌-◌, ◌<◌, ◌≤◌, Bool, true, false, cond, not, List, [], ◌∷◌, length, Option, Some, None, inl, inr, refl, subst, arith, eqb-true}
use Rattle.std.proofs.lemmas.Bool.{and_parts, cases_lt, eqb-false, or_right}
use Rattle.std.specs.Prelude.{IfSome, IsTrue, is_none, is_some, position, ◌==◌}
use Rattle.rtm_codes.specs.declared.code.Code.{Code}
use Rattle.rtm_deck_items.specs.Reading.{op_at}
use Rattle.rtm_deck_items.specs.View.{DeckView}
use Rattle.rtm_deck_items.specs.WellFormed.{is_well_formed}
use Rattle.rtm_deck_items.specs.declared.op.Op.{Op}
use Rattle.rtm_deck_items.specs.declared.op.Op.TheVariants as ops
use Rattle.rtm_model.specs.declared.surroundings.Surroundings.{Surroundings}
use Rattle.rtm_model.specs.declared.block.Block.{Block}
use Rattle.rtm_model.specs.declared.block.Place.{Place}
use Rattle.rtm_model.specs.declared.entry.Entry.{Entry}
use Rattle.rtm_model.specs.declared.entry.What.{What}
use Rattle.rtm_model.specs.declared.entry.What.TheVariants as whats
use Rattle.rtm_model.specs.declared.error_record.ErrorRecord.{ErrorRecord}
use Rattle.rtm_model.specs.declared.holding.Holding.{Holding}
use Rattle.rtm_model.specs.declared.holding.Manager1.{Manager1}
use Rattle.rtm_model.specs.declared.outcome.Outcome.{Outcome}
use Rattle.rtm_model.specs.declared.outcome.Outcome.TheVariants.{Abends, Executed, Returns, Waits}
use Rattle.rtm_model.specs.declared.reg.Reg.{Reg}
use Rattle.rtm_model.specs.inner.Applies.{CanApply, CanMake}
use Rattle.rtm_model.specs.Advance.{advance}
use Rattle.rtm_model.specs.Blocks.{newest_block}
use Rattle.rtm_model.specs.Cards.{in_manager, manages, outcome, outcome_by, wrong_mode}
use Rattle.rtm_model.specs.Legal.{MayFollow}
use Rattle.rtm_model.specs.Levels.{Bracket, current, error_in, is_manager}
use Rattle.rtm_model.specs.NextEntry.{card_entry, card_entry_at, card_entry_by, eligible_routine, first_case, handling_of, is_outermost, last_return, manager_or, master_act, next, next_master, next_of_master, next_of_unit, next_unit, release_or}
use Rattle.rtm_model.specs.Surroundings.{surroundings}
use Rattle.rtm_model.specs.inner.Soundness.{AreNested, IsCoreSound, IsSound, OutermostQuiet, StandsIn}
use Rattle.rtm_model.specs.Tasks.{Tree, is_living}
use Rattle.rtm_model.specs.World.{Core, World, core_at, lives_in, master}
use Rattle.rtm_law_sound_region.proofs.Beyond.{AddsManagers, AddsToTask}
use Rattle.rtm_law_sound_region.proofs.Region.{CanAct, RegionIsSound, region_kept}

-- A unit that lives

-- what a test lets through was let through
let_through : (b : Bool) (o : Option What) (what : What) → cond b o None ≡ Some what → b ≡ true
let_through true o what e = refl
let_through false o what e = absurd cc

unit_lives : (d : DeckView) (w : World) (u : ℕ) (memory_end : Option Code) (what : What) → next_of_unit d w u memory_end ≡ Some what → lives_in w u ≡ true
unit_lives d w u None what e = let_through (lives_in w u) (next_unit d (core_at u w) (surroundings d w u)) what e
unit_lives d w u (Some code) what e = absurd cc

next_lives_if : (b : Bool) (d : DeckView) (w : World) (u : ℕ) (what : What) → (u == master d) ≡ b → cond b (next_of_master d w w.memory_end) (next_of_unit d w u w.memory_end) ≡ Some what
    → u < length d.units → lives_in w u ≡ true
next_lives_if true d w u what e h lt = absurd (let same : u ≡ length d.units = eqb-true u (length d.units) e in omega arith)
next_lives_if false d w u what e h lt = unit_lives d w u w.memory_end what h

next_lives : (d : DeckView) (w : World) (u : ℕ) (what : What) → next d w u ≡ Some what → u < length d.units → lives_in w u ≡ true
next_lives d w u what h lt = next_lives_if (u == master d) d w u what refl h lt

lives_by : (d : DeckView) (w : World) (n : ℕ) (e : Entry) (what : What) → MayFollow d w n e what → CanMake d w e.unit what → e.unit < length d.units → lives_in w e.unit ≡ true
lives_by d w n e (whats.Arrive cmd _) h can lt = (and_parts (lives_in w e.unit) (is_none (Core.begun (core_at e.unit w))) can.0).0
lives_by d w n e _ h can lt = next_lives d w e.unit _ h lt

-- Cards of a manager's bracket

-- the card adds no manager, and attaches no task
abbrev AddsNone : Op → Type 0
AddsNone (ops.MgrAdd prog space) = ⊥
AddsNone (ops.Attachx unit estai term) = ⊥
AddsNone _ = Unit {0}

abbrev AddsNoManager : DeckView → What → Type 0
AddsNoManager d (whats.Exec at rc) = AddsNone (op_at d at.prog at.op)
AddsNoManager d _ = Unit {0}

wrong_if : (task manager : Bool) (rest : Option Code) (o : Outcome) (rc : ℕ) → manager ≡ true → outcome_by (cond task (Some wrong_mode) (cond manager (Some wrong_mode) rest)) o ≡ Executed rc → ⊥
wrong_if true manager rest o rc h e = absurd cc
wrong_if false true rest o rc h e = absurd cc
wrong_if false false rest o rc h e = absurd cc

-- in a manager's bracket RESMGR ADD and ATTACHX are errors
executed : (c : Core) (a : Surroundings) (op : Op) (rc : ℕ) → in_manager c.levels ≡ true → outcome c a op ≡ Executed rc → AddsNone op
executed c a (ops.MgrAdd prog space) rc h e = wrong_if _ (in_manager c.levels) _ _ rc h e
executed c a (ops.Attachx unit estai term) rc h e = wrong_if _ (in_manager c.levels) _ _ rc h e
executed c a _ rc h e = tt

returned_adds : (d : DeckView) (c : Core) (a : Surroundings) (o : Option Reg) → AddsNoManager d (last_return d c a o)
returned_adds d c a None = tt
returned_adds d c a (Some reg) = tt

carded_by_adds : (d : DeckView) (c : Core) (a : Surroundings) (place : Place) (o : Outcome) → in_manager c.levels ≡ true → outcome c a (op_at d place.prog place.op) ≡ o
    → IfSome (card_entry_by d c a place o) (AddsNoManager d)
carded_by_adds d c a place (Executed rc) h e = executed c a (op_at d place.prog place.op) rc h e
carded_by_adds d c a place (Abends code reason dump step) h e = tt
carded_by_adds d c a place Waits h e = tt
carded_by_adds d c a place Returns h e = returned_adds d c a (current c.levels)

carded_at_adds : (d : DeckView) (c : Core) (a : Surroundings) (o : Option Block) → in_manager c.levels ≡ true → IfSome (card_entry_at d c a o) (AddsNoManager d)
carded_at_adds d c a None h = tt
carded_at_adds d c a (Some block) h = carded_by_adds d c a block.place (outcome c a (op_at d (Place.prog block.place) (Place.op block.place))) h refl

-- The master's next entry

handled_adds : (d : DeckView) (sdwa : Bool) (r : ErrorRecord) (routine own : Option Reg) → AddsNoManager d (handling_of sdwa r routine own)
handled_adds d sdwa r (Some reg) own = tt
handled_adds d sdwa r None (Some own) = tt
handled_adds d sdwa r None None = tt

released_adds : (d : DeckView) (code : Code) (manager : Option Manager1) (holding : Option Holding) → AddsNoManager d (manager_or code manager (release_or holding whats.MemEnd))
released_adds d code (Some manager) holding = tt
released_adds d code None (Some holding) = tt
released_adds d code None None = tt

act_adds : (d : DeckView) (code : Code) (living : Option ℕ) (a : Surroundings) → AddsNoManager d (master_act code living a)
act_adds d code (Some unit) a = tt
act_adds d code None a = released_adds d code a.manager a.holding

going_adds : (b : Bool) (d : DeckView) (c : Core) (a : Surroundings) (code : Code) (living : Option ℕ) → (b ≡ false → in_manager c.levels ≡ true)
    → IfSome (cond b (Some (master_act code living a)) (card_entry d c a)) (AddsNoManager d)
going_adds true d c a code living h = act_adds d code living a
going_adds false d c a code living h = carded_at_adds d c a (newest_block c.blocks) (h refl)

first_adds : (d : DeckView) (sdwa : Bool) (c : Core) (error : Option ErrorRecord) (rest : Option What) → IfSome rest (AddsNoManager d) → IfSome (first_case sdwa c error None rest) (AddsNoManager d)
first_adds d sdwa c (Some r) rest h = handled_adds d sdwa r (eligible_routine c r) (current c.levels)
first_adds d sdwa c None rest h = h

master_adds : (d : DeckView) (c : Core) (a : Surroundings) (code : Code) (living : Option ℕ) → (is_outermost c.levels ≡ false → in_manager c.levels ≡ true)
    → IfSome (next_master d c a code living) (AddsNoManager d)
master_adds d c a code living h = first_adds d d.sdwa c (error_in c.levels) _ (going_adds (is_outermost c.levels) d c a code living h)

-- The master's brackets

-- the outermost bracket that is a routine's is a manager's, where no error is open in the outermost bracket
outer_manager : (manager : Bool) (error : Option ErrorRecord) → is_some error ≡ not manager → error ≡ None → manager ≡ true
outer_manager true error h e = refl
outer_manager false None h e = absurd cc
outer_manager false (Some r) h e = absurd cc

enters_manager : (o : Option Reg) (outer : Bracket) → StandsIn o (Some outer) → outer.error ≡ None → manages o ≡ true
enters_manager None outer h e = absurd h
enters_manager (Some reg) outer h e = outer_manager (is_manager reg.kind) outer.error h e

in_manager_at : (l : Bracket) (ls : List Bracket) → AreNested (l ∷ ls) → OutermostQuiet (l ∷ ls) → 1 ≤ length ls → in_manager (l ∷ ls) ≡ true
in_manager_at l [] nested quiet some = absurd (omega arith)
in_manager_at l (k ∷ []) nested quiet some = rw (enters_manager l.routine k nested.0 quiet) refl
in_manager_at l (k ∷ j ∷ ls) nested quiet some = or_right (manages l.routine) (in_manager (k ∷ j ∷ ls)) (in_manager_at k (j ∷ ls) nested.1 quiet (omega arith))

deeper : (n : ℕ) → (suc n - 1 == 0) ≡ false → 1 ≤ n
deeper zero e = absurd cc
deeper (suc n) e = omega arith

in_manager_in : (ls : List Bracket) → AreNested ls → OutermostQuiet ls → is_outermost ls ≡ false → in_manager ls ≡ true
in_manager_in [] nested quiet deep = absurd cc
in_manager_in (l ∷ ls) nested quiet deep = in_manager_at l ls nested quiet (deeper (length ls) deep)

master_manages : (d : DeckView) (n : ℕ) (w : World) → IsSound d n w → is_outermost (Core.levels (core_at (master d) w)) ≡ false
    → in_manager (Core.levels (core_at (master d) w)) ≡ true
master_manages d n w s deep =
    in_manager_in (Core.levels (core_at (master d) w)) (IsCoreSound.nested (s.cores (master d))) s.master_quiet deep

-- What it may add

over_adds : (over : Bool) (d : DeckView) (w : World) (code : Code) → (is_outermost (Core.levels (core_at (master d) w)) ≡ false → in_manager (Core.levels (core_at (master d) w)) ≡ true)
    → IfSome (cond over None (next_master d (core_at (master d) w) (surroundings d w (master d)) code (position is_living (Tree.lives w.tree)))) (AddsNoManager d)
over_adds true d w code h = tt
over_adds false d w code h = master_adds d (core_at (master d) w) (surroundings d w (master d)) code (position is_living (Tree.lives w.tree)) h

of_master : (d : DeckView) (n : ℕ) (w : World) (memory_end : Option Code) → IsSound d n w → IfSome (next_of_master d w memory_end) (AddsNoManager d)
of_master d n w None s = tt
of_master d n w (Some code) s = over_adds w.over d w code (master_manages d n w s)

next_adds_if : (b : Bool) (d : DeckView) (n : ℕ) (w : World) (u : ℕ) → (u == master d) ≡ b → IsSound d n w → length d.units ≤ u → u ≤ length d.units
    → IfSome (cond b (next_of_master d w w.memory_end) (next_of_unit d w u w.memory_end)) (AddsNoManager d)
next_adds_if true d n w u e s ge le = of_master d n w w.memory_end s
next_adds_if false d n w u e s ge le = absurd (eqb-false u (length d.units) e (omega arith))

next_adds : (d : DeckView) (n : ℕ) (w : World) (u : ℕ) (what : What) → next d w u ≡ Some what → IsSound d n w → length d.units ≤ u → u ≤ length d.units
    → AddsNoManager d what
next_adds d n w u what e s ge le =
    subst (λ (x : Option What). IfSome x (AddsNoManager d)) e (next_adds_if (u == master d) d n w u refl s ge le)

card_adds : (d : DeckView) (u : ℕ) (op : Op) → AddsNone op → AddsToTask d u op
card_adds d u (ops.MgrAdd prog space) h = absurd h
card_adds d u (ops.Attachx unit estai term) h = absurd h
card_adds d u _ h = tt

card_below : (d : DeckView) (u : ℕ) (op : Op) → u < length d.units → AddsToTask d u op
card_below d u (ops.MgrAdd prog space) lt = lt
card_below d u (ops.Attachx unit estai term) lt = lt
card_below d u _ lt = tt

adds_by : (d : DeckView) (w : World) (n : ℕ) (e : Entry) (what : What) → MayFollow d w n e what → IsSound d n w → e.unit ≤ length d.units → AddsManagers d e.unit what
adds_by d w n e (whats.Exec at rc) h s le = elim (cases_lt e.unit (length d.units)) [
  | inl lt ↦ card_below d e.unit (op_at d at.prog at.op) lt
  | inr ge ↦ card_adds d e.unit (op_at d at.prog at.op) (next_adds d n w e.unit (whats.Exec at rc) h s ge le)
]
adds_by d w n e _ h s le = tt

-- an entry that may follow, and can be applied, has what it needs besides
pub can_act : (d : DeckView) (n : ℕ) (w : World) (e : Entry) → IsSound d n w → CanApply d w e → MayFollow d w n e e.what → CanAct d w e
can_act d n w e s can h = record {
  lives = lives_by d w n e e.what h can.what;
  adds = adds_by d w n e e.what h s can.unit;
}

-- so such an entry keeps what all units share
pub region_follows : (d : DeckView) (n : ℕ) (w : World) (e : Entry) → IsTrue (is_well_formed d) → IsSound d n w → CanApply d w e → MayFollow d w n e e.what
    → RegionIsSound d (n + 1) (advance d w n e)
region_follows d n w e h s can follows = region_kept d n w e h s can (can_act d n w e s can follows)
