-- Every unit's own control blocks are sound after any entry that can be applied, and before the first.
use Rattle.std.proofs.Common.{◌≡◌, ℕ, zero, suc, ◌+◌, ◌<◌, ◌≤◌, Bool, true, false, cond, List, [], ◌∷◌, ◌++◌, length, map, Option, Some, None, refl, sym, subst, arith}
use Rattle.std.specs.Prelude.{IfSome, IsSome, IsSomeAnd, IsTrue, find, if◌then◌else◌, is_none, is_some, not, position, slice_get, unwrap_or, nat_lt, ◌==◌, ◌&&◌, ◌||◌}
use Rattle.std.specs.List.{AllByRecursion, list_any}
use Rattle.std.specs.Option.{option_map, option_map_or}
use Rattle.std.proofs.lemmas.Bool.{lt-ltb}
use Rattle.std.proofs.lemmas.List.Quantifiers.{position-Some}
use Rattle.std.proofs.lemmas.Option.{slice_get-get_or}
use Rattle.std.specs.List.{position_or_len}
use Rattle.rtm_deck_items.specs.declared.deck.UnitKind.TheVariants.{Task}
use Rattle.rtm_codes.specs.declared.code.Code.{Code}
use Rattle.rtm_deck_items.specs.declared.deck.Unit.{Unit as UnitCard}
use Rattle.rtm_deck_items.specs.View.{DeckView}
use Rattle.rtm_deck_items.specs.Reading.{is_task_card, job_step, op_at, program_of}
use Rattle.rtm_deck_items.specs.WellFormed.{is_well_formed}
use Rattle.rtm_deck_items.proofs.FormFacts.{Conditions, conditions}
use Rattle.rtm_model.specs.declared.abort.Abort.{Abort}
use Rattle.rtm_model.specs.declared.block.Block.{Block}
use Rattle.rtm_model.specs.declared.block.Place.{Place}
use Rattle.rtm_model.specs.declared.entry.Class.{Class}
use Rattle.rtm_model.specs.declared.entry.Entry.{Entry}
use Rattle.rtm_model.specs.declared.entry.What.{What}
use Rattle.rtm_model.specs.declared.entry.What.TheVariants as whats
use Rattle.rtm_model.specs.declared.error_record.ErrorRecord.{ErrorRecord}
use Rattle.rtm_model.specs.declared.holding.Manager1.{Manager1}
use Rattle.rtm_model.specs.declared.mark.Mark.{Mark}
use Rattle.rtm_model.specs.declared.reg.Kind.{Kind}
use Rattle.rtm_model.specs.declared.reg.Kind.TheVariants.{Estae, Estai, Frr, Mgr}
use Rattle.rtm_model.specs.declared.reg.Reg.{Reg}
use Rattle.rtm_model.specs.Aborts.{abort_named, first_abort}
use Rattle.rtm_model.specs.inner.Applies.{CanApply, CanEnter, CanMake}
use Rattle.rtm_model.specs.Births.{manager_routine}
use Rattle.rtm_model.specs.Posts.{post_related, mother_abort}
use Rattle.rtm_model.specs.OwnChange.{routine_born_at, with_routine_entered, error_record, own_entry, asks_dump, asks_step, routine_named, with_landed}
use Rattle.rtm_model.specs.Advance.{advance, beyond, after_done, after_purge, purged_core, cause_of, without_living}
use Rattle.rtm_model.specs.Blocks.{newest_bracket, with_bracket}
use Rattle.rtm_model.specs.Levels.{depth_in, error_in, is_manager}
use Rattle.rtm_model.specs.NextEntry.{landed_record}
use Rattle.rtm_model.specs.Record.{mark_of}
use Rattle.rtm_model.specs.inner.Soundness.{ArePending, IsAbort, IsCoreSound, IsSound, ManagersFall, RoutinesFall}
use Rattle.rtm_model.specs.Tasks.{Tree}
use Rattle.rtm_model.specs.World.{Beginning, Core, UnitOfWork, World, at_birth, core_at, lives_in, related_task, start, unborn_unit, unit_at}
use Rattle.rtm_model.proofs.Landing.{named_first}
use Rattle.rtm_law_sound_units.proofs.CoresKeep.{HasSoundCore, arrived_cores, exec_cores, own_cores, own_world, program_at, related_cores, step_cores}
use Rattle.rtm_law_sound_units.proofs.EntryKeeps.{born_sound, ending_kept, entered_kept, error_kept, landed_kept, purged_kept, unborn_sound}
use Rattle.rtm_law_sound_units.proofs.LeaveKeeps.{left_kept}
use Rattle.rtm_model.proofs.Lists.{all_by}
use Rattle.rtm_law_sound_units.proofs.Lists.{all_found, some_by}
use Rattle.rtm_law_sound_units.proofs.Parts.{later}
use Rattle.rtm_law_sound_units.proofs.Places.{first_is_place}
use Rattle.rtm_law_sound_units.proofs.Records.{card_error}
use Rattle.rtm_law_sound_units.proofs.RequestBlocks.{AreBrackets}
use Rattle.rtm_law_sound_units.proofs.Units.{EachUnit, on_each, posted_each}

-- what was born before that entry
since : (n k : ℕ) (regs : List Reg) → RoutinesFall n k regs → AllByRecursion (λ (reg : Reg). reg.born < n) regs
since n k [] f = tt
since n k (reg ∷ regs) f = (f.0, all_by (λ (r : Reg). r.born < reg.born) (λ (r : Reg). r.born < n) (λ r h. omega arith) regs (since reg.born reg.depth regs f.2))

managers_since : (n : ℕ) (managers : List Manager1) → ManagersFall n managers → AllByRecursion (λ (m : Manager1). m.born < n) managers
managers_since n [] f = tt
managers_since n (m ∷ managers) f = (f.0, all_by (λ (r : Manager1). r.born < m.born) (λ (r : Manager1). r.born < n) (λ r h. omega arith) managers (managers_since m.born managers f.1))

found_since : (n born k : ℕ) (regs : List Reg) → RoutinesFall n k regs → IfSome (routine_born_at born regs) (λ reg. reg.born < n)
found_since n born k regs f =
    some_by (λ (reg : Reg). (reg.born < n) × ((reg.born == born) ≡ true)) (λ (reg : Reg). reg.born < n) (λ reg h. h.0) (routine_born_at born regs)
    (all_found (λ (reg : Reg). reg.born < n) (λ reg. reg.born == born) regs (since n k regs f))

manager_found : (n : ℕ) (o : Option Manager1) → IfSome o (λ m. (m.born < n) × Unit {0}) → IfSome (option_map manager_routine o) (λ reg. reg.born < n)
manager_found n None h = tt
manager_found n (Some m) h = h.0

manager_since : (n born : ℕ) (managers : List Manager1) → ManagersFall n managers → IfSome (option_map manager_routine (find (λ m. m.born == born) managers)) (λ reg. reg.born < n)
manager_since n born managers f =
    manager_found n (find (λ m. m.born == born) managers)
    (some_by (λ (m : Manager1). (m.born < n) × ((m.born == born) ≡ true)) (λ (m : Manager1). (m.born < n) × Unit {0}) (λ m h. (h.0, tt)) (find (λ m. m.born == born) managers)
    (all_found (λ (m : Manager1). m.born < n) (λ m. m.born == born) managers (managers_since n managers f)))

pub named_since : (d : DeckView) (n born : ℕ) (kind : Kind) (managers : List Manager1) (c : Core) → ManagersFall n managers → IsCoreSound d n c → IfSome (routine_named kind born managers c) (λ reg. reg.born < n)
named_since d n born Frr managers c f s = found_since n born (depth_in c.levels) c.frrs s.frrs_fall
named_since d n born Estae managers c f s = found_since n born (depth_in c.levels) c.estaes s.estaes_fall
named_since d n born Estai managers c f s = found_since n born 0 c.estais s.estais_fall
named_since d n born Mgr managers c f s = manager_since n born managers f

-- ENTER
enter_by : (d : DeckView) (n : ℕ) (kind : Kind) (born : ℕ) (bare : Bool) (o : Option Reg) (c : Core) → IfSome o (λ reg. reg.born < n)
    → IsSomeAnd o (λ routine. (routine.kind ≡ kind) × (routine.born ≡ born) × CanEnter c (is_manager kind) routine.prog (length d.programs))
    → IsCoreSound d n c → IsCoreSound d (n + 1) (with_routine_entered n bare o c)
enter_by d n kind born bare None c early can s = absurd can
enter_by d n kind born bare (Some reg) c early can s =
    let e = can.2 in
    entered_kept d n reg bare c e.shallow (subst (λ (k : Kind). is_some (error_in c.levels) ≡ not (is_manager k)) (sym can.0) e.cause) e.prog_in (omega arith) s

-- LAND
land_by : (d : DeckView) (n : ℕ) (class : Class) (from : ℕ) (mark : Mark) (pending : List Abort) (c : Core) → AllByRecursion (IsAbort n) pending
    → IsSomeAnd (first_abort pending) (λ abort. (abort.class ≡ class) × (abort.from ≡ from) × (mark ≡ mark_of (landed_record abort)))
    → (IsSome c.begun → ⊥) → IsCoreSound d n c → IsCoreSound d n (with_landed (abort_named class from pending) c)
land_by d n class from mark [] c each can stands s = absurd can
land_by d n class from mark (abort ∷ pending) c each can stands s =
    subst (λ (o : Option Abort). IsCoreSound d n (with_landed o c)) (sym (named_first class from (λ abort. mark ≡ mark_of (landed_record abort)) (abort ∷ pending) can)) (landed_kept d n n abort c each.0 stands s)

-- a unit that stands hasn't begun to end
stands_begun : (lives : Bool) (begun : Option Beginning) → (lives && is_none begun) ≡ true → IsSome begun → ⊥
stands_begun true None h b = cc
stands_begun true (Some x) h b = cc
stands_begun false begun h b = cc

-- one that has begun to end has a request block in inner brackets alone
inner_by : (blocks levels : ℕ) (lives : Bool) (begun : Option Beginning) → blocks + (if lives && is_none begun then 0 else 1) ≡ levels → 1 ≤ blocks → IsSome begun → 2 ≤ levels
inner_by blocks levels lives None e some b = absurd cc
inner_by blocks levels true (Some x) e some b = omega arith
inner_by blocks levels false (Some x) e some b = omega arith

has_bracket : (brackets : List (List Block)) → 1 ≤ length (newest_bracket brackets) → 1 ≤ length brackets
has_bracket [] h = absurd (omega arith)
has_bracket (blocks ∷ outer) h = omega arith

-- an entry's change of its own unit, but for a card's
own_kept : (d : DeckView) (n : ℕ) (w : World) (u : ℕ) (what : What) → IsSound d n w → CanMake d w u what
    → ((at : Place) (rc : ℕ) → what ≡ whats.Exec at rc → ⊥)
    → IsCoreSound d (n + 1) (own_entry d n w.managers (UnitOfWork.pending (unit_at u w.units)) what (core_at u w))
own_kept d n w u (whats.Exec at rc) s can other = absurd (other at rc refl)
own_kept d n w u (whats.Error at mark) s can other =
    let op = op_at d at.prog at.op in
    error_kept d (n + 1) (error_record (Core.doomed (core_at u w)) mark op) (core_at u w) (card_error (Core.doomed (core_at u w)) mark.code mark.reason (asks_dump op) (asks_step op) can.1.code can.1.reason)
    (λ b. inner_by (length (Core.blocks (core_at u w))) (length (Core.levels (core_at u w))) (lives_in w u) (Core.begun (core_at u w)) (s.blocks u) (has_bracket (Core.blocks (core_at u w)) can.0.some) b) (later d n (core_at u w) (s.cores u))
own_kept d n w u (whats.Land class from mark) s can other =
    later d n _ (land_by d n class from mark (UnitOfWork.pending (unit_at u w.units)) (core_at u w) (ArePending.each (s.pending u)) can.2 (λ b. stands_begun (lives_in w u) (Core.begun (core_at u w)) can.0 b) (s.cores u))
own_kept d n w u (whats.Enter kind reg mark bare) s can other =
    enter_by d n kind reg bare (routine_named kind reg w.managers (core_at u w)) (core_at u w) (named_since d n reg kind w.managers (core_at u w) s.managers_fall (s.cores u)) can.0 (s.cores u)
own_kept d n w u (whats.Leave kind reg verdict logrec dump) s can other =
    left_kept d (n + 1) kind reg verdict (core_at u w) can.inner can.retries (later d n (core_at u w) (s.cores u))
own_kept d n w u (whats.Begin code dump) s can other = ending_kept d (n + 1) code (core_at u w) can.2 (later d n (core_at u w) (s.cores u))
own_kept d n w u _ s can other = later d n (core_at u w) (s.cores u)

-- all units after an entry
abbrev CoresAfter : DeckView → ℕ → World → ℕ → What → Type 0
CoresAfter d n w u what = EachUnit (HasSoundCore d (n + 1)) (World.units (beyond d n u what (own_world d w n u what)))

purge_cores : (d : DeckView) (n unit : ℕ) (w : World) → EachUnit (HasSoundCore d n) w.units → EachUnit (HasSoundCore d n) (World.units (after_purge unit w))
purge_cores d n unit w h = on_each (HasSoundCore d n) w.units unit (λ unit. record unit { core = purged_core unit.core; pending = [] }) h (purged_kept d n (core_at unit w) (h unit))

ended_cores : (d : DeckView) (n m u : ℕ) (code : Code) (cause : Option ErrorRecord) (w : World) → EachUnit (HasSoundCore d n) w.units → EachUnit (HasSoundCore d n) (World.units (after_done d m u code cause w))
ended_cores d n m u code cause w h =
    step_cores d n m (not (u == job_step d)) (job_step d) cause (post_related m (related_task d u) cause (without_living u code (u == job_step d) w))
    (related_cores d n m (related_task d u) cause (without_living u code (u == job_step d) w) h)

what_cores : (d : DeckView) (n : ℕ) (w : World) (u : ℕ) (what : What) → IsTrue (is_well_formed d) → IsSound d n w → CanMake d w u what → CoresAfter d n w u what
what_cores d n w u (whats.Exec at rc) f s can = exec_cores d n w u rc at f s can.0 can.1
what_cores d n w u (whats.Arrive cmd at_target) f s can =
    arrived_cores d (n + 1) n u (slice_get d.commands cmd) (own_world d w n u (whats.Arrive cmd at_target))
    (own_cores d n w u (whats.Arrive cmd at_target) s.cores (own_kept d n w u (whats.Arrive cmd at_target) s can (λ x y e. cc)))
what_cores d n w u (whats.Begin code dump) f s can =
    let after = own_world d w n u (whats.Begin code dump) in
    posted_each (HasSoundCore d (n + 1)) u (mother_abort n) (λ late unit h. h) (unborn_sound d (n + 1)) (Tree.lives w.tree) (World.units after)
    (own_cores d n w u (whats.Begin code dump) s.cores (own_kept d n w u (whats.Begin code dump) s can (λ x y e. cc)))
what_cores d n w u (whats.Done code to_task to_step) f s can =
    let after = own_world d w n u (whats.Done code to_task to_step) in
    ended_cores d (n + 1) n u code (cause_of (Core.begun (core_at u after))) after
    (own_cores d n w u (whats.Done code to_task to_step) s.cores (own_kept d n w u (whats.Done code to_task to_step) s can (λ x y e. cc)))
what_cores d n w u (whats.Purge unit) f s can =
    purge_cores d (n + 1) unit (own_world d w n u (whats.Purge unit)) (own_cores d n w u (whats.Purge unit) s.cores (own_kept d n w u (whats.Purge unit) s can (λ x y e. cc)))
what_cores d n w u what f s can = own_cores d n w u what s.cores (own_kept d n w u what s can (λ x y e. cc))

-- every unit's own control blocks after an entry that can be applied
pub cores_kept : (d : DeckView) (n : ℕ) (w : World) (e : Entry) → IsTrue (is_well_formed d) → IsSound d n w → CanApply d w e → (u : ℕ) → IsCoreSound d (n + 1) (core_at u (advance d w n e))
cores_kept d n w e f s can = what_cores d n w e.unit e.what f s can.what

-- before the first entry
unborn_at : (units : List UnitCard) (u : ℕ) → unit_at u (map (λ unit. unborn_unit) units ++ unborn_unit ∷ []) ≡ unborn_unit
unborn_at [] zero = refl
unborn_at [] (suc u) = refl
unborn_at (unit ∷ units) zero = refl
unborn_at (unit ∷ units) (suc u) = unborn_at units u

first_bracket : (d : DeckView) (prog : ℕ) → prog < length d.programs → AreBrackets d 0 (with_bracket 0 prog [])
first_bracket d prog h = record { each = (record { some = omega arith; few = omega arith; places = (first_is_place d prog h, tt) }, tt); births = ((omega arith, tt), tt) }

any_if : (b c : Bool) (k n : ℕ) → IsTrue (b || c) → (IsTrue c → k < n) → cond (not b) (1 + k) 0 < suc n
any_if true c k n h more = omega arith
any_if false c k n h more = omega (arith, more h)

any_within : {X : Type 0} (p : X → Bool) (xs : List X) → IsTrue (list_any p xs) → position_or_len p xs < length xs
any_within p [] h = absurd cc
any_within p (x ∷ xs) h = any_if (p x) (list_any p xs) (position_or_len p xs) (length xs) h (any_within p xs)

some_none : (b : Bool) (k : ℕ) → b ≡ true → cond b (Some k) None ≡ None → ⊥
some_none true k e f = cc
some_none false k e f = cc

no_unit : UnitCard
no_unit = record { name = []; kind = Task; prog = 0; related = None }

job_by : (units : List UnitCard) (o : Option ℕ) → position is_task_card units ≡ o → IsTrue (list_any is_task_card units) → IsTrue (option_map_or is_task_card (slice_get units (unwrap_or o 0)) false)
job_by units None e h = absurd (some_none (nat_lt (position_or_len is_task_card units) (length units)) (position_or_len is_task_card units) (lt-ltb _ _ (any_within is_task_card units h)) e)
job_by units (Some i) e h =
    let at = position-Some is_task_card units i no_unit e in
    subst (λ (o : Option UnitCard). IsTrue (option_map_or is_task_card o false)) (sym (slice_get-get_or units i no_unit at.0)) at.1

pub cores_at_start : (d : DeckView) → IsTrue (is_well_formed d) → (u : ℕ) → IsCoreSound d 0 (core_at u (start d))
cores_at_start d f =
    let units = map (λ unit. unborn_unit) d.units ++ unborn_unit ∷ [] in
    let prog = program_of d (job_step d) in
    let there = program_at d (Conditions.units (conditions d f)) (job_step d) is_task_card (slice_get d.units (job_step d)) refl (job_by d.units (position is_task_card d.units) refl (Conditions.task (conditions d f))) in
    on_each (HasSoundCore d 0) units (job_step d) (at_birth 0 prog [])
    (λ u. subst (HasSoundCore d 0) (sym (unborn_at d.units u)) (unborn_sound d 0))
    (subst (λ (x : UnitOfWork). HasSoundCore d 0 (at_birth 0 prog [] x)) (sym (unborn_at d.units (job_step d)))
    (born_sound d 0 0 prog [] there (first_bracket d prog there) (record { each = tt; fall = tt })))
