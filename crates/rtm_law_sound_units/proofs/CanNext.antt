-- What a unit makes next can be applied, and so can the arrival of a command.
use Rattle.std.proofs.Common.{◌≡◌, ℕ, zero, suc, ◌+◌, ◌-◌, ◌<◌, ◌≤◌, Bool, true, false, List, [], ◌∷◌, length, map, Option, Some, None, refl, sym, subst, ap, ◌∙◌, arith}
use Rattle.std.specs.Prelude.{IfSome, IsSome, IsSomeAnd, IsTrue, find, fold, if◌then◌else◌, is_none, is_some, nat_le, nat_lt, not, position, slice_get, ◌==◌, ◌&&◌, ◌||◌}
use Rattle.std.specs.List.{AllByRecursion}
use Rattle.std.specs.Option.{option_and_then, option_map, option_map_or, option_or}
use Rattle.std.proofs.lemmas.Bool.{eqb-false, eqb-true}
use Rattle.std.proofs.lemmas.Option.{slice_get_within}
use Rattle.std.proofs.lemmas.List.Quantifiers.{position-Some}
use Rattle.rtm_codes.specs.declared.code.Code.{Code}
use Rattle.rtm_codes.specs.Code.{IsInRange}
use Rattle.rtm_deck_items.specs.declared.deck.Command.{Command}
use Rattle.rtm_deck_items.specs.View.{DeckView}
use Rattle.rtm_deck_items.specs.Reading.{label_at, lines_of, op_at}
use Rattle.rtm_deck_items.specs.WellFormed.{is_well_formed}
use Rattle.rtm_deck_operands.specs.declared.value.Res.{Res}
use Rattle.rtm_deck_operands.specs.declared.value.Res.TheVariants.{Dsn, Enq, Stor, Timr}
use Rattle.rtm_model.specs.declared.abort.Abort.{Abort}
use Rattle.rtm_model.specs.declared.surroundings.Surroundings.{Surroundings}
use Rattle.rtm_model.specs.declared.block.Block.{Block}
use Rattle.rtm_model.specs.declared.block.Place.{Place}
use Rattle.rtm_model.specs.declared.entry.Entry.{Entry}
use Rattle.rtm_model.specs.declared.entry.Fate.{Fate}
use Rattle.rtm_model.specs.declared.entry.Verdict.TheVariants as verdicts
use Rattle.rtm_model.specs.declared.entry.What.{What}
use Rattle.rtm_model.specs.declared.entry.What.TheVariants as whats
use Rattle.rtm_model.specs.declared.error_record.ErrorRecord.{ErrorRecord}
use Rattle.rtm_model.specs.declared.holding.Holding.{Holding}
use Rattle.rtm_model.specs.declared.holding.Manager1.{Manager1}
use Rattle.rtm_model.specs.declared.outcome.Outcome.{Outcome}
use Rattle.rtm_model.specs.declared.outcome.Outcome.TheVariants as outcomes
use Rattle.rtm_model.specs.declared.reg.Kind.{Kind}
use Rattle.rtm_model.specs.declared.reg.Kind.TheVariants.{Mgr}
use Rattle.rtm_model.specs.declared.reg.Reg.{Reg}
use Rattle.rtm_model.specs.inner.Applies.{CanApply, CanEnter, CanMake, RetriesAt, StandsAt}
use Rattle.rtm_model.specs.Limits.{most_brackets}
use Rattle.rtm_model.specs.Aborts.{first_abort}
use Rattle.rtm_model.specs.Arrivals.{arrival, arrival_entry, arrival_fate, arrival_of, goes_on, is_cancellable, is_due, is_in_turn}
use Rattle.rtm_model.specs.Births.{manager_routine}
use Rattle.rtm_model.specs.Blocks.{newest_block, newest_bracket, place_or_none}
use Rattle.rtm_model.specs.Cards.{outcome}
use Rattle.rtm_model.specs.Ending.{Holdings, first_by_class, holdings_of, is_of_task, newer_holding, newest_held, newest_of_all, next_manager, next_release}
use Rattle.rtm_model.specs.Legal.{MayFollow}
use Rattle.rtm_model.specs.declared.entry.Class.TheVariants.{Cancel}
use Rattle.rtm_model.proofs.Lists.{both_true}
use Rattle.rtm_model.specs.Levels.{Bracket, current, depth_in, error_in, record_in, verdict_of_routine}
use Rattle.rtm_model.specs.NextEntry.{card_entry, card_entry_at, card_entry_by, done_of, first_case, ending_or_card, handling_of, eligible_routine, interruptible, is_outermost, land_of, landed_record, next_landing, leave_of, manager_or, master_act, next, next_master, next_of_master, next_of_unit, next_unit, normal_end, release_or, retry_prog, last_return, unit_act, with_subtasks}
use Rattle.rtm_model.specs.Surroundings.{fate_in, surroundings, surroundings_at, whose}
use Rattle.rtm_model.specs.Record.{mark_of, retry_place, verdict_by}
use Rattle.rtm_model.specs.inner.Soundness.{AreHeld, AreHoldings, IsCoreSound, IsHolding, IsManager, IsPlace, IsRecord, IsSound, OutermostQuiet, stands}
use Rattle.rtm_model.specs.Tasks.{Life, Tree, is_living, life_of}
use Rattle.rtm_model.specs.Tasks.Life.{Dormant}
use Rattle.rtm_model.specs.World.{Beginning, Core, UnitOfWork, World, core_at, lives_in, master, unit_at}
use Rattle.rtm_law_sound_units.proofs.CanCard.{CanDo, can_do}
use Rattle.rtm_law_sound_units.proofs.CanHandle.{Entered, both_some, can_handle, found_named, inner_current, outermost_current}
use Rattle.rtm_law_sound_units.proofs.Lists.{all_found}
use Rattle.rtm_law_sound_units.proofs.Nesting.{open_record}
use Rattle.rtm_law_sound_units.proofs.Parts.{levels_of}
use Rattle.rtm_law_sound_units.proofs.Places.{card_may_stand, retry_is_place}

-- the entry can be made, if there is one
abbrev pub CanOption : DeckView → World → ℕ → Option What → Type 0
CanOption d w u None = Unit {0}
CanOption d w u (Some what) = CanMake d w u what

can_if : (d : DeckView) (w : World) (u : ℕ) (b : Bool) (x y : Option What) → (b ≡ true → CanOption d w u x) → (b ≡ false → CanOption d w u y) → CanOption d w u (if b then x else y)
can_if d w u true x y hx hy = hx refl
can_if d w u false x y hx hy = hy refl

-- ---- a routine is left: a retry goes on at a place of the deck
some_place : (d : DeckView) (o : Option (List ℕ)) (prog : ℕ) → IfSome (option_and_then (λ label. option_map (λ op. record { prog = prog; op = op }) (label_at d prog label)) o) (IsPlace d)
some_place d None prog = tt
some_place d (Some label) prog = retry_is_place d prog label

if_place : (d : DeckView) (b : Bool) (o : Option Place) → IfSome o (IsPlace d) → IfSome (if b then o else None) (IsPlace d)
if_place d true o h = h
if_place d false o h = tt

other_verdict : (d : DeckView) (b c : Bool) → RetriesAt d (if b then verdicts.Stop else if c then verdicts.Perc else verdicts.Bad)
other_verdict d true c = tt
other_verdict d false true = tt
other_verdict d false false = tt

by_place : (d : DeckView) (kind : Kind) (rc : ℕ) (o : Option Place) → IfSome o (IsPlace d) → RetriesAt d (verdict_by kind rc o)
by_place d kind rc (Some place) h = h
by_place d kind rc None h = other_verdict d _ (rc == 0)

judged_place : (d : DeckView) (prog : ℕ) (routine : Option Reg) (r : Option ErrorRecord) → RetriesAt d (verdict_of_routine d prog routine r)
judged_place d prog None r = tt
judged_place d prog (Some reg) None = tt
judged_place d prog (Some reg) (Some r) = by_place d reg.kind r.rc (retry_place d prog r) (if_place d ((r.rc == 4) && not r.flags.clup) _ (some_place d r.retaddr prog))

can_leave : (d : DeckView) (n : ℕ) (w : World) (u : ℕ) (reg : Reg) → IsCoreSound d n (core_at u w) → current (Core.levels (core_at u w)) ≡ Some reg → CanMake d w u (leave_of d (core_at u w) reg)
can_leave d n w u reg s e = record {
  inner = inner_current (Core.levels (core_at u w)) reg s.nested e;
  own = subst (λ (o : Option Reg). IsSomeAnd o (λ r. (r.kind ≡ reg.kind) × (r.born ≡ reg.born))) (sym e) (refl, refl);
  retries = judged_place d (retry_prog (core_at u w) reg) (current (Core.levels (core_at u w))) (record_in (Core.levels (core_at u w)));
}

end_code : (b : Bool) → IsInRange (if b then with_subtasks else normal_end)
end_code true = omega arith
end_code false = omega arith

can_return : (d : DeckView) (n : ℕ) (w : World) (u : ℕ) (a : Surroundings) (o : Option Reg) → current (Core.levels (core_at u w)) ≡ o → IsCoreSound d n (core_at u w)
    → (length (Core.levels (core_at u w)) ≤ 1 → stands w u ≡ true) → CanMake d w u (last_return d (core_at u w) a o)
can_return d n w u a (Some reg) e s lives = can_leave d n w u reg s e
can_return d n w u a None e s lives =
    let outermost = outermost_current (Core.levels (core_at u w)) s.nested e in
    (lives outermost, omega arith, end_code a.subtask)

-- ---- the card at the place
can_by : (d : DeckView) (n : ℕ) (w : World) (u : ℕ) (a : Surroundings) (place : Place) (o : Outcome) → IsCoreSound d n (core_at u w) → StandsAt d (core_at u w) place
    → (length (Core.levels (core_at u w)) ≤ 1 → stands w u ≡ true) → CanDo w u (op_at d place.prog place.op) o → CanOption d w u (card_entry_by d (core_at u w) a place o)
can_by d n w u a place (outcomes.Executed rc) s here lives can = (here, can.0, can.1)
can_by d n w u a place (outcomes.Abends code reason dump step) s here lives can = (here, record { code = can.0; reason = can.1 })
can_by d n w u a place outcomes.Waits s here lives can = tt
can_by d n w u a place outcomes.Returns s here lives can = can_return d n w u a (current (Core.levels (core_at u w))) refl s lives

first_there : (brackets : List (List Block)) (block : Block) → newest_block brackets ≡ Some block → 1 ≤ length (newest_bracket brackets)
first_there [] block e = absurd cc
first_there ([] ∷ outer) block e = absurd cc
first_there ((first ∷ blocks) ∷ outer) block e = omega arith

can_at : (d : DeckView) (n : ℕ) (w : World) (u : ℕ) (o : Option Block) → newest_block (Core.blocks (core_at u w)) ≡ o → IsTrue (is_well_formed d) → IsSound d n w → error_in (Core.levels (core_at u w)) ≡ None
    → (length (Core.levels (core_at u w)) ≤ 1 → stands w u ≡ true)
    → CanOption d w u (card_entry_at d (core_at u w) (surroundings_at d w u (op_at d (Place.prog (place_or_none o)) (Place.op (place_or_none o)))) o)
can_at d n w u None e f s none lives = tt
can_at d n w u (Some block) e f s none lives =
    let op = op_at d (Place.prog block.place) (Place.op block.place) in
    can_by d n w u (surroundings_at d w u op) block.place (outcome (core_at u w) (surroundings_at d w u op) op) (s.cores u)
    (record { quiet = none; some = first_there (Core.blocks (core_at u w)) block e; place = sym (ap place_or_none e) }) lives
    (can_do d n w u (surroundings_at d w u op) (lines_of d (Place.prog block.place)) op s (card_may_stand d f (Place.prog block.place) (Place.op block.place)) refl refl)

can_card : (d : DeckView) (n : ℕ) (w : World) (u : ℕ) → IsTrue (is_well_formed d) → IsSound d n w → error_in (Core.levels (core_at u w)) ≡ None
    → (length (Core.levels (core_at u w)) ≤ 1 → stands w u ≡ true) → CanOption d w u (card_entry d (core_at u w) (surroundings d w u))
can_card d n w u f s none lives = can_at d n w u (newest_block (Core.blocks (core_at u w))) refl f s none lives

-- ---- the acts of ending
-- a manager that comes next can be entered
manager_by : (d : DeckView) (c : Core) (born : ℕ) (o : Option Manager1) → IsSome o → IfSome o (λ m. IsManager d m × ((m.born == born) ≡ true)) → CanEnter c true 0 1 → IsSomeAnd (option_map manager_routine o) (Entered d c Mgr born)
manager_by d c born None there h can = absurd cc
manager_by d c born (Some m) there h can = (refl, eqb-true m.born born h.1, record { shallow = can.shallow; cause = can.cause; prog_in = h.0.prog })

manage_by : (d : DeckView) (w : World) (u : ℕ) (code : Code) (rest : What) → IsInRange code → CanMake d w u rest → (o : Option Manager1)
    → IfSome o (λ m. IsSomeAnd (option_map manager_routine (find (λ x. x.born == m.born) w.managers)) (Entered d (core_at u w) Mgr m.born)) → CanMake d w u (manager_or code o rest)
manage_by d w u code rest h can None there = can
manage_by d w u code rest h can (Some m) there = (there, record { code = h; reason = tt })

one_level : (levels : ℕ) → levels - 1 ≡ 0 → levels < most_brackets
one_level levels e = omega arith

can_manage : (d : DeckView) (n : ℕ) (w : World) (u : ℕ) (code : Code) (task : Option ℕ) (rest : What) → IsSound d n w → IsInRange code → is_outermost (Core.levels (core_at u w)) ≡ true
    → error_in (Core.levels (core_at u w)) ≡ None → CanMake d w u rest → CanMake d w u (manager_or code (next_manager task w.managers) rest)
can_manage d n w u code task rest s h outermost none can =
    manage_by d w u code rest h can (next_manager task w.managers)
    (both_some (λ (m : Manager1). IsManager d m × (is_of_task task m ≡ true)) (λ (m : Manager1). IsSome (find (λ x. x.born == m.born) w.managers))
    (λ (m : Manager1). IsSomeAnd (option_map manager_routine (find (λ x. x.born == m.born) w.managers)) (Entered d (core_at u w) Mgr m.born))
    (λ m of_task there. manager_by d (core_at u w) m.born (find (λ x. x.born == m.born) w.managers) there (all_found (IsManager d) (λ x. x.born == m.born) w.managers s.managers)
    (record { shallow = one_level (length (Core.levels (core_at u w))) (eqb-true _ 0 outermost); cause = ap (λ (o : Option ErrorRecord). is_some o) none; prog_in = omega arith }))
    (next_manager task w.managers) (all_found (IsManager d) (is_of_task task) w.managers s.managers) (found_named (λ (m : Manager1). m.born) (is_of_task task) w.managers))

-- a holding that is released next is somebody's
abbrev CanRelease : DeckView → Holding → Type 0
CanRelease d holding = (holding.id ≤ 999999) × (holding.owner ≤ length d.units)

newest_in : (d : DeckView) (owner : ℕ) (class : Res) (held : List Holding) → owner ≤ length d.units → AllByRecursion (IsHolding owner class) held → IfSome (slice_get held 0) (CanRelease d)
newest_in d owner class [] h a = tt
newest_in d owner class (holding ∷ held) h a = (a.0.id, subst (λ (k : ℕ). k ≤ length d.units) (sym a.0.owner_is) h)

owner_newest : (d : DeckView) (n owner : ℕ) (held : Holdings) → owner ≤ length d.units → AreHoldings n owner held → (class : Res) → IfSome (newest_held class held) (CanRelease d)
owner_newest d n owner held h a Enq = newest_in d owner Enq held.enq h (AreHeld.each a.enq)
owner_newest d n owner held h a Stor = newest_in d owner Stor held.stor h (AreHeld.each a.stor)
owner_newest d n owner held h a Dsn = newest_in d owner Dsn held.dsn h (AreHeld.each a.dsn)
owner_newest d n owner held h a Timr = newest_in d owner Timr held.timr h (AreHeld.each a.timr)

or_some : (P : Holding → Type 0) (a b : Option Holding) → IfSome a P → IfSome b P → IfSome (option_or a b) P
or_some P None b h i = i
or_some P (Some x) b h i = h

by_class : (P : Holding → Type 0) (pick : Res → Option Holding) → ((class : Res) → IfSome (pick class) P) → IfSome (first_by_class pick) P
by_class P pick h =
    or_some P (pick Enq) (option_or (pick Stor) (option_or (pick Dsn) (pick Timr))) (h Enq)
    (or_some P (pick Stor) (option_or (pick Dsn) (pick Timr)) (h Stor) (or_some P (pick Dsn) (pick Timr) (h Dsn) (h Timr)))

newer_if : (P : Holding → Type 0) (x y : Holding) (b : Bool) → P x → P y → IfSome (if b then Some y else Some x) P
newer_if P x y true h i = i
newer_if P x y false h i = h

newer_some : (P : Holding → Type 0) (a b : Option Holding) → IfSome a P → IfSome b P → IfSome (newer_holding a b) P
newer_some P None b h i = i
newer_some P (Some x) None h i = h
newer_some P (Some x) (Some y) h i = newer_if P x y (nat_lt x.born y.born) h i

folded : (P : Holding → Type 0) (owners : List Holdings) (class : Res) (first : Option Holding) → IfSome first P → ((i : ℕ) → i < length owners → IfSome (newest_held class (holdings_of i owners)) P)
    → IfSome (fold newer_holding first (map (newest_held class) owners)) P
folded P [] class first h each = h
folded P (held ∷ owners) class first h each =
    folded P owners class (newer_holding first (newest_held class held)) (newer_some P first (newest_held class held) h (each 0 (omega arith))) (λ i lt. each (suc i) (omega arith))

in_owners : (owners units i : ℕ) → owners ≡ units + 1 → i < owners → i ≤ units
in_owners owners units i e lt = omega arith

release_by : (d : DeckView) (w : World) (u : ℕ) (rest : What) → CanMake d w u rest → (o : Option Holding) → IfSome o (CanRelease d) → CanMake d w u (release_or o rest)
release_by d w u rest can None h = can
release_by d w u rest can (Some holding) h = h

whose_release : (d : DeckView) (n : ℕ) (w : World) → IsSound d n w → (o : Option ℕ) → IfSome o (λ owner. owner ≤ length d.units) → IfSome (next_release o w.holdings) (CanRelease d)
whose_release d n w s (Some owner) h = by_class (CanRelease d) (λ class. newest_held class (holdings_of owner w.holdings)) (owner_newest d n owner (holdings_of owner w.holdings) h (s.holdings owner))
whose_release d n w s None h =
    by_class (CanRelease d) (λ class. newest_of_all class w.holdings)
    (λ class. folded (CanRelease d) w.holdings class None tt (λ i lt. owner_newest d n i (holdings_of i w.holdings) (in_owners (length w.holdings) (length d.units) i s.owners_len lt) (s.holdings i) class))

-- what a unit's end is about
whose_owner : (d : DeckView) (u : ℕ) (b : Bool) → (u == master d) ≡ b → u ≤ length d.units → IfSome (if b then None else Some u) (λ owner. owner ≤ length d.units)
whose_owner d u true e h = tt
whose_owner d u false e h = h

can_rest : (d : DeckView) (n : ℕ) (w : World) (u : ℕ) (rest : What) → IsSound d n w → u ≤ length d.units → CanMake d w u rest → CanMake d w u (release_or (next_release (whose d u) w.holdings) rest)
can_rest d n w u rest s h can = release_by d w u rest can (next_release (whose d u) w.holdings) (whose_release d n w s (whose d u) (whose_owner d u (u == master d) refl h))

can_end_by : (d : DeckView) (n : ℕ) (w : World) (u : ℕ) (begun : Beginning) (a : Surroundings) → IsSound d n w → u ≤ length d.units → lives_in w u ≡ true → Core.begun (core_at u w) ≡ Some begun
    → is_outermost (Core.levels (core_at u w)) ≡ true → error_in (Core.levels (core_at u w)) ≡ None
    → CanMake d w u (manager_or begun.code (next_manager (whose d u) w.managers) (release_or (next_release (whose d u) w.holdings) (done_of begun a)))
can_end_by d n w u begun a s h lives e outermost none =
    let code = subst (λ (o : Option Beginning). IfSome o (λ b. IsInRange b.code × IfSome b.cause IsRecord)) e (IsCoreSound.begun (s.cores u)) in
    can_manage d n w u begun.code (whose d u) (release_or (next_release (whose d u) w.holdings) (done_of begun a)) s code.0 outermost none
    (can_rest d n w u (done_of begun a) s h (lives, subst (λ (o : Option Beginning). IsSomeAnd o (λ b. b.code ≡ begun.code)) (sym e) refl))

-- ---- the cases of a unit
both_are : (lives : Bool) (begun : Option Beginning) → lives ≡ true → begun ≡ None → (lives && is_none begun) ≡ true
both_are true None e g = refl
both_are true (Some b) e g = absurd cc
both_are false begun e g = absurd cc

none_some : {X : Type 0} (o : Option X) → o ≡ None → IsSome o → ⊥
none_some None e h = cc
none_some (Some x) e h = cc

-- in a bracket that isn't the outermost nothing is asked of the unit's life
not_outermost : (ls : List Bracket) → (depth_in ls == 0) ≡ false → length ls ≤ 1 → ⊥
not_outermost ls e h = eqb-false (depth_in ls) 0 e (omega arith)

can_go_on : (d : DeckView) (n : ℕ) (w : World) (u : ℕ) → IsTrue (is_well_formed d) → IsSound d n w → u ≤ length d.units → lives_in w u ≡ true → error_in (Core.levels (core_at u w)) ≡ None
    → (begun : Option Beginning) → Core.begun (core_at u w) ≡ begun → CanOption d w u (ending_or_card d (core_at u w) (surroundings d w u) begun)
can_go_on d n w u f s h lives none None e = can_card d n w u f s none (λ _. both_are (lives_in w u) (Core.begun (core_at u w)) lives e)
can_go_on d n w u f s h lives none (Some begun) e =
    can_if d w u (is_outermost (Core.levels (core_at u w))) (unit_act begun (surroundings d w u)) (card_entry d (core_at u w) (surroundings d w u))
    (λ outermost. can_if d w u (Surroundings.subtask (surroundings d w u)) None (Some (manager_or begun.code (next_manager (whose d u) w.managers) (release_or (next_release (whose d u) w.holdings) (done_of begun (surroundings d w u)))))
    (λ _. tt) (λ _. can_end_by d n w u begun (surroundings d w u) s h lives e outermost none))
    (λ inner. can_card d n w u f s none (λ few. absurd (not_outermost (Core.levels (core_at u w)) inner few)))

-- an abort lands in a unit that stands
land_by : (d : DeckView) (w : World) (u : ℕ) (o : Option Abort) → first_abort (UnitOfWork.pending (unit_at u w.units)) ≡ o → stands w u ≡ true → error_in (Core.levels (core_at u w)) ≡ None
    → IfSome o (λ abort. CanMake d w u (land_of abort))
land_by d w u None e stood none = tt
land_by d w u (Some abort) e stood none =
    (stood, none, subst (λ (o : Option Abort). IsSomeAnd o (λ x. (x.class ≡ abort.class) × (x.from ≡ abort.from) × (mark_of (landed_record abort) ≡ mark_of (landed_record x)))) (sym e) (refl, refl, refl))

land_if : (d : DeckView) (w : World) (u : ℕ) (b : Bool) (o : Option Abort) → (b ≡ true → IfSome o (λ abort. CanMake d w u (land_of abort))) → IfSome (if b then o else None) (λ abort. CanMake d w u (land_of abort))
land_if d w u true o h = h refl
land_if d w u false o h = tt

interrupted : (begun : Option Beginning) (other : Bool) → (is_none begun && other) ≡ true → begun ≡ None
interrupted None other e = refl
interrupted (Some b) other e = absurd cc

can_land : (d : DeckView) (w : World) (u : ℕ) → lives_in w u ≡ true → error_in (Core.levels (core_at u w)) ≡ None → IfSome (next_landing (core_at u w) (surroundings d w u)) (λ abort. CanMake d w u (land_of abort))
can_land d w u lives none =
    land_if d w u (interruptible (core_at u w)) (first_abort (UnitOfWork.pending (unit_at u w.units)))
    (λ free. land_by d w u (first_abort (UnitOfWork.pending (unit_at u w.units))) refl (both_are (lives_in w u) (Core.begun (core_at u w)) lives (interrupted (Core.begun (core_at u w)) _ free)) none)

first_by : (d : DeckView) (w : World) (u : ℕ) (r : Option ErrorRecord) (abort : Option Abort) (rest : Option What) → error_in (Core.levels (core_at u w)) ≡ r
    → IfSome r (λ r. CanMake d w u (handling_of d.sdwa r (eligible_routine (core_at u w) r) (current (Core.levels (core_at u w)))))
    → (r ≡ None → IfSome abort (λ abort. CanMake d w u (land_of abort))) → (r ≡ None → CanOption d w u rest) → CanOption d w u (first_case d.sdwa (core_at u w) r abort rest)
first_by d w u (Some r) abort rest e handles lands goes = handles
first_by d w u None (Some abort) rest e handles lands goes = lands refl
first_by d w u None None rest e handles lands goes = goes refl

handles_by : (d : DeckView) (n : ℕ) (w : World) (u : ℕ) (r : Option ErrorRecord) → error_in (Core.levels (core_at u w)) ≡ r → IsSound d n w → (IsSome r → length (Core.levels (core_at u w)) ≤ 1 → stands w u ≡ true)
    → IfSome r (λ r. CanMake d w u (handling_of d.sdwa r (eligible_routine (core_at u w) r) (current (Core.levels (core_at u w)))))
handles_by d n w u None e s lives = tt
handles_by d n w u (Some r) e s lives =
    can_handle d n w u r (s.cores u) e (subst (λ (o : Option ErrorRecord). IfSome o IsRecord) e (open_record n (Core.levels (core_at u w)) (levels_of d n (core_at u w) (s.cores u)))) (lives refl)

-- where the outermost bracket is quiet, an open error is an inner one's
quiet_none : (ls : List Bracket) → OutermostQuiet ls → length ls ≤ 1 → IsSome (error_in ls) → ⊥
quiet_none [] q few erring = cc
quiet_none (l ∷ []) q few erring = none_some l.error q erring
quiet_none (l ∷ m ∷ ls) q few erring = absurd (omega arith)

-- a living unit with an error in its outermost bracket hasn't begun to end
erring_stands : (begun : Option Beginning) (ls : List Bracket) (lives : Bool) → lives ≡ true → (IsSome begun → OutermostQuiet ls) → IsSome (error_in ls) → length ls ≤ 1 → (lives && is_none begun) ≡ true
erring_stands None ls true e quiet erring few = refl
erring_stands None ls false e quiet erring few = absurd cc
erring_stands (Some b) ls lives e quiet erring few = absurd (quiet_none ls (quiet refl) few erring)

can_unit : (d : DeckView) (n : ℕ) (w : World) (u : ℕ) → IsTrue (is_well_formed d) → IsSound d n w → u ≤ length d.units → lives_in w u ≡ true → CanOption d w u (next_unit d (core_at u w) (surroundings d w u))
can_unit d n w u f s h lives =
    let c = core_at u w in
    first_by d w u (error_in c.levels) (next_landing c (surroundings d w u)) (ending_or_card d c (surroundings d w u) c.begun) refl
    (handles_by d n w u (error_in c.levels) refl s (λ erring few. erring_stands c.begun c.levels (lives_in w u) lives (IsCoreSound.ending_quiet (s.cores u)) erring few))
    (λ none. can_land d w u lives none)
    (λ none. can_go_on d n w u f s h lives none c.begun refl)

-- ---- the master
living_at : (lives : List Life) (o : Option ℕ) → position is_living lives ≡ o → IfSome o (λ unit. (unit < length lives) × (is_living (life_of unit lives) ≡ true))
living_at lives None e = tt
living_at lives (Some unit) e = let at = position-Some is_living lives unit Dormant e in (at.0, at.1)

can_master_act : (d : DeckView) (n : ℕ) (w : World) (code : Code) → IsSound d n w → IsInRange code → is_outermost (Core.levels (core_at (master d) w)) ≡ true → error_in (Core.levels (core_at (master d) w)) ≡ None
    → (o : Option ℕ) → IfSome o (λ unit. (unit < length d.units) × (lives_in w unit ≡ true)) → CanMake d w (master d) (master_act code o (surroundings d w (master d)))
can_master_act d n w code s h outermost none (Some unit) living = living
can_master_act d n w code s h outermost none None living =
    can_manage d n w (master d) code (whose d (master d)) (release_or (next_release (whose d (master d)) w.holdings) whats.MemEnd) s h outermost none
    (can_rest d n w (master d) whats.MemEnd s (omega arith) tt)

can_master : (d : DeckView) (n : ℕ) (w : World) (code : Code) → IsTrue (is_well_formed d) → IsSound d n w → IsInRange code
    → CanOption d w (master d) (next_master d (core_at (master d) w) (surroundings d w (master d)) code (position is_living (Tree.lives w.tree)))
can_master d n w code f s h =
    let u = master d in
    let c = core_at u w in
    let living = subst (λ (k : ℕ). IfSome (position is_living (Tree.lives w.tree)) (λ unit. (unit < k) × (lives_in w unit ≡ true))) s.lives_len (living_at (Tree.lives w.tree) (position is_living (Tree.lives w.tree)) refl) in
    first_by d w u (error_in c.levels) None _ refl
    (handles_by d n w u (error_in c.levels) refl s (λ erring few. absurd (quiet_none c.levels s.master_quiet few erring)))
    (λ none. tt)
    (λ none. can_if d w u (is_outermost c.levels) (Some (master_act code (position is_living (Tree.lives w.tree)) (surroundings d w u))) (card_entry d c (surroundings d w u))
    (λ outermost. can_master_act d n w code s h outermost none (position is_living (Tree.lives w.tree)) living)
    (λ inner. can_card d n w u f s none (λ few. absurd (not_outermost c.levels inner few))))

-- ---- any unit
can_of_unit : (d : DeckView) (n : ℕ) (w : World) (u : ℕ) → IsTrue (is_well_formed d) → IsSound d n w → u ≤ length d.units → (o : Option Code) → CanOption d w u (next_of_unit d w u o)
can_of_unit d n w u f s h (Some code) = tt
can_of_unit d n w u f s h None = can_if d w u (lives_in w u) (next_unit d (core_at u w) (surroundings d w u)) None (λ lives. can_unit d n w u f s h lives) (λ _. tt)

can_of_master : (d : DeckView) (n : ℕ) (w : World) → IsTrue (is_well_formed d) → IsSound d n w → (o : Option Code) → IfSome o IsInRange → CanOption d w (master d) (next_of_master d w o)
can_of_master d n w f s None h = tt
can_of_master d n w f s (Some code) h = can_if d w (master d) w.over None _ (λ _. tt) (λ _. can_master d n w code f s h)

-- what any unit makes next can be made, and no unit past the master makes any
abbrev pub CanNext : DeckView → World → ℕ → Option What → Type 0
CanNext d w u o = IfSome o (λ what. (u ≤ master d) × CanMake d w u what)

with_bound : (d : DeckView) (w : World) (u : ℕ) (o : Option What) → u ≤ master d → CanOption d w u o → CanNext d w u o
with_bound d w u None h can = tt
with_bound d w u (Some what) h can = (h, can)

-- a unit past the deck's never lives
living_below : (lives : List Life) (u : ℕ) → is_living (life_of u lives) ≡ true → u < length lives
living_below [] u e = absurd cc
living_below (life ∷ lives) zero e = omega arith
living_below (life ∷ lives) (suc u) e = omega (arith, living_below lives u e)

unit_if : (d : DeckView) (n : ℕ) (w : World) (u : ℕ) (b : Bool) → lives_in w u ≡ b → IsTrue (is_well_formed d) → IsSound d n w → CanNext d w u (if b then next_unit d (core_at u w) (surroundings d w u) else None)
unit_if d n w u false e f s = tt
unit_if d n w u true e f s =
    let below : u ≤ length d.units = omega (arith, living_below (Tree.lives w.tree) u e, s.lives_len) in
    with_bound d w u (next_unit d (core_at u w) (surroundings d w u)) below (can_unit d n w u f s below e)

unit_by : (d : DeckView) (n : ℕ) (w : World) (u : ℕ) (o : Option Code) → IsTrue (is_well_formed d) → IsSound d n w → CanNext d w u (next_of_unit d w u o)
unit_by d n w u (Some code) f s = tt
unit_by d n w u None f s = unit_if d n w u (lives_in w u) refl f s

next_by : (d : DeckView) (n : ℕ) (w : World) (u : ℕ) (b : Bool) → (u == master d) ≡ b → IsTrue (is_well_formed d) → IsSound d n w → CanNext d w u (if b then next_of_master d w w.memory_end else next_of_unit d w u w.memory_end)
next_by d n w u false e f s = unit_by d n w u w.memory_end f s
next_by d n w u true e f s =
    let same : u ≡ master d = eqb-true u (master d) e in
    subst (λ (k : ℕ). CanNext d w k (next_of_master d w w.memory_end)) (sym same)
    (with_bound d w (master d) (next_of_master d w w.memory_end) (omega arith) (can_of_master d n w f s w.memory_end s.memory_end))

pub can_next : (d : DeckView) (n : ℕ) (w : World) (u : ℕ) → IsTrue (is_well_formed d) → IsSound d n w → CanNext d w u (next d w u)
can_next d n w u f s = next_by d n w u (u == master d) refl f s

-- the entry that a unit makes next can be applied
pub next_applies : (d : DeckView) (n : ℕ) (w : World) (e : Entry) → IsTrue (is_well_formed d) → IsSound d n w → next d w e.unit ≡ Some e.what → CanApply d w e
next_applies d n w e f s is =
    let can = subst (CanNext d w e.unit) is (can_next d n w e.unit f s) in
    record { unit = can.0; what = can.1 }

-- ---- the arrival of a command
stands_by : (lives : Bool) (begun : Option Beginning) (other : Bool) → IsTrue (not (not lives || is_some begun) && other) → (lives && is_none begun) ≡ true
stands_by true None other h = refl
stands_by true (Some b) other h = absurd cc
stands_by false begun other h = absurd cc

arrives_if : (d : DeckView) (w : World) (target cmd : ℕ) (b : Bool) (fate_there : Fate) → (b ≡ true → CanApply d w (arrival_entry target cmd fate_there)) → IfSome (arrival_of target cmd (if b then Some fate_there else None)) (CanApply d w)
arrives_if d w target cmd true fate_there h = h refl
arrives_if d w target cmd false fate_there h = tt

arrives_by : (d : DeckView) (n : ℕ) (w : World) (cmd : ℕ) (quiet : Bool) (o : Option Command) → slice_get d.commands cmd ≡ o → IsSound d n w
    → IfSome (arrival_of (option_map_or (λ command. command.target) o 0) cmd (arrival_fate d w n quiet cmd o)) (CanApply d w)
arrives_by d n w cmd quiet None e s = tt
arrives_by d n w cmd quiet (Some command) e s =
    arrives_if d w command.target cmd (is_due d w n quiet cmd command) (fate_in w command.target Cancel)
    (λ due. let ab = both_true (is_cancellable w command.target && is_in_turn d w command.target cmd) (nat_le command.at n || quiet) due in
    let a = both_true (is_cancellable w command.target) (is_in_turn d w command.target cmd) ab.0 in
    let stood : stands w command.target ≡ true = stands_by (lives_in w command.target) (Core.begun (core_at command.target w)) (is_none w.memory_end) a.0 in
    let lives = both_true (lives_in w command.target) (is_none (Core.begun (core_at command.target w))) stood in
    record {
      unit = omega (arith, living_below (Tree.lives w.tree) command.target lives.0, s.lives_len);
      what = (stood, slice_get_within d.commands cmd command e);
    })

pub arrival_applies : (d : DeckView) (n : ℕ) (w : World) (cmd : ℕ) (e : Entry) → IsSound d n w → arrival d w n cmd ≡ Some e → CanApply d w e
arrival_applies d n w cmd e s is = subst (λ (o : Option Entry). IfSome o (CanApply d w)) is (arrives_by d n w cmd (not (goes_on d w)) (slice_get d.commands cmd) refl s)

follows_by : (d : DeckView) (n : ℕ) (w : World) (e : Entry) (what : What) → e.what ≡ what → IsTrue (is_well_formed d) → IsSound d n w → MayFollow d w n e what → CanApply d w e
follows_by d n w e (whats.Arrive cmd _) is f s h = arrival_applies d n w cmd e s h
follows_by d n w e what is f s h = next_applies d n w e f s (h ∙ ap (λ (x : What). Some x) (sym is))

-- whatever may follow can be applied
pub follows_applies : (d : DeckView) (n : ℕ) (w : World) (e : Entry) → IsTrue (is_well_formed d) → IsSound d n w → MayFollow d w n e e.what → CanApply d w e
follows_applies d n w e f s h = follows_by d n w e e.what refl f s h
