-- What a unit can make in a sound world can be applied to its control blocks.
use Rattle.std.proofs.Common.{◌≡◌, ℕ, ◌+◌, ◌<◌, ◌≤◌, Bool, true, false, List, [], ◌∷◌, length, Option, Some, None, refl, sym, subst, arith}
use Rattle.std.specs.Prelude.{IfSome, IsSomeAnd, IsTrue, is_some, not, ◌||◌, if◌then◌else◌}
use Rattle.std.specs.List.{AllByRecursion}
use Rattle.rtm_deck_items.specs.Reading.{op_at}
use Rattle.rtm_deck_items.specs.View.{DeckView}
use Rattle.rtm_deck_items.specs.declared.op.Op.{Op}
use Rattle.rtm_deck_items.specs.declared.op.Op.TheVariants as ops
use Rattle.rtm_model.specs.declared.abort.Abort.{Abort}
use Rattle.rtm_model.specs.declared.block.Block.{Block}
use Rattle.rtm_model.specs.declared.block.Place.{Place}
use Rattle.rtm_model.specs.declared.entry.Class.{Class}
use Rattle.rtm_model.specs.declared.entry.What.{What}
use Rattle.rtm_model.specs.declared.entry.What.TheVariants as whats
use Rattle.rtm_model.specs.declared.mark.Mark.{Mark}
use Rattle.rtm_model.specs.declared.reg.Kind.{Kind}
use Rattle.rtm_model.specs.declared.reg.Reg.{Reg}
use Rattle.rtm_model.specs.Aborts.{first_abort}
use Rattle.rtm_model.specs.inner.Applies.{CanEnter, CanExecute, CanMake, StandsAt}
use Rattle.rtm_model.specs.OwnChange.{routine_named}
use Rattle.rtm_model.specs.Blocks.{newest_bracket, place_in}
use Rattle.rtm_model.specs.Levels.{error_here, error_in, is_manager}
use Rattle.rtm_model.specs.NextEntry.{landed_record}
use Rattle.rtm_model.specs.Record.{mark_of}
use Rattle.rtm_model.specs.inner.Soundness.{ArePending, IsAbort, IsBracket, IsCoreSound, IsPlace, IsSound, stands}
use Rattle.rtm_model.specs.World.{Core, UnitOfWork, World, core_at, unit_at}
use Rattle.rtm_system_unit.specs.Applying.{CanApplyTo, CanBeEntered, HasRoomFor, NamesFirst}

-- the newest request block stands at a place
newest_stands : (d : DeckView) (brackets : List (List Block)) → AllByRecursion (IsBracket d) brackets → 1 ≤ length (newest_bracket brackets) → IsPlace d (place_in brackets)
newest_stands d [] all some = absurd (omega (arith, some))
newest_stands d ([] ∷ outer) all some = absurd (omega (arith, some))
newest_stands d ((block ∷ older) ∷ outer) all some = (IsBracket.places all.0).0

stands_at_place : (d : DeckView) (n : ℕ) (c : Core) (at : Place) → IsCoreSound d n c → StandsAt d c at → IsPlace d at
stands_at_place d n c at s h = subst (IsPlace d) (sym h.place) (newest_stands d c.blocks s.brackets h.some)

room_for : (w : World) (u rc : ℕ) (op : Op) → CanExecute w u rc op → HasRoomFor (core_at u w) op
room_for w u rc (ops.Link prog) h = h
room_for w u rc (ops.EstaexCt prog term cancel xctl) h = h.few
room_for w u rc (ops.FrrAdd prog) h = h.few
room_for w u rc _ h = tt

first_named : (n : ℕ) (class : Class) (from : ℕ) (mark : Mark) (aborts : List Abort) → AllByRecursion (IsAbort n) aborts
    → IsSomeAnd (first_abort aborts) (λ abort. (abort.class ≡ class) × (abort.from ≡ from) × (mark ≡ mark_of (landed_record abort)))
    → NamesFirst class from (first_abort aborts)
first_named n class from mark [] all h = h
first_named n class from mark (abort ∷ later) all h = (h.0, h.1, IsAbort.code all.0)

-- a unit has no more request blocks' brackets than levels
bracket_room : (b : Bool) (blocks levels : ℕ) → blocks + (if b then 0 else 1) ≡ levels → levels < 16 → blocks < 16
bracket_room true blocks levels same h = omega (arith, same, h)
bracket_room false blocks levels same h = omega (arith, same, h)

with_cause : (manager errs : Bool) → errs ≡ not manager → IsTrue (manager || errs)
with_cause true errs same = refl
with_cause false errs same = same

can_enter : (c : Core) (kind : Kind) (born programs : ℕ) → (length c.levels < 16 → length c.blocks < 16) → (routine : Option Reg)
    → IsSomeAnd routine (λ reg. (reg.kind ≡ kind) × (reg.born ≡ born) × CanEnter c (is_manager kind) reg.prog programs)
    → IfSome routine (CanBeEntered c)
can_enter c kind born programs room None h = tt
can_enter c kind born programs room (Some reg) h =
    let can = h.2 in
    (room can.shallow, can.shallow, subst (λ (k : Kind). IsTrue (is_manager k || error_here c.levels)) (sym h.0) (with_cause (is_manager kind) (is_some (error_in c.levels)) can.cause))

pub can_apply : (d : DeckView) (n : ℕ) (w : World) (u : ℕ) (what : What) → IsSound d n w → CanMake d w u what
    → CanApplyTo d (core_at u w) w.managers (first_abort (UnitOfWork.pending (unit_at u w.units))) what
can_apply d n w u (whats.Exec at rc) s h = (stands_at_place d n (core_at u w) at (s.cores u) h.0, room_for w u rc (op_at d at.prog at.op) h.1)
can_apply d n w u (whats.Error at mark) s h = h.1.code
can_apply d n w u (whats.Land class from mark) s h =
    first_named n class from mark (UnitOfWork.pending (unit_at u w.units)) (ArePending.each (s.pending u)) h.2
can_apply d n w u (whats.Enter kind born mark bare) s h =
    can_enter (core_at u w) kind born (length d.programs)
    (bracket_room (stands w u) (length (Core.blocks (core_at u w))) (length (Core.levels (core_at u w))) (s.blocks u))
    (routine_named kind born w.managers (core_at u w)) h.0
can_apply d n w u (whats.Leave kind born verdict logrec dump) s h = h.inner
can_apply d n w u _ s h = tt
