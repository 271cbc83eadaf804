-- Each entry of a legal history fits its deck.
use Rattle.std.proofs.Common.{◌≡◌, ℕ, ◌+◌, ◌<◌, List, [], ◌∷◌, length, Option, Some, None, sym, subst, arith}
use Rattle.std.specs.Prelude.{IfSome, IsSomeAnd, IsTrue}
use Rattle.std.specs.List.{AllByRecursion}
use Rattle.rtm_codes.specs.declared.code.Code.{Code}
use Rattle.rtm_codes.specs.Code.{IsInRange}
use Rattle.rtm_deck_items.specs.View.{DeckView}
use Rattle.rtm_deck_items.specs.WellFormed.{is_well_formed}
use Rattle.rtm_deck_items.proofs.FormFacts.{Limits, limits}
use Rattle.rtm_model.specs.declared.abort.Abort.{Abort}
use Rattle.rtm_model.specs.declared.block.Place.{Place}
use Rattle.rtm_model.specs.declared.entry.Class.{Class}
use Rattle.rtm_model.specs.declared.entry.Entry.{Entry}
use Rattle.rtm_model.specs.declared.entry.Verdict.{Verdict}
use Rattle.rtm_model.specs.declared.entry.Verdict.TheVariants as verdicts
use Rattle.rtm_model.specs.declared.entry.What.{What}
use Rattle.rtm_model.specs.declared.entry.What.TheVariants as whats
use Rattle.rtm_model.specs.declared.mark.Mark.{Mark}
use Rattle.rtm_model.specs.declared.reg.Kind.{Kind}
use Rattle.rtm_model.specs.declared.reg.Reg.{Reg}
use Rattle.rtm_model.specs.Limits.{words}
use Rattle.rtm_model.specs.Aborts.{first_abort}
use Rattle.rtm_model.specs.inner.Applies.{CanEnter, CanMake, IsMark, RetriesAt, StandsAt}
use Rattle.rtm_model.specs.OwnChange.{routine_named}
use Rattle.rtm_model.specs.Advance.{advance}
use Rattle.rtm_model.specs.Fits.{Fits, IsIndex, VerdictFits, WhatFits}
use Rattle.rtm_model.specs.Legal.{Legal, LegalFrom}
use Rattle.rtm_model.specs.Levels.{Bracket, current, is_manager}
use Rattle.rtm_model.specs.NextEntry.{landed_record}
use Rattle.rtm_model.specs.Record.{mark_of}
use Rattle.rtm_model.specs.inner.Soundness.{ArePending, IsAbort, IsCoreSound, IsPlace, IsRecord, IsSound, RunsSince}
use Rattle.rtm_model.specs.World.{Beginning, Core, UnitOfWork, World, core_at, start, unit_at}
use Rattle.rtm_law_sound.proofs.Histories.{sound_after, sound_at_start}
use Rattle.rtm_law_sound_units.proofs.CanNext.{follows_applies}
use Rattle.rtm_law_sound_units.proofs.CoresKeep.{place_of_block}
use Rattle.rtm_law_sound_units.proofs.CoresSound.{named_since}

index_of : (n k : ℕ) → n < words → k < n → IsIndex k
index_of n k small h = omega arith

stands_place : (d : DeckView) (n : ℕ) (c : Core) (at : Place) → IsCoreSound d n c → StandsAt d c at → IsPlace d at
stands_place d n c at s here = subst (IsPlace d) (sym here.place) (place_of_block d n c s here.some)

landed_fits : (n : ℕ) (class : Class) (from : ℕ) (mark : Mark) (pending : List Abort) → n < words → AllByRecursion (IsAbort n) pending
    → IsSomeAnd (first_abort pending) (λ abort. (abort.class ≡ class) × (abort.from ≡ from) × (mark ≡ mark_of (landed_record abort))) → IsIndex from × IsMark mark
landed_fits n class from mark [] small each can = absurd can
landed_fits n class from mark (abort ∷ pending) small each can =
    (omega (arith, each.0.from, can.1), subst IsMark (sym can.2) (record { code = each.0.code; reason = each.0.reason }))

entered_fits : (d : DeckView) (n : ℕ) (c : Core) (kind : Kind) (born : ℕ) (o : Option Reg) → n < words → IfSome o (λ reg. reg.born < n)
    → IsSomeAnd o (λ routine. (routine.kind ≡ kind) × (routine.born ≡ born) × CanEnter c (is_manager kind) routine.prog (length d.programs)) → IsIndex born
entered_fits d n c kind born None small since can = absurd can
entered_fits d n c kind born (Some reg) small since can = omega (arith, since, can.1)

left_by : (n : ℕ) (kind : Kind) (born : ℕ) (o : Option Reg) → n < words → IfSome o (λ reg. reg.born < n) → IsSomeAnd o (λ reg. (reg.kind ≡ kind) × (reg.born ≡ born)) → IsIndex born
left_by n kind born None small since own = absurd own
left_by n kind born (Some reg) small since own = omega (arith, since, own.1)

left_fits : (n : ℕ) (kind : Kind) (born : ℕ) (ls : List Bracket) → n < words → AllByRecursion (RunsSince n) ls → IsSomeAnd (current ls) (λ reg. (reg.kind ≡ kind) × (reg.born ≡ born)) → IsIndex born
left_fits n kind born [] small since own = absurd own
left_fits n kind born (l ∷ ls) small since own = left_by n kind born l.routine small since.0 own

verdict_fits : (d : DeckView) (v : Verdict) → RetriesAt d v → VerdictFits d v
verdict_fits d (verdicts.Retry place) h = h
verdict_fits d _ h = tt

done_fits : (code : Code) (begun : Option Beginning) → IfSome begun (λ b. IsInRange b.code × IfSome b.cause IsRecord) → IsSomeAnd begun (λ b. b.code ≡ code) → IsInRange code
done_fits code None h e = absurd e
done_fits code (Some b) h e = subst IsInRange e h.0

what_fits : (d : DeckView) (n : ℕ) (w : World) (u : ℕ) (what : What) → n < words → IsSound d n w → CanMake d w u what → WhatFits d what
what_fits d n w u (whats.Exec at rc) small s can = (stands_place d n (core_at u w) at (s.cores u) can.0, can.2)
what_fits d n w u (whats.Error at mark) small s can = (stands_place d n (core_at u w) at (s.cores u) can.0, can.1)
what_fits d n w u (whats.Land class from mark) small s can = landed_fits n class from mark (UnitOfWork.pending (unit_at u w.units)) small (ArePending.each (s.pending u)) can.2
what_fits d n w u (whats.Enter kind reg mark bare) small s can =
    (entered_fits d n (core_at u w) kind reg (routine_named kind reg w.managers (core_at u w)) small (named_since d n reg kind w.managers (core_at u w) s.managers_fall (s.cores u)) can.0, can.1)
what_fits d n w u (whats.Leave kind reg verdict logrec dump) small s can =
    (left_fits n kind reg (Core.levels (core_at u w)) small (IsCoreSound.routines (s.cores u)) can.own, verdict_fits d verdict can.retries)
what_fits d n w u (whats.Arrive cmd _) small s can = can.1
what_fits d n w u (whats.Begin code dump) small s can = can.2
what_fits d n w u (whats.Release class id owner) small s can = can
what_fits d n w u (whats.Done code to_task to_step) small s can = done_fits code (Core.begun (core_at u w)) (IsCoreSound.begun (s.cores u)) can.1
what_fits d n w u (whats.Purge unit) small s can = can.0
what_fits d n w u whats.MemEnd small s can = tt

fits_from : (d : DeckView) (n : ℕ) (w : World) (es : List Entry) → IsTrue (is_well_formed d) → IsSound d n w → LegalFrom d w n es → AllByRecursion (Fits d) es
fits_from d n w [] f s h = tt
fits_from d n w (e ∷ es) f s h =
    let can = follows_applies d n w e f s h.1 in
    let small : n < words = omega (arith, h.0, Limits.most (limits d f)) in
    (record { unit = can.unit; what = what_fits d n w e.unit e.what small s can.what }, fits_from d (n + 1) (advance d w n e) es f (sound_after d n w e f s h.1) h.2)

-- each entry of a legal history fits
pub all_fit : (d : DeckView) (es : List Entry) → IsTrue (is_well_formed d) → Legal d es → AllByRecursion (Fits d) es
unfolding Legal
all_fit d es f h = fits_from d 0 (start d) es f (sound_at_start d f) h
