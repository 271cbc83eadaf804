-- Levels: each change leaves brackets that stand in one another, and records in range.
use Rattle.std.proofs.Common.{◌≡◌, ℕ, ◌+◌, ◌<◌, ◌≤◌, Bool, true, false, List, [], ◌∷◌, length, Option, Some, None, refl, sym, subst, arith}
use Rattle.std.specs.Prelude.{IfSome, is_some, if◌then◌else◌, not}
use Rattle.std.specs.List.{AllByRecursion}
use Rattle.std.specs.Option.{option_map}
use Rattle.rtm_model.specs.declared.entry.Verdict.{Verdict}
use Rattle.rtm_model.specs.declared.entry.Verdict.TheVariants as verdicts
use Rattle.rtm_model.specs.declared.error_record.ErrorRecord.{ErrorRecord}
use Rattle.rtm_model.specs.declared.reg.Reg.{Reg}
use Rattle.rtm_model.specs.Limits.{most_brackets}
use Rattle.rtm_model.specs.Levels.{Bracket, after_enter, after_leave, after_verdict, at_enclosing, at_innermost, error_in, innermost_bracket, is_manager, on_record, outermost_alone, recovers, with_open}
use Rattle.rtm_model.specs.inner.Soundness.{AreNested, IsRecord, RunsSince, StandsIn}
use Rattle.rtm_model.proofs.Levels.{after_record, length_innermost}
use Rattle.rtm_model.proofs.Lists.{all_by}
use Rattle.rtm_law_sound_units.proofs.Lists.{some_by}
use Rattle.rtm_law_sound_units.proofs.Records.{changed_record, verdict_record}

-- the record of a bracket's open error, if one is open
abbrev pub HasRecord : Bracket → Type 0
HasRecord l = IfSome l.error IsRecord

-- the levels of a unit after n entries
pub record AreLevels (n : ℕ) (ls : List Bracket) : Type 0 where
  pub some : 1 ≤ length ls
  pub few : length ls ≤ most_brackets
  pub nested : AreNested ls
  pub routines : AllByRecursion (RunsSince n) ls
  pub records : AllByRecursion HasRecord ls

runs_later : (n m : ℕ) → n ≤ m → (l : Bracket) → RunsSince n l → RunsSince m l
runs_later n m h l r = some_by (λ (reg : Reg). reg.born < n) (λ (reg : Reg). reg.born < m) (λ reg b. omega arith) l.routine r

pub levels_later : (n m : ℕ) (ls : List Bracket) → n ≤ m → AreLevels n ls → AreLevels m ls
levels_later n m ls h a = record {
  some = a.some;
  few = a.few;
  nested = a.nested;
  routines = all_by (RunsSince n) (RunsSince m) (runs_later n m h) ls a.routines;
  records = a.records;
}

-- the innermost bracket's error changed: nothing asks of it
pub innermost_changed : (n : ℕ) (error : Option ErrorRecord) (ls : List Bracket) → IfSome error IsRecord → AreLevels n ls → AreLevels n (at_innermost (with_open error) ls)
innermost_changed n error [] h a = a
innermost_changed n error (l ∷ ls) h a = record { some = a.some; few = a.few; nested = a.nested; routines = a.routines; records = (h, a.records.1) }

-- a routine is entered
enters : (reg : Reg) (l : Bracket) → is_some l.error ≡ not (is_manager reg.kind) → StandsIn (Some reg) (Some l)
enters reg l h = h

pub entered_level : (n : ℕ) (reg : Reg) (bare : Bool) (ls : List Bracket) → length ls < most_brackets → is_some (error_in ls) ≡ not (is_manager reg.kind) → reg.born < n → AreLevels n ls → AreLevels n (after_enter reg bare ls)
entered_level n reg bare [] room cause born a = absurd (omega (arith, a.some))
entered_level n reg bare (l ∷ ls) room cause born a = record {
  some = omega arith;
  few = omega arith;
  nested = (enters reg l cause, a.nested);
  routines = (born, a.routines);
  records = (tt, a.records);
}

-- SETRP and RET15 change the record of an error that is open in the enclosing bracket, and leave it open
still_open : (f : ErrorRecord → ErrorRecord) (o : Option ErrorRecord) → is_some (option_map f o) ≡ is_some o
still_open f None = refl
still_open f (Some r) = refl

stands_still : (f : ErrorRecord → ErrorRecord) (routine : Option Reg) (l : Bracket) → StandsIn routine (Some l) → StandsIn routine (Some (on_record f l))
stands_still f None l h = h
stands_still f (Some reg) l h = rw (still_open f l.error) h

enclosing_levels : (n : ℕ) (f : ErrorRecord → ErrorRecord) (ls : List Bracket) → ((r : ErrorRecord) → IsRecord r → IsRecord (f r)) → AreLevels n ls → AreLevels n (at_enclosing (on_record f) ls)
enclosing_levels n f [] h a = a
enclosing_levels n f (l ∷ []) h a = a
enclosing_levels n f (l ∷ m ∷ ls) h a = record {
  some = omega arith;
  few = a.few;
  nested = (stands_still f l.routine m a.nested.0, a.nested.1);
  routines = a.routines;
  records = (a.records.0, (changed_record f h m a.records.1.0, a.records.1.1));
}

record_if : (n : ℕ) (f : ErrorRecord → ErrorRecord) (ls : List Bracket) (b : Bool) → ((r : ErrorRecord) → IsRecord r → IsRecord (f r)) → AreLevels n ls → AreLevels n (if b then at_enclosing (on_record f) ls else ls)
record_if n f ls true h a = enclosing_levels n f ls h a
record_if n f ls false h a = a

pub record_kept : (n : ℕ) (f : ErrorRecord → ErrorRecord) (ls : List Bracket) → ((r : ErrorRecord) → IsRecord r → IsRecord (f r)) → AreLevels n ls → AreLevels n (after_record f ls)
record_kept n f ls h a = record_if n f ls (recovers ls) h a

-- a routine is left
verdict_routine : (inner : Option ErrorRecord) (l : Bracket) (v : Verdict) → Bracket.routine (after_verdict v inner l) ≡ l.routine
verdict_routine inner l (verdicts.Retry place) = refl
verdict_routine inner l _ = refl

left_levels : (n : ℕ) (v : Verdict) (inner : Option ErrorRecord) (ls : List Bracket) → IfSome inner IsRecord → AreLevels n ls → AreLevels n (at_innermost (after_verdict v inner) ls)
left_levels n v inner [] h a = a
left_levels n v inner (l ∷ ls) h a = record {
  some = a.some;
  few = a.few;
  nested = (subst (λ (r : Option Reg). StandsIn r (innermost_bracket ls)) (sym (verdict_routine inner l v)) a.nested.0, a.nested.1);
  routines = (subst (λ (r : Option Reg). IfSome r (λ reg. reg.born < n)) (sym (verdict_routine inner l v)) a.routines.0, a.routines.1);
  records = (verdict_record v inner h l a.records.0, a.records.1);
}

pub left_level : (n : ℕ) (v : Verdict) (ls : List Bracket) → 2 ≤ length ls → AreLevels n ls → AreLevels n (after_leave v ls)
left_level n v [] inner a = a
left_level n v (l ∷ ls) inner a = left_levels n v l.error ls a.records.0
    (record { some = omega arith; few = omega (arith, a.few); nested = a.nested.1; routines = a.routines.1; records = a.records.1 })

pub left_length : (v : Verdict) (ls : List Bracket) → 2 ≤ length ls → length (after_leave v ls) + 1 ≡ length ls
left_length v [] h = absurd (omega arith)
left_length v (l ∷ ls) h = omega (arith, length_innermost (after_verdict v l.error) ls)

-- the outermost bracket alone
pub outermost_level : (n : ℕ) → AreLevels n outermost_alone
outermost_level n = record { some = omega arith; few = omega arith; nested = (tt, tt); routines = (tt, tt); records = (tt, tt) }

-- the record of the error that is open in the innermost bracket
pub open_record : (n : ℕ) (ls : List Bracket) → AreLevels n ls → IfSome (error_in ls) IsRecord
open_record n [] a = tt
open_record n (l ∷ ls) a = a.records.0
