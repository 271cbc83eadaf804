-- The course of an error: the routines that are eligible for it, as they are entered and left, to its end (Authorized
-- Assembler Services Guide, "Providing recovery"; what a routine may not do is this profile's). An error is known by
-- its bracket: which entries are its own is read off by counting the brackets that open and close inside that one.
use Rattle.std.specs.Prelude.{Bool, IsSome, List, None, Option, Some, [], drop, false, filter, if◌then◌else◌, length, not, true, ℕ, ◌&&◌, ◌+◌, ◌-◌, ◌==◌, ◌∷◌, ◌≡◌}
use Rattle.std.specs.Option.{option_and_then, option_map, option_map_or}
use Rattle.rtm_deck_items.specs.View.{DeckView}
use Rattle.rtm_model.specs.declared.entry.Entry.{Entry}
use Rattle.rtm_model.specs.declared.entry.Verdict.{Verdict}
use Rattle.rtm_model.specs.declared.entry.Verdict.TheVariants.{Bad, Fail, Over, Perc, Retry, Stop}
use Rattle.rtm_model.specs.declared.entry.What.{What}
use Rattle.rtm_model.specs.declared.entry.What.TheVariants.{Arrive, Begin, Enter, Error, Exec, Land, Leave}
use Rattle.rtm_model.specs.declared.error_record.ErrorRecord.{ErrorRecord}
use Rattle.rtm_model.specs.declared.reg.Kind.{Kind}
use Rattle.rtm_model.specs.declared.reg.Reg.{Reg}
use Rattle.rtm_model.specs.Advance.{advance}
use Rattle.rtm_model.specs.Eligible.{is_named, list_of}
use Rattle.rtm_model.specs.Entries.{purges}
use Rattle.rtm_model.specs.Levels.{current, error_in, record_in}
use Rattle.rtm_model.specs.Moments.{IsAt, before}
use Rattle.rtm_model.specs.NextEntry.{is_outermost}
use Rattle.rtm_model.specs.World.{Core, World, core_at}

-- Its bracket is the innermost, and that much is left of its list; or the routine runs that was entered last, and that
-- many brackets are open inside the routine's; or its last routine has said Stop; or it has ended.
pub data Course : Type 0 where
  Goes : (left : List Reg) → Course
  Runs : (routine : Reg) → (left : List Reg) → (inside : ℕ) → Course
  Stopped : Course
  Closed : Course

-- it ends where that holds, and else the law is broken
abbrev pub close_if : Bool → Option Course
close_if holds = if holds then Some Closed else None

-- the first of the list is entered
abbrev pub enter_first : Kind → ℕ → List Reg → Option Course
enter_first kind born [] = None
enter_first kind born (reg ∷ left) = if is_named kind born reg then Some (Runs reg left 0) else None

abbrev pub is_fail : Verdict → Bool
is_fail Fail = true
is_fail _ = false

-- nothing is left of its list, and the routine in whose bracket it is open has failed
abbrev pub has_failed : Core → Kind → ℕ → Verdict → List Reg → Bool
has_failed c kind born verdict left =
    is_fail verdict && (length left == 0) && option_map_or (is_named kind born) (current c.levels) false

-- The error's bracket is the innermost: its next routine is entered; or, where none is left, the bracket's own
-- routine has failed, or in the outermost bracket the unit begins to end.
abbrev pub at_error : Core → What → List Reg → Option Course
at_error c (Enter kind born mark bare) left = enter_first kind born left
at_error c (Leave kind born verdict logrec dump) left = close_if (has_failed c kind born verdict left)
at_error c (Begin code dump) left = close_if (is_outermost c.levels && (length left == 0))
at_error c (Arrive cmd _) left = Some (Goes left)
at_error c _ left = None

-- what is left after a routine has failed: by an error that admits routines with TERM=YES alone, those; it fails by an
-- error alone
abbrev pub rest_by : ErrorRecord → List Reg → List Reg
rest_by inner left = if inner.flags.term_only then filter (λ reg. reg.term) left else left

abbrev pub after_failing : Option ErrorRecord → List Reg → Option Course
after_failing inner left = option_map (λ r. Goes (rest_by r left)) inner

-- a retry is asked for by RC=4, and not forbidden
abbrev pub is_valid_retry : Option ErrorRecord → Bool
is_valid_retry r = option_map_or (λ r. (r.rc == 4) && not r.flags.clup) r false

-- its routine has come to an end
abbrev pub after_routine : Core → Verdict → List Reg → Option Course
after_routine c (Retry place) left = close_if (is_valid_retry (record_in c.levels))
after_routine c Stop left = Some Stopped
after_routine c Perc left = Some (Goes left)
after_routine c Bad left = Some (Goes left)
after_routine c Fail left = after_failing (error_in c.levels) left
after_routine c Over left = None

-- Its routine runs: it is left under its own name. Other entries of its unit go on inside it, but for those of an
-- ending.
abbrev pub in_routine : Core → What → Reg → List Reg → Option Course
in_routine c (Leave kind born verdict logrec dump) routine left =
    if is_named kind born routine then after_routine c verdict left else None
in_routine c (Enter kind born mark bare) routine left = Some (Runs routine left 1)
in_routine c (Exec at rc) routine left = Some (Runs routine left 0)
in_routine c (Error at mark) routine left = Some (Runs routine left 0)
in_routine c (Land class from mark) routine left = Some (Runs routine left 0)
in_routine c (Arrive cmd _) routine left = Some (Runs routine left 0)
in_routine c _ routine left = None

-- brackets are open inside its routine's
abbrev pub inside_routine : What → Reg → List Reg → ℕ → Option Course
inside_routine (Leave kind born verdict logrec dump) routine left inside = Some (Runs routine left (inside - 1))
inside_routine (Enter kind born mark bare) routine left inside = Some (Runs routine left (inside + 1))
inside_routine (Exec at rc) routine left inside = Some (Runs routine left inside)
inside_routine (Error at mark) routine left inside = Some (Runs routine left inside)
inside_routine (Land class from mark) routine left inside = Some (Runs routine left inside)
inside_routine (Arrive cmd _) routine left inside = Some (Runs routine left inside)
inside_routine _ routine left inside = None

abbrev pub runs_on : Core → What → Reg → List Reg → ℕ → Option Course
runs_on c what routine left inside =
    if inside == 0 then in_routine c what routine left else inside_routine what routine left inside

-- after a Stop the unit begins to end
abbrev pub after_stop : Core → What → Option Course
after_stop c (Begin code dump) = close_if (is_outermost c.levels)
after_stop c (Arrive cmd _) = Some Stopped
after_stop c _ = None

-- the course after an entry of the error's unit, whose control blocks were those before it; none where the law is
-- broken
abbrev pub course_by : Core → What → Course → Option Course
course_by c what (Goes left) = at_error c what left
course_by c what (Runs routine left inside) = runs_on c what routine left inside
course_by c what Stopped = after_stop c what
course_by c what Closed = Some Closed

-- the course after an entry: a purge of the unit ends the error, and other units' entries leave it as it is
abbrev pub course_after : ℕ → World → Entry → Course → Option Course
course_after u w e course =
    if purges u e.what then Some Closed else if e.unit == u then course_by (core_at u w) e.what course else Some course

-- the course after these entries, of which the first has the index n and is made where w lives
abbrev pub course_in : DeckView → ℕ → World → ℕ → List Entry → Course → Option Course
course_in d u w n [] course = Some course
course_in d u w n (e ∷ es) course =
    option_and_then (λ after. course_in d u (advance d w n e) (n + 1) es after) (course_after u w e course)

-- the course of the error that is born at the entry of index i, an entry of the unit u, through the rest of the history
abbrev pub course_of : DeckView → List Entry → ℕ → ℕ → Option Course
course_of d history i u =
    course_in d u (before d history (i + 1)) (i + 1) (drop (i + 1) history) (Goes (list_of d history i u))

-- an error is born
abbrev pub opens_error : What → Bool
opens_error (Error at mark) = true
opens_error (Land class from mark) = true
opens_error _ = false

-- each error has a course
pub record HasCourses (d : DeckView) (history : List Entry) : Type 0 where
  pub has : (i : ℕ) (e : Entry) → IsAt history i e → opens_error e.what ≡ true → IsSome (course_of d history i e.unit)
