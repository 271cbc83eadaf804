-- What entries alone say of a unit, where no world is built: which brackets of it are open, with which errors; that it
-- has begun to end; that it is doomed; and that memory end has begun (this profile). The deck is read only for the card
-- that an entry executed.
use Rattle.std.specs.Prelude.{Bool, IsTrue, List, None, Option, Some, [], false, if◌then◌else◌, not, slice_get, true, ℕ, ◌&&◌, ◌+◌, ◌==◌, ◌||◌, ◌∷◌, ◌≡◌}
use Rattle.std.specs.List.{filter_map, list_any}
use Rattle.std.specs.Option.{option_and_then, option_map_or}
use Rattle.rtm_deck_items.specs.Reading.{job_step, op_at}
use Rattle.rtm_deck_items.specs.View.{DeckView}
use Rattle.rtm_deck_items.specs.declared.op.Op.{Op}
use Rattle.rtm_deck_items.specs.declared.op.Op.TheVariants.{Abterm, EstaexCt, EstaexOv, Memterm}
use Rattle.rtm_model.specs.declared.entry.Class.{Class}
use Rattle.rtm_model.specs.declared.entry.Entry.{Entry}
use Rattle.rtm_model.specs.declared.entry.Verdict.{Verdict}
use Rattle.rtm_model.specs.declared.entry.Verdict.TheVariants.{Retry}
use Rattle.rtm_model.specs.declared.entry.What.{What}
use Rattle.rtm_model.specs.declared.entry.What.TheVariants.{Begin, Done, Enter, Error, Exec, Land, Leave, Purge}
use Rattle.rtm_model.specs.declared.reg.Kind.{Kind}
use Rattle.rtm_model.specs.OwnChange.{is_estae}
use Rattle.rtm_model.specs.Levels.{is_frr, is_manager}
use Rattle.rtm_model.specs.Tasks.{is_number}
use Rattle.rtm_model.specs.declared.entry.Class.TheVariants as classes

-- Brackets

-- the ENTER of that index, with the kind of the routine that got control, and the entry of that one's birth
pub record Opening : Type 0 where
  pub at : ℕ
  pub kind : Kind
  pub born : ℕ

-- a bracket: the ENTER that opened it, none in the outermost; and the ERROR or LAND whose error is open in it
pub record OpenBracket : Type 0 where
  pub opening : Option Opening
  pub error : Option ℕ

abbrev pub outermost_bracket : List OpenBracket
outermost_bracket = record { opening = None; error = None } ∷ []

-- that error is open in the innermost bracket, or none
abbrev pub with_error_at : Option ℕ → List OpenBracket → List OpenBracket
with_error_at error [] = []
with_error_at error (b ∷ outer) = record b { error = error } ∷ outer

-- what encloses the innermost bracket
abbrev pub enclosing_brackets : List OpenBracket → List OpenBracket
enclosing_brackets [] = []
enclosing_brackets (b ∷ outer) = outer

-- its routine is left: after a retry the error that the routine was entered for is over
abbrev pub brackets_left : Verdict → List OpenBracket → List OpenBracket
brackets_left (Retry place) brackets = with_error_at None brackets
brackets_left _ brackets = brackets

-- the unit's brackets after an entry of its own, of the index n
abbrev pub own_brackets : ℕ → What → List OpenBracket → List OpenBracket
own_brackets n (Error at mark) brackets = with_error_at (Some n) brackets
own_brackets n (Land class from mark) brackets = with_error_at (Some n) brackets
own_brackets n (Enter kind born mark bare) brackets =
    record { opening = Some (record { at = n; kind = kind; born = born }); error = None } ∷ brackets
own_brackets n (Leave kind born verdict logrec dump) brackets = brackets_left verdict (enclosing_brackets brackets)
own_brackets n (Begin code dump) brackets = outermost_bracket
own_brackets n _ brackets = brackets

-- the entry is the unit's purge
abbrev pub purges : ℕ → What → Bool
purges u (Purge unit) = unit == u
purges u _ = false

abbrev pub brackets_after : ℕ → ℕ → Entry → List OpenBracket → List OpenBracket
brackets_after u n e brackets =
    if purges u e.what then outermost_bracket
    else if e.unit == u then own_brackets n e.what brackets
    else brackets

abbrev pub brackets_from : ℕ → ℕ → List Entry → List OpenBracket → List OpenBracket
brackets_from u n [] brackets = brackets
brackets_from u n (e ∷ es) brackets = brackets_from u (n + 1) es (brackets_after u n e brackets)

-- the unit's brackets after a history, the innermost first
abbrev pub brackets_of : ℕ → List Entry → List OpenBracket
brackets_of u history = brackets_from u 0 history outermost_bracket

-- the ENTERs of the unit that have neither their LEAVE nor its PURGE after them, the newest first
abbrev pub open_enters : ℕ → List Entry → List Opening
open_enters u history = filter_map (λ (b : OpenBracket). b.opening) (brackets_of u history)

-- the ENTER of the innermost bracket; none for the outermost
abbrev pub opening_in : List OpenBracket → Option Opening
opening_in [] = None
opening_in (b ∷ outer) = b.opening

abbrev pub bracket : ℕ → List Entry → Option Opening
bracket u history = opening_in (brackets_of u history)

-- the entry whose error is open in the innermost bracket
abbrev pub error_at : List OpenBracket → Option ℕ
error_at [] = None
error_at (b ∷ outer) = b.error

abbrev pub open_error : ℕ → List Entry → Option ℕ
open_error u history = error_at (brackets_of u history)

-- the error that was born at that entry is open in some bracket of the unit
abbrev pub is_open : ℕ → ℕ → List Entry → Bool
is_open error u history = list_any (λ (b : OpenBracket). is_number error b.error) (brackets_of u history)

-- A unit that has begun to end

-- the entry is the unit's BEGIN
abbrev pub is_begin_of : ℕ → ℕ → What → Bool
is_begin_of u unit (Begin code dump) = unit == u
is_begin_of u unit _ = false

abbrev pub has_begun : ℕ → List Entry → Bool
has_begun u history = list_any (λ (e : Entry). is_begin_of u e.unit e.what) history

-- Aborts that forbid retry

-- CALLRTM TYPE=ABTERM with RETRY=NO (Authorized Assembler Services Reference, CALLRTM)
abbrev pub says_no_retry : Op → Bool
says_no_retry (Abterm unit code reason dump retry) = not retry
says_no_retry _ = false

-- the operation that the entry of that index executed
abbrev pub executed_op : DeckView → What → Option Op
executed_op d (Exec at rc) = Some (op_at d at.prog at.op)
executed_op d _ = None

abbrev pub op_executed_at : DeckView → List Entry → ℕ → Option Op
op_executed_at d history i = option_and_then (λ (e : Entry). executed_op d e.what) (slice_get history i)

-- an abort of that class that was posted at that entry forbids retry: a CANCEL, a DETACH, one that a mother's end or
-- the end of the job step posts, and an ABTERM whose card says so
abbrev pub class_forbids_retry : Class → Option Op → Bool
class_forbids_retry classes.Abterm op = option_map_or says_no_retry op false
class_forbids_retry classes.Srb op = false
class_forbids_retry _ op = true

abbrev pub forbids_retry : DeckView → List Entry → Class → ℕ → Bool
forbids_retry d history class from = class_forbids_retry class (op_executed_at d history from)

abbrev pub ForbidsRetry : DeckView → List Entry → Class → ℕ → Type 0
ForbidsRetry d history class from = IsTrue (forbids_retry d history class from)

-- the unit is doomed: such an abort has landed in it
abbrev pub dooms : DeckView → List Entry → What → Bool
dooms d history (Land class from mark) = forbids_retry d history class from
dooms d history _ = false

abbrev pub is_doomed : DeckView → ℕ → List Entry → Bool
is_doomed d u history = list_any (λ (e : Entry). (e.unit == u) && dooms d history e.what) history

-- Brackets that no abort interrupts

-- ESTAEX with CANCEL=NO (Assembler Services Reference, ESTAEX)
abbrev pub says_cancel_no : Op → Bool
says_cancel_no (EstaexCt prog term cancel xctl) = not cancel
says_cancel_no (EstaexOv prog term cancel xctl) = not cancel
says_cancel_no _ = false

-- the bracket is an FRR's, a resource manager's, or that of an ESTAE routine with CANCEL=NO
abbrev pub holds_off : DeckView → List Entry → Opening → Bool
holds_off d history opening =
    is_frr opening.kind || is_manager opening.kind
    || (is_estae opening.kind && option_map_or says_cancel_no (op_executed_at d history opening.born) false)

abbrev pub is_held_off : DeckView → ℕ → List Entry → Bool
is_held_off d u history = list_any (holds_off d history) (open_enters u history)

-- Memory end

abbrev pub says_memory_end : Op → Bool
says_memory_end (Memterm code) = true
says_memory_end _ = false

-- an EXEC of CALLRTM TYPE=MEMTERM, or the DONE of the job step task
abbrev pub begins_memory_end : DeckView → ℕ → What → Bool
begins_memory_end d unit (Exec at rc) = says_memory_end (op_at d at.prog at.op)
begins_memory_end d unit (Done code to_task to_step) = unit == job_step d
begins_memory_end d unit _ = false

abbrev pub memory_end_begun : DeckView → List Entry → Bool
memory_end_begun d history = list_any (λ (e : Entry). begins_memory_end d e.unit e.what) history

-- Deaths of aborts

-- the entry of that unit lands the abort of the unit u, or is u's BEGIN or PURGE
abbrev pub EndsAbort : ℕ → Class → ℕ → ℕ → What → Type 0
EndsAbort u class from unit (Land class2 from2 mark) = (unit ≡ u) × (class2 ≡ class) × (from2 ≡ from)
EndsAbort u class from unit (Begin code dump) = unit ≡ u
EndsAbort u class from unit (Purge purged) = purged ≡ u
EndsAbort u class from unit _ = ⊥
