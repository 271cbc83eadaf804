-- The law of chains: an error enters the routines that are eligible for it in their order, each once, until one of
-- them retries or none is left (Authorized Assembler Services Guide, "Providing recovery"; the order of several ESTAI
-- routines, and what a TERM-only record admits, are this profile's). An error is named by the ERROR or LAND at which it
-- is born, of the unit u.
use Rattle.std.specs.Prelude.{Bool, IsSome, IsTrue, List, None, Option, Some, [], drop, false, filter, find, if◌then◌else◌, is_some, length, nat_lt, not, take, true, ℕ, ◌&&◌, ◌++◌, ◌+◌, ◌==◌, ◌∷◌, ◌≡◌, ◌||◌}
use Rattle.std.specs.List.{list_any}
use Rattle.std.specs.Option.{option_and_then, option_map, option_map_or}
use Rattle.rtm_deck_items.specs.View.{DeckView}
use Rattle.rtm_model.specs.declared.entry.Entry.{Entry}
use Rattle.rtm_model.specs.declared.entry.Verdict.{Verdict}
use Rattle.rtm_model.specs.declared.entry.Verdict.TheVariants.{Fail, Retry, Stop}
use Rattle.rtm_model.specs.declared.entry.What.{What}
use Rattle.rtm_model.specs.declared.entry.What.TheVariants.{Begin, Enter, Leave, Purge}
use Rattle.rtm_model.specs.declared.reg.Kind.{Kind}
use Rattle.rtm_model.specs.declared.reg.Reg.{Reg}
use Rattle.rtm_model.specs.Advance.{world}
use Rattle.rtm_model.specs.Course.{course_of, is_fail, is_valid_retry, opens_error}
use Rattle.rtm_model.specs.Eligible.{AreDistinct, AreFalling, bracket_list, is_named, is_same_kind, list_of}
use Rattle.rtm_model.specs.Entries.{OpenBracket, Opening, bracket, brackets_after, brackets_of, enclosing_brackets, error_at, is_open, outermost_bracket}
use Rattle.rtm_model.specs.Levels.{error_in, record_in}
use Rattle.rtm_model.specs.Moments.{IsAt, core_before}
use Rattle.rtm_model.specs.Tasks.{is_number}
use Rattle.rtm_model.specs.World.{core_at}

-- The chain of an error

-- the ENTER of that index
abbrev pub opening_at : ℕ → What → List Opening
opening_at n (Enter kind born mark bare) = record { at = n; kind = kind; born = born } ∷ []
opening_at n _ = []

-- the entry is made where the error is open in the unit's innermost bracket
abbrev pub is_made_for : ℕ → ℕ → Entry → List OpenBracket → Bool
is_made_for error u e brackets = (e.unit == u) && is_number error (error_at brackets)

abbrev pub chain_from : ℕ → ℕ → ℕ → List OpenBracket → List Entry → List Opening
chain_from error u n brackets [] = []
chain_from error u n brackets (e ∷ es) =
    (if is_made_for error u e brackets then opening_at n e.what else [])
    ++ chain_from error u (n + 1) (brackets_after u n e brackets) es

-- the ENTERs that are made for the error, in order
abbrev pub chain : ℕ → ℕ → List Entry → List Opening
chain error u history = chain_from error u 0 outermost_bracket history

-- a routine is left: the LEAVE of that index
pub record Leaving : Type 0 where
  pub at : ℕ
  pub kind : Kind
  pub born : ℕ
  pub verdict : Verdict

abbrev pub leaving_at : ℕ → What → List Leaving
leaving_at n (Leave kind born verdict logrec dump) =
    record { at = n; kind = kind; born = born; verdict = verdict } ∷ []
leaving_at n _ = []

abbrev pub leavings_from : ℕ → ℕ → ℕ → List OpenBracket → List Entry → List Leaving
leavings_from error u n brackets [] = []
leavings_from error u n brackets (e ∷ es) =
    (if is_made_for error u e (enclosing_brackets brackets) then leaving_at n e.what else [])
    ++ leavings_from error u (n + 1) (brackets_after u n e brackets) es

-- the LEAVEs of routines that were entered for the error, in order
abbrev pub leavings : ℕ → ℕ → List Entry → List Leaving
leavings error u history = leavings_from error u 0 outermost_bracket history

-- each is left under the name by which it was entered; the last may still run
abbrev pub are_left : List Opening → List Leaving → Bool
are_left openings [] = true
are_left [] (leaving ∷ later) = false
are_left (opening ∷ openings) (leaving ∷ later) =
    is_same_kind opening.kind leaving.kind && (opening.born == leaving.born) && are_left openings later

-- What is left of the list

-- what follows the routines of that chain, which stand at the front of the list; none where they don't
abbrev pub rest_after : List Opening → List Reg → Option (List Reg)
rest_after [] regs = Some regs
rest_after (opening ∷ openings) [] = None
rest_after (opening ∷ openings) (reg ∷ regs) =
    if is_named opening.kind opening.born reg then rest_after openings regs else None

-- its routine has failed by an error that admits routines with TERM=YES alone
abbrev pub is_term_only : DeckView → List Entry → ℕ → ℕ → Bool
is_term_only d history i u = option_map_or (λ r. r.flags.term_only) (error_in (core_before d history i u).levels) false

abbrev pub forces_end : DeckView → List Entry → ℕ → Leaving → Bool
forces_end d history u leaving = is_fail leaving.verdict && is_term_only d history leaving.at u

-- the index of the first such LEAVE
abbrev pub forced_end_at : DeckView → List Entry → ℕ → ℕ → Option ℕ
forced_end_at d history error u =
    option_map (λ (l : Leaving). l.at) (find (forces_end d history u) (leavings error u history))

-- the part of the chain before that LEAVE, and the part after it
abbrev pub is_before : Option ℕ → Opening → Bool
is_before forced opening = option_map_or (nat_lt opening.at) forced true

abbrev pub free_chain : DeckView → List Entry → ℕ → ℕ → List Opening
free_chain d history error u = filter (is_before (forced_end_at d history error u)) (chain error u history)

abbrev pub forced_chain : DeckView → List Entry → ℕ → ℕ → List Opening
forced_chain d history error u =
    filter (λ opening. not (is_before (forced_end_at d history error u) opening)) (chain error u history)

-- from such a failure on, those with TERM=YES alone
abbrev pub routines_after : Option ℕ → List Reg → List Reg
routines_after None regs = regs
routines_after (Some forced) regs = filter (λ reg. reg.term) regs

-- what is left of the list: none where the chain goes another way
abbrev pub rest_of_list : DeckView → List Entry → ℕ → ℕ → Option (List Reg)
rest_of_list d history error u =
    option_and_then
    (λ rest. rest_after (forced_chain d history error u) (routines_after (forced_end_at d history error u) rest))
    (rest_after (free_chain d history error u) (list_of d history error u))

-- no two of the chain have one name
abbrev pub is_opening_of : Opening → Opening → Bool
is_opening_of one other = is_same_kind one.kind other.kind && (one.born == other.born)

abbrev pub are_entered_once : List Opening → Bool
are_entered_once [] = true
are_entered_once (opening ∷ later) = not (list_any (is_opening_of opening) later) && are_entered_once later

-- The ways to end

-- the whole list was entered and left
abbrev pub is_used_up : DeckView → List Entry → ℕ → ℕ → Bool
is_used_up d history error u =
    option_map_or (λ regs. length regs == 0) (rest_of_list d history error u) false
    && (length (chain error u history) == length (leavings error u history))

-- its last routine has said Stop
abbrev pub is_stop : Verdict → Bool
is_stop Stop = true
is_stop _ = false

abbrev pub ends_in_stop : List Leaving → Bool
ends_in_stop [] = false
ends_in_stop (leaving ∷ []) = is_stop leaving.verdict
ends_in_stop (leaving ∷ next ∷ later) = ends_in_stop (next ∷ later)

-- the bracket was opened for the routine of that name
abbrev pub is_opened_for : Kind → ℕ → Opening → Bool
is_opened_for kind born opening = is_same_kind kind opening.kind && (opening.born == born)

abbrev pub is_own : Kind → ℕ → Option Opening → Bool
is_own kind born opening = option_map_or (is_opened_for kind born) opening false

abbrev pub is_outside : Option Opening → Bool
is_outside opening = option_map_or (λ opening. false) opening true

-- the innermost bracket is that of a routine which was entered for the error
abbrev pub is_entered_for : ℕ → List OpenBracket → Bool
is_entered_for error brackets = is_number error (error_at (enclosing_brackets brackets))

-- A LEAVE with that verdict ends it: with Retry of the routine that was entered for it last and runs, whose record has
-- RC=4 and allows it; or, once the whole list was entered and left, with Fail of the bracket's own routine
abbrev pub ends_by_leave : DeckView → List Entry → ℕ → ℕ → Kind → ℕ → Verdict → Bool
ends_by_leave d front error u kind born (Retry place) =
    is_entered_for error (brackets_of u front) && is_own kind born (bracket u front)
    && is_valid_retry (record_in (core_at u (world d front)).levels)
ends_by_leave d front error u kind born Fail = is_own kind born (bracket u front) && is_used_up d front error u
ends_by_leave d front error u kind born _ = false

-- and so does, in the outermost bracket, the unit's BEGIN once the whole list was entered and left, or after a Stop;
-- and a purge of the unit
abbrev pub ends_by : DeckView → List Entry → ℕ → ℕ → What → Bool
ends_by d front error u (Leave kind born verdict logrec dump) = ends_by_leave d front error u kind born verdict
ends_by d front error u (Begin code dump) =
    is_outside (bracket u front) && (is_used_up d front error u || ends_in_stop (leavings error u front))
ends_by d front error u (Purge unit) = unit == u
ends_by d front error u _ = false

-- the error is open before the entry of index k, and not after it
pub record EndsAt (history : List Entry) (error u k : ℕ) : Type 0 where
  pub lived : is_open error u (take k history) ≡ true
  pub gone : is_open error u (take (k + 1) history) ≡ false

-- Error by error

-- the first entry, of those from the index k on, after which the error isn't open, may end it; or none is
abbrev pub ends_rightly_from : DeckView → List Entry → ℕ → ℕ → ℕ → List Entry → Bool
ends_rightly_from d history error u k [] = true
ends_rightly_from d history error u k (e ∷ es) =
    if is_open error u (take (k + 1) history) then ends_rightly_from d history error u (k + 1) es
    else ends_by d (take k history) error u e.what

-- that an error keeps the law can be computed: its chain goes along its list, enters none twice and is left under the
-- same names, it ends in one of the ways, and it has a course
abbrev pub keeps_chain : DeckView → List Entry → ℕ → ℕ → Bool
keeps_chain d history error u =
    is_some (rest_of_list d history error u) && are_entered_once (chain error u history)
    && are_left (chain error u history) (leavings error u history)
    && ends_rightly_from d history error u (error + 1) (drop (error + 1) history)
    && is_some (course_of d history error u)

abbrev pub keeps_chains_from : DeckView → List Entry → ℕ → List Entry → Bool
keeps_chains_from d history i [] = true
keeps_chains_from d history i (e ∷ es) =
    (not (opens_error e.what) || keeps_chain d history i e.unit) && keeps_chains_from d history (i + 1) es

abbrev pub keeps_chains : DeckView → List Entry → Bool
keeps_chains d history = keeps_chains_from d history 0 history

-- The law

-- what the error keeps that is born at the entry of index i, an entry of the unit u
pub record IsChained (d : DeckView) (history : List Entry) (i u : ℕ) : Type 0 where
  -- the FRRs and ESTAE routines of its list stand by falling birth, and no routine stands twice in it
  pub falling : AreFalling (bracket_list (core_before d history (i + 1) u))
  pub distinct : AreDistinct (list_of d history i u)
  -- until a routine has failed by a TERM-only error, the chain is a prefix of the list
  pub free : IsSome (rest_after (free_chain d history i u) (list_of d history i u))
  -- and from then on it goes on with a prefix of those of the rest that have TERM=YES
  pub forced : IsSome (rest_of_list d history i u)
  -- no routine stands twice in the chain, and each is left under its own name
  pub once : IsTrue (are_entered_once (chain i u history))
  pub left : IsTrue (are_left (chain i u history) (leavings i u history))
  -- The error ends in one of five ways: by a valid retry of the last routine of the chain; after a Stop by BEGIN; after
  -- the whole list by a LEAVE with Fail of the bracket's own routine, or in the outermost bracket by BEGIN; by a
  -- purge; or the history ends first.
  pub ends : (k : ℕ) (e : Entry) → IsAt history k e → EndsAt history i u k
      → IsTrue (ends_by d (take k history) i u e.what)
  -- step by step it goes the same way
  pub course : IsSome (course_of d history i u)

-- each error keeps it
pub record ChainLaw (d : DeckView) (history : List Entry) : Type 0 where
  pub chained : (i : ℕ) (e : Entry) → IsAt history i e → opens_error e.what ≡ true → IsChained d history i e.unit
  -- error by error it is kept
  pub each : IsTrue (keeps_chains d history)
