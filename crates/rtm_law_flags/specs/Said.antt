-- What entries alone say of units and of the machine, beside rtm_model/specs/Entries: births and ends of units, events
-- that are posted, commands that have arrived, and the code and the end of the address space (this profile).
use Rattle.std.specs.Prelude.{Bool, List, None, Option, Some, [], false, filter, if◌then◌else◌, length, true, ℕ, ◌&&◌, ◌==◌, ◌||◌, ◌∷◌}
use Rattle.std.specs.List.{list_any}
use Rattle.rtm_codes.specs.declared.code.Code.{Code}
use Rattle.rtm_deck_items.specs.Reading.{job_step, op_at}
use Rattle.rtm_deck_items.specs.View.{DeckView}
use Rattle.rtm_deck_items.specs.declared.op.Op.{Op}
use Rattle.rtm_deck_items.specs.declared.op.Op.TheVariants.{Attachx, Memterm, Post, Schedule}
use Rattle.rtm_model.specs.declared.entry.Entry.{Entry}
use Rattle.rtm_model.specs.declared.entry.What.{What}
use Rattle.rtm_model.specs.declared.entry.What.TheVariants.{Done, Exec, MemEnd, Purge}
use Rattle.rtm_model.specs.Moments.{is_arrival}

-- Births and ends of units

-- ATTACHX or SCHEDULE has brought that unit to life
abbrev pub says_birth : ℕ → ℕ → Op → Bool
says_birth rc unit (Attachx subtask estai term) = (rc == 0) && (subtask == unit)
says_birth rc unit (Schedule srb) = (rc == 0) && (srb == unit)
says_birth rc unit _ = false

abbrev pub gives_birth : DeckView → ℕ → What → Bool
gives_birth d unit (Exec at rc) = says_birth rc unit (op_at d at.prog at.op)
gives_birth d unit _ = false

-- the job step task lives from the start
abbrev pub is_born : DeckView → ℕ → List Entry → Bool
is_born d unit history = (unit == job_step d) || list_any (λ (e : Entry). gives_birth d unit e.what) history

-- the entry is the unit's DONE or its PURGE
abbrev pub ends_life : ℕ → ℕ → What → Bool
ends_life unit u (Done code to_task to_step) = u == unit
ends_life unit u (Purge purged) = purged == unit
ends_life unit u _ = false

abbrev pub is_gone : ℕ → List Entry → Bool
is_gone unit history = list_any (λ (e : Entry). ends_life unit e.unit e.what) history

-- Events

abbrev pub says_post : ℕ → Op → Bool
says_post event (Post posted) = event == posted
says_post event _ = false

-- the entry is a POST of that event
abbrev pub posts : DeckView → ℕ → What → Bool
posts d event (Exec at rc) = says_post event (op_at d at.prog at.op)
posts d event _ = false

abbrev pub has_posted : DeckView → ℕ → List Entry → Bool
has_posted d event history = list_any (λ (e : Entry). posts d event e.what) history

-- Commands

-- how many commands have arrived for the unit
abbrev pub arrivals : ℕ → List Entry → ℕ
arrivals unit history = length (filter (λ (e : Entry). (e.unit == unit) && is_arrival e.what) history)

-- The address space

-- the code with which it is to end, as CALLRTM TYPE=MEMTERM and the DONE of the job step task say it
abbrev pub code_by_card : Op → Option Code → Option Code
code_by_card (Memterm code) end = Some code
code_by_card _ end = end

abbrev pub end_code_after : DeckView → ℕ → What → Option Code → Option Code
end_code_after d u (Exec at rc) end = code_by_card (op_at d at.prog at.op) end
end_code_after d u (Done code to_task to_step) end = if u == job_step d then Some code else end
end_code_after d u _ end = end

abbrev pub end_code_from : DeckView → List Entry → Option Code → Option Code
end_code_from d [] end = end
end_code_from d (e ∷ es) end = end_code_from d es (end_code_after d e.unit e.what end)

abbrev pub end_code : DeckView → List Entry → Option Code
end_code d history = end_code_from d history None

-- it has ended
abbrev pub ends_space : What → Bool
ends_space MemEnd = true
ends_space _ = false

abbrev pub has_ended_space : List Entry → Bool
has_ended_space history = list_any (λ (e : Entry). ends_space e.what) history
