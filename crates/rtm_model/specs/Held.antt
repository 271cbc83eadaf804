-- What is held after a history, and what was released, by its entries alone: GET makes a holding; FREE, and RELEASE
-- when its owner or the address space ends, take the newest equal one away (this profile).
use Rattle.std.specs.Prelude.{Bool, List, [], false, filter, if◌then◌else◌, length, true, ℕ, ◌&&◌, ◌+◌, ◌==◌, ◌∷◌}
use Rattle.std.specs.List.{flat_map}
use Rattle.rtm_deck_items.specs.Reading.{op_at}
use Rattle.rtm_deck_items.specs.View.{DeckView}
use Rattle.rtm_deck_items.specs.declared.op.Op.{Op}
use Rattle.rtm_deck_items.specs.declared.op.Op.TheVariants.{Free, Get}
use Rattle.rtm_deck_operands.specs.declared.value.Res.{Res}
use Rattle.rtm_deck_operands.specs.declared.value.Res.TheVariants.{Dsn, Enq, Stor, Timr}
use Rattle.rtm_model.specs.declared.entry.Entry.{Entry}
use Rattle.rtm_model.specs.declared.entry.What.{What}
use Rattle.rtm_model.specs.declared.entry.What.TheVariants.{Exec, Release}
use Rattle.rtm_model.specs.declared.holding.Holding.{Holding}
use Rattle.rtm_model.specs.Chains.{without_first}

abbrev pub is_same_res : Res → Res → Bool
is_same_res Enq Enq = true
is_same_res Stor Stor = true
is_same_res Dsn Dsn = true
is_same_res Timr Timr = true
is_same_res _ _ = false

-- the holding is one of that owner, class and number
abbrev pub is_equal_holding : ℕ → Res → ℕ → Holding → Bool
is_equal_holding owner class id holding =
    (holding.owner == owner) && is_same_res class holding.class && (holding.id == id)

-- a card of the unit that was executed at the entry of index n
abbrev pub holdings_after_card : ℕ → ℕ → Op → List Holding → List Holding
holdings_after_card n u (Get class id) held = record { born = n; class = class; id = id; owner = u } ∷ held
holdings_after_card n u (Free class id) held = without_first (is_equal_holding u class id) held
holdings_after_card n u _ held = held

abbrev pub holdings_after : DeckView → ℕ → ℕ → What → List Holding → List Holding
holdings_after d n u (Exec at rc) held = if rc == 0 then holdings_after_card n u (op_at d at.prog at.op) held else held
holdings_after d n u (Release class id owner) held = without_first (is_equal_holding owner class id) held
holdings_after d n u _ held = held

abbrev pub holdings_from : DeckView → ℕ → List Entry → List Holding → List Holding
holdings_from d n [] held = held
holdings_from d n (e ∷ es) held = holdings_from d (n + 1) es (holdings_after d n e.unit e.what held)

-- the holdings that live after the history, the newest first
abbrev pub living_holdings : DeckView → List Entry → List Holding
living_holdings d history = holdings_from d 0 history []

-- how many of that owner, class and number live: equal ones differ in age alone
abbrev pub times_held : DeckView → List Entry → ℕ → Res → ℕ → ℕ
times_held d history owner class id = length (filter (is_equal_holding owner class id) (living_holdings d history))

-- Releases

abbrev pub release_by : Res → What → List (ℕ × ℕ)
release_by class (Release class2 id owner) = if is_same_res class class2 then (owner, id) ∷ [] else []
release_by class _ = []

-- the owner and the number of each resource of the class that was released, in order
abbrev pub releases : Res → List Entry → List (ℕ × ℕ)
releases class history = flat_map (λ (e : Entry). release_by class e.what) history
