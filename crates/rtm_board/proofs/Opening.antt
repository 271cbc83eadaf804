-- The seats at the start, one by one.
use Rattle.std.proofs.Common.{◌≡◌, ℕ, zero, suc, ◌+◌, ◌<◌, ◌≤◌, false, List, [], ◌∷◌, ◌++◌, length, map, replicate, arith}
use Rattle.std.specs.Prelude.{nat_le, slice_index, slice_get, IsTrue}
use Rattle.std.specs.Option.{option_map_or}
use Rattle.std.specs.List.{AllByRecursion, range_with_len, list_all}
use Rattle.std.proofs.lemmas.List.{length-map}
use Rattle.rtm_deck_items.specs.declared.deck.Command.{Command}
use Rattle.rtm_deck_items.specs.declared.deck.Unit.{Unit as UnitCard}
use Rattle.rtm_deck_items.specs.View.{DeckView}
use Rattle.rtm_deck_items.specs.Reading.{is_task_card}
use Rattle.rtm_deck_items.specs.WellFormed.{is_well_formed, is_command_of, is_task_in}
use Rattle.rtm_deck_items.proofs.FormFacts.{conditions, limits}
use Rattle.rtm_deck_items.proofs.Lists.{both_true}
use Rattle.rtm_board.specs.Commands.{no_commands}
use Rattle.rtm_board.proofs.Accounts.{board_opening}
use Rattle.std.proofs.lemmas.List.FromFn.{length-map-range_with_len, map-range_with_len_more}
use Rattle.rtm_board.specs.View.{opening_seat, targets_of, IsBoard}

pub seats_count : (targets : List ℕ) (n : ℕ) → length (map (opening_seat targets) (range_with_len 0 n)) ≡ n
seats_count targets n = length-map-range_with_len (opening_seat targets) 0 n

pub one_more_seat : (targets : List ℕ) (n : ℕ) → map (opening_seat targets) (range_with_len 0 (n + 1)) ≡ map (opening_seat targets) (range_with_len 0 n) ++ opening_seat targets n ∷ []
one_more_seat targets n = map-range_with_len_more (opening_seat targets) 0 n n (omega arith)

-- who is there has a number below theirs
there_below : (units : List UnitCard) (target : ℕ) → IsTrue (option_map_or is_task_card (slice_get units target) false) → target < length units
there_below [] target h = absurd cc
there_below (unit ∷ units) zero h = omega arith
there_below (unit ∷ units) (suc target) h = omega (arith, there_below units target h)

-- each target is that of one of the deck's commands
targets_within : (d : DeckView) (commands : List Command) → IsTrue (list_all (is_command_of d) commands) → AllByRecursion (λ target. target < length d.units) (map (λ (command : Command). command.target) commands)
targets_within d [] h = tt
targets_within d (x ∷ xs) h =
    let parts = both_true (is_command_of d x) (list_all (is_command_of d) xs) h in
    let command = both_true (is_task_in d x.target) (nat_le x.at 100000) parts.0 in
    (there_below d.units x.target command.0, targets_within d xs parts.1)

pub few_commands : (d : DeckView) → IsTrue (is_well_formed d) → length (targets_of d) ≤ 64
few_commands d h = omega (arith, (limits d h).commands, length-map d.commands (λ (command : Command). command.target))

pub targets_of_units : (d : DeckView) → IsTrue (is_well_formed d) → AllByRecursion (λ target. target < length d.units) (targets_of d)
targets_of_units d h = targets_within d d.commands (conditions d h).commands

-- by the command's number
target_within : (n : ℕ) (targets : List ℕ) → AllByRecursion (λ target. target < n) targets → (c : ℕ) → c < length targets → slice_index targets c < n
target_within n [] h c below = absurd (omega arith)
target_within n (x ∷ xs) h zero below = h.0
target_within n (x ∷ xs) h (suc c) below = target_within n xs h.1 c (omega arith)

pub board_of : (targets : List ℕ) (units : ℕ) → length targets ≤ 64 → AllByRecursion (λ target. target < units) targets → IsBoard targets (replicate units no_commands)
board_of targets units few within = board_opening targets units few (target_within units targets within)
