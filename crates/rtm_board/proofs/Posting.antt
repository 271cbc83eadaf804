-- The notes of a deck's commands: how they come off the board, once all are posted.
use Rattle.std.proofs.Common.{◌≡◌, ℕ, ◌<◌, Bool, true, false, List, [], ◌∷◌, length, map, refl, sym, ap, subst, ◌∙◌, arith}
use Rattle.std.specs.Prelude.{if◌then◌else◌, ◌==◌, ◌||◌}
use Rattle.std.specs.List.{range_with_len}
use Rattle.std.proofs.lemmas.Bool.{eqb-true, or_right}
use Rattle.std.proofs.lemmas.Bool.Decides.{nat_tests}
use Rattle.rtm_deck_items.specs.View.{DeckView}
use Rattle.rtm_board.specs.Commands.{has, no_commands, union_of, with_one}
use Rattle.rtm_board.specs.View.{AreAccountedFor, BoardView, ConsoleView, IsAccountedFor, IsOpening, UnitView, commands_taken_by, opening_seat, targets_of, with_command}
use Rattle.rtm_board.proofs.Keeping.{all_posted, if_console, if_posted}
use Rattle.rtm_board.proofs.Sets.{has_none, has_with}
use Rattle.rtm_board.specs.All.{AreAll}

eqb_same : (n : ℕ) → (n == n) ≡ true
eqb_same n = grind (arith, nat_tests)

-- one more post
pub same_targets : (cmd : ℕ) (old new : BoardView) (before after : ConsoleView) → before.targets ≡ old.targets → new ≡ (if has cmd before.posted then old else with_command cmd old)
    → after ≡ (if has cmd before.posted then before else record before { posted = with_one cmd before.posted }) → after.targets ≡ new.targets
same_targets cmd old new before after same b c = if_console (has cmd before.posted) cmd before after c ∙ same ∙ sym (if_posted (has cmd before.posted) cmd old new b).0

pub accounts_kept : (cmd : ℕ) (old new : BoardView) (before after : ConsoleView) (seats : List UnitView) → new ≡ (if has cmd before.posted then old else with_command cmd old)
    → ((unit : UnitView) → IsAccountedFor old before unit → IsAccountedFor new after unit) → AreAccountedFor old before seats → AreAccountedFor new after seats
accounts_kept cmd old new before after seats b each all = all_posted old new before after seats (if_posted (has cmd before.posted) cmd old new b).1 each all

posted_if : (cmd other : ℕ) (was : Bool) (before after : ConsoleView) → has cmd before.posted ≡ was → after ≡ (if was then before else record before { posted = with_one cmd before.posted })
    → ((other == cmd) || has other before.posted) ≡ true → has other after.posted ≡ true
posted_if cmd other true before after w a h = ap (λ (c : ConsoleView). has other c.posted) a ∙ there (other == cmd) refl h
  where
    there : (same : Bool) → (other == cmd) ≡ same → (same || has other before.posted) ≡ true → has other before.posted ≡ true
    there true s h = subst (λ (c : ℕ). has c before.posted ≡ true) (sym (eqb-true other cmd s)) w
    there false s h = h
posted_if cmd other false before after w a h = ap (λ (c : ConsoleView). has other c.posted) a ∙ has_with other cmd before.posted ∙ h

pub posted_now : (cmd : ℕ) (before after : ConsoleView) → after ≡ (if has cmd before.posted then before else record before { posted = with_one cmd before.posted }) → has cmd after.posted ≡ true
posted_now cmd before after a = posted_if cmd cmd (has cmd before.posted) before after refl a (ap (λ (b : Bool). b || has cmd before.posted) (eqb_same cmd))

pub posted_before : (cmd other : ℕ) (before after : ConsoleView) → after ≡ (if has cmd before.posted then before else record before { posted = with_one cmd before.posted }) → has other before.posted ≡ true → has other after.posted ≡ true
posted_before cmd other before after a h = posted_if cmd other (has cmd before.posted) before after refl a (or_right (other == cmd) (has other before.posted) h)

-- no seat has taken any at the opening
none_taken : (targets units : List ℕ) → commands_taken_by (map (opening_seat targets) units) ≡ no_commands
none_taken targets [] = refl
none_taken targets (unit ∷ units) = ap (union_of no_commands) (none_taken targets units)

or_false : (a b : Bool) → (a || b) ≡ true → b ≡ false → a ≡ true
or_false true b e f = refl
or_false false b e f = absurd cc

-- what stands on the board is all that was posted
pub all_stand : (d : DeckView) (opened : BoardView) (console posted : ConsoleView) (seats : List UnitView) (notes count : ℕ) → IsOpening (targets_of d) (length d.units) opened console seats
    → ((cmd : ℕ) → cmd < count → has cmd posted.posted ≡ true) → count ≡ length d.commands → ((cmd : ℕ) → (has cmd notes || has cmd (commands_taken_by seats)) ≡ has cmd posted.posted) → AreAll d notes
all_stand d opened console posted seats notes count o all n stands cmd below =
    let none : has cmd (commands_taken_by seats) ≡ false =
    ap (λ (s : List UnitView). has cmd (commands_taken_by s)) o.seats_are ∙ ap (has cmd) (none_taken (targets_of d) (range_with_len 0 (length d.units))) ∙ has_none cmd in
    or_false (has cmd notes) (has cmd (commands_taken_by seats)) (stands cmd ∙ all cmd (omega (arith, below, n))) none
