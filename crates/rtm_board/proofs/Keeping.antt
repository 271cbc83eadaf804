-- How a caller carries the account of all seats through posts and takings.
use Rattle.std.proofs.Common.{◌≡◌, ◌≢◌, ℕ, zero, suc, ◌+◌, ◌<◌, Bool, true, false, List, [], ◌∷◌, length, sym, ap, subst, ◌∙◌, arith}
use Rattle.std.specs.Prelude.{slice_index_or, slice_set, if◌then◌else◌}
use Rattle.std.specs.List.{AllByRecursion}
use Rattle.std.proofs.lemmas.List.{length-set}
use Rattle.rtm_board.specs.Commands.{with_one}
use Rattle.rtm_board.specs.View.{BoardView, ConsoleView, UnitView, word_of, target_of, with_command, IsSeatOf, AreSeatsFrom, IsAccountedFor, AreAccountedFor}

-- the seats are still all of the board's
in_order : (old new : BoardView) (console : ConsoleView) (u : ℕ) (seats : List UnitView) → length new.words ≡ length old.words → AreSeatsFrom old u seats → AllByRecursion (IsAccountedFor new console) seats → AreSeatsFrom new u seats
in_order old new console u [] size order each = order ∙ sym size
in_order old new console u (s ∷ seats) size order each = (order.0, each.0.is_seat, in_order old new console (u + 1) seats size order.2 each.1)

each_posted : (old new : BoardView) (before after : ConsoleView) (seats : List UnitView) → ((unit : UnitView) → IsAccountedFor old before unit → IsAccountedFor new after unit) → AllByRecursion (IsAccountedFor old before) seats → AllByRecursion (IsAccountedFor new after) seats
each_posted old new before after [] kept each = tt
each_posted old new before after (s ∷ seats) kept each = (kept s each.0, each_posted old new before after seats kept each.1)

-- a post, which keeps the account of every seat
pub all_posted : (old new : BoardView) (before after : ConsoleView) (seats : List UnitView) → length new.words ≡ length old.words → ((unit : UnitView) → IsAccountedFor old before unit → IsAccountedFor new after unit) → AreAccountedFor old before seats → AreAccountedFor new after seats
all_posted old new before after seats size kept all =
    let each = each_posted old new before after seats kept all.each in
    record { all = in_order old new after 0 seats size all.all each; each = each }

-- the seat at a place of the list is that unit's
pub unit_at : (board : BoardView) (u : ℕ) (seats : List UnitView) (i : ℕ) (d : UnitView) → AreSeatsFrom board u seats → i < length seats → (slice_index_or seats i d).unit ≡ u + i
unit_at board u [] i d order within = absurd (omega arith)
unit_at board u (s ∷ seats) zero d order within = omega (arith, order.0)
unit_at board u (s ∷ seats) (suc i) d order within = omega (arith, unit_at board (u + 1) seats i d order.2 (omega arith))

pub seat_at : (board : BoardView) (u : ℕ) (seats : List UnitView) (i : ℕ) (d : UnitView) → AreSeatsFrom board u seats → i < length seats → IsSeatOf board (slice_index_or seats i d)
seat_at board u [] i d order within = absurd (omega arith)
seat_at board u (s ∷ seats) zero d order within = order.1
seat_at board u (s ∷ seats) (suc i) d order within = seat_at board (u + 1) seats i d order.2 (omega arith)

module _ (old new : BoardView) (console : ConsoleView) (t : ℕ) (others : (unit : UnitView) → unit.unit ≢ t → IsAccountedFor old console unit → IsAccountedFor new console unit) where
  apart : (a b : ℕ) → a ≡ b → t < b → a ≢ t
  apart a b e below same = absurd (omega arith)

  behind : (u : ℕ) (seats : List UnitView) → t < u → AreSeatsFrom old u seats → AllByRecursion (IsAccountedFor old console) seats → AllByRecursion (IsAccountedFor new console) seats
  behind u [] below order each = tt
  behind u (s ∷ seats) below order each =
      (others s (apart s.unit u order.0 below) each.0, behind (u + 1) seats (omega arith) order.2 each.1)

  ahead : (a b : ℕ) → a ≡ b → b < t → a ≢ t
  ahead a b e below same = absurd (omega arith)

  each_taken : (u : ℕ) (seats : List UnitView) (i : ℕ) (now : UnitView) → u + i ≡ t → IsAccountedFor new console now → AreSeatsFrom old u seats → AllByRecursion (IsAccountedFor old console) seats → AllByRecursion (IsAccountedFor new console) (slice_set seats i now)
  each_taken u [] i now e taken order each = tt
  each_taken u (s ∷ seats) zero now e taken order each = (taken, behind (u + 1) seats (omega arith) order.2 each.1)
  each_taken u (s ∷ seats) (suc i) now e taken order each =
      (others s (ahead s.unit u order.0 (omega arith)) each.0, each_taken (u + 1) seats i now (omega arith) taken order.2 each.1)

  order_taken : (u : ℕ) (seats : List UnitView) (i : ℕ) (now : UnitView) → length new.words ≡ length old.words → u + i ≡ t → now.unit ≡ t → AreSeatsFrom old u seats → AllByRecursion (IsAccountedFor new console) (slice_set seats i now) → AreSeatsFrom new u (slice_set seats i now)
  order_taken u [] i now size e here order each = order ∙ sym size
  order_taken u (s ∷ seats) zero now size e here order each =
      (omega arith, each.0.is_seat, in_order old new console (u + 1) seats size order.2 each.1)
  order_taken u (s ∷ seats) (suc i) now size e here order each =
      (order.0, each.0.is_seat, order_taken (u + 1) seats i now size (omega arith) here order.2 each.1)

-- a taking from the seat at that place, which keeps its account and those of the other seats
pub all_taken : (old new : BoardView) (console : ConsoleView) (seats : List UnitView) (i : ℕ) (d now : UnitView) → length new.words ≡ length old.words → i < length seats → now.unit ≡ (slice_index_or seats i d).unit → IsAccountedFor new console now → ((unit : UnitView) → unit.unit ≢ (slice_index_or seats i d).unit → IsAccountedFor old console unit → IsAccountedFor new console unit) → AreAccountedFor old console seats → AreAccountedFor new console (slice_set seats i now)
all_taken old new console seats i d now size within same taken others all =
    let t = (slice_index_or seats i d).unit in
    let at : 0 + i ≡ t = sym (unit_at old 0 seats i d all.all within) in
    let each = each_taken old new console t others 0 seats i now at taken all.all all.each in
    record { all = order_taken old new console t others 0 seats i now size at same all.all each; each = each }

-- the account of the seat at that place
pub account_at : (board : BoardView) (console : ConsoleView) (seats : List UnitView) (i : ℕ) (d : UnitView) → AllByRecursion (IsAccountedFor board console) seats → i < length seats → IsAccountedFor board console (slice_index_or seats i d)
account_at board console [] i d each within = absurd (omega arith)
account_at board console (s ∷ seats) zero d each within = each.0
account_at board console (s ∷ seats) (suc i) d each within = account_at board console seats i d each.1 (omega arith)

-- what no post changes
pub if_posted : (b : Bool) (cmd : ℕ) (old new : BoardView) → new ≡ (if b then old else with_command cmd old) → (new.targets ≡ old.targets) × (length new.words ≡ length old.words)
if_posted true cmd old new e = (ap (λ (v : BoardView). v.targets) e, ap (λ (v : BoardView). length v.words) e)
if_posted false cmd old new e =
    (ap (λ (v : BoardView). v.targets) e, ap (λ (v : BoardView). length v.words) e ∙ length-set old.words (target_of cmd old) (with_one cmd (word_of (target_of cmd old) old)))

pub if_console : (b : Bool) (cmd : ℕ) (old new : ConsoleView) → new ≡ (if b then old else record old { posted = with_one cmd old.posted }) → new.targets ≡ old.targets
if_console true cmd old new e = ap (λ (v : ConsoleView). v.targets) e
if_console false cmd old new e = ap (λ (v : ConsoleView). v.targets) e

-- the same where the seat was read from its place
pub all_taken_from : (old new : BoardView) (console : ConsoleView) (seats : List UnitView) (i : ℕ) (seat now : UnitView) → length new.words ≡ length old.words → i < length seats → seat ≡ slice_index_or seats i seat → now.unit ≡ seat.unit → (IsAccountedFor old console seat → IsAccountedFor new console now) → ((unit : UnitView) → unit.unit ≢ seat.unit → IsAccountedFor old console unit → IsAccountedFor new console unit) → AreAccountedFor old console seats → AreAccountedFor new console (slice_set seats i now)
all_taken_from old new console seats i seat now size within read same taken others all =
    let unit : seat.unit ≡ (slice_index_or seats i seat).unit = ap (λ (v : UnitView). v.unit) read in
    let before : IsAccountedFor old console seat = subst (λ (v : UnitView). IsAccountedFor old console v) (sym read) (account_at old console seats i seat all.each within) in
    all_taken old new console seats i seat now size within (same ∙ unit) (taken before) (λ other ne account. others other (λ e. ne (e ∙ unit)) account) all
