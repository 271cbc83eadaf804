-- What stands in the words, what is taken and what is posted, as a call changes them.
use Rattle.std.proofs.Common.{◌≡◌, ◌≢◌, ℕ, zero, suc, ◌+◌, ◌<◌, ◌≤◌, Bool, true, false, ◌&&◌, ◌||◌, ◌⊎◌, inl, inr, List, length, map, replicate, refl, sym, ap, ◌∙◌, arith}
use Rattle.std.specs.Prelude.{◌==◌, slice_index, slice_set}
use Rattle.std.specs.List.{AllByRecursion, range_with_len}
use Rattle.std.proofs.lemmas.Bool.{cases_eq, eqb-true, or_cases}
use Rattle.std.proofs.lemmas.List.{get_or-set_same, get_or-set_other, length-set, length-replicate}
use Rattle.rtm_board.specs.Commands.{no_commands, has, with_one, union_of}
use Rattle.rtm_board.specs.View.{BoardView, ConsoleView, UnitView, commands_for, word_of, with_word, target_of, with_command, AreSeatsFrom, IsAccountedFor, AreAccountedFor, opening_seat, IsBoard, IsConsole}
use Rattle.rtm_board.proofs.Sets.{has_none, has_with, has_joined, own_command, other_command}

-- A word among others

word_same : (words : List ℕ) (t x u : ℕ) → t < length words → u ≡ t → slice_index (slice_set words t x) u ≡ x
word_same words t x u within e = ap (λ (n : ℕ). slice_index (slice_set words t x) n) e ∙ get_or-set_same words t x 0 within

word_other : (words : List ℕ) (t x u : ℕ) → u ≢ t → slice_index (slice_set words t x) u ≡ slice_index words u
word_other words t x u ne = get_or-set_other words t u x 0 ne

-- An entry of the account, command by command: e says whether it is the command in hand, w whether it stands in the
-- word, k whether it is taken, p whether it is posted, and c whether it is one of the unit's

post_here : (e w k p c : Bool) → (w || k) ≡ (p && c) → (e ≡ true → c ≡ true) → ((e || w) || k) ≡ ((e || p) && c)
post_here true w k p true h own = refl
post_here true w k p false h own = let bad : false ≡ true = own refl in absurd cc
post_here false w k p c h own = h

post_apart : (e w k p c : Bool) → (w || k) ≡ (p && c) → (w && k) ≡ false → (e ≡ true → p ≡ false) → ((e || w) && k) ≡ false
post_apart false w k p c h apart fresh = apart
post_apart true w false p c h apart fresh = refl
post_apart true w true true c h apart fresh = let bad : true ≡ false = fresh refl in absurd cc
post_apart true true true false c h apart fresh = absurd cc
post_apart true false true false c h apart fresh = absurd cc

post_elsewhere : (e w k p c : Bool) → (w || k) ≡ (p && c) → (e ≡ true → c ≡ false) → (w || k) ≡ ((e || p) && c)
post_elsewhere false w k p c h other = h
post_elsewhere true w k p true h other = let bad : true ≡ false = other refl in absurd cc
post_elsewhere true w k true false h other = h
post_elsewhere true w k false false h other = h

take_over : (w k : Bool) → (k || w) ≡ (w || k)
take_over true true = refl
take_over true false = refl
take_over false true = refl
take_over false false = refl

-- A post

module _ (board : BoardView) (console : ConsoleView) (cmd : ℕ) (command : cmd < length board.targets) (fresh : has cmd console.posted ≡ false) (target : target_of cmd board < length board.words) where
  abbrev posted_on : ConsoleView
  posted_on = record console { posted = with_one cmd console.posted }

  is_command : (c : ℕ) → (c == cmd) ≡ true → c ≡ cmd
  is_command c e = eqb-true c cmd e

  fresh_at : (c : ℕ) → (c == cmd) ≡ true → has c console.posted ≡ false
  fresh_at c e = ap (λ (n : ℕ). has n console.posted) (is_command c e) ∙ fresh

  posted_to : (unit : UnitView) → IsAccountedFor board console unit → unit.unit ≡ target_of cmd board → IsAccountedFor (with_command cmd board) posted_on unit
  posted_to unit old here =
      let t = target_of cmd board in
      let w = word_of t board in
      let word : word_of unit.unit (with_command cmd board) ≡ with_one cmd w = word_same board.words t (with_one cmd w) unit.unit target here in
      let before : word_of unit.unit board ≡ w = ap (λ (n : ℕ). word_of n board) here in
      let own : (c : ℕ) → (c == cmd) ≡ true → has c unit.commands ≡ true = λ c e.
      ap (has c) old.is_seat.commands ∙ ap (λ (n : ℕ). has n (commands_for unit.unit board.targets)) (is_command c e)
      ∙ own_command unit.unit cmd board.targets command (sym here) in
      record {
        is_seat = record { unit = omega (arith, old.is_seat.unit, length-set board.words t (with_one cmd w)); commands = old.is_seat.commands };
        posted = λ c.
            ap (λ (b : Bool). b || has c unit.taken) (ap (has c) word ∙ has_with c cmd w)
            ∙ post_here (c == cmd) (has c w) (has c unit.taken) (has c console.posted) (has c unit.commands) (ap (λ (n : ℕ). has c n || has c unit.taken) (sym before) ∙ old.posted c) (own c)
            ∙ ap (λ (b : Bool). b && has c unit.commands) (sym (has_with c cmd console.posted));
        never_both = λ c.
            ap (λ (b : Bool). b && has c unit.taken) (ap (has c) word ∙ has_with c cmd w)
            ∙ post_apart (c == cmd) (has c w) (has c unit.taken) (has c console.posted) (has c unit.commands) (ap (λ (n : ℕ). has c n || has c unit.taken) (sym before) ∙ old.posted c) (ap (λ (n : ℕ). has c n && has c unit.taken) (sym before) ∙ old.never_both c) (fresh_at c);
      }

  posted_elsewhere : (unit : UnitView) → IsAccountedFor board console unit → unit.unit ≢ target_of cmd board → IsAccountedFor (with_command cmd board) posted_on unit
  posted_elsewhere unit old elsewhere =
      let t = target_of cmd board in
      let w = word_of t board in
      let word : word_of unit.unit (with_command cmd board) ≡ word_of unit.unit board = word_other board.words t (with_one cmd w) unit.unit elsewhere in
      let other : (c : ℕ) → (c == cmd) ≡ true → has c unit.commands ≡ false = λ c e.
      ap (has c) old.is_seat.commands ∙ ap (λ (n : ℕ). has n (commands_for unit.unit board.targets)) (is_command c e)
      ∙ other_command unit.unit cmd board.targets (λ same. elsewhere (sym same)) in
      record {
        is_seat = record { unit = omega (arith, old.is_seat.unit, length-set board.words t (with_one cmd w)); commands = old.is_seat.commands };
        posted = λ c.
            ap (λ (n : ℕ). has c n || has c unit.taken) word
            ∙ post_elsewhere (c == cmd) (has c (word_of unit.unit board)) (has c unit.taken) (has c console.posted) (has c unit.commands) (old.posted c) (other c)
            ∙ ap (λ (b : Bool). b && has c unit.commands) (sym (has_with c cmd console.posted));
        never_both = λ c. ap (λ (n : ℕ). has c n && has c unit.taken) word ∙ old.never_both c;
      }

  pub accounted_post : (unit : UnitView) → IsAccountedFor board console unit → IsAccountedFor (with_command cmd board) posted_on unit
  accounted_post unit old =
      elim (cases_eq unit.unit (target_of cmd board)) as (λ _. IsAccountedFor (with_command cmd board) posted_on unit)
      [ inl here ↦ posted_to unit old here | inr elsewhere ↦ posted_elsewhere unit old elsewhere ]

-- A taking

pub accounted_take : (board : BoardView) (console : ConsoleView) (unit : UnitView) → IsAccountedFor board console unit → IsAccountedFor (with_word unit.unit no_commands board) console (record unit { taken = union_of unit.taken (word_of unit.unit board) })
accounted_take board console unit old =
    let w = word_of unit.unit board in
    let word : word_of unit.unit (with_word unit.unit no_commands board) ≡ no_commands = word_same board.words unit.unit no_commands unit.unit old.is_seat.unit refl in
    let empty : (c : ℕ) → has c (word_of unit.unit (with_word unit.unit no_commands board)) ≡ false = λ c. ap (has c) word ∙ has_none c in
    record {
      is_seat = record { unit = omega (arith, old.is_seat.unit, length-set board.words unit.unit no_commands); commands = old.is_seat.commands };
      posted = λ c.
          ap (λ (b : Bool). b || has c (union_of unit.taken w)) (empty c)
          ∙ has_joined c unit.taken w ∙ take_over (has c w) (has c unit.taken) ∙ old.posted c;
      never_both = λ c. ap (λ (b : Bool). b && has c (union_of unit.taken w)) (empty c);
    }

pub accounted_other : (board : BoardView) (console : ConsoleView) (u : ℕ) (unit : UnitView) → unit.unit ≢ u → IsAccountedFor board console unit → IsAccountedFor (with_word u no_commands board) console unit
accounted_other board console u unit ne old =
    let word : word_of unit.unit (with_word u no_commands board) ≡ word_of unit.unit board = word_other board.words u no_commands unit.unit ne in
    record {
      is_seat = record { unit = omega (arith, old.is_seat.unit, length-set board.words u no_commands); commands = old.is_seat.commands };
      posted = λ c. ap (λ (n : ℕ). has c n || has c unit.taken) word ∙ old.posted c;
      never_both = λ c. ap (λ (n : ℕ). has c n && has c unit.taken) word ∙ old.never_both c;
    }

-- What the board and the console's seat keep

pub board_post : (targets words : List ℕ) (cmd : ℕ) → IsBoard targets words → cmd < length targets → IsBoard targets (slice_set words (slice_index targets cmd) (with_one cmd (slice_index words (slice_index targets cmd))))
board_post targets words cmd old command =
    let t = slice_index targets cmd in
    let w = slice_index words t in
    let Own : ℕ → ℕ → Type 0 = λ unit c. has c (slice_index (slice_set words t (with_one cmd w)) unit) ≡ true → has c (commands_for unit targets) ≡ true in
    let own : (unit c : ℕ) → unit ≡ t → Own unit c = λ unit c here set.
    let either : ((c == cmd) || has c w) ≡ true = sym (ap (has c) (word_same words t (with_one cmd w) unit (old.units cmd command) here) ∙ has_with c cmd w) ∙ set in
    elim (or_cases (c == cmd) (has c w) either) as (λ _. has c (commands_for unit targets) ≡ true) [
      | inl e ↦ ap (λ (n : ℕ). has n (commands_for unit targets)) (eqb-true c cmd e) ∙ own_command unit cmd targets command (sym here)
      | inr e ↦ old.own unit c (ap (λ (n : ℕ). has c (slice_index words n)) here ∙ e)
    ] in
    let same : (unit c : ℕ) → unit ≢ t → Own unit c = λ unit c ne set.
    old.own unit c (sym (ap (has c) (word_other words t (with_one cmd w) unit ne)) ∙ set) in
    record {
      few = old.few;
      units = λ c below. omega (arith, old.units c below, length-set words t (with_one cmd w));
      own = λ unit c. elim (cases_eq unit t) as (λ _. Own unit c) [ inl here ↦ own unit c here | inr ne ↦ same unit c ne ];
    }

none_there : (c : ℕ) (word : ℕ) (P : Type 0) → word ≡ no_commands → has c word ≡ true → P
none_there c word P e set = let bad : false ≡ true = sym (ap (has c) e ∙ has_none c) ∙ set in absurd cc

pub board_take : (targets words : List ℕ) (u : ℕ) → u < length words → IsBoard targets words → IsBoard targets (slice_set words u no_commands)
board_take targets words u within old =
    let Own : ℕ → ℕ → Type 0 = λ unit c. has c (slice_index (slice_set words u no_commands) unit) ≡ true → has c (commands_for unit targets) ≡ true in
    record {
      few = old.few;
      units = λ c below. omega (arith, old.units c below, length-set words u no_commands);
      own = λ unit c. elim (cases_eq unit u) as (λ _. Own unit c) [
        | inl here ↦ λ set. none_there c (slice_index (slice_set words u no_commands) unit) (has c (commands_for unit targets) ≡ true) (word_same words u no_commands unit within here) set
        | inr ne ↦ λ set. old.own unit c (sym (ap (has c) (word_other words u no_commands unit ne)) ∙ set)
      ];
    }

pub nothing_posted : (n u : ℕ) → slice_index (replicate n no_commands) u ≡ no_commands
nothing_posted zero u = refl
nothing_posted (suc n) zero = refl
nothing_posted (suc n) (suc u) = nothing_posted n u

pub board_opening : (targets : List ℕ) (n : ℕ) → length targets ≤ 64 → ((c : ℕ) → c < length targets → slice_index targets c < n) → IsBoard targets (replicate n no_commands)
board_opening targets n few units =
    record {
      few = few;
      units = λ c below. omega (arith, units c below, length-replicate n no_commands);
      own = λ unit c set. none_there c (slice_index (replicate n no_commands) unit) (has c (commands_for unit targets) ≡ true) (nothing_posted n unit) set;
    }

pub console_opening : (targets : List ℕ) → IsConsole targets no_commands
console_opening targets = record { own = λ c set. none_there c no_commands (c < length targets) refl set }

pub console_post : (targets : List ℕ) (posted cmd : ℕ) → cmd < length targets → IsConsole targets posted → IsConsole targets (with_one cmd posted)
console_post targets posted cmd command old =
    record {
      own = λ c set.
          elim (or_cases (c == cmd) (has c posted) (sym (has_with c cmd posted) ∙ set)) as (λ _. c < length targets)
          [ inl e ↦ omega (arith, eqb-true c cmd e) | inr e ↦ old.own c e ];
    }

-- The start

opening_accounted : (board : BoardView) (console : ConsoleView) (u : ℕ) → ((unit : ℕ) → word_of unit board ≡ no_commands) → console.posted ≡ no_commands → u < length board.words → IsAccountedFor board console (opening_seat board.targets u)
opening_accounted board console u words posted within =
    let empty : (c : ℕ) → has c (word_of u board) ≡ false = λ c. ap (has c) (words u) ∙ has_none c in
    let fresh : (c : ℕ) → has c console.posted ≡ false = λ c. ap (has c) posted ∙ has_none c in
    record {
      is_seat = record { unit = within; commands = refl };
      posted = λ c.
          ap (λ (b : Bool). b || has c no_commands) (empty c) ∙ has_none c
          ∙ sym (ap (λ (b : Bool). b && has c (commands_for u board.targets)) (fresh c));
      never_both = λ c. ap (λ (b : Bool). b && has c no_commands) (empty c);
    }

module _ (board : BoardView) (console : ConsoleView) (words : (unit : ℕ) → word_of unit board ≡ no_commands) (posted : console.posted ≡ no_commands) where
  opening_from : (u n : ℕ) → u + n ≡ length board.words → AreSeatsFrom board u (map (opening_seat board.targets) (range_with_len u n))
  opening_from u zero e = omega arith
  opening_from u (suc n) e =
      let within : u < length board.words = omega arith in
      (refl, record { unit = within; commands = refl }, opening_from (u + 1) n (omega arith))

  opening_each : (u n : ℕ) → u + n ≡ length board.words → AllByRecursion (IsAccountedFor board console) (map (opening_seat board.targets) (range_with_len u n))
  opening_each u zero e = tt
  opening_each u (suc n) e = (opening_accounted board console u words posted (omega arith), opening_each (u + 1) n (omega arith))

  pub accounted_opening : AreAccountedFor board console (map (opening_seat board.targets) (range_with_len 0 (length board.words)))
  accounted_opening =
      record { all = opening_from 0 (length board.words) (omega arith); each = opening_each 0 (length board.words) (omega arith) }
