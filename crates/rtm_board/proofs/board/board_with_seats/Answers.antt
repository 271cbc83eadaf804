use Rattle.std.proofs.Common.{◌≡◌, ℕ, ◌∙◌, List, length, map, replicate, sym, ap, subst, refl}
use Rattle.std.specs.Prelude.{slice_index}
use Rattle.std.specs.List.{range_with_len}
use Rattle.std.proofs.lemmas.List.{length-replicate}
use Rattle.rtm_board.specs.Commands.{no_commands}
use Rattle.rtm_board.specs.View.{BoardView, ConsoleView, UnitView, word_of, opening_seat, AreAccountedFor}
use Rattle.rtm_board.proofs.Accounts.{console_opening, nothing_posted, accounted_opening}
use Rattle.rtm_board.proofs.Opening.{board_of}
use Rattle.rtm_board.proofs.board.board_with_seats.Goals as goal

pub invariant_of-console : goal.invariant_of-console
invariant_of-console c = console_opening c.in_ok-posting.posting.items

pub invariant_of-result : goal.invariant_of-result
invariant_of-result c = rw c.in_ok-words.ensures (board_of c.args.targets.items c.args.units c.requires.few c.requires.units)

pub returns : goal.returns
returns c =
    let ts = c.args.targets.items in
    let units = c.args.units in
    let posting : c.in_ok-posting.posting.items ≡ ts = c.in_ok-posting.ensures.items ∙ c.deref.ensures.value in
    let words : c.in_ok-words.words.items ≡ replicate units no_commands = c.in_ok-words.ensures in
    let seats : c.in_ok-seats.seats.items ≡ map (opening_seat ts) (range_with_len 0 units) =
    c.in_ok-seats.ensures ∙ ap (λ (l : List ℕ). map (opening_seat l) (range_with_len 0 units)) c.deref-2.ensures.value in
    let board : BoardView = record { targets = ts; words = c.in_ok-words.words.items } in
    let console : ConsoleView = record { targets = c.in_ok-posting.posting.items; posted = no_commands } in
    let count : length board.words ≡ units = ap length words ∙ length-replicate units no_commands in
    let empty : (unit : ℕ) → word_of unit board ≡ no_commands = λ unit. ap (λ (ws : List ℕ). slice_index ws unit) words ∙ nothing_posted units unit in
    let as_made : map (opening_seat ts) (range_with_len 0 (length board.words)) ≡ c.in_ok-seats.seats.items =
    ap (λ (n : ℕ). map (opening_seat ts) (range_with_len 0 n)) count ∙ sym seats in
    record {
      board_is = λ i. record { targets = ts; words = words i };
      console_is = λ i. record { targets = posting i; posted = no_commands };
      seats_are = seats;
      accounted = subst (λ (all : List UnitView). AreAccountedFor board console all) as_made (accounted_opening board console empty refl);
    }
