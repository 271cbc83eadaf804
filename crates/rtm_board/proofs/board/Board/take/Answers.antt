use Rattle.std.proofs.Common.{◌≡◌, ◌<◌, ℕ, List, length, sym, ap, subst, arith}
use Rattle.rtm_board.specs.Commands.{union_of}
use Rattle.rtm_board.specs.View.{BoardView, UnitView, word_of, IsAccountedFor}
use Rattle.rtm_board.proofs.Accounts.{accounted_take, board_take}
use Rattle.rtm_board.proofs.board.Board.take.Goals as goal

pub invariant_of-self : goal.invariant_of-self
invariant_of-self c =
    let ts = c.self.inside.targets.items in
    let ws = c.self.inside.words.items in
    let unit : c.seat.inside.unit ≡ c.args.seat.now.unit = ap (λ (v : UnitView). v.unit) c.seat.view_is in
    let words : ws ≡ c.args.self.now.words = ap (λ (v : BoardView). v.words) c.self.view_is in
    let within : c.seat.inside.unit < length ws = omega (arith, ap length words, c.requires.unit) in
    rw c.take_from-word.ensures.words (board_take ts ws c.seat.inside.unit within c.self.invariant)

pub returns-clause-accounted : goal.returns-clause-accounted
returns-clause-accounted c = λ console accounted.
    let ts = c.self.inside.targets.items in
    let ws = c.self.inside.words.items in
    let board : BoardView = record { targets = ts; words = ws } in
    let seat : UnitView = record { unit = c.seat.inside.unit; commands = c.seat.inside.commands; taken = c.seat.inside.taken } in
    let at_board : IsAccountedFor board console c.args.seat.now = subst (λ (v : BoardView). IsAccountedFor v console c.args.seat.now) (sym c.self.view_is) accounted in
    let before : IsAccountedFor board console seat = subst (λ (v : UnitView). IsAccountedFor board console v) (sym c.seat.view_is) at_board in
    let after = accounted_take board console seat before in
    let with_words = subst (λ (l : List ℕ). IsAccountedFor (record { targets = ts; words = l }) console (record { unit = c.seat.inside.unit; commands = c.seat.inside.commands; taken = union_of c.seat.inside.taken (word_of c.seat.inside.unit board) })) (sym c.take_from-word.ensures.words) after in
    subst (λ (n : ℕ). IsAccountedFor (record { targets = ts; words = c.take_from-word.new.words.items }) console (record { unit = c.seat.inside.unit; commands = c.seat.inside.commands; taken = union_of c.seat.inside.taken n })) (sym c.take_from-word.ensures.value) with_words
