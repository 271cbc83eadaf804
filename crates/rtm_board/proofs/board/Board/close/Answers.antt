use Rattle.std.proofs.Common.{◌≡◌, ℕ, List, ◌&&◌, ◌||◌, ap, subst, ◌∙◌}
use Rattle.rtm_board.specs.Commands.{has}
use Rattle.rtm_board.specs.View.{BoardView, ConsoleView, all_of, commands_taken_by, IsBoard, IsConsole}
use Rattle.rtm_board.proofs.Closing.{closing, closing_apart}
use Rattle.rtm_board.proofs.board.Board.close.Goals as goal

pub returns-clause-posted : goal.returns-clause-posted
returns-clause-posted c = λ accounted cmd.
    let seats = c.args.seats.items in
    let rest : c.notes_of.result ≡ all_of c.args.self.words = c.notes_of.ensures ∙ c.all_of.ensures ∙ ap all_of c.deref.ensures.value ∙ ap (λ (v : BoardView). all_of v.words) c.self.view_is in
    let kept : IsBoard c.args.self.targets c.args.self.words = subst (λ (v : BoardView). IsBoard v.targets v.words) c.self.view_is c.self.invariant in
    let own : IsConsole c.args.console.targets c.args.console.posted = subst (λ (v : ConsoleView). IsConsole v.targets v.posted) c.console.view_is c.console.invariant in
    ap (λ (n : ℕ). has cmd n || has cmd (commands_taken_by seats)) rest
    ∙ closing c.args.self c.args.console cmd kept seats accounted (subst (λ (ts : List ℕ). IsConsole ts c.args.console.posted) c.requires.console own)

pub returns-clause-never_both : goal.returns-clause-never_both
returns-clause-never_both c = λ accounted cmd.
    let seats = c.args.seats.items in
    let rest : c.notes_of.result ≡ all_of c.args.self.words = c.notes_of.ensures ∙ c.all_of.ensures ∙ ap all_of c.deref.ensures.value ∙ ap (λ (v : BoardView). all_of v.words) c.self.view_is in
    let kept : IsBoard c.args.self.targets c.args.self.words = subst (λ (v : BoardView). IsBoard v.targets v.words) c.self.view_is c.self.invariant in
    ap (λ (n : ℕ). has cmd n && has cmd (commands_taken_by seats)) rest
    ∙ closing_apart c.args.self c.args.console cmd kept seats accounted
