use Rattle.std.proofs.Common.{sym, ap, ◌∙◌}
use Rattle.rtm_board.specs.Commands.{has}
use Rattle.rtm_board.proofs.Sets.{has_none}
use Rattle.rtm_board.proofs.notes.Notes.next.Goals as goal

pub returns-clause-empty : goal.returns-clause-empty
returns-clause-empty c =
    let cmd = c.in_ok-cmd.cmd in
    (λ bad. absurd cc, λ none. sym c.in_ok-cmd.ensures.least.here ∙ ap (has cmd) (c.self.view_is ∙ none) ∙ has_none cmd)
