use Rattle.std.proofs.Common.{◌≡◌, ◌<◌, ◌∙◌, ℕ, List, length, false, sym, ap, subst}
use Rattle.std.specs.Prelude.{slice_index, slice_set}
use Rattle.std.proofs.lemmas.List.{get_or_read}
use Rattle.rtm_board.specs.Commands.{has, with_one}
use Rattle.rtm_board.specs.View.{BoardView, ConsoleView, IsAccountedFor}
use Rattle.rtm_board.proofs.Accounts.{accounted_post, board_post, console_post}
use Rattle.rtm_board.proofs.board.Board.post.Goals as goal

pub invariant_of-self : goal.invariant_of-self
invariant_of-self c =
    let ts = c.self.inside.targets.items in
    let ws = c.self.inside.words.items in
    let command : c.args.cmd < length ts = subst (λ (v : BoardView). c.args.cmd < length v.targets) (sym c.self.view_is) c.requires.command in
    let unit : c.index.result.now ≡ slice_index ts c.args.cmd = get_or_read ts c.args.cmd c.index.result.now command c.index.ensures 0 in
    let now = c.post_to.ensures ∙ ap (λ (u : ℕ). slice_set ws u (with_one c.args.cmd (slice_index ws u))) unit in
    rw now (board_post ts ws c.args.cmd c.self.invariant command)

pub invariant_of-seat : goal.invariant_of-seat
invariant_of-seat c =
    let same : c.seat.inside.targets.items ≡ c.self.inside.targets.items =
    ap (λ (v : ConsoleView). v.targets) c.seat.view_is ∙ c.requires.board ∙ sym (ap (λ (v : BoardView). v.targets) c.self.view_is) in
    let command : c.args.cmd < length c.seat.inside.targets.items =
    subst (λ (ts : List ℕ). c.args.cmd < length ts) (sym (ap (λ (v : ConsoleView). v.targets) c.seat.view_is ∙ c.requires.board)) c.requires.command in
    rw c.with_one-seat-inside.ensures (console_post c.seat.inside.targets.items c.seat.inside.posted c.args.cmd command c.seat.invariant)

pub returns-clause-accounted : goal.returns-clause-accounted
returns-clause-accounted c = λ unit accounted.
    let cmd = c.args.cmd in
    let ts = c.self.inside.targets.items in
    let ws = c.self.inside.words.items in
    let board : BoardView = record { targets = ts; words = ws } in
    let console : ConsoleView = record { targets = c.seat.inside.targets.items; posted = c.seat.inside.posted } in
    let command : cmd < length ts = subst (λ (v : BoardView). cmd < length v.targets) (sym c.self.view_is) c.requires.command in
    let target : c.index.result.now ≡ slice_index ts cmd = get_or_read ts cmd c.index.result.now command c.index.ensures 0 in
    let now : c.post_to.new.words.items ≡ slice_set ws (slice_index ts cmd) (with_one cmd (slice_index ws (slice_index ts cmd))) =
    c.post_to.ensures ∙ ap (λ (u : ℕ). slice_set ws u (with_one cmd (slice_index ws u))) target in
    let fresh : has cmd c.seat.inside.posted ≡ false = sym c.has.ensures ∙ c.if-has.false in
    let at_board : IsAccountedFor board c.args.seat.now unit = subst (λ (v : BoardView). IsAccountedFor v c.args.seat.now unit) (sym c.self.view_is) accounted in
    let before : IsAccountedFor board console unit = subst (λ (v : ConsoleView). IsAccountedFor board v unit) (sym c.seat.view_is) at_board in
    let after = accounted_post board console cmd command fresh (c.self.invariant.units cmd command) unit before in
    let with_words = subst (λ (l : List ℕ). IsAccountedFor (record { targets = ts; words = l }) (record { targets = c.seat.inside.targets.items; posted = with_one cmd c.seat.inside.posted }) unit) (sym now) after in
    subst (λ (n : ℕ). IsAccountedFor (record { targets = ts; words = c.post_to.new.words.items }) (record { targets = c.seat.inside.targets.items; posted = n }) unit) (sym c.with_one-seat-inside.ensures) with_words
