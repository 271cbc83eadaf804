use Rattle.std.proofs.Common.{◌≡◌, List, ℕ, ◌∙◌, sym, subst}
use Rattle.rtm_deck_items.specs.Spelling.{DeckText}
use Rattle.rtm_deck_load.specs.Deck.{load_deck}
use Rattle.rtm_deck_load.specs.Text.{load_text}
use Rattle.rtm_deck_load.proofs.Spelled.{spelled}
use Rattle.rtm_deck_load.proofs.deck.load_deck.Goals as goal

pub returns-in-Ok : goal.returns-in-Ok
returns-in-Ok c =
    let same : c.deref.result.now ≡ load_text c.args.tasks = c.deref.ensures.value ∙ c.in_ok-text.ensures in
    c.in-Ok.ensures.spelled (load_deck c.args.tasks) (subst (λ (text : List ℕ). DeckText text (load_deck c.args.tasks)) (sym same) (spelled c.args.tasks c.requires.least c.requires.most))

pub unreachable-requires : goal.unreachable-requires
unreachable-requires c =
    let same : c.deref.result.now ≡ load_text c.args.tasks = c.deref.ensures.value ∙ c.in_ok-text.ensures in
    let there = subst (λ (text : List ℕ). DeckText text (load_deck c.args.tasks)) (sym same) (spelled c.args.tasks c.requires.least c.requires.most) in
    rw c.in-Err-Refused.field-0-is at c.in-Err-Refused.ensures.spelled (load_deck c.args.tasks) there
