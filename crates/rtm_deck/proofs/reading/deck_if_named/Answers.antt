use Rattle.std.proofs.Common.{◌≡◌, ◌∙◌, ap, subst, []}
use Rattle.std.specs.Prelude.{Err}
use Rattle.rtm_deck.specs.inner.References.{first_nameless}
use Rattle.rtm_deck.specs.inner.Reader.{Finds}
use Rattle.rtm_deck.proofs.Calls.Giving.{gives-deck_if_named}
use Rattle.rtm_deck.proofs.reading.deck_if_named.Goals as goal

pub returns-in-Err : goal.returns-in-Err
returns-in-Err c =
    let e = (λ j. first_nameless c.scan.inside.seen [] (c.deref.ensures.value j)) ∙ ap (λ t. first_nameless t.seen [] t.reads) c.scan.view_is in
    gives-deck_if_named (Unit {0}) (λ a b. a ≡ b) c.in-Err.fault c.args.scan.now _ (subst (λ y. Finds {A = Unit {0}} (Err c.in-Err.fault) y) e c.in-Err.ensures)
