use Rattle.std.proofs.Common.{◌≡◌, ◌∙◌, ap, sym, subst}
use Rattle.rtm_cards.specs.View.{CutView}
use Rattle.rtm_deck_items.specs.Spelling.{DeckText}
use Rattle.rtm_deck.proofs.Inputs.CutCards.{CutFacts, cut_facts}
use Rattle.rtm_deck.proofs.Inputs.CutInputs.{read-spelled, refused-refusal}
use Rattle.rtm_deck.proofs.Calls.Giving.{gives-value}
use Rattle.rtm_deck.proofs.reading.read_bytes.Goals as goal

pub read_cards-requires : goal.read_cards-requires
read_cards-requires c =
    let facts = (subst (λ (v : CutView). CutFacts c.args.bytes.now c.deref.result.now v.lines v.fault) (sym c.cut.view_is)
    (cut_facts c.args.bytes.now c.deref.result.now c.in-Ok.cut.cards c.in-Ok.cut.lines c.in-Ok.cut.fault
    (c.deref.ensures.value ∙ ap (λ (v : CutView). v.cards) c.cut.view_is) c.in-Ok.ensures.fault c.in-Ok.ensures.lines c.in-Ok.ensures.cards c.in-Ok.ensures.each)) in
    record { spans = facts.spans; few = facts.few; counted = facts.counted }

pub returns-in-Err-read_cards-clause-refused : goal.returns-in-Err-read_cards-clause-refused
returns-in-Err-read_cards-clause-refused c =
    refused-refusal (λ a b. a ≡ b) c.args.bytes.now _ c.cut.inside.lines c.cut.inside.fault c.in-Err-read_cards.fault
    (subst (λ (v : CutView). CutFacts c.args.bytes.now c.deref.result.now v.lines v.fault) (sym c.cut.view_is)
    (cut_facts c.args.bytes.now c.deref.result.now c.in-Ok.cut.cards c.in-Ok.cut.lines c.in-Ok.cut.fault
    (c.deref.ensures.value ∙ ap (λ (v : CutView). v.cards) c.cut.view_is) c.in-Ok.ensures.fault c.in-Ok.ensures.lines c.in-Ok.ensures.cards c.in-Ok.ensures.each)).cut
    c.in-Err-read_cards.ensures

pub invariant_of-result : goal.invariant_of-result
invariant_of-result c = ∣ (
  c.args.bytes.now,
  subst (DeckText c.args.bytes.now) (sym c.parts.view_is)
      (read-spelled c.args.bytes.now _ c.cut.inside.lines c.cut.inside.fault c.in-Ok-read_cards.parts
      (subst (λ (v : CutView). CutFacts c.args.bytes.now c.deref.result.now v.lines v.fault) (sym c.cut.view_is)
      (cut_facts c.args.bytes.now c.deref.result.now c.in-Ok.cut.cards c.in-Ok.cut.lines c.in-Ok.cut.fault
      (c.deref.ensures.value ∙ ap (λ (v : CutView). v.cards) c.cut.view_is) c.in-Ok.ensures.fault c.in-Ok.ensures.lines c.in-Ok.ensures.cards c.in-Ok.ensures.each)).cut
      (gives-value c.in-Ok-read_cards.parts _ c.in-Ok-read_cards.ensures)),
) ∣₁

pub returns-clause-found : goal.returns-clause-found
returns-clause-found c = subst (DeckText c.args.bytes.now) (sym c.parts.view_is)
    (read-spelled c.args.bytes.now _ c.cut.inside.lines c.cut.inside.fault c.in-Ok-read_cards.parts
    (subst (λ (v : CutView). CutFacts c.args.bytes.now c.deref.result.now v.lines v.fault) (sym c.cut.view_is)
    (cut_facts c.args.bytes.now c.deref.result.now c.in-Ok.cut.cards c.in-Ok.cut.lines c.in-Ok.cut.fault
    (c.deref.ensures.value ∙ ap (λ (v : CutView). v.cards) c.cut.view_is) c.in-Ok.ensures.fault c.in-Ok.ensures.lines c.in-Ok.ensures.cards c.in-Ok.ensures.each)).cut
    (gives-value c.in-Ok-read_cards.parts _ c.in-Ok-read_cards.ensures))
