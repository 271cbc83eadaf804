use Rattle.std.proofs.Common.{◌∙◌, sym, ap, map}
use Rattle.std.specs.Option.{option_map}
use Rattle.rtm_cards.specs.Span.{text_of}
use Rattle.rtm_cards.specs.Cards.{card_text}
use Rattle.rtm_cards.specs.View.{CardSpans}
use Rattle.rtm_deck_operands.specs.Name.{name_in}
use Rattle.rtm_deck_items.specs.Forms.{all_forms, form_named}
use Rattle.rtm_deck.specs.inner.Roles.{role_of}
use Rattle.rtm_deck.specs.inner.Seen.{reading_in, reading_by}
use Rattle.rtm_deck.proofs.Cards.ByParts.{read_card-role, read_card-unknown, known_names, read_by_some}
use Rattle.rtm_deck.proofs.card.read_card.Goals as goal

pub role_named-requires : goal.role_named-requires
role_named-requires c =
    let operands = map (text_of c.args.bytes.now) c.deref.result.now in
    known_names c.text-op.result.now operands c.first_reading-form.result c.first_reading-form.new.values.items (c.first_reading-form.ensures ∙ c.forms_of.ensures operands)

pub returns-in-None : goal.returns-in-None
returns-in-None c =
    read_card-unknown c.args.seen.now (card_text c.args.bytes.now c.args.card.now)
    (sym c.in-None.is ∙ (c.role_named.ensures ∙ ap (λ op. option_map role_of (form_named op)) (c.text-op.ensures.bytes ∙ ap (λ (v : CardSpans). text_of c.args.bytes.now v.op) c.card.view_is)))

pub returns-in-Some : goal.returns-in-Some
returns-in-Some c =
    let form = c.first_reading-form.result in
    let values = c.first_reading-form.new.values.items in
    read_card-role c.args.seen.now (card_text c.args.bytes.now c.args.card.now) c.in-Some.role c.name_of-name.result (reading_in form values) c.is_some.result c.broken_rule-broken.result _
    (sym c.in-Some.is ∙ (c.role_named.ensures ∙ ap (λ op. option_map role_of (form_named op)) (c.text-op.ensures.bytes ∙ ap (λ (v : CardSpans). text_of c.args.bytes.now v.op) c.card.view_is)))
    (c.name_of-name.ensures ∙ ap name_in (c.text.ensures.bytes ∙ ap (λ (v : CardSpans). text_of c.args.bytes.now v.name) c.card.view_is))
    (c.first_reading-form.ensures ∙ (c.forms_of.ensures (map (text_of c.args.bytes.now) c.deref.result.now) ∙ (λ j. reading_by ((c.text-op.ensures.bytes ∙ ap (λ (v : CardSpans). text_of c.args.bytes.now v.op) c.card.view_is) j) (map (text_of c.args.bytes.now) ((c.deref.ensures.value ∙ ap (λ (v : CardSpans). v.operands) c.card.view_is) j)) all_forms)))
    (c.is_some.ensures ∙ read_by_some form values)
    c.broken_rule-broken.ensures
    (c.read_with.ensures c.args.card.now.number values)
