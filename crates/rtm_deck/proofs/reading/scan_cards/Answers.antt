use Rattle.std.proofs.Common.{◌≡◌, ◌∙◌, ap, sym}
use Rattle.std.specs.Prelude.{Ok}
use Rattle.rtm_cards.specs.Cards.{card_text}
use Rattle.rtm_deck.specs.inner.View.{ScanView}
use Rattle.rtm_deck.specs.inner.Reader.{scan_of, scan_next}
use Rattle.rtm_deck.proofs.Calls.Giving.{given-value, gives-refused}
use Rattle.rtm_deck.proofs.Calls.Scanning.{scan-read, scan-refused, spans-next, commands-next}
use Rattle.rtm_deck.proofs.reading.scan_cards.Goals as goal

pub cards-preserved : goal.cards-preserved
cards-preserved c =
    let bytes = c.args.bytes.now in
    let card = c.card-item.result in
    let before = scan_of c.cards.reads.items c.cards.seen in
    let behind = scan_of c.read_next.new.reads.items c.read_next.new.seen in
    let given = given-value (λ _ (t : ScanView). behind ≡ t) c.in-Ok.field-0 (scan_next before (card_text bytes card)) c.in-Ok.ensures in
    let next : scan_next before (card_text bytes card) ≡ Ok behind = given.1 ∙ ap Ok (sym given.2) in
    record {
      result = scan-read bytes c.args.cards.now c.cards.card-index card before behind _ c.cards-test.true c.card-item.is c.cards.invariant.result next;
      spans = (spans-next bytes c.args.cards.now c.cards.card-index card c.cards-test.true c.card-item.is c.cards.invariant.spans).1;
      few = commands-next before (card_text bytes card) behind c.cards.card-index next c.cards.invariant.few;
    }

pub returns-in-Err : goal.returns-in-Err
returns-in-Err c =
    let bytes = c.args.bytes.now in
    let card = c.card-item.result in
    let before = scan_of c.cards.reads.items c.cards.seen in
    let behind = scan_of c.read_next.new.reads.items c.read_next.new.seen in
    gives-refused {A = Unit {0}} (λ _ (t : ScanView). behind ≡ t) (λ a b. a ≡ b) c.in-Err.fault (scan_next before (card_text bytes card)) _ c.in-Err.ensures
    (λ r next. scan-refused bytes c.args.cards.now c.cards.card-index card before r _ c.cards-test.true c.card-item.is c.cards.invariant.result next)
