use Rattle.std.proofs.Common.{◌≡◌, ◌≤◌, drop, map, []}
use Rattle.std.specs.List.{AllByRecursion}
use Rattle.rtm_cards.specs.Cards.{card_text, HasSpansIn}
use Rattle.rtm_deck.specs.inner.Seen.{nothing_seen}
use Rattle.rtm_deck.specs.inner.Reader.{scan}
use Rattle.rtm_deck.proofs.reading.scan_cards.Given as goal

-- what the cards that are left come to behind those that were read is what all come to
abbrev pub invariant-cards : goal.invariant-cards
invariant-cards l = record {
  result : scan l.reads.items l.seen (map (card_text l.bytes) (drop l.card-index l.cards)) ≡ scan [] nothing_seen (map (card_text l.bytes) l.cards);
  spans : AllByRecursion (HasSpansIn l.bytes) (drop l.card-index l.cards);
  few : l.seen.commands ≤ l.card-index;
}
