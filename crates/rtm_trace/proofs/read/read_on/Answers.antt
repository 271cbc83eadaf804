use Rattle.std.proofs.Common.{List, ap, arith, length}
use Rattle.rtm_model.specs.declared.entry.Entry.{Entry}
use Rattle.rtm_trace.specs.Lines.{text_lines}
use Rattle.rtm_trace.specs.inner.Reading.{read_on}
use Rattle.rtm_trace.proofs.read.read_on.Goals as goal

pub lines-init : goal.lines-init
lines-init c = record {
  read = ap (λ (entries : List Entry). read_on c.args.deck.now entries (text_lines c.args.lines.now)) c.new-entries.ensures.items;
  room = omega (arith, ap (λ (entries : List Entry). length entries) c.new-entries.ensures.items);
  known = c.no_places-places.ensures c.args.deck.now;
}
