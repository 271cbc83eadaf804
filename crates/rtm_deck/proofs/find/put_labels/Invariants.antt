use Rattle.std.proofs.Common.{◌≡◌, drop}
use Rattle.rtm_deck.specs.inner.References.{labels_onto}
use Rattle.rtm_deck.proofs.find.put_labels.Given as goal

-- with the labels of the cards that are left, these are all
abbrev pub invariant-loop-read : goal.invariant-loop-read
invariant-loop-read l = labels_onto l.labels.keys (drop l.read-index l.reads) ≡ labels_onto l.initial.labels.keys l.reads
