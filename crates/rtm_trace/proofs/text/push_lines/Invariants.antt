use Rattle.std.proofs.Common.{◌≡◌, ◌++◌, drop}
use Rattle.rtm_trace.specs.Text.{lines_text}
use Rattle.rtm_trace.proofs.text.push_lines.Given as goal

-- The index counts the entries, and the lines so far with those of the entries that are left are all lines.
abbrev pub invariant-entries : goal.invariant-entries
invariant-entries l = record {
  counted : l.index ≡ l.entry-index;
  so_far : l.out.items ++ lines_text l.deck l.entry-index (drop l.entry-index l.entries) ≡ l.initial.out.items ++ lines_text l.deck 0 l.entries;
}
