use Rattle.std.proofs.Common.{◌≡◌, ◌++◌, IfSome, List, ℕ, Bor, Option, subst, sym, arith}
use Rattle.rtm_model.specs.declared.entry.What.{What}
use Rattle.rtm_trace.specs.inner.Known.{IsSaid, index_part}
use Rattle.rtm_trace.proofs.Remembered.{known_line}
use Rattle.rtm_trace.proofs.read.entry_by_parts.Goals as goal

pub returns-in-Some-2-clause-found : goal.returns-in-Some-2-clause-found
returns-in-Some-2-clause-found c =
    let d = c.args.deck.now in
    let is = subst (λ (o : Option (Bor (List ℕ))). IfSome o (λ rest. c.args.line.now ≡ index_part c.args.index ++ rest.now)) c.in-Some.is c.in_ok-behind_index.ensures in
    let unit = c.in-Some-cut_unit.found in
    let said = subst (λ (o : Option What). IfSome o (IsSaid d unit.1.now)) c.in-Some-2.is c.in_ok-known_or_read.ensures.said in
    sym (known_line d c.args.index unit.0 c.args.line.now c.in-Some.behind.now unit.1.now c.in-Some-2.what c.keeps_its_form.ensures.well_formed (omega (arith, c.ranges.index.fits)) is
    c.in-Some-cut_unit.ensures said)
