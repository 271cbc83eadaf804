use Rattle.std.proofs.Common.{arith}
use Rattle.rtm_io.proofs.Giving.{Gives-nothing, Gives-append, GivesAll-at_end, IsAtEnd-after, IsTooLong-past, TakesAtMost-after, TakesAtMost-from_Gives}
use Rattle.rtm_io.proofs.input.read_all.Goals as goal

pub loop-bytes-init : goal.loop-bytes-init
loop-bytes-init g c =
    record {
      within = omega arith;
      some = omega arith;
      given = rw c.new-bytes.ensures.items (Gives-nothing _);
      kept = omega arith;
    }

-- the last read, which finds the end
pub returns-in-Ok-eq0-clause-all : goal.returns-in-Ok-eq0-clause-all
returns-in-Ok-eq0-clause-all g c =
    let said = c.in-Ok-eq0.ensures in
    let kept = c.loop-bytes.invariant in
    let end = IsAtEnd-after _ _ _ said.given (said.end c.in-Ok-eq0.field-0-test) in
    GivesAll-at_end _ _ _ _ (rw said.bytes (Gives-append _ _ _ _ _ kept.given said.given)) end (omega arith)

pub returns-in-Ok-eq0-clause-front : goal.returns-in-Ok-eq0-clause-front
returns-in-Ok-eq0-clause-front g c =
    let said = c.in-Ok-eq0.ensures in
    let kept = c.loop-bytes.invariant in
    let all = c.read_on.new.bytes.items in
    TakesAtMost-from_Gives _ _ _ all (omega arith) (rw said.bytes (Gives-append _ _ _ _ _ kept.given said.given))

-- a read that adds bytes
pub loop-bytes-preserved : goal.loop-bytes-preserved
loop-bytes-preserved g c =
    let said = c.in-Ok-read_on.ensures in
    let kept = c.loop-bytes.invariant in
    record {
      within = omega arith;
      some = omega arith;
      given = rw said.bytes (Gives-append _ _ _ _ _ kept.given said.given);
      kept = omega arith;
    }

-- a read that fails, or whose bytes find no memory
pub returns-in-Err-clause-front : goal.returns-in-Err-clause-front
returns-in-Err-clause-front g c =
    TakesAtMost-after _ _ _ _ _ _ c.loop-bytes.invariant.given c.in-Err.ensures.front (omega arith)

-- after the loop one byte past the limit stands there
pub returns-clause-fault : goal.returns-clause-fault
returns-clause-fault g c =
    let line = rw c.deref.ensures.value at c.line_after-line.ensures in
    (IsTooLong-past _ _ _ _ _ c.loop-bytes.invariant.given (omega arith) line, c.loop-bytes.invariant.kept)

pub returns-clause-front : goal.returns-clause-front
returns-clause-front g c = TakesAtMost-from_Gives _ _ _ _ (omega arith) c.loop-bytes.invariant.given
