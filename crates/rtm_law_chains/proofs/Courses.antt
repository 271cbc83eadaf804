-- Each error has a course: at each moment its state says which routine runs, and what is left of its list.
use Rattle.std.proofs.Common.{◌≡◌, ℕ, zero, suc, ◌+◌, Bool, true, false, List, [], ◌∷◌, Option, Some, None, refl, ◌∙◌}
use Rattle.std.specs.Option.{option_map}
use Rattle.std.specs.Prelude.{IsSomeAnd, if◌then◌else◌}
use Rattle.rtm_deck_items.specs.declared.op.Op.{Op}
use Rattle.rtm_deck_items.specs.declared.op.Op.TheVariants as ops
use Rattle.rtm_model.specs.declared.abort.Abort.{Abort}
use Rattle.rtm_model.specs.declared.block.Place.{Place}
use Rattle.rtm_model.specs.declared.entry.Verdict.{Verdict}
use Rattle.rtm_model.specs.declared.error_record.ErrorRecord.{ErrorRecord}
use Rattle.rtm_model.specs.declared.error_record.RecordFlags.{RecordFlags}
use Rattle.rtm_model.specs.declared.reg.Reg.{Reg}
use Rattle.rtm_model.specs.Course.{Course}
use Rattle.rtm_model.specs.Course.{Closed, Goes, Runs, Stopped}
use Rattle.rtm_model.specs.Levels.{Bracket, after_leave, after_verdict, at_enclosing, at_innermost, depth_in, error_in, on_record, recovers, with_open}
use Rattle.rtm_model.specs.NextEntry.{landed_record}
use Rattle.rtm_model.specs.OwnChange.{own_card, with_landed}
use Rattle.rtm_model.specs.Record.{ret15_in, setrp_in}
use Rattle.rtm_model.specs.World.{Core}
use Rattle.rtm_law_births.proofs.InnerBrackets.{verdict_keeps}
use Rattle.rtm_law_chains.proofs.Firsts.{list_at}

-- Where a routine runs, and that many brackets are open inside its own: the error around it admits routines with
-- TERM=YES alone, or all
abbrev HasTerm : Bool → Option ErrorRecord → Type 0
HasTerm term o = IsSomeAnd o (λ r. r.flags.term_only ≡ term)

abbrev pub RunsOver : ℕ → Reg → Bool → List Bracket → Type 0
RunsOver inside routine term [] = ⊥
RunsOver zero routine term (l ∷ []) = ⊥
RunsOver zero routine term (l ∷ o ∷ ls) = (l.routine ≡ Some routine) × HasTerm term o.error
RunsOver (suc k) routine term (l ∷ ls) = RunsOver k routine term ls

-- changes of the innermost bracket that leave its routine
pub inner_over : (f : Bracket → Bracket) → ((l : Bracket) → Bracket.routine (f l) ≡ l.routine) → (inside : ℕ) (routine : Reg) (term : Bool) (ls : List Bracket) → RunsOver inside routine term ls → RunsOver inside routine term (at_innermost f ls)
inner_over f keeps inside routine term [] h = h
inner_over f keeps zero routine term (l ∷ []) h = h
inner_over f keeps zero routine term (l ∷ o ∷ ls) h = (keeps l ∙ h.0, h.1)
inner_over f keeps (suc k) routine term (l ∷ ls) h = h

-- and of the record in the enclosing one, which leave TERM-only
term_mapped : (f : ErrorRecord → ErrorRecord) → ((r : ErrorRecord) → RecordFlags.term_only (ErrorRecord.flags (f r)) ≡ r.flags.term_only) → (term : Bool) (o : Option ErrorRecord) → HasTerm term o → HasTerm term (option_map f o)
term_mapped f keeps term None h = h
term_mapped f keeps term (Some r) h = keeps r ∙ h

enclosing_over : (f : ErrorRecord → ErrorRecord) → ((r : ErrorRecord) → RecordFlags.term_only (ErrorRecord.flags (f r)) ≡ r.flags.term_only) → (inside : ℕ) (routine : Reg) (term : Bool) (ls : List Bracket) → RunsOver inside routine term ls → RunsOver inside routine term (at_enclosing (on_record f) ls)
enclosing_over f keeps inside routine term [] h = h
enclosing_over f keeps zero routine term (l ∷ []) h = h
enclosing_over f keeps zero routine term (l ∷ o ∷ ls) h = (h.0, term_mapped f keeps term o.error h.1)
enclosing_over f keeps (suc k) routine term (l ∷ ls) h = inner_over (on_record f) (λ l. refl) k routine term ls h

record_over : (f : ErrorRecord → ErrorRecord) → ((r : ErrorRecord) → RecordFlags.term_only (ErrorRecord.flags (f r)) ≡ r.flags.term_only) → (inside : ℕ) (routine : Reg) (term : Bool) (ls : List Bracket) (b : Bool) → RunsOver inside routine term ls → RunsOver inside routine term (if b then at_enclosing (on_record f) ls else ls)
record_over f keeps inside routine term ls true h = enclosing_over f keeps inside routine term ls h
record_over f keeps inside routine term ls false h = h

pub card_over : (n : ℕ) (place : Place) (op : Op) (c : Core) (inside : ℕ) (routine : Reg) (term : Bool) → RunsOver inside routine term c.levels → RunsOver inside routine term (Core.levels (own_card n place op c))
card_over n place (ops.SetRp setrp) c inside routine term h = record_over (setrp_in setrp) (λ r. refl) inside routine term c.levels (recovers c.levels) h
card_over n place (ops.Ret15 rc label) c inside routine term h = record_over (ret15_in rc label) (λ r. refl) inside routine term c.levels (recovers c.levels) h
card_over n place _ c inside routine term h = h

pub landed_over : (o : Option Abort) (c : Core) (inside : ℕ) (routine : Reg) (term : Bool) → RunsOver inside routine term c.levels → RunsOver inside routine term (Core.levels (with_landed o c))
landed_over None c inside routine term h = h
landed_over (Some abort) c inside routine term h = inner_over (with_open (Some (landed_record abort))) (λ l. refl) inside routine term c.levels h

pub left_over : (verdict : Verdict) (inside : ℕ) (routine : Reg) (term : Bool) (ls : List Bracket) → RunsOver (suc inside) routine term ls → RunsOver inside routine term (after_leave verdict ls)
left_over verdict inside routine term [] h = absurd h
left_over verdict inside routine term (l ∷ ls) h = inner_over (after_verdict verdict l.error) (λ o. (verdict_keeps verdict l.error o).0) inside routine term ls h

-- The state of an error

pub record IsGoing (c : Core) (left : List Reg) : Type 0 where
  pub error : ErrorRecord
  pub open_is : error_in c.levels ≡ Some error
  pub list_is : list_at (depth_in c.levels) error.flags.term_only c ≡ left

pub record IsRunning (c : Core) (routine : Reg) (left : List Reg) (inside : ℕ) : Type 0 where
  pub term : Bool
  pub over : RunsOver inside routine term c.levels
  pub depth : ℕ
  pub depth_is : depth + 1 + inside ≡ depth_in c.levels
  pub list_is : list_at depth term c ≡ routine ∷ left

pub record IsStopped (c : Core) : Type 0 where
  pub going : IsGoing c []
  pub outermost : depth_in c.levels ≡ 0

abbrev pub HasState : Core → Course → Type 0
HasState c (Goes left) = IsGoing c left
HasState c (Runs routine left inside) = IsRunning c routine left inside
HasState c Stopped = IsStopped c
HasState c Closed = Unit {0}
