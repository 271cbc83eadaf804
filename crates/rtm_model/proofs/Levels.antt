-- What changes of levels leave: how many brackets there are, and whether an error is open in the outermost one.
use Rattle.std.proofs.Common.{◌≡◌, ◌≤◌, Bool, true, false, List, [], ◌∷◌, length, Option, Some, None, refl, arith}
use Rattle.std.specs.Prelude.{if◌then◌else◌}
use Rattle.std.specs.Option.{option_map}
use Rattle.rtm_model.specs.declared.entry.Verdict.{Verdict}
use Rattle.rtm_model.specs.declared.entry.Verdict.TheVariants as verdicts
use Rattle.rtm_model.specs.declared.error_record.ErrorRecord.{ErrorRecord}
use Rattle.rtm_model.specs.declared.reg.Reg.{Reg}
use Rattle.rtm_model.specs.Levels.{Bracket, after_enter, after_inner_failure, after_leave, after_verdict, at_enclosing, at_innermost, on_record, recovers}
use Rattle.rtm_model.specs.Record.{after_percolation}
use Rattle.rtm_model.specs.inner.Soundness.{OutermostQuiet}

pub length_innermost : (f : Bracket → Bracket) (ls : List Bracket) → length (at_innermost f ls) ≡ length ls
length_innermost f [] = refl
length_innermost f (l ∷ ls) = refl

pub length_enclosing : (f : Bracket → Bracket) (ls : List Bracket) → length (at_enclosing f ls) ≡ length ls
length_enclosing f [] = refl
length_enclosing f (l ∷ []) = refl
length_enclosing f (l ∷ m ∷ ls) = refl

-- the record of the routine that runs in the innermost bracket changed, as by SETRP and RET15
abbrev pub after_record : (ErrorRecord → ErrorRecord) → List Bracket → List Bracket
after_record f ls = if recovers ls then at_enclosing (on_record f) ls else ls

length_record_if : (f : ErrorRecord → ErrorRecord) (ls : List Bracket) (b : Bool) → length (if b then at_enclosing (on_record f) ls else ls) ≡ length ls
length_record_if f ls true = length_enclosing (on_record f) ls
length_record_if f ls false = refl

pub length_record : (f : ErrorRecord → ErrorRecord) (ls : List Bracket) → length (after_record f ls) ≡ length ls
length_record f ls = length_record_if f ls (recovers ls)

-- The outermost bracket stays quiet where another one changes, or the record of an open error.

pub quiet_innermost : (f : Bracket → Bracket) (ls : List Bracket) → 2 ≤ length ls → OutermostQuiet ls → OutermostQuiet (at_innermost f ls)
quiet_innermost f [] inner q = q
quiet_innermost f (l ∷ []) inner q = absurd (omega arith)
quiet_innermost f (l ∷ m ∷ ls) inner q = q

pub quiet_entered : (reg : Reg) (bare : Bool) (ls : List Bracket) → OutermostQuiet ls → OutermostQuiet (after_enter reg bare ls)
quiet_entered reg bare [] q = refl
quiet_entered reg bare (l ∷ ls) q = q

none_mapped : (f : ErrorRecord → ErrorRecord) (o : Option ErrorRecord) → o ≡ None → option_map f o ≡ None
none_mapped f None e = refl
none_mapped f (Some r) e = absurd cc

quiet_enclosing : (f : ErrorRecord → ErrorRecord) (ls : List Bracket) → OutermostQuiet ls → OutermostQuiet (at_enclosing (on_record f) ls)
quiet_enclosing f [] q = q
quiet_enclosing f (l ∷ []) q = q
quiet_enclosing f (l ∷ m ∷ []) q = none_mapped f m.error q
quiet_enclosing f (l ∷ m ∷ k ∷ ls) q = q

quiet_record_if : (f : ErrorRecord → ErrorRecord) (ls : List Bracket) (b : Bool) → OutermostQuiet ls → OutermostQuiet (if b then at_enclosing (on_record f) ls else ls)
quiet_record_if f ls true q = quiet_enclosing f ls q
quiet_record_if f ls false q = q

pub quiet_record : (f : ErrorRecord → ErrorRecord) (ls : List Bracket) → OutermostQuiet ls → OutermostQuiet (after_record f ls)
quiet_record f ls q = quiet_record_if f ls (recovers ls) q

quiet_verdict : (inner : Option ErrorRecord) (l : Bracket) (v : Verdict) → l.error ≡ None → Bracket.error (after_verdict v inner l) ≡ None
quiet_verdict inner l (verdicts.Retry place) e = refl
quiet_verdict inner l verdicts.Perc e = none_mapped after_percolation l.error e
quiet_verdict inner l verdicts.Stop e = none_mapped after_percolation l.error e
quiet_verdict inner l verdicts.Bad e = none_mapped after_percolation l.error e
quiet_verdict inner l verdicts.Fail e = none_mapped (after_inner_failure inner) l.error e
quiet_verdict inner l verdicts.Over e = e

pub quiet_left : (v : Verdict) (ls : List Bracket) → OutermostQuiet ls → OutermostQuiet (after_leave v ls)
quiet_left v [] q = tt
quiet_left v (l ∷ []) q = tt
quiet_left v (l ∷ m ∷ []) q = quiet_verdict l.error m v q
quiet_left v (l ∷ m ∷ k ∷ ls) q = q
