-- The words and the parts of an entry are read again.
use Rattle.std.proofs.Common.{◌≡◌, ℕ, ◌^◌, ◌<◌, ◌≤◌, Bool, true, false, List, [], ◌∷◌, ◌++◌, length, drop, Option, Some, None, refl, ap, sym, ◌∙◌, append_assoc, eq-eqb, inl, inr, arith}
use Rattle.std.specs.Prelude.{codes, decimal, IsTrue, bytes_eq}
use Rattle.std.specs.List.{AllByRecursion}
use Rattle.std.proofs.lemmas.Bool.{cases_lt, ne_eqb, lt-ltb, and_from}
use Rattle.rtm_codes.specs.declared.code.Code.{Code}
use Rattle.rtm_codes.specs.Code.{text_of, IsInRange, IsVisible}
use Rattle.rtm_codes.specs.Reading.{code_in}
use Rattle.rtm_codes.proofs.Spellings.{code_in-spelled}
use Rattle.rtm_codes.proofs.Written.{Spells-text_of, IsVisible-spelled}
use Rattle.rtm_deck_items.specs.View.{DeckView}
use Rattle.rtm_deck_items.specs.WellFormed.{is_well_formed}
use Rattle.rtm_deck_items.specs.Reading.{lines_of}
use Rattle.rtm_deck_items.proofs.FormFacts.{lines_bound}
use Rattle.rtm_deck_operands.specs.Name.{trimmed_text}
use Rattle.rtm_deck_operands.specs.declared.value.Res.{Res}
use Rattle.rtm_deck_operands.specs.declared.value.Res.TheVariants as res
use Rattle.rtm_model.specs.declared.block.Place.{Place}
use Rattle.rtm_model.specs.declared.entry.Class.{Class}
use Rattle.rtm_model.specs.declared.entry.Class.TheVariants as class
use Rattle.rtm_model.specs.declared.entry.Fate.{Fate}
use Rattle.rtm_model.specs.declared.entry.Fate.TheVariants as fate
use Rattle.rtm_model.specs.declared.entry.Verdict.{Verdict}
use Rattle.rtm_model.specs.declared.entry.Verdict.TheVariants.{Retry, Perc, Stop, Bad, Fail, Over}
use Rattle.rtm_model.specs.declared.mark.Mark.{Mark}
use Rattle.rtm_model.specs.declared.reg.Kind.{Kind}
use Rattle.rtm_model.specs.declared.reg.Kind.TheVariants as kind
use Rattle.rtm_model.specs.inner.Applies.{IsMark}
use Rattle.rtm_model.specs.inner.Soundness.{IsPlace}
use Rattle.rtm_model.specs.Fits.{VerdictFits}
use Rattle.rtm_trace.specs.Text.{unit_text, place_text, reason_text, reason_digits, flag_text, kind_text, class_text, res_text, fate_text, posted_text, verdict_text}
use Rattle.rtm_trace.specs.inner.Words.{is_inner, word_of, rest_of, names_of, kind_in, class_in, res_in, fate_in, plain_verdict, NamesView}
use Rattle.rtm_trace.specs.inner.Reading.{unit_in, place_in, flag_in, behind_flag, reason_in, mark_of_flags, mark_behind_reason, mark_behind_code, mark_in, fate_behind, behind_fate, verdict_in, behind_verdict}
use Rattle.rtm_trace.proofs.Cuts.{plain, ends_word, word_of-text, rest_of-text, before-text, behind-text, test_append}
use Rattle.rtm_trace.proofs.Numbers.{number_in-decimal, plain_decimal, number_in-reason, plain_reason}
use Rattle.rtm_trace.proofs.Lookups.{UnitFact, unit_fact, ProgramFact, program_fact, plain_name, no_point, no_asterisk}

-- Words of one kind each.

pub kind_read : (x : Kind) → kind_in (kind_text x) ≡ Some x
kind_read kind.Frr = refl
kind_read kind.Estae = refl
kind_read kind.Estai = refl
kind_read kind.Mgr = refl

pub kind_plain : (x : Kind) → plain (kind_text x) ≡ true
kind_plain kind.Frr = refl
kind_plain kind.Estae = refl
kind_plain kind.Estai = refl
kind_plain kind.Mgr = refl

pub class_read : (x : Class) → class_in (class_text x) ≡ Some x
class_read class.Cancel = refl
class_read class.Detach = refl
class_read class.Mother = refl
class_read class.Step = refl
class_read class.Abterm = refl
class_read class.Srb = refl

pub class_plain : (x : Class) → plain (class_text x) ≡ true
class_plain class.Cancel = refl
class_plain class.Detach = refl
class_plain class.Mother = refl
class_plain class.Step = refl
class_plain class.Abterm = refl
class_plain class.Srb = refl

pub res_read : (x : Res) → res_in (res_text x) ≡ Some x
res_read res.Enq = refl
res_read res.Stor = refl
res_read res.Dsn = refl
res_read res.Timr = refl

pub res_plain : (x : Res) → plain (res_text x) ≡ true
res_plain res.Enq = refl
res_plain res.Stor = refl
res_plain res.Dsn = refl
res_plain res.Timr = refl

pub fate_read : (x : Fate) → fate_in (fate_text x) ≡ Some x
fate_read fate.Queued = refl
fate_read fate.Merged = refl
fate_read fate.Late = refl

pub fate_plain : (x : Fate) → plain (fate_text x) ≡ true
fate_plain fate.Queued = refl
fate_plain fate.Merged = refl
fate_plain fate.Late = refl

-- what stands behind a mark, up to the end of the line
abbrev pub bare_tail : Bool → List ℕ
bare_tail bare = flag_text bare (codes " NOSDWA") ++ 10 ∷ []

-- the flags of a mark, up to the end of the line
abbrev pub flags_tail : Bool → Bool → Bool → Bool → List ℕ
flags_tail clup perc staf bare = flag_text clup (codes " CLUP") ++ (flag_text perc (codes " PERC") ++ (flag_text staf (codes " STAF") ++ bare_tail bare))

pub flags_end : (clup perc staf bare : Bool) → ends_word (flags_tail clup perc staf bare) ≡ true
flags_end true perc staf bare = refl
flags_end false true staf bare = refl
flags_end false false true bare = refl
flags_end false false false true = refl
flags_end false false false false = refl

pub flags_read : (code : Code) (reason : Option ℕ) (clup perc staf bare : Bool)
    → mark_of_flags code reason (drop 1 (flags_tail clup perc staf bare)) ≡ (record { code = code; reason = reason; clup = clup; perc = perc; staf = staf }, bare)
flags_read code reason true true true true = refl
flags_read code reason true true true false = refl
flags_read code reason true true false true = refl
flags_read code reason true true false false = refl
flags_read code reason true false true true = refl
flags_read code reason true false true false = refl
flags_read code reason true false false true = refl
flags_read code reason true false false false = refl
flags_read code reason false true true true = refl
flags_read code reason false true true false = refl
flags_read code reason false true false true = refl
flags_read code reason false true false false = refl
flags_read code reason false false true true = refl
flags_read code reason false false true false = refl
flags_read code reason false false false true = refl
flags_read code reason false false false false = refl

-- no flag is a reason
pub no_reason : (clup perc staf bare : Bool) → reason_in (word_of (drop 1 (flags_tail clup perc staf bare))) ≡ None
no_reason true true true true = refl
no_reason true true true false = refl
no_reason true true false true = refl
no_reason true true false false = refl
no_reason true false true true = refl
no_reason true false true false = refl
no_reason true false false true = refl
no_reason true false false false = refl
no_reason false true true true = refl
no_reason false true true false = refl
no_reason false true false true = refl
no_reason false true false false = refl
no_reason false false true true = refl
no_reason false false true false = refl
no_reason false false false true = refl
no_reason false false false false = refl

-- the flags of a routine's end
abbrev pub leave_tail : Bool → Bool → List ℕ
leave_tail logrec dump = flag_text logrec (codes " LOGREC") ++ (flag_text dump (codes " DUMP") ++ 10 ∷ [])

pub leave_end : (logrec dump : Bool) → ends_word (leave_tail logrec dump) ≡ true
leave_end true dump = refl
leave_end false true = refl
leave_end false false = refl

pub logrec_read : (logrec dump : Bool) → flag_in (codes "LOGREC") (drop 1 (leave_tail logrec dump)) ≡ logrec
logrec_read true true = refl
logrec_read true false = refl
logrec_read false true = refl
logrec_read false false = refl

pub leave_dump_read : (logrec dump : Bool) → flag_in (codes "DUMP") (behind_flag (codes "LOGREC") (drop 1 (leave_tail logrec dump))) ≡ dump
leave_dump_read true true = refl
leave_dump_read true false = refl
leave_dump_read false true = refl
leave_dump_read false false = refl

-- the flag of an end
abbrev pub begin_tail : Bool → List ℕ
begin_tail dump = flag_text dump (codes " DUMP") ++ 10 ∷ []

pub begin_end : (dump : Bool) → ends_word (begin_tail dump) ≡ true
begin_end true = refl
begin_end false = refl

pub dump_read : (dump : Bool) → flag_in (codes "DUMP") (drop 1 (begin_tail dump)) ≡ dump
dump_read true = refl
dump_read false = refl

-- the aborts that the end of a unit posts
abbrev pub done_tail : Option Fate → Option Fate → List ℕ
done_tail to_task to_step = posted_text (codes " TASK=") to_task ++ (posted_text (codes " STEP=") to_step ++ 10 ∷ [])

pub done_end : (to_task to_step : Option Fate) → ends_word (done_tail to_task to_step) ≡ true
done_end (Some f) to_step = refl
done_end None (Some f) = refl
done_end None None = refl

pub task_read : (to_task to_step : Option Fate) → fate_behind (codes "TASK") (word_of (drop 1 (done_tail to_task to_step))) ≡ to_task
task_read None None = refl
task_read None (Some fate.Queued) = refl
task_read None (Some fate.Merged) = refl
task_read None (Some fate.Late) = refl
task_read (Some fate.Queued) None = refl
task_read (Some fate.Queued) (Some fate.Queued) = refl
task_read (Some fate.Queued) (Some fate.Merged) = refl
task_read (Some fate.Queued) (Some fate.Late) = refl
task_read (Some fate.Merged) None = refl
task_read (Some fate.Merged) (Some fate.Queued) = refl
task_read (Some fate.Merged) (Some fate.Merged) = refl
task_read (Some fate.Merged) (Some fate.Late) = refl
task_read (Some fate.Late) None = refl
task_read (Some fate.Late) (Some fate.Queued) = refl
task_read (Some fate.Late) (Some fate.Merged) = refl
task_read (Some fate.Late) (Some fate.Late) = refl

pub step_read : (to_task to_step : Option Fate) → fate_behind (codes "STEP") (word_of (behind_fate (codes "TASK") (drop 1 (done_tail to_task to_step)))) ≡ to_step
step_read None None = refl
step_read None (Some fate.Queued) = refl
step_read None (Some fate.Merged) = refl
step_read None (Some fate.Late) = refl
step_read (Some fate.Queued) None = refl
step_read (Some fate.Queued) (Some fate.Queued) = refl
step_read (Some fate.Queued) (Some fate.Merged) = refl
step_read (Some fate.Queued) (Some fate.Late) = refl
step_read (Some fate.Merged) None = refl
step_read (Some fate.Merged) (Some fate.Queued) = refl
step_read (Some fate.Merged) (Some fate.Merged) = refl
step_read (Some fate.Merged) (Some fate.Late) = refl
step_read (Some fate.Late) None = refl
step_read (Some fate.Late) (Some fate.Queued) = refl
step_read (Some fate.Late) (Some fate.Merged) = refl
step_read (Some fate.Late) (Some fate.Late) = refl

-- codes
visible_plain : (text : List ℕ) → AllByRecursion IsVisible text → plain text ≡ true
visible_plain [] h = refl
visible_plain (b ∷ bs) h = and_from (is_inner b) (plain bs) (lt-ltb 32 b h.0.0) (visible_plain bs h.1)

pub plain_code : (code : Code) → IsInRange code → plain (text_of code) ≡ true
plain_code code h = visible_plain (text_of code) (IsVisible-spelled (text_of code) code (Spells-text_of code h))

pub code_read : (code : Code) → IsInRange code → code_in (text_of code) ≡ Some code
code_read code h = code_in-spelled (text_of code) code (Spells-text_of code h)

-- marks, with what stands behind them
abbrev pub mark_tail : Mark → Bool → List ℕ
mark_tail mark bare = reason_text mark.reason ++ flags_tail mark.clup mark.perc mark.staf bare

reason_end : (reason : Option ℕ) (clup perc staf bare : Bool) → ends_word (reason_text reason ++ flags_tail clup perc staf bare) ≡ true
reason_end None clup perc staf bare = flags_end clup perc staf bare
reason_end (Some n) clup perc staf bare = refl

with_reason : (code : Code) (found reason : Option ℕ) (line : List ℕ) (mark : Mark × Bool) → found ≡ reason → mark_behind_reason code reason line ≡ mark → mark_behind_reason code found line ≡ mark
with_reason code found reason line mark e f = rw e f

reason_read : (code : Code) (reason : Option ℕ) (clup perc staf bare : Bool) → ((n : ℕ) → reason ≡ Some n → n < 4294967296)
    → mark_behind_code code (drop 1 (reason_text reason ++ flags_tail clup perc staf bare)) ≡ (record { code = code; reason = reason; clup = clup; perc = perc; staf = staf }, bare)
reason_read code None clup perc staf bare small =
    with_reason code _ None (drop 1 (flags_tail clup perc staf bare)) _ (no_reason clup perc staf bare) (flags_read code None clup perc staf bare)
reason_read code (Some n) clup perc staf bare small =
    let tail = flags_tail clup perc staf bare in
    let end = flags_end clup perc staf bare in
    let digits = reason_digits n in
    let word : word_of (digits ++ tail) ≡ digits = word_of-text digits tail (plain_reason n) end in
    let rest : rest_of (digits ++ tail) ≡ drop 1 tail = rest_of-text digits tail (plain_reason n) end in
    let found : reason_in (codes "REASON=" ++ word_of (digits ++ tail)) ≡ Some n = rw word (number_in-reason n (small n refl)) in
    with_reason code _ (Some n) (codes "REASON=" ++ (digits ++ tail)) _ found
    (ap (mark_of_flags code (Some n)) rest ∙ flags_read code (Some n) clup perc staf bare)

reason_small : (mark : Mark) → IsMark mark → (n : ℕ) → mark.reason ≡ Some n → n < 4294967296
reason_small mark h n e = let r = h.reason in let s = rw e at r in s

pub mark_read : (mark : Mark) (bare : Bool) → IsMark mark → mark_in (text_of mark.code ++ mark_tail mark bare) ≡ Some (mark, bare)
mark_read mark bare h =
    let tail = mark_tail mark bare in
    let end = reason_end mark.reason mark.clup mark.perc mark.staf bare in
    let word = word_of-text (text_of mark.code) tail (plain_code mark.code h.code) end in
    let rest = rest_of-text (text_of mark.code) tail (plain_code mark.code h.code) end in
    rw (word, rest, code_read mark.code h.code) (ap Some (reason_read mark.code mark.reason mark.clup mark.perc mark.staf bare (reason_small mark h)))

-- a verdict without a place
verdict_by : (names : NamesView) (line word : List ℕ) (v : Verdict) → word_of line ≡ word → bytes_eq word (codes "RETRY") ≡ false → plain_verdict word ≡ Some v → verdict_in names line ≡ Some v
verdict_by names line word v e f g = rw (e, f) g

behind_by : (line word rest : List ℕ) → word_of line ≡ word → bytes_eq word (codes "RETRY") ≡ false → rest_of line ≡ rest → behind_verdict line ≡ rest
behind_by line word rest e f g = rw (e, f) g

-- units and places of a well-formed deck
module _ (d : DeckView) (w : IsTrue (is_well_formed d)) where
  pub unit_named : (u : ℕ) (f : UnitFact d u) → u < length d.units → unit_text d u ≡ trimmed_text f.card.name
  unit_named u f less = rw (ne_eqb u (length d.units) (λ e. absurd (omega arith)), f.there) refl

  pub master_text : unit_text d (length d.units) ≡ 42 ∷ []
  master_text = rw (eq-eqb (length d.units) (length d.units) refl) refl

  pub unit_plain : (u : ℕ) → u ≤ length d.units → plain (unit_text d u) ≡ true
  unit_plain u h = elim (cases_lt u (length d.units)) [
    | inl less ↦ let f = unit_fact d w u less in ap plain (unit_named u f less) ∙ plain_name f.card.name f.name
    | inr more ↦ let same : u ≡ length d.units = omega arith in ap (λ (k : ℕ). plain (unit_text d k)) same ∙ ap plain master_text
  ]

  pub unit_read : (u : ℕ) → u ≤ length d.units → unit_in (names_of d) (length d.units) (unit_text d u) ≡ Some u
  unit_read u h = elim (cases_lt u (length d.units)) [
    | inl less ↦
        let f = unit_fact d w u less in
        ap (unit_in (names_of d) (length d.units)) (unit_named u f less) ∙ rw (no_asterisk f.card.name f.name) f.read
    | inr more ↦
        let same : u ≡ length d.units = omega arith in
        ap (λ (k : ℕ). unit_in (names_of d) (length d.units) (unit_text d k)) same ∙ (ap (unit_in (names_of d) (length d.units)) master_text ∙ ap Some (sym same))
  ]

  pub place_named : (place : Place) (f : ProgramFact d place.prog) → place_text d place ≡ trimmed_text f.program.name ++ 46 ∷ decimal place.op
  place_named place f = rw f.there (append_assoc (trimmed_text f.program.name) (codes ".") (decimal place.op))

  pub op_small : (place : Place) → IsPlace d place → place.op ≤ 10001
  op_small place h =
      let f = program_fact d w place.prog h.prog in
      let few = lines_bound d w place.prog f.program f.there in
      let last = h.last in
      let same : length (lines_of d place.prog) ≡ length f.program.lines = rw f.there refl in
      omega (arith, few, last, same)

  pub place_plain : (place : Place) → IsPlace d place → plain (place_text d place) ≡ true
  place_plain place h =
      let f = program_fact d w place.prog h.prog in
      let small = op_small place h in
      let fits : place.op < 2 ^ 64 = omega (arith, small) in
      ap plain (place_named place f)
      ∙ test_append is_inner (trimmed_text f.program.name) (46 ∷ decimal place.op) (plain_name f.program.name f.name) (plain_decimal place.op fits)

  pub place_read : (place : Place) → IsPlace d place → place_in (names_of d) (place_text d place) ≡ Some place
  place_read place h =
      let f = program_fact d w place.prog h.prog in
      let small = op_small place h in
      let name = trimmed_text f.program.name in
      let tail : List ℕ = 46 ∷ decimal place.op in
      let front = before-text 46 name tail (no_point f.program.name f.name) refl in
      let back = behind-text 46 name tail (no_point f.program.name f.name) refl in
      ap (place_in (names_of d)) (place_named place f)
      ∙ rw (front, back, f.read, number_in-decimal 65536 place.op (omega (arith, small)) (omega (arith, small))) refl

  -- a verdict, and what stands behind it
  pub verdict_read : (verdict : Verdict) (tail : List ℕ) → VerdictFits d verdict → ends_word tail ≡ true → verdict_in (names_of d) (verdict_text d verdict ++ tail) ≡ Some verdict
  verdict_read (Retry place) tail h end =
      let word = word_of-text (place_text d place) tail (place_plain place h) end in
      rw (word, place_read place h) refl
  verdict_read Perc tail h end = verdict_by (names_of d) (codes "PERC" ++ tail) (codes "PERC") Perc (word_of-text (codes "PERC") tail refl end) refl refl
  verdict_read Stop tail h end = verdict_by (names_of d) (codes "STOP" ++ tail) (codes "STOP") Stop (word_of-text (codes "STOP") tail refl end) refl refl
  verdict_read Bad tail h end = verdict_by (names_of d) (codes "BAD" ++ tail) (codes "BAD") Bad (word_of-text (codes "BAD") tail refl end) refl refl
  verdict_read Fail tail h end = verdict_by (names_of d) (codes "FAIL" ++ tail) (codes "FAIL") Fail (word_of-text (codes "FAIL") tail refl end) refl refl
  verdict_read Over tail h end = verdict_by (names_of d) (codes "OVER" ++ tail) (codes "OVER") Over (word_of-text (codes "OVER") tail refl end) refl refl

  pub verdict_behind : (verdict : Verdict) (tail : List ℕ) → VerdictFits d verdict → ends_word tail ≡ true → behind_verdict (verdict_text d verdict ++ tail) ≡ drop 1 tail
  verdict_behind (Retry place) tail h end = rest_of-text (place_text d place) tail (place_plain place h) end
  verdict_behind Perc tail h end = behind_by (codes "PERC" ++ tail) (codes "PERC") (drop 1 tail) (word_of-text (codes "PERC") tail refl end) refl (rest_of-text (codes "PERC") tail refl end)
  verdict_behind Stop tail h end = behind_by (codes "STOP" ++ tail) (codes "STOP") (drop 1 tail) (word_of-text (codes "STOP") tail refl end) refl (rest_of-text (codes "STOP") tail refl end)
  verdict_behind Bad tail h end = behind_by (codes "BAD" ++ tail) (codes "BAD") (drop 1 tail) (word_of-text (codes "BAD") tail refl end) refl (rest_of-text (codes "BAD") tail refl end)
  verdict_behind Fail tail h end = behind_by (codes "FAIL" ++ tail) (codes "FAIL") (drop 1 tail) (word_of-text (codes "FAIL") tail refl end) refl (rest_of-text (codes "FAIL") tail refl end)
  verdict_behind Over tail h end = behind_by (codes "OVER" ++ tail) (codes "OVER") (drop 1 tail) (word_of-text (codes "OVER") tail refl end) refl (rest_of-text (codes "OVER") tail refl end)
