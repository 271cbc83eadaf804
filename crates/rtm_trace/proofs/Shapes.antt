-- Lines have no line feed inside, and few bytes.
use Rattle.std.proofs.Common.{◌≡◌, ℕ, ◌+◌, ◌^◌, ◌<◌, ◌≤◌, Bool, true, false, not, eqb, ltb, List, [], ◌∷◌, ◌++◌, length, Option, Some, None, refl, sym, subst, length-append, inl, inr, arith}
use Rattle.std.specs.Prelude.{codes, decimal, IsTrue}
use Rattle.std.specs.List.{list_all}
use Rattle.std.proofs.lemmas.Bool.Decides.{nat_tests}
use Rattle.std.proofs.lemmas.Bool.{cases_lt}
use Rattle.std.proofs.lemmas.Fmt.{length-decimal-le}
use Rattle.rtm_codes.specs.declared.code.Code.{Code}
use Rattle.rtm_codes.specs.Code.{text_of, IsInRange}
use Rattle.rtm_codes.proofs.Written.{Spells-text_of, length-spelled}
use Rattle.rtm_deck_items.specs.View.{DeckView}
use Rattle.rtm_deck_items.specs.WellFormed.{is_well_formed}
use Rattle.rtm_deck_operands.specs.Name.{trimmed_text, is_padded_name}
use Rattle.rtm_deck_operands.specs.declared.value.Res.{Res}
use Rattle.rtm_deck_operands.specs.declared.value.Res.TheVariants as res
use Rattle.rtm_deck_operands.proofs.Names.{padded_parts, length-name}
use Rattle.rtm_model.specs.declared.block.Place.{Place}
use Rattle.rtm_model.specs.declared.entry.Class.{Class}
use Rattle.rtm_model.specs.declared.entry.Class.TheVariants as class
use Rattle.rtm_model.specs.declared.entry.Entry.{Entry}
use Rattle.rtm_model.specs.declared.entry.Fate.{Fate}
use Rattle.rtm_model.specs.declared.entry.Fate.TheVariants as fate
use Rattle.rtm_model.specs.declared.entry.Verdict.{Verdict}
use Rattle.rtm_model.specs.declared.entry.Verdict.TheVariants.{Retry, Perc, Stop, Bad, Fail, Over}
use Rattle.rtm_model.specs.declared.entry.What.{What}
use Rattle.rtm_model.specs.declared.entry.What.TheVariants.{Exec, Error, Land, Enter, Leave, Arrive, Begin, Release, Done, Purge, MemEnd}
use Rattle.rtm_model.specs.declared.mark.Mark.{Mark}
use Rattle.rtm_model.specs.declared.reg.Kind.{Kind}
use Rattle.rtm_model.specs.declared.reg.Kind.TheVariants as kind
use Rattle.rtm_model.specs.inner.Applies.{IsMark}
use Rattle.rtm_model.specs.inner.Soundness.{IsPlace}
use Rattle.rtm_model.specs.Fits.{Fits, WhatFits, VerdictFits}
use Rattle.rtm_deck_items.proofs.FormFacts.{limits}
use Rattle.rtm_trace.specs.Text.{unit_text, place_text, reason_text, reason_digits, flag_text, mark_text, kind_text, class_text, res_text, fate_text, posted_text, verdict_text, what_text, entry_text, line_text}
use Rattle.rtm_trace.specs.inner.Words.{is_inner}
use Rattle.rtm_trace.proofs.Cuts.{plain, lacks, test_append, each_test}
use Rattle.rtm_trace.proofs.Numbers.{plain_decimal, plain_reason, length-reason}
use Rattle.rtm_trace.proofs.Lookups.{unit_fact, program_fact, plain_name}
use Rattle.rtm_trace.proofs.Parts.{plain_code, unit_plain, unit_named, master_text, place_named, op_small}

-- a blank, or a byte of a word
abbrev is_shown : ℕ → Bool
is_shown b = ltb 31 b

-- a text of such bytes, and of so many at most
pub record Written (text : List ℕ) (most : ℕ) : Type 0 where
  pub shown : list_all is_shown text ≡ true
  pub short : length text ≤ most

literal : (text : List ℕ) (n : ℕ) → list_all is_shown text ≡ true → length text ≡ n → Written text n
literal text n s e = record { shown = s; short = omega arith }

join : (a b : List ℕ) (m n : ℕ) → Written a m → Written b n → Written (a ++ b) (m + n)
join a b m n x y =
    let size = length-append a b in
    let first = x.short in
    let second = y.short in
    record { shown = test_append is_shown a b x.shown y.shown; short = omega (arith, size, first, second) }

wider : (text : List ℕ) (m n : ℕ) → Written text m → m ≤ n → Written text n
wider text m n x h = let short = x.short in record { shown = x.shown; short = omega (arith, short, h) }

inner_is_shown : (b : ℕ) → is_inner b ≡ true → is_shown b ≡ true
inner_is_shown b h = grind (arith, nat_tests)

word : (text : List ℕ) (n : ℕ) → plain text ≡ true → length text ≤ n → Written text n
word text n all few = record { shown = each_test is_inner is_shown inner_is_shown text all; short = few }

number : (digits n : ℕ) → 0 < digits → n < 10 ^ digits → n < 2 ^ 64 → Written (decimal n) digits
number digits n some small wide = word (decimal n) digits (plain_decimal n wide) (length-decimal-le digits n some small wide)

code_written : (code : Code) → IsInRange code → Written (text_of code) 5
code_written code h = word (text_of code) 5 (plain_code code h) (length-spelled (text_of code) code (Spells-text_of code h)).1

kind_written : (x : Kind) → Written (kind_text x) 5
kind_written kind.Frr = record { shown = refl; short = omega arith }
kind_written kind.Estae = record { shown = refl; short = omega arith }
kind_written kind.Estai = record { shown = refl; short = omega arith }
kind_written kind.Mgr = record { shown = refl; short = omega arith }

class_written : (x : Class) → Written (class_text x) 6
class_written class.Cancel = record { shown = refl; short = omega arith }
class_written class.Detach = record { shown = refl; short = omega arith }
class_written class.Mother = record { shown = refl; short = omega arith }
class_written class.Step = record { shown = refl; short = omega arith }
class_written class.Abterm = record { shown = refl; short = omega arith }
class_written class.Srb = record { shown = refl; short = omega arith }

res_written : (x : Res) → Written (res_text x) 4
res_written res.Enq = record { shown = refl; short = omega arith }
res_written res.Stor = record { shown = refl; short = omega arith }
res_written res.Dsn = record { shown = refl; short = omega arith }
res_written res.Timr = record { shown = refl; short = omega arith }

fate_written : (x : Fate) → Written (fate_text x) 6
fate_written fate.Queued = record { shown = refl; short = omega arith }
fate_written fate.Merged = record { shown = refl; short = omega arith }
fate_written fate.Late = record { shown = refl; short = omega arith }

flag_written : (flag : Bool) (text : List ℕ) (n : ℕ) → Written text n → Written (flag_text flag text) n
flag_written true text n x = x
flag_written false text n x = record { shown = refl; short = omega arith }

posted_written : (words : List ℕ) (posted : Option Fate) → Written words 6 → Written (posted_text words posted) 12
posted_written words None x = record { shown = refl; short = omega arith }
posted_written words (Some f) x = join words (fate_text f) 6 6 x (fate_written f)

reason_written : (reason : Option ℕ) → Written (reason_text reason) 16
reason_written None = record { shown = refl; short = omega arith }
reason_written (Some n) =
    let size = length-reason n in
    join (codes " REASON=") (reason_digits n) 8 8 (literal (codes " REASON=") 8 refl refl) (word (reason_digits n) 8 (plain_reason n) (omega (arith, size)))

mark_written : (mark : Mark) → IsMark mark → Written (mark_text mark) 36
mark_written mark h =
    join _ _ 31 5
    (join _ _ 26 5
    (join _ _ 21 5 (join _ _ 5 16 (code_written mark.code h.code) (reason_written mark.reason)) (flag_written mark.clup (codes " CLUP") 5 (literal (codes " CLUP") 5 refl refl)))
    (flag_written mark.perc (codes " PERC") 5 (literal (codes " PERC") 5 refl refl)))
    (flag_written mark.staf (codes " STAF") 5 (literal (codes " STAF") 5 refl refl))

blank_written : Written (codes " ") 1
blank_written = literal (codes " ") 1 refl refl

name_short : (name : List ℕ) → is_padded_name name ≡ true → length (trimmed_text name) ≤ 8
name_short name h = (length-name (trimmed_text name) (padded_parts name h).name).1

name_written : (name : List ℕ) → is_padded_name name ≡ true → Written (trimmed_text name) 8
name_written name h = word (trimmed_text name) 8 (plain_name name h) (name_short name h)

module _ (d : DeckView) (w : IsTrue (is_well_formed d)) where
  unit_written : (u : ℕ) → u ≤ length d.units → Written (unit_text d u) 8
  unit_written u h = word (unit_text d u) 8 (unit_plain d w u h) (elim (cases_lt u (length d.units)) [
    | inl less ↦
        let f = unit_fact d w u less in
        let short = name_short f.card.name f.name in
        subst (λ (text : List ℕ). length text ≤ 8) (sym (unit_named d w u f less)) short
    | inr more ↦
        let same : length d.units ≡ u = omega arith in
        subst (λ (k : ℕ). length (unit_text d k) ≤ 8) same (subst (λ (text : List ℕ). length text ≤ 8) (sym (master_text d w)) (omega arith))
  ])

  place_written : (place : Place) → IsPlace d place → Written (place_text d place) 14
  place_written place h =
      let f = program_fact d w place.prog h.prog in
      let small = op_small d w place h in
      let op = number 5 place.op (omega arith) (omega (arith, small)) (omega (arith, small)) in
      subst (λ (text : List ℕ). Written text 14) (sym (place_named d w place f))
      (join (trimmed_text f.program.name) (46 ∷ decimal place.op) 8 6 (name_written f.program.name f.name)
      (join (46 ∷ []) (decimal place.op) 1 5 (literal (46 ∷ []) 1 refl refl) op))

  verdict_written : (verdict : Verdict) → VerdictFits d verdict → Written (verdict_text d verdict) 20
  verdict_written (Retry place) h = join (codes "RETRY ") (place_text d place) 6 14 (literal (codes "RETRY ") 6 refl refl) (place_written place h)
  verdict_written Perc h = record { shown = refl; short = omega arith }
  verdict_written Stop h = record { shown = refl; short = omega arith }
  verdict_written Bad h = record { shown = refl; short = omega arith }
  verdict_written Fail h = record { shown = refl; short = omega arith }
  verdict_written Over h = record { shown = refl; short = omega arith }

  index_written : (n : ℕ) → n < 4294967296 → Written (decimal n) 10
  index_written n h = number 10 n (omega arith) (omega arith) (omega arith)

  what_written : (said : What) → WhatFits d said → Written (what_text d said) 67
  what_written (Exec at rc) h =
      let small : rc < 256 = h.1 in
      wider _ 26 67
      (join _ _ 23 3
      (join _ _ 19 4 (join _ _ 5 14 (literal (codes "EXEC ") 5 refl refl) (place_written at h.0)) (literal (codes " RC=") 4 refl refl))
      (number 3 rc (omega arith) (omega arith) (omega arith)))
      (omega arith)
  what_written (Error at mark) h =
      wider _ 57 67
      (join _ _ 21 36 (join _ _ 20 1 (join _ _ 6 14 (literal (codes "ERROR ") 6 refl refl) (place_written at h.0)) blank_written) (mark_written mark h.1))
      (omega arith)
  what_written (Land class from mark) h =
      wider _ 59 67
      (join _ _ 23 36
      (join _ _ 22 1 (join _ _ 12 10 (join _ _ 11 1 (join _ _ 5 6 (literal (codes "LAND ") 5 refl refl) (class_written class)) blank_written) (index_written from h.0)) blank_written)
      (mark_written mark h.1))
      (omega arith)
  what_written (Enter kind reg mark bare) h =
      wider _ 66 67
      (join _ _ 59 7
      (join _ _ 23 36
      (join _ _ 22 1 (join _ _ 12 10 (join _ _ 11 1 (join _ _ 6 5 (literal (codes "ENTER ") 6 refl refl) (kind_written kind)) blank_written) (index_written reg h.0)) blank_written)
      (mark_written mark h.1))
      (flag_written bare (codes " NOSDWA") 7 (literal (codes " NOSDWA") 7 refl refl)))
      (omega arith)
  what_written (Leave kind reg verdict logrec dump) h =
      wider _ 55 67
      (join _ _ 50 5
      (join _ _ 43 7
      (join _ _ 23 20
      (join _ _ 22 1 (join _ _ 12 10 (join _ _ 11 1 (join _ _ 6 5 (literal (codes "LEAVE ") 6 refl refl) (kind_written kind)) blank_written) (index_written reg h.0)) blank_written)
      (verdict_written verdict h.1))
      (flag_written logrec (codes " LOGREC") 7 (literal (codes " LOGREC") 7 refl refl)))
      (flag_written dump (codes " DUMP") 5 (literal (codes " DUMP") 5 refl refl)))
      (omega arith)
  what_written (Arrive cmd fate) h =
      let few = (limits d w).commands in
      let less : cmd < length d.commands = h in
      wider _ 17 67
      (join _ _ 11 6
      (join _ _ 10 1 (join _ _ 7 3 (literal (codes "ARRIVE ") 7 refl refl) (number 3 cmd (omega arith) (omega (arith, few)) (omega (arith, few)))) blank_written)
      (fate_written fate))
      (omega arith)
  what_written (Begin code dump) h =
      wider _ 16 67
      (join _ _ 11 5 (join _ _ 6 5 (literal (codes "BEGIN ") 6 refl refl) (code_written code h)) (flag_written dump (codes " DUMP") 5 (literal (codes " DUMP") 5 refl refl)))
      (omega arith)
  what_written (Release class id owner) h =
      let most : id ≤ 999999 = h.0 in
      wider _ 28 67
      (join _ _ 20 8
      (join _ _ 19 1
      (join _ _ 13 6 (join _ _ 12 1 (join _ _ 8 4 (literal (codes "RELEASE ") 8 refl refl) (res_written class)) blank_written) (number 6 id (omega arith) (omega arith) (omega arith)))
      blank_written)
      (unit_written owner h.1))
      (omega arith)
  what_written (Done code to_task to_step) h =
      wider _ 34 67
      (join _ _ 22 12
      (join _ _ 10 12 (join _ _ 5 5 (literal (codes "DONE ") 5 refl refl) (code_written code h)) (posted_written (codes " TASK=") to_task (literal (codes " TASK=") 6 refl refl)))
      (posted_written (codes " STEP=") to_step (literal (codes " STEP=") 6 refl refl)))
      (omega arith)
  what_written (Purge unit) h =
      let less : unit < length d.units = h in
      wider _ 14 67 (join _ _ 6 8 (literal (codes "PURGE ") 6 refl refl) (unit_written unit (omega arith))) (omega arith)
  what_written MemEnd h = record { shown = refl; short = omega arith }

  -- the line without its line feed
  pub line_written : (n : ℕ) (e : Entry) → n < 2 ^ 64 → Fits d e → Written (decimal n ++ codes " " ++ entry_text d e) 97
  line_written n e small h =
      join _ _ 21 76
      (join _ _ 20 1 (number 20 n (omega arith) (omega (arith, small)) small) blank_written)
      (join _ _ 9 67 (join _ _ 8 1 (unit_written e.unit h.unit) blank_written) (what_written e.what h.what))

  -- a line has at most 98 bytes
  pub line_short : (n : ℕ) (e : Entry) → n < 2 ^ 64 → Fits d e → length (line_text d n e) ≤ 98
  line_short n e small h =
      let size = length-append (decimal n ++ codes " " ++ entry_text d e) (10 ∷ []) in
      let few = (line_written n e small h).short in
      omega (arith, size, few)

shown_is_no_feed : (b : ℕ) → is_shown b ≡ true → not (eqb b 10) ≡ true
shown_is_no_feed b h = grind (arith, nat_tests)

pub written_lacks_feed : (text : List ℕ) (n : ℕ) → Written text n → lacks 10 text ≡ true
written_lacks_feed text n x = each_test is_shown (λ b. not (eqb b 10)) shown_is_no_feed text x.shown
