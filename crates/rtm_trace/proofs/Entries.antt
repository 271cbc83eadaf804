-- The line of an entry that fits a well-formed deck is read as that entry.
use Rattle.std.proofs.Common.{◌≡◌, ℕ, ◌^◌, ◌<◌, ◌≤◌, Bool, true, false, List, [], ◌∷◌, ◌++◌, length, drop, Option, Some, refl, ap, ◌∙◌, append_assoc, arith}
use Rattle.std.specs.Prelude.{codes, decimal, IsTrue}
use Rattle.rtm_codes.specs.declared.code.Code.{Code}
use Rattle.rtm_codes.specs.Code.{text_of}
use Rattle.rtm_codes.specs.Reading.{code_in}
use Rattle.rtm_deck_items.specs.View.{DeckView}
use Rattle.rtm_deck_items.specs.WellFormed.{is_well_formed}
use Rattle.rtm_deck_items.proofs.FormFacts.{limits}
use Rattle.rtm_deck_operands.specs.declared.value.Res.{Res}
use Rattle.rtm_model.specs.declared.block.Place.{Place}
use Rattle.rtm_model.specs.declared.entry.Class.{Class}
use Rattle.rtm_model.specs.declared.entry.Entry.{Entry}
use Rattle.rtm_model.specs.declared.entry.Fate.{Fate}
use Rattle.rtm_model.specs.declared.entry.Verdict.{Verdict}
use Rattle.rtm_model.specs.declared.entry.What.{What}
use Rattle.rtm_model.specs.declared.entry.What.TheVariants.{Exec, Error, Land, Enter, Leave, Arrive, Begin, Release, Done, Purge, MemEnd}
use Rattle.rtm_model.specs.declared.mark.Mark.{Mark}
use Rattle.rtm_model.specs.declared.reg.Kind.{Kind}
use Rattle.rtm_model.specs.inner.Applies.{IsMark}
use Rattle.rtm_model.specs.Fits.{Fits, WhatFits}
use Rattle.rtm_trace.specs.Text.{unit_text, place_text, reason_text, flag_text, mark_text, kind_text, class_text, res_text, fate_text, posted_text, verdict_text, what_text, entry_text, line_text}
use Rattle.rtm_trace.specs.inner.Words.{word_of, rest_of, behind, number_in, names_of, NamesView, kind_in, class_in, res_in, fate_in}
use Rattle.rtm_trace.specs.inner.Reading.{unit_in, place_in, index_in, flag_in, behind_flag, mark_in, fate_behind, behind_fate, verdict_in, behind_verdict, exec_in, error_in, land_in, enter_in, leave_in, arrive_in, begin_in, release_in, done_in, purge_in, what_in, line_in}
use Rattle.rtm_trace.proofs.Cuts.{plain, ends_word, word_of-text, rest_of-text}
use Rattle.rtm_trace.proofs.Numbers.{number_in-decimal, plain_decimal}
use Rattle.rtm_trace.proofs.Parts.{kind_read, kind_plain, class_read, class_plain, res_read, res_plain, fate_read, fate_plain, leave_tail, leave_end, logrec_read, leave_dump_read, begin_tail, begin_end, dump_read, done_tail, done_end, task_read, step_read, plain_code, code_read, bare_tail, mark_tail, mark_read, unit_plain, unit_read, place_plain, place_read, verdict_read, verdict_behind}

-- Texts one after the other, each before all that follow.
in_three : (a b c : List ℕ) → (a ++ b) ++ c ≡ a ++ (b ++ c)
in_three a b c = append_assoc a b c

in_four : (a b c e : List ℕ) → ((a ++ b) ++ c) ++ e ≡ a ++ (b ++ (c ++ e))
in_four a b c e = in_three (a ++ b) c e ∙ in_three a b (c ++ e)

in_five : (a b c e f : List ℕ) → (((a ++ b) ++ c) ++ e) ++ f ≡ a ++ (b ++ (c ++ (e ++ f)))
in_five a b c e f = in_three ((a ++ b) ++ c) e f ∙ in_four a b c (e ++ f)

in_six : (a b c e f g : List ℕ) → ((((a ++ b) ++ c) ++ e) ++ f) ++ g ≡ a ++ (b ++ (c ++ (e ++ (f ++ g))))
in_six a b c e f g = in_three (((a ++ b) ++ c) ++ e) f g ∙ in_five a b c e (f ++ g)

in_seven : (a b c e f g h : List ℕ) → (((((a ++ b) ++ c) ++ e) ++ f) ++ g) ++ h ≡ a ++ (b ++ (c ++ (e ++ (f ++ (g ++ h)))))
in_seven a b c e f g h = in_three ((((a ++ b) ++ c) ++ e) ++ f) g h ∙ in_six a b c e f (g ++ h)

in_eight : (a b c e f g h i : List ℕ) → ((((((a ++ b) ++ c) ++ e) ++ f) ++ g) ++ h) ++ i ≡ a ++ (b ++ (c ++ (e ++ (f ++ (g ++ (h ++ i))))))
in_eight a b c e f g h i = in_three (((((a ++ b) ++ c) ++ e) ++ f) ++ g) h i ∙ in_seven a b c e f g (h ++ i)

in_nine : (a b c e f g h i j : List ℕ) → (((((((a ++ b) ++ c) ++ e) ++ f) ++ g) ++ h) ++ i) ++ j ≡ a ++ (b ++ (c ++ (e ++ (f ++ (g ++ (h ++ (i ++ j)))))))
in_nine a b c e f g h i j = in_three ((((((a ++ b) ++ c) ++ e) ++ f) ++ g) ++ h) i j ∙ in_eight a b c e f g h (i ++ j)

-- a mark with what stands behind it, up to the end of the line
mark_line : (mark : Mark) (bare : Bool) → mark_text mark ++ bare_tail bare ≡ text_of mark.code ++ mark_tail mark bare
mark_line mark bare = in_six (text_of mark.code) (reason_text mark.reason) (flag_text mark.clup (codes " CLUP")) (flag_text mark.perc (codes " PERC")) (flag_text mark.staf (codes " STAF")) (bare_tail bare)

mark_found : (mark : Mark) (bare : Bool) → IsMark mark → mark_in (mark_text mark ++ bare_tail bare) ≡ Some (mark, bare)
mark_found mark bare h = ap mark_in (mark_line mark bare) ∙ mark_read mark bare h

-- a word at the front of a line, and the rest
record Cut (line first behind : List ℕ) : Type 0 where
  word : word_of line ≡ first
  rest : rest_of line ≡ behind

cut : (word tail : List ℕ) → plain word ≡ true → ends_word tail ≡ true → Cut (word ++ tail) word (drop 1 tail)
cut word tail all end = record { word = word_of-text word tail all end; rest = rest_of-text word tail all end }

-- a word before a blank or before the line feed
cut_blank : (word rest : List ℕ) → plain word ≡ true → Cut (word ++ 32 ∷ rest) word rest
cut_blank word rest all = cut word (32 ∷ rest) all refl

cut_last : (word : List ℕ) → plain word ≡ true → Cut (word ++ 10 ∷ []) word []
cut_last word all = cut word (10 ∷ []) all refl

-- Each form, where its words are read.
exec_by : (names : NamesView) (line word rest : List ℕ) (at : Place) (rc : ℕ) → Cut line word rest → place_in names word ≡ Some at → number_in 10 256 (behind 61 (word_of rest)) ≡ Some rc
    → exec_in names line ≡ Some (Exec at rc)
exec_by names line word rest at rc c e f = rw (c.word, c.rest, e, f) refl

error_by : (names : NamesView) (line word rest : List ℕ) (at : Place) (mark : Mark) → Cut line word rest → place_in names word ≡ Some at → mark_in rest ≡ Some (mark, false)
    → error_in names line ≡ Some (Error at mark)
error_by names line word rest at mark c e f = rw (c.word, c.rest, e, f) refl

land_by : (line word rest other more : List ℕ) (class : Class) (from : ℕ) (mark : Mark) → Cut line word rest → Cut rest other more → class_in word ≡ Some class → index_in other ≡ Some from → mark_in more ≡ Some (mark, false)
    → land_in line ≡ Some (Land class from mark)
land_by line word rest other more class from mark c k e f g = rw (c.word, c.rest, k.word, k.rest, e, f, g) refl

enter_by : (line word rest other more : List ℕ) (kind : Kind) (reg : ℕ) (mark : Mark) (bare : Bool) → Cut line word rest → Cut rest other more → kind_in word ≡ Some kind → index_in other ≡ Some reg → mark_in more ≡ Some (mark, bare)
    → enter_in line ≡ Some (Enter kind reg mark bare)
enter_by line word rest other more kind reg mark bare c k e f g = rw (c.word, c.rest, k.word, k.rest, e, f, g) refl

leave_by : (names : NamesView) (line word rest other more flags : List ℕ) (kind : Kind) (reg : ℕ) (verdict : Verdict) (logrec dump : Bool) → Cut line word rest → Cut rest other more
    → kind_in word ≡ Some kind → index_in other ≡ Some reg → verdict_in names more ≡ Some verdict → behind_verdict more ≡ flags
    → flag_in (codes "LOGREC") flags ≡ logrec → flag_in (codes "DUMP") (behind_flag (codes "LOGREC") flags) ≡ dump
    → leave_in names line ≡ Some (Leave kind reg verdict logrec dump)
leave_by names line word rest other more flags kind reg verdict logrec dump c k e f g h i j =
    rw (c.word, c.rest, k.word, k.rest, e, f, g) (ap (λ (line : List ℕ). Some (Leave kind reg verdict (flag_in (codes "LOGREC") line) (flag_in (codes "DUMP") (behind_flag (codes "LOGREC") line)))) h
    ∙ (λ t. Some (Leave kind reg verdict (i t) (j t))))

arrive_by : (line word rest other more : List ℕ) (cmd : ℕ) (fate : Fate) → Cut line word rest → Cut rest other more → number_in 10 256 word ≡ Some cmd → fate_in other ≡ Some fate
    → arrive_in line ≡ Some (Arrive cmd fate)
arrive_by line word rest other more cmd fate c k e f = rw (c.word, c.rest, k.word, e, f) refl

begin_by : (line word rest : List ℕ) (code : Code) (dump : Bool) → Cut line word rest → code_in word ≡ Some code → flag_in (codes "DUMP") rest ≡ dump → begin_in line ≡ Some (Begin code dump)
begin_by line word rest code dump c e f = rw (c.word, c.rest, e) (ap (λ (b : Bool). Some (Begin code b)) f)

release_by : (names : NamesView) (count : ℕ) (line word rest other more last end : List ℕ) (class : Res) (id owner : ℕ) → Cut line word rest → Cut rest other more → Cut more last end
    → res_in word ≡ Some class → index_in other ≡ Some id → unit_in names count last ≡ Some owner → release_in names count line ≡ Some (Release class id owner)
release_by names count line word rest other more last end class id owner c k l e f g = rw (c.word, c.rest, k.word, k.rest, l.word, e, f, g) refl

done_by : (line word rest : List ℕ) (code : Code) (to_task to_step : Option Fate) → Cut line word rest → code_in word ≡ Some code
    → fate_behind (codes "TASK") (word_of rest) ≡ to_task → fate_behind (codes "STEP") (word_of (behind_fate (codes "TASK") rest)) ≡ to_step
    → done_in line ≡ Some (Done code to_task to_step)
done_by line word rest code to_task to_step c e f g = rw (c.word, c.rest, e) (λ t. Some (Done code (f t) (g t)))

purge_by : (names : NamesView) (count : ℕ) (line word rest : List ℕ) (unit : ℕ) → Cut line word rest → unit_in names count word ≡ Some unit → purge_in names count line ≡ Some (Purge unit)
purge_by names count line word rest unit c e = rw (c.word, e) refl

entry_by : (names : NamesView) (count : ℕ) (line index rest word more : List ℕ) (e : Entry) → Cut line index rest → Cut rest word more → unit_in names count word ≡ Some e.unit → what_in names count more ≡ Some e.what
    → line_in names count line ≡ Some e
entry_by names count line index rest word more e c k u v = rw (c.rest, k.word, k.rest, u, v) refl

index_wide : (n : ℕ) → n < 4294967296 → n < 2 ^ 64
index_wide n h = omega arith

module _ (d : DeckView) (w : IsTrue (is_well_formed d)) where
  -- what an entry says, up to the end of the line
  pub what_read : (said : What) → WhatFits d said → what_in (names_of d) (length d.units) (what_text d said ++ 10 ∷ []) ≡ Some said
  what_read (Exec at rc) h =
      let small : rc < 256 = h.1 in
      let digits = cut_last (decimal rc) (plain_decimal rc (omega arith)) in
      let number : number_in 10 256 (word_of (decimal rc ++ 10 ∷ [])) ≡ Some rc = rw digits.word (number_in-decimal 256 rc (omega arith) small) in
      ap (what_in (names_of d) (length d.units)) (in_five (codes "EXEC ") (place_text d at) (codes " RC=") (decimal rc) (10 ∷ []))
      ∙ exec_by (names_of d) _ (place_text d at) (codes "RC=" ++ (decimal rc ++ 10 ∷ [])) at rc
      (cut_blank (place_text d at) (codes "RC=" ++ (decimal rc ++ 10 ∷ [])) (place_plain d w at h.0)) (place_read d w at h.0) number
  what_read (Error at mark) h =
      ap (what_in (names_of d) (length d.units)) (in_five (codes "ERROR ") (place_text d at) (codes " ") (mark_text mark) (10 ∷ []))
      ∙ error_by (names_of d) _ (place_text d at) (mark_text mark ++ 10 ∷ []) at mark
      (cut_blank (place_text d at) (mark_text mark ++ 10 ∷ []) (place_plain d w at h.0)) (place_read d w at h.0) (mark_found mark false h.1)
  what_read (Land class from mark) h =
      let small : from < 4294967296 = h.0 in
      let more = mark_text mark ++ 10 ∷ [] in
      let rest = decimal from ++ 32 ∷ more in
      ap (what_in (names_of d) (length d.units)) (in_seven (codes "LAND ") (class_text class) (codes " ") (decimal from) (codes " ") (mark_text mark) (10 ∷ []))
      ∙ land_by _ (class_text class) rest (decimal from) more class from mark
      (cut_blank (class_text class) rest (class_plain class)) (cut_blank (decimal from) more (plain_decimal from (index_wide from small)))
      (class_read class) (number_in-decimal 4294967296 from small small) (mark_found mark false h.1)
  what_read (Enter kind reg mark bare) h =
      let small : reg < 4294967296 = h.0 in
      let more = mark_text mark ++ bare_tail bare in
      let rest = decimal reg ++ 32 ∷ more in
      ap (what_in (names_of d) (length d.units)) (in_eight (codes "ENTER ") (kind_text kind) (codes " ") (decimal reg) (codes " ") (mark_text mark) (flag_text bare (codes " NOSDWA")) (10 ∷ []))
      ∙ enter_by _ (kind_text kind) rest (decimal reg) more kind reg mark bare
      (cut_blank (kind_text kind) rest (kind_plain kind)) (cut_blank (decimal reg) more (plain_decimal reg (index_wide reg small)))
      (kind_read kind) (number_in-decimal 4294967296 reg small small) (mark_found mark bare h.1)
  what_read (Leave kind reg verdict logrec dump) h =
      let small : reg < 4294967296 = h.0 in
      let tail = leave_tail logrec dump in
      let end = leave_end logrec dump in
      let more = verdict_text d verdict ++ tail in
      let rest = decimal reg ++ 32 ∷ more in
      ap (what_in (names_of d) (length d.units))
      (in_nine (codes "LEAVE ") (kind_text kind) (codes " ") (decimal reg) (codes " ") (verdict_text d verdict) (flag_text logrec (codes " LOGREC")) (flag_text dump (codes " DUMP")) (10 ∷ []))
      ∙ leave_by (names_of d) _ (kind_text kind) rest (decimal reg) more (drop 1 tail) kind reg verdict logrec dump
      (cut_blank (kind_text kind) rest (kind_plain kind)) (cut_blank (decimal reg) more (plain_decimal reg (index_wide reg small)))
      (kind_read kind) (number_in-decimal 4294967296 reg small small)
      (verdict_read d w verdict tail h.1 end) (verdict_behind d w verdict tail h.1 end) (logrec_read logrec dump) (leave_dump_read logrec dump)
  what_read (Arrive cmd fate) h =
      let few = (limits d w).commands in
      let less : cmd < length d.commands = h in
      let rest = fate_text fate ++ 10 ∷ [] in
      ap (what_in (names_of d) (length d.units)) (in_five (codes "ARRIVE ") (decimal cmd) (codes " ") (fate_text fate) (10 ∷ []))
      ∙ arrive_by _ (decimal cmd) rest (fate_text fate) [] cmd fate
      (cut_blank (decimal cmd) rest (plain_decimal cmd (omega (arith, few)))) (cut_last (fate_text fate) (fate_plain fate))
      (number_in-decimal 256 cmd (omega (arith, few)) (omega (arith, few))) (fate_read fate)
  what_read (Begin code dump) h =
      ap (what_in (names_of d) (length d.units)) (in_four (codes "BEGIN ") (text_of code) (flag_text dump (codes " DUMP")) (10 ∷ []))
      ∙ begin_by _ (text_of code) (drop 1 (begin_tail dump)) code dump (cut (text_of code) (begin_tail dump) (plain_code code h) (begin_end dump)) (code_read code h) (dump_read dump)
  what_read (Release class id owner) h =
      let most : id ≤ 999999 = h.0 in
      let more = unit_text d owner ++ 10 ∷ [] in
      let rest = decimal id ++ 32 ∷ more in
      ap (what_in (names_of d) (length d.units)) (in_seven (codes "RELEASE ") (res_text class) (codes " ") (decimal id) (codes " ") (unit_text d owner) (10 ∷ []))
      ∙ release_by (names_of d) (length d.units) _ (res_text class) rest (decimal id) more (unit_text d owner) [] class id owner
      (cut_blank (res_text class) rest (res_plain class)) (cut_blank (decimal id) more (plain_decimal id (omega arith))) (cut_last (unit_text d owner) (unit_plain d w owner h.1))
      (res_read class) (number_in-decimal 4294967296 id (omega arith) (omega arith)) (unit_read d w owner h.1)
  what_read (Done code to_task to_step) h =
      let tail = done_tail to_task to_step in
      ap (what_in (names_of d) (length d.units)) (in_five (codes "DONE ") (text_of code) (posted_text (codes " TASK=") to_task) (posted_text (codes " STEP=") to_step) (10 ∷ []))
      ∙ done_by _ (text_of code) (drop 1 tail) code to_task to_step (cut (text_of code) tail (plain_code code h) (done_end to_task to_step)) (code_read code h) (task_read to_task to_step) (step_read to_task to_step)
  what_read (Purge unit) h =
      let less : unit < length d.units = h in
      let within : unit ≤ length d.units = omega arith in
      ap (what_in (names_of d) (length d.units)) (in_three (codes "PURGE ") (unit_text d unit) (10 ∷ []))
      ∙ purge_by (names_of d) (length d.units) _ (unit_text d unit) [] unit (cut_last (unit_text d unit) (unit_plain d w unit within)) (unit_read d w unit within)
  what_read MemEnd h = refl

  -- the line of an entry, each part before all that follow
  pub line_laid : (n : ℕ) (e : Entry) → line_text d n e ≡ decimal n ++ 32 ∷ (unit_text d e.unit ++ 32 ∷ (what_text d e.what ++ 10 ∷ []))
  line_laid n e =
      in_four (decimal n) (codes " ") (entry_text d e) (10 ∷ [])
      ∙ ap (λ (xs : List ℕ). decimal n ++ 32 ∷ xs) (in_four (unit_text d e.unit) (codes " ") (what_text d e.what) (10 ∷ []))

  pub line_read : (n : ℕ) (e : Entry) → n < 2 ^ 64 → Fits d e → line_in (names_of d) (length d.units) (line_text d n e) ≡ Some e
  line_read n e h fits =
      let more = what_text d e.what ++ 10 ∷ [] in
      let rest = unit_text d e.unit ++ 32 ∷ more in
      ap (line_in (names_of d) (length d.units)) (line_laid n e)
      ∙ entry_by (names_of d) (length d.units) _ (decimal n) rest (unit_text d e.unit) more e
      (cut_blank (decimal n) rest (plain_decimal n h)) (cut_blank (unit_text d e.unit) more (unit_plain d w e.unit fits.unit))
      (unit_read d w e.unit fits.unit) (what_read e.what fits.what)
