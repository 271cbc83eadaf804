-- The entry of a line: it fits, and the line is its own.
use Rattle.std.proofs.Common.{◌≡◌, ℕ, ◌+◌, ◌^◌, ◌<◌, Bool, true, false, ◌&&◌, leb, ltb, List, [], ◌∷◌, length, Option, Some, None, refl, ap, sym, subst, ◌∙◌}
use Rattle.std.specs.Prelude.{codes, decimal, find, IsTrue, bytes_eq, if◌then◌else◌}
use Rattle.std.specs.List.{list_all}
use Rattle.std.proofs.lemmas.Bool.{and_parts, and_from, lt-ltb, le-leb, leb-true, ltb-true}
use Rattle.std.proofs.lemmas.Option.{option_and_then_some, same_Some}
use Rattle.std.proofs.lemmas.Slice.Eq.{bytes_eq-Decides}
use Rattle.rtm_codes.specs.declared.code.Code.{Code}
use Rattle.rtm_codes.specs.Code.{number_of, in_range, IsInRange}
use Rattle.rtm_deck_items.specs.View.{DeckView}
use Rattle.rtm_deck_items.specs.WellFormed.{is_well_formed}
use Rattle.rtm_deck_items.specs.Reading.{lines_of}
use Rattle.rtm_model.specs.declared.block.Place.{Place}
use Rattle.rtm_model.specs.declared.entry.End.{End}
use Rattle.rtm_model.specs.declared.entry.End.TheVariants.{Ended, Stalled, Limit}
use Rattle.rtm_model.specs.declared.entry.Entry.{Entry}
use Rattle.rtm_model.specs.declared.entry.Verdict.{Verdict}
use Rattle.rtm_model.specs.declared.entry.Verdict.TheVariants.{Retry, Perc, Stop, Bad, Fail, Over}
use Rattle.rtm_model.specs.declared.entry.What.{What}
use Rattle.rtm_model.specs.declared.entry.What.TheVariants.{Exec, Error, Land, Enter, Leave, Arrive, Begin, Release, Done, Purge, MemEnd}
use Rattle.rtm_model.specs.declared.mark.Mark.{Mark}
use Rattle.rtm_model.specs.inner.Applies.{IsMark}
use Rattle.rtm_model.specs.inner.Soundness.{IsPlace, IsReason}
use Rattle.rtm_model.specs.Fits.{Fits, WhatFits, VerdictFits}
use Rattle.rtm_trace.specs.Text.{line_text, end_line}
use Rattle.rtm_trace.specs.Lines.{IsEntryLine, IsEndLine}
use Rattle.rtm_trace.specs.inner.Words.{word_of, names_of, ends, end_in}
use Rattle.rtm_trace.specs.inner.Reading.{is_place, is_reason, is_mark, verdict_fits, what_fits, fits, confirmed_entry, entry_on, line_in}
use Rattle.rtm_trace.proofs.Cuts.{word_of-text}
use Rattle.rtm_trace.proofs.Numbers.{is_low, low_decimal, plain_decimal}
use Rattle.rtm_trace.proofs.Entries.{line_read, line_laid}

-- The test that an entry fits its deck is right.
place_good : (d : DeckView) (place : Place) → is_place d place ≡ true → IsPlace d place
place_good d place h =
    let ab = and_parts (ltb place.prog (length d.programs) && leb 1 place.op) (leb place.op (length (lines_of d place.prog) + 1)) h in
    let a = and_parts (ltb place.prog (length d.programs)) (leb 1 place.op) ab.0 in
    record { prog = ltb-true _ _ a.0; first = leb-true _ _ a.1; last = leb-true _ _ ab.1 }

good_place : (d : DeckView) (place : Place) → IsPlace d place → is_place d place ≡ true
good_place d place h =
    and_from (ltb place.prog (length d.programs) && leb 1 place.op) (leb place.op (length (lines_of d place.prog) + 1))
    (and_from (ltb place.prog (length d.programs)) (leb 1 place.op) (lt-ltb _ _ h.prog) (le-leb _ _ h.first)) (le-leb _ _ h.last)

reason_good : (reason : Option ℕ) → is_reason reason ≡ true → IsReason reason
reason_good None h = tt
reason_good (Some n) h = ltb-true n 4294967296 h

good_reason : (reason : Option ℕ) → IsReason reason → is_reason reason ≡ true
good_reason None h = refl
good_reason (Some n) h = lt-ltb n 4294967296 h

code_good : (code : Code) → in_range code ≡ true → IsInRange code
code_good code h = leb-true (number_of code) 4095 h

good_code : (code : Code) → IsInRange code → in_range code ≡ true
good_code code h = le-leb (number_of code) 4095 h

mark_good : (mark : Mark) → is_mark mark ≡ true → IsMark mark
mark_good mark h =
    let p = and_parts (in_range mark.code) (is_reason mark.reason) h in
    record { code = code_good mark.code p.0; reason = reason_good mark.reason p.1 }

good_mark : (mark : Mark) → IsMark mark → is_mark mark ≡ true
good_mark mark h = and_from (in_range mark.code) (is_reason mark.reason) (good_code mark.code h.code) (good_reason mark.reason h.reason)

verdict_good : (d : DeckView) (verdict : Verdict) → verdict_fits d verdict ≡ true → VerdictFits d verdict
verdict_good d (Retry place) h = place_good d place h
verdict_good d Perc h = tt
verdict_good d Stop h = tt
verdict_good d Bad h = tt
verdict_good d Fail h = tt
verdict_good d Over h = tt

good_verdict : (d : DeckView) (verdict : Verdict) → VerdictFits d verdict → verdict_fits d verdict ≡ true
good_verdict d (Retry place) h = good_place d place h
good_verdict d Perc h = refl
good_verdict d Stop h = refl
good_verdict d Bad h = refl
good_verdict d Fail h = refl
good_verdict d Over h = refl

what_good : (d : DeckView) (said : What) → what_fits d said ≡ true → WhatFits d said
what_good d (Exec at rc) h = let p = and_parts (is_place d at) (ltb rc 256) h in (place_good d at p.0, ltb-true rc 256 p.1)
what_good d (Error at mark) h = let p = and_parts (is_place d at) (is_mark mark) h in (place_good d at p.0, mark_good mark p.1)
what_good d (Land class from mark) h = let p = and_parts (ltb from 4294967296) (is_mark mark) h in (ltb-true from 4294967296 p.0, mark_good mark p.1)
what_good d (Enter kind reg mark bare) h = let p = and_parts (ltb reg 4294967296) (is_mark mark) h in (ltb-true reg 4294967296 p.0, mark_good mark p.1)
what_good d (Leave kind reg verdict logrec dump) h =
    let p = and_parts (ltb reg 4294967296) (verdict_fits d verdict) h in (ltb-true reg 4294967296 p.0, verdict_good d verdict p.1)
what_good d (Arrive cmd fate) h = ltb-true cmd (length d.commands) h
what_good d (Begin code dump) h = code_good code h
what_good d (Release class id owner) h =
    let p = and_parts (leb id 999999) (leb owner (length d.units)) h in (leb-true id 999999 p.0, leb-true owner (length d.units) p.1)
what_good d (Done code to_task to_step) h = code_good code h
what_good d (Purge unit) h = ltb-true unit (length d.units) h
what_good d MemEnd h = tt

good_what : (d : DeckView) (said : What) → WhatFits d said → what_fits d said ≡ true
good_what d (Exec at rc) h = and_from (is_place d at) (ltb rc 256) (good_place d at h.0) (lt-ltb rc 256 h.1)
good_what d (Error at mark) h = and_from (is_place d at) (is_mark mark) (good_place d at h.0) (good_mark mark h.1)
good_what d (Land class from mark) h = and_from (ltb from 4294967296) (is_mark mark) (lt-ltb from 4294967296 h.0) (good_mark mark h.1)
good_what d (Enter kind reg mark bare) h = and_from (ltb reg 4294967296) (is_mark mark) (lt-ltb reg 4294967296 h.0) (good_mark mark h.1)
good_what d (Leave kind reg verdict logrec dump) h =
    and_from (ltb reg 4294967296) (verdict_fits d verdict) (lt-ltb reg 4294967296 h.0) (good_verdict d verdict h.1)
good_what d (Arrive cmd fate) h = lt-ltb cmd (length d.commands) h
good_what d (Begin code dump) h = good_code code h
good_what d (Release class id owner) h =
    and_from (leb id 999999) (leb owner (length d.units)) (le-leb id 999999 h.0) (le-leb owner (length d.units) h.1)
good_what d (Done code to_task to_step) h = good_code code h
good_what d (Purge unit) h = lt-ltb unit (length d.units) h
good_what d MemEnd h = refl

pub fits_good : (d : DeckView) (e : Entry) → fits d e ≡ true → Fits d e
fits_good d e h =
    let p = and_parts (leb e.unit (length d.units)) (what_fits d e.what) h in
    record { unit = leb-true e.unit (length d.units) p.0; what = what_good d e.what p.1 }

pub good_fits : (d : DeckView) (e : Entry) → Fits d e → fits d e ≡ true
good_fits d e h = and_from (leb e.unit (length d.units)) (what_fits d e.what) (le-leb e.unit (length d.units) h.unit) (good_what d e.what h.what)

-- what a choice gave
chosen : {X : Type 0} (b : Bool) (x y : X) → (if b then Some x else None) ≡ Some y → (b ≡ true) × (x ≡ y)
chosen true x y e = (refl, same_Some x y e)
chosen false x y e = absurd cc

confirmed_good : (d : DeckView) (n : ℕ) (line : List ℕ) (e found : Entry) → confirmed_entry d n line e ≡ Some found → Fits d found × (line ≡ line_text d n found)
confirmed_good d n line e found h =
    let c = chosen (fits d e && bytes_eq (line_text d n e) line) e found h in
    let p = and_parts (fits d e) (bytes_eq (line_text d n e) line) c.0 in
    let own : line_text d n e ≡ line = (bytes_eq-Decides (line_text d n e) line).0 p.1 in
    (subst (λ (x : Entry). Fits d x) c.1 (fits_good d e p.0), sym own ∙ ap (line_text d n) c.1)

-- the entry that is found is the line's
pub entry_found : (d : DeckView) (n : ℕ) (line : List ℕ) (found : Entry) → entry_on d n line ≡ Some found → Fits d found × (line ≡ line_text d n found)
entry_found d n line found h =
    option_and_then_some (confirmed_entry d n line) (line_in (names_of d) (length d.units) line) found h
    (λ e there passes. confirmed_good d n line e found passes)

-- the entry of a line is found
pub found_entry : (d : DeckView) → IsTrue (is_well_formed d) → (n : ℕ) (e : Entry) → n < 2 ^ 64 → Fits d e → entry_on d n (line_text d n e) ≡ Some e
found_entry d w n e small h =
    let same : bytes_eq (line_text d n e) (line_text d n e) ≡ true = (bytes_eq-Decides (line_text d n e) (line_text d n e)).1 refl in
    rw (line_read d w n e small h, good_fits d e h, same) refl

-- no entry is found on another line
pub none_found : (d : DeckView) → IsTrue (is_well_formed d) → (n : ℕ) (line : List ℕ) → n < 2 ^ 64 → entry_on d n line ≡ None → IsEntryLine d n line → ⊥
none_found d w n line small none h =
    let e : entry_on d n line ≡ Some h.0 = ap (entry_on d n) h.2 ∙ found_entry d w n h.0 small h.1 in
    let clash : None ≡ Some h.0 = sym none ∙ e in
    absurd cc

-- The ends.
-- what a look-up finds passes its test
passes_by : {X : Type 0} (test : X → Bool) (rest : Option X) (x y : X) (t : Bool) → test x ≡ t → (if t then Some x else rest) ≡ Some y → (rest ≡ Some y → test y ≡ true) → test y ≡ true
passes_by test rest x y true is found more = ap test (sym (same_Some x y found)) ∙ is
passes_by test rest x y false is found more = more found

passes : {X : Type 0} (test : X → Bool) (xs : List X) (y : X) → find test xs ≡ Some y → test y ≡ true
passes test [] y e = absurd cc
passes test (x ∷ xs) y e = passes_by test (find test xs) x y (test x) refl e (passes test xs y)

pub end_found : (line : List ℕ) (end : End) → end_in line ≡ Some end → line ≡ end_line end
end_found line end h = sym ((bytes_eq-Decides (end_line end) line).0 (passes (λ e. bytes_eq (end_line e) line) ends end h))

pub found_end : (end : End) → end_in (end_line end) ≡ Some end
found_end Ended = refl
found_end Stalled = refl
found_end Limit = refl

pub no_end : (line : List ℕ) → end_in line ≡ None → IsEndLine line → ⊥
no_end line none h =
    let e : end_in line ≡ Some h.0 = ap end_in h.1 ∙ found_end h.0 in
    let clash : None ≡ Some h.0 = sym none ∙ e in
    absurd cc

-- An entry's line is no end's: it begins with digits.
end_word : (end : End) → word_of (end_line end) ≡ codes "END"
end_word Ended = refl
end_word Stalled = refl
end_word Limit = refl

pub entry_is_no_end : (d : DeckView) (w : IsTrue (is_well_formed d)) (n : ℕ) (e : Entry) (end : End) → n < 2 ^ 64 → line_text d n e ≡ end_line end → ⊥
entry_is_no_end d w n e end small h =
    let number : word_of (line_text d n e) ≡ decimal n = ap word_of (line_laid d w n e) ∙ word_of-text (decimal n) _ (plain_decimal n small) refl in
    let same : decimal n ≡ codes "END" = sym number ∙ (ap word_of h ∙ end_word end) in
    let low : list_all is_low (codes "END") ≡ true = subst (λ (text : List ℕ). list_all is_low text ≡ true) same (low_decimal n small) in
    absurd cc

-- no end is read of an entry's line
pub entry_no_end : (d : DeckView) (w : IsTrue (is_well_formed d)) (n : ℕ) (e : Entry) → n < 2 ^ 64 → end_in (line_text d n e) ≡ None
entry_no_end d w n e small = go (end_in (line_text d n e)) refl
  where
    go : (o : Option End) → end_in (line_text d n e) ≡ o → end_in (line_text d n e) ≡ None
    go None h = h
    go (Some end) h = absurd (entry_is_no_end d w n e end small (end_found (line_text d n e) end h))
