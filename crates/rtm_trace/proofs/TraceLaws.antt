-- Reading gives the trace whose text the bytes are, or their first bad line.
use Rattle.std.proofs.Common.{◌≡◌, ℕ, suc, ◌+◌, ◌-◌, ◌^◌, ◌<◌, ◌≤◌, Bool, true, false, eqb, List, [], ◌∷◌, ◌++◌, length, Option, Some, None, Result, Ok, Err, refl, ap, sym, subst, ◌∙◌, append_assoc, length-append, inl, inr, arith}
use Rattle.std.specs.Prelude.{codes, decimal, IsTrue, slice_get, bytes_eq, if◌then◌else◌}
use Rattle.std.specs.List.{AllByRecursion, onto_first}
use Rattle.std.proofs.lemmas.Bool.{cases_lt, and_parts, not-true, eqb-true}
use Rattle.std.proofs.lemmas.Option.{slice_get_past, slice_get_within, same_Some}
use Rattle.std.proofs.lemmas.Slice.Eq.{bytes_eq-Decides}
use Rattle.rtm_deck_items.specs.View.{DeckView}
use Rattle.rtm_deck_items.specs.WellFormed.{is_well_formed}
use Rattle.rtm_model.specs.declared.entry.End.{End}
use Rattle.rtm_model.specs.declared.entry.End.TheVariants.{Ended, Stalled, Limit}
use Rattle.rtm_model.specs.declared.entry.Entry.{Entry}
use Rattle.rtm_model.specs.Fits.{Fits}
use Rattle.rtm_trace.specs.Text.{entry_text, line_text, lines_text, end_line, trace_text}
use Rattle.rtm_trace.specs.View.{TraceView}
use Rattle.rtm_trace.specs.Lines.{IsTraceOf, text_lines, first_line, IsEntryLine, IsEndLine, HasEnd, IsBadLine, IsFirstBadLine}
use Rattle.rtm_trace.specs.inner.Words.{end_in}
use Rattle.rtm_trace.specs.inner.Reading.{entry_on, trace_at_end, read_line, read_on, read_lines}
use Rattle.rtm_trace.proofs.Cuts.{lacks}
use Rattle.rtm_trace.proofs.Confirmed.{entry_found, found_entry, none_found, end_found, found_end, no_end, entry_is_no_end, entry_no_end}
use Rattle.rtm_trace.proofs.Shapes.{line_written, written_lacks_feed}
use Rattle.rtm_trace.proofs.Places.{line_at, left_behind, none_left, there_bad, bad_behind, behind_bad, Reached, fine_there, reached_more, one_first}

-- The lines of a text.

-- a first line with its line feed
line_ended : (line rest : List ℕ) → lacks 10 line ≡ true → text_lines (line ++ 10 ∷ rest) ≡ (line ++ 10 ∷ []) ∷ text_lines rest
line_ended [] rest h = refl
line_ended (b ∷ line) rest h =
    let p = and_parts _ _ h in
    rw (not-true (eqb b 10) p.0, line_ended line rest p.1) refl

-- lines one after the other
joined : List (List ℕ) → List ℕ
joined [] = []
joined (line ∷ lines) = line ++ joined lines

joined_onto : (b : ℕ) (lines : List (List ℕ)) → joined (onto_first b lines) ≡ b ∷ joined lines
unfolding joined
joined_onto b [] = refl
joined_onto b (line ∷ lines) = refl

joined_if : (b : ℕ) (bs : List ℕ) (t : Bool) → eqb b 10 ≡ t → joined (text_lines bs) ≡ bs → joined (if t then (10 ∷ []) ∷ text_lines bs else onto_first b (text_lines bs)) ≡ b ∷ bs
unfolding joined
joined_if b bs true e ih = let same : b ≡ 10 = eqb-true b 10 e in ap (λ (xs : List ℕ). 10 ∷ xs) ih ∙ ap (λ (x : ℕ). x ∷ bs) (sym same)
joined_if b bs false e ih = joined_onto b (text_lines bs) ∙ ap (λ (xs : List ℕ). b ∷ xs) ih

joined_lines : (bytes : List ℕ) → joined (text_lines bytes) ≡ bytes
unfolding joined
joined_lines [] = refl
joined_lines (b ∷ bs) = joined_if b bs (eqb b 10) refl (joined_lines bs)

length_onto : (b : ℕ) (lines : List (List ℕ)) → length (onto_first b lines) ≤ length lines + 1
length_onto b [] = omega arith
length_onto b (line ∷ lines) = omega arith

length_if : (b n : ℕ) (lines : List (List ℕ)) (t : Bool) → length lines ≤ n → length (if t then (10 ∷ []) ∷ lines else onto_first b lines) ≤ suc n
length_if b n lines true h = omega (arith, h)
length_if b n lines false h = let more = length_onto b lines in omega (arith, h, more)

-- there are no more lines than bytes
pub few_lines : (bytes : List ℕ) → length (text_lines bytes) ≤ length bytes
few_lines [] = omega arith
few_lines (b ∷ bs) = length_if b (length bs) (text_lines bs) (eqb b 10) (few_lines bs)

end_lines : (end : End) → text_lines (end_line end) ≡ end_line end ∷ []
end_lines Ended = refl
end_lines Stalled = refl
end_lines Limit = refl

-- the lines of entries, of which the first has that index
entry_lines : DeckView → ℕ → List Entry → List (List ℕ)
entry_lines d n [] = []
entry_lines d n (e ∷ es) = line_text d n e ∷ entry_lines d (n + 1) es

joined_entries : (d : DeckView) (n : ℕ) (es : List Entry) (lines : List (List ℕ)) → joined (entry_lines d n es ++ lines) ≡ lines_text d n es ++ joined lines
unfolding joined entry_lines
joined_entries d n [] lines = refl
joined_entries d n (e ∷ es) lines =
    ap (λ (xs : List ℕ). line_text d n e ++ xs) (joined_entries d (n + 1) es lines)
    ∙ sym (append_assoc (line_text d n e) (lines_text d (n + 1) es) (joined lines))

-- the lines of a trace
abbrev lines_of_trace : DeckView → TraceView → List (List ℕ)
lines_of_trace d t = first_line ∷ (entry_lines d 0 t.entries ++ end_line t.end ∷ [])

joined_trace : (d : DeckView) (t : TraceView) → joined (lines_of_trace d t) ≡ trace_text d t.entries t.end
unfolding joined
joined_trace d t =
    ap (λ (xs : List ℕ). first_line ++ xs) (joined_entries d 0 t.entries (end_line t.end ∷ []) ∙ ap (λ (xs : List ℕ). lines_text d 0 t.entries ++ xs) (append_nil (end_line t.end)))
    ∙ sym (append_assoc first_line (lines_text d 0 t.entries) (end_line t.end))
  where
    append_nil : (xs : List ℕ) → xs ++ [] ≡ xs
    append_nil [] = refl
    append_nil (x ∷ xs) = ap (λ ys. x ∷ ys) (append_nil xs)

-- an entry's line is cut off
line_cut : (d : DeckView) → IsTrue (is_well_formed d) → (n : ℕ) (e : Entry) (rest : List ℕ) → n < 2 ^ 64 → Fits d e → text_lines (line_text d n e ++ rest) ≡ line_text d n e ∷ text_lines rest
line_cut d w n e rest small h =
    let body = decimal n ++ codes " " ++ entry_text d e in
    ap text_lines (append_assoc body (10 ∷ []) rest)
    ∙ line_ended body rest (written_lacks_feed body 97 (line_written d w n e small h))

-- the lines of some entries' text
entries_cut : (d : DeckView) → IsTrue (is_well_formed d) → (n : ℕ) (es : List Entry) (rest : List ℕ) → n + length es < 2 ^ 64 → AllByRecursion (Fits d) es
    → text_lines (lines_text d n es ++ rest) ≡ entry_lines d n es ++ text_lines rest
unfolding entry_lines
entries_cut d w n [] rest small h = refl
entries_cut d w n (e ∷ es) rest small h =
    ap text_lines (append_assoc (line_text d n e) (lines_text d (n + 1) es) rest)
    ∙ (line_cut d w n e (lines_text d (n + 1) es ++ rest) (omega (arith, small)) h.0
    ∙ ap (λ (lines : List (List ℕ)). line_text d n e ∷ lines) (entries_cut d w (n + 1) es rest (omega (arith, small)) h.1))

trace_cut : (d : DeckView) → IsTrue (is_well_formed d) → (t : TraceView) → length t.entries < 2 ^ 64 → AllByRecursion (Fits d) t.entries → text_lines (trace_text d t.entries t.end) ≡ lines_of_trace d t
trace_cut d w t small h =
    ap text_lines (append_assoc first_line (lines_text d 0 t.entries) (end_line t.end))
    ∙ ap (λ (lines : List (List ℕ)). first_line ∷ lines)
    (entries_cut d w 0 t.entries (end_line t.end) (omega (arith, small)) h
    ∙ ap (λ (lines : List (List ℕ)). entry_lines d 0 t.entries ++ lines) (end_lines t.end))

-- each line of an entry has bytes
lines_count : (d : DeckView) (n : ℕ) (es : List Entry) → length es ≤ length (lines_text d n es)
lines_count d n [] = omega arith
lines_count d n (e ∷ es) =
    let ih = lines_count d (n + 1) es in
    let both = length-append (line_text d n e) (lines_text d (n + 1) es) in
    let one = length-append (decimal n ++ codes " " ++ entry_text d e) (10 ∷ []) in
    omega (arith, ih, both, one)

pub few_entries : (d : DeckView) (es : List Entry) (end : End) → length es ≤ length (trace_text d es end)
few_entries d es end =
    let count = lines_count d 0 es in
    let outer = length-append (first_line ++ lines_text d 0 es) (end_line end) in
    let inner = length-append first_line (lines_text d 0 es) in
    omega (arith, count, outer, inner)

-- Reading on.

read_end : (entries : List Entry) (o : Option End) (found : Option Entry) (lines : List (List ℕ)) (others : Entry → Result TraceView ℕ) (end : End) → o ≡ Some end → read_line entries o found lines others ≡ trace_at_end entries end lines
read_end entries o found lines others end e = rw e refl

read_entry : (entries : List Entry) (o : Option End) (found : Option Entry) (lines : List (List ℕ)) (others : Entry → Result TraceView ℕ) (e : Entry) → o ≡ None → found ≡ Some e → read_line entries o found lines others ≡ others e
read_entry entries o found lines others e p q = rw (p, q) refl

append_nil_entries : (xs : List Entry) → xs ++ [] ≡ xs
append_nil_entries [] = refl
append_nil_entries (x ∷ xs) = ap (λ ys. x ∷ ys) (append_nil_entries xs)

length_snoc : (xs : List Entry) (x : Entry) → length (xs ++ x ∷ []) ≡ length xs + 1
length_snoc xs x = length-append xs (x ∷ [])

abbrev pub read_as : TraceView → Result TraceView ℕ
read_as t = Ok t

abbrev pub refused_at : ℕ → Result TraceView ℕ
refused_at line = Err line

pub same_Err : (a b : ℕ) → refused_at a ≡ refused_at b → a ≡ b
same_Err a b h = cc

pub same_Ok : (a b : TraceView) → read_as a ≡ read_as b → a ≡ b
same_Ok a b h = cc

module _ (d : DeckView) (w : IsTrue (is_well_formed d)) where
  -- the lines of entries and of an end are read as these
  read_entries : (before es : List Entry) (end : End) → length before + length es < 2 ^ 64 → AllByRecursion (Fits d) es
      → read_on d before (entry_lines d (length before) es ++ end_line end ∷ []) ≡ Ok (record { entries = before ++ es; end = end })
  unfolding entry_lines
  read_entries before [] end small h =
      read_end before (end_in (end_line end)) (entry_on d (length before) (end_line end)) [] (λ e. read_on d (before ++ e ∷ []) []) end (found_end end)
      ∙ ap (λ (es : List Entry). Ok (record { entries = es; end = end })) (sym (append_nil_entries before))
  read_entries before (e ∷ es) end small h =
      let n = length before in
      let fits : n < 2 ^ 64 = omega (arith, small) in
      let size = length_snoc before e in
      let rest = entry_lines d (n + 1) es ++ end_line end ∷ [] in
      read_entry before (end_in (line_text d n e)) (entry_on d n (line_text d n e)) rest (λ x. read_on d (before ++ x ∷ []) rest) e
      (entry_no_end d w n e fits) (found_entry d w n e fits h.0)
      ∙ (ap (λ (k : ℕ). read_on d (before ++ e ∷ []) (entry_lines d k es ++ end_line end ∷ [])) (sym size)
      ∙ (read_entries (before ++ e ∷ []) es end (omega (arith, size, small)) h.1
      ∙ ap (λ (es : List Entry). Ok (record { entries = es; end = end })) (append_assoc before (e ∷ []) es)))

  -- the text of a trace is read as that trace
  pub trace_read : (bytes : List ℕ) (t : TraceView) → length bytes < 2 ^ 64 → IsTraceOf d bytes t → read_lines d (text_lines bytes) ≡ Ok t
  trace_read bytes t small h =
      let size : length (trace_text d t.entries t.end) < 2 ^ 64 = subst (λ (xs : List ℕ). length xs < 2 ^ 64) h.text small in
      let count = few_entries d t.entries t.end in
      let few : length t.entries < 2 ^ 64 = omega (arith, size, count) in
      ap (λ (xs : List ℕ). read_lines d (text_lines xs)) h.text
      ∙ (ap (read_lines d) (trace_cut d w t few h.fit)
      ∙ read_entries [] t.entries t.end (omega (arith, few)) h.fit)

  -- what was read of some lines: they are those of entries and of an end
  record Found (before : List Entry) (rest : List (List ℕ)) (t : TraceView) : Type 0 where
    more : List Entry
    fit : AllByRecursion (Fits d) more
    lines : rest ≡ entry_lines d (length before) more ++ end_line t.end ∷ []
    entries : t.entries ≡ before ++ more

  found_end_line : (before : List Entry) (end : End) (line : List ℕ) (lines : List (List ℕ)) (t : TraceView) → line ≡ end_line end → trace_at_end before end lines ≡ Ok t → Found before (line ∷ lines) t
  unfolding entry_lines
  found_end_line before end line [] t e h = record {
    more = [];
    fit = tt;
    lines = let same : end ≡ t.end = ap TraceView.end (same_Ok (record { entries = before; end = end }) t h) in ap (λ (x : List ℕ). x ∷ []) (e ∙ ap end_line same);
    entries = sym (ap TraceView.entries (same_Ok (record { entries = before; end = end }) t h)) ∙ sym (append_nil_entries before);
  }
  found_end_line before end line (other ∷ lines) t e h = absurd cc

  found_more : (before : List Entry) (e : Entry) (line : List ℕ) (lines : List (List ℕ)) (t : TraceView) → Fits d e → line ≡ line_text d (length before) e → Found (before ++ e ∷ []) lines t → Found before (line ∷ lines) t
  unfolding entry_lines
  found_more before e line lines t fits own f = record {
    more = e ∷ f.more;
    fit = (fits, f.fit);
    lines = (λ i. own i ∷ f.lines i) ∙ ap (λ (k : ℕ). line_text d (length before) e ∷ (entry_lines d k f.more ++ end_line t.end ∷ [])) (length_snoc before e);
    entries = f.entries ∙ append_assoc before (e ∷ []) f.more;
  }

  read_found : (before : List Entry) (lines : List (List ℕ)) (t : TraceView) → read_on d before lines ≡ Ok t → Found before lines t
  read_found before [] t h = absurd cc
  read_found before (line ∷ lines) t h =
      go (end_in line) refl (entry_on d (length before) line) refl h (λ e. read_found (before ++ e ∷ []) lines t)
    where
      go : (o : Option End) → end_in line ≡ o → (p : Option Entry) → entry_on d (length before) line ≡ p
          → read_line before o p lines (λ e. read_on d (before ++ e ∷ []) lines) ≡ Ok t
          → ((e : Entry) → read_on d (before ++ e ∷ []) lines ≡ Ok t → Found (before ++ e ∷ []) lines t)
          → Found before (line ∷ lines) t
      go (Some end) x p y r ih = found_end_line before end line lines t (end_found line end x) r
      go None x (Some e) y r ih = let own = entry_found d (length before) line e y in found_more before e line lines t own.0 own.1 (ih e r)
      go None x None y r ih = absurd cc

  -- what is read is the trace whose text the lines are
  lines_read : (all : List (List ℕ)) (t : TraceView) → read_lines d all ≡ Ok t → AllByRecursion (Fits d) t.entries × (all ≡ lines_of_trace d t)
  lines_read [] t h = absurd cc
  lines_read (line ∷ lines) t h = go (bytes_eq line first_line) refl h
    where
      go : (b : Bool) → bytes_eq line first_line ≡ b → (if b then read_on d [] lines else Err 1) ≡ Ok t → AllByRecursion (Fits d) t.entries × (line ∷ lines ≡ lines_of_trace d t)
      go false x r = absurd cc
      go true x r =
          let f = read_found [] lines t r in
          let same : t.entries ≡ f.more = f.entries in
          let first : line ≡ first_line = (bytes_eq-Decides line first_line).0 x in (
            subst (λ (es : List Entry). AllByRecursion (Fits d) es) (sym same) f.fit,
            (λ i. first i ∷ f.lines i) ∙ ap (λ (es : List Entry). first_line ∷ (entry_lines d 0 es ++ end_line t.end ∷ [])) (sym same),
          )

  pub read_trace_of : (bytes : List ℕ) (t : TraceView) → read_lines d (text_lines bytes) ≡ Ok t → IsTraceOf d bytes t
  read_trace_of bytes t h =
      let r = lines_read (text_lines bytes) t h in
      record { fit = r.0; text = sym (joined_lines bytes) ∙ (ap joined r.1 ∙ joined_trace d t) }

  -- The first bad line.

  -- the line of that number is bad, and no line before it
  abbrev IsFirst : List (List ℕ) → ℕ → Type 0
  IsFirst all number = (0 < number) × IsBadLine d all (number - 1) × ((k : ℕ) → k < number - 1 → IsBadLine d all k → ⊥)

  first_at : (all : List (List ℕ)) (m number : ℕ) → number ≡ suc m → IsBadLine d all m → ((k : ℕ) → k < m → IsBadLine d all k → ⊥) → IsFirst all number
  first_at all m number e bad good =
      let back : m ≡ number - 1 = omega arith in
      (omega arith, subst (λ (i : ℕ). IsBadLine d all i) back bad, (λ k less. good k (omega (arith, less))))

  -- where no line is left, the one that is wanted
  bad_end : (all : List (List ℕ)) (m number : ℕ) → Reached d all m [] → number ≡ suc m → IsFirst all number
  bad_end all m number r e =
      let last = none_left all m r.left in
      let within = r.within in
      first_at all m number e (behind_bad d all m (slice_get_past all m last) (omega (arith, within, last), r.unended)) r.good

  -- an end that stands at that place
  end_stands : (all : List (List ℕ)) (m : ℕ) (end : End) (line : List ℕ) → slice_get all m ≡ Some line → line ≡ end_line end → HasEnd all (suc m)
  end_stands all m end line there e = (m, end, omega arith, there ∙ ap Some e)

  good_end : (all : List (List ℕ)) (n : ℕ) (end : End) (line : List ℕ) (lines : List (List ℕ)) → Reached d all (suc n) (line ∷ lines) → line ≡ end_line end → (k : ℕ) → k < suc (suc n) → IsBadLine d all k → ⊥
  good_end all n end line lines r e k less bad = elim (cases_lt k (suc n)) [
    | inl before ↦ r.good k before bad
    | inr behind ↦
        let same : k ≡ suc n = omega (arith, less) in
        fine_there d all (suc n) line (line_at all (suc n) line lines r.left) (inr (end, e)) r.unended (subst (λ (i : ℕ). IsBadLine d all i) same bad)
  ]

  -- a line behind the end
  bad_more : (all : List (List ℕ)) (n number : ℕ) (end : End) (line other : List ℕ) (lines : List (List ℕ)) → Reached d all (suc n) (line ∷ other ∷ lines) → line ≡ end_line end → number ≡ suc (suc (suc n)) → IsFirst all number
  bad_more all n number end line other lines r e same =
      let there = line_at all (suc n) line (other ∷ lines) r.left in
      let behind = line_at all (suc (suc n)) other lines (left_behind all (suc n) line (other ∷ lines) r.left) in
      first_at all (suc (suc n)) number same (there_bad d all (suc (suc n)) other behind (inr (end_stands all (suc n) end line there e))) (good_end all n end line (other ∷ lines) r e)

  -- a line that is neither an entry's nor an end's
  bad_line : (all : List (List ℕ)) (n number : ℕ) (line : List ℕ) (lines : List (List ℕ)) → Reached d all (suc n) (line ∷ lines) → (IsEntryLine d n line → ⊥) → (IsEndLine line → ⊥) → number ≡ suc (suc n) → IsFirst all number
  bad_line all n number line lines r entry end same =
      first_at all (suc n) number same
      (there_bad d all (suc n) line (line_at all (suc n) line lines r.left) (inl (λ may. elim may [ inl x ↦ entry x | inr y ↦ end y ])))
      r.good

  -- an entry's line at its place
  entry_reached : (all : List (List ℕ)) (before : List Entry) (e : Entry) (line : List ℕ) (lines : List (List ℕ)) → length before < 2 ^ 64 → Reached d all (suc (length before)) (line ∷ lines)
      → Fits d e → line ≡ line_text d (length before) e → Reached d all (suc (length (before ++ e ∷ []))) lines
  entry_reached all before e line lines small r fits own =
      let size : suc (suc (length before)) ≡ suc (length (before ++ e ∷ [])) = let more = length_snoc before e in omega (arith, more) in
      subst (λ (m : ℕ). Reached d all m lines) size
      (reached_more d all (suc (length before)) line lines r (inl (e, fits, own))
      (λ h. entry_is_no_end d w (length before) e h.0 small (sym own ∙ h.1)))

  ended_bad : (all : List (List ℕ)) (before : List Entry) (end : End) (line : List ℕ) (lines : List (List ℕ)) (number : ℕ) → Reached d all (suc (length before)) (line ∷ lines) → line ≡ end_line end
      → trace_at_end before end lines ≡ Err number → IsFirst all number
  ended_bad all before end line [] number r e h = absurd cc
  ended_bad all before end line (other ∷ lines) number r e h =
      let same : length before + 3 ≡ number = cc in
      bad_more all (length before) number end line other lines r e (omega (arith, same))

  read_bad : (all : List (List ℕ)) (before : List Entry) (lines : List (List ℕ)) (number : ℕ) → length all < 2 ^ 64 → Reached d all (suc (length before)) lines → read_on d before lines ≡ Err number → IsFirst all number
  read_bad all before [] number small r h =
      let same : length before + 2 ≡ number = cc in
      bad_end all (suc (length before)) number r (omega (arith, same))
  read_bad all before (line ∷ lines) number small r h =
      go (end_in line) refl (entry_on d (length before) line) refl h (λ e. read_bad all (before ++ e ∷ []) lines number small)
    where
      wide : length before < 2 ^ 64
      wide = let within = r.within in omega (arith, within, small)

      go : (o : Option End) → end_in line ≡ o → (p : Option Entry) → entry_on d (length before) line ≡ p
          → read_line before o p lines (λ e. read_on d (before ++ e ∷ []) lines) ≡ Err number
          → ((e : Entry) → Reached d all (suc (length (before ++ e ∷ []))) lines → read_on d (before ++ e ∷ []) lines ≡ Err number → IsFirst all number)
          → IsFirst all number
      go (Some end) x p y q ih = ended_bad all before end line lines number r (end_found line end x) q
      go None x (Some e) y q ih =
          let own = entry_found d (length before) line e y in
          ih e (entry_reached all before e line lines wide r own.0 own.1) q
      go None x None y q ih =
          let same : length before + 2 ≡ number = cc in
          bad_line all (length before) number line lines r (none_found d w (length before) line wide y) (no_end line x) (omega (arith, same))

  -- the format's line is no end
  first_is_no_end : (end : End) → first_line ≡ end_line end → ⊥
  first_is_no_end Ended h = absurd cc
  first_is_no_end Stalled h = absurd cc
  first_is_no_end Limit h = absurd cc

  none_before : (all : List (List ℕ)) → HasEnd all 0 → ⊥
  none_before all h = let less = h.2 in absurd (omega (arith, less))

  -- behind the format's line
  first_reached : (line : List ℕ) (lines : List (List ℕ)) → line ≡ first_line → Reached d (line ∷ lines) 1 lines
  first_reached line lines e = record {
    left = refl;
    within = omega arith;
    good = (λ k less bad. let same : k ≡ 0 = omega (arith, less) in fine_there d (line ∷ lines) 0 line refl e (none_before (line ∷ lines)) (subst (λ (i : ℕ). IsBadLine d (line ∷ lines) i) same bad));
    unended = (λ h. let less = h.2 in let same : h.0 ≡ 0 = omega (arith, less) in
        let there : slice_get (line ∷ lines) 0 ≡ Some (end_line h.1) = subst (λ (i : ℕ). slice_get (line ∷ lines) i ≡ Some (end_line h.1)) same h.3 in
        first_is_no_end h.1 (sym e ∙ same_Some line (end_line h.1) there));
  }

  lines_bad : (all : List (List ℕ)) (number : ℕ) → length all < 2 ^ 64 → read_lines d all ≡ Err number → IsFirst all number
  lines_bad [] number small h =
      let same : 1 ≡ number = cc in
      first_at [] 0 number (sym same) (behind_bad d [] 0 refl (refl, none_before [])) (λ k less. absurd (omega (arith, less)))
  lines_bad (line ∷ lines) number small h = go (bytes_eq line first_line) refl h
    where
      go : (b : Bool) → bytes_eq line first_line ≡ b → (if b then read_on d [] lines else Err 1) ≡ Err number → IsFirst (line ∷ lines) number
      go true x r = read_bad (line ∷ lines) [] lines number small (first_reached line lines ((bytes_eq-Decides line first_line).0 x)) r
      go false x r =
          let same : 1 ≡ number = cc in
          first_at (line ∷ lines) 0 number (sym same)
          (there_bad d (line ∷ lines) 0 line refl (inl (λ e. let clash : true ≡ false = sym ((bytes_eq-Decides line first_line).1 e) ∙ x in absurd cc)))
          (λ k less. absurd (omega (arith, less)))

  pub read_bad_line : (bytes : List ℕ) (number : ℕ) → length bytes < 2 ^ 64 → read_lines d (text_lines bytes) ≡ Err number → IsFirstBadLine d bytes number
  read_bad_line bytes number small h =
      let few = few_lines bytes in
      let f = lines_bad (text_lines bytes) number (omega (arith, few, small)) h in
      record { counted = f.0; bad = f.1; least = f.2 }

  -- A trace has no bad line.

  end_good : (all : List (List ℕ)) (n : ℕ) (end : End) (line : List ℕ) → Reached d all (suc n) (line ∷ []) → line ≡ end_line end → (k : ℕ) → IsBadLine d all k → ⊥
  end_good all n end line r e k bad = elim (cases_lt k (suc (suc n))) [
    | inl before ↦ good_end all n end line [] r e k before bad
    | inr behind ↦
        let there = line_at all (suc n) line [] r.left in
        let last = none_left all (suc (suc n)) (left_behind all (suc n) line [] r.left) in
        let within = slice_get_within all (suc n) line there in
        let b = bad_behind d all k (slice_get_past all k (omega (arith, last, behind))) bad in
        b.1 (suc n, end, omega arith, there ∙ ap Some e)
  ]

  ended_good : (all : List (List ℕ)) (before : List Entry) (end : End) (line : List ℕ) (lines : List (List ℕ)) (t : TraceView) → Reached d all (suc (length before)) (line ∷ lines) → line ≡ end_line end
      → trace_at_end before end lines ≡ Ok t → (k : ℕ) → IsBadLine d all k → ⊥
  ended_good all before end line [] t r e h = end_good all (length before) end line r e
  ended_good all before end line (other ∷ lines) t r e h = absurd cc

  read_good : (all : List (List ℕ)) (before : List Entry) (lines : List (List ℕ)) (t : TraceView) → length all < 2 ^ 64 → Reached d all (suc (length before)) lines → read_on d before lines ≡ Ok t → (k : ℕ) → IsBadLine d all k → ⊥
  read_good all before [] t small r h = absurd cc
  read_good all before (line ∷ lines) t small r h =
      go (end_in line) refl (entry_on d (length before) line) refl h (λ e. read_good all (before ++ e ∷ []) lines t small)
    where
      wide : length before < 2 ^ 64
      wide = let within = r.within in omega (arith, within, small)

      go : (o : Option End) → end_in line ≡ o → (p : Option Entry) → entry_on d (length before) line ≡ p
          → read_line before o p lines (λ e. read_on d (before ++ e ∷ []) lines) ≡ Ok t
          → ((e : Entry) → Reached d all (suc (length (before ++ e ∷ []))) lines → read_on d (before ++ e ∷ []) lines ≡ Ok t → (k : ℕ) → IsBadLine d all k → ⊥)
          → (k : ℕ) → IsBadLine d all k → ⊥
      go (Some end) x p y q ih = ended_good all before end line lines t r (end_found line end x) q
      go None x (Some e) y q ih =
          let own = entry_found d (length before) line e y in
          ih e (entry_reached all before e line lines wide r own.0 own.1) q
      go None x None y q ih = absurd cc

  lines_good : (all : List (List ℕ)) (t : TraceView) → length all < 2 ^ 64 → read_lines d all ≡ Ok t → (k : ℕ) → IsBadLine d all k → ⊥
  lines_good [] t small h = absurd cc
  lines_good (line ∷ lines) t small h = go (bytes_eq line first_line) refl h
    where
      go : (b : Bool) → bytes_eq line first_line ≡ b → (if b then read_on d [] lines else Err 1) ≡ Ok t → (k : ℕ) → IsBadLine d (line ∷ lines) k → ⊥
      go true x r = read_good (line ∷ lines) [] lines t small (first_reached line lines ((bytes_eq-Decides line first_line).0 x)) r
      go false x r = absurd cc

  -- the first bad line is named
  pub bad_line_read : (bytes : List ℕ) (number : ℕ) → length bytes < 2 ^ 64 → IsFirstBadLine d bytes number → read_lines d (text_lines bytes) ≡ Err number
  bad_line_read bytes number small h = go (read_lines d (text_lines bytes)) refl
    where
      go : (r : Result TraceView ℕ) → read_lines d (text_lines bytes) ≡ r → r ≡ Err number
      go (Ok t) e =
          let few = few_lines bytes in
          absurd (lines_good (text_lines bytes) t (omega (arith, few, small)) e (number - 1) h.bad)
      go (Err other) e = ap Err (one_first d bytes other number (read_bad_line bytes other small e) h)

  -- Two traces with one text are the same.
  pub one_trace : (bytes : List ℕ) (t u : TraceView) → length bytes < 2 ^ 64 → IsTraceOf d bytes t → IsTraceOf d bytes u → t ≡ u
  one_trace bytes t u small x y =
      same_Ok t u (sym (trace_read bytes t small x) ∙ trace_read bytes u small y)
