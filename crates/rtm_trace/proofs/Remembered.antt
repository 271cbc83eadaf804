-- What is remembered of lines that were read.
use Rattle.std.proofs.Common.{◌≡◌, ℕ, zero, suc, ◌+◌, ◌^◌, ◌<◌, true, false, List, [], ◌∷◌, ◌++◌, length, take, drop, Option, Some, None, IfSome, Bor, sym, ap, subst, ◌∙◌}
use Rattle.std.specs.Prelude.{MatchOption, IsTrue, bytes_eq, codes, slice_index_or, slice_set}
use Rattle.std.specs.List.{AllByRecursion}
use Rattle.std.proofs.lemmas.List.{append_assoc, take-append-drop}
use Rattle.std.proofs.lemmas.Slice.Eq.{bytes_eq-Decides}
use Rattle.rtm_deck_items.specs.View.{DeckView}
use Rattle.rtm_deck_items.specs.WellFormed.{is_well_formed}
use Rattle.rtm_model.specs.declared.entry.Entry.{Entry}
use Rattle.rtm_model.specs.declared.entry.What.{What}
use Rattle.rtm_trace.specs.declared.known.Known.{Known}
use Rattle.rtm_trace.specs.inner.Known.{AreKnown, IsBehindUnit, IsKnown, IsSaid, index_part, unit_part, what_part}
use Rattle.rtm_trace.specs.inner.Reading.{entry_on}
use Rattle.rtm_trace.specs.Text.{line_text, what_text}
use Rattle.rtm_trace.proofs.Confirmed.{found_entry}

-- what is at a place was read
pub known_at : (d : DeckView) (places : List (Option Known)) (i : ℕ) (known : Known) → AreKnown d places → slice_index_or places i None ≡ Some known
    → IsSaid d known.bytes.now known.what
known_at d [] i known all e = absurd cc
known_at d (place ∷ places) zero known all e = subst (IsKnown d) e all.0
known_at d (place ∷ places) (suc i) known all e = known_at d places i known all.1 e

-- what holds of each element holds of each where one that has it is put in
pub all_set : {X : Type 0} (P : X → Type 0) (xs : List X) (i : ℕ) (x : X) → AllByRecursion P xs → P x → AllByRecursion P (slice_set xs i x)
all_set P [] i x all h = tt
all_set P (y ∷ ys) zero x all h = (h, all.1)
all_set P (y ∷ ys) (suc i) x all h = (all.0, all_set P ys i x all.1 h)

-- what is left behind a text with which a line begins
pub stripped : (line text : List ℕ) (found : Option (Bor (List ℕ)))
    → MatchOption found (bytes_eq (take (length text) line) text ≡ false) (λ rest. (bytes_eq (take (length text) line) text ≡ true) × (rest.now ≡ drop (length text) line) × (length rest.now + length text ≡ length line))
    → IfSome found (λ rest. line ≡ text ++ rest.now)
stripped line text None h = tt
stripped line text (Some rest) h =
    let front : take (length text) line ≡ text = (bytes_eq-Decides (take (length text) line) text).0 h.0 in
    sym (take-append-drop (length text) line) ∙ ap (λ (t : List ℕ). t ++ drop (length text) line) front ∙ ap (λ (t : List ℕ). text ++ t) (sym h.1)

-- one text behind the other
pub behind_both : (line one rest other last : List ℕ) → line ≡ one ++ rest → rest ≡ other ++ last → line ≡ (one ++ other) ++ last
behind_both line one rest other last e f = e ∙ ap (λ (t : List ℕ). one ++ t) f ∙ sym (append_assoc one other last)

-- a line is its index, its unit and what it says
parts_are : (d : DeckView) (n u : ℕ) (what : What) → index_part n ++ (unit_part d u ++ what_part d what) ≡ line_text d n (record { unit = u; what = what })
parts_are d n u what =
    ap (λ (t : List ℕ). index_part n ++ t) (sym (append_assoc (unit_part d u) (what_text d what) (codes "\n")))
    ∙ sym (append_assoc (index_part n) (unit_part d u ++ what_text d what) (codes "\n"))

-- a line whose parts are known says its entry
pub known_line : (d : DeckView) (n u : ℕ) (line behind rest : List ℕ) (what : What) → IsTrue (is_well_formed d) → n < 2 ^ 64 → line ≡ index_part n ++ behind
    → IsBehindUnit d behind u rest → IsSaid d rest what → entry_on d n line ≡ Some (record { unit = u; what = what })
known_line d n u line behind rest what w small is unit said =
    let e : Entry = record { unit = u; what = what } in
    let whole : line ≡ line_text d n e =
    is ∙ ap (λ (t : List ℕ). index_part n ++ t) (unit.1 ∙ ap (λ (t : List ℕ). unit_part d u ++ t) said.text) ∙ parts_are d n u what in
    ap (entry_on d n) whole ∙ found_entry d w n e small (record { unit = unit.0; what = said.fit })
