-- Operands are read by a table as some values exactly where they spell those values.
use Rattle.std.proofs.Common.{◌≡◌, ℕ, zero, suc, ◌+◌, ◌<◌, ◌≤◌, Bool, true, false, not, cond, ◌&&◌, eqb, leb, List, [], ◌∷◌, ◌++◌, length, take, drop, get_or, drop-cons, Option, Some, None, option_map, option_and_then, is_some, IfSome, IfNone, length-append, refl, ap, sym, subst, ◌∙◌, inl, inr, arith}
use Rattle.std.specs.Prelude.{◌⊎◌, bytes_eq}
use Rattle.std.specs.List.{AllByRecursion, list_all, position_from, remove}
use Rattle.std.proofs.lemmas.Bool.{eqb-true, and_parts, not-true}
use Rattle.std.proofs.lemmas.Bool.Decides.{nat_tests}
use Rattle.std.proofs.lemmas.List.{nil_from_length, take-append-drop}
use Rattle.std.proofs.lemmas.Option.{option_and_then_some, same_Some}
use Rattle.std.proofs.lemmas.Slice.Eq.{bytes_eq-Decides}
use Rattle.rtm_deck_operands.specs.Name.{trimmed_text}
use Rattle.rtm_deck_operands.specs.declared.value.Value.{Value}
use Rattle.rtm_deck_operands.specs.declared.value.Value.TheVariants as values
use Rattle.rtm_deck_operands.specs.declared.slot.Kind.{Kind}
use Rattle.rtm_deck_operands.specs.declared.slot.LeftOut.{LeftOut}
use Rattle.rtm_deck_operands.specs.declared.slot.LeftOut.TheVariants as left_out
use Rattle.rtm_deck_operands.specs.declared.slot.Slot.{Slot}
use Rattle.rtm_deck_operands.specs.Value.{fits}
use Rattle.rtm_deck_operands.specs.Slot.{operand_text, SpellsOperand, LeftOutMeans, StandsBehind, Stands, SpellsSlots, is_key_byte, is_positional, is_needed, slot_is_well_made, has_other_key, slots_are_in_order, kind_is_well_made, default_fits, slots_fit, slot_fits, means_nothing, well_made}
use Rattle.rtm_deck_operands.specs.inner.Reading.{has_key, place_of, meaning_of, operand_in, Taken, taken_value, take_at, take_operand, read_slots}
use Rattle.rtm_deck_operands.proofs.ValueTexts.{if_Some, option_map-Some, fits-spelled}
use Rattle.rtm_deck_operands.proofs.SlotTexts.{behind_key-there, operand_in-Some, operand_in-spelled, Lack, other_lacks, place_of-positional, stands_first, operand_text-keyword, place_of-keyword, position-none, position-there, lack_more, get_seam, remove_seam}

-- What is read is spelled.

means-Some : (l : LeftOut) (value : Option Value) → meaning_of l ≡ Some value → LeftOutMeans l value
means-Some left_out.Needed value e = absurd cc
means-Some left_out.Nothing value e = sym (same_Some None value e)
means-Some (left_out.Flag flag) value e = sym (same_Some (Some (values.Flag flag)) value e)
means-Some (left_out.Number n) value e = sym (same_Some (Some (values.Number n)) value e)

position-below : (p : List ℕ → Bool) (operands : List (List ℕ)) (j i : ℕ) → position_from p j operands ≡ Some i → i < j + length operands
position-below p [] j i e = absurd cc
position-below p (operand ∷ operands) j i e = go (p operand) (position-below p operands (j + 1) i) e
  where
    go : (t : Bool) → (position_from p (j + 1) operands ≡ Some i → i < j + 1 + length operands) →
        cond t (Some j) (position_from p (j + 1) operands) ≡ Some i → i < j + suc (length operands)
    go true behind h = omega (arith, same_Some j i h)
    go false behind h = omega (arith, behind h)

-- the place that is found is there, and is the first for a positional slot
record IsPlace (key : List ℕ) (operands : List (List ℕ)) (i : ℕ) : Type 0 where
  there : i < length operands
  behind : StandsBehind key (take i operands)

place_of-Some : (key : List ℕ) (operands : List (List ℕ)) (i : ℕ) → place_of key operands ≡ Some i → IsPlace key operands i
place_of-Some [] [] i e = absurd cc
place_of-Some [] (operand ∷ operands) i e =
    subst (λ (j : ℕ). IsPlace [] (operand ∷ operands) j) (same_Some 0 i e) (record { there = omega arith; behind = refl })
place_of-Some (k ∷ ks) operands i e =
    record { there = omega (arith, position-below (has_key (k ∷ ks)) operands 0 i e); behind = tt }

around : (operands : List (List ℕ)) (i : ℕ) → i < length operands → operands ≡ take i operands ++ get_or operands i [] ∷ drop (suc i) operands
around operands i h = sym (take-append-drop i operands) ∙ ap (λ ys. take i operands ++ ys) (drop-cons operands i [] h)

-- How a slot's value came about.
abbrev ComesAbout : Slot → List (List ℕ) → Taken → Type 0
ComesAbout slot operands t =
    (LeftOutMeans slot.left_out t.value × (t.rest ≡ operands)) ⊎ ((s : Stands slot operands t.value) × (t.rest ≡ s.front ++ s.back))

take_operand-Some : (slot : Slot) (operands : List (List ℕ)) (t : Taken) → take_operand slot operands ≡ Some t → ComesAbout slot operands t
take_operand-Some slot operands t e = go (place_of (trimmed_text slot.key) operands) refl e
  where
    go : (p : Option ℕ) → place_of (trimmed_text slot.key) operands ≡ p → take_at slot operands p ≡ Some t → ComesAbout slot operands t
    go None h f =
        let m = option_map-Some (taken_value operands) (meaning_of slot.left_out) t f in
        subst (λ (u : Taken). ComesAbout slot operands u) m.to (inl (means-Some slot.left_out m.from m.is, refl))
    go (Some i) h f =
        let m = option_map-Some (λ value. taken_value (remove operands i) (Some value)) (operand_in slot (get_or operands i [])) t f in
        let place = place_of-Some (trimmed_text slot.key) operands i h in
        let stands : Stands slot operands (Some m.from) = record {
          front = take i operands;
          operand = get_or operands i [];
          back = drop (suc i) operands;
          spelled = m.from;
          whole = around operands i place.there;
          place = place.behind;
          spells = operand_in-Some slot (get_or operands i []) m.from m.is;
          is = refl;
        } in
        subst (λ (u : Taken). ComesAbout slot operands u) m.to (inr (stands, refl))

one_more : (slot : Slot) (slots : List Slot) (operands : List (List ℕ)) (t : Taken) (more : List (Option Value)) →
    ComesAbout slot operands t → SpellsSlots slots t.rest more → SpellsSlots (slot ∷ slots) operands (t.value ∷ more)
one_more slot slots operands t more (inl h) s = inl (h.0, subst (λ (os : List (List ℕ)). SpellsSlots slots os more) h.1 s)
one_more slot slots operands t more (inr h) s = inr (h.0, subst (λ (os : List (List ℕ)). SpellsSlots slots os more) h.1 s)

pub read_slots-Some : (slots : List Slot) (operands : List (List ℕ)) (given : List (Option Value)) → read_slots slots operands ≡ Some given → SpellsSlots slots operands given
read_slots-Some [] operands [] e =
    let p = if_Some {A = List (Option Value)} (eqb (length operands) 0) (Some []) [] e in nil_from_length operands (eqb-true (length operands) 0 p.0)
read_slots-Some [] operands (value ∷ given) e =
    let p = if_Some {A = List (Option Value)} (eqb (length operands) 0) (Some []) (value ∷ given) e in
    let bad = p.1 in absurd cc
read_slots-Some (slot ∷ slots) operands given e =
    option_and_then_some (λ (t : Taken). option_map (λ more. t.value ∷ more) (read_slots slots t.rest)) (take_operand slot operands) given e
    (λ t is rest.
    let m = option_map-Some (λ (more : List (Option Value)). t.value ∷ more) (read_slots slots t.rest) given rest in
    subst (λ (all : List (Option Value)). SpellsSlots (slot ∷ slots) operands all) m.to
    (one_more slot slots operands t m.from (take_operand-Some slot operands t is) (read_slots-Some slots t.rest m.from m.is)))

-- What is spelled is read.

key_is_clean : (slot : Slot) → slot_is_well_made slot ≡ true → list_all is_key_byte (trimmed_text slot.key) ≡ true
key_is_clean slot e =
    let outer = and_parts (list_all is_key_byte (trimmed_text slot.key) && kind_is_well_made slot.kind) (default_fits slot.kind slot.left_out) e in
    (and_parts (list_all is_key_byte (trimmed_text slot.key)) (kind_is_well_made slot.kind) outer.0).0

differ : (key other : List ℕ) → bytes_eq other key ≡ false → other ≡ key → ⊥
differ key other e h = let d = bytes_eq-Decides other key in let f = d.1 h in absurd cc

slot_lacks : (key operand : List ℕ) (slot : Slot) (value : Value) → list_all is_key_byte key ≡ true → slot_is_well_made slot ≡ true →
    has_other_key key slot ≡ true → SpellsOperand slot operand value → has_key key operand ≡ false
slot_lacks key operand slot value clean made other s =
    let p = and_parts (not (is_positional slot)) (not (bytes_eq (trimmed_text slot.key) key)) other in
    let keyed = operand_text-keyword (trimmed_text slot.key) s.0 (not-true (is_positional slot) p.0) in
    rw (s.1, keyed) (other_lacks key (trimmed_text slot.key) s.0 clean (key_is_clean slot made) (differ key (trimmed_text slot.key) (not-true (bytes_eq (trimmed_text slot.key) key) p.1)))

others_lack : (key : List ℕ) (slots : List Slot) (operands : List (List ℕ)) (given : List (Option Value)) → list_all is_key_byte key ≡ true →
    list_all (has_other_key key) slots ≡ true → list_all slot_is_well_made slots ≡ true → SpellsSlots slots operands given → Lack key operands
others_lack key [] operands [] clean other made s = rw s tt
others_lack key [] operands (value ∷ given) clean other made s = absurd s
others_lack key (slot ∷ slots) operands [] clean other made s = absurd s
others_lack key (slot ∷ slots) operands (value ∷ given) clean other made (inl s) =
    others_lack key slots operands given clean (and_parts (has_other_key key slot) (list_all (has_other_key key) slots) other).1
    (and_parts (slot_is_well_made slot) (list_all slot_is_well_made slots) made).1 s.1
others_lack key (slot ∷ slots) operands (value ∷ given) clean other made (inr s) =
    let o = and_parts (has_other_key key slot) (list_all (has_other_key key) slots) other in
    let m = and_parts (slot_is_well_made slot) (list_all slot_is_well_made slots) made in
    let rest = others_lack key slots (s.0.front ++ s.0.back) given clean o.1 m.1 s.1 in
    rw s.0.whole (lack_more key s.0.operand s.0.front s.0.back rest (slot_lacks key s.0.operand slot s.0.spelled clean m.0 o.0 s.0.spells))

needed_stands : (l : LeftOut) (value : Option Value) → is_needed l ≡ true → LeftOutMeans l value → ⊥
needed_stands left_out.Needed value e s = s
needed_stands left_out.Nothing value e s = absurd cc
needed_stands (left_out.Flag flag) value e s = absurd cc
needed_stands (left_out.Number n) value e s = absurd cc

meaning_of-means : (l : LeftOut) (value : Option Value) → LeftOutMeans l value → meaning_of l ≡ Some value
meaning_of-means left_out.Needed value s = absurd s
meaning_of-means left_out.Nothing value s = ap Some (sym s)
meaning_of-means (left_out.Flag flag) value s = ap Some (sym s)
meaning_of-means (left_out.Number n) value s = ap Some (sym s)

has_key-spelled : (slot : Slot) (operand : List ℕ) (value : Value) → is_positional slot ≡ false → SpellsOperand slot operand value → has_key (trimmed_text slot.key) operand ≡ true
has_key-spelled slot operand value keyword s =
    rw (s.1, operand_text-keyword (trimmed_text slot.key) s.0 keyword, behind_key-there (trimmed_text slot.key) s.0) refl

take_left_out : (slot : Slot) (slots : List Slot) (operands : List (List ℕ)) (value : Option Value) (given : List (Option Value)) →
    slots_are_in_order (slot ∷ slots) ≡ true → list_all slot_is_well_made (slot ∷ slots) ≡ true → LeftOutMeans slot.left_out value → SpellsSlots slots operands given →
    take_operand slot operands ≡ Some (taken_value operands value)
take_left_out slot slots operands value given order made means s =
    let first = and_parts (cond (is_positional slot) (is_needed slot.left_out) (list_all (has_other_key (trimmed_text slot.key)) slots)) (slots_are_in_order slots) order in
    go (is_positional slot) refl first.0
  where
    go : (t : Bool) → is_positional slot ≡ t → cond t (is_needed slot.left_out) (list_all (has_other_key (trimmed_text slot.key)) slots) ≡ true → take_operand slot operands ≡ Some (taken_value operands value)
    go true h e = absurd (needed_stands slot.left_out value e means)
    go false h e =
        let m = and_parts (slot_is_well_made slot) (list_all slot_is_well_made slots) made in
        let lack = others_lack (trimmed_text slot.key) slots operands given (key_is_clean slot m.0) e m.1 s in
        let place : place_of (trimmed_text slot.key) operands ≡ None = place_of-keyword (trimmed_text slot.key) operands h ∙ position-none (trimmed_text slot.key) operands 0 lack in
        rw (place, meaning_of-means slot.left_out value means) refl

take_placed : (slot : Slot) (operands : List (List ℕ)) (value : Option Value) (st : Stands slot operands value) →
    place_of (trimmed_text slot.key) operands ≡ Some (length st.front) → take_operand slot operands ≡ Some (taken_value (st.front ++ st.back) value)
take_placed slot operands value st place =
    let read = operand_in-spelled slot st.operand st.spelled st.spells in
    let there : get_or operands (length st.front) [] ≡ st.operand = rw st.whole (get_seam st.operand st.front st.back) in
    let rest : remove operands (length st.front) ≡ st.front ++ st.back = rw st.whole (remove_seam st.operand st.front st.back) in
    rw (place, there, read, rest, st.is) refl

take_stands : (slot : Slot) (slots : List Slot) (operands : List (List ℕ)) (value : Option Value) (given : List (Option Value)) →
    slots_are_in_order (slot ∷ slots) ≡ true → list_all slot_is_well_made (slot ∷ slots) ≡ true → (st : Stands slot operands value) →
    SpellsSlots slots (st.front ++ st.back) given → take_operand slot operands ≡ Some (taken_value (st.front ++ st.back) value)
take_stands slot slots operands value given order made st s =
    let first = and_parts (cond (is_positional slot) (is_needed slot.left_out) (list_all (has_other_key (trimmed_text slot.key)) slots)) (slots_are_in_order slots) order in
    go (is_positional slot) refl first.0
  where
    go : (t : Bool) → is_positional slot ≡ t → cond t (is_needed slot.left_out) (list_all (has_other_key (trimmed_text slot.key)) slots) ≡ true → take_operand slot operands ≡ Some (taken_value (st.front ++ st.back) value)
    go true h e =
        let none = stands_first (trimmed_text slot.key) st.front h st.place in
        let whole : operands ≡ st.operand ∷ st.back = st.whole ∙ ap (λ (f : List (List ℕ)). f ++ st.operand ∷ st.back) none in
        let zero_th : length st.front ≡ 0 = ap length none in
        take_placed slot operands value st (rw (whole, zero_th) (place_of-positional (trimmed_text slot.key) st.operand st.back h))
    go false h e =
        let m = and_parts (slot_is_well_made slot) (list_all slot_is_well_made slots) made in
        let lack = others_lack (trimmed_text slot.key) slots (st.front ++ st.back) given (key_is_clean slot m.0) e m.1 s in
        let keyed = has_key-spelled slot st.operand st.spelled h st.spells in
        let found = position-there (trimmed_text slot.key) st.operand st.front st.back 0 lack keyed in
        take_placed slot operands value st
        (let place : place_of (trimmed_text slot.key) operands ≡ Some (0 + length st.front) = place_of-keyword (trimmed_text slot.key) operands h ∙ rw st.whole found in
        let same : 0 + length st.front ≡ length st.front = omega arith in
        place ∙ ap Some same)

pub read_slots-spelled : (slots : List Slot) (operands : List (List ℕ)) (given : List (Option Value)) → slots_are_in_order slots ≡ true →
    list_all slot_is_well_made slots ≡ true → SpellsSlots slots operands given → read_slots slots operands ≡ Some given
read_slots-spelled [] operands [] order made s = rw s refl
read_slots-spelled [] operands (value ∷ given) order made s = absurd s
read_slots-spelled (slot ∷ slots) operands [] order made s = absurd s
read_slots-spelled (slot ∷ slots) operands (value ∷ given) order made (inl s) =
    let o = and_parts (cond (is_positional slot) (is_needed slot.left_out) (list_all (has_other_key (trimmed_text slot.key)) slots)) (slots_are_in_order slots) order in
    let m = and_parts (slot_is_well_made slot) (list_all slot_is_well_made slots) made in
    rw (take_left_out slot slots operands value given order made s.0 s.1, read_slots-spelled slots operands given o.1 m.1 s.1) refl
read_slots-spelled (slot ∷ slots) operands (value ∷ given) order made (inr s) =
    let o = and_parts (cond (is_positional slot) (is_needed slot.left_out) (list_all (has_other_key (trimmed_text slot.key)) slots)) (slots_are_in_order slots) order in
    let m = and_parts (slot_is_well_made slot) (list_all slot_is_well_made slots) made in
    rw (take_stands slot slots operands value given order made s.0 s.1, read_slots-spelled slots (s.0.front ++ s.0.back) given o.1 m.1 s.1) refl

-- What is spelled fits.

-- a value that leaving out means fits
abbrev default_or_fits : Kind → LeftOut → Option Value → Bool
default_or_fits kind l None = means_nothing l
default_or_fits kind l (Some value) = fits kind value

means_fits : (kind : Kind) (l : LeftOut) (value : Option Value) → default_fits kind l ≡ true → LeftOutMeans l value → default_or_fits kind l value ≡ true
means_fits kind left_out.Needed value fit means = absurd means
means_fits kind left_out.Nothing value fit means = rw means refl
means_fits kind (left_out.Flag flag) value fit means = rw means fit
means_fits kind (left_out.Number n) value fit means = rw means fit

slot_fits-means : (slot : Slot) (value : Option Value) → default_fits slot.kind slot.left_out ≡ true → LeftOutMeans slot.left_out value → slot_fits slot value ≡ true
slot_fits-means slot None fit means = means_fits slot.kind slot.left_out None fit means
slot_fits-means slot (Some value) fit means = means_fits slot.kind slot.left_out (Some value) fit means

pub slots_fit-spelled : (slots : List Slot) (operands : List (List ℕ)) (given : List (Option Value)) → list_all slot_is_well_made slots ≡ true →
    SpellsSlots slots operands given → slots_fit slots given ≡ true
slots_fit-spelled [] operands [] made s = refl
slots_fit-spelled [] operands (value ∷ given) made s = absurd s
slots_fit-spelled (slot ∷ slots) operands [] made s = absurd s
slots_fit-spelled (slot ∷ slots) operands (value ∷ given) made (inl s) =
    let m = and_parts (slot_is_well_made slot) (list_all slot_is_well_made slots) made in
    let d = and_parts (list_all is_key_byte (trimmed_text slot.key) && kind_is_well_made slot.kind) (default_fits slot.kind slot.left_out) m.0 in
    rw (slot_fits-means slot value d.1 s.0) (slots_fit-spelled slots operands given m.1 s.1)
slots_fit-spelled (slot ∷ slots) operands (value ∷ given) made (inr s) =
    let m = and_parts (slot_is_well_made slot) (list_all slot_is_well_made slots) made in
    rw (s.0.is, fits-spelled slot.kind s.0.spells.0 s.0.spelled s.0.spells.2) (slots_fit-spelled slots (s.0.front ++ s.0.back) given m.1 s.1)

-- No operand is left over, and each slot takes one at most.
pub few_operands : (slots : List Slot) (operands : List (List ℕ)) (given : List (Option Value)) → SpellsSlots slots operands given →
    length operands ≤ length slots
few_operands [] operands [] s = rw s (omega arith)
few_operands [] operands (value ∷ given) s = absurd s
few_operands (slot ∷ slots) operands [] s = absurd s
few_operands (slot ∷ slots) operands (value ∷ given) (inl s) = omega (arith, few_operands slots operands given s.1)
few_operands (slot ∷ slots) operands (value ∷ given) (inr s) =
    let rest = few_operands slots (s.0.front ++ s.0.back) given s.1 in
    let whole = ap length s.0.whole in
    omega (arith, rest, whole, length-append s.0.front (s.0.operand ∷ s.0.back), length-append s.0.front s.0.back)

-- what makes a table well made
pub record TableParts (slots : List Slot) : Type 0 where
  pub few : length slots ≤ 8
  pub made : list_all slot_is_well_made slots ≡ true
  pub order : slots_are_in_order slots ≡ true

few_slots : (n : ℕ) → leb n 8 ≡ true → n ≤ 8
few_slots n e = grind (arith, nat_tests)

pub table_parts : (slots : List Slot) → well_made slots ≡ true → TableParts slots
table_parts slots e =
    let outer = and_parts (leb (length slots) 8 && list_all slot_is_well_made slots) (slots_are_in_order slots) e in
    let inner = and_parts (leb (length slots) 8) (list_all slot_is_well_made slots) outer.0 in
    record { few = few_slots (length slots) inner.0; made = inner.1; order = outer.1 }

-- What a reading says.

pub read-found : {T : Type 0} (view : T → List (Option Value)) (slots : List Slot) (operands : List (List ℕ)) (r : Option T) →
    option_map view r ≡ read_slots slots operands → IfSome r (λ t. SpellsSlots slots operands (view t))
read-found view slots operands None e = tt
read-found view slots operands (Some t) e = read_slots-Some slots operands (view t) (sym e)

pub read-fits : {T : Type 0} (view : T → List (Option Value)) (slots : List Slot) (operands : List (List ℕ)) (r : Option T) → well_made slots ≡ true →
    option_map view r ≡ read_slots slots operands → IfSome r (λ t. slots_fit slots (view t) ≡ true)
read-fits view slots operands None made e = tt
read-fits view slots operands (Some t) made e =
    let table = table_parts slots made in
    slots_fit-spelled slots operands (view t) table.made (read_slots-Some slots operands (view t) (sym e))

pub read-only : {T : Type 0} (view : T → List (Option Value)) (slots : List Slot) (operands : List (List ℕ)) (r : Option T) → well_made slots ≡ true →
    option_map view r ≡ read_slots slots operands → IfNone r ((given : List (Option Value)) → SpellsSlots slots operands given → ⊥)
read-only view slots operands None made e = λ given s.
    let t = table_parts slots made in
    let read = read_slots-spelled slots operands given t.order t.made s in absurd cc
read-only view slots operands (Some t) made e = tt

-- too many operands spell nothing
pub many-none : (slots : List Slot) (operands : List (List ℕ)) → well_made slots ≡ true → 8 < length operands → (given : List (Option Value)) →
    SpellsSlots slots operands given → ⊥
many-none slots operands made many given s =
    let t = table_parts slots made in
    let few = few_operands slots operands given s in
    let most = t.few in omega arith

pub many-read : (slots : List Slot) (operands : List (List ℕ)) → well_made slots ≡ true → 8 < length operands → read_slots slots operands ≡ None
many-read slots operands made many = go (read_slots slots operands) refl
  where
    go : (r : Option (List (Option Value))) → read_slots slots operands ≡ r → r ≡ None
    go None e = refl
    go (Some given) e = absurd (many-none slots operands made many given (read_slots-Some slots operands given e))
