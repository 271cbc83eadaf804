-- Operands as they are written: they spell their values, are plain, and no spelling is shorter.
use Rattle.std.proofs.Common.{◌≡◌, ℕ, zero, suc, ◌+◌, ◌-◌, ◌^◌, ◌<◌, ◌≤◌, Bool, true, false, not, cond, ◌&&◌, eqb, leb, List, [], ◌∷◌, ◌++◌, append_assoc, length, Option, Some, None, refl, ap, sym, subst, ◌∙◌, length-append, inl, inr, arith}
use Rattle.std.specs.List.{AllByRecursion, list_all, join_with_byte}
use Rattle.std.proofs.lemmas.Bool.{eqb-true, eq-eqb, and_parts}
use Rattle.std.proofs.lemmas.Option.{same_Some}
use Rattle.std.proofs.lemmas.List.{append-nil}
use Rattle.std.proofs.lemmas.Bool.Decides.{nat_tests}
use Rattle.std.proofs.lemmas.List.Folds.{list_all-append}
use Rattle.rtm_cards.specs.Name.{is_name, is_name_byte, is_letter}
use Rattle.rtm_codes.specs.declared.code.Code.{Code}
use Rattle.rtm_codes.specs.declared.code.Code.TheVariants.{Sys, User}
use Rattle.rtm_codes.specs.Code.{SpellsNumber, IsInRange, in_range, short_of, IsDigitOrCapital}
use Rattle.rtm_codes.specs.Code.{Spells as SpellsCode}
use Rattle.rtm_codes.proofs.Written.{Spells-short_of, short_of-shortest, length-spelled, IsDigitOrCapital-spelled}
use Rattle.rtm_deck_operands.specs.declared.value.Value.{Value}
use Rattle.rtm_deck_operands.specs.declared.value.Value.TheVariants as values
use Rattle.rtm_deck_operands.specs.declared.value.Three.{Three}
use Rattle.rtm_deck_operands.specs.declared.value.Three.TheVariants as answers
use Rattle.rtm_deck_operands.specs.declared.value.Res.{Res}
use Rattle.rtm_deck_operands.specs.declared.value.Res.TheVariants as classes
use Rattle.rtm_deck_operands.specs.declared.slot.Kind.{Kind}
use Rattle.rtm_deck_operands.specs.declared.slot.Kind.TheVariants as kinds
use Rattle.rtm_deck_operands.specs.declared.slot.LeftOut.{LeftOut}
use Rattle.rtm_deck_operands.specs.declared.slot.LeftOut.TheVariants as left_out
use Rattle.rtm_deck_operands.specs.declared.slot.Slot.{Slot}
use Rattle.rtm_deck_operands.specs.Name.{trimmed_text, padded_text, is_padded_name}
use Rattle.rtm_deck_operands.specs.Numeral.{decimal_of, hexadecimal_of}
use Rattle.rtm_deck_operands.specs.Value.{yes_or_no, three_text, class_text, scope_text, is_return_code, is_abend_code, SpellsDecimal, SpellsReason, Spells, fits, value_text}
use Rattle.rtm_deck_operands.specs.Slot.{operand_text, SpellsOperand, LeftOutMeans, StandsBehind, Stands, SpellsSlots, is_flag, is_number, is_default, canon_operand, canon_operands, separated_operands, field_of, means_nothing, slot_fits, slots_fit, is_operand_byte, is_operand_text, is_key_byte, kind_is_well_made, default_fits, slot_is_well_made}
use Rattle.rtm_deck_operands.proofs.Names.{padded_parts, trimmed_text-padded_text, name_parts, length-name}
use Rattle.rtm_deck_operands.proofs.ValueTexts.{not_S000}
use Rattle.rtm_text.proofs.NumeralLaws.{numeral-spells, numeral-some, numeral-few, numeral-shortest}
use Rattle.rtm_deck_operands.proofs.Numerals.{numeral-plain}

-- Numbers.

below_limit : (n m : ℕ) → leb n m ≡ true → n ≤ m
below_limit n m e = grind (arith, nat_tests)

decimal_spells : (n : ℕ) → n ≤ 4294967295 → SpellsDecimal (decimal_of n) n
unfolding decimal_of
decimal_spells n h =
    let small : n < 10 ^ 10 = omega arith in
    (numeral-some 10 9 n, numeral-few 10 9 n, numeral-spells 10 9 n (omega arith) small)

hexadecimal_spells : (n : ℕ) → n ≤ 4294967295 → SpellsReason (hexadecimal_of n) n
unfolding hexadecimal_of
hexadecimal_spells n h =
    let small : n < 16 ^ 8 = omega arith in
    (numeral-some 16 7 n, numeral-few 16 7 n, numeral-spells 16 7 n (omega arith) small)

decimal_shortest : (n : ℕ) (text : List ℕ) → SpellsDecimal text n → length (decimal_of n) ≤ length text
unfolding decimal_of
decimal_shortest n text s = numeral-shortest 10 9 n text (omega arith) s.0 s.2

hexadecimal_shortest : (n : ℕ) (text : List ℕ) → SpellsReason text n → length (hexadecimal_of n) ≤ length text
unfolding hexadecimal_of
hexadecimal_shortest n text s = numeral-shortest 16 7 n text (omega arith) s.0 s.2

stands : (text : List ℕ) → 1 ≤ length text → list_all is_operand_byte text ≡ true → is_operand_text text ≡ true
stands [] some e = absurd (omega arith)
stands (b ∷ bs) some e = go (eqb (suc (length bs)) 0) refl
  where
    go : (t : Bool) → eqb (suc (length bs)) 0 ≡ t → (not t && list_all is_operand_byte (b ∷ bs)) ≡ true
    go true h = absurd (omega (arith, eqb-true (suc (length bs)) 0 h))
    go false h = e

decimal_plain : (n : ℕ) → is_operand_text (decimal_of n) ≡ true
unfolding decimal_of
decimal_plain n = stands (decimal_of n) (numeral-some 10 9 n) (numeral-plain 10 9 n (omega arith) (omega arith))

hexadecimal_plain : (n : ℕ) → is_operand_text (hexadecimal_of n) ≡ true
unfolding hexadecimal_of
hexadecimal_plain n = stands (hexadecimal_of n) (numeral-some 16 7 n) (numeral-plain 16 7 n (omega arith) (omega arith))

-- Values.

return_code_small : (n : ℕ) → is_return_code n ≡ true → n ≤ 4294967295
return_code_small n e = grind (arith, nat_tests)

code_range : (code : Code) → in_range code ≡ true → IsInRange code
code_range (Sys n) e = below_limit n 4095 e
code_range (User n) e = below_limit n 4095 e

abend_range : (code : Code) → is_abend_code code ≡ true → IsInRange code
abend_range code e = code_range code (and_parts (in_range code) _ e).0

-- a value that fits is spelled by its text
pub Spells-value_text : (kind : Kind) (value : Value) → kind_is_well_made kind ≡ true → fits kind value ≡ true → Spells kind (value_text kind value) value
Spells-value_text (kinds.Word word) values.Word made e = refl
Spells-value_text (kinds.Number least most) (values.Number n) made e =
    let b = and_parts (leb least n) (leb n most) e in
    let low = below_limit least n b.0 in
    let high = below_limit n most b.1 in
    let top = below_limit most 4294967295 made in
    (decimal_spells n (omega arith), low, high)
Spells-value_text kinds.ReturnCode (values.Number n) made e = (decimal_spells n (return_code_small n e), e)
Spells-value_text (kinds.Name named) (values.Name bytes) made e = let p = padded_parts bytes e in (p.name, p.whole)
Spells-value_text kinds.Code (values.Code code) made e = Spells-short_of code (code_range code e)
Spells-value_text kinds.AbendCode (values.Code code) made e = (Spells-short_of code (abend_range code e), not_S000 code e)
Spells-value_text kinds.Reason (values.Reason n) made e = hexadecimal_spells n (below_limit n 4294967295 e)
Spells-value_text kinds.YesNo (values.Flag flag) made e = refl
Spells-value_text kinds.YesNoIgnore (values.Three three) made e = refl
Spells-value_text kinds.Class (values.Class class) made e = refl
Spells-value_text kinds.Scope (values.Flag space) made e = refl
Spells-value_text _ _ made e = absurd cc

-- no spelling of a value is shorter than its text
pub value_text-shortest : (kind : Kind) (text : List ℕ) (value : Value) → Spells kind text value → length (value_text kind value) ≤ length text
value_text-shortest (kinds.Word word) text values.Word s = rw s (omega arith)
value_text-shortest (kinds.Number least most) text (values.Number n) s = decimal_shortest n text s.0
value_text-shortest kinds.ReturnCode text (values.Number n) s = decimal_shortest n text s.0
value_text-shortest (kinds.Name named) text (values.Name bytes) s =
    let same : trimmed_text bytes ≡ text = ap trimmed_text s.1 ∙ trimmed_text-padded_text text s.0 in
    omega (arith, ap length same)
value_text-shortest kinds.Code text (values.Code code) s = short_of-shortest text code s
value_text-shortest kinds.AbendCode text (values.Code code) s = short_of-shortest text code s.0
value_text-shortest kinds.Reason text (values.Reason n) s = hexadecimal_shortest n text s
value_text-shortest kinds.YesNo text (values.Flag flag) s = rw s (omega arith)
value_text-shortest kinds.YesNoIgnore text (values.Three three) s = rw s (omega arith)
value_text-shortest kinds.Class text (values.Class class) s = rw s (omega arith)
value_text-shortest kinds.Scope text (values.Flag space) s = rw s (omega arith)
value_text-shortest _ text _ s = absurd s

letter_is_plain : (b : ℕ) → is_letter b ≡ true → is_operand_byte b ≡ true
letter_is_plain b e = grind (arith, nat_tests)

name_byte_is_plain : (b : ℕ) → is_name_byte b ≡ true → is_operand_byte b ≡ true
name_byte_is_plain b e = grind (arith, nat_tests)

name_bytes_are_plain : (bytes : List ℕ) → list_all is_name_byte bytes ≡ true → list_all is_operand_byte bytes ≡ true
name_bytes_are_plain [] e = refl
name_bytes_are_plain (b ∷ bs) e =
    let p = and_parts (is_name_byte b) (list_all is_name_byte bs) e in
    rw (name_byte_is_plain b p.0) (name_bytes_are_plain bs p.1)

name_is_plain : (text : List ℕ) → is_name text ≡ true → is_operand_text text ≡ true
name_is_plain [] e = absurd cc
name_is_plain (b ∷ bs) e =
    let p = name_parts b bs e in
    stands (b ∷ bs) (omega arith) (rw (letter_is_plain b p.letter) (name_bytes_are_plain bs p.bytes))

digit_or_capital_is_plain : (b : ℕ) → IsDigitOrCapital b → is_operand_byte b ≡ true
digit_or_capital_is_plain b (inl h) = let low = h.0 in let high = h.1 in grind (arith, nat_tests)
digit_or_capital_is_plain b (inr h) = let low = h.0 in let high = h.1 in grind (arith, nat_tests)

capitals_are_plain : (text : List ℕ) → AllByRecursion IsDigitOrCapital text → list_all is_operand_byte text ≡ true
capitals_are_plain [] all = refl
capitals_are_plain (b ∷ bs) all = rw (digit_or_capital_is_plain b all.0) (capitals_are_plain bs all.1)

code_is_plain : (code : Code) → IsInRange code → is_operand_text (short_of code) ≡ true
code_is_plain code range =
    let s = Spells-short_of code range in
    let size = length-spelled (short_of code) code s in
    stands (short_of code) (omega (arith, size.0)) (capitals_are_plain (short_of code) (IsDigitOrCapital-spelled (short_of code) code s))

flag_is_plain : (flag : Bool) → is_operand_text (yes_or_no flag) ≡ true
flag_is_plain true = refl
flag_is_plain false = refl

scope_is_plain : (flag : Bool) → is_operand_text (scope_text flag) ≡ true
scope_is_plain true = refl
scope_is_plain false = refl

three_is_plain : (three : Three) → is_operand_text (three_text three) ≡ true
three_is_plain answers.Yes = refl
three_is_plain answers.No = refl
three_is_plain answers.Ignore = refl

class_is_plain : (class : Res) → is_operand_text (class_text class) ≡ true
class_is_plain classes.Enq = refl
class_is_plain classes.Stor = refl
class_is_plain classes.Dsn = refl
class_is_plain classes.Timr = refl

value_is_plain : (kind : Kind) (value : Value) → kind_is_well_made kind ≡ true → fits kind value ≡ true → is_operand_text (value_text kind value) ≡ true
value_is_plain (kinds.Word word) values.Word made e = made
value_is_plain (kinds.Number least most) (values.Number n) made e = decimal_plain n
value_is_plain kinds.ReturnCode (values.Number n) made e = decimal_plain n
value_is_plain (kinds.Name named) (values.Name bytes) made e = let p = padded_parts bytes e in name_is_plain (trimmed_text bytes) p.name
value_is_plain kinds.Code (values.Code code) made e = code_is_plain code (code_range code e)
value_is_plain kinds.AbendCode (values.Code code) made e = code_is_plain code (abend_range code e)
value_is_plain kinds.Reason (values.Reason n) made e = hexadecimal_plain n
value_is_plain kinds.YesNo (values.Flag flag) made e = flag_is_plain flag
value_is_plain kinds.YesNoIgnore (values.Three three) made e = three_is_plain three
value_is_plain kinds.Class (values.Class class) made e = class_is_plain class
value_is_plain kinds.Scope (values.Flag space) made e = scope_is_plain space
value_is_plain _ _ made e = absurd cc

-- Operands.

record SlotParts (slot : Slot) : Type 0 where
  key : list_all is_key_byte (trimmed_text slot.key) ≡ true
  kind : kind_is_well_made slot.kind ≡ true

slot_parts : (slot : Slot) → slot_is_well_made slot ≡ true → SlotParts slot
slot_parts slot e =
    let outer = and_parts (list_all is_key_byte (trimmed_text slot.key) && kind_is_well_made slot.kind) (default_fits slot.kind slot.left_out) e in
    let inner = and_parts (list_all is_key_byte (trimmed_text slot.key)) (kind_is_well_made slot.kind) outer.0 in
    record { key = inner.0; kind = inner.1 }

same_flag : (flag : Bool) (value : Value) → is_flag flag value ≡ true → value ≡ values.Flag flag
same_flag true (values.Flag true) e = refl
same_flag true (values.Flag false) e = absurd cc
same_flag false (values.Flag true) e = absurd cc
same_flag false (values.Flag false) e = refl
same_flag flag _ e = absurd cc

same_number : (n : ℕ) (value : Value) → is_number n value ≡ true → value ≡ values.Number n
same_number n (values.Number own) e = ap values.Number (eqb-true own n e)
same_number n _ e = absurd cc

default_means : (l : LeftOut) (value : Value) → is_default l value ≡ true → LeftOutMeans l (Some value)
default_means left_out.Needed value e = absurd cc
default_means left_out.Nothing value e = absurd cc
default_means (left_out.Flag flag) value e = ap Some (same_flag flag value e)
default_means (left_out.Number n) value e = ap Some (same_number n value e)

nothing_means : (l : LeftOut) → means_nothing l ≡ true → LeftOutMeans l None
nothing_means left_out.Needed e = absurd cc
nothing_means left_out.Nothing e = refl
nothing_means (left_out.Flag flag) e = absurd cc
nothing_means (left_out.Number n) e = absurd cc

behind_nothing : (key : List ℕ) → StandsBehind key []
behind_nothing [] = refl
behind_nothing (k ∷ ks) = tt

stands_written : (slot : Slot) (value : Value) (back : List (List ℕ)) → slot_is_well_made slot ≡ true → fits slot.kind value ≡ true →
    Stands slot (operand_text (trimmed_text slot.key) (value_text slot.kind value) ∷ back) (Some value)
stands_written slot value back made fit =
    let p = slot_parts slot made in record {
      front = [];
      operand = operand_text (trimmed_text slot.key) (value_text slot.kind value);
      back = back;
      spelled = value;
      whole = refl;
      place = behind_nothing (trimmed_text slot.key);
      spells = (value_text slot.kind value, refl, Spells-value_text slot.kind value p.kind fit);
      is = refl;
    }

one_written : (slot : Slot) (slots : List Slot) (value : Option Value) (given : List (Option Value)) → slot_is_well_made slot ≡ true → slot_fits slot value ≡ true →
    SpellsSlots slots (canon_operands slots given) given → SpellsSlots (slot ∷ slots) (canon_operand slot value ++ canon_operands slots given) (value ∷ given)
unfolding stands_written
one_written slot slots None given made fit rest = inl (nothing_means slot.left_out fit, rest)
one_written slot slots (Some value) given made fit rest = go (is_default slot.left_out value) refl
  where
    go : (t : Bool) → is_default slot.left_out value ≡ t →
        SpellsSlots (slot ∷ slots) (cond t [] (operand_text (trimmed_text slot.key) (value_text slot.kind value) ∷ []) ++ canon_operands slots given) (Some value ∷ given)
    go true h = inl (default_means slot.left_out value h, rest)
    go false h = inr (stands_written slot value (canon_operands slots given) made fit, rest)

-- what is written spells the values
pub SpellsSlots-canon : (slots : List Slot) (given : List (Option Value)) → list_all slot_is_well_made slots ≡ true → slots_fit slots given ≡ true →
    SpellsSlots slots (canon_operands slots given) given
SpellsSlots-canon [] [] made fit = refl
SpellsSlots-canon [] (value ∷ given) made fit = absurd cc
SpellsSlots-canon (slot ∷ slots) [] made fit = absurd cc
SpellsSlots-canon (slot ∷ slots) (value ∷ given) made fit =
    let m = and_parts (slot_is_well_made slot) (list_all slot_is_well_made slots) made in
    let f = and_parts (slot_fits slot value) (slots_fit slots given) fit in
    one_written slot slots value given m.0 f.0 (SpellsSlots-canon slots given m.1 f.1)

-- Plain bytes.

key_byte_is_plain : (b : ℕ) → is_key_byte b ≡ true → is_operand_byte b ≡ true
key_byte_is_plain b e = (and_parts (is_operand_byte b) (not (eqb b 61)) e).0

key_is_plain : (key : List ℕ) → list_all is_key_byte key ≡ true → list_all is_operand_byte key ≡ true
key_is_plain [] e = refl
key_is_plain (b ∷ bs) e =
    let p = and_parts (is_key_byte b) (list_all is_key_byte bs) e in
    rw (key_byte_is_plain b p.0) (key_is_plain bs p.1)

keyed_is_plain : (key text : List ℕ) → list_all is_key_byte key ≡ true → is_operand_text text ≡ true → is_operand_text (operand_text key text) ≡ true
keyed_is_plain [] text k e = e
keyed_is_plain (b ∷ bs) text k e =
    let bytes = (and_parts (not (eqb (length text) 0)) (list_all is_operand_byte text) e).1 in
    let front = key_is_plain (b ∷ bs) k in
    stands ((b ∷ bs) ++ 61 ∷ text) (omega arith) (rw (list_all-append is_operand_byte (b ∷ bs) (61 ∷ text), front, bytes) refl)

one_is_plain : (slot : Slot) (value : Option Value) (rest : List (List ℕ)) → slot_is_well_made slot ≡ true → slot_fits slot value ≡ true →
    AllByRecursion (λ operand. is_operand_text operand ≡ true) rest → AllByRecursion (λ operand. is_operand_text operand ≡ true) (canon_operand slot value ++ rest)
one_is_plain slot None rest made fit all = all
one_is_plain slot (Some value) rest made fit all = go (is_default slot.left_out value)
  where
    go : (t : Bool) → AllByRecursion (λ operand. is_operand_text operand ≡ true) (cond t [] (operand_text (trimmed_text slot.key) (value_text slot.kind value) ∷ []) ++ rest)
    go true = all
    go false =
        let p = slot_parts slot made in
        (keyed_is_plain (trimmed_text slot.key) (value_text slot.kind value) p.key (value_is_plain slot.kind value p.kind fit), all)

pub canon_is_plain : (slots : List Slot) (given : List (Option Value)) → list_all slot_is_well_made slots ≡ true → slots_fit slots given ≡ true →
    AllByRecursion (λ operand. is_operand_text operand ≡ true) (canon_operands slots given)
canon_is_plain [] given made fit = tt
canon_is_plain (slot ∷ slots) [] made fit = absurd cc
canon_is_plain (slot ∷ slots) (value ∷ given) made fit =
    let m = and_parts (slot_is_well_made slot) (list_all slot_is_well_made slots) made in
    let f = and_parts (slot_fits slot value) (slots_fit slots given) fit in
    one_is_plain slot value (canon_operands slots given) m.0 f.0 (canon_is_plain slots given m.1 f.1)

-- Lengths.

-- how long operands are, each with its separator
abbrev cost : List (List ℕ) → ℕ
cost [] = 0
cost (operand ∷ operands) = suc (length operand) + cost operands

length-separated_operands : (separator : ℕ) (operands : List (List ℕ)) → length (separated_operands separator operands) ≡ cost operands
length-separated_operands separator [] = refl
length-separated_operands separator (operand ∷ operands) =
    let rest = length-separated_operands 44 operands in
    let whole = length-append operand (separated_operands 44 operands) in
    omega (arith, rest, whole)

cost-seam : (front : List (List ℕ)) (operand : List ℕ) (back : List (List ℕ)) → cost (front ++ operand ∷ back) ≡ suc (length operand) + cost (front ++ back)
cost-seam [] operand back = refl
cost-seam (first ∷ front) operand back = let rest = cost-seam front operand back in omega (arith, rest)

keyed_shortest : (key text other : List ℕ) → length text ≤ length other → length (operand_text key text) ≤ length (operand_text key other)
keyed_shortest [] text other h = h
keyed_shortest (k ∷ ks) text other h = omega (arith, h, length-append ks (61 ∷ text), length-append ks (61 ∷ other))

one_costs : (slot : Slot) (value : Option Value) (rest : List (List ℕ)) (limit : ℕ) →
    ((v : Value) → value ≡ Some v → length (operand_text (trimmed_text slot.key) (value_text slot.kind v)) ≤ limit) → cost (canon_operand slot value ++ rest) ≤ suc limit + cost rest
one_costs slot None rest limit each = omega arith
one_costs slot (Some value) rest limit each = go (is_default slot.left_out value)
  where
    go : (t : Bool) → cost (cond t [] (operand_text (trimmed_text slot.key) (value_text slot.kind value) ∷ []) ++ rest) ≤ suc limit + cost rest
    go true = omega arith
    go false = let h = each value refl in omega (arith, h)

own_flag : (flag : Bool) → is_flag flag (values.Flag flag) ≡ true
own_flag true = refl
own_flag false = refl

means_default : (l : LeftOut) (value : Value) → LeftOutMeans l (Some value) → is_default l value ≡ true
means_default left_out.Needed value means = absurd means
means_default left_out.Nothing value means = absurd cc
means_default (left_out.Flag flag) value means = rw (same_Some value (values.Flag flag) means) (own_flag flag)
means_default (left_out.Number n) value means = rw (same_Some value (values.Number n) means) (eq-eqb n n refl)

left_out_costs : (slot : Slot) (value : Option Value) (rest : List (List ℕ)) → LeftOutMeans slot.left_out value → cost (canon_operand slot value ++ rest) ≡ cost rest
left_out_costs slot None rest means = refl
left_out_costs slot (Some value) rest means = rw (means_default slot.left_out value means) refl

stands_costs : (slot : Slot) (operands : List (List ℕ)) (value : Option Value) (st : Stands slot operands value) (v : Value) → value ≡ Some v →
    length (operand_text (trimmed_text slot.key) (value_text slot.kind v)) ≤ length st.operand
stands_costs slot operands value st v is =
    let same : st.spelled ≡ v = same_Some st.spelled v (sym st.is ∙ is) in
    let short = value_text-shortest slot.kind st.spells.0 st.spelled st.spells.2 in
    rw (← same, st.spells.1) (keyed_shortest (trimmed_text slot.key) (value_text slot.kind st.spelled) st.spells.0 short)

pub canon_shortest : (slots : List Slot) (operands : List (List ℕ)) (given : List (Option Value)) → SpellsSlots slots operands given →
    cost (canon_operands slots given) ≤ cost operands
canon_shortest [] operands given s = omega arith
canon_shortest (slot ∷ slots) operands [] s = absurd s
canon_shortest (slot ∷ slots) operands (value ∷ given) (inl s) =
    let rest = canon_shortest slots operands given s.1 in
    omega (arith, rest, left_out_costs slot value (canon_operands slots given) s.0)
canon_shortest (slot ∷ slots) operands (value ∷ given) (inr s) =
    let rest = canon_shortest slots (s.0.front ++ s.0.back) given s.1 in
    let one = one_costs slot value (canon_operands slots given) (length s.0.operand) (λ v is. stands_costs slot operands value s.0 v is) in
    let whole = ap cost s.0.whole ∙ cost-seam s.0.front s.0.operand s.0.back in
    omega (arith, rest, one, whole)

-- no spelling of the operands is shorter than what is written
pub field-shortest : (slots : List Slot) (operands : List (List ℕ)) (given : List (Option Value)) → SpellsSlots slots operands given →
    length (field_of (canon_operands slots given)) ≤ length (field_of operands)
field-shortest slots operands given s =
    omega (arith, canon_shortest slots operands given s, length-separated_operands 32 (canon_operands slots given), length-separated_operands 32 operands)

-- operands in a row are joined by commas
pub separated_operands-join : (separator : ℕ) (operand : List ℕ) (operands : List (List ℕ)) →
    separated_operands separator (operand ∷ operands) ≡ separator ∷ join_with_byte 44 (operand ∷ operands)
separated_operands-join separator operand [] = ap (λ (xs : List ℕ). separator ∷ xs) (append-nil operand)
separated_operands-join separator operand (next ∷ operands) =
    ap (λ (xs : List ℕ). separator ∷ (operand ++ xs)) (separated_operands-join 44 next operands)
