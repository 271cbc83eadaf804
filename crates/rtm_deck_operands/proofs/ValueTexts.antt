-- A text is read as a value exactly where it spells that value.
use Rattle.std.proofs.Common.{◌≡◌, ℕ, zero, suc, ◌+◌, ◌-◌, ◌*◌, ◌^◌, ◌<◌, ◌≤◌, Bool, true, false, not, cond, ◌&&◌, ◌||◌, eqb, leb, ltb, List, [], ◌∷◌, ◌++◌, length, Option, Some, None, option_map, option_and_then, refl, ap, sym, subst, ◌∙◌, inl, inr, arith}
use Rattle.std.specs.Prelude.{◌⊎◌, bytes_eq}
use Rattle.std.proofs.Math.Nat.{pow-le-pow_right}
use Rattle.std.proofs.lemmas.Bool.{le-leb, eqb-true}
use Rattle.std.proofs.lemmas.Bool.Decides.{nat_tests}
use Rattle.std.proofs.lemmas.Option.{option_and_then_some, same_Some}
use Rattle.std.proofs.lemmas.Slice.Eq.{bytes_eq-Decides}
use Rattle.rtm_cards.specs.Name.{is_name}
use Rattle.rtm_codes.specs.declared.code.Code.{Code}
use Rattle.rtm_codes.specs.declared.code.Code.TheVariants.{Sys, User}
use Rattle.rtm_codes.specs.Code.{SpellsNumber, in_range, same_code}
use Rattle.rtm_codes.specs.Code.{Spells as SpellsCode}
use Rattle.rtm_codes.specs.Reading.{number_after, code_in}
use Rattle.rtm_codes.proofs.Codes.{same_code-true, same_code-refl}
use Rattle.rtm_text.proofs.DigitLaws.{number_after-spelled, number_after-Some}
use Rattle.rtm_codes.proofs.Spellings.{code_in-spelled, Spells-code_in, Spells-in_range}
use Rattle.rtm_text.proofs.DigitLaws.{SpellsNumber-lt}
use Rattle.rtm_deck_operands.specs.declared.value.Value.{Value}
use Rattle.rtm_deck_operands.specs.declared.value.Value.TheVariants as values
use Rattle.rtm_deck_operands.specs.declared.value.Three.{Three}
use Rattle.rtm_deck_operands.specs.declared.value.Three.TheVariants as answers
use Rattle.rtm_deck_operands.specs.declared.value.Res.{Res}
use Rattle.rtm_deck_operands.specs.declared.value.Res.TheVariants as classes
use Rattle.rtm_deck_operands.specs.declared.slot.Kind.{Kind}
use Rattle.rtm_deck_operands.specs.declared.slot.Kind.TheVariants as kinds
use Rattle.rtm_deck_operands.specs.Name.{padded_text, SpellsName, trimmed_text, name_in}
use Rattle.rtm_deck_operands.specs.Value.{yes_or_no, three_text, class_text, scope_text, is_return_code, is_abend_code, Spells, fits}
use Rattle.rtm_deck_operands.specs.inner.Reading.{value_if, number_in, flag_in, three_in, class_in, value_in}
use Rattle.rtm_deck_operands.proofs.Names.{is_padded-padded_text}

-- a value that passed a test
pub value_if-Some : {A : Type 0} (test : A → Bool) (x y : A) → value_if test x ≡ Some y → (test y ≡ true) × (x ≡ y)
value_if-Some {A} test x y e = go (test x) refl e
  where
    go : (t : Bool) → test x ≡ t → cond t (Some x) None ≡ Some y → (test y ≡ true) × (x ≡ y)
    go true h e = let same = same_Some x y e in (subst (λ (z : A). test z ≡ true) same h, same)
    go false h e = absurd cc

-- a value that was chosen, and not None
pub if_Some : {A : Type 0} (b : Bool) (o : Option A) (y : A) → cond b o None ≡ Some y → (b ≡ true) × (o ≡ Some y)
if_Some true o y e = (refl, e)
if_Some false o y e = absurd cc

-- what a value is the image of
pub record IsMapped {A B : Type 0} (f : A → B) (o : Option A) (y : B) : Type 0 where
  pub from : A
  pub is : o ≡ Some from
  pub to : f from ≡ y

pub option_map-Some : {A B : Type 0} (f : A → B) (o : Option A) (y : B) → option_map f o ≡ Some y → IsMapped f o y
option_map-Some f None y e = absurd cc
option_map-Some f (Some x) y e = record { from = x; is = refl; to = same_Some (f x) y e }

number_after-whole : (base n : ℕ) (digits : List ℕ) → base ≤ 16 → SpellsNumber base digits n → number_after base 0 digits ≡ Some n
number_after-whole base n digits small s = number_after-spelled base 0 n digits small s ∙ ap Some (omega arith)

whole-number_after : (base n : ℕ) (digits : List ℕ) → number_after base 0 digits ≡ Some n → SpellsNumber base digits n
whole-number_after base n digits e =
    let r = number_after-Some base 0 n digits e in
    let same : r.number ≡ n = omega (arith, r.sum) in
    subst (λ (m : ℕ). SpellsNumber base digits m) same r.spelled

-- what it takes to be a number of at most that many digits between the two
pub record IsNumber (base width least most : ℕ) (text : List ℕ) (n : ℕ) : Type 0 where
  pub some : 1 ≤ length text
  pub few : length text ≤ width
  pub digits : SpellsNumber base text n
  pub least_le : least ≤ n
  pub le_most : n ≤ most

two_le : (a b c d : ℕ) → (leb a b && leb c d) ≡ true → (a ≤ b) × (c ≤ d)
two_le a b c d e = grind (arith, nat_tests)

pub number_in-Some : (base width least most : ℕ) (text : List ℕ) (n : ℕ) → number_in base width least most text ≡ Some n → IsNumber base width least most text n
number_in-Some base width least most text n e =
    let test : ℕ → Bool = λ k. leb least k && leb k most in
    let outer = if_Some (leb 1 (length text) && leb (length text) width) (option_and_then (value_if test) (number_after base 0 text)) n e in
    let size = two_le 1 (length text) (length text) width outer.0 in
    option_and_then_some (value_if test) (number_after base 0 text) n outer.1
    (λ found is small.
    let p = value_if-Some test found n small in
    let bounds = two_le least n n most p.0 in
    record {
      some = size.0;
      few = size.1;
      digits = subst (λ (k : ℕ). SpellsNumber base text k) p.1 (whole-number_after base found text is);
      least_le = bounds.0;
      le_most = bounds.1;
    })

pub number_in-spelled : (base width least most : ℕ) (text : List ℕ) (n : ℕ) → base ≤ 16 → IsNumber base width least most text n → number_in base width least most text ≡ Some n
number_in-spelled base width least most text n small s =
    let read = number_after-whole base n text small s.digits in
    rw (le-leb 1 (length text) s.some, le-leb (length text) width s.few, read, le-leb least n s.least_le, le-leb n most s.le_most) refl

-- the first word that a text is
pub first_word : {A : Type 0} (text word : List ℕ) (a : A) (rest : Option A) (v : A) →
    cond (bytes_eq text word) (Some a) rest ≡ Some v → ((text ≡ word) × (a ≡ v)) ⊎ (rest ≡ Some v)
first_word {A} text word a rest v e = go (bytes_eq text word) refl e
  where
    go : (t : Bool) → bytes_eq text word ≡ t → cond t (Some a) rest ≡ Some v → ((text ≡ word) × (a ≡ v)) ⊎ (rest ≡ Some v)
    go true h e = let d = bytes_eq-Decides text word in inl (d.0 h, same_Some a v e)
    go false h e = inr e

pub flag_in-Some : (text_of : Bool → List ℕ) (text : List ℕ) (flag : Bool) → flag_in text_of text ≡ Some flag → text ≡ text_of flag
flag_in-Some text_of text flag e =
    elim (first_word text (text_of true) true (cond (bytes_eq text (text_of false)) (Some false) None) flag e) [
      | inl p ↦ subst (λ (b : Bool). text ≡ text_of b) p.1 p.0
      | inr f ↦ elim (first_word text (text_of false) false None flag f) [
        | inl p ↦ subst (λ (b : Bool). text ≡ text_of b) p.1 p.0
        | inr g ↦ absurd cc
      ]
    ]

pub three_in-Some : (text : List ℕ) (three : Three) → three_in text ≡ Some three → text ≡ three_text three
three_in-Some text three e =
    let third = cond (bytes_eq text (three_text answers.Ignore)) (Some answers.Ignore) None in
    let second = cond (bytes_eq text (three_text answers.No)) (Some answers.No) third in
    elim (first_word text (three_text answers.Yes) answers.Yes second three e) [
      | inl p ↦ subst (λ (a : Three). text ≡ three_text a) p.1 p.0
      | inr f ↦ elim (first_word text (three_text answers.No) answers.No third three f) [
        | inl p ↦ subst (λ (a : Three). text ≡ three_text a) p.1 p.0
        | inr g ↦ elim (first_word text (three_text answers.Ignore) answers.Ignore None three g) [
          | inl p ↦ subst (λ (a : Three). text ≡ three_text a) p.1 p.0
          | inr h ↦ absurd cc
        ]
      ]
    ]

pub class_in-Some : (text : List ℕ) (class : Res) → class_in text ≡ Some class → text ≡ class_text class
class_in-Some text class e =
    let fourth = cond (bytes_eq text (class_text classes.Timr)) (Some classes.Timr) None in
    let third = cond (bytes_eq text (class_text classes.Dsn)) (Some classes.Dsn) fourth in
    let second = cond (bytes_eq text (class_text classes.Stor)) (Some classes.Stor) third in
    elim (first_word text (class_text classes.Enq) classes.Enq second class e) [
      | inl p ↦ subst (λ (a : Res). text ≡ class_text a) p.1 p.0
      | inr f ↦ elim (first_word text (class_text classes.Stor) classes.Stor third class f) [
        | inl p ↦ subst (λ (a : Res). text ≡ class_text a) p.1 p.0
        | inr g ↦ elim (first_word text (class_text classes.Dsn) classes.Dsn fourth class g) [
          | inl p ↦ subst (λ (a : Res). text ≡ class_text a) p.1 p.0
          | inr h ↦ elim (first_word text (class_text classes.Timr) classes.Timr None class h) [
            | inl p ↦ subst (λ (a : Res). text ≡ class_text a) p.1 p.0
            | inr i ↦ absurd cc
          ]
        ]
      ]
    ]

three_in-text : (three : Three) → three_in (three_text three) ≡ Some three
three_in-text answers.Yes = refl
three_in-text answers.No = refl
three_in-text answers.Ignore = refl

class_in-text : (class : Res) → class_in (class_text class) ≡ Some class
class_in-text classes.Enq = refl
class_in-text classes.Stor = refl
class_in-text classes.Dsn = refl
class_in-text classes.Timr = refl

yes_or_no-read : (flag : Bool) → flag_in yes_or_no (yes_or_no flag) ≡ Some flag
yes_or_no-read true = refl
yes_or_no-read false = refl

scope-read : (flag : Bool) → flag_in scope_text (scope_text flag) ≡ Some flag
scope-read true = refl
scope-read false = refl

not_normal : (code : Code) → (code ≡ Sys 0 → ⊥) → same_code code (Sys 0) ≡ false
not_normal code other = go (same_code code (Sys 0)) refl
  where
    go : (t : Bool) → same_code code (Sys 0) ≡ t → t ≡ false
    go true h = absurd (other (same_code-true code (Sys 0) h))
    go false h = refl

-- a code in range that isn't S000
pub is_abend_code-spelled : (text : List ℕ) (code : Code) → SpellsCode text code → (code ≡ Sys 0 → ⊥) → is_abend_code code ≡ true
is_abend_code-spelled text code s other =
    let range = le-leb _ 4095 (Spells-in_range text code s) in
    rw (range, not_normal code other) refl

pub not_S000 : (code : Code) → is_abend_code code ≡ true → code ≡ Sys 0 → ⊥
not_S000 code e same = let f : is_abend_code (Sys 0) ≡ true = rw same at e in absurd cc

return_code_le : (n : ℕ) → is_return_code n ≡ true → n ≤ 16
return_code_le n e = grind (arith, nat_tests)

-- a number of at most eight hexadecimal digits has 32 bits
pub reason_le : (text : List ℕ) (n : ℕ) → length text ≤ 8 → SpellsNumber 16 text n → n ≤ 4294967295
reason_le text n few s =
    let below = SpellsNumber-lt 16 n text s in
    let most : 16 ^ length text ≤ 16 ^ 8 = pow-le-pow_right {n = 16} (omega arith) {i = length text} {j = 8} few in
    omega arith

-- a text that spells a value is read as that value
pub value_in-spelled : (kind : Kind) (text : List ℕ) (value : Value) → Spells kind text value → value_in kind text ≡ Some value
value_in-spelled (kinds.Word word) text values.Word s =
    let d = bytes_eq-Decides text (trimmed_text word) in rw (d.1 s) refl
value_in-spelled (kinds.Number least most) text (values.Number n) s =
    rw (number_in-spelled 10 10 least most text n (omega arith) (record { some = s.0.0; few = s.0.1; digits = s.0.2; least_le = s.1; le_most = s.2 })) refl
value_in-spelled kinds.ReturnCode text (values.Number n) s =
    let top = return_code_le n s.1 in
    let read = number_in-spelled 10 10 0 4294967295 text n (omega arith) (record { some = s.0.0; few = s.0.1; digits = s.0.2; least_le = omega arith; le_most = omega arith }) in
    rw (read, s.1) refl
value_in-spelled (kinds.Name named) text (values.Name bytes) s = rw (s.0, s.1) refl
value_in-spelled kinds.Code text (values.Code code) s = rw (code_in-spelled text code s) refl
value_in-spelled kinds.AbendCode text (values.Code code) s =
    rw (code_in-spelled text code s.0, is_abend_code-spelled text code s.0 s.1) refl
value_in-spelled kinds.Reason text (values.Reason n) s =
    let top = reason_le text n s.1 s.2 in
    rw (number_in-spelled 16 8 0 4294967295 text n (omega arith) (record { some = s.0; few = s.1; digits = s.2; least_le = omega arith; le_most = top })) refl
value_in-spelled kinds.YesNo text (values.Flag flag) s = rw (s, yes_or_no-read flag) refl
value_in-spelled kinds.YesNoIgnore text (values.Three three) s = rw (s, three_in-text three) refl
value_in-spelled kinds.Class text (values.Class class) s = rw (s, class_in-text class) refl
value_in-spelled kinds.Scope text (values.Flag space) s = rw (s, scope-read space) refl
value_in-spelled _ text _ s = absurd s

-- the images under a function, each of which spells
mapped : {A : Type 0} (f : A → Value) (o : Option A) (value : Value) (P : Value → Type 0) →
    option_map f o ≡ Some value → ((a : A) → o ≡ Some a → P (f a)) → P value
mapped f o value P e each =
    let m = option_map-Some f o value e in subst P m.to (each m.from m.is)

word_spelled : (text word : List ℕ) (value : Value) → cond (bytes_eq text word) (Some values.Word) None ≡ Some value → (text ≡ word) × (values.Word ≡ value)
word_spelled text word value e =
    elim (first_word text word values.Word None value e) [ inl p ↦ p | inr f ↦ absurd cc ]

name_spelled : (text bytes : List ℕ) → name_in text ≡ Some bytes → SpellsName text bytes
name_spelled text bytes e =
    let p = if_Some (is_name text) (Some (padded_text text)) bytes e in (p.0, sym (same_Some (padded_text text) bytes p.1))

-- what is read as a value spells it
pub Spells-value_in : (kind : Kind) (text : List ℕ) (value : Value) → value_in kind text ≡ Some value → Spells kind text value
Spells-value_in (kinds.Word word) text value e =
    let p = word_spelled text (trimmed_text word) value e in
    subst (λ (v : Value). Spells (kinds.Word word) text v) p.1 p.0
Spells-value_in (kinds.Number least most) text value e =
    mapped values.Number (number_in 10 10 least most text) value (Spells (kinds.Number least most) text) e
    (λ n is. let r = number_in-Some 10 10 least most text n is in ((r.some, r.few, r.digits), r.least_le, r.le_most))
Spells-value_in kinds.ReturnCode text value e =
    mapped values.Number (option_and_then (value_if is_return_code) (number_in 10 10 0 4294967295 text)) value (Spells kinds.ReturnCode text) e
    (λ n is. option_and_then_some (value_if is_return_code) (number_in 10 10 0 4294967295 text) n is
    (λ found there passes.
    let p = value_if-Some is_return_code found n passes in
    let r = subst (λ (k : ℕ). IsNumber 10 10 0 4294967295 text k) p.1 (number_in-Some 10 10 0 4294967295 text found there) in
    ((r.some, r.few, r.digits), p.0)))
Spells-value_in (kinds.Name named) text value e =
    mapped values.Name (name_in text) value (Spells (kinds.Name named) text) e (λ bytes is. name_spelled text bytes is)
Spells-value_in kinds.Code text value e =
    mapped values.Code (code_in text) value (Spells kinds.Code text) e (λ code is. Spells-code_in text code is)
Spells-value_in kinds.AbendCode text value e =
    mapped values.Code (option_and_then (value_if is_abend_code) (code_in text)) value (Spells kinds.AbendCode text) e
    (λ code is. option_and_then_some (value_if is_abend_code) (code_in text) code is
    (λ found there passes.
    let p = value_if-Some is_abend_code found code passes in
    let s = subst (λ (c : Code). SpellsCode text c) p.1 (Spells-code_in text found there) in
    (s, not_S000 code p.0)))
Spells-value_in kinds.Reason text value e =
    mapped values.Reason (number_in 16 8 0 4294967295 text) value (Spells kinds.Reason text) e
    (λ n is. let r = number_in-Some 16 8 0 4294967295 text n is in (r.some, r.few, r.digits))
Spells-value_in kinds.YesNo text value e =
    mapped values.Flag (flag_in yes_or_no text) value (Spells kinds.YesNo text) e (λ flag is. flag_in-Some yes_or_no text flag is)
Spells-value_in kinds.YesNoIgnore text value e =
    mapped values.Three (three_in text) value (Spells kinds.YesNoIgnore text) e (λ three is. three_in-Some text three is)
Spells-value_in kinds.Class text value e =
    mapped values.Class (class_in text) value (Spells kinds.Class text) e (λ class is. class_in-Some text class is)
Spells-value_in kinds.Scope text value e =
    mapped values.Flag (flag_in scope_text text) value (Spells kinds.Scope text) e (λ space is. flag_in-Some scope_text text space is)

-- a value that is spelled fits its kind
pub fits-spelled : (kind : Kind) (text : List ℕ) (value : Value) → Spells kind text value → fits kind value ≡ true
fits-spelled (kinds.Word word) text values.Word s = refl
fits-spelled (kinds.Number least most) text (values.Number n) s = rw (le-leb least n s.1, le-leb n most s.2) refl
fits-spelled kinds.ReturnCode text (values.Number n) s = s.1
fits-spelled (kinds.Name named) text (values.Name bytes) s = rw s.1 (is_padded-padded_text text s.0)
fits-spelled kinds.Code text (values.Code code) s = le-leb _ 4095 (Spells-in_range text code s)
fits-spelled kinds.AbendCode text (values.Code code) s = is_abend_code-spelled text code s.0 s.1
fits-spelled kinds.Reason text (values.Reason n) s = le-leb n 4294967295 (reason_le text n s.1 s.2)
fits-spelled kinds.YesNo text (values.Flag flag) s = refl
fits-spelled kinds.YesNoIgnore text (values.Three three) s = refl
fits-spelled kinds.Class text (values.Class class) s = refl
fits-spelled kinds.Scope text (values.Flag space) s = refl
fits-spelled _ text _ s = absurd s
