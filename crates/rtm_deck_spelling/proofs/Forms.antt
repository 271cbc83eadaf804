-- Of the forms of one operation at most one is spelled by some operands, with one list of values.
use Rattle.std.proofs.Common.{◌≡◌, ℕ, zero, suc, ◌+◌, ◌≤◌, Bool, true, false, not, ◌&&◌, ◌||◌, cond, eqb, List, [], ◌∷◌, ◌++◌, length, Option, Some, None, refl, ap, sym, subst, ◌∙◌, inl, inr, arith, length-append}
use Rattle.std.specs.Prelude.{bytes_eq, nat_eq, nat_lt, slice_index_or, slice_get, if◌then◌else◌}
use Rattle.std.specs.List.{list_all, AllByRecursion}
use Rattle.std.proofs.lemmas.Bool.{and_parts, or_cases, eqb-true, ltb-true, not-true}
use Rattle.std.proofs.lemmas.Slice.Eq.{bytes_eq-Decides}
use Rattle.rtm_deck_operands.specs.declared.value.Value.{Value}
use Rattle.rtm_deck_operands.specs.declared.value.Value.TheVariants as values
use Rattle.rtm_deck_operands.specs.declared.slot.Kind.{Kind}
use Rattle.rtm_deck_operands.specs.declared.slot.Kind.TheVariants as kinds
use Rattle.rtm_deck_operands.specs.declared.slot.LeftOut.{LeftOut}
use Rattle.rtm_deck_operands.specs.declared.slot.LeftOut.TheVariants as left_out
use Rattle.rtm_deck_operands.specs.declared.slot.Slot.{Slot}
use Rattle.rtm_deck_operands.specs.Name.{trimmed_text}
use Rattle.rtm_deck_operands.specs.Value.{Spells}
use Rattle.rtm_deck_operands.specs.Slot.{operand_text, LeftOutMeans, StandsBehind, SpellsSlots, is_positional, is_needed, well_made, IsWellMade}
use Rattle.rtm_deck_items.specs.declared.form.CardForm.{CardForm}
use Rattle.rtm_deck_items.specs.declared.form.CardForm.TheVariants.{Region, Prog, Pend, Task, Srb, Oper, Cancel, End, Nop, Get, Free, Link, Xctl, Return, Abend, EstaexCt, EstaexOv, EstaexZero, FrrAdd, FrrDelete, FrrReplace, FrrPurge, Attachx, AttachxEstai, Detach, Abterm, Memterm, MgrAdd, MgrDelete, Schedule, Wait, WaitTask, Post, SetRp, Ret15, Branch, IfCode, IfClup, IfPerc}
use Rattle.rtm_deck_items.specs.Forms.{all_forms, operation_of, slots_of}
use Rattle.rtm_deck_items.specs.Spelling.{SpellsOperands, SpellsForm}
use Rattle.rtm_deck_spelling.proofs.Values.{one_list_of_values}

-- the place of a form among all
abbrev number_of : CardForm → ℕ
number_of Region = 0
number_of Prog = 1
number_of Pend = 2
number_of Task = 3
number_of Srb = 4
number_of Oper = 5
number_of Cancel = 6
number_of End = 7
number_of Nop = 8
number_of Get = 9
number_of Free = 10
number_of Link = 11
number_of Xctl = 12
number_of Return = 13
number_of Abend = 14
number_of EstaexCt = 15
number_of EstaexOv = 16
number_of EstaexZero = 17
number_of FrrAdd = 18
number_of FrrDelete = 19
number_of FrrReplace = 20
number_of FrrPurge = 21
number_of Attachx = 22
number_of AttachxEstai = 23
number_of Detach = 24
number_of Abterm = 25
number_of Memterm = 26
number_of MgrAdd = 27
number_of MgrDelete = 28
number_of Schedule = 29
number_of Wait = 30
number_of WaitTask = 31
number_of Post = 32
number_of SetRp = 33
number_of Ret15 = 34
number_of Branch = 35
number_of IfCode = 36
number_of IfClup = 37
number_of IfPerc = 38

abbrev form_at : ℕ → CardForm
form_at n = slice_index_or all_forms n Region

at_its_number : (f : CardForm) → form_at (number_of f) ≡ f
at_its_number Region = refl
at_its_number _ = refl

-- what holds of each element holds of the one at a place
at_place : {X : Type 0} (P : X → Type 0) (xs : List X) (n : ℕ) (other : X) → P other → AllByRecursion P xs → P (slice_index_or xs n other)
at_place P [] n other o h = o
at_place P (x ∷ xs) zero other o h = h.0
at_place P (x ∷ xs) (suc n) other o h = at_place P xs n other o h.1

-- what holds of all forms, one after the other, holds of each
pub for_each : (P : CardForm → Type 0) → AllByRecursion P all_forms → (f : CardForm) → P f
for_each P h f = subst P (at_its_number f) (at_place P all_forms (number_of f) Region h.0 h)

pub passed : {X : Type 0} (test : X → Bool) (xs : List X) → list_all test xs ≡ true → AllByRecursion (λ x. test x ≡ true) xs
passed test [] e = tt
passed test (x ∷ xs) e = let parts = and_parts (test x) (list_all test xs) e in (parts.0, passed test xs parts.1)

-- a test that all forms pass is passed by each
pub for_each_test : (test : CardForm → Bool) → list_all test all_forms ≡ true → (f : CardForm) → test f ≡ true
for_each_test test e f = for_each (λ f. test f ≡ true) (passed test all_forms e) f

same_number : (f g : CardForm) → number_of f ≡ number_of g → f ≡ g
same_number f g e = sym (at_its_number f) ∙ (ap form_at e ∙ at_its_number g)

-- how many operands can't be left out
abbrev least_operands : List Slot → ℕ
least_operands [] = 0
least_operands (slot ∷ slots) = if is_needed slot.left_out then suc (least_operands slots) else least_operands slots

abbrev word_of : Kind → Option (List ℕ)
word_of (kinds.Word word) = Some (trimmed_text word)
word_of _ = None

-- the fixed word that stands as the first operand
abbrev first_word : List Slot → Option (List ℕ)
first_word [] = None
first_word (slot ∷ slots) = if is_positional slot && is_needed slot.left_out then word_of slot.kind else None

abbrev words_differ : Option (List ℕ) → Option (List ℕ) → Bool
words_differ (Some a) (Some b) = not (bytes_eq a b)
words_differ _ _ = false

-- no operands are spelled by both tables: their first words differ, or one needs more operands than the other has
abbrev exclude : List Slot → List Slot → Bool
exclude [] _ = false
exclude (a ∷ more) [] = false
exclude (a ∷ more) (b ∷ others) =
    words_differ (first_word (a ∷ more)) (first_word (b ∷ others))
    || (nat_lt (length (a ∷ more)) (least_operands (b ∷ others)) || nat_lt (length (b ∷ others)) (least_operands (a ∷ more)))

-- two forms that are one, or of two operations, or whose tables exclude each other
abbrev part_ways : CardForm → CardForm → Bool
part_ways f g =
    not (bytes_eq (operation_of f) (operation_of g))
    || (nat_eq (number_of f) (number_of g) || exclude (slots_of f) (slots_of g))

pub all_part_ways : list_all (λ f. list_all (part_ways f) all_forms) all_forms ≡ true
all_part_ways = refl

pub any_part_ways : (f g : CardForm) → part_ways f g ≡ true
any_part_ways f g = for_each_test (part_ways f) (for_each_test (λ f. list_all (part_ways f) all_forms) all_part_ways f) g

-- each table can be read
pub form_is_well_made : (f : CardForm) → IsWellMade (slots_of f)
form_is_well_made f = for_each_test (λ f. well_made (slots_of f)) refl f

not_left_out : (l : LeftOut) (value : Option Value) → is_needed l ≡ true → LeftOutMeans l value → ⊥
not_left_out left_out.Needed value e h = h
not_left_out left_out.Nothing value e h = absurd cc
not_left_out (left_out.Flag flag) value e h = absurd cc
not_left_out (left_out.Number n) value e h = absurd cc

-- how many operands stand there
pub record IsCounted (slots : List Slot) (operands : List (List ℕ)) : Type 0 where
  pub least : least_operands slots ≤ length operands
  pub most : length operands ≤ length slots

one_out : (slot : Slot) (slots : List Slot) (operands : List (List ℕ)) (value : Option Value) → LeftOutMeans slot.left_out value → IsCounted slots operands → IsCounted (slot ∷ slots) operands
one_out slot slots operands value h counted = record { least = go (is_needed slot.left_out) refl; most = omega (arith, counted.most) }
  where
    go : (t : Bool) → is_needed slot.left_out ≡ t → cond t (suc (least_operands slots)) (least_operands slots) ≤ length operands
    go true e = absurd (not_left_out slot.left_out value e h)
    go false e = counted.least

one_more : (slot : Slot) (slots : List Slot) (operands front back : List (List ℕ)) (operand : List ℕ) → operands ≡ front ++ operand ∷ back → IsCounted slots (front ++ back) → IsCounted (slot ∷ slots) operands
one_more slot slots operands front back operand whole counted =
    let all : length operands ≡ length front + suc (length back) = ap length whole ∙ length-append front (operand ∷ back) in
    let left : length (front ++ back) ≡ length front + length back = length-append front back in
    let least = counted.least in
    let most = counted.most in
    record { least = go (is_needed slot.left_out) all left least; most = omega arith }
  where
    go : (t : Bool) → length operands ≡ length front + suc (length back) → length (front ++ back) ≡ length front + length back
        → least_operands slots ≤ length (front ++ back) → cond t (suc (least_operands slots)) (least_operands slots) ≤ length operands
    go true all left least = omega arith
    go false all left least = omega arith

pub counted : (slots : List Slot) (operands : List (List ℕ)) (vs : List (Option Value)) → SpellsSlots slots operands vs → IsCounted slots operands
counted [] operands [] h = rw h (record { least = omega arith; most = omega arith })
counted [] operands (v ∷ vs) h = absurd h
counted (slot ∷ slots) operands [] h = absurd h
counted (slot ∷ slots) operands (v ∷ vs) (inl h) = one_out slot slots operands v h.0 (counted slots operands vs h.1)
counted (slot ∷ slots) operands (v ∷ vs) (inr h) =
    one_more slot slots operands h.0.front h.0.back h.0.operand h.0.whole (counted slots (h.0.front ++ h.0.back) vs h.1)

word_spelled : (kind : Kind) (text : List ℕ) (value : Value) (word : List ℕ) → word_of kind ≡ Some word → Spells kind text value → text ≡ word
word_spelled (kinds.Word word) text values.Word w e h = h ∙ (let same : Some (trimmed_text word) ≡ Some w = e in cc)
word_spelled (kinds.Word word) text _ w e h = absurd h
word_spelled _ text value w e h = absurd cc

positional_key : (key : List ℕ) → eqb (length key) 0 ≡ true → key ≡ []
positional_key [] e = refl
positional_key (k ∷ ks) e = absurd (let f : suc (length ks) ≡ 0 = eqb-true (suc (length ks)) 0 e in omega arith)

stands_first : (key operand text : List ℕ) (operands front back : List (List ℕ)) → key ≡ [] → operands ≡ front ++ operand ∷ back → StandsBehind key front
    → operand ≡ operand_text key text → slice_get operands 0 ≡ Some text
stands_first [] operand text operands front back e whole place is =
    ap (λ (os : List (List ℕ)). slice_get os 0) (whole ∙ ap (λ (f : List (List ℕ)). f ++ operand ∷ back) place) ∙ ap Some is
stands_first (k ∷ ks) operand text operands front back e whole place is = absurd cc

first_word_stands : (slots : List Slot) (operands : List (List ℕ)) (vs : List (Option Value)) (word : List ℕ)
    → first_word slots ≡ Some word → SpellsSlots slots operands vs → slice_get operands 0 ≡ Some word
first_word_stands [] operands vs word e h = absurd cc
first_word_stands (slot ∷ slots) operands [] word e h = absurd h
first_word_stands (slot ∷ slots) operands (v ∷ vs) word e h = go (is_positional slot) (is_needed slot.left_out) refl refl e h
  where
    go : (p n : Bool) → is_positional slot ≡ p → is_needed slot.left_out ≡ n → cond (p && n) (word_of slot.kind) None ≡ Some word
        → SpellsSlots (slot ∷ slots) operands (v ∷ vs) → slice_get operands 0 ≡ Some word
    go false n p-is n-is e h = absurd cc
    go true false p-is n-is e h = absurd cc
    go true true p-is n-is e (inl h) = absurd (not_left_out slot.left_out v n-is h.0)
    go true true p-is n-is e (inr h) =
        stands_first (trimmed_text slot.key) h.0.operand h.0.spells.0 operands h.0.front h.0.back (positional_key (trimmed_text slot.key) p-is) h.0.whole h.0.place h.0.spells.1
        ∙ ap Some (word_spelled slot.kind h.0.spells.0 h.0.spelled word e h.0.spells.2)

two_words : (a b : Option (List ℕ)) (head : Option (List ℕ)) → words_differ a b ≡ true → ((w : List ℕ) → a ≡ Some w → head ≡ Some w) → ((w : List ℕ) → b ≡ Some w → head ≡ Some w) → ⊥
two_words (Some a) (Some b) head e f g =
    let fa : head ≡ Some a = f a refl in
    let gb : head ≡ Some b = g b refl in
    let same : a ≡ b = cc in
    let eq : bytes_eq a b ≡ true = (bytes_eq-Decides a b).1 same in
    let ne : bytes_eq a b ≡ false = not-true (bytes_eq a b) e in
    absurd cc
two_words (Some a) None head e f g = absurd cc
two_words None b head e f g = absurd cc

-- no operands are spelled by two tables that exclude each other
pub excluded : (first second : List Slot) (operands : List (List ℕ)) (vs ws : List (Option Value)) → exclude first second ≡ true → SpellsOperands first operands vs → SpellsOperands second operands ws → ⊥
excluded [] second operands vs ws e f g = absurd cc
excluded (a ∷ more) [] operands vs ws e f g = absurd cc
excluded (a ∷ more) (b ∷ others) operands vs ws e f g =
    let m = counted (a ∷ more) operands vs f in
    let n = counted (b ∷ others) operands ws g in
    elim (or_cases (words_differ (first_word (a ∷ more)) (first_word (b ∷ others))) _ e) [
      | inl words ↦ two_words (first_word (a ∷ more)) (first_word (b ∷ others)) (slice_get operands 0) words
          (λ w. λ is. first_word_stands (a ∷ more) operands vs w is f) (λ w. λ is. first_word_stands (b ∷ others) operands ws w is g)
      | inr counts ↦ elim (or_cases (nat_lt (length (a ∷ more)) (least_operands (b ∷ others))) _ counts) [
        | inl few ↦ let less = ltb-true (length (a ∷ more)) (least_operands (b ∷ others)) few in omega (arith, less, m.most, n.least)
        | inr few ↦ let less = ltb-true (length (b ∷ others)) (least_operands (a ∷ more)) few in omega (arith, less, n.most, m.least)
      ]
    ]

-- the operands are spelled by one form of an operation
pub one_form : (f g : CardForm) (operands : List (List ℕ)) (vs ws : List (Option Value))
    → SpellsForm f operands vs → SpellsForm g operands ws → operation_of f ≡ operation_of g → f ≡ g
one_form f g operands vs ws p q same = elim (or_cases (not (bytes_eq (operation_of f) (operation_of g))) _ (any_part_ways f g)) [
  | inl other ↦ absurd (
      let eq : bytes_eq (operation_of f) (operation_of g) ≡ true = (bytes_eq-Decides (operation_of f) (operation_of g)).1 same in
      let ne : bytes_eq (operation_of f) (operation_of g) ≡ false = not-true _ other in
      cc
      )
  | inr rest ↦ elim (or_cases (nat_eq (number_of f) (number_of g)) _ rest) [
    | inl number ↦ same_number f g (eqb-true (number_of f) (number_of g) number)
    | inr apart ↦ absurd (excluded (slots_of f) (slots_of g) operands vs ws apart p.spelled q.spelled)
  ]
]

one_list : (slots : List Slot) (operands : List (List ℕ)) (vs ws : List (Option Value)) → IsWellMade slots → SpellsOperands slots operands vs → SpellsOperands slots operands ws → vs ≡ ws
one_list [] operands vs ws made p q = p ∙ sym q
one_list (slot ∷ slots) operands vs ws made p q = one_list_of_values (slot ∷ slots) operands vs ws made p q

-- ... with one list of values
pub one_form_values : (f : CardForm) (operands : List (List ℕ)) (vs ws : List (Option Value)) → SpellsForm f operands vs → SpellsForm f operands ws → vs ≡ ws
one_form_values f operands vs ws p q = one_list (slots_of f) operands vs ws (form_is_well_made f) p.spelled q.spelled

pub one_values : (f g : CardForm) (operands : List (List ℕ)) (vs ws : List (Option Value))
    → SpellsForm f operands vs → SpellsForm g operands ws → operation_of f ≡ operation_of g → vs ≡ ws
one_values f g operands vs ws p q same =
    one_form_values f operands vs ws p (subst (λ (h : CardForm). SpellsForm h operands ws) (sym (one_form f g operands vs ws p q same)) q)
