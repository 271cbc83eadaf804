-- A name and its padding.
use Rattle.std.proofs.Common.{◌≡◌, ℕ, zero, suc, ◌+◌, ◌-◌, ◌<◌, ◌≤◌, Bool, true, false, cond, ◌&&◌, eqb, leb, ltb, List, [], ◌∷◌, ◌++◌, length, take, drop, refl, ap, sym, subst, ◌∙◌, length-append, arith}
use Rattle.std.specs.Prelude.{replicate}
use Rattle.std.specs.List.{list_all, prefix_len}
use Rattle.std.proofs.Math.Seq.{drop-append_seam}
use Rattle.std.proofs.lemmas.List.Sums.{take_while-cons}
use Rattle.std.proofs.lemmas.Bool.{ne_eqb, eqb-true, and_parts}
use Rattle.std.proofs.lemmas.Bool.Decides.{nat_tests}
use Rattle.std.proofs.lemmas.List.{length-replicate, length-take, take_min, take-append-drop}
use Rattle.rtm_cards.specs.Name.{is_letter, is_name_byte, is_name}
use Rattle.rtm_deck_operands.specs.Name.{padded_text, trimmed_text, is_padded_name}

trimmed_text-cons : (b : ℕ) (bs : List ℕ) → trimmed_text (b ∷ bs) ≡ cond (cond (eqb b 32) false true) (b ∷ trimmed_text bs) []
trimmed_text-cons b bs = take_while-cons (λ x. cond (eqb x 32) false true) b bs

trimmed_text-byte : (b : ℕ) (bs : List ℕ) → (b ≡ 32 → ⊥) → trimmed_text (b ∷ bs) ≡ b ∷ trimmed_text bs
trimmed_text-byte b bs other = rw (trimmed_text-cons b bs) (rw (ne_eqb b 32 other) refl)

trimmed_text-blanks : (k : ℕ) → trimmed_text (replicate k 32) ≡ []
trimmed_text-blanks zero = refl
trimmed_text-blanks (suc k) = trimmed_text-cons 32 (replicate k 32)

name_byte_stands : (b : ℕ) → is_name_byte b ≡ true → b ≡ 32 → ⊥
name_byte_stands b e h = let f : is_name_byte 32 ≡ true = rw h at e in absurd cc

letter_stands : (b : ℕ) → is_letter b ≡ true → b ≡ 32 → ⊥
letter_stands b e h = let f : is_letter 32 ≡ true = rw h at e in absurd cc

trimmed_text-text : (text : List ℕ) (k : ℕ) → list_all is_name_byte text ≡ true → trimmed_text (text ++ replicate k 32) ≡ text
trimmed_text-text [] k e = trimmed_text-blanks k
trimmed_text-text (b ∷ bs) k e =
    let parts = and_parts (is_name_byte b) (list_all is_name_byte bs) e in
    trimmed_text-byte b (bs ++ replicate k 32) (name_byte_stands b parts.0) ∙ ap (λ xs. b ∷ xs) (trimmed_text-text bs k parts.1)

-- what a name is made of
pub record NameParts (b : ℕ) (bs : List ℕ) : Type 0 where
  pub letter : is_letter b ≡ true
  pub short : length bs < 8
  pub bytes : list_all is_name_byte bs ≡ true

pub name_parts : (b : ℕ) (bs : List ℕ) → is_name (b ∷ bs) ≡ true → NameParts b bs
name_parts b bs e =
    let outer = and_parts (is_letter b && ltb (length bs) 8) (list_all is_name_byte bs) e in
    let inner = and_parts (is_letter b) (ltb (length bs) 8) outer.0 in
    let few = inner.1 in
    record { letter = inner.0; short = grind (arith, nat_tests); bytes = outer.1 }

-- the name without the blanks behind it
pub trimmed_text-padded_text : (text : List ℕ) → is_name text ≡ true → trimmed_text (padded_text text) ≡ text
trimmed_text-padded_text [] e = absurd cc
trimmed_text-padded_text (b ∷ bs) e =
    let p = name_parts b bs e in
    trimmed_text-byte b (bs ++ replicate (8 - suc (length bs)) 32) (letter_stands b p.letter)
    ∙ ap (λ xs. b ∷ xs) (trimmed_text-text bs (8 - suc (length bs)) p.bytes)

pub length-name : (text : List ℕ) → is_name text ≡ true → (1 ≤ length text) × (length text ≤ 8)
length-name [] e = absurd cc
length-name (b ∷ bs) e = let p = name_parts b bs e in let short = p.short in (omega arith, omega arith)

all_blanks : (k : ℕ) → list_all (λ b. eqb b 32) (replicate k 32) ≡ true
all_blanks zero = refl
all_blanks (suc k) = all_blanks k

-- a name with its padding is a padded name
pub is_padded-padded_text : (text : List ℕ) → is_name text ≡ true → is_padded_name (padded_text text) ≡ true
is_padded-padded_text text e =
    let few = length-name text e in
    let size : length (padded_text text) ≡ 8 =
    length-append text (replicate (8 - length text) 32) ∙ rw (length-replicate {A = ℕ} (8 - length text) 32) (omega (arith, few.1)) in
    rw (size, trimmed_text-padded_text text e, e, drop-append_seam text (replicate (8 - length text) 32)) (all_blanks (8 - length text))

take-trimmed_text : (bytes : List ℕ) → take (length (trimmed_text bytes)) bytes ≡ trimmed_text bytes
take-trimmed_text bytes =
    let n = prefix_len (λ b. cond (eqb b 32) false true) bytes in
    ap (λ k. take k bytes) (length-take n bytes) ∙ take_min n bytes

blanks_are : (xs : List ℕ) → list_all (λ b. eqb b 32) xs ≡ true → xs ≡ replicate (length xs) 32
blanks_are [] e = refl
blanks_are (x ∷ xs) e =
    let p = and_parts (eqb x 32) (list_all (λ b. eqb b 32) xs) e in
    rw (eqb-true x 32 p.0) (ap (λ ys. 32 ∷ ys) (blanks_are xs p.1))

-- a padded name is its name with the padding
pub record PaddedParts (bytes : List ℕ) : Type 0 where
  pub name : is_name (trimmed_text bytes) ≡ true
  pub whole : bytes ≡ padded_text (trimmed_text bytes)

pub padded_parts : (bytes : List ℕ) → is_padded_name bytes ≡ true → PaddedParts bytes
padded_parts bytes e =
    let name = trimmed_text bytes in
    let rest = drop (length name) bytes in
    let outer = and_parts (eqb (length bytes) 8 && is_name name) (list_all (λ b. eqb b 32) rest) e in
    let inner = and_parts (eqb (length bytes) 8) (is_name name) outer.0 in
    let size : length bytes ≡ 8 = eqb-true (length bytes) 8 inner.0 in
    let split : name ++ rest ≡ bytes = ap (λ xs. xs ++ rest) (sym (take-trimmed_text bytes)) ∙ take-append-drop (length name) bytes in
    let len : length name + length rest ≡ 8 = sym (length-append name rest) ∙ (ap length split ∙ size) in
    let many : length rest ≡ 8 - length name = omega arith in
    record {
      name = inner.1;
      whole = sym split ∙ ap (λ xs. name ++ xs) (blanks_are rest outer.1 ∙ ap (λ k. replicate k 32) many);
    }
