-- Operands are read as values exactly where they spell those values.
use Rattle.std.proofs.Common.{◌≡◌, ℕ, zero, suc, ◌+◌, ◌-◌, ◌<◌, ◌≤◌, Bool, true, false, not, cond, ◌&&◌, eqb, leb, List, [], ◌∷◌, ◌++◌, length, take, drop, get_or, Option, Some, None, option_map, option_and_then, is_some, refl, ap, sym, subst, ◌∙◌, inl, inr, arith}
use Rattle.std.specs.Prelude.{◌⊎◌, bytes_eq}
use Rattle.std.specs.List.{AllByRecursion, list_all, position_from, remove}
use Rattle.std.proofs.Math.Seq.{drop-append_seam, take-append_seam}
use Rattle.std.proofs.lemmas.Bool.{eqb-true, and_parts}
use Rattle.std.proofs.lemmas.Option.{option_and_then_some, same_Some}
use Rattle.std.proofs.lemmas.Slice.Eq.{bytes_eq-Decides}
use Rattle.std.proofs.lemmas.List.{take-append-drop}
use Rattle.rtm_deck_operands.specs.Name.{trimmed_text}
use Rattle.rtm_deck_operands.specs.declared.value.Value.{Value}
use Rattle.rtm_deck_operands.specs.declared.value.Value.TheVariants as values
use Rattle.rtm_deck_operands.specs.declared.slot.LeftOut.{LeftOut}
use Rattle.rtm_deck_operands.specs.declared.slot.LeftOut.TheVariants as left_out
use Rattle.rtm_deck_operands.specs.declared.slot.Slot.{Slot}
use Rattle.rtm_deck_operands.specs.Value.{Spells}
use Rattle.rtm_deck_operands.specs.Slot.{equals, operand_text, SpellsOperand, LeftOutMeans, StandsBehind, Stands, SpellsSlots, is_key_byte, is_operand_byte, is_positional, is_needed, slot_is_well_made, has_other_key, slots_are_in_order, kind_is_well_made, default_fits}
use Rattle.rtm_deck_operands.specs.inner.Reading.{value_in, behind_equals, behind_key, has_key, written_in, place_of, meaning_of, operand_in, Taken, taken_value, take_at, take_operand, read_slots}
use Rattle.rtm_deck_operands.proofs.ValueTexts.{value_in-spelled, Spells-value_in, if_Some, option_map-Some}

-- What stands behind a key.

behind_equals-Some : (operand text : List ℕ) → behind_equals operand ≡ Some text → operand ≡ 61 ∷ text
behind_equals-Some [] text e = absurd cc
behind_equals-Some (b ∷ bs) text e =
    let p = if_Some (eqb b 61) (Some bs) text e in
    rw (eqb-true b 61 p.0, same_Some bs text p.1) refl

pub behind_key-Some : (key operand text : List ℕ) → behind_key key operand ≡ Some text → operand ≡ key ++ 61 ∷ text
behind_key-Some key operand text e =
    let n = length key in
    let p = if_Some (bytes_eq (take n operand) key) (behind_equals (drop n operand)) text e in
    let d = bytes_eq-Decides (take n operand) key in
    let front : take n operand ≡ key = d.0 p.0 in
    let back = behind_equals-Some (drop n operand) text p.1 in
    sym (take-append-drop n operand) ∙ (ap (λ xs. xs ++ drop n operand) front ∙ ap (λ xs. key ++ xs) back)

pub behind_key-there : (key text : List ℕ) → behind_key key (key ++ 61 ∷ text) ≡ Some text
behind_key-there key text =
    let d = bytes_eq-Decides key key in
    rw (take-append_seam key (61 ∷ text), drop-append_seam key (61 ∷ text), d.1 refl) refl

pub written_in-Some : (key operand text : List ℕ) → written_in key operand ≡ Some text → operand ≡ operand_text key text
written_in-Some [] operand text e = same_Some operand text e
written_in-Some (k ∷ ks) operand text e = behind_key-Some (k ∷ ks) operand text e

pub written_in-there : (key text : List ℕ) → written_in key (operand_text key text) ≡ Some text
written_in-there [] text = refl
written_in-there (k ∷ ks) text = behind_key-there (k ∷ ks) text

pub operand_in-Some : (slot : Slot) (operand : List ℕ) (value : Value) → operand_in slot operand ≡ Some value → SpellsOperand slot operand value
operand_in-Some slot operand value e =
    option_and_then_some (value_in slot.kind) (written_in (trimmed_text slot.key) operand) value e
    (λ text is reads. (text, written_in-Some (trimmed_text slot.key) operand text is, Spells-value_in slot.kind text value reads))

pub operand_in-spelled : (slot : Slot) (operand : List ℕ) (value : Value) → SpellsOperand slot operand value → operand_in slot operand ≡ Some value
operand_in-spelled slot operand value s =
    let there : written_in (trimmed_text slot.key) operand ≡ Some s.0 = rw s.1 (written_in-there (trimmed_text slot.key) s.0) in
    rw there (value_in-spelled slot.kind s.0 value s.2)

-- Keys that differ are told apart.

lacks_equals : (k : ℕ) → is_key_byte k ≡ true → k ≡ 61 → ⊥
lacks_equals k e h = let f : is_key_byte 61 ≡ true = rw h at e in absurd cc

same_head : (a b : ℕ) (xs ys : List ℕ) → a ∷ xs ≡ b ∷ ys → (a ≡ b) × (xs ≡ ys)
same_head a b xs ys e = (cc, cc)

same_key : (key other : List ℕ) (text more : List ℕ) → list_all is_key_byte key ≡ true → list_all is_key_byte other ≡ true →
    key ++ 61 ∷ text ≡ other ++ 61 ∷ more → key ≡ other
same_key [] [] text more ek eo e = refl
same_key [] (o ∷ os) text more ek eo e =
    let h = same_head 61 o text (os ++ 61 ∷ more) e in
    absurd (lacks_equals o (and_parts (is_key_byte o) (list_all is_key_byte os) eo).0 (sym h.0))
same_key (k ∷ ks) [] text more ek eo e =
    let h = same_head k 61 (ks ++ 61 ∷ text) more e in
    absurd (lacks_equals k (and_parts (is_key_byte k) (list_all is_key_byte ks) ek).0 h.0)
same_key (k ∷ ks) (o ∷ os) text more ek eo e =
    let h = same_head k o (ks ++ 61 ∷ text) (os ++ 61 ∷ more) e in
    let rest = same_key ks os text more (and_parts (is_key_byte k) (list_all is_key_byte ks) ek).1 (and_parts (is_key_byte o) (list_all is_key_byte os) eo).1 h.1 in
    rw (h.0, rest) refl

-- an operand of another key lacks the key
pub other_lacks : (key other text : List ℕ) → list_all is_key_byte key ≡ true → list_all is_key_byte other ≡ true → (other ≡ key → ⊥) →
    has_key key (other ++ 61 ∷ text) ≡ false
other_lacks key other text ek eo differ = go (behind_key key (other ++ 61 ∷ text)) refl
  where
    go : (o : Option (List ℕ)) → behind_key key (other ++ 61 ∷ text) ≡ o → is_some o ≡ false
    go None h = refl
    go (Some more) h = absurd (differ (same_key other key text more eo ek (behind_key-Some key (other ++ 61 ∷ text) more h)))

-- where a positional slot's operand stands, and that of a keyword

pub place_of-positional : (key operand : List ℕ) (operands : List (List ℕ)) → eqb (length key) 0 ≡ true → place_of key (operand ∷ operands) ≡ Some 0
place_of-positional [] operand operands e = refl
place_of-positional (k ∷ ks) operand operands e = absurd (omega (arith, eqb-true (suc (length ks)) 0 e))

pub stands_first : (key : List ℕ) (front : List (List ℕ)) → eqb (length key) 0 ≡ true → StandsBehind key front → front ≡ []
stands_first [] front e s = s
stands_first (k ∷ ks) front e s = absurd (omega (arith, eqb-true (suc (length ks)) 0 e))

pub operand_text-keyword : (key text : List ℕ) → eqb (length key) 0 ≡ false → operand_text key text ≡ key ++ 61 ∷ text
operand_text-keyword [] text e = absurd cc
operand_text-keyword (k ∷ ks) text e = refl

pub place_of-keyword : (key : List ℕ) (operands : List (List ℕ)) → eqb (length key) 0 ≡ false → place_of key operands ≡ position_from (has_key key) 0 operands
place_of-keyword [] operands e = absurd cc
place_of-keyword (k ∷ ks) operands e = refl

-- None of the operands has the key.
abbrev pub Lack : List ℕ → List (List ℕ) → Type 0
Lack key operands = AllByRecursion (λ operand. has_key key operand ≡ false) operands

pub position-none : (key : List ℕ) (operands : List (List ℕ)) (i : ℕ) → Lack key operands → position_from (has_key key) i operands ≡ None
position-none key [] i all = refl
position-none key (operand ∷ operands) i all = rw all.0 (position-none key operands (i + 1) all.1)

pub position-there : (key operand : List ℕ) (front back : List (List ℕ)) (i : ℕ) → Lack key (front ++ back) → has_key key operand ≡ true →
    position_from (has_key key) i (front ++ operand ∷ back) ≡ Some (i + length front)
position-there key operand [] back i all e = rw e (ap Some (omega arith))
position-there key operand (first ∷ front) back i all e =
    rw all.0 (position-there key operand front back (i + 1) all.1 e ∙ ap Some (omega arith))

pub lack_more : (key operand : List ℕ) (front back : List (List ℕ)) → Lack key (front ++ back) → has_key key operand ≡ false → Lack key (front ++ operand ∷ back)
lack_more key operand [] back all e = (e, all)
lack_more key operand (first ∷ front) back all e = (all.0, lack_more key operand front back all.1 e)

pub get_seam : (operand : List ℕ) (front back : List (List ℕ)) → get_or (front ++ operand ∷ back) (length front) [] ≡ operand
get_seam operand [] back = refl
get_seam operand (first ∷ front) back = get_seam operand front back

pub remove_seam : (operand : List ℕ) (front back : List (List ℕ)) → remove (front ++ operand ∷ back) (length front) ≡ front ++ back
remove_seam operand [] back = refl
remove_seam operand (first ∷ front) back = ap (λ xs. first ∷ xs) (remove_seam operand front back)
