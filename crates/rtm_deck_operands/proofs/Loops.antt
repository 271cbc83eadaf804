-- What the loops of this crate keep.
use Rattle.std.proofs.Common.{◌≡◌, ℕ, zero, suc, ◌+◌, ◌-◌, ◌*◌, ◌^◌, ◌<◌, ◌≤◌, Bool, true, false, cond, List, [], ◌∷◌, ◌++◌, length, get_or, take, drop, map, Option, Some, None, refl, ap, sym, subst, ◌∙◌, add-one, append_assoc, drop-cons, arith}
use Rattle.std.specs.Prelude.{replicate}
use Rattle.std.specs.Prelude.{option_map}
use Rattle.std.specs.List.{AllByRecursion, position_from, remove}
use Rattle.std.proofs.Math.ListN.{set}
use Rattle.std.proofs.Math.Nat.{pow-le-pow_right}
use Rattle.std.proofs.Math.Seq.{take-suc, set-append_seam}
use Rattle.std.proofs.lemmas.List.{length-map, length-take-le, get_or-map, take-map, drop-map, map-append, drop_all}
use Rattle.rtm_cards.specs.declared.span.Span.{Span}
use Rattle.rtm_cards.specs.Span.{text_of, IsWithin}
use Rattle.rtm_deck_operands.specs.Name.{trimmed_text}
use Rattle.rtm_deck_operands.specs.declared.part.Part.{Part}
use Rattle.rtm_deck_operands.specs.declared.slot.Slot.{Slot}
use Rattle.rtm_deck_operands.specs.declared.value.Value.{Value}
use Rattle.rtm_deck_operands.specs.inner.Part.{span_of, part_texts, AreWithin}
use Rattle.rtm_deck_operands.specs.inner.Reading.{taken_value, operand_in, place_of, take_operand}

-- what holds of each element holds of the one at an index
pub all_at : {X : Type 0} (P : X → Type 0) (xs : List X) (i : ℕ) (d : X) → AllByRecursion P xs → i < length xs → P (get_or xs i d)
all_at P [] i d all h = absurd (omega arith)
all_at P (x ∷ xs) zero d all h = all.0
all_at P (x ∷ xs) (suc i) d all h = all_at P xs i d all.1 (omega arith)

-- one more byte in front of the blanks
pub padded_more : (name : List ℕ) (i k : ℕ) → i < length name →
    set (take i name ++ replicate (suc k) 32) i (get_or name i 0) ≡ take (suc i) name ++ replicate k 32
padded_more name i k h =
    let len : length (take i name) ≡ i = length-take-le i name (omega arith) in
    let seam = set-append_seam (take i name) 32 (replicate k 32) (get_or name i 0) in
    rw (take-suc name i 0 h) (rw (append_assoc (take i name) (get_or name i 0 ∷ []) (replicate k 32)) (rw len at seam))

-- the first that passes, from an index on: the element there, or the first behind it
pub position_next : {X : Type 0} (f : X → List ℕ) (p : List ℕ → Bool) (xs : List X) (i : ℕ) (d : X) → i < length xs →
    position_from p i (drop i (map f xs)) ≡ cond (p (f (get_or xs i d))) (Some i) (position_from p (i + 1) (drop (i + 1) (map f xs)))
position_next f p xs i d h =
    let there : i < length (map f xs) = omega (arith, length-map xs f) in
    rw (drop-cons (map f xs) i (f d) there) (rw (get_or-map f xs i d (f d) h) (rw (add-one i) refl))

pub position_found : {X : Type 0} (f : X → List ℕ) (p : List ℕ → Bool) (xs : List X) (i : ℕ) (d : X) → i < length xs →
    p (f (get_or xs i d)) ≡ true → position_from p i (drop i (map f xs)) ≡ Some i
position_found f p xs i d h e = position_next f p xs i d h ∙ rw e refl

pub position_missed : {X : Type 0} (f : X → List ℕ) (p : List ℕ → Bool) (xs : List X) (i : ℕ) (d : X) → i < length xs →
    p (f (get_or xs i d)) ≡ false → position_from p i (drop i (map f xs)) ≡ position_from p (i + 1) (drop (i + 1) (map f xs))
position_missed f p xs i d h e = position_next f p xs i d h ∙ rw e refl

-- behind the last one there is none
pub position_end : {X : Type 0} (f : X → List ℕ) (p : List ℕ → Bool) (xs : List X) (i : ℕ) → length xs ≤ i →
    position_from p i (drop i (map f xs)) ≡ None
position_end f p xs i h =
    let few : length (map f xs) ≤ i = omega (arith, length-map xs f) in
    rw (drop_all i (map f xs) few) refl

-- where an element is taken out, its text is taken out
pub remove-map : {X : Type 0} (f : X → List ℕ) (xs : List X) (i : ℕ) → map f (remove xs i) ≡ remove (map f xs) i
remove-map f xs i =
    map-append f (take i xs) (drop (suc i) xs)
    ∙ (ap (λ ys. ys ++ map f (drop (suc i) xs)) (sym (take-map f i xs)) ∙ ap (λ ys. take i (map f xs) ++ ys) (sym (drop-map f (suc i) xs)))

same_given : (rest : List (List ℕ)) (r : Option Value) →
    option_map (taken_value rest) (option_map Some r) ≡ option_map (λ value. taken_value rest (Some value)) r
same_given rest None = refl
same_given rest (Some value) = refl

-- a slot's operand that was found is taken out, and its value given
pub taken_there : (slot : Slot) (bytes : List ℕ) (old new : List Part) (operand : Part) (text : List ℕ) (i : ℕ) (r : Option Value) →
    (result : Option (Option Value)) → i < length old → operand ≡ get_or old i operand → new ≡ remove old i →
    text ≡ text_of bytes (span_of operand) → r ≡ operand_in slot text → result ≡ option_map Some r →
    Some i ≡ place_of (trimmed_text slot.key) (part_texts bytes old) →
    option_map (taken_value (part_texts bytes new)) result ≡ take_operand slot (part_texts bytes old)
taken_there slot bytes old new operand text i r result there is_operand is_new is_text is_r is_result place =
    let f : Part → List ℕ = λ part. text_of bytes (span_of part) in
    let at : get_or (map f old) i [] ≡ f (get_or old i operand) = get_or-map f old i operand [] there in
    let same : text ≡ get_or (map f old) i [] = is_text ∙ (ap f is_operand ∙ sym at) in
    let rest : part_texts bytes new ≡ remove (part_texts bytes old) i = ap (part_texts bytes) is_new ∙ remove-map f old i in
    let value : r ≡ operand_in slot (get_or (map f old) i []) = is_r ∙ ap (operand_in slot) same in
    rw (is_result, rest, ← place, value) (same_given (remove (part_texts bytes old) i) (operand_in slot (get_or (map f old) i [])))

-- what holds of each element holds of those that are left
pub all_left : {X : Type 0} (P : X → Type 0) (xs : List X) (i : ℕ) → AllByRecursion P xs → AllByRecursion P (remove xs i)
all_left P [] zero all = tt
all_left P [] (suc i) all = tt
all_left P (x ∷ xs) zero all = all.1
all_left P (x ∷ xs) (suc i) all = (all.0, all_left P xs i all.1)

-- Spans kept as parts have their bytes, and lie within as they do.

map_map : {X Y Z : Type 0} (f : Y → Z) (g : X → Y) (xs : List X) → map (λ x. f (g x)) xs ≡ map f (map g xs)
map_map f g [] = refl
map_map f g (x ∷ xs) = ap (λ ys. f (g x) ∷ ys) (map_map f g xs)

pub part_texts-spans : (bytes : List ℕ) (parts : List Part) (spans : List Span) → map span_of parts ≡ spans → part_texts bytes parts ≡ map (text_of bytes) spans
part_texts-spans bytes parts spans e = map_map (text_of bytes) span_of parts ∙ ap (λ (ss : List Span). map (text_of bytes) ss) e

all_before : {X Y : Type 0} (P : Y → Type 0) (g : X → Y) (xs : List X) → AllByRecursion P (map g xs) → AllByRecursion (λ x. P (g x)) xs
all_before P g [] all = tt
all_before P g (x ∷ xs) all = (all.0, all_before P g xs all.1)

pub AreWithin-spans : (bytes : List ℕ) (parts : List Part) (spans : List Span) → map span_of parts ≡ spans → AllByRecursion (IsWithin bytes) spans → AreWithin bytes parts
AreWithin-spans bytes parts spans e all =
    all_before (IsWithin bytes) span_of parts (subst (λ (ss : List Span). AllByRecursion (IsWithin bytes) ss) (sym e) all)
