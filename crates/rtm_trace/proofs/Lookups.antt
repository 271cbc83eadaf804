-- The names of a well-formed deck are found at their numbers.
use Rattle.std.proofs.Common.{◌≡◌, ℕ, zero, suc, ◌<◌, Bool, true, false, not, ◌||◌, eqb, List, [], ◌∷◌, ◌++◌, length, map, Some, refl, ap, sym, subst, ◌∙◌, append_assoc, arith}
use Rattle.std.specs.Prelude.{slice_get, position, bytes_eq, IsTrue}
use Rattle.std.specs.List.{list_all, list_any, position_or_len}
use Rattle.std.proofs.lemmas.Bool.{and_parts, and_from, not-true, lt-ltb}
use Rattle.std.proofs.lemmas.Bool.Decides.{nat_tests}
use Rattle.std.proofs.lemmas.List.Folds.{list_any-append}
use Rattle.std.proofs.lemmas.Slice.Eq.{bytes_eq-Decides}
use Rattle.std.proofs.lemmas.Option.{slice_get-map, slice_get_within}
use Rattle.rtm_cards.specs.Name.{is_letter, is_name_byte, is_name}
use Rattle.rtm_deck_items.specs.declared.deck.Unit.{Unit as UnitCard}
use Rattle.rtm_deck_items.specs.View.{ProgramView, DeckView}
use Rattle.rtm_deck_items.specs.WellFormed.{is_well_formed, are_distinct, is_program_of, is_unit_of}
use Rattle.rtm_deck_items.proofs.FormFacts.{conditions, limits}
use Rattle.rtm_deck_items.proofs.Lists.{at_from_list_all, both_true}
use Rattle.rtm_deck_operands.specs.Name.{trimmed_text, is_padded_name, name_in}
use Rattle.rtm_deck_operands.proofs.Names.{padded_parts, name_parts}
use Rattle.rtm_trace.specs.inner.Words.{put_name, put_names, number_of_name, is_inner}
use Rattle.rtm_trace.proofs.Cuts.{plain, lacks, each_test}

same_eq : (a : List ℕ) → bytes_eq a a ≡ true
same_eq a = (bytes_eq-Decides a a).1 refl

-- two texts that aren't equal, either way around
swapped : (a b : List ℕ) → bytes_eq a b ≡ false → bytes_eq b a ≡ false
swapped a b e = go (bytes_eq b a) refl
  where
    go : (t : Bool) → bytes_eq b a ≡ t → t ≡ false
    go false h = refl
    go true h =
        let same : bytes_eq a b ≡ true = (bytes_eq-Decides a b).1 (sym ((bytes_eq-Decides b a).0 h)) in
        sym same ∙ e

-- none of the names is among those
abbrev fresh : List (List ℕ) → List (List ℕ) → Bool
fresh names more = list_all (λ name. not (list_any (bytes_eq name) names)) more

or_none : (a b : Bool) → a ≡ false → b ≡ false → not (a || (b || false)) ≡ true
or_none false false e f = refl
or_none true b e f = absurd cc
or_none false true e f = absurd cc

-- one name more stays apart from those that differ from it
fresh_more : (names : List (List ℕ)) (one : List ℕ) (more : List (List ℕ)) → fresh names more ≡ true → list_any (bytes_eq one) more ≡ false → fresh (names ++ one ∷ []) more ≡ true
fresh_more names one [] f d = refl
fresh_more names one (name ∷ more) f d =
    let p = and_parts (not (list_any (bytes_eq name) names)) (fresh names more) f in
    let q = either_false (bytes_eq one name) (list_any (bytes_eq one) more) d in
    and_from _ (fresh (names ++ one ∷ []) more)
    (rw (list_any-append (bytes_eq name) names (one ∷ [])) (or_none _ _ (not-true _ p.0) (swapped one name q.0)))
    (fresh_more names one more p.1 q.1)
  where
    either_false : (a b : Bool) → (a || b) ≡ false → (a ≡ false) × (b ≡ false)
    either_false false false e = (refl, refl)
    either_false true b e = absurd cc
    either_false false true e = absurd cc

put_fresh : (names : List (List ℕ)) (one : List ℕ) → list_any (bytes_eq one) names ≡ false → put_name names one ≡ names ++ one ∷ []
put_fresh names one e = rw e refl

-- distinct names that are none of those before are put behind them
put_distinct : (names more : List (List ℕ)) → are_distinct more ≡ true → fresh names more ≡ true → put_names names more ≡ names ++ more
put_distinct names [] d f = sym (append_nil names)
  where
    append_nil : (xs : List (List ℕ)) → xs ++ [] ≡ xs
    append_nil [] = refl
    append_nil (x ∷ xs) = ap (λ ys. x ∷ ys) (append_nil xs)
put_distinct names (one ∷ more) d f =
    let apart = and_parts (not (list_any (bytes_eq one) more)) (are_distinct more) d in
    let new = and_parts (not (list_any (bytes_eq one) names)) (fresh names more) f in
    ap (λ (xs : List (List ℕ)). put_names xs more) (put_fresh names one (not-true _ new.0))
    ∙ (put_distinct (names ++ one ∷ []) more apart.1 (fresh_more names one more new.1 (not-true _ apart.0))
    ∙ append_assoc names (one ∷ []) more)

all_fresh : (more : List (List ℕ)) → fresh [] more ≡ true
all_fresh [] = refl
all_fresh (name ∷ more) = all_fresh more

pub put_all : (names : List (List ℕ)) → are_distinct names ≡ true → put_names [] names ≡ names
put_all names d = put_distinct [] names d (all_fresh names)

-- a name that stands there is among them
there : (names : List (List ℕ)) (i : ℕ) (name one : List ℕ) → slice_get names i ≡ Some name → list_any (bytes_eq one) names ≡ false → bytes_eq name one ≡ false
there [] i name one e f = absurd cc
there (head ∷ names) zero name one e f =
    let same : head ≡ name = cc in
    swapped one name (subst (λ (x : List ℕ). bytes_eq one x ≡ false) same (first (bytes_eq one head) _ f))
  where
    first : (a b : Bool) → (a || b) ≡ false → a ≡ false
    first false b e = refl
    first true b e = absurd cc
there (head ∷ names) (suc i) name one e f = there names i name one e (second (bytes_eq one head) _ f)
  where
    second : (a b : Bool) → (a || b) ≡ false → b ≡ false
    second false b e = e
    second true b e = absurd cc

-- a name is found where it stands, where the names are distinct
found_len : (names : List (List ℕ)) (i : ℕ) (name : List ℕ) → are_distinct names ≡ true → slice_get names i ≡ Some name → position_or_len (bytes_eq name) names ≡ i
found_len [] i name d e = absurd cc
found_len (head ∷ names) zero name d e =
    let same : name ≡ head = cc in
    let eq : bytes_eq name head ≡ true = (bytes_eq-Decides name head).1 same in
    rw eq refl
found_len (head ∷ names) (suc i) name d e =
    let p = and_parts (not (list_any (bytes_eq head) names)) (are_distinct names) d in
    let ne = there names i name head e (not-true _ p.0) in
    rw ne (let ih = found_len names i name p.1 e in omega (arith, ih))

pub found : (names : List (List ℕ)) (i : ℕ) (name : List ℕ) → are_distinct names ≡ true → slice_get names i ≡ Some name → position (bytes_eq name) names ≡ Some i
found names i name d e =
    rw (found_len names i name d e, lt-ltb i (length names) (slice_get_within names i name e)) refl

-- the text of a name is read as that name
pub name_read : (name : List ℕ) → is_padded_name name ≡ true → name_in (trimmed_text name) ≡ Some name
name_read name h =
    let p = padded_parts name h in rw p.name (ap Some (sym p.whole))

pub named_found : (names : List (List ℕ)) (i : ℕ) (name : List ℕ) → are_distinct names ≡ true → slice_get names i ≡ Some name → is_padded_name name ≡ true → i < 65536
    → number_of_name (put_names [] names) (trimmed_text name) ≡ Some i
named_found names i name d e h small =
    ap (λ (xs : List (List ℕ)). number_of_name xs (trimmed_text name)) (put_all names d)
    ∙ rw (name_read name h, found names i name d e, lt-ltb i 65536 small) refl

-- what holds of the name's bytes
name_byte_inner : (b : ℕ) → is_name_byte b ≡ true → is_inner b ≡ true
name_byte_inner b h = grind (arith, nat_tests)

letter_is_name_byte : (b : ℕ) → is_letter b ≡ true → is_name_byte b ≡ true
letter_is_name_byte b h = rw h refl

name_byte_no_point : (b : ℕ) → is_name_byte b ≡ true → not (eqb b 46) ≡ true
name_byte_no_point b h = grind (arith, nat_tests)

letter_no_asterisk : (b : ℕ) → is_letter b ≡ true → eqb b 42 ≡ false
letter_no_asterisk b h = grind (arith, nat_tests)

name_bytes : (text : List ℕ) → is_name text ≡ true → list_all is_name_byte text ≡ true
name_bytes [] h = absurd cc
name_bytes (b ∷ bs) h = let p = name_parts b bs h in and_from _ _ (letter_is_name_byte b p.letter) p.bytes

pub plain_name : (name : List ℕ) → is_padded_name name ≡ true → plain (trimmed_text name) ≡ true
plain_name name h = each_test is_name_byte is_inner name_byte_inner (trimmed_text name) (name_bytes (trimmed_text name) (padded_parts name h).name)

pub no_point : (name : List ℕ) → is_padded_name name ≡ true → lacks 46 (trimmed_text name) ≡ true
no_point name h = each_test is_name_byte (λ b. not (eqb b 46)) name_byte_no_point (trimmed_text name) (name_bytes (trimmed_text name) (padded_parts name h).name)

asterisk_apart : (text : List ℕ) → is_name text ≡ true → bytes_eq text (42 ∷ []) ≡ false
asterisk_apart [] h = absurd cc
asterisk_apart (b ∷ bs) h = go (bytes_eq (b ∷ bs) (42 ∷ [])) refl
  where
    go : (t : Bool) → bytes_eq (b ∷ bs) (42 ∷ []) ≡ t → t ≡ false
    go false e = refl
    go true e =
        let same : b ∷ bs ≡ 42 ∷ [] = (bytes_eq-Decides (b ∷ bs) (42 ∷ [])).0 e in
        let first : b ≡ 42 = cc in
        let no : is_letter 42 ≡ true = subst (λ (x : ℕ). is_letter x ≡ true) first (name_parts b bs h).letter in
        absurd cc

pub no_asterisk : (name : List ℕ) → is_padded_name name ≡ true → bytes_eq (trimmed_text name) (42 ∷ []) ≡ false
no_asterisk name h = asterisk_apart (trimmed_text name) (padded_parts name h).name

-- the names of a well-formed deck
pub record NamesFact (d : DeckView) : Type 0 where
  pub programs : are_distinct (map (λ p. p.name) d.programs) ≡ true
  pub units : are_distinct (map (λ u. u.name) d.units) ≡ true

pub distinct_names : (d : DeckView) → IsTrue (is_well_formed d) → NamesFact d
distinct_names d w =
    let p = both_true (are_distinct (map (λ p. p.name) d.programs)) (are_distinct (map (λ u. u.name) d.units)) (conditions d w).names in
    record { programs = p.0; units = p.1 }

-- an element at an index within a list
pub some_at : {X : Type 0} (xs : List X) (i : ℕ) → i < length xs → (x : X) × (slice_get xs i ≡ Some x)
some_at [] i h = absurd (omega arith)
some_at (x ∷ xs) zero h = (x, refl)
some_at (x ∷ xs) (suc i) h = some_at xs i (omega arith)

-- a unit of a well-formed deck, and its name
pub record UnitFact (d : DeckView) (i : ℕ) : Type 0 where
  pub card : UnitCard
  pub there : slice_get d.units i ≡ Some card
  pub name : is_padded_name card.name ≡ true
  pub read : number_of_name (put_names [] (map (λ (u : UnitCard). u.name) d.units)) (trimmed_text card.name) ≡ Some i

pub unit_fact : (d : DeckView) → IsTrue (is_well_formed d) → (i : ℕ) → i < length d.units → UnitFact d i
unit_fact d w i less =
    let x = some_at d.units i less in
    let test = at_from_list_all (is_unit_of d) d.units i x.0 (conditions d w).units x.1 in
    let name = (both_true (is_padded_name x.0.name) _ (both_true _ _ test).0).0 in
    let few = (limits d w).units in
    record {
      card = x.0;
      there = x.1;
      name = name;
      read = named_found (map (λ (u : UnitCard). u.name) d.units) i x.0.name (distinct_names d w).units (slice_get-map (λ (u : UnitCard). u.name) d.units i ∙ rw x.1 refl) name (omega (arith, few));
    }

-- a program of a well-formed deck, and its name
pub record ProgramFact (d : DeckView) (i : ℕ) : Type 0 where
  pub program : ProgramView
  pub there : slice_get d.programs i ≡ Some program
  pub name : is_padded_name program.name ≡ true
  pub read : number_of_name (put_names [] (map (λ (p : ProgramView). p.name) d.programs)) (trimmed_text program.name) ≡ Some i

pub program_fact : (d : DeckView) → IsTrue (is_well_formed d) → (i : ℕ) → i < length d.programs → ProgramFact d i
program_fact d w i less =
    let x = some_at d.programs i less in
    let test = at_from_list_all (is_program_of d) d.programs i x.0 (conditions d w).programs x.1 in
    let name = (both_true (is_padded_name x.0.name) _ (both_true _ _ test).0).0 in
    let few = (limits d w).programs in
    record {
      program = x.0;
      there = x.1;
      name = name;
      read = named_found (map (λ (p : ProgramView). p.name) d.programs) i x.0.name (distinct_names d w).programs (slice_get-map (λ (p : ProgramView). p.name) d.programs i ∙ rw x.1 refl) name (omega (arith, few));
    }
