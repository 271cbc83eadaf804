-- Names that are found have the numbers of what they name.
use Rattle.std.proofs.Common.{◌≡◌, ℕ, suc, ◌≤◌, ◌<◌, Bool, true, false, not, ◌&&◌, ◌||◌, cond, List, [], ◌∷◌, length, Option, Some, None, refl, ap, sym, subst, ◌∙◌, arith}
use Rattle.std.specs.Prelude.{IsTrue, bytes_eq, slice_get, unwrap_or, nat_lt, if◌then◌else◌}
use Rattle.std.specs.Option.{option_map, option_map_or}
use Rattle.std.specs.List.{list_any, position_or_len}
use Rattle.std.proofs.lemmas.List.{length-map}
use Rattle.std.proofs.lemmas.Bool.{and_parts, lt-ltb}
use Rattle.std.proofs.lemmas.Option.{slice_get-map}
use Rattle.std.proofs.lemmas.Slice.Eq.{bytes_eq-Decides}
use Rattle.rtm_deck_operands.specs.declared.value.Value.TheVariants as values
use Rattle.rtm_deck_items.specs.declared.deck.Unit.{Unit as UnitCard}
use Rattle.rtm_deck_items.specs.Reading.{is_task_card}
use Rattle.rtm_deck_items.specs.View.{ProgramView, DeckView}
use Rattle.rtm_deck_items.specs.Items.{program_name, unit_name}
use Rattle.rtm_deck_items.specs.WellFormed.{are_distinct, has_label_anywhere}
use Rattle.rtm_deck.specs.inner.View.{SeenView}
use Rattle.rtm_deck.specs.inner.Seen.{has_name}
use Rattle.rtm_deck.specs.inner.Operations.{index_in}
use Rattle.rtm_deck.proofs.Decks.Operations.{Places}
use Rattle.rtm_deck.proofs.Decks.Counts.{names_of_programs, names_of_units, is_task_named, is_srb_named}

-- the first place of a name
abbrev place : List (List ℕ) → List ℕ → ℕ
place [] name = 0
place (n ∷ ns) name = if bytes_eq name n then 0 else suc (place ns name)

place_is : (names : List (List ℕ)) (name : List ℕ) → position_or_len (bytes_eq name) names ≡ place names name
place_is [] name = refl
place_is (n ∷ ns) name = go (bytes_eq name n) refl (place_is ns name)
  where
    go : (b : Bool) → bytes_eq name n ≡ b → position_or_len (bytes_eq name) ns ≡ place ns name → position_or_len (bytes_eq name) (n ∷ ns) ≡ place (n ∷ ns) name
    go true e more = rw e refl
    go false e more = rw e (omega (arith, more))

-- the name is at its first place
record IsPlaced (names : List (List ℕ)) (name : List ℕ) : Type 0 where
  below : place names name < length names
  at : slice_get names (place names name) ≡ Some name

placed : (names : List (List ℕ)) (name : List ℕ) → has_name names name ≡ true → IsPlaced names name
placed [] name h = absurd cc
placed (n ∷ ns) name h = go (bytes_eq name n) refl h (placed ns name)
  where
    go : (b : Bool) → bytes_eq name n ≡ b → (b || has_name ns name) ≡ true → (has_name ns name ≡ true → IsPlaced ns name) → IsPlaced (n ∷ ns) name
    go true e h more = record { below = rw e (omega arith); at = rw e (ap Some (sym ((bytes_eq-Decides name n).0 e))) }
    go false e h more = let m = more h in let below = m.below in let at = m.at in record { below = rw e (omega arith); at = rw e at }

narrow_index : (p n : ℕ) → p < n → n ≤ 65536 → (let i = unwrap_or (cond (nat_lt p n) (Some p) None) 0 in if nat_lt i 65536 then i else 0) ≡ p
narrow_index p n h l = rw (lt-ltb p n h, lt-ltb p 65536 (omega arith)) refl

indexed : (names : List (List ℕ)) (name : List ℕ) → has_name names name ≡ true → length names ≤ 65536 → index_in names name ≡ place names name
indexed names name h l =
    let is = place_is names name in
    let same : index_in names name ≡ position_or_len (bytes_eq name) names = narrow_index (position_or_len (bytes_eq name) names) (length names) (omega (arith, is, (placed names name h).below)) l in
    same ∙ is

named_value : {X : Type 0} (f : X → List ℕ) (o : Option X) (name : List ℕ) → option_map f o ≡ Some name → option_map (λ x. values.Name (f x)) o ≡ Some (values.Name name)
named_value f None name e = absurd cc
named_value f (Some x) name e = let same : f x ≡ name = cc in ap (λ (n : List ℕ). Some (values.Name n)) same

any_named : (test : UnitCard → Bool) (name : List ℕ) (us : List UnitCard) → list_any (λ u. test u && bytes_eq name u.name) us ≡ true → has_name (names_of_units us) name ≡ true
any_named test name [] h = absurd cc
any_named test name (u ∷ us) h = go (test u) (bytes_eq name u.name) h (any_named test name us)
  where
    go : (a b : Bool) → ((a && b) || list_any (λ u. test u && bytes_eq name u.name) us) ≡ true → (list_any (λ u. test u && bytes_eq name u.name) us ≡ true → has_name (names_of_units us) name ≡ true) → (b || has_name (names_of_units us) name) ≡ true
    go a true h more = refl
    go true false h more = more h
    go false false h more = more h

-- among distinct names the unit at the first place of a name is the unit that has it
kind_at : (test : UnitCard → Bool) (name : List ℕ) (us : List UnitCard) → IsTrue (are_distinct (names_of_units us)) → list_any (λ u. test u && bytes_eq name u.name) us ≡ true
    → IsTrue (option_map_or test (slice_get us (place (names_of_units us) name)) false)
kind_at test name [] d h = absurd cc
kind_at test name (u ∷ us) d h =
    let parts = and_parts (not (list_any (bytes_eq u.name) (names_of_units us))) (are_distinct (names_of_units us)) d in
    go (bytes_eq name u.name) refl (test u) refl h parts.0 (kind_at test name us parts.1)
  where
    go : (b : Bool) → bytes_eq name u.name ≡ b → (a : Bool) → test u ≡ a → ((a && b) || list_any (λ u. test u && bytes_eq name u.name) us) ≡ true
        → IsTrue (not (list_any (bytes_eq u.name) (names_of_units us)))
        → (list_any (λ u. test u && bytes_eq name u.name) us ≡ true → IsTrue (option_map_or test (slice_get us (place (names_of_units us) name)) false))
        → IsTrue (option_map_or test (slice_get (u ∷ us) (place (names_of_units (u ∷ us)) name)) false)
    go true e true f h g more = rw e f
    go true e false f h g more =
        let there : has_name (names_of_units us) name ≡ true = any_named test name us h in
        let same : name ≡ u.name = (bytes_eq-Decides name u.name).0 e in
        let clash : not (has_name (names_of_units us) name) ≡ true = ap (λ (n : List ℕ). not (list_any (bytes_eq n) (names_of_units us))) same ∙ g in
        let other : not true ≡ true = ap not (sym there) ∙ clash in absurd cc
    go false e true f h g more = rw e (more h)
    go false e false f h g more = rw e (more h)

-- what names and numbers there are
pub record Numbers (e : SeenView) (d : DeckView) : Type 0 where
  pub programs : e.programs ≡ names_of_programs d.programs
  pub units : e.units ≡ names_of_units d.units
  pub few_programs : length e.programs ≤ 65536
  pub few_units : length e.units ≤ 65536
  pub distinct : IsTrue (are_distinct e.units)
  pub tasks : (name : List ℕ) → has_name e.tasks name ≡ true → list_any (is_task_named name) d.units ≡ true
  pub srbs : (name : List ℕ) → has_name e.srbs name ≡ true → list_any (is_srb_named name) d.units ≡ true
  pub labels : (name : List ℕ) → has_name e.labels name ≡ true → IsTrue (has_label_anywhere d name)

module _ (e : SeenView) (d : DeckView) (n : Numbers e d) where
  program_index : (name : List ℕ) → has_name e.programs name ≡ true → index_in e.programs name ≡ place (names_of_programs d.programs) name
  program_index name h = indexed e.programs name h n.few_programs ∙ ap (λ (ns : List (List ℕ)). place ns name) n.programs

  program_placed : (name : List ℕ) → has_name e.programs name ≡ true → IsPlaced (names_of_programs d.programs) name
  program_placed name h = placed (names_of_programs d.programs) name (sym (ap (λ (ns : List (List ℕ)). has_name ns name) n.programs) ∙ h)

  unit_index : (name : List ℕ) → has_name (names_of_units d.units) name ≡ true → index_in e.units name ≡ place (names_of_units d.units) name
  unit_index name h = indexed e.units name (ap (λ (ns : List (List ℕ)). has_name ns name) n.units ∙ h) n.few_units ∙ ap (λ (ns : List (List ℕ)). place ns name) n.units

  unit_said : (name : List ℕ) → has_name (names_of_units d.units) name ≡ true → unit_name d (index_in e.units name) ≡ Some (values.Name name)
  unit_said name h =
      let p = placed (names_of_units d.units) name h in
      ap (unit_name d) (unit_index name h)
      ∙ named_value (λ (u : UnitCard). u.name) (slice_get d.units (place (names_of_units d.units) name)) name (sym (slice_get-map (λ (u : UnitCard). u.name) d.units (place (names_of_units d.units) name)) ∙ p.at)

  unit_there : (test : UnitCard → Bool) (name : List ℕ) → list_any (λ u. test u && bytes_eq name u.name) d.units ≡ true → IsTrue (option_map_or test (slice_get d.units (index_in e.units name)) false)
  unit_there test name h =
      subst (λ (i : ℕ). IsTrue (option_map_or test (slice_get d.units i) false)) (sym (unit_index name (any_named test name d.units h)))
      (kind_at test name d.units (subst (λ (ns : List (List ℕ)). IsTrue (are_distinct ns)) n.units n.distinct) h)

  pub places : Places e d
  places = record {
    program_said = λ name h. (let p = program_placed name h in
        ap (program_name d) (program_index name h)
        ∙ named_value (λ (p : ProgramView). p.name) (slice_get d.programs (place (names_of_programs d.programs) name)) name (sym (slice_get-map (λ (p : ProgramView). p.name) d.programs (place (names_of_programs d.programs) name)) ∙ p.at));
    program_there = λ name h. (let p = program_placed name h in
        subst (λ (i : ℕ). IsTrue (nat_lt i (length d.programs))) (sym (program_index name h))
        (lt-ltb _ _ (subst (λ (l : ℕ). place (names_of_programs d.programs) name < l) (length-map d.programs (λ (p : ProgramView). p.name)) p.below)));
    task_said = λ name h. unit_said name (any_named is_task_card name d.units (n.tasks name h));
    task_there = λ name h. unit_there is_task_card name (n.tasks name h);
    srb_said = λ name h. unit_said name (any_named (λ u. not (is_task_card u)) name d.units (n.srbs name h));
    srb_there = λ name h. unit_there (λ u. not (is_task_card u)) name (n.srbs name h);
    labelled = n.labels;
  }
