-- What holds of each card that spells a deck holds of each canonical one, and the canonical cards are no more.
use Rattle.std.proofs.Common.{◌≡◌, ℕ, ◌+◌, ◌≤◌, Bool, true, false, eqb, not, List, [], ◌∷◌, ◌++◌, length, map, refl, ap, subst, length-append, arith}
use Rattle.std.specs.Prelude.{IsTrue, if◌then◌else◌}
use Rattle.std.specs.List.{flat_map, AllByRecursion}
use Rattle.std.proofs.lemmas.Bool.{eq-eqb, ne_eqb}
use Rattle.std.proofs.lemmas.List.{length-map}
use Rattle.rtm_cards.specs.Limits.{default_entries}
use Rattle.rtm_deck_items.specs.declared.deck.Unit.{Unit as UnitCard}
use Rattle.rtm_deck_items.specs.declared.deck.Command.{Command}
use Rattle.rtm_deck_items.specs.View.{ProgramView, DeckView}
use Rattle.rtm_deck_items.specs.Items.{Item, ProgramStart, ProgramCard, ProgramEnd, UnitOfWork, CommandCard, DeckEnd, Block, ProgramBlock, UnitBlock, items_of_block, opening_items, closing_items, items_of}
use Rattle.rtm_deck_items.specs.Spelling.{programs_in, units_in}
use Rattle.rtm_deck_items.specs.WellFormed.{has_region, region_cards, program_cards, command_cards, cards_needed}
use Rattle.rtm_deck_items.specs.Canon.{canon_blocks, canon_items}
use Rattle.rtm_deck_canon.proofs.Each.{both_lists, parts_of_all}

-- The blocks of the canonical deck.

pub canon_programs_in : (ps : List ProgramView) (us : List UnitCard) → programs_in (map ProgramBlock ps ++ map UnitBlock us) ≡ ps
canon_programs_in [] [] = refl
canon_programs_in [] (u ∷ us) = canon_programs_in [] us
canon_programs_in (p ∷ ps) us = ap (λ (xs : List ProgramView). p ∷ xs) (canon_programs_in ps us)

pub canon_units_in : (ps : List ProgramView) (us : List UnitCard) → units_in (map ProgramBlock ps ++ map UnitBlock us) ≡ us
canon_units_in [] [] = refl
canon_units_in [] (u ∷ us) = ap (λ (xs : List UnitCard). u ∷ xs) (canon_units_in [] us)
canon_units_in (p ∷ ps) us = canon_units_in ps us

-- What holds of each item of some blocks.

abbrev pub EachProgram : (Item → Type 0) → List ProgramView → Type 0
EachProgram P ps = AllByRecursion (λ (p : ProgramView). AllByRecursion P (items_of_block (ProgramBlock p))) ps

abbrev pub EachUnit : (Item → Type 0) → List UnitCard → Type 0
EachUnit P us = AllByRecursion (λ (u : UnitCard). P (UnitOfWork u)) us

apart : (P : Item → Type 0) (blocks : List Block) → AllByRecursion P (flat_map items_of_block blocks) → EachProgram P (programs_in blocks) × EachUnit P (units_in blocks)
apart P [] h = (tt, tt)
apart P (ProgramBlock p ∷ blocks) h =
    let parts = parts_of_all P (items_of_block (ProgramBlock p)) (flat_map items_of_block blocks) h in
    let more = apart P blocks parts.1 in
    ((parts.0, more.0), more.1)
apart P (UnitBlock u ∷ blocks) h =
    let more = apart P blocks h.1 in
    (more.0, (h.0, more.1))

pub together : (P : Item → Type 0) (ps : List ProgramView) (us : List UnitCard) → EachProgram P ps → EachUnit P us → AllByRecursion P (flat_map items_of_block (map ProgramBlock ps ++ map UnitBlock us))
together P [] [] a b = tt
together P [] (u ∷ us) a b = (b.0, together P [] us tt b.1)
together P (p ∷ ps) us a b =
    both_lists P (items_of_block (ProgramBlock p)) (flat_map items_of_block (map ProgramBlock ps ++ map UnitBlock us)) a.0 (together P ps us a.1 b)

-- A canonical deck has a REGION card only where each spelling has one, and so with OPER.

-- REGION needn't stand there where both of its operands are at their default
no_region : (limit : ℕ) (sdwa : Bool) → limit ≡ default_entries → sdwa ≡ true → has_region limit sdwa ≡ false
no_region limit sdwa e f = rw (eq-eqb limit default_entries e, f) refl

opening : (P : Item → Type 0) (region : Bool) (limit : ℕ) (sdwa : Bool) → (IsTrue (not region) → limit ≡ default_entries) → (IsTrue (not region) → sdwa ≡ true)
    → AllByRecursion P (opening_items region limit sdwa) → AllByRecursion P (opening_items (has_region limit sdwa) limit sdwa)
opening P true limit sdwa default whole h = go (has_region limit sdwa)
  where
    go : (t : Bool) → AllByRecursion P (opening_items t limit sdwa)
    go true = (h.0, tt)
    go false = tt
opening P false limit sdwa default whole h = rw (no_region limit sdwa (default refl) (whole refl)) tt

closing : (P : Item → Type 0) (oper : Bool) (commands : List Command) → (IsTrue (not oper) → commands ≡ []) → AllByRecursion P (closing_items oper commands)
    → AllByRecursion P (closing_items (not (eqb (length commands) 0)) commands)
closing P true commands none h = go (eqb (length commands) 0)
  where
    go : (t : Bool) → AllByRecursion P (closing_items (not t) commands)
    go true = tt
    go false = h
closing P false commands none h = rw (none refl) tt

-- What holds of each item that spells the deck holds of each canonical one.
pub canon_covered : (P : Item → Type 0) (d : DeckView) (region oper : Bool) (blocks : List Block) → programs_in blocks ≡ d.programs → units_in blocks ≡ d.units
    → (IsTrue (not region) → d.limit ≡ default_entries) → (IsTrue (not region) → d.sdwa ≡ true) → (IsTrue (not oper) → d.commands ≡ [])
    → AllByRecursion P (items_of region oper blocks d) → AllByRecursion P (canon_items d)
canon_covered P d region oper blocks ps us limit sdwa commands h =
    let abc = parts_of_all P (opening_items region d.limit d.sdwa ++ flat_map items_of_block blocks ++ closing_items oper d.commands) (DeckEnd ∷ []) h in
    let ab = parts_of_all P (opening_items region d.limit d.sdwa ++ flat_map items_of_block blocks) (closing_items oper d.commands) abc.0 in
    let a = parts_of_all P (opening_items region d.limit d.sdwa) (flat_map items_of_block blocks) ab.0 in
    let b = apart P blocks a.1 in
    let middle = together P d.programs d.units (subst (λ (xs : List ProgramView). EachProgram P xs) ps b.0) (subst (λ (xs : List UnitCard). EachUnit P xs) us b.1) in
    both_lists P _ (DeckEnd ∷ [])
    (both_lists P _ (closing_items (not (eqb (length d.commands) 0)) d.commands)
    (both_lists P (opening_items (has_region d.limit d.sdwa) d.limit d.sdwa) (flat_map items_of_block (canon_blocks d)) (opening P region d.limit d.sdwa limit sdwa a.0) middle)
    (closing P oper d.commands commands ab.1))
    abc.1

-- How many cards there are.

program-length : (p : ProgramView) → length (items_of_block (ProgramBlock p)) ≡ length p.lines + 2
program-length p = omega (arith, length-append (ProgramStart p.name ∷ map ProgramCard p.lines) (ProgramEnd ∷ []), length-map p.lines ProgramCard)

blocks-length : (blocks : List Block) → length (flat_map items_of_block blocks) ≡ program_cards (programs_in blocks) + length (units_in blocks)
blocks-length [] = refl
blocks-length (ProgramBlock p ∷ blocks) =
    omega (arith, length-append (items_of_block (ProgramBlock p)) (flat_map items_of_block blocks), program-length p, blocks-length blocks)
blocks-length (UnitBlock u ∷ blocks) = omega (arith, blocks-length blocks)

opening-length : (limit : ℕ) (sdwa : Bool) → length (opening_items (has_region limit sdwa) limit sdwa) ≡ region_cards limit sdwa
opening-length limit sdwa = go (has_region limit sdwa)
  where
    go : (t : Bool) → length (opening_items t limit sdwa) ≡ (if t then 1 else 0)
    go true = refl
    go false = refl

closing-length : (commands : List Command) → length (closing_items (not (eqb (length commands) 0)) commands) ≡ command_cards commands
closing-length [] = refl
closing-length (c ∷ cs) =
    let some : eqb (length (c ∷ cs)) 0 ≡ false = ne_eqb _ 0 (λ e. absurd (omega (arith, e))) in
    rw some (omega (arith, length-map cs CommandCard))

items-length : (region oper : Bool) (blocks : List Block) (d : DeckView) → length (items_of region oper blocks d)
    ≡ length (opening_items region d.limit d.sdwa) + length (flat_map items_of_block blocks) + length (closing_items oper d.commands) + 1
items-length region oper blocks d =
    omega (
      arith,
      length-append (opening_items region d.limit d.sdwa ++ flat_map items_of_block blocks ++ closing_items oper d.commands) (DeckEnd ∷ []),
      length-append (opening_items region d.limit d.sdwa ++ flat_map items_of_block blocks) (closing_items oper d.commands),
      length-append (opening_items region d.limit d.sdwa) (flat_map items_of_block blocks),
    )

-- The canonical deck has as many cards as the limit on cards counts.
pub canon-count : (d : DeckView) → length (canon_items d) ≡ cards_needed d
canon-count d =
    omega (
      arith,
      items-length (has_region d.limit d.sdwa) (not (eqb (length d.commands) 0)) (canon_blocks d) d,
      opening-length d.limit d.sdwa,
      closing-length d.commands,
      blocks-length (canon_blocks d),
      ap program_cards (canon_programs_in d.programs d.units),
      ap (λ (us : List UnitCard). length us) (canon_units_in d.programs d.units),
    )

opening_fewer : (region : Bool) (limit : ℕ) (sdwa : Bool) → (IsTrue (not region) → limit ≡ default_entries) → (IsTrue (not region) → sdwa ≡ true)
    → region_cards limit sdwa ≤ length (opening_items region limit sdwa)
opening_fewer true limit sdwa default whole = go (has_region limit sdwa)
  where
    go : (t : Bool) → (if t then 1 else 0) ≤ 1
    go true = omega arith
    go false = omega arith
opening_fewer false limit sdwa default whole = rw (no_region limit sdwa (default refl) (whole refl)) (omega arith)

closing_fewer : (oper : Bool) (commands : List Command) → (IsTrue (not oper) → commands ≡ []) → command_cards commands ≤ length (closing_items oper commands)
closing_fewer true [] none = omega arith
closing_fewer true (c ∷ cs) none = omega (arith, length-map cs CommandCard)
closing_fewer false commands none = rw (none refl) (omega arith)

-- No spelling has fewer cards.
pub canon_fewest : (d : DeckView) (region oper : Bool) (blocks : List Block) → programs_in blocks ≡ d.programs → units_in blocks ≡ d.units
    → (IsTrue (not region) → d.limit ≡ default_entries) → (IsTrue (not region) → d.sdwa ≡ true) → (IsTrue (not oper) → d.commands ≡ [])
    → length (canon_items d) ≤ length (items_of region oper blocks d)
canon_fewest d region oper blocks ps us limit sdwa commands =
    omega (
      arith,
      canon-count d,
      items-length region oper blocks d,
      opening_fewer region d.limit d.sdwa limit sdwa,
      closing_fewer oper d.commands commands,
      blocks-length blocks,
      ap program_cards ps,
      ap (λ (xs : List UnitCard). length xs) us,
    )
