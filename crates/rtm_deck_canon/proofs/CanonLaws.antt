-- The canonical text spells its deck, and has the fewest cards, of which none is longer than need be.
use Rattle.std.proofs.Common.{◌≡◌, ℕ, ◌+◌, ◌*◌, ◌-◌, ◌<◌, ◌≤◌, Bool, true, false, eqb, leb, ltb, not, List, [], ◌∷◌, length, map, Some, None, get_or, refl, sym, ap, subst, ◌∙◌, length-append, arith}
use Rattle.std.specs.Prelude.{IsTrue, if◌then◌else◌}
use Rattle.std.specs.List.{flat_map, list_all, AllByRecursion}
use Rattle.std.proofs.lemmas.Bool.{or_parts, eqb-true, le-ltb, leb-true, ltb-false}
use Rattle.std.proofs.lemmas.List.{length-map}
use Rattle.std.proofs.lemmas.List.Folds.{flat_map-map}
use Rattle.rtm_cards.specs.declared.fault.CutWhy.TheVariants.{OverLimit, BadByte, BadCard}
use Rattle.rtm_cards.specs.Limits.{most_cards, most_card_bytes, default_entries}
use Rattle.rtm_cards.specs.Text.{line_feed}
use Rattle.rtm_cards.specs.Lines.{lines_of, line_at}
use Rattle.rtm_cards.specs.Rules.{is_printable, is_ignored, has_good_fields, is_bad_card, fault_of}
use Rattle.rtm_cards.specs.Cards.{CardText, card_of, cards_from}
use Rattle.rtm_cards.specs.Faults.{NoCutFault}
use Rattle.rtm_cards.specs.Spelling.{Lacks, line_with_feed}
use Rattle.rtm_cards.proofs.LineLaws.{ended_lines}
use Rattle.rtm_deck_items.specs.View.{DeckView}
use Rattle.rtm_deck_items.specs.Forms.{slots_of}
use Rattle.rtm_deck_items.specs.Items.{Item, form_of, values_of, name_of, items_of}
use Rattle.rtm_deck_items.specs.Spelling.{SpellEach, SpellsDeck, DeckText, IsSpelled}
use Rattle.rtm_deck_items.specs.WellFormed.{has_region, is_well_formed}
use Rattle.rtm_deck_items.specs.Canon.{item_line, canon_blocks, canon_items, canon}
use Rattle.rtm_deck_items.proofs.FormFacts.{limits}
use Rattle.rtm_deck_canon.proofs.Each.{each, each_tested, mapped, at, from_each_index}
use Rattle.rtm_deck_canon.proofs.OperandLaws.{slots_well_made, canon_plain}
use Rattle.rtm_deck_canon.proofs.CardLines.{line_printable, line_lacks, good_fields, says_something}
use Rattle.rtm_deck_canon.proofs.Shortest.{shortest}
use Rattle.rtm_deck_canon.proofs.Covered.{canon_programs_in, canon_units_in, canon_covered, canon-count, canon_fewest}
use Rattle.rtm_deck_canon.proofs.Canonical.{CanBeWritten, item_said, canon_written}

-- Each canonical card fits.
abbrev pub AreShort : DeckView → Type 0
AreShort d = AllByRecursion (λ (item : Item). length (item_line d item) ≤ most_card_bytes) (canon_items d)

-- A card of an input without a fault is short.

passed : (a b c : Bool) → (if a then Some OverLimit else (if b then Some BadByte else (if c then Some BadCard else None))) ≡ None → c ≡ false
passed true b c e = absurd cc
passed false true c e = absurd cc
passed false false true e = absurd cc
passed false false false e = refl

short_card : (number : ℕ) (line : List ℕ) → fault_of number line ≡ None → length line ≤ most_card_bytes
unfolding fault_of
short_card number line e =
    let bad : is_bad_card line ≡ false = passed _ _ _ e in
    ltb-false most_card_bytes (length line) (or_parts (ltb most_card_bytes (length line)) _ bad).0

short_lines : (lines : List (List ℕ)) → NoCutFault lines → AllByRecursion (λ (line : List ℕ). length line ≤ most_card_bytes) lines
short_lines lines h =
    from_each_index (λ (line : List ℕ). length line ≤ most_card_bytes) [] lines
    (λ i less.
    let same : i + 1 - 1 ≡ i = omega arith in
    let fine : fault_of (i + 1) (line_at lines (i + 1)) ≡ None = h (i + 1) (omega arith) (omega (arith, less)) in
    subst (λ (k : ℕ). length (get_or lines k []) ≤ most_card_bytes) same (short_card (i + 1) (line_at lines (i + 1)) fine))

-- Each item that is spelled has a canonical line that is as short.
spelled_short : (d : DeckView) (number : ℕ) (lines : List (List ℕ)) (items : List Item) → AllByRecursion (λ (line : List ℕ). length line ≤ most_card_bytes) lines
    → SpellEach d (cards_from number lines) items → AllByRecursion (λ (item : Item). length (item_line d item) ≤ most_card_bytes) items
spelled_short d number [] items short h = subst (λ (xs : List Item). AllByRecursion (λ (item : Item). length (item_line d item) ≤ most_card_bytes) xs) (sym h) tt
spelled_short d number (line ∷ lines) items short h =
    go (is_ignored line) items (λ (xs : List Item) (e : SpellEach d (cards_from (number + 1) lines) xs). spelled_short d (number + 1) lines xs short.1 e) h
  where
    go : (t : Bool) (xs : List Item) → ((ys : List Item) → SpellEach d (cards_from (number + 1) lines) ys → AllByRecursion (λ (item : Item). length (item_line d item) ≤ most_card_bytes) ys)
        → SpellEach d (if t then cards_from (number + 1) lines else card_of number line ∷ cards_from (number + 1) lines) xs
        → AllByRecursion (λ (item : Item). length (item_line d item) ≤ most_card_bytes) xs
    go true xs more e = more xs e
    go false [] more e = absurd e
    go false (item ∷ xs) more e =
        let most : length line ≤ most_card_bytes = short.0 in
        (omega (arith, shortest d number line item e.0), more xs e.1)

-- as many items as cards are spelled
spelled-count : (d : DeckView) (cards : List CardText) (items : List Item) → SpellEach d cards items → length items ≡ length cards
spelled-count d [] items h = ap (λ (xs : List Item). length xs) h
spelled-count d (c ∷ cs) [] h = absurd h
spelled-count d (c ∷ cs) (item ∷ items) h = omega (arith, spelled-count d cs items h.1)

-- Each canonical card of a deck that is spelled is short.
pub canon_short : (d : DeckView) (bytes : List ℕ) → DeckText bytes d → AreShort d
canon_short d bytes h =
    let s = h.spelled in
    canon_covered (λ (item : Item). length (item_line d item) ≤ most_card_bytes) d s.region s.oper s.blocks s.programs s.units s.limit s.sdwa s.commands
    (spelled_short d 1 (lines_of bytes) (items_of s.region s.oper s.blocks d) (short_lines (lines_of bytes) h.cut.cards) s.each)

-- No spelling has fewer cards than the canonical one.
pub fewest_cards : (d : DeckView) (bytes : List ℕ) → DeckText bytes d → length (canon_items d) ≤ length (cards_from 1 (lines_of bytes))
fewest_cards d bytes h =
    let s = h.spelled in
    omega (
      arith,
      canon_fewest d s.region s.oper s.blocks s.programs s.units s.limit s.sdwa s.commands,
      spelled-count d (cards_from 1 (lines_of bytes)) (items_of s.region s.oper s.blocks d) s.each,
    )

-- What is asked of a line that breaks no rule.
record IsGoodLine (line : List ℕ) : Type 0 where
  short : length line ≤ most_card_bytes
  printable : IsTrue (list_all is_printable line)
  lacks : Lacks line_feed line
  fields : IsTrue (has_good_fields line)
  said : is_ignored line ≡ false

no_fault : (number : ℕ) (line : List ℕ) → number ≤ most_cards → IsGoodLine line → fault_of number line ≡ None
unfolding fault_of
no_fault number line few h =
    rw (le-ltb most_cards number few, h.printable, le-ltb most_card_bytes (length line) h.short, h.said, h.fields) refl

good_line : (d : DeckView) (item : Item) → CanBeWritten d item → length (item_line d item) ≤ most_card_bytes → IsGoodLine (item_line d item)
good_line d item h short =
    let form = form_of item in
    let given = values_of d item in
    let plain = canon_plain (slots_of form) given (slots_well_made form) h.fits in
    record {
      short = short;
      printable = line_printable (name_of item) form given h.named plain;
      lacks = line_lacks (name_of item) form given h.named plain;
      fields = good_fields (name_of item) form given h.named plain;
      said = says_something (name_of item) form given h.named plain;
    }

both : (d : DeckView) (items : List Item) → AllByRecursion (CanBeWritten d) items → AllByRecursion (λ (item : Item). length (item_line d item) ≤ most_card_bytes) items
    → AllByRecursion (λ (item : Item). IsGoodLine (item_line d item)) items
both d [] a b = tt
both d (item ∷ items) a b = (good_line d item a.0 b.0, both d items a.1 b.1)

-- the cards of the lines say their items
said_each : (d : DeckView) (number : ℕ) (items : List Item) → AllByRecursion (CanBeWritten d) items → AllByRecursion (λ (item : Item). IsGoodLine (item_line d item)) items
    → SpellEach d (cards_from number (map (item_line d) items)) items
said_each d number [] h good = refl
said_each d number (item ∷ items) h good = rw good.0.said (item_said d item number h.0, said_each d (number + 1) items h.1 good.1)

-- lines of at most 80 bytes, with their line feeds
text-length : (lines : List (List ℕ)) → AllByRecursion IsGoodLine lines → length (flat_map line_with_feed lines) ≤ 81 * length lines
text-length [] h = omega arith
text-length (line ∷ lines) h =
    let short : length line ≤ most_card_bytes = h.0.short in
    omega (arith, length-append (line_with_feed line) (flat_map line_with_feed lines), length-append line (line_feed ∷ []), text-length lines h.1)

-- the lines of the canonical text
abbrev pub lines_in : DeckView → List (List ℕ)
lines_in d = map (item_line d) (canon_items d)

good_items : (d : DeckView) → IsTrue (is_well_formed d) → AreShort d → AllByRecursion (λ (item : Item). IsGoodLine (item_line d item)) (canon_items d)
good_items d form short = both d (canon_items d) (canon_written d form) short

good_lines : (d : DeckView) → IsTrue (is_well_formed d) → AreShort d → AllByRecursion IsGoodLine (lines_in d)
good_lines d form short = mapped IsGoodLine (item_line d) (canon_items d) (good_items d form short)

canon-line_with_feed : (d : DeckView) → canon d ≡ flat_map line_with_feed (lines_in d)
canon-line_with_feed d = sym (flat_map-map line_with_feed (item_line d) (canon_items d))

-- The canonical text is cut back into the lines of its items.
pub canon-lines : (d : DeckView) → IsTrue (is_well_formed d) → AreShort d → lines_of (canon d) ≡ lines_in d
canon-lines d form short =
    ap lines_of (canon-line_with_feed d) ∙ ended_lines (lines_in d) (each IsGoodLine (Lacks line_feed) (λ line g. g.lacks) (lines_in d) (good_lines d form short))

few_lines : (d : DeckView) → IsTrue (is_well_formed d) → length (lines_in d) ≤ most_cards
few_lines d h = omega (arith, length-map (canon_items d) (item_line d), canon-count d, (limits d h).cards)

lines_fine : (d : DeckView) → IsTrue (is_well_formed d) → AreShort d → NoCutFault (lines_in d)
lines_fine d form short m some there =
    let few = few_lines d form in
    let inside : m - 1 < length (lines_in d) = omega (arith, some, there) in
    no_fault m (line_at (lines_in d) m) (omega (arith, there, few)) (at IsGoodLine [] (lines_in d) (m - 1) inside (good_lines d form short))

-- The canonical text of a well formed deck spells it, where no card is too long.
pub canon_spells : (d : DeckView) → IsTrue (is_well_formed d) → AreShort d → DeckText (canon d) d
canon_spells d form short =
    let lines = canon-lines d form short in
    let few = few_lines d form in
    record {
      cut = record {
        size = omega (arith, ap (λ (t : List ℕ). length t) (canon-line_with_feed d), text-length (lines_in d) (good_lines d form short), few);
        cards = subst (λ (ls : List (List ℕ)). NoCutFault ls) (sym lines) (lines_fine d form short);
      };
      spelled = subst (λ (ls : List (List ℕ)). SpellsDeck (cards_from 1 ls) d) (sym lines) (record {
        region = has_region d.limit d.sdwa;
        oper = not (eqb (length d.commands) 0);
        blocks = canon_blocks d;
        programs = canon_programs_in d.programs d.units;
        units = canon_units_in d.programs d.units;
        limit = λ none. eqb-true d.limit default_entries (back (eqb d.limit default_entries) (left_out none).0);
        sdwa = λ none. back d.sdwa (left_out none).1;
        commands = λ none. nothing d.commands (eqb-true (length d.commands) 0 (back (eqb (length d.commands) 0) (no (not (eqb (length d.commands) 0)) none)));
        each = said_each d 1 (canon_items d) (canon_written d form) (good_items d form short);
      });
      well_formed = form;
    }
  where
    no : (t : Bool) → IsTrue (not t) → t ≡ false
    no true e = absurd cc
    no false e = refl

    back : (t : Bool) → not t ≡ false → t ≡ true
    back true e = refl
    back false e = absurd cc

    -- both operands of REGION are at their default where it isn't written
    left_out : IsTrue (not (has_region d.limit d.sdwa)) → (not (eqb d.limit default_entries) ≡ false) × (not d.sdwa ≡ false)
    left_out none = or_parts (not (eqb d.limit default_entries)) (not d.sdwa) (no (has_region d.limit d.sdwa) none)

    nothing : {A : Type 0} (xs : List A) → length xs ≡ 0 → xs ≡ []
    nothing [] e = refl
    nothing (x ∷ xs) e = absurd (omega (arith, e))

-- the line of the item is short
abbrev pub is_short : DeckView → Item → Bool
is_short d item = leb (length (item_line d item)) most_card_bytes

-- A deck of which both tests are computed is spelled by some bytes.
pub tested_is_spelled : (d : DeckView) → IsTrue (is_well_formed d) → IsTrue (list_all (is_short d) (canon_items d)) → IsSpelled d
tested_is_spelled d form short =
    let fits = each_tested (is_short d) (λ (item : Item). length (item_line d item) ≤ most_card_bytes) (λ item t. leb-true _ most_card_bytes t) (canon_items d) short in
    ∣ (canon d, canon_spells d form fits) ∣₁
