-- The text spells the deck: for each number of tasks the deck is well formed, and the text is its canonical one.
use Rattle.std.proofs.Common.{◌≡◌, ℕ, ◌≤◌, refl, sym, subst, List, length, arith}
use Rattle.std.specs.Prelude.{IsTrue, bytes_eq}
use Rattle.std.specs.List.{list_all}
use Rattle.std.proofs.lemmas.Bool.{leb-true}
use Rattle.rtm_cards.specs.Limits.{most_card_bytes}
use Rattle.rtm_deck_operands.specs.Numeral.{decimal_of}
use Rattle.rtm_deck_items.specs.Items.{Item}
use Rattle.rtm_deck_items.specs.Spelling.{DeckText}
use Rattle.rtm_deck_items.specs.WellFormed.{is_well_formed}
use Rattle.rtm_deck_items.specs.Canon.{item_line, canon_items, canon}
use Rattle.rtm_deck_canon.proofs.Each.{each_tested}
use Rattle.rtm_deck_canon.proofs.CanonLaws.{is_short, canon_spells, AreShort}
use Rattle.rtm_deck_load.specs.Counts.{one_to}
use Rattle.rtm_deck_load.specs.Deck.{load_deck}
use Rattle.rtm_deck_load.specs.Text.{load_text}
use Rattle.rtm_deck_load.proofs.Numbers.{each_number, equal}

well_formed : (n : ℕ) → 1 ≤ n → n ≤ 60 → IsTrue (is_well_formed (load_deck n))
unfolding decimal_of one_to load_deck
well_formed n least most = each_number (λ (k : ℕ). is_well_formed (load_deck k)) 1 60 n least (omega arith) refl

short : (n : ℕ) → 1 ≤ n → n ≤ 60 → AreShort (load_deck n)
unfolding decimal_of one_to load_deck
short n least most =
    each_tested (is_short (load_deck n)) (λ (item : Item). length (item_line (load_deck n) item) ≤ most_card_bytes) (λ item t. leb-true _ most_card_bytes t) (canon_items (load_deck n))
    (each_number (λ (k : ℕ). list_all (is_short (load_deck k)) (canon_items (load_deck k))) 1 60 n least (omega arith) refl)

canonical : (n : ℕ) → 1 ≤ n → n ≤ 60 → load_text n ≡ canon (load_deck n)
unfolding decimal_of one_to load_deck load_text
canonical n least most =
    equal (load_text n) (canon (load_deck n)) (each_number (λ (k : ℕ). bytes_eq (load_text k) (canon (load_deck k))) 1 60 n least (omega arith) refl)

pub spelled : (n : ℕ) → 1 ≤ n → n ≤ 60 → DeckText (load_text n) (load_deck n)
spelled n least most =
    subst (λ (text : List ℕ). DeckText text (load_deck n)) (sym (canonical n least most)) (canon_spells (load_deck n) (well_formed n least most) (short n least most))
