-- Bytes that spell a deck have no first fault.
use Rattle.std.proofs.Common.{ℕ, List, [], inl, inr}
use Rattle.std.specs.Prelude.{codes}
use Rattle.std.proofs.lemmas.Bool.{both_ways, not-true}
use Rattle.rtm_cards.specs.Lines.{lines_of}
use Rattle.rtm_cards.specs.Cards.{cards_from}
use Rattle.rtm_deck_items.specs.declared.why.Why.{Why}
use Rattle.rtm_deck_items.specs.View.{DeckView}
use Rattle.rtm_deck_items.specs.Spelling.{DeckText}
use Rattle.rtm_deck_items.specs.Faults.{has_operation, NoFormFault, LinesFault, IsFirstFault}
use Rattle.rtm_deck_spelling.proofs.FirstFault.{form_fault_and_none}
use Rattle.rtm_deck_spelling.proofs.NoFormFault.{no_form_fault, cut_from_one, cards_break_none}
use Rattle.rtm_deck_spelling.proofs.Found.{no_name_fault, cards_find_all, end_is_there}

-- no line of a deck has a fault of form
pub deck_has_no_form_fault : (bytes : List ℕ) (d : DeckView) → DeckText bytes d → NoFormFault [] 1 (lines_of bytes)
deck_has_no_form_fault bytes d t =
    no_form_fault [] 1 (lines_of bytes) (cut_from_one (lines_of bytes) t.cut.cards) (cards_break_none (cards_from 1 (lines_of bytes)) d t.spelled t.well_formed)

no_lines_fault : (bytes : List ℕ) (d : DeckView) (card : ℕ) (why : Why) → DeckText bytes d → LinesFault (lines_of bytes) card why → ⊥
no_lines_fault bytes d card why t (inl f) = form_fault_and_none [] 1 (lines_of bytes) card why f (deck_has_no_form_fault bytes d t)
no_lines_fault bytes d card why t (inr (inl f)) = both_ways (has_operation (codes "END") (cards_from 1 (lines_of bytes))) (not-true _ f.no_end) (end_is_there (cards_from 1 (lines_of bytes)) d t.spelled)
no_lines_fault bytes d card why t (inr (inr f)) =
    no_name_fault (cards_from 1 (lines_of bytes)) [] (cards_from 1 (lines_of bytes)) card why f.unfound (cards_find_all (cards_from 1 (lines_of bytes)) d t.spelled t.well_formed)

pub never_both : (bytes : List ℕ) (d : DeckView) (card : ℕ) (why : Why) → DeckText bytes d → IsFirstFault bytes card why → ⊥
never_both bytes d card why t f = no_lines_fault bytes d card why t (f.by_card t.cut.size)
