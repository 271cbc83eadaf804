-- What is spelled is read, and each input spells a deck or has a first fault.
use Rattle.std.proofs.Common.{◌≡◌, ℕ, List, [], take, length, Some, None, refl, sym, subst, inl, inr, ap}
use Rattle.std.specs.Prelude.{◌⊎◌, ◌↔◌, Result, Ok, Err, IfOk, IfErr}
use Rattle.std.proofs.Math.Seq.{take-length}
use Rattle.rtm_cards.specs.Lines.{lines_of}
use Rattle.rtm_cards.specs.Cards.{cards_from}
use Rattle.rtm_cards.specs.Faults.{HasNoFault, lines_before}
use Rattle.rtm_cards.specs.Faults.{IsFirstFault as IsFirstCutFault}
use Rattle.rtm_cards.specs.declared.fault.CutFault.{CutFault}
use Rattle.rtm_cards.proofs.FaultLaws.{fault_or_none}
use Rattle.rtm_deck_items.specs.declared.why.Why.{Why}
use Rattle.rtm_deck_items.specs.View.{DeckView}
use Rattle.rtm_deck_items.specs.Spelling.{DeckText}
use Rattle.rtm_deck_items.specs.Faults.{IsFirstFault}
use Rattle.rtm_deck_items.specs.Canon.{canon}
use Rattle.rtm_deck_spelling.proofs.OneDeck.{one_deck}
use Rattle.rtm_deck_spelling.proofs.NotBoth.{never_both}
use Rattle.rtm_deck_spelling.proofs.FirstFault.{one_fault_of_input}
use Rattle.rtm_deck_canon.proofs.CanonLaws.{canon_short, canon_spells}
use Rattle.rtm_deck.specs.declared.fault.DeckFault.{DeckFault}
use Rattle.rtm_deck.specs.declared.fault.DeckFault.TheVariants.{Memory, Refused}
use Rattle.rtm_deck.specs.inner.View.{Refusal}
use Rattle.rtm_deck.specs.inner.Seen.{nothing_seen}
use Rattle.rtm_deck.specs.inner.Reader.{read_cards, scan}
use Rattle.rtm_deck.specs.Refusal.{IsRefusalOf, IsThatDeck, IsThatRefusal}
use Rattle.rtm_deck.proofs.Faults.FirstFault.{refusal_law}
use Rattle.rtm_deck.proofs.Decks.SpelledDeck.{deck_is_spelled}
use Rattle.rtm_deck.proofs.Inputs.CutInputs.{never_judged}

pub that_deck : (bytes : List ℕ) (d : DeckView) (r : Result DeckView DeckFault) → IfOk r (λ deck. DeckText bytes deck) → IfErr r (IsRefusalOf bytes) → DeckText bytes d → IsThatDeck d r
that_deck bytes d (Ok deck) found refused h = one_deck bytes deck d found h
that_deck bytes d (Err Memory) found refused h = tt
that_deck bytes d (Err (Refused card why)) found refused h = never_both bytes d card why h refused

pub that_refusal : (bytes : List ℕ) (card : ℕ) (why : Why) (r : Result DeckView DeckFault) → IfOk r (λ deck. DeckText bytes deck) → IfErr r (IsRefusalOf bytes) → IsFirstFault bytes card why → IsThatRefusal card why r
that_refusal bytes card why (Ok deck) found refused h = never_both bytes deck card why found h
that_refusal bytes card why (Err Memory) found refused h = tt
that_refusal bytes card why (Err (Refused c w)) found refused h = one_fault_of_input bytes c card w why refused h

-- a deck, or a first fault
abbrev Either : List ℕ → Type 0
Either bytes = ((d : DeckView) × DeckText bytes d) ⊎ ((card : ℕ) × (why : Why) × IsFirstFault bytes card why)

without_fault : (bytes : List ℕ) (y : Result DeckView Refusal) → HasNoFault bytes → read_cards (cards_from 1 (lines_of bytes)) (length (lines_of bytes)) None ≡ y → Either bytes
without_fault bytes (Ok d) h e = inl (d, deck_is_spelled bytes d h e)
without_fault bytes (Err r) h e =
    inr (r.card, r.why, refusal_law bytes None r h (subst (λ l. read_cards (cards_from 1 l) (length (lines_of bytes)) None ≡ Err r) (sym (take-length (lines_of bytes))) e))

with_fault : (bytes : List ℕ) (f : CutFault) (y : Result DeckView Refusal) → IsFirstCutFault bytes f
    → read_cards (cards_from 1 (take (lines_before bytes (Some f)) (lines_of bytes))) (lines_before bytes (Some f)) (Some f) ≡ y → Either bytes
with_fault bytes f (Ok d) h e = absurd (never_judged (lines_before bytes (Some f)) f d (scan [] nothing_seen (cards_from 1 (take (lines_before bytes (Some f)) (lines_of bytes)))) e)
with_fault bytes f (Err r) h e = inr (r.card, r.why, refusal_law bytes (Some f) r h e)

-- each input spells a deck or has a first fault
pub deck_or_fault : (bytes : List ℕ) → Either bytes
deck_or_fault bytes = elim (fault_or_none bytes) [
  | inl h ↦ without_fault bytes (read_cards (cards_from 1 (lines_of bytes)) (length (lines_of bytes)) None) h refl
  | inr f ↦ with_fault bytes f.0 (read_cards (cards_from 1 (take (lines_before bytes (Some f.0)) (lines_of bytes))) (lines_before bytes (Some f.0)) (Some f.0)) f.1 refl
]

-- the canonical text of a deck that is spelled spells it
spelled_again : (d : DeckView) (bytes : List ℕ) → DeckText bytes d → DeckText (canon d) d
spelled_again d bytes h = canon_spells d h.well_formed (canon_short d bytes h)

-- a canonical text spells its deck alone
pub reads_back : (bytes : List ℕ) (d other : DeckView) → DeckText bytes d → DeckText (canon d) other → other ≡ d
reads_back bytes d other h g = one_deck (canon d) other d g (spelled_again d bytes h)

-- two inputs have one canonical text exactly where they spell one deck
pub same_text : (a b : List ℕ) (d e : DeckView) → DeckText a d → DeckText b e → (canon d ≡ canon e) ↔ (d ≡ e)
same_text a b d e h g = (λ same. one_deck (canon e) d e (subst (λ t. DeckText t d) same (spelled_again d a h)) (spelled_again e b g), λ same. ap canon same)
