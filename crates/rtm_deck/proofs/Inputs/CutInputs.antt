-- What is read is spelled, and what is refused is the first fault.
use Rattle.std.proofs.Common.{◌≡◌, ℕ, List, take, Option, Some, None, subst}
use Rattle.std.specs.Prelude.{Result, Ok, Err, length}
use Rattle.std.proofs.Math.Seq.{take-length}
use Rattle.rtm_cards.specs.Lines.{lines_of}
use Rattle.rtm_cards.specs.Cards.{CardText, cards_from}
use Rattle.rtm_cards.specs.Faults.{lines_before}
use Rattle.rtm_cards.specs.declared.fault.CutFault.{CutFault}
use Rattle.rtm_deck_items.specs.View.{DeckView}
use Rattle.rtm_deck_items.specs.Spelling.{DeckText}
use Rattle.rtm_deck_items.specs.Faults.{IsFirstFault}
use Rattle.rtm_deck.specs.inner.View.{Refusal, ScanView}
use Rattle.rtm_deck.specs.inner.Seen.{nothing_seen}
use Rattle.rtm_deck.specs.declared.fault.DeckFault.{DeckFault}
use Rattle.rtm_deck.specs.declared.fault.DeckFault.TheVariants.{Memory, Refused}
use Rattle.rtm_deck.specs.Refusal.{IsRefusalOf}
use Rattle.rtm_deck.specs.inner.References.{refusal}
use Rattle.rtm_deck.specs.inner.Reader.{read_cards, deck_or_fault, scan, Gives}
use Rattle.rtm_deck.proofs.Inputs.CutCards.{IsCut}
use Rattle.rtm_deck.proofs.Faults.FirstFault.{refusal_law}
use Rattle.rtm_deck.proofs.Decks.SpelledDeck.{deck_is_spelled}

-- the cards and lines of a cut input
abbrev reading : List ℕ → ℕ → Option CutFault → Result DeckView Refusal
reading bytes lines fault = read_cards (cards_from 1 (take lines (lines_of bytes))) lines fault

of_cut : (bytes : List ℕ) (cards : List CardText) (lines : ℕ) (fault : Option CutFault) (y : Result DeckView Refusal) → IsCut bytes cards lines fault → read_cards cards lines fault ≡ y → reading bytes (lines_before bytes fault) fault ≡ y
of_cut bytes cards lines fault y cut is =
    subst (λ (n : ℕ). reading bytes n fault ≡ y) cut.lines_are (subst (λ (cs : List CardText). read_cards cs lines fault ≡ y) cut.cards_are is)

-- behind a fault of cutting no deck is read
pub never_judged : (n : ℕ) (f : CutFault) (d : DeckView) (t : Result ScanView Refusal) → deck_or_fault n (Some f) t ≡ Ok d → ⊥
never_judged n f d (Ok t) e = absurd cc
never_judged n f d (Err r) e = absurd cc

-- a deck that is read is spelled
pub read-spelled : (bytes : List ℕ) (cards : List CardText) (lines : ℕ) (fault : Option CutFault) (d : DeckView) →
    IsCut bytes cards lines fault → read_cards cards lines fault ≡ Ok d → DeckText bytes d
read-spelled bytes cards lines None d cut is =
    let all = lines_of bytes in
    deck_is_spelled bytes d cut.fault_is
    (subst (λ (l : List (List ℕ)). read_cards (cards_from 1 l) (length all) None ≡ Ok d) (take-length all) (of_cut bytes cards lines None (Ok d) cut is))
read-spelled bytes cards lines (Some f) d cut is = absurd (never_judged lines f d (scan _ nothing_seen cards) is)

-- a refusal is the first fault
pub refused-first : (bytes : List ℕ) (cards : List CardText) (lines : ℕ) (fault : Option CutFault) (r : Refusal) →
    IsCut bytes cards lines fault → read_cards cards lines fault ≡ Err r → IsFirstFault bytes r.card r.why
refused-first bytes cards lines fault r cut is = refusal_law bytes fault r cut.fault_is (of_cut bytes cards lines fault (Err r) cut is)

-- what a call refuses
pub refused-refusal : {A : Type 0} (P : A → DeckView → Type 0) (bytes : List ℕ) (cards : List CardText) (lines : ℕ) (fault : Option CutFault) (e : DeckFault) →
    IsCut bytes cards lines fault → Gives P (Err e) (read_cards cards lines fault) → IsRefusalOf bytes e
refused-refusal P bytes cards lines fault Memory cut gives = tt
refused-refusal P bytes cards lines fault (Refused card why) cut gives = refused-first bytes cards lines fault (refusal card why) cut gives
