-- The deck that an input spells, or its first fault, computed. What they are is said by DeckText and IsFirstFault of
-- rtm_deck_items: what is read keeps them by the laws of proofs/.
use Rattle.std.specs.Prelude.{◌≡◌, ℕ, ◌+◌, ◌==◌, if◌then◌else◌, List, [], ◌∷◌, ◌++◌, length, Option, Some, None, Result, Ok, Err}
use Rattle.rtm_cards.specs.Cards.{CardText}
use Rattle.rtm_cards.specs.declared.fault.CutFault.{CutFault}
use Rattle.rtm_deck_items.specs.declared.why.Why.{Why}
use Rattle.rtm_deck_items.specs.declared.why.Why.TheVariants.{NoJobStep, NoEnd}
use Rattle.rtm_deck_items.specs.Faults.{why_of_cut}
use Rattle.rtm_deck_items.specs.View.{DeckView}
use Rattle.rtm_deck.specs.declared.fault.DeckFault.{DeckFault}
use Rattle.rtm_deck.specs.declared.fault.DeckFault.TheVariants.{Memory, Refused}
use Rattle.rtm_deck.specs.inner.View.{ReadView, SeenView, ScanView, Refusal}
use Rattle.rtm_deck.specs.inner.Roles.{role_of}
use Rattle.rtm_deck.specs.inner.Seen.{nothing_seen, after, read_card}
use Rattle.rtm_deck.specs.inner.References.{refusal, first_nameless}
use Rattle.rtm_deck.specs.inner.Building.{deck_of}

-- what was read, and seen behind it
abbrev pub scan_of : List ReadView → SeenView → ScanView
scan_of reads seen = record { reads = reads; seen = seen }

-- how it goes on behind a card
abbrev pub scan_on : ℕ → Result ReadView Why → (ReadView → Result ScanView Refusal) → Result ScanView Refusal
scan_on number (Err why) others = Err (refusal number why)
scan_on number (Ok r) others = others r

-- what was read and seen behind one card more
abbrev pub scan_next : ScanView → CardText → Result ScanView Refusal
scan_next t c =
    scan_on c.number (read_card t.seen c) (λ r. Ok (scan_of (t.reads ++ r ∷ []) (after t.seen (role_of r.form) r.name)))

-- the cards behind those that were read, up to the first that breaks a rule of form
abbrev pub scan : List ReadView → SeenView → List CardText → Result ScanView Refusal
scan reads s [] = Ok (scan_of reads s)
scan reads s (c ∷ cs) =
    scan_on c.number (read_card s c) (λ r. scan (reads ++ r ∷ []) (after s (role_of r.form) r.name) cs)

-- the deck, where each name is there
abbrev pub deck_if_named : ScanView → Option Refusal → Result DeckView Refusal
deck_if_named t (Some r) = Err r
deck_if_named t None = Ok (deck_of t)

-- the fault at the card behind the last
abbrev pub why_unended : SeenView → Why
why_unended s = if length s.tasks == 0 then NoJobStep else NoEnd

-- the deck of cards that break no rule of form, where that many lines are there
abbrev pub deck_if_ended : ℕ → ScanView → Result DeckView Refusal
deck_if_ended lines t =
    if t.seen.ended then deck_if_named t (first_nameless t.seen [] t.reads) else Err (refusal (lines + 1) (why_unended t.seen))

-- a fault of form comes before that of cutting, which stands behind all cards that were cut
abbrev pub deck_or_fault : ℕ → Option CutFault → Result ScanView Refusal → Result DeckView Refusal
deck_or_fault lines fault (Err r) = Err r
deck_or_fault lines (Some fault) (Ok t) = Err (refusal fault.card (why_of_cut fault.why))
deck_or_fault lines None (Ok t) = deck_if_ended lines t

-- the deck that the cards before the fault of cutting spell, or the first fault
abbrev pub read_cards : List CardText → ℕ → Option CutFault → Result DeckView Refusal
read_cards cards lines fault = deck_or_fault lines fault (scan [] nothing_seen cards)

-- A call that answers so gives that: the value or the refusal, but for want of memory.
abbrev pub Gives : {A B : Type 0} → (A → B → Type 0) → Result A DeckFault → Result B Refusal → Type 0
Gives P (Ok x) (Ok y) = P x y
Gives P (Ok x) (Err r) = ⊥
Gives P (Err Memory) y = Unit {0}
Gives P (Err (Refused card why)) y = y ≡ Err (refusal card why)

-- A call that looks for names answers so: nothing, or the refusal, but for want of memory.
abbrev pub Finds : {A : Type 0} → Result A DeckFault → Option Refusal → Type 0
Finds (Ok x) y = y ≡ None
Finds (Err Memory) y = Unit {0}
Finds (Err (Refused card why)) y = y ≡ Some (refusal card why)
