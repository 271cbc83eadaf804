-- What a call gives.
use Rattle.std.proofs.Common.{◌≡◌, ◌∙◌, refl, sym, ap, subst}
use Rattle.std.specs.Prelude.{ℕ, Option, Result, Ok, Err}
use Rattle.rtm_cards.specs.declared.fault.CutFault.{CutFault}
use Rattle.rtm_deck.specs.declared.fault.DeckFault.{DeckFault}
use Rattle.rtm_deck.specs.declared.fault.DeckFault.TheVariants.{Memory, Refused}
use Rattle.rtm_deck_items.specs.View.{DeckView}
use Rattle.rtm_deck.specs.inner.View.{ScanView, Refusal}
use Rattle.rtm_deck.specs.inner.References.{refusal}
use Rattle.rtm_deck.specs.inner.Reader.{Gives, Finds, deck_or_fault, deck_if_named}

-- want of memory is free
pub gives-memory : {A B : Type 0} (P : A → B → Type 0) (r : Result A DeckFault) (e : DeckFault) (y : Result B Refusal) → r ≡ Err e → e ≡ Memory → Gives P r y
gives-memory P r e y is memory = subst (λ x. Gives P x y) (sym (is ∙ ap Err memory)) tt

-- a value is what is given
pub gives-value : {A : Type 0} (x : A) (y : Result A Refusal) → Gives (λ a b. a ≡ b) (Ok x) y → y ≡ Ok x
gives-value x (Ok z) h = ap Ok (sym h)
gives-value x (Err r) h = absurd h

-- a fault of form is what is judged
pub gives-deck_or_fault : {A B : Type 0} (P : A → ScanView → Type 0) (Q : B → DeckView → Type 0) (e : DeckFault) (y : Result ScanView Refusal) (lines : ℕ) (fault : Option CutFault) →
    Gives P (Err e) y → Gives Q (Err e) (deck_or_fault lines fault y)
gives-deck_or_fault P Q Memory y lines fault h = tt
gives-deck_or_fault P Q (Refused card why) y lines fault h = ap (deck_or_fault lines fault) h

-- a name that isn't there is what is named
pub gives-deck_if_named : (A : Type 0) {B : Type 0} (Q : B → DeckView → Type 0) (e : DeckFault) (t : ScanView) (y : Option Refusal) →
    Finds {A = A} (Err e) y → Gives Q (Err e) (deck_if_named t y)
gives-deck_if_named A Q Memory t y h = tt
gives-deck_if_named A Q (Refused card why) t y h = ap (deck_if_named t) h

-- a call that gives a value gives that of what it has to give
pub given-value : {A B : Type 0} (P : A → B → Type 0) (x : A) (y : Result B Refusal) → Gives P (Ok x) y → (b : B) × (y ≡ Ok b) × P x b
given-value P x (Ok b) h = (b, refl, h)
given-value P x (Err r) h = absurd h

-- where a refusal is that of all, want of memory is free
pub gives-refused : {A B C D : Type 0} (P : A → B → Type 0) (Q : C → D → Type 0) (e : DeckFault) (y : Result B Refusal) (all : Result D Refusal) → Gives P (Err e) y
    → ((r : Refusal) → y ≡ Err r → all ≡ Err r) → Gives Q (Err e) all
gives-refused P Q Memory y all h refused = tt
gives-refused P Q (Refused card why) y all h refused = refused (refusal card why) h
