-- What the laws of births and deaths take from the soundness of legal histories.
use Rattle.std.proofs.Common.{ℕ, ◌≤◌, List, length, subst}
use Rattle.std.proofs.lemmas.List.{length-take-le}
use Rattle.std.specs.Prelude.{IsTrue, take}
use Rattle.rtm_deck_items.specs.View.{DeckView}
use Rattle.rtm_deck_items.specs.WellFormed.{is_well_formed}
use Rattle.rtm_model.specs.declared.entry.Entry.{Entry}
use Rattle.rtm_model.specs.inner.Applies.{CanApply}
use Rattle.rtm_model.specs.Legal.{Legal}
use Rattle.rtm_model.specs.Moments.{IsAt, before}
use Rattle.rtm_model.specs.inner.Soundness.{IsSound}
use Rattle.rtm_law_sound.proofs.Histories.{each_applies, prefix_legal, world_sound}

-- the deck is well formed, each world on the way is sound, and each entry can be applied to the world before it
pub record IsSoundHistory (d : DeckView) (history : List Entry) : Type 0 where
  pub deck : IsTrue (is_well_formed d)
  pub worlds : (k : ℕ) → k ≤ length history → IsSound d k (before d history k)
  pub entries : (k : ℕ) (e : Entry) → IsAt history k e → CanApply d (before d history k) e

pub sound_history : (d : DeckView) (history : List Entry) → IsTrue (is_well_formed d) → Legal d history → IsSoundHistory d history
sound_history d history deck legal = record {
  deck = deck;
  worlds = λ k h. subst (λ (n : ℕ). IsSound d n (before d history k)) (length-take-le k history h) (world_sound d (take k history) deck (prefix_legal d history k legal));
  entries = λ k e at. each_applies d history k e deck legal at;
}
