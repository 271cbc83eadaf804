-- The entry that was wanted fits the deck.
use Rattle.std.proofs.Common.{◌≡◌, ℕ, ◌<◌, ◌≤◌, Bool, true, false, cond, List, [], ◌∷◌, ◌++◌, length, Option, Some, None, refl, arith}
use Rattle.std.proofs.lemmas.Bool.Decides.{nat_tests}
use Rattle.std.specs.Prelude.{IfSome, IsTrue, nat_le}
use Rattle.std.specs.List.{AllByRecursion}
use Rattle.std.specs.Option.{option_map}
use Rattle.rtm_deck_items.specs.View.{DeckView}
use Rattle.rtm_deck_items.specs.WellFormed.{is_well_formed}
use Rattle.rtm_deck_items.proofs.FormFacts.{Limits, limits}
use Rattle.rtm_model.specs.declared.entry.Entry.{Entry}
use Rattle.rtm_model.specs.declared.entry.What.{What}
use Rattle.rtm_model.specs.Advance.{world}
use Rattle.rtm_model.specs.Fits.{Fits}
use Rattle.rtm_model.specs.Legal.{Legal}
use Rattle.rtm_model.specs.NextEntry.{next}
use Rattle.rtm_model.specs.Turns.{entry_of}
use Rattle.rtm_law_sound.proofs.Fitting.{all_fit}
use Rattle.rtm_law_sound.proofs.Histories.{Legal-append}
use Rattle.rtm_system.proofs.Following.{next_follows}
use Rattle.rtm_system.specs.Turned.{wanted_entry}

-- the index of an entry has 32 bits
pub index_small : (d : DeckView) (index : ℕ) → IsTrue (is_well_formed d) → index ≤ d.limit → index < 4294967296
index_small d index form h = omega (arith, h, Limits.most (limits d form))

last_of : (P : Entry → Type 0) (es : List Entry) (e : Entry) → AllByRecursion P (es ++ e ∷ []) → P e
last_of P [] e h = h.0
last_of P (x ∷ es) e h = last_of P es e h.1

below : (limit n : ℕ) → nat_le limit n ≡ false → n < limit
below limit n e = grind (arith, nat_tests)

fits_by : (d : DeckView) (es : List Entry) (u : ℕ) → IsTrue (is_well_formed d) → Legal d es → (full : Bool) → nat_le d.limit (length es) ≡ full → (o : Option What) → next d (world d es) u ≡ o
    → IfSome (cond full None (option_map (entry_of u) o)) (Fits d)
fits_by d es u form legal true e o n = tt
fits_by d es u form legal false e None n = tt
fits_by d es u form legal false e (Some what) n =
    last_of (Fits d) es (entry_of u what)
    (all_fit d (es ++ entry_of u what ∷ []) form (Legal-append d es (entry_of u what) legal (below d.limit (length es) e) (next_follows d (world d es) (length es) u what n)))

pub wanted_fits : (d : DeckView) (es : List Entry) (u : ℕ) → IsTrue (is_well_formed d) → Legal d es → IfSome (wanted_entry d es u) (Fits d)
wanted_fits d es u form legal = fits_by d es u form legal (nat_le d.limit (length es)) refl (next d (world d es) u) refl
