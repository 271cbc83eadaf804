-- Histories entry by entry: what lives before each entry, and that each may follow.
use Rattle.std.proofs.Common.{◌≡◌, ℕ, zero, suc, ◌+◌, ◌<◌, List, [], ◌∷◌, length, take, Some, refl, sym, ap, subst, ◌∙◌, arith}
use Rattle.std.proofs.lemmas.List.{take_all}
use Rattle.std.specs.Prelude.{slice_get}
use Rattle.rtm_deck_items.specs.View.{DeckView}
use Rattle.rtm_model.specs.declared.entry.Entry.{Entry}
use Rattle.rtm_model.specs.Advance.{advance, world, world_from}
use Rattle.rtm_model.specs.Legal.{Legal, LegalFrom, MayFollow}
use Rattle.rtm_model.specs.Moments.{IsAt, before}
use Rattle.rtm_model.specs.World.{World, start}

-- one entry more
after_from : (d : DeckView) (w : World) (n : ℕ) (es : List Entry) (k : ℕ) (e : Entry) → slice_get es k ≡ Some e
    → world_from d w n (take (k + 1) es) ≡ advance d (world_from d w n (take k es)) (n + k) e
after_from d w n [] k e h = absurd cc
after_from d w n (x ∷ es) zero e h =
    let same : x ≡ e = cc in
    let k : n + 0 ≡ n = omega arith in
    subst (λ (y : Entry). advance d w n x ≡ advance d w (n + 0) y) same (ap (λ (m : ℕ). advance d w m x) (sym k))
after_from d w n (x ∷ es) (suc k) e h =
    let m : suc k + 1 ≡ suc (k + 1) = omega arith in
    let j : n + 1 + k ≡ n + suc k = omega arith in
    rw (m, ← j) (after_from d (advance d w n x) (n + 1) es k e h)

pub before-next : (d : DeckView) (history : List Entry) (k : ℕ) (e : Entry) → IsAt history k e
    → before d history (k + 1) ≡ advance d (before d history k) k e
unfolding world
before-next d history k e h = after_from d (start d) 0 history k e h ∙ ap (λ (m : ℕ). advance d (world_from d (start d) 0 (take k history)) m e) (omega arith)

-- before the first entry, and after the last
pub before-first : (d : DeckView) (history : List Entry) → before d history 0 ≡ start d
unfolding world
before-first d history = refl

pub before-all : (d : DeckView) (history : List Entry) → before d history (length history) ≡ world d history
before-all d history = ap (world d) (take_all (length history) history (omega arith))

-- each entry may follow those before it
may_from : (d : DeckView) (w : World) (n : ℕ) (es : List Entry) (k : ℕ) (e : Entry) → LegalFrom d w n es → slice_get es k ≡ Some e
    → MayFollow d (world_from d w n (take k es)) (n + k) e e.what
may_from d w n [] k e legal h = absurd cc
may_from d w n (x ∷ es) zero e legal h =
    let same : x ≡ e = cc in
    let k : n + 0 ≡ n = omega arith in
    subst (λ (y : Entry). MayFollow d w (n + 0) y y.what) same (rw k legal.1)
may_from d w n (x ∷ es) (suc k) e legal h =
    let j : n + 1 + k ≡ n + suc k = omega arith in
    rw (← j) (may_from d (advance d w n x) (n + 1) es k e legal.2 h)

pub may_follow : (d : DeckView) (history : List Entry) → Legal d history → (k : ℕ) (e : Entry) → IsAt history k e
    → MayFollow d (before d history k) k e e.what
unfolding Legal world
may_follow d history legal k e h =
    let m : 0 + k ≡ k = omega arith in
    subst (λ (i : ℕ). MayFollow d (world_from d (start d) 0 (take k history)) i e e.what) m (may_from d (start d) 0 history k e legal h)

-- an entry stands below the length
pub entry_at : (history : List Entry) (k : ℕ) → k < length history → (e : Entry) × IsAt history k e
entry_at [] k h = absurd (omega arith)
entry_at (e ∷ es) zero h = (e, refl)
entry_at (e ∷ es) (suc k) h = entry_at es k (omega arith)
