-- Legal histories: what lives after one is sound, a prefix of one is one, and one more entry makes another.
use Rattle.std.proofs.Common.{◌≡◌, ℕ, zero, suc, ◌+◌, ◌<◌, List, [], ◌∷◌, ◌++◌, length, take, Some, refl, sym, ap, subst, ◌∙◌, arith}
use Rattle.std.specs.Prelude.{IsTrue, slice_get}
use Rattle.rtm_deck_items.specs.View.{DeckView}
use Rattle.rtm_deck_items.specs.WellFormed.{is_well_formed}
use Rattle.rtm_model.specs.declared.entry.Entry.{Entry}
use Rattle.rtm_model.specs.inner.Applies.{CanApply}
use Rattle.rtm_model.specs.Advance.{advance, world, world_from}
use Rattle.rtm_model.specs.Legal.{Legal, LegalFrom, MayFollow}
use Rattle.rtm_model.specs.Moments.{IsAt, before}
use Rattle.rtm_model.specs.inner.Soundness.{IsCoreSound, IsSound}
use Rattle.rtm_model.specs.World.{World, core_at, start}
use Rattle.rtm_law_sound_region.proofs.Acts.{region_follows}
use Rattle.rtm_law_sound_region.proofs.Region.{RegionIsSound}
use Rattle.rtm_law_sound_region.proofs.Start.{region_at_start}
use Rattle.rtm_law_sound_units.proofs.CanNext.{follows_applies}
use Rattle.rtm_law_sound_units.proofs.CoresSound.{cores_at_start, cores_kept}

-- what is sound of each unit and of what they share
joined : (d : DeckView) (n : ℕ) (w : World) → ((u : ℕ) → IsCoreSound d n (core_at u w)) → RegionIsSound d n w → IsSound d n w
joined d n w cores r = record {
  units_len = r.units_len;
  lives_len = r.lives_len;
  owners_len = r.owners_len;
  cores = cores;
  blocks = r.blocks;
  master_quiet = r.master_quiet;
  dormant = r.dormant;
  estais = r.estais;
  pending = r.pending;
  quiet = r.quiet;
  holdings = r.holdings;
  managers_few = r.managers_few;
  managers = r.managers;
  managers_fall = r.managers_fall;
  memory_end = r.memory_end;
}

-- before the first entry, and after each that may follow
pub sound_at_start : (d : DeckView) → IsTrue (is_well_formed d) → IsSound d 0 (start d)
sound_at_start d f = joined d 0 (start d) (cores_at_start d f) (region_at_start d f)

pub sound_after : (d : DeckView) (n : ℕ) (w : World) (e : Entry) → IsTrue (is_well_formed d) → IsSound d n w → MayFollow d w n e e.what → IsSound d (n + 1) (advance d w n e)
sound_after d n w e f s h =
    let can = follows_applies d n w e f s h in
    joined d (n + 1) (advance d w n e) (cores_kept d n w e f s can) (region_follows d n w e f s can h)

sound_from : (d : DeckView) (n : ℕ) (w : World) (es : List Entry) → IsTrue (is_well_formed d) → IsSound d n w → LegalFrom d w n es → IsSound d (n + length es) (world_from d w n es)
sound_from d n w [] f s h = let k : n ≡ n + 0 = omega arith in subst (λ (m : ℕ). IsSound d m w) k s
sound_from d n w (e ∷ es) f s h =
    let k : n + 1 + length es ≡ n + suc (length es) = omega arith in
    subst (λ (m : ℕ). IsSound d m (world_from d (advance d w n e) (n + 1) es)) k (sound_from d (n + 1) (advance d w n e) es f (sound_after d n w e f s h.1) h.2)

-- the world after a legal history is sound
pub world_sound : (d : DeckView) (es : List Entry) → IsTrue (is_well_formed d) → Legal d es → IsSound d (length es) (world d es)
unfolding world Legal
world_sound d es f h =
    let k : 0 + length es ≡ length es = omega arith in
    subst (λ (m : ℕ). IsSound d m (world_from d (start d) 0 es)) k (sound_from d 0 (start d) es f (sound_at_start d f) h)

-- ---- one more entry
world_from-append : (d : DeckView) (w : World) (n : ℕ) (es : List Entry) (e : Entry) → world_from d w n (es ++ e ∷ []) ≡ advance d (world_from d w n es) (n + length es) e
world_from-append d w n [] e = let k : n + 0 ≡ n = omega arith in ap (λ (m : ℕ). advance d w m e) (sym k)
world_from-append d w n (x ∷ es) e =
    let k : n + 1 + length es ≡ n + suc (length es) = omega arith in
    world_from-append d (advance d w n x) (n + 1) es e ∙ ap (λ (m : ℕ). advance d (world_from d (advance d w n x) (n + 1) es) m e) k

-- the world after one more entry
pub world-append : (d : DeckView) (es : List Entry) (e : Entry) → world d (es ++ e ∷ []) ≡ advance d (world d es) (length es) e
unfolding world
world-append d es e =
    let k : 0 + length es ≡ length es = omega arith in
    world_from-append d (start d) 0 es e ∙ ap (λ (m : ℕ). advance d (world_from d (start d) 0 es) m e) k

LegalFrom-append : (d : DeckView) (w : World) (n : ℕ) (es : List Entry) (e : Entry) → LegalFrom d w n es → n + length es < d.limit → MayFollow d (world_from d w n es) (n + length es) e e.what → LegalFrom d w n (es ++ e ∷ [])
LegalFrom-append d w n [] e h room given =
    let k : n + 0 ≡ n = omega arith in
    (omega arith, subst (λ (m : ℕ). MayFollow d w m e e.what) k given, tt)
LegalFrom-append d w n (x ∷ es) e h room given =
    let k : n + suc (length es) ≡ n + 1 + length es = omega arith in
    (h.0, h.1, LegalFrom-append d (advance d w n x) (n + 1) es e h.2 (omega arith) (subst (λ (m : ℕ). MayFollow d (world_from d (advance d w n x) (n + 1) es) m e e.what) k given))

-- an entry that may follow makes another legal history
pub Legal-append : (d : DeckView) (es : List Entry) (e : Entry) → Legal d es → length es < d.limit → MayFollow d (world d es) (length es) e e.what → Legal d (es ++ e ∷ [])
unfolding world Legal
Legal-append d es e h room given =
    let k : length es ≡ 0 + length es = omega arith in
    LegalFrom-append d (start d) 0 es e h (omega arith) (subst (λ (m : ℕ). MayFollow d (world_from d (start d) 0 es) m e e.what) k given)

-- nothing has happened
pub world-nil : (d : DeckView) → world d [] ≡ start d
unfolding world
world-nil d = refl

pub Legal-nil : (d : DeckView) → Legal d []
unfolding Legal
Legal-nil d = tt

-- ---- prefixes
prefix_from : (d : DeckView) (w : World) (n : ℕ) (es : List Entry) (i : ℕ) → LegalFrom d w n es → LegalFrom d w n (take i es)
prefix_from d w n es zero h = tt
prefix_from d w n [] (suc i) h = tt
prefix_from d w n (e ∷ es) (suc i) h = (h.0, h.1, prefix_from d (advance d w n e) (n + 1) es i h.2)

-- a prefix of a legal history is legal
pub prefix_legal : (d : DeckView) (es : List Entry) (i : ℕ) → Legal d es → Legal d (take i es)
unfolding Legal
prefix_legal d es i h = prefix_from d (start d) 0 es i h

-- each entry stands where it may follow those before it, and below the limit
pub record Stands (d : DeckView) (w : World) (n : ℕ) (e : Entry) : Type 0 where
  pub below : n < d.limit
  pub follows : MayFollow d w n e e.what

stands_from : (d : DeckView) (w : World) (n : ℕ) (es : List Entry) (i : ℕ) (e : Entry) → LegalFrom d w n es → slice_get es i ≡ Some e → Stands d (world_from d w n (take i es)) (n + i) e
stands_from d w n [] i e h at = absurd cc
stands_from d w n (x ∷ es) zero e h at =
    let same : x ≡ e = cc in
    let k : n ≡ n + 0 = omega arith in
    subst (λ (m : ℕ). Stands d w m e) k (subst (λ (y : Entry). Stands d w n y) same (record { below = h.0; follows = h.1 }))
stands_from d w n (x ∷ es) (suc i) e h at =
    let k : n + 1 + i ≡ n + suc i = omega arith in
    subst (λ (m : ℕ). Stands d (world_from d (advance d w n x) (n + 1) (take i es)) m e) k (stands_from d (advance d w n x) (n + 1) es i e h.2 at)

pub stands_at : (d : DeckView) (es : List Entry) (i : ℕ) (e : Entry) → Legal d es → IsAt es i e → Stands d (before d es i) i e
unfolding world Legal
stands_at d es i e h at =
    let k : 0 + i ≡ i = omega arith in
    subst (λ (m : ℕ). Stands d (world_from d (start d) 0 (take i es)) m e) k (stands_from d (start d) 0 es i e h at)

below_length : (es : List Entry) (i : ℕ) (e : Entry) → slice_get es i ≡ Some e → length (take i es) ≡ i
below_length [] i e at = absurd cc
below_length (x ∷ es) zero e at = refl
below_length (x ∷ es) (suc i) e at = omega (arith, below_length es i e at)

-- the world before each entry of a legal history is sound
pub before_sound : (d : DeckView) (es : List Entry) (i : ℕ) (e : Entry) → IsTrue (is_well_formed d) → Legal d es → IsAt es i e → IsSound d i (before d es i)
before_sound d es i e f h at = subst (λ (m : ℕ). IsSound d m (before d es i)) (below_length es i e at) (world_sound d (take i es) f (prefix_legal d es i h))

-- and each entry could be applied
pub each_applies : (d : DeckView) (es : List Entry) (i : ℕ) (e : Entry) → IsTrue (is_well_formed d) → Legal d es → IsAt es i e → CanApply d (before d es i) e
each_applies d es i e f h at = follows_applies d i (before d es i) e f (before_sound d es i e f h at) (Stands.follows (stands_at d es i e h at))
