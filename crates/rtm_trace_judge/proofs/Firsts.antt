-- The answers exclude each other.
use Rattle.std.proofs.Common.{◌≡◌, ℕ, zero, suc, ◌<◌, ◌≤◌, List, [], ◌∷◌, Option, Some, length, take, refl, sym, ap, subst, ◌∙◌, arith, take-take}
use Rattle.std.specs.Prelude.{slice_get}
use Rattle.rtm_deck_items.specs.View.{DeckView}
use Rattle.rtm_model.specs.declared.entry.End.{End}
use Rattle.rtm_model.specs.declared.entry.Entry.{Entry}
use Rattle.rtm_model.specs.Advance.{world}
use Rattle.rtm_model.specs.Legal.{Legal, MayFollow}
use Rattle.rtm_law_sound.proofs.Histories.{Stands, stands_at}
use Rattle.rtm_system.specs.Turned.{IsNext, wanted_entry}
use Rattle.rtm_trace_judge.specs.Judged.{IsFirstIllegal, IsJudged, IsWrongEnd}

taken_length : (es : List Entry) (i : ℕ) (e : Entry) → slice_get es i ≡ Some e → length (take i es) ≡ i
taken_length [] i e at = absurd cc
taken_length (x ∷ es) zero e at = refl
taken_length (x ∷ es) (suc i) e at = omega (arith, taken_length es i e at)

same_entry : (a b : Entry) (o : Option Entry) → o ≡ Some a → o ≡ Some b → a ≡ b
same_entry a b o e f = cc

in_front : (es : List Entry) (i j : ℕ) → i < j → slice_get (take j es) i ≡ slice_get es i
in_front es i zero h = absurd (omega (arith, h))
in_front [] zero (suc j) h = refl
in_front [] (suc i) (suc j) h = refl
in_front (x ∷ es) zero (suc j) h = refl
in_front (x ∷ es) (suc i) (suc j) h = let k : i < j = omega (arith, h) in in_front es i j k

-- each entry of a legal history may stand behind those before it
next_there : (d : DeckView) (es : List Entry) (i : ℕ) (e : Entry) → Legal d es → slice_get es i ≡ Some e → IsNext d (take i es) e
next_there d es i e legal at =
    let stands = stands_at d es i e legal at in
    let n : length (take i es) ≡ i = taken_length es i e at in
    record {
      room = omega (arith, n, Stands.below stands);
      may = subst (λ (m : ℕ). MayFollow d (world d (take i es)) m e e.what) (sym n) (Stands.follows stands);
    }

pub legal_has_none : (d : DeckView) (es : List Entry) (i : ℕ) (a : Option Entry) → Legal d es → IsFirstIllegal d es i a → ⊥
legal_has_none d es i a legal h = IsFirstIllegal.illegal h (next_there d es i (IsFirstIllegal.entry h) legal (IsFirstIllegal.there h))

pub one_end : (d : DeckView) (es : List Entry) (end stated : End) (found : Option End) → IsJudged d es end → IsWrongEnd d es end stated found → ⊥
one_end d es end stated found h w =
    IsWrongEnd.other w (IsWrongEnd.found_is w ∙ IsJudged.ends h ∙ ap (λ (x : End). Some x) (sym (IsWrongEnd.stated_is w)))

-- no first illegal entry stands before another
not_before : (d : DeckView) (es : List Entry) (i j : ℕ) (a b : Option Entry) → IsFirstIllegal d es i a → IsFirstIllegal d es j b → i < j → ⊥
not_before d es i j a b h g less =
    let there : slice_get (take j es) i ≡ Some (IsFirstIllegal.entry h) = in_front es i j less ∙ IsFirstIllegal.there h in
    let next = next_there d (take j es) i (IsFirstIllegal.entry h) (IsFirstIllegal.before g) there in
    let at_most : i ≤ j = omega (arith, less) in
    IsFirstIllegal.illegal h (subst (λ (xs : List Entry). IsNext d xs (IsFirstIllegal.entry h)) (take-take i j es at_most) next)

neither : (i j : ℕ) → (i < j → ⊥) → (j < i → ⊥) → i ≡ j
neither i j f g = grind arith

pub one_index : (d : DeckView) (es : List Entry) (i j : ℕ) (a b : Option Entry) → IsFirstIllegal d es i a → IsFirstIllegal d es j b → i ≡ j
one_index d es i j a b h g = neither i j (not_before d es i j a b h g) (not_before d es j i b a g h)

pub one_wanted : (d : DeckView) (es : List Entry) (i j : ℕ) (a b : Option Entry) → IsFirstIllegal d es i a → IsFirstIllegal d es j b → a ≡ b
one_wanted d es i j a b h g =
    let same : i ≡ j = one_index d es i j a b h g in
    let there : slice_get es i ≡ Some (IsFirstIllegal.entry g) = ap (λ (k : ℕ). slice_get es k) same ∙ IsFirstIllegal.there g in
    let entry : IsFirstIllegal.entry h ≡ IsFirstIllegal.entry g = same_entry (IsFirstIllegal.entry h) (IsFirstIllegal.entry g) (slice_get es i) (IsFirstIllegal.there h) there in
    IsFirstIllegal.wanted_is h
    ∙ ap (λ (k : ℕ). wanted_entry d (take k es) (Entry.unit (IsFirstIllegal.entry h))) same
    ∙ ap (λ (e : Entry). wanted_entry d (take j es) (Entry.unit e)) entry
    ∙ sym (IsFirstIllegal.wanted_is g)
