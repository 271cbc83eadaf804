-- The history that a single thread makes, from the first entry on.
use Rattle.std.proofs.Common.{◌≡◌, ℕ, zero, suc, ◌+◌, ◌≤◌, List, [], ◌∷◌, length, take, Option, Some, None, refl, sym, ap, subst, arith}
use Rattle.std.specs.Prelude.{IfSome, IsSome, is_some, slice_get, true}
use Rattle.std.proofs.lemmas.Bool.{le-leb}
use Rattle.rtm_deck_items.specs.View.{DeckView}
use Rattle.rtm_model.specs.declared.entry.End.{End}
use Rattle.rtm_model.specs.declared.entry.Entry.{Entry}
use Rattle.rtm_model.specs.Advance.{advance, world, world_from}
use Rattle.rtm_model.specs.Legal.{Legal, LegalFrom, MayFollow, end_in, end_of}
use Rattle.rtm_model.specs.Moments.{IsAt, before}
use Rattle.rtm_model.specs.Turns.{seq, seq_from, seq_more, seq_step, turn_after, turn_from}
use Rattle.rtm_model.specs.World.{World, start}
use Rattle.rtm_law_turns.proofs.Rounds.{full_ends, none_ends, room_in, step_behind, step_follows}

-- what it makes after an entry
abbrev rest_of : DeckView → World → ℕ → ℕ → ℕ → Entry → List Entry
rest_of d w n u more e = seq_from d (advance d w n e) (n + 1) (turn_after d u e.unit e.what) more

-- ---- it is legal
legal_more : (d : DeckView) (w : World) (n : ℕ) (o : Option End) (s : Option Entry) (rest : Entry → List Entry) → end_in d w n ≡ o → IfSome s (λ e. MayFollow d w n e e.what)
    → ((e : Entry) → LegalFrom d (advance d w n e) (n + 1) (rest e)) → LegalFrom d w n (seq_more o s rest)
legal_more d w n None None rest e may more = tt
legal_more d w n None (Some x) rest e may more = (room_in d w n e, may, more x)
legal_more d w n (Some end) s rest e may more = tt

legal_from : (d : DeckView) (w : World) (n u k : ℕ) → LegalFrom d w n (seq_from d w n u k)
legal_from d w n u zero = tt
legal_from d w n u (suc k) =
    legal_more d w n (end_in d w n) (seq_step d w n u) (rest_of d w n u k) refl (step_follows d w n u) (λ e. legal_from d (advance d w n e) (n + 1) (turn_after d u e.unit e.what) k)

pub seq_legal : (d : DeckView) → Legal d (seq d)
unfolding Legal seq
seq_legal d = legal_from d (start d) 0 0 d.limit

-- ---- it has an end

-- a history of n entries, after which w lives, has one with these after it
abbrev HasEnd : DeckView → World → ℕ → List Entry → Type 0
HasEnd d w n es = is_some (end_in d (world_from d w n es) (n + length es)) ≡ true

ended_here : (d : DeckView) (w : World) (n : ℕ) → is_some (end_in d w n) ≡ true → HasEnd d w n []
ended_here d w n e = let k : n ≡ n + 0 = omega arith in subst (λ (m : ℕ). is_some (end_in d w m) ≡ true) k e

ended_later : (d : DeckView) (w : World) (n : ℕ) (x : Entry) (es : List Entry) → HasEnd d (advance d w n x) (n + 1) es → HasEnd d w n (x ∷ es)
ended_later d w n x es e =
    let k : n + 1 + length es ≡ n + suc (length es) = omega arith in
    subst (λ (m : ℕ). is_some (end_in d (world_from d (advance d w n x) (n + 1) es) m) ≡ true) k e

end_more : (d : DeckView) (w : World) (n u : ℕ) (o : Option End) (s : Option Entry) (rest : Entry → List Entry) → end_in d w n ≡ o → (s ≡ None → is_some (end_in d w n) ≡ true)
    → IfSome s (λ x. turn_after d u x.unit x.what ≤ length d.units)
    → ((x : Entry) → turn_after d u x.unit x.what ≤ length d.units → HasEnd d (advance d w n x) (n + 1) (rest x)) → HasEnd d w n (seq_more o s rest)
end_more d w n u None None rest e none behind more = ended_here d w n (none refl)
end_more d w n u None (Some x) rest e none behind more = ended_later d w n x (rest x) (more x behind)
end_more d w n u (Some end) s rest e none behind more = ended_here d w n (ap (λ (o : Option End). is_some o) e)

end_from : (d : DeckView) (w : World) (n u k : ℕ) → u ≤ length d.units → d.limit ≤ n + k → HasEnd d w n (seq_from d w n u k)
end_from d w n u zero h few = let full : d.limit ≤ n = omega (arith, few) in ended_here d w n (full_ends d w n (le-leb d.limit n full))
end_from d w n u (suc k) h few =
    let fewer : d.limit ≤ n + 1 + k = omega (arith, few) in
    end_more d w n u (end_in d w n) (seq_step d w n u) (rest_of d w n u k) refl (none_ends d w n u h) (step_behind d w n u h)
    (λ x behind. end_from d (advance d w n x) (n + 1) (turn_after d u x.unit x.what) k behind fewer)

pub seq_ends : (d : DeckView) → IsSome (end_of d (seq d))
unfolding world seq
seq_ends d =
    let k : 0 + length (seq_from d (start d) 0 0 d.limit) ≡ length (seq_from d (start d) 0 0 d.limit) = omega arith in
    subst (λ (m : ℕ). is_some (end_in d (world_from d (start d) 0 (seq_from d (start d) 0 0 d.limit)) m) ≡ true) k (end_from d (start d) 0 0 d.limit (omega arith) (omega arith))

-- ---- each of its entries

-- it is the one whose turn it is after n entries, after which w lives, and these have no end
record IsTurn (d : DeckView) (w : World) (n u : ℕ) (e : Entry) : Type 0 where
  pub step : seq_step d w n u ≡ Some e
  pub goes_on : end_in d w n ≡ None

-- so it is after the first of these entries
abbrev IsTurnAfter : DeckView → World → ℕ → ℕ → List Entry → ℕ → Entry → Type 0
IsTurnAfter d w n u es i e = IsTurn d (world_from d w n (take i es)) (n + i) (turn_from d u (take i es)) e

turn_more : (d : DeckView) (w : World) (n u : ℕ) (o : Option End) (s : Option Entry) (rest : Entry → List Entry) (i : ℕ) (e : Entry) → end_in d w n ≡ o → seq_step d w n u ≡ s
    → slice_get (seq_more o s rest) i ≡ Some e
    → ((x : Entry) (j : ℕ) → slice_get (rest x) j ≡ Some e → IsTurnAfter d (advance d w n x) (n + 1) (turn_after d u x.unit x.what) (rest x) j e)
    → IsTurnAfter d w n u (seq_more o s rest) i e
turn_more d w n u None None rest i e a b at more = absurd cc
turn_more d w n u (Some end) s rest i e a b at more = absurd cc
turn_more d w n u None (Some x) rest zero e a b at more =
    let same : x ≡ e = cc in
    let k : n ≡ n + 0 = omega arith in
    subst (λ (m : ℕ). IsTurn d w m u e) k (subst (λ (y : Entry). IsTurn d w n u y) same (record { step = b; goes_on = a }))
turn_more d w n u None (Some x) rest (suc j) e a b at more =
    let k : n + 1 + j ≡ n + suc j = omega arith in
    subst (λ (m : ℕ). IsTurn d (world_from d (advance d w n x) (n + 1) (take j (rest x))) m (turn_from d (turn_after d u x.unit x.what) (take j (rest x))) e) k (more x j at)

turn_at : (d : DeckView) (w : World) (n u k i : ℕ) (e : Entry) → slice_get (seq_from d w n u k) i ≡ Some e → IsTurnAfter d w n u (seq_from d w n u k) i e
turn_at d w n u zero i e at = absurd cc
turn_at d w n u (suc k) i e at =
    turn_more d w n u (end_in d w n) (seq_step d w n u) (rest_of d w n u k) i e refl refl at
    (λ x j there. turn_at d (advance d w n x) (n + 1) (turn_after d u x.unit x.what) k j e there)

is_turn : (d : DeckView) (i : ℕ) (e : Entry) → IsAt (seq d) i e → IsTurn d (before d (seq d) i) i (turn_from d 0 (take i (seq d))) e
unfolding world seq
is_turn d i e at =
    let es = seq_from d (start d) 0 0 d.limit in
    let k : 0 + i ≡ i = omega arith in
    subst (λ (m : ℕ). IsTurn d (world_from d (start d) 0 (take i es)) m (turn_from d 0 (take i es)) e) k (turn_at d (start d) 0 0 d.limit i e at)

pub seq_turn : (d : DeckView) (i : ℕ) (e : Entry) → IsAt (seq d) i e → seq_step d (before d (seq d) i) i (turn_from d 0 (take i (seq d))) ≡ Some e
seq_turn d i e at = IsTurn.step (is_turn d i e at)

below_length : (es : List Entry) (i : ℕ) (e : Entry) → slice_get es i ≡ Some e → length (take i es) ≡ i
below_length [] i e at = absurd cc
below_length (x ∷ es) zero e at = refl
below_length (x ∷ es) (suc i) e at = omega (arith, below_length es i e at)

pub seq_goes_on : (d : DeckView) (i : ℕ) (e : Entry) → IsAt (seq d) i e → end_of d (take i (seq d)) ≡ None
seq_goes_on d i e at =
    subst (λ (m : ℕ). end_in d (before d (seq d) i) m ≡ None) (sym (below_length (seq d) i e at)) (IsTurn.goes_on (is_turn d i e at))
