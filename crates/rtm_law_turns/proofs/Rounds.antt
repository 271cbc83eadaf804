-- A round of turns finds who has an entry; where it finds nothing, nobody goes on. What a turn makes may follow, and
-- where it makes nothing the history has an end.
use Rattle.std.proofs.Common.{◌≡◌, ℕ, zero, suc, ◌+◌, ◌<◌, ◌≤◌, Bool, true, false, length, Option, Some, None, refl, ap, subst, arith, eqb}
use Rattle.std.specs.Prelude.{IfSome, if◌then◌else◌, is_none, is_some, nat_le, not, ◌&&◌, ◌==◌}
use Rattle.std.specs.Option.{option_map, option_or}
use Rattle.std.proofs.lemmas.Bool.{eqb-false, eqb-true, leb-false, leb-true, or_from}
use Rattle.rtm_deck_items.specs.View.{DeckView}
use Rattle.rtm_model.specs.declared.entry.End.{End}
use Rattle.rtm_model.specs.declared.entry.End.TheVariants as ends
use Rattle.rtm_model.specs.declared.entry.Entry.{Entry}
use Rattle.rtm_model.specs.declared.entry.What.{What}
use Rattle.rtm_model.specs.declared.entry.What.TheVariants.{Arrive, Begin, Done, Enter, Error, Exec, Land, Leave, MemEnd, Purge, Release}
use Rattle.rtm_model.specs.Arrivals.{first_arrival, goes_on, goes_on_below}
use Rattle.rtm_model.specs.Legal.{MayFollow, end_in, is_stalled}
use Rattle.rtm_model.specs.NextEntry.{next}
use Rattle.rtm_model.specs.Turns.{after, entry_of, seq_step, turn, turn_after}
use Rattle.rtm_model.specs.World.{World}
use Rattle.rtm_model.proofs.GoingOn.{goes_on_by}
use Rattle.rtm_law_turns.proofs.Firsts.{either, first_follows, first_stays}
use Rattle.rtm_law_turns.proofs.Following.{next_follows}

-- ---- a round and whether anybody goes on

pub after_in : (d : DeckView) (u : ℕ) (b : Bool) → (u == length d.units) ≡ b → u ≤ length d.units → (if b then 0 else u + 1) ≤ length d.units
after_in d u true e h = omega arith
after_in d u false e h = omega (arith, h, eqb-false u (length d.units) e)

-- the round finds an entry of a unit of the deck
record IsFound (d : DeckView) (w : World) (e : Entry) : Type 0 where
  pub unit_in : e.unit ≤ length d.units
  pub next_is : next d w e.unit ≡ Some e.what

found_one : (d : DeckView) (w : World) (u : ℕ) (o : Option What) (rest : Option Entry) → u ≤ length d.units → next d w u ≡ o → IfSome rest (IsFound d w) → IfSome (option_or (option_map (entry_of u) o) rest) (IsFound d w)
found_one d w u None rest h n more = more
found_one d w u (Some what) rest h n more = record { unit_in = h; next_is = n }

found_in : (d : DeckView) (w : World) (u k : ℕ) → u ≤ length d.units → IfSome (turn d w u k) (IsFound d w)
found_in d w u zero h = tt
found_in d w u (suc k) h =
    found_one d w u (next d w u) (turn d w (after d u) k) h refl (found_in d w (after d u) k (after_in d u (u == length d.units) refl h))

-- a round without an entry: the unit has none, and those after it have none
none_here : (u : ℕ) (o : Option What) (rest : Option Entry) → option_or (option_map (entry_of u) o) rest ≡ None → o ≡ None
none_here u None rest e = refl
none_here u (Some what) rest e = absurd cc

none_behind : (u : ℕ) (o : Option What) (rest : Option Entry) → option_or (option_map (entry_of u) o) rest ≡ None → rest ≡ None
none_behind u None rest e = e
none_behind u (Some what) rest e = absurd cc

behind : (d : DeckView) (w : World) (u k : ℕ) → turn d w u (suc k) ≡ None → turn d w (after d u) k ≡ None
behind d w u k e = none_behind u (next d w u) (turn d w (after d u) k) e

here : (d : DeckView) (w : World) (u k : ℕ) → turn d w u (suc k) ≡ None → next d w u ≡ None
here d w u k e = none_here u (next d w u) (turn d w (after d u) k) e

plus_one : (d : DeckView) (u : ℕ) → (u == length d.units) ≡ false → after d u ≡ u + 1
plus_one d u e = ap (λ (b : Bool). if b then 0 else u + 1) e

to_start : (d : DeckView) (u : ℕ) → (u == length d.units) ≡ true → after d u ≡ 0
to_start d u e = ap (λ (b : Bool). if b then 0 else u + 1) e

not_last : (u v n : ℕ) (same : Bool) → (u == n) ≡ same → u ≤ v → v ≤ n → (u ≡ v → ⊥) → (u == n) ≡ false
not_last u v n true s a b ne = absurd (ne (omega (arith, eqb-true u n s, a, b)))
not_last u v n false s a b ne = s

-- none of the units from u on, before the round comes to the master's end
none_from : (d : DeckView) (w : World) (u k v : ℕ) → u ≤ v → v ≤ length d.units → v < u + k → turn d w u k ≡ None → next d w v ≡ None
none_from d w u zero v a b c e = absurd (omega (arith, a, c))
none_from d w u (suc k) v a b c e = from_if (λ x below within none. none_from d w x k v below b within none) (eqb u v) refl
  where
    from_if : ((x : ℕ) → x ≤ v → v < x + k → turn d w x k ≡ None → next d w v ≡ None) → (same : Bool) → eqb u v ≡ same → next d w v ≡ None
    from_if more true s = subst (λ (x : ℕ). next d w x ≡ None) (eqb-true u v s) (here d w u k e)
    from_if more false s =
        let less = eqb-false u v s in
        let lower : (u == length d.units) ≡ false = not_last u v (length d.units) (u == length d.units) refl a b less in
        more (u + 1) (omega (arith, a, less)) (omega (arith, c)) (subst (λ (x : ℕ). turn d w x k ≡ None) (plus_one d u lower) (behind d w u k e))

-- none of those before u, behind the master's end
none_before : (d : DeckView) (w : World) (u k v : ℕ) → u ≤ length d.units → v < u → length d.units + 1 + v < u + k → turn d w u k ≡ None → next d w v ≡ None
none_before d w u zero v a b c e = absurd (omega (arith, a, b, c))
none_before d w u (suc k) v a b c e = before_if (λ x below over within none. none_before d w x k v below over within none) (u == length d.units) refl
  where
    before_if : ((x : ℕ) → x ≤ length d.units → v < x → length d.units + 1 + v < x + k → turn d w x k ≡ None → next d w v ≡ None) → (last : Bool) → (u == length d.units) ≡ last → next d w v ≡ None
    before_if more true s =
        let same = eqb-true u (length d.units) s in
        none_from d w 0 k v (omega arith) (omega (arith, b, same)) (omega (arith, c, same)) (subst (λ (x : ℕ). turn d w x k ≡ None) (to_start d u s) (behind d w u k e))
    before_if more false s =
        let less = eqb-false u (length d.units) s in
        more (u + 1) (omega (arith, a, less)) (omega (arith, b)) (omega (arith, c)) (subst (λ (x : ℕ). turn d w x k ≡ None) (plus_one d u s) (behind d w u k e))

none_of_round_if : (d : DeckView) (w : World) (u v : ℕ) (b : Bool) → nat_le u v ≡ b → u ≤ length d.units → v ≤ length d.units → turn d w u (suc (length d.units)) ≡ None → next d w v ≡ None
none_of_round_if d w u v true t a b e = none_from d w u (suc (length d.units)) v (leb-true u v t) b (omega (arith, b)) e
none_of_round_if d w u v false t a b e = none_before d w u (suc (length d.units)) v a (leb-false u v t) (omega (arith, leb-false u v t)) e

none_of_round : (d : DeckView) (w : World) (u v : ℕ) → u ≤ length d.units → v ≤ length d.units → turn d w u (suc (length d.units)) ≡ None → next d w v ≡ None
none_of_round d w u v a b e = none_of_round_if d w u v (nat_le u v) refl a b e

none_below : (d : DeckView) (w : World) (k : ℕ) → ((v : ℕ) → v < k → next d w v ≡ None) → goes_on_below d w k ≡ false
none_below d w zero h = refl
none_below d w (suc k) h =
    or_from (goes_on_below d w k) (is_some (next d w k)) (none_below d w k (λ v lt. h v (omega (arith, lt)))) (ap (λ (o : Option What). is_some o) (h k (omega arith)))

quiet_by : (d : DeckView) (w : World) (u : ℕ) (o : Option Entry) → turn d w u (suc (length d.units)) ≡ o → u ≤ length d.units → not (goes_on d w) ≡ is_none o
quiet_by d w u None t h = ap not (none_below d w (suc (length d.units)) (λ v lt. none_of_round d w u v h (omega (arith, lt)) t))
quiet_by d w u (Some e) t h =
    let found : IsFound d w e = subst (λ (o : Option Entry). IfSome o (IsFound d w)) t (found_in d w u (suc (length d.units)) h) in
    ap not (goes_on_by d w e.unit found.unit_in (ap (λ (o : Option What). is_some o) found.next_is))

-- nobody goes on exactly where a round finds nothing
pub quiet_is : (d : DeckView) (w : World) (u : ℕ) → u ≤ length d.units → not (goes_on d w) ≡ is_none (turn d w u (suc (length d.units)))
quiet_is d w u h = quiet_by d w u (turn d w u (suc (length d.units))) refl h

-- ---- what a turn makes

-- it may follow
one_follows : (d : DeckView) (w : World) (n u : ℕ) (o : Option What) (rest : Option Entry) → next d w u ≡ o → IfSome rest (λ e. MayFollow d w n e e.what) → IfSome (option_or (option_map (entry_of u) o) rest) (λ e. MayFollow d w n e e.what)
one_follows d w n u None rest e more = more
one_follows d w n u (Some what) rest e more = next_follows d w n u what e

round_follows : (d : DeckView) (w : World) (n u k : ℕ) → IfSome (turn d w u k) (λ e. MayFollow d w n e e.what)
round_follows d w n u zero = tt
round_follows d w n u (suc k) = one_follows d w n u (next d w u) (turn d w (after d u) k) refl (round_follows d w n (after d u) k)

pub step_follows : (d : DeckView) (w : World) (n u : ℕ) → IfSome (seq_step d w n u) (λ e. MayFollow d w n e e.what)
step_follows d w n u =
    either (λ e. MayFollow d w n e e.what) (first_arrival d w n (not (goes_on d w))) (turn d w u (suc (length d.units))) (first_follows d w n) (round_follows d w n u (suc (length d.units)))

-- and after it the turn is again at a unit of the deck, or at the master
behind_in : (d : DeckView) (u unit : ℕ) (what : What) → u ≤ length d.units → unit ≤ length d.units → turn_after d u unit what ≤ length d.units
behind_in d u unit (Arrive cmd posted) h i = h
behind_in d u unit (Exec at rc) h i = after_in d unit (unit == length d.units) refl i
behind_in d u unit (Error at mark) h i = after_in d unit (unit == length d.units) refl i
behind_in d u unit (Land class from mark) h i = after_in d unit (unit == length d.units) refl i
behind_in d u unit (Enter kind reg mark bare) h i = after_in d unit (unit == length d.units) refl i
behind_in d u unit (Leave kind reg verdict logrec dump) h i = after_in d unit (unit == length d.units) refl i
behind_in d u unit (Begin code dump) h i = after_in d unit (unit == length d.units) refl i
behind_in d u unit (Release class id owner) h i = after_in d unit (unit == length d.units) refl i
behind_in d u unit (Done code to_task to_step) h i = after_in d unit (unit == length d.units) refl i
behind_in d u unit (Purge other) h i = after_in d unit (unit == length d.units) refl i
behind_in d u unit MemEnd h i = after_in d unit (unit == length d.units) refl i

found_behind : (d : DeckView) (w : World) (u : ℕ) (o : Option Entry) → u ≤ length d.units → IfSome o (IsFound d w) → IfSome o (λ e. turn_after d u e.unit e.what ≤ length d.units)
found_behind d w u None h i = tt
found_behind d w u (Some e) h i = behind_in d u e.unit e.what h i.unit_in

pub step_behind : (d : DeckView) (w : World) (n u : ℕ) → u ≤ length d.units → IfSome (seq_step d w n u) (λ e. turn_after d u e.unit e.what ≤ length d.units)
step_behind d w n u h =
    either (λ e. turn_after d u e.unit e.what ≤ length d.units) (first_arrival d w n (not (goes_on d w))) (turn d w u (suc (length d.units)))
    (first_stays d w n (not (goes_on d w)) u h) (found_behind d w u (turn d w u (suc (length d.units))) h (found_in d w u (suc (length d.units)) h))

-- ---- how it ends

-- where it has no end there is room
pub room_of : (over stalled full : Bool) → is_some (if over then Some ends.Ended else if stalled then Some ends.Stalled else if full then Some ends.Limit else None) ≡ false → full ≡ false
room_of true stalled full e = absurd cc
room_of false true full e = absurd cc
room_of false false true e = absurd cc
room_of false false false e = refl

pub room_in : (d : DeckView) (w : World) (n : ℕ) → end_in d w n ≡ None → n < d.limit
room_in d w n e = leb-false d.limit n (room_of w.over (is_stalled d w n (not (goes_on d w))) (nat_le d.limit n) (ap (λ (o : Option End). is_some o) e))

-- and where it has none it has an end
full_by : (over stalled full : Bool) → full ≡ true → is_some (if over then Some ends.Ended else if stalled then Some ends.Stalled else if full then Some ends.Limit else None) ≡ true
full_by true stalled full e = refl
full_by false true full e = refl
full_by false false true e = refl
full_by false false false e = absurd cc

pub full_ends : (d : DeckView) (w : World) (n : ℕ) → nat_le d.limit n ≡ true → is_some (end_in d w n) ≡ true
full_ends d w n e = full_by w.over (is_stalled d w n (not (goes_on d w))) (nat_le d.limit n) e

-- so it has where a turn makes nothing
none_by : (over stalled full quiet : Bool) (arrival made : Option Entry) → quiet ≡ is_none made → stalled ≡ (quiet && is_none arrival) → option_or arrival made ≡ None
    → is_some (if over then Some ends.Ended else if stalled then Some ends.Stalled else if full then Some ends.Limit else None) ≡ true
none_by true stalled full quiet arrival made a b e = refl
none_by false true full quiet arrival made a b e = refl
none_by false false true quiet arrival made a b e = refl
none_by false false false quiet (Some x) made a b e = absurd cc
none_by false false false quiet None (Some x) a b e = absurd cc
none_by false false false true None None a b e = absurd cc
none_by false false false false None None a b e = absurd cc

pub none_ends : (d : DeckView) (w : World) (n u : ℕ) → u ≤ length d.units → seq_step d w n u ≡ None → is_some (end_in d w n) ≡ true
none_ends d w n u h e =
    none_by w.over (is_stalled d w n (not (goes_on d w))) (nat_le d.limit n) (not (goes_on d w)) (first_arrival d w n (not (goes_on d w))) (turn d w u (suc (length d.units))) (quiet_is d w u h) refl e
