-- A round of turns, try by try, and what is answered after it.
use Rattle.std.proofs.Common.{◌≡◌, ℕ, suc, ◌+◌, ◌<◌, ◌≤◌, Bool, true, false, List, [], ◌∷◌, length, Option, Some, None, refl, sym, ap, subst, ◌∙◌, arith}
use Rattle.std.specs.Prelude.{IfSome, if◌then◌else◌, is_none, is_some, nat_le, not, ◌&&◌, ◌==◌}
use Rattle.std.specs.Option.{option_map, option_or}
use Rattle.std.proofs.lemmas.Bool.{eqb-true, leb-false}
use Rattle.rtm_deck_items.specs.declared.deck.Command.{Command}
use Rattle.rtm_deck_items.specs.View.{DeckView}
use Rattle.rtm_model.specs.declared.entry.End.{End}
use Rattle.rtm_model.specs.declared.entry.End.TheVariants as ends
use Rattle.rtm_model.specs.declared.entry.Entry.{Entry}
use Rattle.rtm_model.specs.declared.entry.What.{What}
use Rattle.rtm_model.specs.Arrivals.{first_arrival, first_arrival_in, goes_on}
use Rattle.rtm_model.specs.Advance.{world}
use Rattle.rtm_model.specs.Legal.{MayFollow, end_in, is_stalled}
use Rattle.rtm_model.specs.NextEntry.{next}
use Rattle.rtm_model.specs.Turns.{after, entry_of, seq_step, turn}
use Rattle.rtm_model.specs.World.{World}
use Rattle.rtm_law_turns.proofs.Rounds.{after_in, quiet_is, room_of, step_follows}
use Rattle.rtm_system.specs.Turned.{IsNext, turn_in, turn_of}

-- ---- one try of a round

found_by : (d : DeckView) (w : World) (u k : ℕ) (o : Option What) (what : What) → o ≡ Some what → next d w u ≡ o → turn d w u (suc k) ≡ Some (entry_of u what)
found_by d w u k None what e n = absurd cc
found_by d w u k (Some other) what e n =
    ap (λ (o : Option What). option_or (option_map (entry_of u) o) (turn d w (after d u) k)) (n ∙ e)

skipped : (d : DeckView) (w : World) (u k : ℕ) → next d w u ≡ None → turn d w u (suc k) ≡ turn d w (after d u) k
skipped d w u k n = ap (λ (o : Option What). option_or (option_map (entry_of u) o) (turn d w (after d u) k)) n

-- the rest of a round, of which so many units are left to be tried from `unit` on
pub record IsLeft (d : DeckView) (w : World) (first unit left : ℕ) : Type 0 where
  pub unit_in : unit ≤ length d.units
  pub rest : turn d w first (suc (length d.units)) ≡ turn d w unit left

pub round_begins : (d : DeckView) (w : World) (first count left : ℕ) → first ≤ length d.units → count ≡ length d.units → left ≡ count + 1 → IsLeft d w first first left
round_begins d w first count left h c l =
    let same : suc (length d.units) ≡ left = omega (arith, c, l) in
    record { unit_in = h; rest = ap (turn d w first) same }

-- the next unit's try
pub round_skips : (d : DeckView) (w : World) (first unit left rest count next_unit : ℕ) → IsLeft d w first unit left → left ≡ suc rest → next d w unit ≡ None → count ≡ length d.units
    → next_unit ≡ (if unit == count then 0 else unit + 1) → IsLeft d w first next_unit rest
round_skips d w first unit left rest count next_unit l fewer none c n =
    let behind : next_unit ≡ after d unit = n ∙ ap (λ (k : ℕ). if unit == k then 0 else unit + 1) c in
    record {
      unit_in = subst (λ (u : ℕ). u ≤ length d.units) (sym behind) (after_in d unit (unit == length d.units) refl l.unit_in);
      rest = l.rest ∙ ap (turn d w unit) fewer ∙ skipped d w unit rest none ∙ ap (λ (u : ℕ). turn d w u rest) (sym behind);
    }

pub round_finds : (d : DeckView) (w : World) (first unit left rest : ℕ) (what : What) → IsLeft d w first unit left → left ≡ suc rest → next d w unit ≡ Some what → turn d w first (suc (length d.units)) ≡ Some (entry_of unit what)
round_finds d w first unit left rest what l fewer n = l.rest ∙ ap (turn d w unit) fewer ∙ found_by d w unit rest (Some what) what refl n

pub round_ends : (d : DeckView) (w : World) (first unit left : ℕ) → IsLeft d w first unit left → left ≡ 0 → turn d w first (suc (length d.units)) ≡ None
round_ends d w first unit left l none = l.rest ∙ ap (turn d w unit) none

-- ---- what a turn gives

-- the first arrival, else what a round finds
pub step_is : (d : DeckView) (w : World) (n u : ℕ) (made arrival : Option Entry) → u ≤ length d.units → made ≡ turn d w u (suc (length d.units))
    → arrival ≡ first_arrival d w n (is_none made) → option_or arrival made ≡ seq_step d w n u
step_is d w n u made arrival h m f =
    let quiet : not (goes_on d w) ≡ is_none made = quiet_is d w u h ∙ ap (λ (o : Option Entry). is_none o) (sym m) in
    let arrives : arrival ≡ first_arrival d w n (not (goes_on d w)) = f ∙ ap (first_arrival d w n) (sym quiet) in
    ap (λ (o : Option Entry). option_or o made) arrives ∙ ap (option_or (first_arrival d w n (not (goes_on d w)))) m

-- none arrives where there is no command
none_in : (d : DeckView) (w : World) (n : ℕ) (quiet : Bool) (cmd : ℕ) (commands : List Command) → (length commands == 0) ≡ true → first_arrival_in d w n quiet cmd commands ≡ None
none_in d w n quiet cmd [] e = refl
none_in d w n quiet cmd (command ∷ commands) e = absurd (omega (arith, eqb-true (length (command ∷ commands)) 0 e))

pub plain_step : (d : DeckView) (w : World) (n u : ℕ) (made : Option Entry) → u ≤ length d.units → made ≡ turn d w u (suc (length d.units)) → (length d.commands == 0) ≡ true → made ≡ seq_step d w n u
plain_step d w n u made h m none = step_is d w n u made None h m (sym (none_in d w n (is_none made) 0 d.commands none))

pub over_ends : (d : DeckView) (w : World) (n : ℕ) → w.over ≡ true → end_in d w n ≡ Some ends.Ended
over_ends d w n e = ap (λ (b : Bool). if b then Some ends.Ended else if is_stalled d w n (not (goes_on d w)) then Some ends.Stalled else if nat_le d.limit n then Some ends.Limit else None) e

-- where a turn finds nothing to be made, nobody goes on
none_by : (over full quiet : Bool) (arrival made : Option Entry) → over ≡ false → quiet ≡ is_none made → option_or arrival made ≡ None
    → (if over then Some ends.Ended else if quiet && is_none arrival then Some ends.Stalled else if full then Some ends.Limit else None) ≡ Some ends.Stalled
none_by true full quiet arrival made a b e = absurd cc
none_by false full quiet (Some x) made a b e = absurd cc
none_by false full quiet None (Some x) a b e = absurd cc
none_by false full true None None a b e = refl
none_by false full false None None a b e = absurd cc

pub none_stalls : (d : DeckView) (w : World) (n u : ℕ) → w.over ≡ false → u ≤ length d.units → seq_step d w n u ≡ None → end_in d w n ≡ Some ends.Stalled
none_stalls d w n u over h e =
    none_by w.over (nat_le d.limit n) (not (goes_on d w)) (first_arrival d w n (not (goes_on d w))) (turn d w u (suc (length d.units))) over (quiet_is d w u h) e

-- and where it finds an entry, the limit alone ends the history
found_by_turn : (over full quiet : Bool) (arrival made : Option Entry) (e : Entry) → over ≡ false → quiet ≡ is_none made → option_or arrival made ≡ Some e
    → (if over then Some ends.Ended else if quiet && is_none arrival then Some ends.Stalled else if full then Some ends.Limit else None) ≡ (if full then Some ends.Limit else None)
found_by_turn true full quiet arrival made x a b e = absurd cc
found_by_turn false full true (Some y) made x a b e = refl
found_by_turn false full false (Some y) made x a b e = refl
found_by_turn false full true None (Some y) x a b e = absurd cc
found_by_turn false full false None (Some y) x a b e = refl
found_by_turn false full quiet None None x a b e = absurd cc

limit_or_none : (d : DeckView) (w : World) (n u : ℕ) (e : Entry) → w.over ≡ false → u ≤ length d.units → seq_step d w n u ≡ Some e → end_in d w n ≡ (if nat_le d.limit n then Some ends.Limit else None)
limit_or_none d w n u e over h s =
    found_by_turn w.over (nat_le d.limit n) (not (goes_on d w)) (first_arrival d w n (not (goes_on d w))) (turn d w u (suc (length d.units))) e over (quiet_is d w u h) s

pub full_limits : (d : DeckView) (w : World) (n u : ℕ) (e : Entry) → w.over ≡ false → u ≤ length d.units → seq_step d w n u ≡ Some e → nat_le d.limit n ≡ true → end_in d w n ≡ Some ends.Limit
full_limits d w n u e over h s full = limit_or_none d w n u e over h s ∙ ap (λ (b : Bool). if b then Some ends.Limit else None) full

pub turn_made : (d : DeckView) (w : World) (n u : ℕ) (e : Entry) → w.over ≡ false → u ≤ length d.units → seq_step d w n u ≡ Some e → nat_le d.limit n ≡ false → turn_in d w n u ≡ Some e
turn_made d w n u e over h s room =
    let open_yet : end_in d w n ≡ None = limit_or_none d w n u e over h s ∙ ap (λ (b : Bool). if b then Some ends.Limit else None) room in
    ap (λ (o : Option End). if is_some o then None else seq_step d w n u) open_yet ∙ s

-- an entry that a turn gives: the history has no end yet
going_by : (o : Option End) (s : Option Entry) (e : Entry) → (if is_some o then None else s) ≡ Some e → o ≡ None
going_by None s e h = refl
going_by (Some end) s e h = absurd cc

pub going : (d : DeckView) (w : World) (n u : ℕ) (e : Entry) → turn_in d w n u ≡ Some e → None ≡ end_in d w n
going d w n u e h = sym (going_by (end_in d w n) (seq_step d w n u) e h)

-- what is answered may follow
next_made : (d : DeckView) (trace : List Entry) (o : Option Entry) → length trace < d.limit → IfSome o (λ e. MayFollow d (world d trace) (length trace) e e.what) → IfSome o (IsNext d trace)
next_made d trace None room h = tt
next_made d trace (Some e) room h = record { room = room; may = h }

next_if : (ended : Bool) (P : Entry → Type 0) (o : Option Entry) → (ended ≡ false → IfSome o P) → IfSome (if ended then None else o) P
next_if true P o h = tt
next_if false P o h = h refl

turn_next : (d : DeckView) (trace : List Entry) (u : ℕ) → IfSome (turn_of d trace u) (IsNext d trace)
turn_next d trace u =
    let w = world d trace in
    let n = length trace in
    next_if (is_some (end_in d w n)) (IsNext d trace) (seq_step d w n u)
    (λ e. next_made d trace (seq_step d w n u) (leb-false d.limit n (room_of w.over (is_stalled d w n (not (goes_on d w))) (nat_le d.limit n) e)) (step_follows d w n u))

pub turn_follows : (d : DeckView) (trace : List Entry) (u : ℕ) (e : Entry) → turn_of d trace u ≡ Some e → IsNext d trace e
turn_follows d trace u e h = subst (λ (o : Option Entry). IfSome o (IsNext d trace)) h (turn_next d trace u)
