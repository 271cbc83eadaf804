-- Turns: one of them makes the entry that the definition gives, and all of them the whole history.
use Rattle.std.proofs.Common.{◌≡◌, ℕ, zero, suc, ◌+◌, ◌-◌, ◌<◌, List, [], ◌∷◌, ◌++◌, length, Option, Some, None, refl, sym, ap, ◌∙◌, arith}
use Rattle.std.specs.Prelude.{if◌then◌else◌, is_some}
use Rattle.std.proofs.lemmas.List.{append_assoc, append-nil, length-append}
use Rattle.rtm_deck_items.specs.View.{DeckView}
use Rattle.rtm_model.specs.declared.entry.End.{End}
use Rattle.rtm_model.specs.declared.entry.Entry.{Entry}
use Rattle.rtm_model.specs.Advance.{advance, world}
use Rattle.rtm_model.specs.Legal.{end_in, end_of}
use Rattle.rtm_model.specs.Turns.{seq, seq_from, seq_more, seq_step, turn_after}
use Rattle.rtm_model.specs.World.{World, start}
use Rattle.rtm_law_sound.proofs.Histories.{world-append, world-nil}
use Rattle.rtm_system.specs.Turned.{IsNext, turn_in, turn_of}
use Rattle.rtm_system.specs.View.{SystemView}

-- what one turn adds, and that nothing follows where it is nobody's
made_by : (o : Option End) (s : Option Entry) (rest : Entry → List Entry) (e : Entry) → (if is_some o then None else s) ≡ Some e → seq_more o s rest ≡ e ∷ rest e
made_by None None rest e h = absurd cc
made_by None (Some x) rest e h = ap (λ (o : Option Entry). seq_more None o rest) h
made_by (Some end) s rest e h = absurd cc

ended_by : (o : Option End) (s : Option Entry) (rest : Entry → List Entry) → (if is_some o then None else s) ≡ None → seq_more o s rest ≡ []
ended_by None None rest h = refl
ended_by None (Some x) rest h = absurd cc
ended_by (Some end) s rest h = refl

-- what was made and what follows, where the turn is at u
abbrev pub made_and_left : SystemView → ℕ → List Entry
made_and_left v u = v.trace ++ seq_from v.deck (world v.deck v.trace) (length v.trace) u (v.deck.limit - length v.trace)

turn_made : (d : DeckView) (trace : List Entry) (u : ℕ) (e : Entry) → turn_of d trace u ≡ Some e → length trace < d.limit
    → made_and_left (record { deck = d; trace = trace }) u ≡ made_and_left (record { deck = d; trace = trace ++ e ∷ [] }) (turn_after d u e.unit e.what)
turn_made d trace u e step room =
    let w = world d trace in
    let n = length trace in
    let turn = turn_after d u e.unit e.what in
    let longer : length (trace ++ e ∷ []) ≡ n + 1 = length-append trace (e ∷ []) in
    let fuel : d.limit - n ≡ suc (d.limit - length (trace ++ e ∷ [])) = omega (arith, room, longer) in
    let more = d.limit - length (trace ++ e ∷ []) in
    let first : seq_from d w n u (d.limit - n) ≡ e ∷ seq_from d (advance d w n e) (n + 1) turn more =
    ap (seq_from d w n u) fuel ∙ made_by (end_in d w n) (seq_step d w n u) (λ x. seq_from d (advance d w n x) (n + 1) (turn_after d u x.unit x.what) more) e step in
    let second : seq_from d (advance d w n e) (n + 1) turn more ≡ seq_from d (world d (trace ++ e ∷ [])) (length (trace ++ e ∷ [])) turn more =
    ap (λ (x : World). seq_from d x (n + 1) turn more) (sym (world-append d trace e)) ∙ ap (λ (k : ℕ). seq_from d (world d (trace ++ e ∷ [])) k turn more) (sym longer) in
    ap (λ (es : List Entry). trace ++ es) (first ∙ ap (λ (es : List Entry). e ∷ es) second) ∙ sym (append_assoc trace (e ∷ []) (seq_from d (world d (trace ++ e ∷ [])) (length (trace ++ e ∷ [])) turn more))

-- one more turn of a system
pub next_turn : (old new : SystemView) (u turn : ℕ) (e : Entry) (total : List Entry) → turn_of old.deck old.trace u ≡ Some e → IsNext old.deck old.trace e → turn ≡ turn_after old.deck u e.unit e.what
    → new.trace ≡ old.trace ++ e ∷ [] → new.deck ≡ old.deck → made_and_left old u ≡ total → made_and_left new turn ≡ total
next_turn old new u turn e total step next t longer same so_far =
    ap (made_and_left new) t
    ∙ ap (λ (x : DeckView). made_and_left (record { deck = x; trace = new.trace }) (turn_after old.deck u e.unit e.what)) same
    ∙ ap (λ (es : List Entry). made_and_left (record { deck = old.deck; trace = es }) (turn_after old.deck u e.unit e.what)) longer
    ∙ sym (turn_made old.deck old.trace u e step next.room) ∙ so_far

seq_ended : (d : DeckView) (w : World) (n u k : ℕ) → turn_in d w n u ≡ None → seq_from d w n u k ≡ []
seq_ended d w n u zero e = refl
seq_ended d w n u (suc k) e = ended_by (end_in d w n) (seq_step d w n u) (λ x. seq_from d (advance d w n x) (n + 1) (turn_after d u x.unit x.what) k) e

-- where the history has an end it is nobody's turn
pub nobodys_turn : (v : SystemView) (u : ℕ) (end : End) → end_of v.deck v.trace ≡ Some end → turn_of v.deck v.trace u ≡ None
nobodys_turn v u end e =
    ap (λ (o : Option End). if is_some o then None else seq_step v.deck (world v.deck v.trace) (length v.trace) u) e

-- nobody's turn: all is made
pub all_made : (v : SystemView) (u : ℕ) (total : List Entry) → turn_of v.deck v.trace u ≡ None → made_and_left v u ≡ total → v.trace ≡ total
all_made v u total e so_far =
    sym (append-nil v.trace) ∙ ap (λ (es : List Entry). v.trace ++ es) (sym (seq_ended v.deck (world v.deck v.trace) (length v.trace) u (v.deck.limit - length v.trace) e)) ∙ so_far

-- at the start all is left
pub all_left : (v : SystemView) → v.trace ≡ [] → made_and_left v 0 ≡ seq v.deck
unfolding seq
all_left v e =
    let none : v.deck.limit - 0 ≡ v.deck.limit = omega arith in
    ap (λ (es : List Entry). made_and_left (record { deck = v.deck; trace = es }) 0) e
    ∙ ap (λ (w : World). seq_from v.deck w 0 0 (v.deck.limit - 0)) (world-nil v.deck) ∙ ap (seq_from v.deck (start v.deck) 0 0) none
