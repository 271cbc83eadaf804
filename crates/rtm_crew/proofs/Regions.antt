-- A region whose trace grew by an entry: there was room to tell of it, and its managers are told again of all.
use Rattle.std.proofs.Common.{List, [], ap, arith, length, map, refl, subst, sym, ℕ, ◌+◌, ◌++◌, ◌-◌, ◌≡◌, ◌≤◌, ◌∙◌, ◌∷◌}
use Rattle.std.proofs.lemmas.List.{length-append}
use Rattle.rtm_deck_items.specs.View.{DeckView}
use Rattle.rtm_deck_operands.specs.declared.value.Res.{Res}
use Rattle.rtm_model.specs.declared.entry.Entry.{Entry}
use Rattle.rtm_model.specs.Advance.{advance}
use Rattle.rtm_model.specs.Legal.{Legal, LegalFrom}
use Rattle.rtm_model.specs.World.{World, start}
use Rattle.rtm_desk.specs.Told.{DesksView, HasRoom, Row, classes, tell_of, told_by, told_to}
use Rattle.rtm_desk.proofs.Rooms.{less_room}
use Rattle.rtm_desk.proofs.Telling.{told_one_more}
use Rattle.rtm_system.specs.View.{SystemView}
use Rattle.rtm_crew.specs.Region.{AreTold}

legal_from : (d : DeckView) (w : World) (n : ℕ) (es : List Entry) → n ≤ d.limit → LegalFrom d w n es → n + length es ≤ d.limit
legal_from d w n [] below legal = omega (arith, below)
legal_from d w n (e ∷ es) below legal =
    let rest : (n + 1) + length es ≤ d.limit = legal_from d (advance d w n e) (n + 1) es (omega (arith, legal.0)) legal.2 in
    omega (arith, rest)

-- a legal history is no longer than the limit
pub within_limit : (d : DeckView) (history : List Entry) → Legal d history → length history ≤ d.limit
unfolding Legal
within_limit d history legal =
    let all : 0 + length history ≤ d.limit = legal_from d (start d) 0 history (omega arith) legal in
    omega (arith, all)

module _ (before now : SystemView) (e : Entry) (deck : now.deck ≡ before.deck) (trace : now.trace ≡ before.trace ++ e ∷ []) (legal : Legal now.deck now.trace) where
  -- one entry less is left
  one_less : (now.deck.limit - length now.trace) + 1 ≤ before.deck.limit - length before.trace
  one_less =
      let within : length now.trace ≤ now.deck.limit = within_limit now.deck now.trace legal in
      let longer : length now.trace ≡ length before.trace + 1 = ap (λ (es : List Entry). length es) trace ∙ length-append before.trace (e ∷ []) in
      let same : now.deck.limit ≡ before.deck.limit = ap (λ (d : DeckView). d.limit) deck in
      omega (arith, within, longer, same)

  pub room_for_one : (desks : DesksView) → AreTold before desks → HasRoom 1 desks
  room_for_one desks are =
      less_room 1 (before.deck.limit - length before.trace) desks.spares (omega (arith, one_less)) are.room

  pub are_told : (desks told : DesksView) → AreTold before desks → told.told ≡ tell_of e.what desks.told
      → ((least : ℕ) → HasRoom (least + 1) desks → HasRoom least told) → AreTold now told
  are_told desks told are tells spends = record {
    told = tells ∙ ap (tell_of e.what) are.told ∙ sym (told_one_more before.trace e) ∙ ap told_by (sym trace);
    room = spends (now.deck.limit - length now.trace)
        (less_room ((now.deck.limit - length now.trace) + 1) (before.deck.limit - length before.trace) desks.spares one_less are.room);
  }

-- no entry was made
pub still_told : (before now : SystemView) (desks : DesksView) → now.deck ≡ before.deck → now.trace ≡ before.trace → AreTold before desks → AreTold now desks
still_told before now desks deck trace are =
    let same : now.deck.limit ≡ before.deck.limit = ap (λ (d : DeckView). d.limit) deck in
    let long : length now.trace ≡ length before.trace = ap (λ (es : List Entry). length es) trace in
    let left : before.deck.limit - length before.trace ≡ now.deck.limit - length now.trace = omega (arith, same, long) in
    record { told = are.told ∙ ap told_by (sym trace); room = subst (λ (n : ℕ). HasRoom n desks) left are.room }

-- managers that were told nothing stand in the order of the classes
pub in_order : {M : Type 0} (class : M → Res) (released : M → List (ℕ × ℕ)) (ms : List M) → told_to class released ms ≡ told_by [] → map (λ m. class m) ms ≡ classes
in_order {M} class released ms empty = sym (firsts ms) ∙ ap (λ (rows : List Row). map {B = Res} (λ row. row.0) rows) empty
  where
    firsts : (ms : List M) → map {B = Res} (λ row. row.0) (told_to class released ms) ≡ map (λ m. class m) ms
    firsts [] = refl
    firsts (m ∷ ms) = ap (λ (ks : List Res). class m ∷ ks) (firsts ms)
