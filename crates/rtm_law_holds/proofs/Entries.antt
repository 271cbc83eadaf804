-- What is held after a history, by its entries alone, one entry later.
use Rattle.std.proofs.Common.{◌≡◌, ℕ, zero, suc, ◌+◌, Bool, true, false, List, [], ◌∷◌, take, Some, refl, sym, ap, subst, arith, inl, inr, ◌⊎◌, ◌∙◌}
use Rattle.std.proofs.lemmas.Bool.{and_from, and_parts, eq-eqb, eqb-true}
use Rattle.std.specs.Prelude.{find, if◌then◌else◌, slice_get, ◌&&◌, ◌==◌}
use Rattle.rtm_deck_items.specs.Reading.{op_at}
use Rattle.rtm_deck_items.specs.View.{DeckView}
use Rattle.rtm_deck_items.specs.declared.op.Op.{Op}
use Rattle.rtm_deck_items.specs.declared.op.Op.TheVariants as ops
use Rattle.rtm_deck_operands.specs.declared.value.Res.{Res}
use Rattle.rtm_deck_operands.specs.declared.value.Res.TheVariants.{Dsn, Enq, Stor, Timr}
use Rattle.rtm_model.specs.declared.entry.Entry.{Entry}
use Rattle.rtm_model.specs.declared.entry.What.{What}
use Rattle.rtm_model.specs.declared.entry.What.TheVariants as whats
use Rattle.rtm_model.specs.declared.holding.Holding.{Holding}
use Rattle.rtm_model.specs.Held.{holdings_after, holdings_after_card, holdings_from, is_equal_holding, is_same_res, living_holdings}
use Rattle.rtm_model.specs.HoldLaw.{EndsHolding, IsEqual}
use Rattle.rtm_model.specs.Moments.{IsAt, IsIn}
use Rattle.rtm_law_births.proofs.Lists.{Falls, in_without_first}
use Rattle.rtm_law_holds.proofs.Lists.{falls_below, falls_without, found_passes, left_in, lost}

-- what is held before the entry of index k
abbrev pub held_before : DeckView → List Entry → ℕ → List Holding
held_before d history k = living_holdings d (take k history)

one_more : (d : DeckView) (n : ℕ) (es : List Entry) (held : List Holding) (k : ℕ) (e : Entry) → slice_get es k ≡ Some e
    → holdings_from d n (take (k + 1) es) held ≡ holdings_after d (n + k) e.unit e.what (holdings_from d n (take k es) held)
one_more d n [] held k e h = absurd cc
one_more d n (x ∷ es) held zero e h =
    let same : x ≡ e = cc in
    let k : n + 0 ≡ n = omega arith in
    subst (λ (y : Entry). holdings_after d n x.unit x.what held ≡ holdings_after d (n + 0) y.unit y.what held) same (ap (λ (m : ℕ). holdings_after d m x.unit x.what held) (sym k))
one_more d n (x ∷ es) held (suc k) e h =
    let m : suc k + 1 ≡ suc (k + 1) = omega arith in
    let j : n + 1 + k ≡ n + suc k = omega arith in
    rw (m, ← j) (one_more d (n + 1) es (holdings_after d n x.unit x.what held) k e h)

pub held-next : (d : DeckView) (history : List Entry) (k : ℕ) (e : Entry) → IsAt history k e
    → held_before d history (k + 1) ≡ holdings_after d k e.unit e.what (held_before d history k)
held-next d history k e h = one_more d 0 history [] k e h ∙ ap (λ (m : ℕ). holdings_after d m e.unit e.what (held_before d history k)) (omega arith)

-- Which holding an entry ends: the newest that passes

abbrev pub no_one : Holding → Bool
no_one x = false

abbrev pub card_ends : ℕ → Op → Holding → Bool
card_ends u (ops.Free class id) = is_equal_holding u class id
card_ends u _ = no_one

abbrev pub entry_ends : DeckView → ℕ → What → Holding → Bool
entry_ends d u (whats.Exec at rc) = if rc == 0 then card_ends u (op_at d at.prog at.op) else no_one
entry_ends d u (whats.Release class id owner) = is_equal_holding owner class id
entry_ends d u _ = no_one

-- the entry makes the holding
abbrev pub IsGot : ℕ → ℕ → What → Holding → Type 0
IsGot n u (whats.Exec at rc) x = (x.born ≡ n) × (x.owner ≡ u)
IsGot n u _ x = ⊥

module _ (d : DeckView) (n u : ℕ) (held : List Holding) (x : Holding) where
  -- what isn't held any more is the one that the entry ends
  lost_by_card : (op : Op) → IsIn x held → (IsIn x (holdings_after_card n u op held) → ⊥) → find (card_ends u op) held ≡ Some x
  lost_by_card (ops.Get class id) h gone = absurd (gone (inr h))
  lost_by_card (ops.Free class id) h gone = lost (is_equal_holding u class id) held x h gone
  lost_by_card _ h gone = absurd (gone h)

  lost_if : (op : Op) (b : Bool) → IsIn x held → (IsIn x (if b then holdings_after_card n u op held else held) → ⊥) → find (if b then card_ends u op else no_one) held ≡ Some x
  lost_if op true h gone = lost_by_card op h gone
  lost_if op false h gone = absurd (gone h)

  pub lost_at : (what : What) → IsIn x held → (IsIn x (holdings_after d n u what held) → ⊥) → find (entry_ends d u what) held ≡ Some x
  lost_at (whats.Exec at rc) h gone = lost_if (op_at d at.prog at.op) (rc == 0) h gone
  lost_at (whats.Release class id owner) h gone = lost (is_equal_holding owner class id) held x h gone
  lost_at _ h gone = absurd (gone h)

  -- and the one that the entry ends isn't held any more
  module _ (falls : Falls Holding.born n held) where
    nobody : find no_one held ≡ Some x → ⊥
    nobody e = let not_so : false ≡ true = found_passes no_one held x e in absurd cc

    dies_by_card : (op : Op) → find (card_ends u op) held ≡ Some x → IsIn x (holdings_after_card n u op held) → ⊥
    dies_by_card (ops.Free class id) e h = (in_without_first Holding.born (is_equal_holding u class id) held n falls x h).1 e
    dies_by_card _ e h = nobody e

    dies_if : (op : Op) (b : Bool) → find (if b then card_ends u op else no_one) held ≡ Some x → IsIn x (if b then holdings_after_card n u op held else held) → ⊥
    dies_if op true e h = dies_by_card op e h
    dies_if op false e h = nobody e

    pub dies_at : (what : What) → find (entry_ends d u what) held ≡ Some x → IsIn x (holdings_after d n u what held) → ⊥
    dies_at (whats.Exec at rc) e h = dies_if (op_at d at.prog at.op) (rc == 0) e h
    dies_at (whats.Release class id owner) e h = (in_without_first Holding.born (is_equal_holding owner class id) held n falls x h).1 e
    dies_at _ e h = nobody e

  -- what is held was held before, or is got
  came_by_card : (op : Op) → IsIn x (holdings_after_card n u op held) → ((x.born ≡ n) × (x.owner ≡ u)) ⊎ IsIn x held
  came_by_card (ops.Get class id) (inl same) = inl (ap Holding.born same, ap Holding.owner same)
  came_by_card (ops.Get class id) (inr h) = inr h
  came_by_card (ops.Free class id) h = inr (left_in (is_equal_holding u class id) held x h)
  came_by_card _ h = inr h

  came_if : (op : Op) (b : Bool) → IsIn x (if b then holdings_after_card n u op held else held) → ((x.born ≡ n) × (x.owner ≡ u)) ⊎ IsIn x held
  came_if op true h = came_by_card op h
  came_if op false h = inr h

  pub came_at : (what : What) → IsIn x (holdings_after d n u what held) → IsGot n u what x ⊎ IsIn x held
  came_at (whats.Exec at rc) h = came_if (op_at d at.prog at.op) (rc == 0) h
  came_at (whats.Release class id owner) h = inr (left_in (is_equal_holding owner class id) held x h)
  came_at _ h = inr h

  pub born_then : (what : What) → IsGot n u what x → x.born ≡ n
  born_then (whats.Exec at rc) h = h.0
  born_then _ h = absurd h

-- births fall
module _ (d : DeckView) (n u : ℕ) (held : List Holding) (falls : Falls Holding.born n held) where
  later : Falls Holding.born (n + 1) held
  later = falls_below Holding.born n (n + 1) held (omega arith) falls

  falls_by_card : (op : Op) → Falls Holding.born (n + 1) (holdings_after_card n u op held)
  falls_by_card (ops.Get class id) = (omega arith, falls)
  falls_by_card (ops.Free class id) = falls_without Holding.born (n + 1) (is_equal_holding u class id) held later
  falls_by_card _ = later

  falls_if : (op : Op) (b : Bool) → Falls Holding.born (n + 1) (if b then holdings_after_card n u op held else held)
  falls_if op true = falls_by_card op
  falls_if op false = later

  pub falls_at : (what : What) → Falls Holding.born (n + 1) (holdings_after d n u what held)
  falls_at (whats.Exec at rc) = falls_if (op_at d at.prog at.op) (rc == 0)
  falls_at (whats.Release class id owner) = falls_without Holding.born (n + 1) (is_equal_holding owner class id) held later
  falls_at _ = later

-- Equal holdings

pub same_res : (a b : Res) → is_same_res a b ≡ true → a ≡ b
same_res Enq Enq h = refl
same_res Stor Stor h = refl
same_res Dsn Dsn h = refl
same_res Timr Timr h = refl
same_res _ _ h = absurd cc

pub res_itself : (a : Res) → is_same_res a a ≡ true
res_itself Enq = refl
res_itself Stor = refl
res_itself Dsn = refl
res_itself Timr = refl

pub equal_is : (owner : ℕ) (class : Res) (id : ℕ) (x : Holding) → is_equal_holding owner class id x ≡ true → IsEqual x class id owner
equal_is owner class id x h =
    let two = and_parts ((x.owner == owner) && is_same_res class x.class) (x.id == id) h in
    let one = and_parts (x.owner == owner) (is_same_res class x.class) two.0 in
    record {
      class_is = sym (same_res class x.class one.1);
      id_is = eqb-true x.id id two.1;
      owner_is = eqb-true x.owner owner one.0;
    }

equal_itself : (x : Holding) → is_equal_holding x.owner x.class x.id x ≡ true
equal_itself x =
    and_from ((x.owner == x.owner) && is_same_res x.class x.class) (x.id == x.id)
    (and_from (x.owner == x.owner) (is_same_res x.class x.class) (eq-eqb x.owner x.owner refl) (res_itself x.class)) (eq-eqb x.id x.id refl)

pub is_equal : (owner : ℕ) (class : Res) (id : ℕ) (x : Holding) → IsEqual x class id owner → is_equal_holding owner class id x ≡ true
is_equal owner class id x h =
    subst (λ (o : ℕ). is_equal_holding o class id x ≡ true) h.owner_is
    (subst (λ (i : ℕ). is_equal_holding x.owner class i x ≡ true) h.id_is
    (subst (λ (c : Res). is_equal_holding x.owner c x.id x ≡ true) h.class_is (equal_itself x)))

-- equal holdings pass alike
passes_as : (x y : Holding) → IsEqual y x.class x.id x.owner → (owner : ℕ) (class : Res) (id : ℕ) → is_equal_holding owner class id x ≡ true → is_equal_holding owner class id y ≡ true
passes_as x y same owner class id h =
    let fact = equal_is owner class id x h in
    is_equal owner class id y (record { class_is = same.class_is ∙ fact.class_is; id_is = same.id_is ∙ fact.id_is; owner_is = same.owner_is ∙ fact.owner_is })

module _ (d : DeckView) (u : ℕ) (x y : Holding) (same : IsEqual y x.class x.id x.owner) where
  card_alike : (op : Op) → card_ends u op x ≡ true → card_ends u op y ≡ true
  card_alike (ops.Free class id) h = passes_as x y same u class id h
  card_alike _ h = absurd cc

  alike_if : (op : Op) (b : Bool) → (if b then card_ends u op else no_one) x ≡ true → (if b then card_ends u op else no_one) y ≡ true
  alike_if op true h = card_alike op h
  alike_if op false h = absurd cc

  pub ends_alike : (what : What) → entry_ends d u what x ≡ true → entry_ends d u what y ≡ true
  ends_alike (whats.Exec at rc) h = alike_if (op_at d at.prog at.op) (rc == 0) h
  ends_alike (whats.Release class id owner) h = passes_as x y same owner class id h
  ends_alike _ h = absurd cc

-- what an entry ends, in the words of the law
module _ (d : DeckView) (u : ℕ) (x : Holding) where
  freed_by : (op : Op) → card_ends u op x ≡ true → (op ≡ ops.Free x.class x.id) × (u ≡ x.owner)
  freed_by (ops.Free class id) h =
      let fact = equal_is u class id x h in
      (ap (λ (c : Res). ops.Free c id) (sym fact.class_is) ∙ ap (λ (i : ℕ). ops.Free x.class i) (sym fact.id_is), sym fact.owner_is)
  freed_by _ h = absurd cc

  executed_by : (op : Op) (rc : ℕ) (b : Bool) → (rc == 0) ≡ b → (if b then card_ends u op else no_one) x ≡ true → (op ≡ ops.Free x.class x.id) × (u ≡ x.owner) × (rc ≡ 0)
  executed_by op rc true e h = let fact = freed_by op h in (fact.0, fact.1, eqb-true rc 0 e)
  executed_by op rc false e h = absurd cc

  pub ends_holding : (what : What) → entry_ends d u what x ≡ true → EndsHolding d x u what
  ends_holding (whats.Exec at rc) h = executed_by (op_at d at.prog at.op) rc (rc == 0) refl h
  ends_holding (whats.Release class id owner) h = let fact = equal_is owner class id x h in (sym fact.class_is, sym fact.id_is, sym fact.owner_is)
  ends_holding _ h = absurd cc
