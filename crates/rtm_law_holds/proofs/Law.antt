-- The law of holdings, point by point.
use Rattle.std.proofs.Common.{◌≡◌, ℕ, zero, suc, ◌-◌, ◌<◌, ◌≤◌, ◌+◌, Bool, true, false, not, List, [], ◌∷◌, length, take, Option, Some, None, refl, sym, ap, subst, arith, inl, inr, ◌⊎◌, ◌∙◌}
use Rattle.std.proofs.lemmas.Bool.{and_from, and_parts, cases_lt, cases_order, eq-eqb, eqb-true, false_from_ne_true, ne_eqb, not_from_false, or_left, or_right}
use Rattle.std.proofs.lemmas.List.{take_all}
use Rattle.std.proofs.lemmas.Option.{slice_get_within}
use Rattle.std.specs.List.{list_any}
use Rattle.std.specs.Prelude.{IsSomeAnd, IsTrue, filter, find, is_some, slice_get, ◌==◌}
use Rattle.rtm_codes.specs.declared.code.Code.{Code}
use Rattle.rtm_deck_items.specs.Reading.{op_at}
use Rattle.rtm_deck_items.specs.View.{DeckView}
use Rattle.rtm_deck_items.specs.WellFormed.{is_well_formed}
use Rattle.rtm_deck_items.specs.declared.op.Op.{Op}
use Rattle.rtm_deck_items.specs.declared.op.Op.TheVariants as ops
use Rattle.rtm_deck_operands.specs.declared.value.Res.{Res}
use Rattle.rtm_deck_operands.specs.declared.value.Res.TheVariants.{Dsn, Enq, Stor, Timr}
use Rattle.rtm_model.specs.declared.block.Place.{Place}
use Rattle.rtm_model.specs.declared.entry.Entry.{Entry}
use Rattle.rtm_model.specs.declared.entry.Fate.{Fate}
use Rattle.rtm_model.specs.declared.entry.What.{What}
use Rattle.rtm_model.specs.declared.entry.What.TheVariants as whats
use Rattle.rtm_model.specs.declared.holding.Holding.{Holding}
use Rattle.rtm_model.specs.declared.outcome.Outcome.TheVariants.{Executed}
use Rattle.rtm_model.specs.Advance.{world}
use Rattle.rtm_model.specs.Cards.{row}
use Rattle.rtm_model.specs.Ending.{Holdings, holdings_of, newest_equal, next_release, no_holdings, of_class}
use Rattle.rtm_model.specs.Held.{is_equal_holding, is_same_res, living_holdings, times_held}
use Rattle.rtm_model.specs.HoldLaw.{DiesAt, EndsEqual, EndsHolding, HoldLaw, IsEqual, card_keeps_holdings, is_done_of, keeps_holdings, keeps_holdings_at, keeps_holdings_from, times_owner_holds}
use Rattle.rtm_model.specs.Legal.{Legal, MayFollow}
use Rattle.rtm_model.specs.Moments.{IsAt, IsHeld, IsIn, IsWhat, before}
use Rattle.rtm_model.specs.NextEntry.{next}
use Rattle.rtm_model.specs.Surroundings.{surroundings_at, whose}
use Rattle.rtm_model.specs.World.{World, core_at, lives_in, master}
use Rattle.rtm_model.specs.inner.Applies.{CanApply}
use Rattle.rtm_model.specs.inner.Soundness.{IsSound}
use Rattle.rtm_law_births.proofs.Histories.{before-next, may_follow}
use Rattle.rtm_law_births.proofs.Lists.{Falls, falls_in, found_in}
use Rattle.rtm_law_births.proofs.Outcomes.{outcome_of, row_of, zero_there}
use Rattle.rtm_law_births.proofs.Sound.{IsSoundHistory, sound_history}
use Rattle.rtm_law_holds.proofs.Acts.{IsListed, act_of, none_at_all, none_of_owner, release_listed, who_makes, whose_master, whose_unit}
use Rattle.rtm_law_holds.proofs.Agree.{Agrees, agree_before, finds_same, held_from, held_of_list, held_to, is_of}
use Rattle.rtm_law_holds.proofs.Ended.{HasEndedIn, ended_by_done, ended_keeps, living_within, makes_none}
use Rattle.rtm_law_holds.proofs.Entries.{IsGot, born_then, card_ends, came_at, dies_at, ends_alike, ends_holding, entry_ends, equal_is, falls_at, held-next, held_before, is_equal, lost_at}
use Rattle.rtm_law_holds.proofs.Lists.{any_at, falls_below, find_some, found_counts, found_passes, newest_found, next_or_none, none_pass, nothing_in}

-- none of the holdings is that owner's
abbrev pub NoneOf : ℕ → List Holding → Type 0
NoneOf u held = (x : Holding) → IsIn x held → x.owner ≡ u → ⊥

-- an owner whose lists are empty holds nothing
empty_is : (held : Holdings) → ((class : Res) → of_class class held ≡ []) → held ≡ no_holdings
empty_is held h =
    ap (λ (xs : List Holding). record { enq = xs; stor = held.stor; dsn = held.dsn; timr = held.timr }) (h Enq)
    ∙ ap (λ (xs : List Holding). record { enq = []; stor = xs; dsn = held.dsn; timr = held.timr }) (h Stor)
    ∙ ap (λ (xs : List Holding). record { enq = []; stor = []; dsn = xs; timr = held.timr }) (h Dsn)
    ∙ ap (λ (xs : List Holding). record { enq = []; stor = []; dsn = []; timr = xs }) (h Timr)

is_there : (o : Option Holding) → is_some o ≡ true → (x : Holding) × (o ≡ Some x)
is_there (Some x) h = (x, refl)
is_there None h = absurd cc

owner_of : (u : ℕ) (class : Res) (x : Holding) → is_of u class x ≡ true → x.owner ≡ u
owner_of u class x h = eqb-true x.owner u (and_parts (x.owner == u) (is_same_res class x.class) h).0

-- the entry that ends the holding, which is the one that it ends
pub record Died (d : DeckView) (h : List Entry) (x : Holding) (i : ℕ) : Type 0 where
  pub entry : Entry
  pub at : IsAt h i entry
  pub found : find (entry_ends d entry.unit entry.what) (held_before d h i) ≡ Some x

-- a unit that has ended, and none of whose holdings is left
pub record IsGone (d : DeckView) (h : List Entry) (u k : ℕ) : Type 0 where
  pub ended : HasEndedIn (before d h k) u
  pub none : NoneOf u (held_before d h k)

-- who gets a holding makes an entry
got_by : (d : DeckView) (w : World) (n u : ℕ) (what : What) (x : Holding) → MayFollow d w n (record { unit = u; what = what }) what → IsGot n u what x
    → (x.owner ≡ u) × ((u ≡ master d) ⊎ (lives_in w u ≡ true))
got_by d w n u (whats.Exec at rc) x may got = (got.1, who_makes d w u (whats.Exec at rc) may)
got_by d w n u _ x may got = absurd got

module _ (d : DeckView) (h : List Entry) (deck : IsTrue (is_well_formed d)) (legal : Legal d h) where
  sound : IsSoundHistory d h
  sound = sound_history d h deck legal

  below : (i : ℕ) (e : Entry) → IsAt h i e → i < length h
  below i e at = slice_get_within h i e at

  may_be : (i u : ℕ) (what : What) → IsWhat h i u what → MayFollow d (before d h i) i (record { unit = u; what = what }) what
  may_be i u what at = may_follow d h legal i (record { unit = u; what = what }) at

  agrees : (k : ℕ) → Agrees (held_before d h k) (World.holdings (before d h k))
  agrees k = elim (cases_lt k (length h)) [
    | inl less ↦ agree_before d h sound legal k (omega (arith, less))
    | inr past ↦
        subst (λ (front : List Entry). Agrees (living_holdings d front) (World.holdings (world d front)))
        (take_all (length h) h (omega arith) ∙ sym (take_all k h past)) (agree_before d h sound legal (length h) (omega arith))
  ]

  falls : (k : ℕ) → Falls Holding.born k (held_before d h k)
  falls zero = tt
  falls (suc k) =
      let m : suc k ≡ k + 1 = omega arith in
      subst (λ (i : ℕ). Falls Holding.born i (held_before d h i)) (sym m)
      (elim (next_or_none h k) as (λ _. Falls Holding.born (k + 1) (held_before d h (k + 1))) [
        | inl (e, at) ↦ subst (Falls Holding.born (k + 1)) (sym (held-next d h k e at)) (falls_at d k e.unit (held_before d h k) (falls k) e.what)
        | inr none ↦
            subst (λ (front : List Entry). Falls Holding.born (k + 1) (living_holdings d front)) (sym none)
            (falls_below Holding.born k (k + 1) (held_before d h k) (omega arith) (falls k))
      ])

  -- Deaths

  died : (x : Holding) (i : ℕ) → DiesAt d h x i → Died d h x i
  died x i dies = elim (next_or_none h i) as (λ _. Died d h x i) [
    | inl (e, at) ↦ record {
      entry = e;
      at = at;
      found = lost_at d i e.unit (held_before d h i) x e.what (held_from (held_before d h i) (before d h i) x (agrees i) dies.lived)
          (λ there. dies.gone (held_to (held_before d h (i + 1)) (before d h (i + 1)) x (agrees (i + 1)) (subst (IsIn x) (sym (held-next d h i e at)) there)));
    }
    | inr none ↦ absurd (dies.gone (subst (λ (front : List Entry). IsHeld (world d front) x) (sym none) dies.lived))
  ]

  died_by : (x : Holding) (i : ℕ) (e : Entry) → IsAt h i e → DiesAt d h x i → find (entry_ends d e.unit e.what) (held_before d h i) ≡ Some x
  died_by x i e at dies =
      let end = died x i dies in
      let there : slice_get h i ≡ Some end.entry = end.at in
      let one : end.entry ≡ e = cc in
      subst (λ (g : Entry). find (entry_ends d g.unit g.what) (held_before d h i) ≡ Some x) one end.found

  dies : (x : Holding) (i : ℕ) (e : Entry) → IsAt h i e → find (entry_ends d e.unit e.what) (held_before d h i) ≡ Some x → DiesAt d h x i
  dies x i e at found = record {
    lived = held_to (held_before d h i) (before d h i) x (agrees i) (found_in (entry_ends d e.unit e.what) (held_before d h i) x found);
    gone = λ there. dies_at d i e.unit (held_before d h i) x (falls i) e.what found
        (subst (IsIn x) (held-next d h i e at) (held_from (held_before d h (i + 1)) (before d h (i + 1)) x (agrees (i + 1)) there));
  }

  -- what isn't held any more isn't got again
  never_again : (x : Holding) (i : ℕ) → x.born < i → (IsIn x (held_before d h i) → ⊥) → (m : ℕ) → IsIn x (held_before d h (i + m)) → ⊥
  never_again x i born gone zero there =
      let k : i + 0 ≡ i = omega arith in
      gone (subst (λ (j : ℕ). IsIn x (held_before d h j)) k there)
  never_again x i born gone (suc m) there =
      let k : i + suc m ≡ (i + m) + 1 = omega arith in
      let moved : IsIn x (held_before d h ((i + m) + 1)) = subst (λ (j : ℕ). IsIn x (held_before d h j)) k there in
      elim (next_or_none h (i + m)) as (λ _. ⊥) [
        | inl (e, at) ↦ elim (came_at d (i + m) e.unit (held_before d h (i + m)) x e.what (subst (IsIn x) (held-next d h (i + m) e at) moved)) as (λ _. ⊥) [
          | inl got ↦ let now = born_then d (i + m) e.unit (held_before d h (i + m)) x e.what got in omega (arith, now, born)
          | inr old ↦ never_again x i born gone m old
        ]
        | inr none ↦ never_again x i born gone m (subst (λ (front : List Entry). IsIn x (living_holdings d front)) none moved)
      ]

  not_twice : (x : Holding) (i j : ℕ) → DiesAt d h x i → DiesAt d h x j → i < j → ⊥
  not_twice x i j one two less =
      let born = falls_in Holding.born i (held_before d h i) x (falls i) (held_from (held_before d h i) (before d h i) x (agrees i) one.lived) in
      let k : j ≡ i + 1 + (j - (i + 1)) = omega (arith, less) in
      never_again x (i + 1) (omega (arith, born)) (λ there. one.gone (held_to (held_before d h (i + 1)) (before d h (i + 1)) x (agrees (i + 1)) there)) (j - (i + 1))
      (subst (λ (m : ℕ). IsIn x (held_before d h m)) k (held_from (held_before d h j) (before d h j) x (agrees j) two.lived))

  pub dies_once : (x : Holding) (i j : ℕ) → DiesAt d h x i → DiesAt d h x j → i ≡ j
  dies_once x i j one two = elim (cases_order i j) as (λ _. i ≡ j) [
    | inl same ↦ same
    | inr (inl less) ↦ absurd (not_twice x i j one two less)
    | inr (inr more) ↦ absurd (not_twice x j i two one more)
  ]

  pub dies_by_one : (x : Holding) (i : ℕ) (e : Entry) → IsAt h i e → DiesAt d h x i → EndsHolding d x e.unit e.what
  dies_by_one x i e at dead = ends_holding d e.unit x e.what (found_passes (entry_ends d e.unit e.what) (held_before d h i) x (died_by x i e at dead))

  pub dies_alone : (one other : Holding) (i : ℕ) → DiesAt d h one i → DiesAt d h other i → one ≡ other
  dies_alone one other i a b =
      let end = died one i a in
      let first : find (entry_ends d (Entry.unit end.entry) (Entry.what end.entry)) (held_before d h i) ≡ Some one = end.found in
      let second : find (entry_ends d (Entry.unit end.entry) (Entry.what end.entry)) (held_before d h i) ≡ Some other = died_by other i end.entry end.at b in
      cc

  pub dies_newest : (x other : Holding) (i : ℕ) → DiesAt d h x i → IsHeld (before d h i) other → IsEqual other x.class x.id x.owner → other.born ≤ x.born
  dies_newest x other i dead held same =
      let end = died x i dead in
      let e : Entry = end.entry in
      newest_found Holding.born (entry_ends d e.unit e.what) i (held_before d h i) x other (falls i) end.found
      (held_from (held_before d h i) (before d h i) other (agrees i) held)
      (ends_alike d e.unit x other same e.what (found_passes (entry_ends d e.unit e.what) (held_before d h i) x end.found))

  -- RELEASE and FREE

  released_is : (i : ℕ) (class : Res) (id owner : ℕ) (whom : Option ℕ) (o : Option Holding) → next_release whom (World.holdings (before d h i)) ≡ o
      → IsSomeAnd o (λ x. (x.class ≡ class) × (x.id ≡ id) × (x.owner ≡ owner)) → (x : Holding) × (find (is_equal_holding owner class id) (held_before d h i) ≡ Some x)
  released_is i class id owner whom None e act = absurd act
  released_is i class id owner whom (Some x) e act =
      let place = release_listed whom (World.holdings (before d h i)) x e in
      let there = held_of_list (held_before d h i) (before d h i) (IsListed.owner place) (IsListed.class place) x (agrees i) (IsListed.there place) in
      find_some (is_equal_holding owner class id) (held_before d h i) x there (is_equal owner class id x (record { class_is = act.0; id_is = act.1; owner_is = act.2 }))

  -- what a RELEASE names is held
  released : (i u : ℕ) (class : Res) (id owner : ℕ) → IsWhat h i u (whats.Release class id owner) → (x : Holding) × (find (is_equal_holding owner class id) (held_before d h i) ≡ Some x)
  released i u class id owner at =
      released_is i class id owner (whose d u) (next_release (whose d u) (World.holdings (before d h i))) refl
      (act_of d (before d h i) u (whats.Release class id owner) (may_be i u (whats.Release class id owner) at))

  pub release_ends : (i u : ℕ) (class : Res) (id owner : ℕ) → IsWhat h i u (whats.Release class id owner) → EndsEqual d h i class id owner
  release_ends i u class id owner at =
      let found = released i u class id owner at in
      record {
        holding = found.0;
        equal = equal_is owner class id found.0 (found_passes (is_equal_holding owner class id) (held_before d h i) found.0 found.1);
        dies = dies found.0 i (record { unit = u; what = whats.Release class id owner }) at found.1;
      }

  -- and so is what a FREE with 0 names
  freed : (i u : ℕ) (at : Place) (class : Res) (id : ℕ) → IsWhat h i u (whats.Exec at 0) → op_at d at.prog at.op ≡ ops.Free class id
      → (x : Holding) × (find (is_equal_holding u class id) (held_before d h i) ≡ Some x)
  freed i u at class id here op_is =
      let w : World = before d h i in
      let shown = row_of (core_at u w) (surroundings_at d w u (op_at d at.prog at.op)) (op_at d at.prog at.op) 0 (outcome_of d w u (whats.Exec at 0) (may_be i u (whats.Exec at 0) here)) in
      let by_row : row (core_at u w) (surroundings_at d w u (ops.Free class id)) (ops.Free class id) ≡ Executed 0 =
      subst (λ (op : Op). row (core_at u w) (surroundings_at d w u op) op ≡ Executed 0) op_is shown in
      let some : is_some (newest_equal u class id w.holdings) ≡ true = zero_there _ 3 0 by_row refl in
      let found = is_there (newest_equal u class id w.holdings) some in
      (found.0, finds_same u class id (held_before d h i) w.holdings (agrees i) ∙ found.1)

  pub free_ends : (i u : ℕ) (at : Place) (class : Res) (id : ℕ) → IsWhat h i u (whats.Exec at 0) → op_at d at.prog at.op ≡ ops.Free class id → EndsEqual d h i class id u
  free_ends i u at class id here op_is =
      let found = freed i u at class id here op_is in
      record {
        holding = found.0;
        equal = equal_is u class id found.0 (found_passes (is_equal_holding u class id) (held_before d h i) found.0 found.1);
        dies = dies found.0 i (record { unit = u; what = whats.Exec at 0 }) here (ap (λ (op : Op). find (card_ends u op) (held_before d h i)) op_is ∙ found.1);
      }

  -- DONE

  can_be : (i u : ℕ) (what : What) → IsWhat h i u what → CanApply d (before d h i) (record { unit = u; what = what })
  can_be i u what at = sound.entries i (record { unit = u; what = what }) at

  -- at its DONE a unit holds nothing
  none_at_done : (i u : ℕ) (code : Code) (to_task to_step : Option Fate) → IsWhat h i u (whats.Done code to_task to_step) → NoneOf u (held_before d h i)
  none_at_done i u code to_task to_step at x there own =
      let w : World = before d h i in
      let what = whats.Done code to_task to_step in
      let lives : lives_in w u ≡ true = (CanApply.what (can_be i u what at)).0 in
      let within = living_within w u lives in
      let len = IsSound.lives_len (sound.worlds i (omega (arith, below i (record { unit = u; what = what }) at))) in
      let other : (u == master d) ≡ false = ne_eqb u (master d) (λ e. omega (arith, within, len, e)) in
      let none = subst (λ (whom : Option ℕ). next_release whom w.holdings ≡ None) (whose_unit d u other) (act_of d w u what (may_be i u what at)) in
      let held : IsIn x (of_class x.class (holdings_of u w.holdings)) =
      subst (λ (o : ℕ). IsIn x (of_class x.class (holdings_of o w.holdings))) own (held_to (held_before d h i) w x (agrees i) there) in
      let nothing : IsIn x [] = subst (IsIn x) (none_of_owner u w.holdings none x.class) held in
      absurd nothing

  -- nor later
  gone_next : (u k : ℕ) → IsGone d h u k → IsGone d h u (k + 1)
  gone_next u k gone = elim (next_or_none h k) as (λ _. IsGone d h u (k + 1)) [
    | inl (e, at) ↦ record {
      ended = subst (λ (w : World). HasEndedIn w u) (sym (before-next d h k e at)) (ended_keeps u d (before d h k) k e.unit e.what gone.ended);
      none = λ x there own. elim (came_at d k e.unit (held_before d h k) x e.what (subst (IsIn x) (held-next d h k e at) there)) as (λ _. ⊥) [
        | inl got ↦
            let who = got_by d (before d h k) k e.unit e.what x (may_be k e.unit e.what at) got in
            let same : e.unit ≡ u = sym who.0 ∙ own in
            makes_none d k (before d h k) u (sound.worlds k (omega (arith, below k e at))) gone.ended
            (subst (λ (v : ℕ). (v ≡ master d) ⊎ (lives_in (before d h k) v ≡ true)) same who.1)
        | inr old ↦ gone.none x old own
      ];
    }
    | inr none ↦ record {
      ended = subst (λ (front : List Entry). HasEndedIn (world d front) u) (sym none) gone.ended;
      none = subst (λ (front : List Entry). NoneOf u (living_holdings d front)) (sym none) gone.none;
    }
  ]

  gone_since : (u i : ℕ) → IsGone d h u i → (m : ℕ) → IsGone d h u (i + m)
  gone_since u i gone zero = let k : i + 0 ≡ i = omega arith in subst (IsGone d h u) (sym k) gone
  gone_since u i gone (suc m) =
      let k : i + suc m ≡ (i + m) + 1 = omega arith in
      subst (IsGone d h u) (sym k) (gone_next u (i + m) (gone_since u i gone m))

  gone_after : (i j u : ℕ) (code : Code) (to_task to_step : Option Fate) → IsWhat h i u (whats.Done code to_task to_step) → i < j → IsGone d h u j
  gone_after i j u code to_task to_step at less =
      let w : World = before d h i in
      let what = whats.Done code to_task to_step in
      let e : Entry = record { unit = u; what = what } in
      let lives : lives_in w u ≡ true = (CanApply.what (can_be i u what at)).0 in
      let first : IsGone d h u (i + 1) = record {
        ended = subst (λ (v : World). HasEndedIn v u) (sym (before-next d h i e at)) (ended_by_done d w i u code to_task to_step lives);
        none = subst (NoneOf u) (sym (held-next d h i e at)) (none_at_done i u code to_task to_step at);
      } in
      let k : j ≡ i + 1 + (j - (i + 1)) = omega (arith, less) in
      subst (IsGone d h u) (sym k) (gone_since u (i + 1) first (j - (i + 1)))

  pub done_holds_nothing : (i j u : ℕ) (code : Code) (to_task to_step : Option Fate) → IsWhat h i u (whats.Done code to_task to_step) → i < j → j ≤ length h
      → holdings_of u (World.holdings (before d h j)) ≡ no_holdings
  done_holds_nothing i j u code to_task to_step at less within =
      let gone = gone_after i j u code to_task to_step at less in
      empty_is (holdings_of u (World.holdings (before d h j)))
      (λ class. sym (agrees j u class) ∙ none_pass (is_of u class) (held_before d h j) (λ x there passes. IsGone.none gone x there (owner_of u class x passes)))

  pub done_in_entries : (i j u : ℕ) (code : Code) (to_task to_step : Option Fate) (class : Res) (id : ℕ) → IsWhat h i u (whats.Done code to_task to_step) → i < j
      → times_held d (take j h) u class id ≡ 0
  done_in_entries i j u code to_task to_step class id at less =
      let gone = gone_after i j u code to_task to_step at less in
      ap length (none_pass (is_equal_holding u class id) (held_before d h j) (λ x there passes. IsGone.none gone x there (IsEqual.owner_is (equal_is u class id x passes))))

  -- MEMEND

  -- at MEMEND nobody holds anything
  none_at_end : (i u : ℕ) → IsWhat h i u whats.MemEnd → held_before d h i ≡ []
  none_at_end i u at =
      let w : World = before d h i in
      let act = act_of d w u whats.MemEnd (may_be i u whats.MemEnd at) in
      let none = subst (λ (whom : Option ℕ). next_release whom w.holdings ≡ None) (whose_master d u act.0) act.1 in
      nothing_in (held_before d h i) (λ x there. subst (IsIn x) (none_at_all w.holdings none x.owner x.class) (held_to (held_before d h i) w x (agrees i) there))

  pub end_in_entries : (i u : ℕ) → IsWhat h i u whats.MemEnd → living_holdings d (take (i + 1) h) ≡ []
  end_in_entries i u at = held-next d h i (record { unit = u; what = whats.MemEnd }) at ∙ none_at_end i u at

  pub end_holds_nothing : (i u owner : ℕ) → IsWhat h i u whats.MemEnd → holdings_of owner (World.holdings (before d h (i + 1))) ≡ no_holdings
  end_holds_nothing i u owner at =
      empty_is (holdings_of owner (World.holdings (before d h (i + 1))))
      (λ class. sym (agrees (i + 1) owner class) ∙ ap (filter (is_of owner class)) (end_in_entries i u at))

  -- Entry by entry

  done_before : (i j u v : ℕ) (what : What) → j < i → IsWhat h j v what → is_done_of u v what ≡ true → HasEndedIn (before d h i) u
  done_before i j u v (whats.Done code to_task to_step) less at passes =
      let same = eqb-true v u passes in
      let gone = gone_after j i v code to_task to_step at less in
      subst (HasEndedIn (before d h i)) same (IsGone.ended gone)
  done_before i j u v _ less at passes = absurd cc

  no_done : (i u : ℕ) (what : What) → IsWhat h i u what → next d (before d h i) u ≡ Some what → list_any (λ (e : Entry). is_done_of u e.unit e.what) (take i h) ≡ true → ⊥
  no_done i u what at may any =
      let found = any_at (λ (e : Entry). is_done_of u e.unit e.what) h i any in
      let e : Entry = found.2.0 in
      makes_none d i (before d h i) u (sound.worlds i (omega (arith, below i (record { unit = u; what = what }) at)))
      (done_before i found.0 u e.unit e.what found.1 found.2.1 found.2.2) (who_makes d (before d h i) u what may)

  card_keeps : (i u : ℕ) (at : Place) → IsWhat h i u (whats.Exec at 0) → (op : Op) → op_at d at.prog at.op ≡ op → card_keeps_holdings d (take i h) u op ≡ true
  card_keeps i u at here (ops.Get class id) op_is =
      not_from_false (list_any (λ (e : Entry). is_done_of u e.unit e.what) (take i h))
      (false_from_ne_true (list_any (λ (e : Entry). is_done_of u e.unit e.what) (take i h)) (no_done i u (whats.Exec at 0) here (may_be i u (whats.Exec at 0) here)))
  card_keeps i u at here (ops.Free class id) op_is =
      let found = freed i u at class id here op_is in
      not_from_false (times_held d (take i h) u class id == 0) (found_counts (is_equal_holding u class id) (held_before d h i) found.0 found.1)
  card_keeps i u at here _ op_is = refl

  exec_keeps : (i u rc : ℕ) (at : Place) → IsWhat h i u (whats.Exec at rc) → (b : Bool) → (rc == 0) ≡ b → keeps_holdings_at d (take i h) u (whats.Exec at rc) ≡ true
  exec_keeps i u rc at here false e = or_left (not (rc == 0)) (card_keeps_holdings d (take i h) u (op_at d at.prog at.op)) (not_from_false (rc == 0) e)
  exec_keeps i u rc at here true e =
      or_right (not (rc == 0)) (card_keeps_holdings d (take i h) u (op_at d at.prog at.op))
      (card_keeps i u at (subst (λ (k : ℕ). IsWhat h i u (whats.Exec at k)) (eqb-true rc 0 e) here) (op_at d at.prog at.op) refl)

  keeps_at : (i u : ℕ) (what : What) → IsWhat h i u what → keeps_holdings_at d (take i h) u what ≡ true
  keeps_at i u (whats.Exec at rc) here = exec_keeps i u rc at here (rc == 0) refl
  keeps_at i u (whats.Release class id owner) here =
      let found = released i u class id owner here in
      not_from_false (times_held d (take i h) owner class id == 0) (found_counts (is_equal_holding owner class id) (held_before d h i) found.0 found.1)
  keeps_at i u (whats.Done code to_task to_step) here =
      eq-eqb (times_owner_holds d (take i h) u) 0
      (ap length (none_pass (λ (x : Holding). x.owner == u) (held_before d h i) (λ x there passes. none_at_done i u code to_task to_step here x there (eqb-true x.owner u passes))))
  keeps_at i u whats.MemEnd here = eq-eqb (length (living_holdings d (take i h))) 0 (ap length (none_at_end i u here))
  keeps_at i u _ here = refl

  keeps_from : (i : ℕ) (es : List Entry) → ((k : ℕ) (e : Entry) → slice_get es k ≡ Some e → IsAt h (i + k) e) → keeps_holdings_from d h i es ≡ true
  keeps_from i [] at = refl
  keeps_from i (e ∷ es) at =
      let k : i + 0 ≡ i = omega arith in
      and_from (keeps_holdings_at d (take i h) e.unit e.what) (keeps_holdings_from d h (i + 1) es)
      (keeps_at i e.unit e.what (subst (λ (m : ℕ). IsAt h m e) k (at 0 e refl)))
      (keeps_from (i + 1) es (λ j x there. let m : i + suc j ≡ i + 1 + j = omega arith in subst (λ (l : ℕ). IsAt h l x) m (at (suc j) x there)))

  pub kept_by_each : IsTrue (keeps_holdings d h)
  kept_by_each = keeps_from 0 h (λ k e there. let m : k ≡ 0 + k = omega arith in subst (λ (l : ℕ). IsAt h l e) m there)

  -- the law
  pub holds : HoldLaw d h
  holds = record {
    once = dies_once;
    by = dies_by_one;
    ends = release_ends;
    frees = free_ends;
    alone = dies_alone;
    newest = dies_newest;
    done = done_holds_nothing;
    over = end_holds_nothing;
    done_in_entries = done_in_entries;
    over_in_entries = end_in_entries;
    each = kept_by_each;
  }
