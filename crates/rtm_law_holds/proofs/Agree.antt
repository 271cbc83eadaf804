-- What entries alone say is held, and what the world says, agree after every legal history.
use Rattle.std.proofs.Common.{◌≡◌, ℕ, zero, suc, ◌<◌, ◌≤◌, ◌+◌, Bool, true, false, not, List, [], ◌∷◌, length, Option, Some, None, refl, sym, ap, subst, arith, ◌∙◌}
use Rattle.std.proofs.lemmas.Bool.{and_from, and_right, eq-eqb, eqb-false, eqb-true}
use Rattle.std.proofs.lemmas.List.{get_or-set_other, get_or-set_same}
use Rattle.std.specs.Prelude.{cond, filter, find, if◌then◌else◌, is_some, replicate, slice_get, ◌&&◌, ◌==◌}
use Rattle.rtm_deck_items.specs.Reading.{job_step, op_at}
use Rattle.rtm_deck_items.specs.View.{DeckView}
use Rattle.rtm_deck_items.specs.declared.op.Op.{Op}
use Rattle.rtm_deck_items.specs.declared.op.Op.TheVariants as ops
use Rattle.rtm_deck_operands.specs.declared.value.Res.{Res}
use Rattle.rtm_deck_operands.specs.declared.value.Res.TheVariants.{Dsn, Enq, Stor, Timr}
use Rattle.rtm_model.specs.declared.entry.Entry.{Entry}
use Rattle.rtm_model.specs.declared.entry.What.{What}
use Rattle.rtm_model.specs.declared.entry.What.TheVariants as whats
use Rattle.rtm_model.specs.declared.holding.Holding.{Holding}
use Rattle.rtm_model.specs.declared.outcome.Outcome.TheVariants.{Executed}
use Rattle.rtm_model.specs.Advance.{advance, after_attach, beyond_card, with_unit}
use Rattle.rtm_model.specs.Cards.{row}
use Rattle.rtm_model.specs.Chains.{without_first}
use Rattle.rtm_model.specs.Ending.{Holdings, after_free, after_get, holdings_of, is_of_id, newest_equal, no_holdings, of_class, on_class, on_owner}
use Rattle.rtm_model.specs.Held.{holdings_after, holdings_after_card, is_equal_holding, is_same_res}
use Rattle.rtm_model.specs.Legal.{Legal}
use Rattle.rtm_model.specs.Moments.{IsHeld, IsIn, before}
use Rattle.rtm_model.specs.Surroundings.{surroundings_at}
use Rattle.rtm_model.specs.World.{UnitOfWork, World, core_at, related_task}
use Rattle.rtm_model.specs.inner.Soundness.{IsSound}
use Rattle.rtm_law_births.proofs.Beyond.{arrived_units, own, related_units, step_units}
use Rattle.rtm_law_births.proofs.Histories.{before-first, before-next, entry_at}
use Rattle.rtm_law_births.proofs.Lists.{filter_in, in_filter}
use Rattle.rtm_law_births.proofs.Living.{IsMade, made_at}
use Rattle.rtm_law_births.proofs.Outcomes.{outcome_of, row_of, there_rc, unless_rc}
use Rattle.rtm_law_births.proofs.Sound.{IsSoundHistory}
use Rattle.rtm_law_holds.proofs.Entries.{equal_is, held-next, held_before, res_itself, same_res}
use Rattle.rtm_law_holds.proofs.Lists.{filter_here, filter_there, find_both, without_none}

-- the holding is one of that owner and class
abbrev pub is_of : ℕ → Res → Holding → Bool
is_of owner class x = (x.owner == owner) && is_same_res class x.class

-- each owner's list of a class has those of the holdings that are its and of that class, in their order
abbrev pub Agrees : List Holding → List Holdings → Type 0
Agrees held hs = (owner : ℕ) (class : Res) → filter (is_of owner class) held ≡ of_class class (holdings_of owner hs)

-- a class changed, and another one
class_here : (class : Res) (f : List Holding → List Holding) (held : Holdings) → of_class class (on_class class f held) ≡ f (of_class class held)
class_here Enq f held = refl
class_here Stor f held = refl
class_here Dsn f held = refl
class_here Timr f held = refl

class_there : (a b : Res) (f : List Holding → List Holding) (held : Holdings) → is_same_res a b ≡ false → of_class a (on_class b f held) ≡ of_class a held
class_there Enq Enq f held h = absurd cc
class_there Stor Stor f held h = absurd cc
class_there Dsn Dsn f held h = absurd cc
class_there Timr Timr f held h = absurd cc
class_there _ _ f held h = refl

-- one owner's list of a class is changed
module _ (u : ℕ) (class : Res) (f : List Holding → List Holding) (hs : List Holdings) (within : u < length hs) where
  abbrev changed : List Holdings
  changed = on_owner u (on_class class f) hs

  list_here : of_class class (holdings_of u changed) ≡ f (of_class class (holdings_of u hs))
  list_here = ap (of_class class) (get_or-set_same hs u (on_class class f (holdings_of u hs)) no_holdings within) ∙ class_here class f (holdings_of u hs)

  other_class : (c : Res) → is_same_res c class ≡ false → of_class c (holdings_of u changed) ≡ of_class c (holdings_of u hs)
  other_class c other = ap (of_class c) (get_or-set_same hs u (on_class class f (holdings_of u hs)) no_holdings within) ∙ class_there c class f (holdings_of u hs) other

  other_owner : (o : ℕ) (c : Res) → (u == o) ≡ false → of_class c (holdings_of o changed) ≡ of_class c (holdings_of o hs)
  other_owner o c other = ap (of_class c) (get_or-set_other hs u o (on_class class f (holdings_of u hs)) no_holdings (λ e. eqb-false u o other (sym e)))

  -- what holds of the changed list, and of each other one
  by_list : (P : ℕ → Res → List Holding → Type 0) → P u class (f (of_class class (holdings_of u hs)))
      → ((o : ℕ) (c : Res) → ((u == o) && is_same_res c class) ≡ false → P o c (of_class c (holdings_of o hs)))
      → (o : ℕ) (c : Res) → P o c (of_class c (holdings_of o changed))
  by_list P here there o c = by_both (u == o) (is_same_res c class) refl refl
    where
      by_both : (a b : Bool) → (u == o) ≡ a → is_same_res c class ≡ b → P o c (of_class c (holdings_of o changed))
      by_both true true e g =
          let own = eqb-true u o e in
          let one = same_res c class g in
          subst (λ (v : ℕ). P v c (of_class c (holdings_of v changed))) own
          (subst (λ (k : Res). P u k (of_class k (holdings_of u changed))) (sym one) (subst (P u class) (sym list_here) here))
      by_both true false e g =
          let own = eqb-true u o e in
          subst (λ (v : ℕ). P v c (of_class c (holdings_of v changed))) own
          (subst (P u c) (sym (other_class c g)) (there u c (and_right (u == u) (is_same_res c class) g)))
      by_both false b e g = subst (P o c) (sym (other_owner o c e)) (there o c (ap (λ (t : Bool). t && is_same_res c class) e))

-- GET
module _ (n u : ℕ) (class : Res) (id : ℕ) (held : List Holding) (hs : List Holdings) (within : u < length hs) (agrees : Agrees held hs) where
  abbrev new : Holding
  new = record { born = n; class = class; id = id; owner = u }

  got_agrees : Agrees (new ∷ held) (after_get new hs)
  got_agrees = by_list u class (λ old. new ∷ old) hs within (λ o c list. filter (is_of o c) (new ∷ held) ≡ list)
      (ap (λ (t : Bool). cond t (new ∷ filter (is_of u class) held) (filter (is_of u class) held)) (and_from (u == u) (is_same_res class class) (eq-eqb u u refl) (res_itself class))
      ∙ ap (λ (list : List Holding). new ∷ list) (agrees u class))
      (λ o c other. ap (λ (t : Bool). cond t (new ∷ filter (is_of o c) held) (filter (is_of o c) held)) other ∙ agrees o c)

-- FREE and RELEASE
not_both : (owner : ℕ) (class : Res) (o : ℕ) (c : Res) (x : Holding) → ((owner == o) && is_same_res c class) ≡ false → (x.owner ≡ owner) → (x.class ≡ class) → is_of o c x ≡ false
not_both owner class o c x other own one = subst (λ (v : ℕ). ((v == o) && is_same_res c x.class) ≡ false) (sym own) (subst (λ (k : Res). ((owner == o) && is_same_res c k) ≡ false) (sym one) other)

module _ (owner : ℕ) (class : Res) (id : ℕ) (held : List Holding) (hs : List Holdings) (agrees : Agrees held hs) where
  -- what the one finds, the other does
  pub finds_same : find (is_equal_holding owner class id) held ≡ newest_equal owner class id hs
  finds_same = find_both (is_of owner class) (is_equal_holding owner class id) (is_of_id id) (λ x. refl) held ∙ ap (find (is_of_id id)) (agrees owner class)

  freed_agrees : owner < length hs → Agrees (without_first (is_equal_holding owner class id) held) (after_free owner class id hs)
  freed_agrees within = by_list owner class (without_first (is_of_id id)) hs within (λ o c list. filter (is_of o c) (without_first (is_equal_holding owner class id) held) ≡ list)
      (filter_here (is_of owner class) (is_equal_holding owner class id) (is_of_id id) (λ x. refl) held ∙ ap (without_first (is_of_id id)) (agrees owner class))
      (λ o c other. filter_there (is_of o c) (is_equal_holding owner class id)
      (λ x passes. let fact = equal_is owner class id x passes in not_both owner class o c x other fact.owner_is fact.class_is) held
      ∙ agrees o c)

if_same : {X : Type 0} (b : Bool) (x : X) → (if b then x else x) ≡ x
if_same true x = refl
if_same false x = refl

-- a card that was executed
module _ (d : DeckView) (n u rc : ℕ) (w : World) (units : List UnitOfWork) (held : List Holding) (sound : IsSound d n w) (unit : u ≤ length d.units) (agrees : Agrees held w.holdings) where
  within : u < length w.holdings
  within = omega (arith, unit, sound.owners_len)

  abbrev after : Op → List Holding
  after op = if rc == 0 then holdings_after_card n u op held else held

  still : (after_it : List Holding) (hs : List Holdings) → after_it ≡ held → hs ≡ w.holdings → Agrees after_it hs
  still after_it hs e g = subst (λ (l : List Holding). Agrees l hs) (sym e) (subst (Agrees held) (sym g) agrees)

  if_born : (b : Bool) (w2 : World) → World.holdings w2 ≡ w.holdings → World.holdings (if b then w2 else record w { units = units }) ≡ w.holdings
  if_born true w2 e = e
  if_born false w2 e = refl

  -- FREE is executed with 0 where it finds one, else it takes nothing away
  freed : (class : Res) (id : ℕ) (o : Option Holding) → newest_equal u class id w.holdings ≡ o → (is_some o ≡ true → rc ≡ 0) → after (ops.Free class id) ≡ without_first (is_equal_holding u class id) held
  freed class id (Some x) e zero_is = ap (λ (t : Bool). if t then without_first (is_equal_holding u class id) held else held) (eq-eqb rc 0 (zero_is refl))
  freed class id None e zero_is =
      let none = without_none (is_equal_holding u class id) held (finds_same u class id held w.holdings agrees ∙ e) in
      ap (λ (list : List Holding). if rc == 0 then list else held) none ∙ if_same (rc == 0) held ∙ sym none

  card_agrees : (op : Op) → row (core_at u w) (surroundings_at d w u op) op ≡ Executed rc → Agrees (after op) (World.holdings (beyond_card d n u rc op (record w { units = units })))
  card_agrees (ops.Get class id) e =
      let got = got_agrees n u class id held w.holdings within agrees in
      subst (λ (l : List Holding). Agrees l (after_get (new n u class id held w.holdings within agrees) w.holdings))
      (sym (ap (λ (t : Bool). if t then record { born = n; class = class; id = id; owner = u } ∷ held else held) (eq-eqb rc 0 (unless_rc _ _ rc e)))) got
  card_agrees (ops.Free class id) e =
      subst (λ (l : List Holding). Agrees l (after_free u class id w.holdings))
      (sym (freed class id (newest_equal u class id w.holdings) refl (there_rc _ 4 rc e))) (freed_agrees u class id held w.holdings agrees within)
  card_agrees (ops.Attachx unit estai term) e = still _ _ (if_same (rc == 0) held) (if_born (rc == 0) (after_attach d n u unit estai term (record w { units = units })) refl)
  card_agrees (ops.Schedule unit) e = still _ _ (if_same (rc == 0) held) (if_born (rc == 0) (with_unit d n unit None [] (record w { units = units })) refl)
  card_agrees _ e = still _ _ (if_same (rc == 0) held) refl

-- each entry
module _ (d : DeckView) (w : World) (n u : ℕ) (held : List Holding) (agrees : Agrees held w.holdings) where
  unchanged : (hs : List Holdings) → hs ≡ w.holdings → Agrees held hs
  unchanged hs e = subst (Agrees held) (sym e) agrees

  entry_agrees : (what : What) → IsMade d w n (record { unit = u; what = what }) → Agrees (holdings_after d n u what held) (World.holdings (advance d w n (record { unit = u; what = what })))
  entry_agrees (whats.Exec at rc) m =
      card_agrees d n u rc w (World.units (own d w n u (whats.Exec at rc))) held m.sound m.can.unit agrees (op_at d at.prog at.op)
      (row_of (core_at u w) (surroundings_at d w u (op_at d at.prog at.op)) (op_at d at.prog at.op) rc (outcome_of d w u (whats.Exec at rc) m.may))
  entry_agrees (whats.Arrive cmd fate) m = unchanged _ (ap World.holdings (arrived_units n u (slice_get d.commands cmd) (own d w n u (whats.Arrive cmd fate))))
  entry_agrees (whats.Release class id owner) m =
      freed_agrees owner class id held w.holdings agrees (let len = IsSound.owners_len m.sound in omega (arith, m.can.what.1, len))
  entry_agrees (whats.Done code to_task to_step) m =
      unchanged _ (ap World.holdings (step_units n (not (u == job_step d)) (job_step d) _ _) ∙ ap World.holdings (related_units n (related_task d u) _ _))
  entry_agrees _ m = agrees

-- at the start nobody holds anything
nothing_held : (k o : ℕ) → holdings_of o (replicate k no_holdings) ≡ no_holdings
nothing_held zero zero = refl
nothing_held zero (suc o) = refl
nothing_held (suc k) zero = refl
nothing_held (suc k) (suc o) = nothing_held k o

pub none_of_class : (class : Res) → of_class class no_holdings ≡ []
none_of_class Enq = refl
none_of_class Stor = refl
none_of_class Dsn = refl
none_of_class Timr = refl

module _ (d : DeckView) (h : List Entry) (sound : IsSoundHistory d h) (legal : Legal d h) where
  -- before each entry the entries and the world say the same
  pub agree_before : (k : ℕ) → k ≤ length h → Agrees (held_before d h k) (World.holdings (before d h k))
  agree_before zero le =
      subst (λ (w : World). Agrees [] (World.holdings w)) (sym (before-first d h))
      (λ owner class. sym (ap (of_class class) (nothing_held (length d.units + 1) owner) ∙ none_of_class class))
  agree_before (suc k) le =
      let at = entry_at h k (omega arith) in
      let m : suc k ≡ k + 1 = omega arith in
      let e : Entry = at.0 in
      let step = entry_agrees d (before d h k) k e.unit (held_before d h k) (agree_before k (omega arith)) e.what (made_at d h sound legal k e at.1 (omega arith)) in
      subst (λ (i : ℕ). Agrees (held_before d h i) (World.holdings (before d h i))) (sym m)
      (subst (λ (l : List Holding). Agrees l (World.holdings (before d h (k + 1)))) (sym (held-next d h k e at.1))
      (subst (λ (w : World). Agrees (holdings_after d k e.unit e.what (held_before d h k)) (World.holdings w)) (sym (before-next d h k e at.1)) step))

-- so a holding that is held by the one is held by the other
of_itself : (x : Holding) → is_of x.owner x.class x ≡ true
of_itself x = and_from (x.owner == x.owner) (is_same_res x.class x.class) (eq-eqb x.owner x.owner refl) (res_itself x.class)

pub held_from : (held : List Holding) (w : World) (x : Holding) → Agrees held w.holdings → IsHeld w x → IsIn x held
held_from held w x agrees h = (in_filter (is_of x.owner x.class) held x (subst (IsIn x) (sym (agrees x.owner x.class)) h)).0

pub held_to : (held : List Holding) (w : World) (x : Holding) → Agrees held w.holdings → IsIn x held → IsHeld w x
held_to held w x agrees h = subst (IsIn x) (agrees x.owner x.class) (filter_in (is_of x.owner x.class) held x h (of_itself x))

pub held_of_list : (held : List Holding) (w : World) (owner : ℕ) (class : Res) (x : Holding) → Agrees held w.holdings → IsIn x (of_class class (holdings_of owner w.holdings)) → IsIn x held
held_of_list held w owner class x agrees h = (in_filter (is_of owner class) held x (subst (IsIn x) (sym (agrees owner class)) h)).0
