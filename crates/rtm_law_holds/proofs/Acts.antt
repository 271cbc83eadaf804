-- What the entry that a unit may make says of what is held: a RELEASE names a holding that is the next to be released,
-- and at DONE and MEMEND none is; and whoever makes an entry lives, or is the master.
use Rattle.std.proofs.Common.{◌≡◌, ℕ, zero, suc, Bool, true, false, List, [], ◌∷◌, map, Option, Some, None, refl, sym, ap, subst, inl, inr, ◌⊎◌}
use Rattle.std.proofs.lemmas.Bool.{eq-eqb, eqb-true}
use Rattle.std.specs.List.{fold}
use Rattle.std.specs.Option.{option_or}
use Rattle.std.specs.Prelude.{IfSome, IsSomeAnd, if◌then◌else◌, nat_lt, position, slice_get, ◌==◌}
use Rattle.rtm_codes.specs.declared.code.Code.{Code}
use Rattle.rtm_deck_items.specs.Reading.{op_at}
use Rattle.rtm_deck_items.specs.View.{DeckView}
use Rattle.rtm_deck_operands.specs.declared.value.Res.{Res}
use Rattle.rtm_deck_operands.specs.declared.value.Res.TheVariants.{Dsn, Enq, Stor, Timr}
use Rattle.rtm_model.specs.declared.abort.Abort.{Abort}
use Rattle.rtm_model.specs.declared.block.Block.{Block}
use Rattle.rtm_model.specs.declared.block.Place.{Place}
use Rattle.rtm_model.specs.declared.entry.What.{What}
use Rattle.rtm_model.specs.declared.entry.What.TheVariants.{Done, MemEnd, Release}
use Rattle.rtm_model.specs.declared.error_record.ErrorRecord.{ErrorRecord}
use Rattle.rtm_model.specs.declared.holding.Holding.{Holding}
use Rattle.rtm_model.specs.declared.holding.Manager1.{Manager1}
use Rattle.rtm_model.specs.declared.outcome.Outcome.{Outcome}
use Rattle.rtm_model.specs.declared.outcome.Outcome.TheVariants.{Abends, Executed, Returns, Waits}
use Rattle.rtm_model.specs.declared.reg.Reg.{Reg}
use Rattle.rtm_model.specs.declared.surroundings.Surroundings.{Surroundings}
use Rattle.rtm_model.specs.Blocks.{newest_block}
use Rattle.rtm_model.specs.Cards.{outcome}
use Rattle.rtm_model.specs.Ending.{Holdings, first_by_class, holdings_of, newer_holding, newest_held, newest_of_all, next_manager, next_release, of_class}
use Rattle.rtm_model.specs.Levels.{current, error_in}
use Rattle.rtm_model.specs.Moments.{IsIn}
use Rattle.rtm_model.specs.NextEntry.{card_entry, card_entry_at, card_entry_by, done_of, eligible_routine, ending_or_card, first_case, handling_of, is_outermost, last_return, manager_or, master_act, next, next_landing, next_master, next_of_master, next_of_unit, next_unit, release_or, unit_act}
use Rattle.rtm_model.specs.Surroundings.{surroundings, whose}
use Rattle.rtm_model.specs.Tasks.{Tree, has_subtask, is_living}
use Rattle.rtm_model.specs.World.{Beginning, Core, World, core_at, lives_in, master}
use Rattle.rtm_law_holds.proofs.Agree.{none_of_class}

abbrev pub IsAct : DeckView → World → ℕ → What → Type 0
IsAct d w u (Release class id owner) = IsSomeAnd (next_release (whose d u) w.holdings) (λ x. (x.class ≡ class) × (x.id ≡ id) × (x.owner ≡ owner))
IsAct d w u (Done code to_task to_step) = next_release (whose d u) w.holdings ≡ None
IsAct d w u MemEnd = (u ≡ master d) × (next_release (whose d u) w.holdings ≡ None)
IsAct d w u _ = Unit {0}

module _ (d : DeckView) (w : World) (u : ℕ) where
  if_either : (b : Bool) (x y : Option What) → IfSome x (IsAct d w u) → IfSome y (IsAct d w u) → IfSome (if b then x else y) (IsAct d w u)
  if_either true x y h i = h
  if_either false x y h i = i

  if_true : (b : Bool) (o : Option What) → IfSome o (IsAct d w u) → IfSome (if b then o else None) (IsAct d w u)
  if_true true o h = h
  if_true false o h = tt

  -- an error is open
  handled : (r : ErrorRecord) (routine own : Option Reg) → IsAct d w u (handling_of d.sdwa r routine own)
  handled r (Some reg) own = tt
  handled r None (Some own) = tt
  handled r None None = tt

  -- cards
  returned : (a : Surroundings) (routine : Option Reg) → IsAct d w u (last_return d (core_at u w) a routine)
  returned a (Some reg) = tt
  returned a None = tt

  carded_by : (a : Surroundings) (place : Place) (o : Outcome) → IfSome (card_entry_by d (core_at u w) a place o) (IsAct d w u)
  carded_by a place (Executed rc) = tt
  carded_by a place (Abends code reason dump step) = tt
  carded_by a place Waits = tt
  carded_by a place Returns = returned a (current (Core.levels (core_at u w)))

  carded_at : (a : Surroundings) (o : Option Block) → IfSome (card_entry_at d (core_at u w) a o) (IsAct d w u)
  carded_at a None = tt
  carded_at a (Some block) = carded_by a block.place (outcome (core_at u w) a (op_at d (Place.prog block.place) (Place.op block.place)))

  carded : IfSome (card_entry d (core_at u w) (surroundings d w u)) (IsAct d w u)
  carded = carded_at (surroundings d w u) (newest_block (Core.blocks (core_at u w)))

  -- the ending of a unit, and memory end
  managed : (code : Code) (manager : Option Manager1) (rest : What) → IsAct d w u rest → IsAct d w u (manager_or code manager rest)
  managed code (Some manager) rest h = tt
  managed code None rest h = h

  released : (holding : Option Holding) (rest : What) → next_release (whose d u) w.holdings ≡ holding → (holding ≡ None → IsAct d w u rest) → IsAct d w u (release_or holding rest)
  released (Some x) rest e h = subst (λ (o : Option Holding). IsSomeAnd o (λ y. (y.class ≡ x.class) × (y.id ≡ x.id) × (y.owner ≡ x.owner))) (sym e) (refl, refl, refl)
  released None rest e h = h refl

  acted : (begun : Beginning) (subtask : Bool) (manager : Option Manager1)
      → IfSome (if subtask then None else Some (manager_or begun.code manager (release_or (next_release (whose d u) w.holdings) (done_of begun (surroundings d w u))))) (IsAct d w u)
  acted begun true manager = tt
  acted begun false manager =
      managed begun.code manager _ (released (next_release (whose d u) w.holdings) (done_of begun (surroundings d w u)) refl (λ none. none))

  going_on : (o : Option Beginning) → IfSome (ending_or_card d (core_at u w) (surroundings d w u) o) (IsAct d w u)
  going_on None = carded
  going_on (Some begun) =
      if_either (is_outermost (Core.levels (core_at u w))) (unit_act begun (surroundings d w u)) _
      (acted begun (has_subtask u (Tree.lives w.tree)) (next_manager (whose d u) w.managers)) carded

  -- the cases
  first : (o : Option ErrorRecord) (abort : Option Abort) (rest : Option What) → IfSome rest (IsAct d w u) → IfSome (first_case d.sdwa (core_at u w) o abort rest) (IsAct d w u)
  first (Some r) abort rest h = handled r (eligible_routine (core_at u w) r) (current (Core.levels (core_at u w)))
  first None (Some abort) rest h = tt
  first None None rest h = h

  of_unit : (end : Option Code) → IfSome (next_of_unit d w u end) (IsAct d w u)
  of_unit (Some code) = tt
  of_unit None =
      if_true (lives_in w u) (next_unit d (core_at u w) (surroundings d w u))
      (first (error_in (Core.levels (core_at u w))) (next_landing (core_at u w) (surroundings d w u)) _ (going_on (Core.begun (core_at u w))))

  act : u ≡ master d → (code : Code) (living : Option ℕ) → IsAct d w u (master_act code living (surroundings d w u))
  act is_master code (Some unit) = tt
  act is_master code None =
      managed code (next_manager (whose d u) w.managers) _ (released (next_release (whose d u) w.holdings) MemEnd refl (λ none. (is_master, none)))

  master_next : u ≡ master d → (code : Code) (living : Option ℕ) → IfSome (next_master d (core_at u w) (surroundings d w u) code living) (IsAct d w u)
  master_next is_master code living =
      first (error_in (Core.levels (core_at u w))) None _
      (if_either (is_outermost (Core.levels (core_at u w))) (Some (master_act code living (surroundings d w u))) (card_entry d (core_at u w) (surroundings d w u)) (act is_master code living) carded)

over_or : (d : DeckView) (w : World) (over : Bool) (o : Option What) → IfSome o (IsAct d w (master d)) → IfSome (if over then None else o) (IsAct d w (master d))
over_or d w true o h = tt
over_or d w false o h = h

of_master : (d : DeckView) (w : World) (end : Option Code) → IfSome (next_of_master d w end) (IsAct d w (master d))
of_master d w None = tt
of_master d w (Some code) = over_or d w w.over _ (master_next d w (master d) refl code (position is_living (Tree.lives w.tree)))

chosen : (d : DeckView) (w : World) (u : ℕ) (b : Bool) → (u == master d) ≡ b → IfSome (if b then next_of_master d w w.memory_end else next_of_unit d w u w.memory_end) (IsAct d w u)
chosen d w u true e = subst (λ (v : ℕ). IfSome (next_of_master d w w.memory_end) (IsAct d w v)) (sym (eqb-true u (master d) e)) (of_master d w w.memory_end)
chosen d w u false e = of_unit d w u w.memory_end

pub act_of : (d : DeckView) (w : World) (u : ℕ) (what : What) → next d w u ≡ Some what → IsAct d w u what
act_of d w u what e = subst (λ (o : Option What). IfSome o (IsAct d w u)) e (chosen d w u (u == master d) refl)

-- Whoever makes an entry lives, or is the master

if_lives : (b : Bool) (o : Option What) (what : What) → (if b then o else None) ≡ Some what → b ≡ true
if_lives true o what e = refl
if_lives false o what e = absurd cc

unit_lives : (d : DeckView) (w : World) (u : ℕ) (what : What) (end : Option Code) → next_of_unit d w u end ≡ Some what → lives_in w u ≡ true
unit_lives d w u what (Some code) e = absurd cc
unit_lives d w u what None e = if_lives (lives_in w u) _ what e

who_by : (d : DeckView) (w : World) (u : ℕ) (what : What) (b : Bool) → (u == master d) ≡ b → (if b then next_of_master d w w.memory_end else next_of_unit d w u w.memory_end) ≡ Some what
    → (u ≡ master d) ⊎ (lives_in w u ≡ true)
who_by d w u what true e h = inl (eqb-true u (master d) e)
who_by d w u what false e h = inr (unit_lives d w u what w.memory_end h)

pub who_makes : (d : DeckView) (w : World) (u : ℕ) (what : What) → next d w u ≡ Some what → (u ≡ master d) ⊎ (lives_in w u ≡ true)
who_makes d w u what e = who_by d w u what (u == master d) refl e

-- Whose holdings an ending is about

pub whose_unit : (d : DeckView) (u : ℕ) → (u == master d) ≡ false → whose d u ≡ Some u
whose_unit d u e = ap (λ (b : Bool). if b then None else Some u) e

pub whose_master : (d : DeckView) (u : ℕ) → u ≡ master d → whose d u ≡ None
whose_master d u e = ap (λ (b : Bool). if b then None else Some u) (eq-eqb u (master d) e)

-- The holding that is released next is held

one_of : (a b : Option Holding) (x : Holding) → option_or a b ≡ Some x → (a ≡ Some x) ⊎ (b ≡ Some x)
one_of (Some y) b x e = inl e
one_of None b x e = inr e

by_class : (of : Res → Option Holding) (x : Holding) → first_by_class of ≡ Some x → (class : Res) × (of class ≡ Some x)
by_class of x e = elim (one_of (of Enq) (option_or (of Stor) (option_or (of Dsn) (of Timr))) x e) [
  | inl enq ↦ (Enq, enq)
  | inr e1 ↦ elim (one_of (of Stor) (option_or (of Dsn) (of Timr)) x e1) [
    | inl stor ↦ (Stor, stor)
    | inr e2 ↦ elim (one_of (of Dsn) (of Timr) x e2) [ inl dsn ↦ (Dsn, dsn) | inr timr ↦ (Timr, timr) ]
  ]
]

first_in : (xs : List Holding) (x : Holding) → slice_get xs 0 ≡ Some x → IsIn x xs
first_in [] x e = absurd cc
first_in (y ∷ ys) x e = let same : y ≡ x = cc in inl (sym same)

newer_is : (a b : Option Holding) (x : Holding) → newer_holding a b ≡ Some x → (a ≡ Some x) ⊎ (b ≡ Some x)
newer_is None b x e = inr e
newer_is (Some a) None x e = inl e
newer_is (Some a) (Some b) x e = by_age (nat_lt a.born b.born) e
  where
    by_age : (t : Bool) → (if t then Some b else Some a) ≡ Some x → (Some a ≡ Some x) ⊎ (Some b ≡ Some x)
    by_age true h = inr h
    by_age false h = inl h

-- some owner has it
newest_in : (class : Res) (a : Option Holding) (hs : List Holdings) (x : Holding) → fold newer_holding a (map (newest_held class) hs) ≡ Some x
    → (a ≡ Some x) ⊎ ((owner : ℕ) × (newest_held class (holdings_of owner hs) ≡ Some x))
newest_in class a [] x e = inl e
newest_in class a (held ∷ hs) x e = elim (newest_in class (newer_holding a (newest_held class held)) hs x e) [
  | inl so_far ↦ elim (newer_is a (newest_held class held) x so_far) [ inl old ↦ inl old | inr here ↦ inr (0, here) ]
  | inr later ↦ inr (suc later.0, later.1)
]

-- the owner, and the class, in whose list it is
pub record IsListed (hs : List Holdings) (x : Holding) : Type 0 where
  pub owner : ℕ
  pub class : Res
  pub there : IsIn x (of_class class (holdings_of owner hs))

listed : (hs : List Holdings) (x : Holding) (owner : ℕ) (class : Res) → newest_held class (holdings_of owner hs) ≡ Some x → IsListed hs x
listed hs x owner class e = record { owner = owner; class = class; there = first_in (of_class class (holdings_of owner hs)) x e }

pub release_listed : (o : Option ℕ) (hs : List Holdings) (x : Holding) → next_release o hs ≡ Some x → IsListed hs x
release_listed (Some owner) hs x e = let found = by_class (λ class. newest_held class (holdings_of owner hs)) x e in listed hs x owner found.0 found.1
release_listed None hs x e =
    let found = by_class (λ class. newest_of_all class hs) x e in
    elim (newest_in found.0 None hs x found.1) [ inl none ↦ absurd cc | inr some ↦ listed hs x some.0 found.0 some.1 ]

-- Where none is, nothing is held

neither : (a b : Option Holding) → option_or a b ≡ None → (a ≡ None) × (b ≡ None)
neither (Some y) b e = absurd cc
neither None b e = (refl, e)

no_class : (of : Res → Option Holding) → first_by_class of ≡ None → (class : Res) → of class ≡ None
no_class of e Enq = (neither (of Enq) (option_or (of Stor) (option_or (of Dsn) (of Timr))) e).0
no_class of e Stor = (neither (of Stor) (option_or (of Dsn) (of Timr)) (neither (of Enq) (option_or (of Stor) (option_or (of Dsn) (of Timr))) e).1).0
no_class of e Dsn = (neither (of Dsn) (of Timr) (neither (of Stor) (option_or (of Dsn) (of Timr)) (neither (of Enq) (option_or (of Stor) (option_or (of Dsn) (of Timr))) e).1).1).0
no_class of e Timr = (neither (of Dsn) (of Timr) (neither (of Stor) (option_or (of Dsn) (of Timr)) (neither (of Enq) (option_or (of Stor) (option_or (of Dsn) (of Timr))) e).1).1).1

no_first : (xs : List Holding) → slice_get xs 0 ≡ None → xs ≡ []
no_first [] e = refl
no_first (y ∷ ys) e = absurd cc

newer_none : (a b : Option Holding) → newer_holding a b ≡ None → (a ≡ None) × (b ≡ None)
newer_none None b e = (refl, e)
newer_none (Some a) None e = absurd cc
newer_none (Some a) (Some b) e = absurd (by_age (nat_lt a.born b.born) e)
  where
    by_age : (t : Bool) → (if t then Some b else Some a) ≡ None → ⊥
    by_age true h = absurd cc
    by_age false h = absurd cc

none_newest : (class : Res) (a : Option Holding) (hs : List Holdings) → fold newer_holding a (map (newest_held class) hs) ≡ None
    → (a ≡ None) × ((owner : ℕ) → of_class class (holdings_of owner hs) ≡ [])
none_newest class a [] e = (e, λ owner. none_of_class class)
none_newest class a (held ∷ hs) e =
    let rest = none_newest class (newer_holding a (newest_held class held)) hs e in
    let two = newer_none a (newest_held class held) rest.0 in
    (two.0, each two.1 rest.1)
  where
    each : newest_held class held ≡ None → ((owner : ℕ) → of_class class (holdings_of owner hs) ≡ []) → (owner : ℕ) → of_class class (holdings_of owner (held ∷ hs)) ≡ []
    each here there zero = no_first (of_class class held) here
    each here there (suc owner) = there owner

pub none_of_owner : (owner : ℕ) (hs : List Holdings) → next_release (Some owner) hs ≡ None → (class : Res) → of_class class (holdings_of owner hs) ≡ []
none_of_owner owner hs e class = no_first (of_class class (holdings_of owner hs)) (no_class (λ c. newest_held c (holdings_of owner hs)) e class)

pub none_at_all : (hs : List Holdings) → next_release None hs ≡ None → (owner : ℕ) (class : Res) → of_class class (holdings_of owner hs) ≡ []
none_at_all hs e owner class = (none_newest class None hs (no_class (λ c. newest_of_all c hs) e class)).1 owner
