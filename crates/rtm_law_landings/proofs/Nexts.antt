-- What a unit's next entry says of the aborts that are pending for it.
use Rattle.std.proofs.Common.{◌≡◌, ℕ, Bool, true, false, ◌&&◌, List, Option, Some, None, refl, sym, ap, subst, inl, inr, ◌⊎◌, ◌∙◌}
use Rattle.std.proofs.lemmas.Bool.{eqb-true, eqb-false}
use Rattle.std.specs.Prelude.{IfSome, if◌then◌else◌, is_none, is_some, position, ◌==◌}
use Rattle.rtm_codes.specs.declared.code.Code.{Code}
use Rattle.rtm_deck_items.specs.View.{DeckView}
use Rattle.rtm_model.specs.declared.abort.Abort.{Abort}
use Rattle.rtm_model.specs.declared.block.Block.{Block}
use Rattle.rtm_model.specs.declared.block.Place.{Place}
use Rattle.rtm_model.specs.declared.entry.What.{What}
use Rattle.rtm_model.specs.declared.entry.What.TheVariants as whats
use Rattle.rtm_model.specs.declared.error_record.ErrorRecord.{ErrorRecord}
use Rattle.rtm_model.specs.declared.holding.Holding.{Holding}
use Rattle.rtm_model.specs.declared.holding.Manager1.{Manager1}
use Rattle.rtm_model.specs.declared.outcome.Outcome.{Outcome}
use Rattle.rtm_model.specs.declared.outcome.Outcome.TheVariants.{Abends, Executed, Returns, Waits}
use Rattle.rtm_model.specs.declared.reg.Reg.{Reg}
use Rattle.rtm_model.specs.declared.surroundings.Surroundings.{Surroundings}
use Rattle.rtm_model.specs.Aborts.{first_abort, is_interruptible}
use Rattle.rtm_model.specs.Blocks.{newest_block}
use Rattle.rtm_model.specs.Cards.{has_frr}
use Rattle.rtm_model.specs.Levels.{current, error_here, error_in, shielded}
use Rattle.rtm_model.specs.NextEntry.{card_entry, card_entry_at, card_entry_by, done_of, eligible_routine, ending_or_card, first_case, handling_of, interruptible, is_outermost, land_of, last_return, manager_or, master_act, next, next_landing, next_of_master, next_of_unit, release_or, unit_act}
use Rattle.rtm_model.specs.Surroundings.{surroundings}
use Rattle.rtm_model.specs.Tasks.{Tree, is_living}
use Rattle.rtm_model.specs.World.{Beginning, Core, UnitOfWork, World, core_at, lives_in, master, unit_at}

abbrev pub is_landing : What → Bool
is_landing (whats.Land class from mark) = true
is_landing _ = false

-- the aborts that are pending for the unit
abbrev pub pending_in : World → ℕ → List Abort
pending_in w u = UnitOfWork.pending (unit_at u w.units)

-- the entry lands the first pending abort in a unit that can be interrupted, or no abort may land
pub record IsInterruption (c : Core) (p : List Abort) (what : What) : Type 0 where
  pub can : interruptible c ≡ true
  pub first : Abort
  pub is_first : first_abort p ≡ Some first
  pub lands : what ≡ land_of first

pub record IsUndisturbed (c : Core) (p : List Abort) (what : What) : Type 0 where
  pub other : is_landing what ≡ false
  pub none : interruptible c ≡ true → first_abort p ≡ None

abbrev pub IsTimely : Core → List Abort → What → Type 0
IsTimely c p what = IsInterruption c p what ⊎ IsUndisturbed c p what

-- the entry of a unit of the deck, while memory end hasn't begun; or the master's, after it has
pub record IsUnits (d : DeckView) (w : World) (u : ℕ) (what : What) : Type 0 where
  pub not_master : u ≡ master d → ⊥
  pub lives : lives_in w u ≡ true
  pub quiet : w.memory_end ≡ None
  pub timely : IsTimely (core_at u w) (pending_in w u) what

pub record IsMasters (d : DeckView) (w : World) (u : ℕ) (what : What) : Type 0 where
  pub is_master : u ≡ master d
  pub ends : is_some w.memory_end ≡ true
  pub other : is_landing what ≡ false

-- Entries that aren't landings

abbrev Other : What → Type 0
Other what = is_landing what ≡ false

handled : (sdwa : Bool) (r : ErrorRecord) (routine own : Option Reg) → Other (handling_of sdwa r routine own)
handled sdwa r (Some reg) own = refl
handled sdwa r None (Some own) = refl
handled sdwa r None None = refl

returned : (d : DeckView) (c : Core) (a : Surroundings) (o : Option Reg) → Other (last_return d c a o)
returned d c a (Some reg) = refl
returned d c a None = refl

carded_by : (d : DeckView) (c : Core) (a : Surroundings) (place : Place) (o : Outcome) → IfSome (card_entry_by d c a place o) Other
carded_by d c a place (Executed rc) = refl
carded_by d c a place (Abends code reason dump step) = refl
carded_by d c a place Waits = tt
carded_by d c a place Returns = returned d c a (current c.levels)

carded_at : (d : DeckView) (c : Core) (a : Surroundings) (o : Option Block) → IfSome (card_entry_at d c a o) Other
carded_at d c a None = tt
carded_at d c a (Some block) = carded_by d c a block.place _

carded : (d : DeckView) (c : Core) (a : Surroundings) → IfSome (card_entry d c a) Other
carded d c a = carded_at d c a (newest_block c.blocks)

managed : (code : Code) (manager : Option Manager1) (rest : What) → Other rest → Other (manager_or code manager rest)
managed code (Some manager) rest h = refl
managed code None rest h = h

released : (holding : Option Holding) (rest : What) → Other rest → Other (release_or holding rest)
released (Some holding) rest h = refl
released None rest h = h

acted_if : (b : Bool) (what : What) → Other what → IfSome (if b then None else Some what) Other
acted_if true what h = tt
acted_if false what h = h

acted : (begun : Beginning) (a : Surroundings) → IfSome (unit_act begun a) Other
acted begun a = acted_if a.subtask _ (managed begun.code a.manager _ (released a.holding (done_of begun a) refl))

mastered : (code : Code) (living : Option ℕ) (a : Surroundings) → Other (master_act code living a)
mastered code (Some unit) a = refl
mastered code None a = managed code a.manager _ (released a.holding whats.MemEnd refl)

either : (P : What → Type 0) (b : Bool) (x y : Option What) → IfSome x P → IfSome y P → IfSome (if b then x else y) P
either P true x y h i = h
either P false x y h i = i

going_on : (d : DeckView) (c : Core) (a : Surroundings) (o : Option Beginning) → IfSome (ending_or_card d c a o) Other
going_on d c a None = carded d c a
going_on d c a (Some begun) = either Other (is_outermost c.levels) (unit_act begun a) (card_entry d c a) (acted begun a) (carded d c a)

-- The cases

-- where an error is open in the innermost bracket nothing interrupts the unit
last_false : (a b c d e : Bool) → e ≡ true → (a && is_interruptible b c d e) ≡ true → ⊥
last_false true false false false true h k = cc
last_false true true c d e h k = cc
last_false true false true d e h k = cc
last_false true false false true e h k = cc
last_false true false false false false h k = cc
last_false false b c d e h k = cc

of_rest : (c : Core) (p : List Abort) (none : interruptible c ≡ true → first_abort p ≡ None) (o : Option What) → IfSome o Other → IfSome o (IsTimely c p)
of_rest c p none None h = tt
of_rest c p none (Some what) h = inr (record { other = h; none = none })

landing_if : (d : DeckView) (c : Core) (p : List Abort) (b : Bool) → interruptible c ≡ b → (o : Option Abort) → first_abort p ≡ o → (rest : Option What) → IfSome rest Other
    → IfSome (first_case d.sdwa c None (if b then o else None) rest) (IsTimely c p)
landing_if d c p true e (Some abort) f rest h = inl (record { can = e; first = abort; is_first = f; lands = refl })
landing_if d c p true e None f rest h = of_rest c p (λ _. f) rest h
landing_if d c p false e o f rest h = of_rest c p (λ can. let clash : false ≡ true = sym e ∙ can in absurd cc) rest h

unit_if : (d : DeckView) (w : World) (u : ℕ) (o : Option ErrorRecord) → error_in (Core.levels (core_at u w)) ≡ o
    → IfSome (first_case d.sdwa (core_at u w) o (next_landing (core_at u w) (surroundings d w u)) (ending_or_card d (core_at u w) (surroundings d w u) (Core.begun (core_at u w)))) (IsTimely (core_at u w) (pending_in w u))
unit_if d w u (Some r) e =
    let c : Core = core_at u w in
    inr (record {
      other = handled d.sdwa r (eligible_routine c r) (current c.levels);
      none = λ can. absurd (last_false (is_none c.begun) (has_frr c.frrs) (shielded c.levels) c.doomed (error_here c.levels) (ap is_some e) can);
    })
unit_if d w u None e =
    landing_if d (core_at u w) (pending_in w u) (interruptible (core_at u w)) refl (first_abort (pending_in w u)) refl _ (going_on d (core_at u w) (surroundings d w u) (Core.begun (core_at u w)))

living_if : (d : DeckView) (w : World) (u : ℕ) → (u ≡ master d → ⊥) → w.memory_end ≡ None → (b : Bool) → lives_in w u ≡ b → (o : Option What) → IfSome o (IsTimely (core_at u w) (pending_in w u))
    → IfSome (if b then o else None) (λ what. IsUnits d w u what ⊎ IsMasters d w u what)
living_if d w u other end true e None h = tt
living_if d w u other end true e (Some what) h = inl (record { not_master = other; lives = e; quiet = end; timely = h })
living_if d w u other end false e o h = tt

of_unit : (d : DeckView) (w : World) (u : ℕ) → (u ≡ master d → ⊥) → (end : Option Code) → w.memory_end ≡ end → IfSome (next_of_unit d w u end) (λ what. IsUnits d w u what ⊎ IsMasters d w u what)
of_unit d w u other (Some code) e = tt
of_unit d w u other None e = living_if d w u other e (lives_in w u) refl _ (unit_if d w u (error_in (Core.levels (core_at u w))) refl)

master_first : (d : DeckView) (c : Core) (o : Option ErrorRecord) (rest : Option What) → IfSome rest Other → IfSome (first_case d.sdwa c o None rest) Other
master_first d c (Some r) rest h = handled d.sdwa r (eligible_routine c r) (current c.levels)
master_first d c None rest h = h

mastered_all : (d : DeckView) (w : World) (u : ℕ) → u ≡ master d → is_some w.memory_end ≡ true → (o : Option What) → IfSome o Other → IfSome o (λ what. IsUnits d w u what ⊎ IsMasters d w u what)
mastered_all d w u same end None h = tt
mastered_all d w u same end (Some what) h = inr (record { is_master = same; ends = end; other = h })

over_if : (b : Bool) (o : Option What) → IfSome o Other → IfSome (if b then None else o) Other
over_if true o h = tt
over_if false o h = h

of_master : (d : DeckView) (w : World) (u : ℕ) → u ≡ master d → (end : Option Code) → w.memory_end ≡ end → IfSome (next_of_master d w end) (λ what. IsUnits d w u what ⊎ IsMasters d w u what)
of_master d w u same None e = tt
of_master d w u same (Some code) e =
    let c : Core = core_at (master d) w in
    let a : Surroundings = surroundings d w (master d) in
    let living : Option ℕ = position is_living (Tree.lives w.tree) in
    mastered_all d w u same (ap is_some e) _
    (over_if w.over _ (master_first d c (error_in c.levels) _ (either Other (is_outermost c.levels) (Some (master_act code living a)) (card_entry d c a) (mastered code living a) (carded d c a))))

choose : (d : DeckView) (w : World) (u : ℕ) (b : Bool) → (u == master d) ≡ b → IfSome (if b then next_of_master d w w.memory_end else next_of_unit d w u w.memory_end) (λ what. IsUnits d w u what ⊎ IsMasters d w u what)
choose d w u true e = of_master d w u (eqb-true u (master d) e) w.memory_end refl
choose d w u false e = of_unit d w u (eqb-false u (master d) e) w.memory_end refl

-- what a unit's next entry says of its pending aborts
pub next_is : (d : DeckView) (w : World) (u : ℕ) (what : What) → next d w u ≡ Some what → IsUnits d w u what ⊎ IsMasters d w u what
next_is d w u what e = subst (λ (o : Option What). IfSome o (λ what. IsUnits d w u what ⊎ IsMasters d w u what)) e (choose d w u (u == master d) refl)
