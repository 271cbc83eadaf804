-- What an entry that may follow says of the world before it.
use Rattle.std.proofs.Common.{◌≡◌, ℕ, suc, arith, Bool, true, false, not, ◌&&◌, List, [], ◌∷◌, Option, Some, None, refl, sym, subst, inl, inr, ◌⊎◌}
use Rattle.std.proofs.lemmas.Bool.{eqb-true}
use Rattle.std.specs.Prelude.{IfSome, IsSomeAnd, if◌then◌else◌, is_some, position, ◌==◌}
use Rattle.rtm_codes.specs.declared.code.Code.{Code}
use Rattle.rtm_deck_items.specs.Reading.{op_at}
use Rattle.rtm_deck_items.specs.View.{DeckView}
use Rattle.rtm_deck_items.specs.declared.op.Op.{Op}
use Rattle.rtm_model.specs.declared.abort.Abort.{Abort}
use Rattle.rtm_model.specs.declared.surroundings.Surroundings.{Surroundings}
use Rattle.rtm_model.specs.declared.block.Block.{Block}
use Rattle.rtm_model.specs.declared.block.Place.{Place}
use Rattle.rtm_model.specs.declared.entry.Fate.{Fate}
use Rattle.rtm_model.specs.declared.entry.Verdict.{Verdict}
use Rattle.rtm_model.specs.declared.entry.Verdict.TheVariants.{Bad, Fail, Over, Perc, Retry, Stop}
use Rattle.rtm_model.specs.declared.entry.What.{What}
use Rattle.rtm_model.specs.declared.entry.What.TheVariants.{Done, Enter, Exec, Leave, MemEnd, Purge}
use Rattle.rtm_model.specs.declared.error_record.ErrorRecord.{ErrorRecord}
use Rattle.rtm_model.specs.declared.holding.Holding.{Holding}
use Rattle.rtm_model.specs.declared.holding.Manager1.{Manager1}
use Rattle.rtm_model.specs.declared.outcome.Outcome.{Outcome}
use Rattle.rtm_model.specs.declared.outcome.Outcome.TheVariants.{Abends, Executed, Returns, Waits}
use Rattle.rtm_model.specs.declared.reg.Kind.{Kind}
use Rattle.rtm_model.specs.declared.reg.Kind.TheVariants.{Estae, Estai, Frr, Mgr}
use Rattle.rtm_model.specs.declared.reg.Reg.{Reg}
use Rattle.rtm_model.specs.Blocks.{newest_block, place_or_none}
use Rattle.rtm_model.specs.Cards.{fails, mode_error, outcome, outcome_by, rc_if, row, too_deep, unless}
use Rattle.rtm_model.specs.Ending.{next_manager, next_release}
use Rattle.rtm_model.specs.Levels.{Bracket, current, error_in, is_manager, is_recovery, verdict_in, verdict_of_routine}
use Rattle.rtm_model.specs.NextEntry.{retry_prog, card_entry, card_entry_at, card_entry_by, done_of, eligible_routine, ends_step, first_case, ending_or_card, handling_of, is_from_error, is_outermost, next_landing, manager_or, master_act, next, next_master, next_of_master, next_of_unit, next_unit, release_or, last_return, unit_act}
use Rattle.rtm_model.specs.Surroundings.{related_fate, step_fate, surroundings, surroundings_at, whose}
use Rattle.rtm_model.specs.Record.{is_estai, retry_place, verdict_by}
use Rattle.rtm_model.specs.inner.Soundness.{AreNested, StandsIn}
use Rattle.rtm_model.specs.Tasks.{Tree, has_subtask, is_living}
use Rattle.rtm_model.specs.World.{Beginning, Core, World, core_at, lives_in, master, related_task}

-- where a unit begins to end, or has, how
abbrev pub FatesAre : DeckView → World → ℕ → Option Fate → Option Fate → Option Beginning → Type 0
FatesAre d w u to_task to_step None = ⊥
FatesAre d w u to_task to_step (Some begun) =
    (to_task ≡ (if is_from_error begun then related_fate w (related_task d u) else None)) × (to_step ≡ (if ends_step begun then step_fate d w u else None))

-- no error is open in the innermost bracket, and its routine's end was judged
pub record IsJudged (d : DeckView) (c : Core) (kind : Kind) (verdict : Verdict) : Type 0 where
  pub quiet : error_in c.levels ≡ None
  pub by : IsSomeAnd (current c.levels) (λ reg. (kind ≡ reg.kind) × (verdict ≡ verdict_in d (retry_prog c reg) c.levels))

-- what is entered is a manager, or the first routine that is eligible for the error that is open
abbrev pub IsStarted : Core → Kind → ℕ → Type 0
IsStarted c kind born = (kind ≡ Mgr) ⊎ ((r : ErrorRecord) × IsSomeAnd (eligible_routine c r) (λ routine. (kind ≡ routine.kind) × (born ≡ routine.born)))

-- a card's return code is its outcome's; only a routine that failed is left while an error is open in its bracket; a
-- unit's end shows the fates of what it posts; the master alone purges
abbrev pub IsOutcome : DeckView → World → ℕ → What → Type 0
IsOutcome d w u (Exec at rc) = outcome (core_at u w) (surroundings_at d w u (op_at d at.prog at.op)) (op_at d at.prog at.op) ≡ Executed rc
IsOutcome d w u (Leave kind reg verdict logrec dump) = (verdict ≡ Fail) ⊎ IsJudged d (core_at u w) kind verdict
IsOutcome d w u (Done code to_task to_step) = FatesAre d w u to_task to_step (Core.begun (core_at u w))
IsOutcome d w u (Enter kind reg mark bare) = IsStarted (core_at u w) kind reg
IsOutcome d w u (Purge unit) = u ≡ master d
IsOutcome d w u _ = Unit {0}

module _ (d : DeckView) (w : World) (u : ℕ) where
  here : Core
  here = core_at u w

  if_true : (b : Bool) (o : Option What) → IfSome o (IsOutcome d w u) → IfSome (if b then o else None) (IsOutcome d w u)
  if_true true o h = h
  if_true false o h = tt

  if_either : (b : Bool) (x y : Option What) → IfSome x (IsOutcome d w u) → IfSome y (IsOutcome d w u) → IfSome (if b then x else y) (IsOutcome d w u)
  if_either true x y h i = h
  if_either false x y h i = i

  -- an error is open
  chosen_ok : (r : ErrorRecord) (routine own : Option Reg) → eligible_routine (core_at u w) r ≡ routine → IsOutcome d w u (handling_of d.sdwa r routine own)
  chosen_ok r (Some reg) own e =
      inr (r, subst (λ (o : Option Reg). IsSomeAnd o (λ routine. (reg.kind ≡ routine.kind) × (reg.born ≡ routine.born))) (sym e) (refl, refl))
  chosen_ok r None (Some own) e = inl refl
  chosen_ok r None None e = tt

  -- none is open
  returned_ok : (a : Surroundings) → error_in (Core.levels (core_at u w)) ≡ None → (routine : Option Reg) → current (Core.levels (core_at u w)) ≡ routine → IsOutcome d w u (last_return d (core_at u w) a routine)
  returned_ok a quiet (Some reg) e =
      inr (record { quiet = quiet; by = subst (λ (o : Option Reg). IsSomeAnd o (λ own. (reg.kind ≡ own.kind) × (verdict_in d (retry_prog (core_at u w) reg) (Core.levels (core_at u w)) ≡ verdict_in d (retry_prog (core_at u w) own) (Core.levels (core_at u w))))) (sym e) (refl, refl) })
  returned_ok a quiet None e = tt

  carded_by_ok : (a : Surroundings) → error_in (Core.levels (core_at u w)) ≡ None → (place : Place) (o : Outcome)
      → outcome (core_at u w) (surroundings_at d w u (op_at d place.prog place.op)) (op_at d place.prog place.op) ≡ o
      → IfSome (card_entry_by d (core_at u w) a place o) (IsOutcome d w u)
  carded_by_ok a quiet place (Executed rc) e = e
  carded_by_ok a quiet place (Abends code reason dump step) e = tt
  carded_by_ok a quiet place Waits e = tt
  carded_by_ok a quiet place Returns e = returned_ok a quiet (current (Core.levels (core_at u w))) refl

  carded_at_ok : error_in (Core.levels (core_at u w)) ≡ None → (o : Option Block)
      → IfSome (card_entry_at d (core_at u w) (surroundings_at d w u (op_at d (Place.prog (place_or_none o)) (Place.op (place_or_none o)))) o) (IsOutcome d w u)
  carded_at_ok quiet None = tt
  carded_at_ok quiet (Some block) =
      let op : Op = op_at d (Place.prog block.place) (Place.op block.place) in
      carded_by_ok (surroundings_at d w u op) quiet block.place (outcome (core_at u w) (surroundings_at d w u op) op) refl

  carded_ok : error_in (Core.levels (core_at u w)) ≡ None → IfSome (card_entry d (core_at u w) (surroundings d w u)) (IsOutcome d w u)
  carded_ok quiet = carded_at_ok quiet (newest_block (Core.blocks (core_at u w)))

  -- the ending of a unit, and memory end
  managed_ok : (code : Code) (manager : Option Manager1) (rest : What) → IsOutcome d w u rest → IsOutcome d w u (manager_or code manager rest)
  managed_ok code (Some manager) rest h = inl refl
  managed_ok code None rest h = h

  released_ok : (holding : Option Holding) (rest : What) → IsOutcome d w u rest → IsOutcome d w u (release_or holding rest)
  released_ok (Some holding) rest h = tt
  released_ok None rest h = h

  acted_ok : (begun : Beginning) → Core.begun (core_at u w) ≡ Some begun → (subtask : Bool) (manager : Option Manager1) (holding : Option Holding)
      → IfSome (if subtask then None else Some (manager_or begun.code manager (release_or holding (done_of begun (surroundings d w u))))) (IsOutcome d w u)
  acted_ok begun e true manager holding = tt
  acted_ok begun e false manager holding =
      managed_ok begun.code manager _ (released_ok holding (done_of begun (surroundings d w u))
      (subst (FatesAre d w u _ _) (sym e) (refl, refl)))

  going_on_ok : error_in (Core.levels (core_at u w)) ≡ None → (o : Option Beginning) → Core.begun (core_at u w) ≡ o
      → IfSome (ending_or_card d (core_at u w) (surroundings d w u) o) (IsOutcome d w u)
  going_on_ok quiet None e = carded_ok quiet
  going_on_ok quiet (Some begun) e =
      if_either (is_outermost (Core.levels (core_at u w))) (unit_act begun (surroundings d w u)) _
      (acted_ok begun e (has_subtask u (Tree.lives w.tree)) (next_manager (whose d u) w.managers) (next_release (whose d u) w.holdings)) (carded_ok quiet)

  -- the cases
  first_ok : (o : Option ErrorRecord) → error_in (Core.levels (core_at u w)) ≡ o → (abort : Option Abort) (rest : Option What)
      → (error_in (Core.levels (core_at u w)) ≡ None → IfSome rest (IsOutcome d w u))
      → IfSome (first_case d.sdwa (core_at u w) o abort rest) (IsOutcome d w u)
  first_ok (Some r) e abort rest h = chosen_ok r (eligible_routine (core_at u w) r) (current (Core.levels (core_at u w))) refl
  first_ok None e (Some abort) rest h = tt
  first_ok None e None rest h = h e

  unit_ok : IfSome (next_unit d (core_at u w) (surroundings d w u)) (IsOutcome d w u)
  unit_ok = first_ok (error_in (Core.levels (core_at u w))) refl (next_landing (core_at u w) (surroundings d w u)) _ (λ quiet. going_on_ok quiet (Core.begun (core_at u w)) refl)

  of_unit_ok : (end : Option Code) → IfSome (next_of_unit d w u end) (IsOutcome d w u)
  of_unit_ok (Some code) = tt
  of_unit_ok None = if_true (lives_in w u) (next_unit d (core_at u w) (surroundings d w u)) unit_ok

  act_ok : u ≡ master d → (code : Code) (living : Option ℕ) → IsOutcome d w u (master_act code living (surroundings d w u))
  act_ok is_master code (Some unit) = is_master
  act_ok is_master code None = managed_ok code (next_manager (whose d u) w.managers) _ (released_ok (next_release (whose d u) w.holdings) MemEnd tt)

  master_ok : u ≡ master d → (code : Code) (living : Option ℕ) → IfSome (next_master d (core_at u w) (surroundings d w u) code living) (IsOutcome d w u)
  master_ok is_master code living =
      first_ok (error_in (Core.levels (core_at u w))) refl None _
      (λ quiet. if_either (is_outermost (Core.levels (core_at u w))) (Some (master_act code living (surroundings d w u))) (card_entry d (core_at u w) (surroundings d w u)) (act_ok is_master code living) (carded_ok quiet))

over_ok : (d : DeckView) (w : World) (over : Bool) (o : Option What) → IfSome o (IsOutcome d w (master d)) → IfSome (if over then None else o) (IsOutcome d w (master d))
over_ok d w true o h = tt
over_ok d w false o h = h

of_master_ok : (d : DeckView) (w : World) (end : Option Code) → IfSome (next_of_master d w end) (IsOutcome d w (master d))
of_master_ok d w None = tt
of_master_ok d w (Some code) = over_ok d w w.over _ (master_ok d w (master d) refl code (position is_living (Tree.lives w.tree)))

choose_ok : (d : DeckView) (w : World) (u : ℕ) (b : Bool) → (u == master d) ≡ b → IfSome (if b then next_of_master d w w.memory_end else next_of_unit d w u w.memory_end) (IsOutcome d w u)
choose_ok d w u true e = subst (λ (v : ℕ). IfSome (next_of_master d w w.memory_end) (IsOutcome d w v)) (sym (eqb-true u (master d) e)) (of_master_ok d w w.memory_end)
choose_ok d w u false e = of_unit_ok d w u w.memory_end

-- what a unit's next entry says of the world before it
pub outcome_of : (d : DeckView) (w : World) (u : ℕ) (what : What) → next d w u ≡ Some what → IsOutcome d w u what
outcome_of d w u what e = subst (λ (o : Option What). IfSome o (IsOutcome d w u)) e (choose_ok d w u (u == master d) refl)

-- The rows of cards

-- what a card that was executed shows is its row's return code
by_row : (mode : Option Code) (o : Outcome) (rc : ℕ) → outcome_by mode o ≡ Executed rc → o ≡ Executed rc
by_row (Some code) o rc e = absurd cc
by_row None o rc e = e

pub row_of : (c : Core) (a : Surroundings) (op : Op) (rc : ℕ) → outcome c a op ≡ Executed rc → row c a op ≡ Executed rc
row_of c a op rc e = by_row (mode_error c a op) (row c a op) rc e

pub executed_rc : (n rc : ℕ) → Executed n ≡ Executed rc → rc ≡ n
executed_rc n rc e = cc

-- a card that may fail is executed with 0
pub unless_rc : (b : Bool) (code : Code) (rc : ℕ) → unless b code ≡ Executed rc → rc ≡ 0
unless_rc true code rc e = absurd cc
unless_rc false code rc e = cc

-- so is one that makes a routine
pub deep_rc : (deep full : Bool) (code : Code) (rc : ℕ) → (if deep then fails too_deep else unless full code) ≡ Executed rc → rc ≡ 0
deep_rc true full code rc e = absurd cc
deep_rc false full code rc e = unless_rc full code rc e

-- what a card speaks of is there where it is executed with 0
pub there_rc : (b : Bool) (other rc : ℕ) → Executed (rc_if b other) ≡ Executed rc → b ≡ true → rc ≡ 0
there_rc true other rc e h = cc
there_rc false other rc e h = absurd cc

pub zero_there : (b : Bool) (other rc : ℕ) → Executed (rc_if b (suc other)) ≡ Executed rc → rc ≡ 0 → b ≡ true
zero_there true other rc e h = refl
zero_there false other rc e h = let k : suc other ≡ rc = cc in absurd (omega (arith, k, h))

-- The verdicts of routines

-- a recovery routine has no verdict Over, only an ESTAI routine has Stop, and a manager has no Retry
abbrev pub IsVerdictOf : Kind → Verdict → Type 0
IsVerdictOf Mgr (Retry place) = ⊥
IsVerdictOf Mgr verdict = Unit {0}
IsVerdictOf kind Over = ⊥
IsVerdictOf kind Stop = kind ≡ Estai
IsVerdictOf kind _ = Unit {0}

if_none : (kind : Kind) (a b : Bool) → (a ≡ true → kind ≡ Estai) → IsVerdictOf kind (if a then Stop else if b then Perc else Bad)
if_none Mgr true b h = tt
if_none Mgr false true h = tt
if_none Mgr false false h = tt
if_none Frr true b h = h refl
if_none Frr false true h = tt
if_none Frr false false h = tt
if_none Estae true b h = h refl
if_none Estae false true h = tt
if_none Estae false false h = tt
if_none Estai true b h = h refl
if_none Estai false true h = tt
if_none Estai false false h = tt

stops : (kind : Kind) (b : Bool) → (b && is_estai kind) ≡ true → kind ≡ Estai
stops Estai b h = refl
stops Frr true h = absurd cc
stops Frr false h = absurd cc
stops Estae true h = absurd cc
stops Estae false h = absurd cc
stops Mgr true h = absurd cc
stops Mgr false h = absurd cc

retry_of : (kind : Kind) (place : Place) → (kind ≡ Mgr → ⊥) → IsVerdictOf kind (Retry place)
retry_of Mgr place other = absurd (other refl)
retry_of Frr place other = tt
retry_of Estae place other = tt
retry_of Estai place other = tt

by_place : (kind : Kind) (rc : ℕ) (o : Option Place) → (kind ≡ Mgr → ⊥) → IsVerdictOf kind (verdict_by kind rc o)
by_place kind rc (Some place) other = retry_of kind place other
by_place kind rc None other = if_none kind ((rc == 16) && is_estai kind) (rc == 0) (stops kind (rc == 16))

-- a routine's record is there, unless it is a manager
over_kind : (d : DeckView) (prog : ℕ) (reg : Reg) (kind : Kind) (error : Option ErrorRecord) → reg.kind ≡ kind → is_some error ≡ not (is_manager kind)
    → IsVerdictOf kind (verdict_of_routine d prog (Some reg) (if not (is_manager kind) then error else None))
over_kind d prog reg Mgr error same e = tt
over_kind d prog reg Frr None same e = absurd cc
over_kind d prog reg Frr (Some r) same e = subst (λ (k : Kind). IsVerdictOf Frr (verdict_by k r.rc (retry_place d prog r))) (sym same) (by_place Frr r.rc (retry_place d prog r) (λ e. absurd cc))
over_kind d prog reg Estae None same e = absurd cc
over_kind d prog reg Estae (Some r) same e = subst (λ (k : Kind). IsVerdictOf Estae (verdict_by k r.rc (retry_place d prog r))) (sym same) (by_place Estae r.rc (retry_place d prog r) (λ e. absurd cc))
over_kind d prog reg Estai None same e = absurd cc
over_kind d prog reg Estai (Some r) same e = subst (λ (k : Kind). IsVerdictOf Estai (verdict_by k r.rc (retry_place d prog r))) (sym same) (by_place Estai r.rc (retry_place d prog r) (λ e. absurd cc))

in_levels : (d : DeckView) (prog : ℕ) (reg : Reg) (ls : List Bracket) → AreNested ls → current ls ≡ Some reg → IsVerdictOf reg.kind (verdict_in d prog ls)
in_levels d prog reg [] nested e = absurd cc
in_levels d prog reg (l ∷ []) nested e = absurd (subst (λ (o : Option Reg). StandsIn o None) e nested.0)
in_levels d prog reg (l ∷ outer ∷ ls) nested e =
    let open_is : is_some outer.error ≡ not (is_manager reg.kind) = subst (λ (o : Option Reg). StandsIn o (Some outer)) e nested.0 in
    subst (λ (o : Option Reg). IsVerdictOf reg.kind (verdict_of_routine d prog o (if is_recovery o then outer.error else None))) (sym e)
    (over_kind d prog reg reg.kind outer.error refl open_is)

judged_of : (d : DeckView) (c : Core) (kind : Kind) (verdict : Verdict) → AreNested c.levels → (o : Option Reg) → current c.levels ≡ o
    → IsSomeAnd o (λ reg. (kind ≡ reg.kind) × (verdict ≡ verdict_in d (retry_prog c reg) c.levels)) → IsVerdictOf kind verdict
judged_of d c kind verdict nested None e h = absurd h
judged_of d c kind verdict nested (Some reg) e h =
    subst (λ (k : Kind). IsVerdictOf k verdict) (sym h.0) (subst (IsVerdictOf reg.kind) (sym h.1) (in_levels d (retry_prog c reg) reg c.levels nested e))

fail_of : (kind : Kind) → IsVerdictOf kind Fail
fail_of Mgr = tt
fail_of Frr = tt
fail_of Estae = tt
fail_of Estai = tt

-- the verdict of a LEAVE is one of its kind
pub verdict_of : (d : DeckView) (c : Core) (kind : Kind) (verdict : Verdict) → AreNested c.levels → (verdict ≡ Fail) ⊎ IsJudged d c kind verdict → IsVerdictOf kind verdict
verdict_of d c kind verdict nested (inl failed) = subst (IsVerdictOf kind) (sym failed) (fail_of kind)
verdict_of d c kind verdict nested (inr judged) = judged_of d c kind verdict nested (current c.levels) refl judged.by
