-- What a unit makes next where an error is open, and where none is.
use Rattle.std.proofs.Common.{◌≡◌, ℕ, Bool, true, false, Option, Some, None, refl, sym, ap, subst, ◌∙◌}
use Rattle.std.proofs.lemmas.Bool.{eqb-true}
use Rattle.std.specs.Prelude.{IfSome, IsSomeAnd, if◌then◌else◌, position, ◌==◌}
use Rattle.rtm_codes.specs.declared.code.Code.{Code}
use Rattle.rtm_deck_items.specs.View.{DeckView}
use Rattle.rtm_model.specs.declared.abort.Abort.{Abort}
use Rattle.rtm_model.specs.declared.block.Block.{Block}
use Rattle.rtm_model.specs.declared.block.Place.{Place}
use Rattle.rtm_model.specs.declared.entry.What.{What}
use Rattle.rtm_model.specs.declared.entry.What.TheVariants as whats
use Rattle.rtm_model.specs.declared.error_record.ErrorRecord.{ErrorRecord}
use Rattle.rtm_model.specs.declared.holding.Holding.{Holding}
use Rattle.rtm_model.specs.declared.holding.Manager1.{Manager1}
use Rattle.rtm_model.specs.declared.outcome.Outcome.{Outcome}
use Rattle.rtm_model.specs.declared.outcome.Outcome.TheVariants.{Abends, Executed, Returns, Waits}
use Rattle.rtm_model.specs.declared.reg.Reg.{Reg}
use Rattle.rtm_model.specs.declared.surroundings.Surroundings.{Surroundings}
use Rattle.rtm_model.specs.Blocks.{newest_block}
use Rattle.rtm_model.specs.Levels.{current, depth_in, error_in, verdict_in}
use Rattle.rtm_model.specs.NextEntry.{card_entry, card_entry_at, card_entry_by, done_of, eligible_routine, ending_or_card, first_case, handling_of, is_outermost, last_return, manager_or, master_act, next, next_landing, next_of_master, next_of_unit, release_or, retry_prog, unit_act}
use Rattle.rtm_model.specs.Surroundings.{surroundings}
use Rattle.rtm_model.specs.Tasks.{Tree, is_living}
use Rattle.rtm_model.specs.World.{Beginning, Core, World, core_at, lives_in, master}
use Rattle.rtm_law_births.proofs.Outcomes.{IsJudged}

-- a unit's end goes on, or memory end does
abbrev pub is_ending : What → Bool
is_ending (whats.Release class id owner) = true
is_ending (whats.Done code to_task to_step) = true
is_ending (whats.Purge unit) = true
is_ending whats.MemEnd = true
is_ending _ = false

-- a routine that is left was judged
abbrev JudgedIf : DeckView → Core → What → Type 0
JudgedIf d c (whats.Leave kind born verdict logrec dump) = IsJudged d c kind verdict
JudgedIf d c _ = Unit {0}

pub record IsQuiet (d : DeckView) (c : Core) (what : What) : Type 0 where
  pub ends : is_ending what ≡ true → depth_in c.levels ≡ 0
  pub judged : JudgedIf d c what

-- an open error comes first
pub record IsNext (d : DeckView) (c : Core) (what : What) : Type 0 where
  pub handles : (r : ErrorRecord) → error_in c.levels ≡ Some r → what ≡ handling_of d.sdwa r (eligible_routine c r) (current c.levels)
  pub quiet : error_in c.levels ≡ None → IsQuiet d c what

module _ (d : DeckView) (c : Core) where
  -- none is open: the card at the place
  returned : (a : Surroundings) → error_in c.levels ≡ None → (routine : Option Reg) → current c.levels ≡ routine → IsQuiet d c (last_return d c a routine)
  returned a quiet (Some reg) e = record {
    ends = λ h. absurd cc;
    judged = record {
      quiet = quiet;
      by = subst (λ (o : Option Reg). IsSomeAnd o (λ own. (reg.kind ≡ own.kind) × (verdict_in d (retry_prog c reg) c.levels ≡ verdict_in d (retry_prog c own) c.levels))) (sym e) (refl, refl);
    };
  }
  returned a quiet None e = record { ends = λ h. absurd cc; judged = tt }

  carded_by : (a : Surroundings) → error_in c.levels ≡ None → (place : Place) (o : Outcome) → IfSome (card_entry_by d c a place o) (IsQuiet d c)
  carded_by a quiet place (Executed rc) = record { ends = λ h. absurd cc; judged = tt }
  carded_by a quiet place (Abends code reason dump step) = record { ends = λ h. absurd cc; judged = tt }
  carded_by a quiet place Waits = tt
  carded_by a quiet place Returns = returned a quiet (current c.levels) refl

  carded_at : (a : Surroundings) → error_in c.levels ≡ None → (o : Option Block) → IfSome (card_entry_at d c a o) (IsQuiet d c)
  carded_at a quiet None = tt
  carded_at a quiet (Some block) = carded_by a quiet block.place _

  carded : (a : Surroundings) → error_in c.levels ≡ None → IfSome (card_entry d c a) (IsQuiet d c)
  carded a quiet = carded_at a quiet (newest_block c.blocks)

  -- an ending
  managed : (code : Code) (manager : Option Manager1) (rest : What) → IsQuiet d c rest → IsQuiet d c (manager_or code manager rest)
  managed code (Some manager) rest h = record { ends = λ h. absurd cc; judged = tt }
  managed code None rest h = h

  released : (holding : Option Holding) (rest : What) → depth_in c.levels ≡ 0 → IsQuiet d c rest → IsQuiet d c (release_or holding rest)
  released (Some holding) rest out h = record { ends = λ h. out; judged = tt }
  released None rest out h = h

  acted_if : (b : Bool) (what : What) → IsQuiet d c what → IfSome (if b then None else Some what) (IsQuiet d c)
  acted_if true what h = tt
  acted_if false what h = h

  acted : (begun : Beginning) (a : Surroundings) → depth_in c.levels ≡ 0 → IfSome (unit_act begun a) (IsQuiet d c)
  acted begun a out =
      acted_if a.subtask _ (managed begun.code a.manager _ (released a.holding (done_of begun a) out (record { ends = λ h. out; judged = tt })))

  mastered : (code : Code) (living : Option ℕ) (a : Surroundings) → depth_in c.levels ≡ 0 → IsQuiet d c (master_act code living a)
  mastered code (Some unit) a out = record { ends = λ h. out; judged = tt }
  mastered code None a out = managed code a.manager _ (released a.holding whats.MemEnd out (record { ends = λ h. out; judged = tt }))

  outermost_or : (x y : Option What) → (depth_in c.levels ≡ 0 → IfSome x (IsQuiet d c)) → IfSome y (IsQuiet d c) → (b : Bool) → is_outermost c.levels ≡ b → IfSome (if b then x else y) (IsQuiet d c)
  outermost_or x y h i true e = h (eqb-true (depth_in c.levels) 0 e)
  outermost_or x y h i false e = i

  going_on : (a : Surroundings) → error_in c.levels ≡ None → (o : Option Beginning) → IfSome (ending_or_card d c a o) (IsQuiet d c)
  going_on a quiet None = carded a quiet
  going_on a quiet (Some begun) = outermost_or (unit_act begun a) (card_entry d c a) (acted begun a) (carded a quiet) (is_outermost c.levels) refl

  -- the cases
  none_open : (o : Option What) → error_in c.levels ≡ None → IfSome o (IsQuiet d c) → IfSome o (IsNext d c)
  none_open None quiet h = tt
  none_open (Some what) quiet h = record { handles = λ r e. let clash : None ≡ Some r = sym quiet ∙ e in absurd cc; quiet = λ _. h }

  some_open : (r : ErrorRecord) → error_in c.levels ≡ Some r → IsNext d c (handling_of d.sdwa r (eligible_routine c r) (current c.levels))
  some_open r e = record {
    handles = λ s f.
        let same : Some r ≡ Some s = sym e ∙ f in
        let one : r ≡ s = cc in
        ap (λ (t : ErrorRecord). handling_of d.sdwa t (eligible_routine c t) (current c.levels)) one;
    quiet = λ f. let clash : Some r ≡ None = sym e ∙ f in absurd cc;
  }

  first_next : (o : Option ErrorRecord) → error_in c.levels ≡ o → (abort : Option Abort) (rest : Option What) → (error_in c.levels ≡ None → IfSome rest (IsQuiet d c))
      → IfSome (first_case d.sdwa c o abort rest) (IsNext d c)
  first_next (Some r) e abort rest h = some_open r e
  first_next None e (Some abort) rest h = none_open (Some _) e (record { ends = λ h. absurd cc; judged = tt })
  first_next None e None rest h = none_open rest e (h e)

if_some : (P : What → Type 0) (b : Bool) (o : Option What) → IfSome o P → IfSome (if b then o else None) P
if_some P true o h = h
if_some P false o h = tt

unless_some : (P : What → Type 0) (b : Bool) (o : Option What) → IfSome o P → IfSome (if b then None else o) P
unless_some P true o h = tt
unless_some P false o h = h

of_unit : (d : DeckView) (w : World) (u : ℕ) (end : Option Code) → IfSome (next_of_unit d w u end) (IsNext d (core_at u w))
of_unit d w u (Some code) = tt
of_unit d w u None =
    let c : Core = core_at u w in
    if_some (IsNext d c) (lives_in w u) _ (first_next d c (error_in c.levels) refl (next_landing c (surroundings d w u)) _ (λ quiet. going_on d c (surroundings d w u) quiet c.begun))

of_master : (d : DeckView) (w : World) (end : Option Code) → IfSome (next_of_master d w end) (IsNext d (core_at (master d) w))
of_master d w None = tt
of_master d w (Some code) =
    let c : Core = core_at (master d) w in
    let a : Surroundings = surroundings d w (master d) in
    let living : Option ℕ = position is_living (Tree.lives w.tree) in
    unless_some (IsNext d c) w.over _
    (first_next d c (error_in c.levels) refl None _
    (λ quiet. outermost_or d c (Some (master_act code living a)) (card_entry d c a) (mastered d c code living a) (carded d c a quiet) (is_outermost c.levels) refl))

choose : (d : DeckView) (w : World) (u : ℕ) (b : Bool) → (u == master d) ≡ b → IfSome (if b then next_of_master d w w.memory_end else next_of_unit d w u w.memory_end) (IsNext d (core_at u w))
choose d w u true e = subst (λ (v : ℕ). IfSome (next_of_master d w w.memory_end) (IsNext d (core_at v w))) (sym (eqb-true u (master d) e)) (of_master d w w.memory_end)
choose d w u false e = of_unit d w u w.memory_end

pub next_acts : (d : DeckView) (w : World) (u : ℕ) (what : What) → next d w u ≡ Some what → IsNext d (core_at u w) what
next_acts d w u what e = subst (λ (o : Option What). IfSome o (IsNext d (core_at u w))) e (choose d w u (u == master d) refl)
