-- The next entry of a unit that goes on with its card, at the cards that are met most.
use Rattle.std.proofs.Common.{◌≡◌, ℕ, Bool, true, false, Option, Some, None, refl, ap, ◌∙◌}
use Rattle.std.specs.Prelude.{if◌then◌else◌, is_none, is_some, not, ◌&&◌, ◌||◌}
use Rattle.std.proofs.lemmas.Bool.{and_parts, not-true}
use Rattle.std.specs.Option.{option_map}
use Rattle.rtm_codes.specs.declared.code.Code.{Code}
use Rattle.rtm_deck_operands.specs.declared.name.Name.{Name}
use Rattle.rtm_deck_items.specs.Reading.{op_at}
use Rattle.rtm_deck_items.specs.View.{DeckView}
use Rattle.rtm_deck_items.specs.declared.op.Op.{Op}
use Rattle.rtm_deck_items.specs.declared.op.Op.TheVariants as ops
use Rattle.rtm_model.specs.declared.abort.Abort.{Abort}
use Rattle.rtm_model.specs.declared.surroundings.Surroundings.{Surroundings}
use Rattle.rtm_model.specs.declared.block.Block.{Block}
use Rattle.rtm_model.specs.declared.block.Place.{Place}
use Rattle.rtm_model.specs.declared.entry.What.{What}
use Rattle.rtm_model.specs.declared.entry.What.TheVariants.{Exec}
use Rattle.rtm_model.specs.declared.error_record.ErrorRecord.{ErrorRecord}
use Rattle.rtm_model.specs.Aborts.{first_abort}
use Rattle.rtm_model.specs.Blocks.{newest_block, place_or_none}
use Rattle.rtm_model.specs.Cards.{has_frr, in_manager, out_of_routine, outcome, outcome_by, waits_for, without_sdwa, wrong_mode}
use Rattle.rtm_model.specs.Levels.{error_here, error_in, is_bare, recovers}
use Rattle.rtm_model.specs.NextEntry.{card_entry, card_entry_at, card_entry_by, ending_or_card, first_case, interruptible, next_landing, next_unit}
use Rattle.rtm_model.specs.Surroundings.{is_found, op_here, surroundings}
use Rattle.rtm_model.specs.Tasks.{Tree, has_ended, is_posted, life_of}
use Rattle.rtm_model.specs.World.{Core, UnitOfWork, World, core_at, is_srb, unit_at}
use Rattle.rtm_system_unit.specs.Normal.{runs_normally, may_wait}
use Rattle.rtm_system_world.specs.Needs.{waits_at}

absent : {X : Type 0} (o : Option X) → is_some o ≡ false → o ≡ None
absent None e = refl
absent (Some x) e = absurd cc

none_there : {X : Type 0} (o : Option X) → is_none o ≡ true → o ≡ None
none_there None e = refl
none_there (Some x) e = absurd cc

either_way : (b : Bool) (abort : Option Abort) → abort ≡ None → (if b then abort else None) ≡ None
either_way true abort e = e
either_way false abort e = refl

-- it goes on with its card
normal_by : (d : DeckView) (c : Core) (a : Surroundings) → error_here c.levels ≡ false → is_none c.begun ≡ true → is_none a.abort ≡ true → next_unit d c a ≡ card_entry d c a
normal_by d c a no_error not_begun no_abort =
    ap (λ (r : Option ErrorRecord). first_case d.sdwa c r (next_landing c a) (ending_or_card d c a c.begun)) (absent (error_in c.levels) no_error)
    ∙ ap (λ (abort : Option Abort). first_case d.sdwa c None abort (ending_or_card d c a c.begun)) (either_way (interruptible c) a.abort (none_there a.abort no_abort))
    ∙ ap (ending_or_card d c a) (none_there c.begun not_begun)

normal_next : (d : DeckView) (w : World) (u : ℕ) → runs_normally (unit_at u w.units) ≡ true → next_unit d (core_at u w) (surroundings d w u) ≡ card_entry d (core_at u w) (surroundings d w u)
normal_next d w u e =
    let c = core_at u w in
    let ab = and_parts (not (error_here c.levels) && is_none c.begun) (is_none (first_abort (UnitOfWork.pending (unit_at u w.units)))) e in
    let a = and_parts (not (error_here c.levels)) (is_none c.begun) ab.0 in
    normal_by d c (surroundings d w u) (not-true (error_here c.levels) a.0) a.1 ab.1

abbrev op_of : DeckView → Option Block → Op
op_of d b = op_at d (Place.prog (place_or_none b)) (Place.op (place_or_none b))

-- ---- NOP and B
abbrev executed : Option Block → Option What
executed b = option_map (λ block. Exec (Block.place block) 0) b

nop_at : (d : DeckView) (c : Core) (a : Surroundings) (b : Option Block) → op_of d b ≡ ops.Nop → card_entry_at d c a b ≡ executed b
nop_at d c a None e = refl
nop_at d c a (Some block) e = ap (λ (op : Op). card_entry_by d c a block.place (outcome c a op)) e

branch_at : (d : DeckView) (c : Core) (a : Surroundings) (b : Option Block) (label : Name) → op_of d b ≡ ops.Branch label → card_entry_at d c a b ≡ executed b
branch_at d c a None label e = refl
branch_at d c a (Some block) label e = ap (λ (op : Op). card_entry_by d c a block.place (outcome c a op)) e

pub executes_nop : (d : DeckView) (w : World) (u : ℕ) → runs_normally (unit_at u w.units) ≡ true → op_here d (core_at u w) ≡ ops.Nop
    → next_unit d (core_at u w) (surroundings d w u) ≡ option_map (λ block. Exec (Block.place block) 0) (newest_block (Core.blocks (core_at u w)))
executes_nop d w u normal e = normal_next d w u normal ∙ nop_at d (core_at u w) (surroundings d w u) (newest_block (Core.blocks (core_at u w))) e

pub executes_branch : (d : DeckView) (w : World) (u : ℕ) (label : Name) → runs_normally (unit_at u w.units) ≡ true → op_here d (core_at u w) ≡ ops.Branch label
    → next_unit d (core_at u w) (surroundings d w u) ≡ option_map (λ block. Exec (Block.place block) 0) (newest_block (Core.blocks (core_at u w)))
executes_branch d w u label normal e = normal_next d w u normal ∙ branch_at d (core_at u w) (surroundings d w u) (newest_block (Core.blocks (core_at u w))) label e

-- ---- WAIT and WAITT
no_mode : (srb frr manager routine bare : Bool) → srb ≡ false → frr ≡ false → manager ≡ false
    → (if true && (srb || frr) then Some wrong_mode else if true && manager then Some wrong_mode else if false && routine then Some out_of_routine else if false && bare then Some without_sdwa else None) ≡ None
no_mode false false false routine bare e f g = refl
no_mode true frr manager routine bare e f g = absurd cc
no_mode false true manager routine bare e f g = absurd cc
no_mode false false true routine bare e f g = absurd cc

wait_at : (d : DeckView) (c : Core) (a : Surroundings) (b : Option Block) (event : ℕ) → op_of d b ≡ ops.Wait event
    → a.srb ≡ false → has_frr c.frrs ≡ false → in_manager c.levels ≡ false → a.found ≡ false → card_entry_at d c a b ≡ None
wait_at d c a None event e srb frr manager found = refl
wait_at d c a (Some block) event e srb frr manager found =
    ap (λ (op : Op). card_entry_by d c a block.place (outcome c a op)) e
    ∙ ap (λ (mode : Option Code). card_entry_by d c a block.place (outcome_by mode (waits_for a.found))) (no_mode a.srb (has_frr c.frrs) (in_manager c.levels) (not (recovers c.levels)) (is_bare c.levels) srb frr manager)
    ∙ ap (λ (there : Bool). card_entry_by d c a block.place (waits_for there)) found

task_at : (d : DeckView) (c : Core) (a : Surroundings) (b : Option Block) (task : ℕ) → op_of d b ≡ ops.WaitTask task
    → a.srb ≡ false → has_frr c.frrs ≡ false → in_manager c.levels ≡ false → a.found ≡ false → card_entry_at d c a b ≡ None
task_at d c a None task e srb frr manager found = refl
task_at d c a (Some block) task e srb frr manager found =
    ap (λ (op : Op). card_entry_by d c a block.place (outcome c a op)) e
    ∙ ap (λ (mode : Option Code). card_entry_by d c a block.place (outcome_by mode (waits_for a.found))) (no_mode a.srb (has_frr c.frrs) (in_manager c.levels) (not (recovers c.levels)) (is_bare c.levels) srb frr manager)
    ∙ ap (λ (there : Bool). card_entry_by d c a block.place (waits_for there)) found

pub waits_for_event : (d : DeckView) (w : World) (u event : ℕ) → runs_normally (unit_at u w.units) ≡ true → op_here d (core_at u w) ≡ ops.Wait event
    → waits_at d u (core_at u w) (is_posted event (Tree.events w.tree)) ≡ true → next_unit d (core_at u w) (surroundings d w u) ≡ None
waits_for_event d w u event normal e waits =
    let c = core_at u w in
    let fs = and_parts (not (is_posted event (Tree.events w.tree)) && not (is_srb d u)) (may_wait c) waits in
    let f = and_parts (not (is_posted event (Tree.events w.tree))) (not (is_srb d u)) fs.0 in
    let m = and_parts (not (has_frr c.frrs)) (not (in_manager c.levels)) fs.1 in
    let found : is_found w u (op_here d c) ≡ false = ap (is_found w u) e ∙ not-true _ f.0 in
    normal_next d w u normal
    ∙ wait_at d c (surroundings d w u) (newest_block c.blocks) event e (not-true (is_srb d u) f.1) (not-true (has_frr c.frrs) m.0) (not-true (in_manager c.levels) m.1) found

pub waits_for_task : (d : DeckView) (w : World) (u task : ℕ) → runs_normally (unit_at u w.units) ≡ true → op_here d (core_at u w) ≡ ops.WaitTask task
    → waits_at d u (core_at u w) (has_ended (life_of task (Tree.lives w.tree))) ≡ true → next_unit d (core_at u w) (surroundings d w u) ≡ None
waits_for_task d w u task normal e waits =
    let c = core_at u w in
    let fs = and_parts (not (has_ended (life_of task (Tree.lives w.tree))) && not (is_srb d u)) (may_wait c) waits in
    let f = and_parts (not (has_ended (life_of task (Tree.lives w.tree)))) (not (is_srb d u)) fs.0 in
    let m = and_parts (not (has_frr c.frrs)) (not (in_manager c.levels)) fs.1 in
    let found : is_found w u (op_here d c) ≡ false = ap (is_found w u) e ∙ not-true _ f.0 in
    normal_next d w u normal
    ∙ task_at d c (surroundings d w u) (newest_block c.blocks) task e (not-true (is_srb d u) f.1) (not-true (has_frr c.frrs) m.0) (not-true (in_manager c.levels) m.1) found
