-- What is asked by a case is all that the next entry needs of others.
use Rattle.std.proofs.Common.{◌≡◌, ℕ, Bool, eqb, true, false, Option, Some, None, refl, sym, ap, ◌∙◌}
use Rattle.std.specs.Prelude.{if◌then◌else◌, is_none, is_some, ◌&&◌}
use Rattle.std.proofs.lemmas.Bool.{and_parts, eqb-false}
use Rattle.rtm_codes.specs.declared.code.Code.{Code}
use Rattle.rtm_deck_items.specs.Reading.{op_at}
use Rattle.rtm_deck_items.specs.View.{DeckView}
use Rattle.rtm_deck_items.specs.declared.op.Op.{Op}
use Rattle.rtm_deck_items.specs.declared.op.Op.TheVariants as ops
use Rattle.rtm_model.specs.declared.abort.Abort.{Abort}
use Rattle.rtm_model.specs.declared.surroundings.Surroundings.{Surroundings}
use Rattle.rtm_model.specs.declared.block.Block.{Block}
use Rattle.rtm_model.specs.declared.block.Place.{Place}
use Rattle.rtm_model.specs.declared.entry.Fate.{Fate}
use Rattle.rtm_model.specs.declared.entry.What.{What}
use Rattle.rtm_model.specs.declared.entry.What.TheVariants.{Begin, Done, MemEnd, Purge}
use Rattle.rtm_model.specs.declared.holding.Holding.{Holding}
use Rattle.rtm_model.specs.declared.holding.Manager1.{Manager1}
use Rattle.rtm_model.specs.declared.outcome.Outcome.{Outcome}
use Rattle.rtm_model.specs.declared.outcome.Outcome.TheVariants.{Abends, Executed, Returns, Waits}
use Rattle.rtm_model.specs.declared.reg.Reg.{Reg}
use Rattle.rtm_model.specs.Aborts.{is_interruptible}
use Rattle.rtm_model.specs.Blocks.{newest_block, place_or_none}
use Rattle.rtm_model.specs.Cards.{has_frr, is_deepest, mode_error, outcome, outcome_by, row, unless, waits_for}
use Rattle.rtm_model.specs.Ending.{next_manager, next_release}
use Rattle.rtm_model.specs.Levels.{current, error_here, error_in, shielded}
use Rattle.rtm_model.specs.NextEntry.{card_entry, card_entry_at, card_entry_by, ending_or_card, ends_step, first_case, is_from_error, is_outermost, last_return, manager_or, master_act, next_landing, next_master, next_unit, normal_end, release_or, unit_act, with_subtasks}
use Rattle.rtm_model.specs.Surroundings.{op_here, related_fate, step_fate, surroundings, surroundings_at, whose}
use Rattle.rtm_model.specs.Tasks.{Tree, has_subtask}
use Rattle.rtm_model.specs.World.{Beginning, Core, World, core_at, master, related_task}
use Rattle.rtm_system_world.specs.Needs.{is_ending, is_return, needs_at_end, needs_of_card, needs_of_end, needs_of_master, needs_of_memory_end}

-- ---- a card

-- RETURN alone can be a bracket's last
abbrev returns : Outcome → Bool
returns (Executed rc) = false
returns (Abends code reason dump step) = false
returns Waits = false
returns Returns = true

none_by_unless : (failed : Bool) (code : Code) → returns (unless failed code) ≡ false
none_by_unless true code = refl
none_by_unless false code = refl

none_by_wait : (there : Bool) → returns (waits_for there) ≡ false
none_by_wait true = refl
none_by_wait false = refl

none_by_if : (b : Bool) (x y : Outcome) → returns x ≡ false → returns y ≡ false → returns (if b then x else y) ≡ false
none_by_if true x y e f = e
none_by_if false x y e f = f

clash : (b : Bool) → b ≡ false → b ≡ true → false ≡ true
clash b e f = sym e ∙ f

row_returns : (c : Core) (a : Surroundings) (op : Op) → returns (row c a op) ≡ true → is_return op ≡ true
row_returns c a ops.Return e = refl
row_returns c a ops.Nop e = e
row_returns c a (ops.Get class id) e = clash _ (none_by_unless a.crowded _) e
row_returns c a (ops.Free class id) e = e
row_returns c a (ops.Link prog) e = clash _ (none_by_unless _ _) e
row_returns c a (ops.Xctl prog) e = e
row_returns c a (ops.Abend code reason dump step) e = e
row_returns c a (ops.EstaexCt prog term cancel xctl) e = clash _ (none_by_if (is_deepest c.levels) _ _ refl (none_by_unless _ _)) e
row_returns c a (ops.EstaexOv prog term cancel xctl) e = e
row_returns c a ops.EstaexZero e = e
row_returns c a (ops.FrrAdd prog) e = clash _ (none_by_if (is_deepest c.levels) _ _ refl (none_by_unless _ _)) e
row_returns c a ops.FrrDelete e = e
row_returns c a (ops.FrrReplace prog) e = e
row_returns c a ops.FrrPurge e = e
row_returns c a (ops.Attachx unit estai term) e = e
row_returns c a (ops.Detach unit stae) e = clash _ (none_by_if a.own _ _ refl refl) e
row_returns c a (ops.Abterm unit code reason dump retry) e = e
row_returns c a (ops.Memterm code) e = e
row_returns c a (ops.MgrAdd prog space) e = clash _ (none_by_unless a.crowded _) e
row_returns c a (ops.MgrDelete prog space) e = e
row_returns c a (ops.Schedule unit) e = e
row_returns c a (ops.Wait event) e = clash _ (none_by_wait a.found) e
row_returns c a (ops.WaitTask unit) e = clash _ (none_by_wait a.found) e
row_returns c a (ops.Post event) e = e
row_returns c a (ops.SetRp setrp) e = e
row_returns c a (ops.Ret15 rc label) e = e
row_returns c a (ops.Branch label) e = e
row_returns c a (ops.IfCode code label) e = e
row_returns c a (ops.IfClup label) e = e
row_returns c a (ops.IfPerc label) e = e

by_mode : (mode : Option Code) (o : Outcome) → returns (outcome_by mode o) ≡ true → returns o ≡ true
by_mode (Some code) o e = absurd cc
by_mode None o e = e

-- what a card does is the same
same_outcome : (d : DeckView) (w : World) (u : ℕ) (c : Core) (op : Op) → outcome c (needs_of_card d w u op) op ≡ outcome c (surroundings_at d w u op) op
same_outcome d w u c ops.Return = refl
same_outcome d w u c ops.Nop = refl
same_outcome d w u c (ops.Get class id) = refl
same_outcome d w u c (ops.Free class id) = refl
same_outcome d w u c (ops.Link prog) = refl
same_outcome d w u c (ops.Xctl prog) = refl
same_outcome d w u c (ops.Abend code reason dump step) = refl
same_outcome d w u c (ops.EstaexCt prog term cancel xctl) = refl
same_outcome d w u c (ops.EstaexOv prog term cancel xctl) = refl
same_outcome d w u c ops.EstaexZero = refl
same_outcome d w u c (ops.FrrAdd prog) = refl
same_outcome d w u c ops.FrrDelete = refl
same_outcome d w u c (ops.FrrReplace prog) = refl
same_outcome d w u c ops.FrrPurge = refl
same_outcome d w u c (ops.Attachx unit estai term) = refl
same_outcome d w u c (ops.Detach unit stae) = refl
same_outcome d w u c (ops.Abterm unit code reason dump retry) = refl
same_outcome d w u c (ops.Memterm code) = refl
same_outcome d w u c (ops.MgrAdd prog space) = refl
same_outcome d w u c (ops.MgrDelete prog space) = refl
same_outcome d w u c (ops.Schedule unit) = refl
same_outcome d w u c (ops.Wait event) = refl
same_outcome d w u c (ops.WaitTask unit) = refl
same_outcome d w u c (ops.Post event) = refl
same_outcome d w u c (ops.SetRp setrp) = refl
same_outcome d w u c (ops.Ret15 rc label) = refl
same_outcome d w u c (ops.Branch label) = refl
same_outcome d w u c (ops.IfCode code label) = refl
same_outcome d w u c (ops.IfClup label) = refl
same_outcome d w u c (ops.IfPerc label) = refl

-- a subtask is asked for where a bracket's last request block returns
same_returned : (d : DeckView) (c : Core) (a b : Surroundings) (own : Option Reg) → a.subtask ≡ b.subtask → last_return d c a own ≡ last_return d c b own
same_returned d c a b (Some reg) e = refl
same_returned d c a b None e = ap (λ (s : Bool). Begin (if s then with_subtasks else normal_end) false) e

same_carded_by : (d : DeckView) (c : Core) (a b : Surroundings) (place : Place) (o : Outcome) → (returns o ≡ true → a.subtask ≡ b.subtask) → card_entry_by d c a place o ≡ card_entry_by d c b place o
same_carded_by d c a b place (Executed rc) h = refl
same_carded_by d c a b place (Abends code reason dump step) h = refl
same_carded_by d c a b place Waits h = refl
same_carded_by d c a b place Returns h = ap (λ (x : What). Some x) (same_returned d c a b (current c.levels) (h refl))

and_true : (b s : Bool) → b ≡ true → (b && s) ≡ s
and_true true s e = refl
and_true false s e = absurd cc

same_card : (d : DeckView) (w : World) (u : ℕ) (c : Core) (place : Place) (op : Op)
    → card_entry_by d c (needs_of_card d w u op) place (outcome c (needs_of_card d w u op) op) ≡ card_entry_by d c (surroundings_at d w u op) place (outcome c (surroundings_at d w u op) op)
same_card d w u c place op =
    ap (card_entry_by d c (needs_of_card d w u op) place) (same_outcome d w u c op)
    ∙ same_carded_by d c (needs_of_card d w u op) (surroundings_at d w u op) place (outcome c (surroundings_at d w u op) op)
    (λ e. and_true (is_return op) (has_subtask u (Tree.lives w.tree)) (row_returns c (surroundings_at d w u op) op (by_mode (mode_error c (surroundings_at d w u op) op) (row c (surroundings_at d w u op) op) e)))

abbrev op_of : DeckView → Option Block → Op
op_of d b = op_at d (Place.prog (place_or_none b)) (Place.op (place_or_none b))

same_at : (d : DeckView) (w : World) (u : ℕ) (c : Core) (b : Option Block)
    → card_entry_at d c (needs_of_card d w u (op_of d b)) b ≡ card_entry_at d c (surroundings_at d w u (op_of d b)) b
same_at d w u c None = refl
same_at d w u c (Some block) = same_card d w u c block.place (op_at d (Place.prog block.place) (Place.op block.place))

same_carded : (d : DeckView) (w : World) (u : ℕ) (c : Core) → card_entry d c (needs_of_card d w u (op_here d c)) ≡ card_entry d c (surroundings_at d w u (op_here d c))
same_carded d w u c = same_at d w u c (newest_block c.blocks)

-- ---- an ending
then_is : {X : Type 0} (t : Bool) (x y : X) → t ≡ true → (if t then x else y) ≡ x
then_is true x y e = refl
then_is false x y e = absurd cc

else_is : {X : Type 0} (t : Bool) (x y : X) → t ≡ false → (if t then x else y) ≡ y
else_is true x y e = absurd cc
else_is false x y e = refl

act_asked : (begun : Beginning) (subtask : Bool) (manager : Option Manager1) (holding : Option Holding) (to_task to_step : Option Fate)
    → unit_act begun (needs_at_end subtask manager holding to_task to_step)
    ≡ (if subtask then None else Some (manager_or begun.code manager (release_or holding (Done begun.code (if is_from_error begun then to_task else None) (if ends_step begun then to_step else None)))))
act_asked begun true manager holding to_task to_step = refl
act_asked begun false (Some manager) holding to_task to_step = refl
act_asked begun false None (Some holding) to_task to_step = refl
act_asked begun false None None to_task to_step = refl

same_act : (d : DeckView) (w : World) (u : ℕ) (op : Op) (begun : Beginning) → unit_act begun (needs_of_end d w u) ≡ unit_act begun (surroundings_at d w u op)
same_act d w u op begun =
    act_asked begun (has_subtask u (Tree.lives w.tree)) (next_manager (whose d u) w.managers) (next_release (whose d u) w.holdings) (related_fate w (related_task d u)) (step_fate d w u)

-- no abort lands in a unit that has begun to end
none_lands : (begun : Option Beginning) (rest : Bool) (abort : Option Abort) → is_some begun ≡ true → (if is_none begun && rest then abort else None) ≡ None
none_lands (Some begun) rest abort e = refl
none_lands None rest abort e = absurd cc

ending_goes_on : (d : DeckView) (w : World) (u : ℕ) (c : Core) (op : Op) (begun : Option Beginning) → (is_some begun && is_outermost c.levels) ≡ true
    → ending_or_card d c (needs_of_end d w u) begun ≡ ending_or_card d c (surroundings_at d w u op) begun
ending_goes_on d w u c op None e = absurd cc
ending_goes_on d w u c op (Some begun) e =
    then_is (is_outermost c.levels) (unit_act begun (needs_of_end d w u)) (card_entry d c (needs_of_end d w u)) e
    ∙ same_act d w u op begun
    ∙ sym (then_is (is_outermost c.levels) (unit_act begun (surroundings_at d w u op)) (card_entry d c (surroundings_at d w u op)) e)

card_goes_on : (d : DeckView) (w : World) (u : ℕ) (c : Core) (begun : Option Beginning) → (is_some begun && is_outermost c.levels) ≡ false
    → ending_or_card d c (needs_of_card d w u (op_here d c)) begun ≡ ending_or_card d c (surroundings_at d w u (op_here d c)) begun
card_goes_on d w u c None e = same_carded d w u c
card_goes_on d w u c (Some begun) e =
    else_is (is_outermost c.levels) (unit_act begun (needs_of_card d w u (op_here d c))) (card_entry d c (needs_of_card d w u (op_here d c))) e
    ∙ same_carded d w u c
    ∙ sym (else_is (is_outermost c.levels) (unit_act begun (surroundings_at d w u (op_here d c))) (card_entry d c (surroundings_at d w u (op_here d c))) e)

same_at_end : (d : DeckView) (w : World) (u : ℕ) (c : Core) (op : Op) → is_ending c ≡ true → next_unit d c (needs_of_end d w u) ≡ next_unit d c (surroundings_at d w u op)
same_at_end d w u c op e =
    let begun = (and_parts (is_some c.begun) (is_outermost c.levels) e).0 in
    let rest = is_interruptible (has_frr c.frrs) (shielded c.levels) c.doomed (error_here c.levels) in
    let lands : next_landing c (needs_of_end d w u) ≡ next_landing c (surroundings_at d w u op) =
    none_lands c.begun rest (Surroundings.abort (needs_of_end d w u)) begun ∙ sym (none_lands c.begun rest (Surroundings.abort (surroundings_at d w u op)) begun) in
    ap (λ (abort : Option Abort). first_case d.sdwa c (error_in c.levels) abort (ending_or_card d c (needs_of_end d w u) c.begun)) lands
    ∙ ap (first_case d.sdwa c (error_in c.levels) (next_landing c (surroundings_at d w u op))) (ending_goes_on d w u c op c.begun e)

-- the next entry of a unit that lives
pub same_at_its_end : (d : DeckView) (w : World) (u : ℕ) → is_ending (core_at u w) ≡ true → next_unit d (core_at u w) (needs_of_end d w u) ≡ next_unit d (core_at u w) (surroundings d w u)
same_at_its_end d w u e = same_at_end d w u (core_at u w) (op_here d (core_at u w)) e

pub same_at_its_card : (d : DeckView) (w : World) (u : ℕ) → is_ending (core_at u w) ≡ false
    → next_unit d (core_at u w) (needs_of_card d w u (op_here d (core_at u w))) ≡ next_unit d (core_at u w) (surroundings d w u)
same_at_its_card d w u e =
    let c = core_at u w in
    ap (first_case d.sdwa c (error_in c.levels) (next_landing c (surroundings_at d w u (op_here d c)))) (card_goes_on d w u c c.begun e)

-- ---- memory end
abbrev master_does : Code → Option ℕ → Option Manager1 → Option Holding → What
master_does code (Some unit) manager holding = Purge unit
master_does code None manager holding = manager_or code manager (release_or holding MemEnd)

master_asked : (code : Code) (living : Option ℕ) (manager : Option Manager1) (holding : Option Holding)
    → master_act code living (needs_at_end false manager holding None None) ≡ master_does code living manager holding
master_asked code (Some unit) manager holding = refl
master_asked code None (Some manager) holding = refl
master_asked code None None (Some holding) = refl
master_asked code None None None = refl

master_around : (d : DeckView) (w : World) (u : ℕ) (op : Op) (code : Code) (living : Option ℕ)
    → master_act code living (surroundings_at d w u op) ≡ master_does code living (next_manager (whose d u) w.managers) (next_release (whose d u) w.holdings)
master_around d w u op code (Some unit) = refl
master_around d w u op code None = refl

all_of_it : (d : DeckView) (w : World) (u : ℕ) (op : Op) (code : Code) (living : Option ℕ) → whose d u ≡ None
    → master_act code living (needs_of_memory_end w) ≡ master_act code living (surroundings_at d w u op)
all_of_it d w u op code living e =
    master_asked code living (next_manager None w.managers) (next_release None w.holdings)
    ∙ ap (λ (o : Option ℕ). master_does code living (next_manager o w.managers) (next_release o w.holdings)) (sym e)
    ∙ sym (master_around d w u op code living)

master_by : (d : DeckView) (w : World) (u : ℕ) (c : Core) (code : Code) (living : Option ℕ) (t : Bool) → whose d u ≡ None → is_outermost c.levels ≡ t
    → next_master d c (if t then needs_of_memory_end w else needs_of_card d w u (op_here d c)) code living ≡ next_master d c (surroundings_at d w u (op_here d c)) code living
master_by d w u c code living true whole e =
    ap (first_case d.sdwa c (error_in c.levels) None)
    (then_is (is_outermost c.levels) (Some (master_act code living (needs_of_memory_end w))) (card_entry d c (needs_of_memory_end w)) e
    ∙ ap (λ (x : What). Some x) (all_of_it d w u (op_here d c) code living whole)
    ∙ sym (then_is (is_outermost c.levels) (Some (master_act code living (surroundings_at d w u (op_here d c)))) (card_entry d c (surroundings_at d w u (op_here d c))) e))
master_by d w u c code living false whole e =
    ap (first_case d.sdwa c (error_in c.levels) None)
    (else_is (is_outermost c.levels) (Some (master_act code living (needs_of_card d w u (op_here d c)))) (card_entry d c (needs_of_card d w u (op_here d c))) e
    ∙ same_carded d w u c
    ∙ sym (else_is (is_outermost c.levels) (Some (master_act code living (surroundings_at d w u (op_here d c)))) (card_entry d c (surroundings_at d w u (op_here d c))) e))

-- all that is held and managed is the master's to end
of_all : (u k : ℕ) (b : Bool) → eqb u k ≡ b → u ≡ k → (if b then None else Some u) ≡ None
of_all u k true e same = refl
of_all u k false e same = absurd (eqb-false u k e same)

-- the master's next entry
pub same_next_of_master : (d : DeckView) (w : World) (code : Code) (living : Option ℕ)
    → next_master d (core_at (master d) w) (needs_of_master d w) code living ≡ next_master d (core_at (master d) w) (surroundings d w (master d)) code living
same_next_of_master d w code living =
    master_by d w (master d) (core_at (master d) w) code living (is_outermost (Core.levels (core_at (master d) w)))
    (of_all (master d) (master d) (eqb (master d) (master d)) refl refl) refl
