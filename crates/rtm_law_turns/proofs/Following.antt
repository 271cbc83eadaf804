-- A unit's own next entry is no arrival, so that it may follow.
use Rattle.std.proofs.Common.{◌≡◌, ℕ, Bool, true, false, cond, Option, Some, None, subst}
use Rattle.std.specs.Prelude.{IfSome, if◌then◌else◌, position, ◌==◌}
use Rattle.rtm_codes.specs.declared.code.Code.{Code}
use Rattle.rtm_deck_items.specs.Reading.{op_at}
use Rattle.rtm_deck_items.specs.View.{DeckView}
use Rattle.rtm_model.specs.declared.abort.Abort.{Abort}
use Rattle.rtm_model.specs.declared.surroundings.Surroundings.{Surroundings}
use Rattle.rtm_model.specs.declared.block.Block.{Block}
use Rattle.rtm_model.specs.declared.block.Place.{Place}
use Rattle.rtm_model.specs.declared.entry.What.{What}
use Rattle.rtm_model.specs.declared.entry.What.TheVariants as whats
use Rattle.rtm_model.specs.declared.error_record.ErrorRecord.{ErrorRecord}
use Rattle.rtm_model.specs.declared.holding.Holding.{Holding}
use Rattle.rtm_model.specs.declared.holding.Manager1.{Manager1}
use Rattle.rtm_model.specs.declared.outcome.Outcome.{Outcome}
use Rattle.rtm_model.specs.declared.outcome.Outcome.TheVariants as outcomes
use Rattle.rtm_model.specs.declared.reg.Reg.{Reg}
use Rattle.rtm_model.specs.Blocks.{newest_block}
use Rattle.rtm_model.specs.Cards.{outcome}
use Rattle.rtm_model.specs.Legal.{MayFollow}
use Rattle.rtm_model.specs.Levels.{current, error_in}
use Rattle.rtm_model.specs.NextEntry.{card_entry, card_entry_at, card_entry_by, done_of, eligible_routine, ending_or_card, first_case, handling_of, is_outermost, last_return, manager_or, master_act, next, next_landing, next_master, next_of_master, next_of_unit, next_unit, release_or, unit_act}
use Rattle.rtm_model.specs.Surroundings.{surroundings}
use Rattle.rtm_model.specs.Tasks.{Tree, is_living}
use Rattle.rtm_model.specs.Turns.{entry_of}
use Rattle.rtm_model.specs.World.{Beginning, Core, World, core_at, lives_in, master}

-- no command arrives
abbrev IsOwn : What → Type 0
IsOwn (whats.Arrive cmd _) = ⊥
IsOwn _ = Unit {0}

own_if : (b : Bool) (x y : Option What) → IfSome x IsOwn → IfSome y IsOwn → IfSome (cond b x y) IsOwn
own_if true x y h i = h
own_if false x y h i = i

handled_own : (sdwa : Bool) (r : ErrorRecord) (o own : Option Reg) → IsOwn (handling_of sdwa r o own)
handled_own sdwa r (Some reg) own = tt
handled_own sdwa r None (Some own) = tt
handled_own sdwa r None None = tt

returned_own : (d : DeckView) (c : Core) (a : Surroundings) (o : Option Reg) → IsOwn (last_return d c a o)
returned_own d c a None = tt
returned_own d c a (Some reg) = tt

card_own : (d : DeckView) (c : Core) (a : Surroundings) (place : Place) (o : Outcome) → IfSome (card_entry_by d c a place o) IsOwn
card_own d c a place (outcomes.Executed rc) = tt
card_own d c a place (outcomes.Abends code reason dump step) = tt
card_own d c a place outcomes.Waits = tt
card_own d c a place outcomes.Returns = returned_own d c a (current c.levels)

at_own : (d : DeckView) (c : Core) (a : Surroundings) (o : Option Block) → IfSome (card_entry_at d c a o) IsOwn
at_own d c a None = tt
at_own d c a (Some block) = card_own d c a block.place (outcome c a (op_at d (Place.prog block.place) (Place.op block.place)))

released_own : (o : Option Holding) (rest : What) → IsOwn rest → IsOwn (release_or o rest)
released_own None rest h = h
released_own (Some holding) rest h = tt

managed_own : (code : Code) (o : Option Manager1) (rest : What) → IsOwn rest → IsOwn (manager_or code o rest)
managed_own code None rest h = h
managed_own code (Some manager) rest h = tt

act_own : (code : Code) (o : Option ℕ) (a : Surroundings) → IsOwn (master_act code o a)
act_own code (Some unit) a = tt
act_own code None a = managed_own code a.manager (release_or a.holding whats.MemEnd) (released_own a.holding whats.MemEnd tt)

going_own : (d : DeckView) (c : Core) (a : Surroundings) (o : Option Beginning) → IfSome (ending_or_card d c a o) IsOwn
going_own d c a None = at_own d c a (newest_block c.blocks)
going_own d c a (Some begun) =
    own_if (is_outermost c.levels) (unit_act begun a) (card_entry d c a)
    (own_if a.subtask None (Some (manager_or begun.code a.manager (release_or a.holding (done_of begun a)))) tt
    (managed_own begun.code a.manager (release_or a.holding (done_of begun a)) (released_own a.holding (done_of begun a) tt)))
    (at_own d c a (newest_block c.blocks))

first_own : (sdwa : Bool) (c : Core) (r : Option ErrorRecord) (abort : Option Abort) (rest : Option What) → IfSome rest IsOwn → IfSome (first_case sdwa c r abort rest) IsOwn
first_own sdwa c (Some r) abort rest h = handled_own sdwa r (eligible_routine c r) (current c.levels)
first_own sdwa c None (Some abort) rest h = tt
first_own sdwa c None None rest h = h

unit_own : (d : DeckView) (w : World) (u : ℕ) (o : Option Code) → IfSome (next_of_unit d w u o) IsOwn
unit_own d w u (Some code) = tt
unit_own d w u None =
    let c = core_at u w in
    let a = surroundings d w u in
    own_if (lives_in w u) (next_unit d c a) None (first_own d.sdwa c (error_in c.levels) (next_landing c a) (ending_or_card d c a c.begun) (going_own d c a c.begun)) tt

master_own : (d : DeckView) (w : World) (o : Option Code) → IfSome (next_of_master d w o) IsOwn
master_own d w None = tt
master_own d w (Some code) =
    let c = core_at (master d) w in
    let a = surroundings d w (master d) in
    let living = position is_living (Tree.lives w.tree) in
    own_if w.over None (next_master d c a code living) tt
    (first_own d.sdwa c (error_in c.levels) None (if is_outermost c.levels then Some (master_act code living a) else card_entry d c a)
    (own_if (is_outermost c.levels) (Some (master_act code living a)) (card_entry d c a) (act_own code living a) (at_own d c a (newest_block c.blocks))))

next_own : (d : DeckView) (w : World) (u : ℕ) → IfSome (next d w u) IsOwn
next_own d w u = own_if (u == master d) (next_of_master d w w.memory_end) (next_of_unit d w u w.memory_end) (master_own d w w.memory_end) (unit_own d w u w.memory_end)

follows_by : (d : DeckView) (w : World) (n u : ℕ) (what : What) → IsOwn what → next d w u ≡ Some what → MayFollow d w n (entry_of u what) what
follows_by d w n u (whats.Arrive cmd _) own e = absurd own
follows_by d w n u (whats.Exec at rc) own e = e
follows_by d w n u (whats.Error at mark) own e = e
follows_by d w n u (whats.Land class from mark) own e = e
follows_by d w n u (whats.Enter kind reg mark bare) own e = e
follows_by d w n u (whats.Leave kind reg verdict logrec dump) own e = e
follows_by d w n u (whats.Begin code dump) own e = e
follows_by d w n u (whats.Release class id owner) own e = e
follows_by d w n u (whats.Done code to_task to_step) own e = e
follows_by d w n u (whats.Purge unit) own e = e
follows_by d w n u whats.MemEnd own e = e

-- a unit's next entry may follow
pub next_follows : (d : DeckView) (w : World) (n u : ℕ) (what : What) → next d w u ≡ Some what → MayFollow d w n (entry_of u what) what
next_follows d w n u what e = follows_by d w n u what (subst (λ (o : Option What). IfSome o IsOwn) e (next_own d w u)) e
