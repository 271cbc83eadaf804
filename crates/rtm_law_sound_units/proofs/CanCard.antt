-- What a card does can be made: it is executed where there is room for what it makes, or meets with an error whose code
-- is in range.
use Rattle.std.proofs.Common.{◌≡◌, ℕ, ◌<◌, ◌≤◌, Bool, true, false, List, length, Option, Some, None, refl, sym, ◌∙◌, arith}
use Rattle.std.specs.Prelude.{IfSome, IsTrue, if◌then◌else◌, not, ◌==◌, ◌&&◌, ◌||◌}
use Rattle.std.specs.Option.{option_map_or}
use Rattle.std.proofs.lemmas.Bool.{eqb-false, leb-false}
use Rattle.rtm_codes.specs.declared.code.Code.{Code}
use Rattle.rtm_codes.specs.Code.{IsInRange}
use Rattle.rtm_deck_items.specs.declared.deck.Line.{Line}
use Rattle.rtm_deck_items.specs.declared.op.Op.{Op}
use Rattle.rtm_deck_items.specs.declared.op.Op.TheVariants as ops
use Rattle.rtm_deck_items.specs.View.{DeckView}
use Rattle.rtm_deck_items.specs.WellFormed.{is_abend_code, is_op, is_reason}
use Rattle.rtm_model.specs.declared.surroundings.Surroundings.{Surroundings}
use Rattle.rtm_model.specs.declared.entry.Fate.{Fate}
use Rattle.rtm_model.specs.declared.entry.Fate.TheVariants as fates
use Rattle.rtm_model.specs.declared.outcome.Outcome.{Outcome}
use Rattle.rtm_model.specs.declared.outcome.Outcome.TheVariants as outcomes
use Rattle.rtm_model.specs.inner.Applies.{CanExecute}
use Rattle.rtm_model.specs.Limits.{deepest, most_blocks, most_estaes, most_frrs, most_holdings, most_managers}
use Rattle.rtm_model.specs.Blocks.{has_full_bracket, has_one_block, newest_bracket}
use Rattle.rtm_codes.specs.Code.{same_code}
use Rattle.rtm_model.specs.Cards.{fails, fate_rc, in_manager, is_deepest, mode_error, not_a_subtask, out_of_routine, outcome, outcome_by, rc_if, row, too_deep, too_many_blocks, too_many_estaes, too_many_frrs, too_many_holdings, too_many_managers, unless, waits_for, wants_no_manager, wants_routine, wants_sdwa, wants_task, without_sdwa, wrong_mode, has_frr}
use Rattle.rtm_model.specs.Ending.{held_count, holdings_of}
use Rattle.rtm_model.specs.Levels.{depth_in, is_bare, record_in, recovers}
use Rattle.rtm_model.specs.Surroundings.{is_crowded, is_unborn}
use Rattle.rtm_model.specs.inner.Soundness.{AreHoldings, IsCoreSound, IsReason, IsSound}
use Rattle.rtm_model.specs.Tasks.{Tree, is_dormant, life_of}
use Rattle.rtm_model.specs.World.{Core, World, core_at}
use Rattle.rtm_model.proofs.Lists.{both_true}
use Rattle.rtm_model.proofs.Codes.{abend_code, reason_code}

-- what the card does can be made
abbrev pub CanDo : World → ℕ → Op → Outcome → Type 0
CanDo w u op (outcomes.Executed rc) = CanExecute w u rc op × (rc < 256)
CanDo w u op (outcomes.Abends code reason dump step) = IsInRange code × IsReason reason
CanDo w u op outcomes.Waits = Unit {0}
CanDo w u op outcomes.Returns = Unit {0}

-- an error of the machine's own
unless_can : (w : World) (u : ℕ) (op : Op) (b : Bool) (code : Code) → IsInRange code → (b ≡ false → CanExecute w u 0 op) → CanDo w u op (unless b code)
unless_can w u op true code h can = (h, tt)
unless_can w u op false code h can = (can refl, omega arith)

-- errors of mode
mode_if : (b : Bool) (code : Code) (other : Option Code) → IsInRange code → IfSome other IsInRange → IfSome (if b then Some code else other) IsInRange
mode_if true code other h i = h
mode_if false code other h i = i

mode_code : (c : Core) (a : Surroundings) (op : Op) → IfSome (mode_error c a op) IsInRange
mode_code c a op =
    mode_if (wants_task op && (a.srb || has_frr c.frrs)) wrong_mode _ (omega arith)
    (mode_if (wants_no_manager op && in_manager c.levels) wrong_mode _ (omega arith)
    (mode_if (wants_routine op && not (recovers c.levels)) out_of_routine _ (omega arith)
    (mode_if (wants_sdwa op && is_bare c.levels) without_sdwa None (omega arith) tt)))

by_mode : (w : World) (u : ℕ) (op : Op) (o : Option Code) (other : Outcome) → IfSome o IsInRange → CanDo w u op other → CanDo w u op (outcome_by o other)
by_mode w u op (Some code) other h can = (h, tt)
by_mode w u op None other h can = can

below : (n most : ℕ) → n ≤ most → (n ≡ most → ⊥) → n < most
below n most h ne = omega (arith, h, ne)

-- rows
at_most : (n most : ℕ) → n ≤ most → (n == most) ≡ false → n < most
at_most n most h e = below n most h (eqb-false n most e)

estae_can : (w : World) (u prog : ℕ) (term cancel xctl : Bool) (deep : Bool) → is_deepest (Core.levels (core_at u w)) ≡ deep → length (Core.estaes (core_at u w)) ≤ most_estaes
    → CanDo w u (ops.EstaexCt prog term cancel xctl) (if deep then fails too_deep else unless (length (Core.estaes (core_at u w)) == most_estaes) too_many_estaes)
estae_can w u prog term cancel xctl true e h = (omega arith, tt)
estae_can w u prog term cancel xctl false e h =
    unless_can w u (ops.EstaexCt prog term cancel xctl) (length (Core.estaes (core_at u w)) == most_estaes) too_many_estaes (omega arith)
    (λ few. record { few = at_most (length (Core.estaes (core_at u w))) most_estaes h few; shallow = leb-false deepest (depth_in (Core.levels (core_at u w))) e })

frr_can : (w : World) (u prog : ℕ) (deep : Bool) → is_deepest (Core.levels (core_at u w)) ≡ deep → length (Core.frrs (core_at u w)) ≤ most_frrs
    → CanDo w u (ops.FrrAdd prog) (if deep then fails too_deep else unless (length (Core.frrs (core_at u w)) == most_frrs) too_many_frrs)
frr_can w u prog true e h = (omega arith, tt)
frr_can w u prog false e h =
    unless_can w u (ops.FrrAdd prog) (length (Core.frrs (core_at u w)) == most_frrs) too_many_frrs (omega arith)
    (λ few. record { few = at_most (length (Core.frrs (core_at u w))) most_frrs h few; shallow = leb-false deepest (depth_in (Core.levels (core_at u w))) e })

return_can : (w : World) (u : ℕ) (b : Bool) → has_one_block (Core.blocks (core_at u w)) ≡ b → CanDo w u ops.Return (if b then outcomes.Returns else outcomes.Executed 0)
return_can w u true e = tt
return_can w u false e = (e, omega arith)

rc_small : (b : Bool) (otherwise : ℕ) → otherwise < 256 → rc_if b otherwise < 256
rc_small true otherwise h = omega arith
rc_small false otherwise h = h

fate_small : (fate : Fate) → fate_rc fate < 256
fate_small fates.Queued = omega arith
fate_small fates.Merged = omega arith
fate_small fates.Late = omega arith

detach_can : (w : World) (u unit : ℕ) (stae : Bool) (b : Bool) (becomes : Fate) → CanDo w u (ops.Detach unit stae) (if b then outcomes.Executed (fate_rc becomes) else fails not_a_subtask)
detach_can w u unit stae true becomes = (tt, fate_small becomes)
detach_can w u unit stae false becomes = (omega arith, tt)

-- a dormant unit is born with the return code 0 alone
born_if : (w : World) (unit : ℕ) (b : Bool) → b ≡ is_dormant (life_of unit (Tree.lives w.tree)) → rc_if b 8 ≡ 0 → is_dormant (life_of unit (Tree.lives w.tree)) ≡ true
born_if w unit true e h = sym e
born_if w unit false e h = absurd (omega arith)

if_small : (b : Bool) (x y : ℕ) → x < 256 → y < 256 → (if b then x else y) < 256
if_small true x y h i = h
if_small false x y h i = i

waits_can : (w : World) (u : ℕ) (op : Op) (b : Bool) → CanExecute w u 0 op → CanDo w u op (waits_for b)
waits_can w u op true h = (h, omega arith)
waits_can w u op false h = tt

row_can : (d : DeckView) (n : ℕ) (w : World) (u : ℕ) (a : Surroundings) (lines : List Line) (op : Op) → IsSound d n w → IsTrue (is_op d lines op) → a.crowded ≡ is_crowded w u op → a.unborn ≡ is_unborn w op → CanDo w u op (row (core_at u w) a op)
row_can d n w u a lines (ops.Get class id) s fits crowded unborn =
    unless_can w u (ops.Get class id) a.crowded too_many_holdings (omega arith) (λ e. at_most (held_count (holdings_of u w.holdings)) most_holdings (AreHoldings.few (s.holdings u)) (sym crowded ∙ e))
row_can d n w u a lines (ops.Free class id) s fits crowded unborn = (tt, rc_small a.found 4 (omega arith))
row_can d n w u a lines (ops.Link prog) s fits crowded unborn =
    unless_can w u (ops.Link prog) (has_full_bracket (Core.blocks (core_at u w))) too_many_blocks (omega arith) (λ e. leb-false most_blocks (length (newest_bracket (Core.blocks (core_at u w)))) e)
row_can d n w u a lines ops.Return s fits crowded unborn = return_can w u (has_one_block (Core.blocks (core_at u w))) refl
row_can d n w u a lines (ops.Abend code reason dump step) s fits crowded unborn =
    let ab = both_true (is_abend_code code) (is_reason reason) fits in (abend_code code ab.0, reason_code reason ab.1)
row_can d n w u a lines (ops.EstaexCt prog term cancel xctl) s fits crowded unborn =
    estae_can w u prog term cancel xctl (is_deepest (Core.levels (core_at u w))) refl (IsCoreSound.estaes_few (s.cores u))
row_can d n w u a lines (ops.EstaexOv prog term cancel xctl) s fits crowded unborn = (tt, rc_small _ 8 (omega arith))
row_can d n w u a lines ops.EstaexZero s fits crowded unborn = (tt, rc_small _ 8 (omega arith))
row_can d n w u a lines (ops.FrrAdd prog) s fits crowded unborn = frr_can w u prog (is_deepest (Core.levels (core_at u w))) refl (IsCoreSound.frrs_few (s.cores u))
row_can d n w u a lines ops.FrrDelete s fits crowded unborn = (tt, rc_small _ 4 (omega arith))
row_can d n w u a lines (ops.FrrReplace prog) s fits crowded unborn = (tt, rc_small _ 4 (omega arith))
row_can d n w u a lines (ops.Attachx unit estai term) s fits crowded unborn = (λ e. born_if w unit a.unborn unborn e, rc_small a.unborn 8 (omega arith))
row_can d n w u a lines (ops.Detach unit stae) s fits crowded unborn = detach_can w u unit stae a.own a.fate
row_can d n w u a lines (ops.Abterm unit code reason dump retry) s fits crowded unborn = (tt, fate_small a.fate)
row_can d n w u a lines (ops.MgrAdd prog space) s fits crowded unborn =
    unless_can w u (ops.MgrAdd prog space) a.crowded too_many_managers (omega arith) (λ e. at_most (length w.managers) most_managers s.managers_few (sym crowded ∙ e))
row_can d n w u a lines (ops.MgrDelete prog space) s fits crowded unborn = (tt, rc_small a.found 4 (omega arith))
row_can d n w u a lines (ops.Schedule unit) s fits crowded unborn = (λ e. born_if w unit a.unborn unborn e, rc_small a.unborn 8 (omega arith))
row_can d n w u a lines (ops.Wait event) s fits crowded unborn = waits_can w u (ops.Wait event) a.found tt
row_can d n w u a lines (ops.WaitTask unit) s fits crowded unborn = waits_can w u (ops.WaitTask unit) a.found tt
row_can d n w u a lines (ops.Post event) s fits crowded unborn = (tt, if_small a.found 4 0 (omega arith) (omega arith))
row_can d n w u a lines (ops.IfCode code label) s fits crowded unborn = (tt, if_small (option_map_or (λ r. same_code r.code code) (record_in (Core.levels (core_at u w))) false) 4 0 (omega arith) (omega arith))
row_can d n w u a lines (ops.IfClup label) s fits crowded unborn = (tt, if_small (option_map_or (λ r. r.flags.clup) (record_in (Core.levels (core_at u w))) false) 4 0 (omega arith) (omega arith))
row_can d n w u a lines (ops.IfPerc label) s fits crowded unborn = (tt, if_small (option_map_or (λ r. r.flags.perc) (record_in (Core.levels (core_at u w))) false) 4 0 (omega arith) (omega arith))
row_can d n w u a lines _ s fits crowded unborn = (tt, omega arith)

-- what a card does can be made
pub can_do : (d : DeckView) (n : ℕ) (w : World) (u : ℕ) (a : Surroundings) (lines : List Line) (op : Op) → IsSound d n w → IsTrue (is_op d lines op) → a.crowded ≡ is_crowded w u op → a.unborn ≡ is_unborn w op → CanDo w u op (outcome (core_at u w) a op)
can_do d n w u a lines op s fits crowded unborn =
    by_mode w u op (mode_error (core_at u w) a op) (row (core_at u w) a op) (mode_code (core_at u w) a op) (row_can d n w u a lines op s fits crowded unborn)
