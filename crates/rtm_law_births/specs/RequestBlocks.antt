-- Births and deaths of request blocks, and the places at which they stand (Assembler Services Reference, LINK and XCTL;
-- Authorized Assembler Services Guide, "Providing recovery"; brackets and places are this profile's).
use Rattle.std.specs.Prelude.{Bool, List, None, Option, Some, [], if◌then◌else◌, length, ℕ, ◌&&◌, ◌+◌, ◌-◌, ◌<◌, ◌==◌, ◌∷◌, ◌≡◌, ◌⊎◌}
use Rattle.std.specs.Option.{option_map_or}
use Rattle.rtm_deck_items.specs.Reading.{job_step, op_at, program_of}
use Rattle.rtm_deck_items.specs.View.{DeckView}
use Rattle.rtm_deck_items.specs.declared.op.Op.{Op}
use Rattle.rtm_deck_items.specs.declared.op.Op.TheVariants.{Attachx, Link, Return, Schedule, Xctl}
use Rattle.rtm_model.specs.declared.block.Block.{Block}
use Rattle.rtm_model.specs.declared.block.Place.{Place}
use Rattle.rtm_model.specs.declared.entry.Entry.{Entry}
use Rattle.rtm_model.specs.declared.entry.Verdict.{Verdict}
use Rattle.rtm_model.specs.declared.entry.Verdict.TheVariants.{Retry}
use Rattle.rtm_model.specs.declared.entry.What.{What}
use Rattle.rtm_model.specs.declared.entry.What.TheVariants.{Begin, Enter, Exec, Leave}
use Rattle.rtm_model.specs.declared.holding.Manager1.{Manager1}
use Rattle.rtm_model.specs.declared.reg.Reg.{Reg}
use Rattle.rtm_model.specs.Births.{block_birth}
use Rattle.rtm_model.specs.OwnChange.{place_after, routine_named}
use Rattle.rtm_model.specs.Advance.{world}
use Rattle.rtm_model.specs.Blocks.{first_place, newest_birth, without_bracket}
use Rattle.rtm_model.specs.Levels.{current, depth_in}
use Rattle.rtm_model.specs.Moments.{IsIn}
use Rattle.rtm_model.specs.NextEntry.{retry_birth}
use Rattle.rtm_model.specs.inner.Soundness.{BracketsFall}
use Rattle.rtm_model.specs.World.{Core, core_at}
use Rattle.rtm_law_births.specs.Life.{HasTheStated, StateTable}
use Rattle.rtm_law_births.specs.Units.{IsPurgeOf}

-- a request block of a unit, in the bracket of that depth: its birth is the index of the entry that makes it, plus one,
-- or 0 where it lives from the start
pub record UnitBlock : Type 0 where
  pub unit : ℕ
  pub depth : ℕ
  pub born : ℕ

-- the request block is one of the bracket of that depth, of so many brackets
abbrev pub IsBlockAt : ℕ → ℕ → Block → List (List Block) → Type 0
IsBlockAt count depth block [] = ⊥
IsBlockAt count depth block (blocks ∷ outer) =
    ((depth + 1 ≡ count) × IsIn block blocks) ⊎ IsBlockAt (count - 1) depth block outer

-- LINK makes one in the innermost bracket
abbrev pub CardMakes : ℕ → Core → ℕ → Op → ℕ → ℕ → Place → Type 0
CardMakes n c rc (Link prog) depth born place =
    (rc ≡ 0) × (depth ≡ depth_in c.levels) × (born ≡ block_birth n) × (place ≡ first_place prog)
CardMakes n c rc _ depth born place = ⊥

-- ENTER makes one in the bracket that it opens
abbrev pub IsFirstOf : Option Reg → Place → Type 0
IsFirstOf None place = ⊥
IsFirstOf (Some routine) place = place ≡ first_place routine.prog

abbrev pub EntryMakes : DeckView → ℕ → Core → List Manager1 → What → ℕ → ℕ → Place → Type 0
EntryMakes d n c managers (Exec at rc) depth born place = CardMakes n c rc (op_at d at.prog at.op) depth born place
EntryMakes d n c managers (Enter kind routine mark bare) depth born place =
    (depth ≡ length c.levels) × (born ≡ block_birth n) × IsFirstOf (routine_named kind routine managers c) place
EntryMakes d n c managers _ depth born place = ⊥

-- the birth of a unit makes its first
pub record IsFirstBlock (d : DeckView) (unit birth : ℕ) (x : UnitBlock) (place : Place) : Type 0 where
  pub unit_is : x.unit ≡ unit
  pub depth_is : x.depth ≡ 0
  pub born_is : x.born ≡ birth
  pub place_is : place ≡ first_place (program_of d unit)

abbrev pub BirthMakes : DeckView → ℕ → ℕ → Op → UnitBlock → Place → Type 0
BirthMakes d n rc (Attachx unit estai term) x place = (rc ≡ 0) × IsFirstBlock d unit (block_birth n) x place
BirthMakes d n rc (Schedule unit) x place = (rc ≡ 0) × IsFirstBlock d unit (block_birth n) x place
BirthMakes d n rc _ x place = ⊥

abbrev pub UnitMakes : DeckView → ℕ → What → UnitBlock → Place → Type 0
UnitMakes d n (Exec at rc) x place = BirthMakes d n rc (op_at d at.prog at.op) x place
UnitMakes d n _ x place = ⊥

-- the request block that runs: the newest of the innermost bracket
abbrev pub is_running : Core → ℕ → ℕ → Bool
is_running c depth born = (depth == depth_in c.levels) && (born == newest_birth c.blocks)

abbrev pub IsRunning : Core → ℕ → ℕ → Type 0
IsRunning c depth born = (depth ≡ depth_in c.levels) × (born ≡ newest_birth c.blocks)

-- the birth of the request block under which the routine of the innermost bracket is retried
abbrev pub retried_birth : Core → ℕ
retried_birth c = option_map_or (λ routine. retry_birth routine (without_bracket c.blocks)) (current c.levels) 0

-- RETURN of it is its death
abbrev pub CardKills : Core → Op → ℕ → ℕ → Type 0
CardKills c Return depth born = IsRunning c depth born
CardKills c _ depth born = ⊥

-- so is the LEAVE of its bracket, and a LEAVE with Retry under an older request block of its bracket
abbrev pub VerdictKills : Core → Verdict → ℕ → ℕ → Type 0
VerdictKills c (Retry place) depth born = (depth + 1 ≡ depth_in c.levels) × (retried_birth c < born)
VerdictKills c _ depth born = ⊥

-- and the unit's BEGIN; and its PURGE
abbrev pub EntryKills : DeckView → Core → What → ℕ → ℕ → Type 0
EntryKills d c (Exec at rc) depth born = CardKills c (op_at d at.prog at.op) depth born
EntryKills d c (Leave kind routine verdict logrec dump) depth born =
    (depth ≡ depth_in c.levels) ⊎ VerdictKills c verdict depth born
EntryKills d c (Begin code dump) depth born = Unit {0}
EntryKills d c _ depth born = ⊥

-- The one that runs goes on behind the card, or where the card says; under XCTL at the first operation of the program.
abbrev pub card_moves : DeckView → Place → ℕ → Op → Place → Place
card_moves d at rc (Xctl prog) place = first_place prog
card_moves d at rc Return place = place
card_moves d at rc op place = place_after d at rc op

-- The one under which a routine is retried goes on at the place of the retry.
abbrev pub verdict_moves : Core → Verdict → ℕ → ℕ → Place → Place
verdict_moves c (Retry to) depth born place =
    if (depth + 1 == depth_in c.levels) && (born == retried_birth c) then to else place
verdict_moves c _ depth born place = place

abbrev pub entry_moves : DeckView → Core → What → ℕ → ℕ → Place → Place
entry_moves d c (Exec at rc) depth born place =
    if is_running c depth born then card_moves d at rc (op_at d at.prog at.op) place else place
entry_moves d c (Leave kind routine verdict logrec dump) depth born place = verdict_moves c verdict depth born place
entry_moves d c _ depth born place = place

abbrev pub blocks : StateTable UnitBlock Place
blocks = record {
  has = λ w x place.
      IsBlockAt (length (Core.levels (core_at x.unit w))) x.depth (record { born = x.born; place = place })
      (Core.blocks (core_at x.unit w));
  starts = λ d x place. IsFirstBlock d (job_step d) 0 x place;
  makes = λ d w n e x place.
      ((x.unit ≡ e.unit) × EntryMakes d n (core_at e.unit w) w.managers e.what x.depth x.born place)
      ⊎ UnitMakes d n e.what x place;
  kills = λ d w n e x.
      ((x.unit ≡ e.unit) × EntryKills d (core_at e.unit w) e.what x.depth x.born) ⊎ IsPurgeOf x.unit e.what;
  changes = λ d w n e x place.
      if x.unit == e.unit then entry_moves d (core_at e.unit w) e.what x.depth x.born place else place;
}

-- each bracket's request blocks are those that live, each at its place, newest first; and all are newer than those of
-- the brackets around it
pub record AreTheBlocks (d : DeckView) (history : List Entry) : Type 0 where
  pub living : HasTheStated blocks d history
  pub order : (u : ℕ) → BracketsFall (length history + 1) (Core.blocks (core_at u (world d history)))
