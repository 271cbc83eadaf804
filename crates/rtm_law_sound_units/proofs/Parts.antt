-- The parts of a unit's own control blocks, and what a change of one of them leaves.
use Rattle.std.proofs.Common.{ℕ, ◌+◌, ◌≤◌, Bool, List, length, Option, arith}
use Rattle.std.specs.Prelude.{IfSome, IsSome, filter}
use Rattle.std.specs.List.{AllByRecursion}
use Rattle.rtm_codes.specs.Code.{IsInRange}
use Rattle.rtm_deck_items.specs.View.{DeckView}
use Rattle.rtm_model.specs.declared.block.Block.{Block}
use Rattle.rtm_model.specs.declared.block.Place.{Place}
use Rattle.rtm_model.specs.declared.reg.Kind.{Kind}
use Rattle.rtm_model.specs.declared.reg.Kind.TheVariants.{Estae, Estai, Frr}
use Rattle.rtm_model.specs.declared.reg.Reg.{Reg}
use Rattle.rtm_model.specs.Limits.{most_estaes, most_frrs}
use Rattle.rtm_model.specs.OwnChange.{move_to}
use Rattle.rtm_model.specs.Blocks.{with_place}
use Rattle.rtm_model.specs.Levels.{Bracket, depth_in}
use Rattle.rtm_model.specs.inner.Soundness.{HasOwner, IsCoreSound, IsPlace, IsRecord, IsRoutine, OutermostQuiet, RoutinesFall}
use Rattle.rtm_model.specs.World.{Beginning, Core}
use Rattle.rtm_model.proofs.Lists.{AllByRecursion-filter, all_by, length-filter-le}
use Rattle.rtm_law_sound_units.proofs.Nesting.{AreLevels, levels_later}
use Rattle.rtm_law_sound_units.proofs.Owners.{owner_placed}
use Rattle.rtm_law_sound_units.proofs.RequestBlocks.{AreBrackets, blocks_kept, placed}
use Rattle.rtm_law_sound_units.proofs.Routines.{fall_filter, fall_later}

-- the routines of a kind that a unit has after n entries, where its innermost bracket has that depth
pub record IsChain (d : DeckView) (kind : Kind) (most n depth : ℕ) (regs : List Reg) : Type 0 where
  pub few : length regs ≤ most
  pub each : AllByRecursion (IsRoutine d kind) regs
  pub fall : RoutinesFall n depth regs

pub record HasChains (d : DeckView) (n depth : ℕ) (blocks : List (List Block)) (frrs estaes : List Reg) : Type 0 where
  pub frrs_are : IsChain d Frr most_frrs n depth frrs
  pub estaes_are : IsChain d Estae most_estaes n depth estaes
  pub owned : AllByRecursion (HasOwner depth blocks) estaes

abbrev pub HasBegun : Option Beginning → Type 0
HasBegun begun = IfSome begun (λ b. IsInRange b.code × IfSome b.cause IsRecord)

pub record EndsWell (begun : Option Beginning) (levels : List Bracket) : Type 0 where
  pub codes : HasBegun begun
  pub quiet : IsSome begun → OutermostQuiet levels

pub record AreEstais (d : DeckView) (n : ℕ) (estais : List Reg) : Type 0 where
  pub each : AllByRecursion (IsRoutine d Estai) estais
  pub fall : RoutinesFall n 0 estais

pub levels_of : (d : DeckView) (n : ℕ) (c : Core) → IsCoreSound d n c → AreLevels n c.levels
levels_of d n c s = record { some = s.levels_some; few = s.levels_few; nested = s.nested; routines = s.routines; records = s.records }

pub brackets_of : (d : DeckView) (n : ℕ) (c : Core) → IsCoreSound d n c → AreBrackets d n c.blocks
brackets_of d n c s = record { each = s.brackets; births = s.births }

pub chains_of : (d : DeckView) (n : ℕ) (c : Core) → IsCoreSound d n c → HasChains d n (depth_in c.levels) c.blocks c.frrs c.estaes
chains_of d n c s = record {
  frrs_are = record { few = s.frrs_few; each = s.frrs; fall = s.frrs_fall };
  estaes_are = record { few = s.estaes_few; each = s.estaes; fall = s.estaes_fall };
  owned = s.owned;
}

pub estais_of : (d : DeckView) (n : ℕ) (c : Core) → IsCoreSound d n c → AreEstais d n c.estais
estais_of d n c s = record { each = s.estais; fall = s.estais_fall }

pub end_of : (d : DeckView) (n : ℕ) (c : Core) → IsCoreSound d n c → EndsWell c.begun c.levels
end_of d n c s = record { codes = s.begun; quiet = s.ending_quiet }

-- sound parts make sound control blocks
pub made_of : (d : DeckView) (n : ℕ) (c : Core) → AreLevels n c.levels → AreBrackets d n c.blocks → HasChains d n (depth_in c.levels) c.blocks c.frrs c.estaes → AreEstais d n c.estais → EndsWell c.begun c.levels → IsCoreSound d n c
made_of d n c l b h e g = record {
  levels_some = l.some;
  levels_few = l.few;
  nested = l.nested;
  routines = l.routines;
  records = l.records;
  brackets = b.each;
  births = b.births;
  frrs_few = h.frrs_are.few;
  frrs = h.frrs_are.each;
  frrs_fall = h.frrs_are.fall;
  estaes_few = h.estaes_are.few;
  estaes = h.estaes_are.each;
  estaes_fall = h.estaes_are.fall;
  owned = h.owned;
  estais = e.each;
  estais_fall = e.fall;
  begun = g.codes;
  ending_quiet = g.quiet;
}

pub chain_later : (d : DeckView) (kind : Kind) (most n m depth : ℕ) (regs : List Reg) → n ≤ m → IsChain d kind most n depth regs → IsChain d kind most m depth regs
chain_later d kind most n m depth regs h c = record { few = c.few; each = c.each; fall = fall_later n m depth depth regs h (omega arith) c.fall }

pub chains_later : (d : DeckView) (n m depth : ℕ) (blocks : List (List Block)) (frrs estaes : List Reg) → n ≤ m → HasChains d n depth blocks frrs estaes → HasChains d m depth blocks frrs estaes
chains_later d n m depth blocks frrs estaes h c = record {
  frrs_are = chain_later d Frr most_frrs n m depth frrs h c.frrs_are;
  estaes_are = chain_later d Estae most_estaes n m depth estaes h c.estaes_are;
  owned = c.owned;
}

pub estais_later : (d : DeckView) (n m : ℕ) (regs : List Reg) → n ≤ m → AreEstais d n regs → AreEstais d m regs
estais_later d n m regs h e = record { each = e.each; fall = fall_later n m 0 0 regs h (omega arith) e.fall }

-- a later moment
pub later : (d : DeckView) (n : ℕ) (c : Core) → IsCoreSound d n c → IsCoreSound d (n + 1) c
later d n c s =
    let h : n ≤ n + 1 = omega arith in
    made_of d (n + 1) c (levels_later n (n + 1) c.levels h (levels_of d n c s)) (blocks_kept d n (n + 1) c.blocks h (brackets_of d n c s))
    (chains_later d n (n + 1) (depth_in c.levels) c.blocks c.frrs c.estaes h (chains_of d n c s))
    (estais_later d n (n + 1) c.estais h (estais_of d n c s)) (end_of d n c s)

-- some of a chain taken out by a test
pub chain_filter : (d : DeckView) (kind : Kind) (most n depth : ℕ) (p : Reg → Bool) (regs : List Reg) → IsChain d kind most n depth regs → IsChain d kind most n depth (filter p regs)
chain_filter d kind most n depth p regs c = record {
  few = omega (arith, length-filter-le p regs, c.few);
  each = AllByRecursion-filter (IsRoutine d kind) p regs c.each;
  fall = fall_filter p n depth regs c.fall;
}

pub estais_filter : (d : DeckView) (n : ℕ) (p : Reg → Bool) (regs : List Reg) → AreEstais d n regs → AreEstais d n (filter p regs)
estais_filter d n p regs e = record { each = AllByRecursion-filter (IsRoutine d Estai) p regs e.each; fall = fall_filter p n 0 regs e.fall }

-- the innermost bracket's newest request block at another place
pub chains_placed : (d : DeckView) (n depth : ℕ) (place : Place) (blocks : List (List Block)) (frrs estaes : List Reg) → HasChains d n depth blocks frrs estaes → HasChains d n depth (with_place place blocks) frrs estaes
chains_placed d n depth place blocks frrs estaes c = record {
  frrs_are = c.frrs_are;
  estaes_are = c.estaes_are;
  owned = all_by (HasOwner depth blocks) (HasOwner depth (with_place place blocks)) (λ reg h. owner_placed depth place blocks reg h) estaes c.owned;
}

pub moved : (d : DeckView) (n : ℕ) (place : Place) (c : Core) → IsPlace d place → IsCoreSound d n c → IsCoreSound d n (move_to place c)
moved d n place c p s =
    made_of d n (move_to place c) (levels_of d n c s) (placed d n place c.blocks p (brackets_of d n c s))
    (chains_placed d n (depth_in c.levels) place c.blocks c.frrs c.estaes (chains_of d n c s)) (estais_of d n c s) (end_of d n c s)
