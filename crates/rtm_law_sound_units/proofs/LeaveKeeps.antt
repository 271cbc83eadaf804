-- A routine that is left leaves its unit's control blocks sound: its bracket is closed, the routine is gone or stays,
-- and a retry cuts the error's bracket.
use Rattle.std.proofs.Common.{◌≡◌, ℕ, ◌+◌, ◌≤◌, Bool, true, false, ◌&&◌, List, length, Option, Some, sym, subst, arith}
use Rattle.std.specs.Prelude.{filter, if◌then◌else◌, nat_le, not, ◌==◌}
use Rattle.std.specs.List.{AllByRecursion}
use Rattle.rtm_deck_items.specs.View.{DeckView}
use Rattle.rtm_model.specs.declared.block.Block.{Block}
use Rattle.rtm_model.specs.declared.block.Place.{Place}
use Rattle.rtm_model.specs.declared.entry.Verdict.{Verdict}
use Rattle.rtm_model.specs.declared.entry.Verdict.TheVariants as verdicts
use Rattle.rtm_model.specs.declared.reg.Kind.{Kind}
use Rattle.rtm_model.specs.declared.reg.Kind.TheVariants.{Estae, Frr}
use Rattle.rtm_model.specs.declared.reg.Reg.{Reg}
use Rattle.rtm_model.specs.inner.Applies.{RetriesAt}
use Rattle.rtm_model.specs.Limits.{most_estaes, most_frrs}
use Rattle.rtm_model.specs.OwnChange.{after_retry, estais_left, is_estae, is_gone_after, with_bracket_closed, with_retry, with_routine_left, without_routine}
use Rattle.rtm_model.specs.Blocks.{cut_to, with_place, without_bracket}
use Rattle.rtm_model.specs.Chains.{is_of_depth, without_depth}
use Rattle.rtm_model.specs.Levels.{Bracket, after_leave, current, depth_in, is_frr, record_in}
use Rattle.rtm_model.specs.NextEntry.{retry_birth}
use Rattle.rtm_model.specs.Record.{is_estai}
use Rattle.rtm_model.specs.inner.Soundness.{HasOwner, IsCoreSound, IsPlace, IsRoutine}
use Rattle.rtm_model.specs.World.{Core}
use Rattle.rtm_model.proofs.Levels.{quiet_left}
use Rattle.rtm_model.proofs.Lists.{AllByRecursion-filter, length-filter-le}
use Rattle.rtm_law_sound_units.proofs.Lists.{all_by2, all_kept}
use Rattle.rtm_law_sound_units.proofs.Nesting.{left_length, left_level}
use Rattle.rtm_law_sound_units.proofs.Owners.{owner_closed, owner_cut, owner_placed}
use Rattle.rtm_law_sound_units.proofs.Parts.{AreEstais, HasChains, IsChain, brackets_of, chain_filter, chains_of, end_of, estais_filter, estais_of, levels_of, made_of}
use Rattle.rtm_law_sound_units.proofs.RequestBlocks.{closed_blocks, cut, placed}
use Rattle.rtm_law_sound_units.proofs.Routines.{all_shallow, fall_closed}

-- the bracket is closed
chain_closed : (d : DeckView) (kind : Kind) (most n k : ℕ) (regs : List Reg) → IsChain d kind most n (k + 1) regs → IsChain d kind most n k (without_depth (k + 1) regs)
chain_closed d kind most n k regs c = record {
  few = omega (arith, length-filter-le (λ reg. not (is_of_depth (k + 1) reg)) regs, c.few);
  each = AllByRecursion-filter (IsRoutine d kind) (λ reg. not (is_of_depth (k + 1) reg)) regs c.each;
  fall = fall_closed n k regs c.fall;
}

chains_closed : (d : DeckView) (n k : ℕ) (blocks : List (List Block)) (frrs estaes : List Reg) → HasChains d n (k + 1) blocks frrs estaes → HasChains d n k (without_bracket blocks) (without_depth (k + 1) frrs) (without_depth (k + 1) estaes)
chains_closed d n k blocks frrs estaes c =
    let e = chain_closed d Estae most_estaes n k estaes c.estaes_are in
    record {
      frrs_are = chain_closed d Frr most_frrs n k frrs c.frrs_are;
      estaes_are = e;
      owned = all_by2 (λ (reg : Reg). reg.depth ≤ k) (HasOwner (k + 1) blocks) (HasOwner k (without_bracket blocks))
          (λ reg shallow h. owner_closed k blocks reg shallow h) (without_depth (k + 1) estaes)
          (all_shallow n k (without_depth (k + 1) estaes) e.fall)
          (AllByRecursion-filter (HasOwner (k + 1) blocks) (λ reg. not (is_of_depth (k + 1) reg)) estaes c.owned);
    }

closed_at : (d : DeckView) (n k depth : ℕ) (blocks : List (List Block)) (frrs estaes : List Reg) → depth ≡ k + 1 → HasChains d n depth blocks frrs estaes → HasChains d n k (without_bracket blocks) (without_depth depth frrs) (without_depth depth estaes)
closed_at d n k depth blocks frrs estaes e c =
    subst (λ (j : ℕ). HasChains d n k (without_bracket blocks) (without_depth j frrs) (without_depth j estaes)) (sym e)
    (chains_closed d n k blocks frrs estaes (subst (λ (j : ℕ). HasChains d n j blocks frrs estaes) e c))

one_less : (v : Verdict) (ls : List Bracket) → 2 ≤ length ls → depth_in ls ≡ depth_in (after_leave v ls) + 1
one_less v ls h = let e = left_length v ls h in omega arith

closed_kept : (d : DeckView) (n : ℕ) (v : Verdict) (c : Core) → 2 ≤ length c.levels → IsCoreSound d n c → IsCoreSound d n (with_bracket_closed v c)
closed_kept d n v c inner s =
    made_of d n (with_bracket_closed v c) (left_level n v c.levels inner (levels_of d n c s)) (closed_blocks d n c.blocks (brackets_of d n c s))
    (closed_at d n (depth_in (after_leave v c.levels)) (depth_in c.levels) c.blocks c.frrs c.estaes (one_less v c.levels inner) (chains_of d n c s))
    (estais_of d n c s) (record { codes = s.begun; quiet = λ h. quiet_left v c.levels (s.ending_quiet h) })

-- the routine is gone, or stays
chain_if : (d : DeckView) (kind : Kind) (most n depth : ℕ) (b : Bool) (p : Reg → Bool) (regs : List Reg) → IsChain d kind most n depth regs → IsChain d kind most n depth (if b then filter p regs else regs)
chain_if d kind most n depth true p regs c = chain_filter d kind most n depth p regs c
chain_if d kind most n depth false p regs c = c

owned_if : (depth : ℕ) (blocks : List (List Block)) (b : Bool) (p : Reg → Bool) (regs : List Reg) → AllByRecursion (HasOwner depth blocks) regs → AllByRecursion (HasOwner depth blocks) (if b then filter p regs else regs)
owned_if depth blocks true p regs h = AllByRecursion-filter (HasOwner depth blocks) p regs h
owned_if depth blocks false p regs h = h

estais_if : (d : DeckView) (n : ℕ) (b : Bool) (p : Reg → Bool) (regs : List Reg) → AreEstais d n regs → AreEstais d n (if b then filter p regs else regs)
estais_if d n true p regs e = estais_filter d n p regs e
estais_if d n false p regs e = e

estais_by : (d : DeckView) (n : ℕ) (v : Verdict) (gone : Bool) (kind : Kind) (born : ℕ) (regs : List Reg) → AreEstais d n regs → AreEstais d n (estais_left v gone kind born regs)
estais_by d n verdicts.Stop gone kind born regs e = record { each = tt; fall = tt }
estais_by d n _ gone kind born regs e = estais_if d n (gone && is_estai kind) (λ reg. not (reg.born == born)) regs e

routine_kept : (d : DeckView) (n : ℕ) (v : Verdict) (gone : Bool) (kind : Kind) (born : ℕ) (c : Core) → IsCoreSound d n c → IsCoreSound d n (without_routine v gone kind born c)
routine_kept d n v gone kind born c s =
    let k = chains_of d n c s in
    let p = λ (reg : Reg). not (reg.born == born) in
    made_of d n (without_routine v gone kind born c) (levels_of d n c s) (brackets_of d n c s)
    (record {
      frrs_are = chain_if d Frr most_frrs n (depth_in c.levels) (gone && is_frr kind) p c.frrs k.frrs_are;
      estaes_are = chain_if d Estae most_estaes n (depth_in c.levels) (gone && is_estae kind) p c.estaes k.estaes_are;
      owned = owned_if (depth_in c.levels) c.blocks (gone && is_estae kind) p c.estaes k.owned;
    })
    (estais_by d n v gone kind born c.estais (estais_of d n c s)) (end_of d n c s)

-- a retry
retried_kept : (d : DeckView) (n : ℕ) (place : Place) (born : ℕ) (c : Core) → IsPlace d place → IsCoreSound d n c → IsCoreSound d n (with_retry place born c)
retried_kept d n place born c p s =
    let k = chains_of d n c s in
    let older = λ (reg : Reg). nat_le reg.owner born in
    made_of d n (with_retry place born c) (levels_of d n c s) (placed d n place (cut_to born c.blocks) p (cut d n born c.blocks (brackets_of d n c s)))
    (record {
      frrs_are = k.frrs_are;
      estaes_are = chain_filter d Estae most_estaes n (depth_in c.levels) older c.estaes k.estaes_are;
      owned = all_kept (HasOwner (depth_in c.levels) c.blocks) (HasOwner (depth_in c.levels) (with_place place (cut_to born c.blocks))) older
          (λ reg h e. owner_placed (depth_in c.levels) place (cut_to born c.blocks) reg (owner_cut (depth_in c.levels) (n + 1) born c.blocks reg s.births e h)) c.estaes k.owned;
    })
    (estais_of d n c s) (end_of d n c s)

retry_kept : (d : DeckView) (n : ℕ) (v : Verdict) (o : Option Reg) (c : Core) → RetriesAt d v → IsCoreSound d n c → IsCoreSound d n (after_retry v o c)
retry_kept d n (verdicts.Retry place) (Some reg) c p s = retried_kept d n place (retry_birth reg c.blocks) c p s
retry_kept d n _ o c p s = s

-- the routine is left
pub left_kept : (d : DeckView) (n : ℕ) (kind : Kind) (born : ℕ) (v : Verdict) (c : Core) → 2 ≤ length c.levels → RetriesAt d v → IsCoreSound d n c → IsCoreSound d n (with_routine_left kind born v c)
left_kept d n kind born v c inner p s =
    retry_kept d n v (current c.levels) (without_routine v (is_gone_after v (record_in c.levels)) kind born (with_bracket_closed v c)) p
    (routine_kept d n v (is_gone_after v (record_in c.levels)) kind born (with_bracket_closed v c) (closed_kept d n v c inner s))
