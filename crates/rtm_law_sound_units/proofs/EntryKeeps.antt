-- Any entry that can be applied leaves its unit's own control blocks sound.
use Rattle.std.proofs.Common.{◌≡◌, ℕ, ◌+◌, ◌-◌, ◌<◌, ◌≤◌, Bool, List, [], length, Some, refl, sym, subst, ap, arith}
use Rattle.std.specs.Prelude.{IsSome, is_some, not}
use Rattle.rtm_codes.specs.declared.code.Code.{Code}
use Rattle.rtm_codes.specs.Code.{IsInRange}
use Rattle.rtm_deck_items.specs.View.{DeckView}
use Rattle.rtm_model.specs.declared.abort.Abort.{Abort}
use Rattle.rtm_model.specs.declared.block.Block.{Block}
use Rattle.rtm_model.specs.declared.error_record.ErrorRecord.{ErrorRecord}
use Rattle.rtm_model.specs.declared.reg.Reg.{Reg}
use Rattle.rtm_model.specs.Limits.{most_brackets}
use Rattle.rtm_model.specs.Births.{block_birth}
use Rattle.rtm_model.specs.OwnChange.{after_begin, with_error, with_landed, with_routine_entered}
use Rattle.rtm_model.specs.Advance.{purged_core}
use Rattle.rtm_model.specs.Blocks.{with_bracket}
use Rattle.rtm_model.specs.Levels.{after_enter, depth_in, error_in, is_manager, with_open}
use Rattle.rtm_model.specs.NextEntry.{landed_record}
use Rattle.rtm_model.specs.inner.Soundness.{HasOwner, IsAbort, IsCoreSound, IsRecord}
use Rattle.rtm_model.specs.World.{Core, born_core, unborn_unit, UnitOfWork}
use Rattle.rtm_model.proofs.Levels.{length_innermost, quiet_entered, quiet_innermost}
use Rattle.rtm_law_sound_units.proofs.Lists.{all_by2}
use Rattle.rtm_law_sound_units.proofs.Nesting.{entered_level, innermost_changed, open_record, outermost_level}
use Rattle.rtm_law_sound_units.proofs.Owners.{owner_opened}
use Rattle.rtm_law_sound_units.proofs.Parts.{AreEstais, HasChains, brackets_of, chains_of, end_of, estais_of, later, levels_of, made_of}
use Rattle.rtm_law_sound_units.proofs.Records.{landed_error}
use Rattle.rtm_law_sound_units.proofs.RequestBlocks.{AreBrackets, opened}
use Rattle.rtm_law_sound_units.proofs.Routines.{all_shallow, fall_later}

-- an error is open in the innermost bracket
pub error_kept : (d : DeckView) (n : ℕ) (r : ErrorRecord) (c : Core) → IsRecord r → (IsSome c.begun → 2 ≤ length c.levels) → IsCoreSound d n c → IsCoreSound d n (with_error r c)
error_kept d n r c h inner s =
    let same = length_innermost (with_open (Some r)) c.levels in
    made_of d n (with_error r c) (innermost_changed n (Some r) c.levels h (levels_of d n c s)) (brackets_of d n c s)
    (subst (λ (depth : ℕ). HasChains d n depth c.blocks c.frrs c.estaes) (sym (ap (λ (k : ℕ). k - 1) same)) (chains_of d n c s))
    (estais_of d n c s) (record { codes = s.begun; quiet = λ b. quiet_innermost (with_open (Some r)) c.levels (inner b) (s.ending_quiet b) })

-- an abort has landed
pub landed_kept : (d : DeckView) (n m : ℕ) (abort : Abort) (c : Core) → IsAbort m abort → (IsSome c.begun → ⊥) → IsCoreSound d n c → IsCoreSound d n (with_landed (Some abort) c)
landed_kept d n m abort c h stands s =
    let t = error_kept d n (landed_record abort) c (landed_error abort h.code h.reason) (λ b. absurd (stands b)) s in
    made_of d n (with_landed (Some abort) c) (levels_of d n (with_error (landed_record abort) c) t) (brackets_of d n (with_error (landed_record abort) c) t)
    (chains_of d n (with_error (landed_record abort) c) t) (estais_of d n (with_error (landed_record abort) c) t) (end_of d n (with_error (landed_record abort) c) t)

-- a routine is entered
deeper_chain : (d : DeckView) (n k : ℕ) (blocks : List (List Block)) (born prog : ℕ) (frrs estaes : List Reg) → HasChains d n k blocks frrs estaes → HasChains d (n + 1) (k + 1) (with_bracket born prog blocks) frrs estaes
deeper_chain d n k blocks born prog frrs estaes c =
    record {
      frrs_are = record { few = c.frrs_are.few; each = c.frrs_are.each; fall = fall_later n (n + 1) k (k + 1) frrs (omega arith) (omega arith) c.frrs_are.fall };
      estaes_are = record { few = c.estaes_are.few; each = c.estaes_are.each; fall = fall_later n (n + 1) k (k + 1) estaes (omega arith) (omega arith) c.estaes_are.fall };
      owned = all_by2 (λ (reg : Reg). reg.depth ≤ k) (HasOwner k blocks) (HasOwner (k + 1) (with_bracket born prog blocks))
          (λ reg shallow h. owner_opened k born prog blocks reg shallow h) estaes (all_shallow n k estaes c.estaes_are.fall) c.owned;
    }

pub entered_kept : (d : DeckView) (n : ℕ) (reg : Reg) (bare : Bool) (c : Core) → length c.levels < most_brackets → is_some (error_in c.levels) ≡ not (is_manager reg.kind) → reg.prog < length d.programs → reg.born < n + 1
    → IsCoreSound d n c → IsCoreSound d (n + 1) (with_routine_entered n bare (Some reg) c)
entered_kept d n reg bare c room cause prog born s =
    let t = later d n c s in
    let one_more : depth_in c.levels + 1 ≡ depth_in (after_enter reg bare c.levels) = omega (arith, s.levels_some) in
    made_of d (n + 1) (with_routine_entered n bare (Some reg) c) (entered_level (n + 1) reg bare c.levels room cause born (levels_of d (n + 1) c t))
    (opened d n reg.prog c.blocks prog (brackets_of d n c s))
    (subst (λ (depth : ℕ). HasChains d (n + 1) depth (with_bracket (block_birth n) reg.prog c.blocks) c.frrs c.estaes) one_more (deeper_chain d n (depth_in c.levels) c.blocks (block_birth n) reg.prog c.frrs c.estaes (chains_of d n c s)))
    (estais_of d (n + 1) c t) (record { codes = t.begun; quiet = λ b. quiet_entered reg bare c.levels (t.ending_quiet b) })

-- nothing is left of what an end takes away
no_chains : (d : DeckView) (n depth : ℕ) → HasChains d n depth [] [] []
no_chains d n depth = record {
  frrs_are = record { few = omega arith; each = tt; fall = tt };
  estaes_are = record { few = omega arith; each = tt; fall = tt };
  owned = tt;
}

-- the unit begins to end
pub ending_kept : (d : DeckView) (n : ℕ) (code : Code) (c : Core) → IsInRange code → IsCoreSound d n c → IsCoreSound d n (after_begin code c)
ending_kept d n code c h s =
    made_of d n (after_begin code c) (outermost_level n) (record { each = tt; births = tt }) (no_chains d n 0) (record { each = tt; fall = tt }) (record { codes = (h, open_record n c.levels (levels_of d n c s)); quiet = λ b. refl })

-- it is purged
pub purged_kept : (d : DeckView) (n : ℕ) (c : Core) → IsCoreSound d n c → IsCoreSound d n (purged_core c)
purged_kept d n c s = made_of d n (purged_core c) (outermost_level n) (record { each = tt; births = tt }) (no_chains d n 0) (record { each = tt; fall = tt }) (record { codes = s.begun; quiet = λ b. refl })

-- a unit that isn't born yet, and one that is born
pub unborn_sound : (d : DeckView) (n : ℕ) → IsCoreSound d n (UnitOfWork.core unborn_unit)
unborn_sound d n = made_of d n (UnitOfWork.core unborn_unit) (outermost_level n) (record { each = tt; births = tt }) (no_chains d n 0) (record { each = tt; fall = tt }) (record { codes = tt; quiet = λ b. refl })

alone : (d : DeckView) (n born prog : ℕ) → HasChains d n 0 (with_bracket born prog []) [] []
alone d n born prog = record {
  frrs_are = record { few = omega arith; each = tt; fall = tt };
  estaes_are = record { few = omega arith; each = tt; fall = tt };
  owned = tt;
}

pub born_sound : (d : DeckView) (n born prog : ℕ) (estais : List Reg) → prog < length d.programs → AreBrackets d n (with_bracket born prog []) → AreEstais d n estais → IsCoreSound d n (born_core born prog estais (UnitOfWork.core unborn_unit))
born_sound d n born prog estais h b e = made_of d n (born_core born prog estais (UnitOfWork.core unborn_unit)) (outermost_level n) b (alone d n born prog) e (record { codes = tt; quiet = λ b. refl })
