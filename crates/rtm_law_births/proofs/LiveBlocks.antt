-- Births and deaths of request blocks, and their places: each entry, and so a history.
use Rattle.std.proofs.Common.{◌≡◌, ℕ, ◌<◌, ◌≤◌, ◌+◌, ◌-◌, Bool, true, false, ◌&&◌, List, [], ◌∷◌, ◌++◌, length, Option, Some, None, refl, sym, ap, subst, arith, inl, inr, ◌⊎◌, ◌∙◌}
use Rattle.std.proofs.lemmas.Bool.{eqb-false, eqb-true}
use Rattle.std.specs.List.{AllByRecursion}
use Rattle.std.specs.Option.{option_map_or}
use Rattle.std.specs.Prelude.{IsSome, IsSomeAnd, IsTrue, find, if◌then◌else◌, is_some, map, ◌==◌}
use Rattle.rtm_deck_items.specs.Reading.{job_step, op_at, program_of}
use Rattle.rtm_deck_items.specs.View.{DeckView}
use Rattle.rtm_deck_items.specs.WellFormed.{is_well_formed}
use Rattle.rtm_deck_items.specs.declared.op.Op.{Op}
use Rattle.rtm_deck_items.specs.declared.op.Op.TheVariants as ops
use Rattle.rtm_model.specs.declared.block.Block.{Block}
use Rattle.rtm_model.specs.declared.block.Place.{Place}
use Rattle.rtm_model.specs.declared.entry.Entry.{Entry}
use Rattle.rtm_model.specs.declared.entry.Verdict.{Verdict}
use Rattle.rtm_model.specs.declared.entry.Verdict.TheVariants.{Retry}
use Rattle.rtm_model.specs.declared.entry.What.{What}
use Rattle.rtm_model.specs.declared.entry.What.TheVariants as whats
use Rattle.rtm_model.specs.declared.reg.Kind.{Kind}
use Rattle.rtm_model.specs.declared.reg.Reg.{Reg}
use Rattle.rtm_model.specs.Aborts.{abort_named}
use Rattle.rtm_model.specs.inner.Applies.{CanExecute}
use Rattle.rtm_model.specs.Births.{block_birth}
use Rattle.rtm_model.specs.OwnChange.{error_record, is_gone_after, own_entry, routine_named, with_bracket_closed, with_routine_left, without_routine}
use Rattle.rtm_model.specs.Blocks.{has_one_block, is_block_of, newest_bracket, without_bracket}
use Rattle.rtm_model.specs.Legal.{Legal}
use Rattle.rtm_model.specs.Levels.{Bracket, after_leave, after_verdict, current, depth_in, record_in, with_open}
use Rattle.rtm_model.specs.Moments.{before}
use Rattle.rtm_model.specs.NextEntry.{retry_birth}
use Rattle.rtm_model.specs.Surroundings.{surroundings_at}
use Rattle.rtm_model.specs.inner.Soundness.{BracketsFall, IsBracket, IsCoreSound, IsSound}
use Rattle.rtm_model.specs.World.{Core, UnitOfWork, World, at_birth, born_core, core_at, start, unborn_unit, unit_at}
use Rattle.rtm_model.proofs.Levels.{length_innermost}
use Rattle.rtm_model.proofs.Units.{unit_here, unit_there}
use Rattle.rtm_model.proofs.Start.{all_unborn, job_step_in, length-unborn}
use Rattle.rtm_law_births.specs.RequestBlocks.{AreTheBlocks, BirthMakes, EntryKills, EntryMakes, IsBlockAt, IsFirstBlock, UnitBlock, UnitMakes, VerdictKills, blocks, entry_moves, verdict_moves}
use Rattle.rtm_law_births.proofs.BlockEntries.{blocks_after, card, closing, enters, in_turn, landed, opened_error, retold, retry_blocks, retry_there, retry_turns, still, without_fall}
use Rattle.rtm_law_births.proofs.Cards.{NamesUnit, unit_named}
use Rattle.rtm_law_births.proofs.Cores.{BirthOr, no_self, was_unborn}
use Rattle.rtm_law_births.proofs.Errors.{levels_after}
use Rattle.rtm_law_births.proofs.Histories.{before-all}
use Rattle.rtm_law_births.proofs.Living.{IsMade, kept_before}
use Rattle.rtm_law_births.proofs.Outcomes.{IsVerdictOf, outcome_of, row_of, verdict_of}
use Rattle.rtm_law_births.proofs.OwnedStates.{ByBirth, whole_turns}
use Rattle.rtm_law_births.proofs.RequestBlocks.{at_place}
use Rattle.rtm_law_births.proofs.RunningOwners.{HasOwners, OwnerIn, OwnersLive, entry_owners, start_owners}
use Rattle.rtm_law_births.proofs.Sound.{IsSoundHistory}
use Rattle.rtm_law_births.proofs.States.{Changes, Follows, Turns, stated}

-- A routine is left

module _ (count depth born n : ℕ) where
  -- the retry, where a routine runs
  retry_case : (place : Place) (o : Option Reg) (bss : List (List Block)) → BracketsFall n bss → IsSome o
      → ((reg : Reg) → o ≡ Some reg → (obs : List Block) (rest : List (List Block)) → without_bracket bss ≡ obs ∷ rest → is_some (find (is_block_of (retry_birth reg (without_bracket bss))) obs) ≡ true)
      → Turns Place (λ s. IsBlockAt (count - 1) depth (at_place born s) (retry_blocks (Retry place) o (without_bracket bss))) (λ s. IsBlockAt count depth (at_place born s) bss) (λ s. ⊥)
      ((depth + 1 ≡ count) ⊎ ((depth + 1 ≡ count - 1) × (option_map_or (λ routine. retry_birth routine (without_bracket bss)) o 0 < born)))
      (λ s. if (depth + 1 == count - 1) && (born == option_map_or (λ routine. retry_birth routine (without_bracket bss)) o 0) then place else s)
  retry_case place None bss f some there = absurd cc
  retry_case place (Some reg) bss f some there =
      in_turn _ _ _ _ _ _ (closing count depth born bss) (retry_turns (count - 1) depth born n place reg (without_bracket bss) (without_fall n bss f) (there reg refl))

-- the retry's request block is there
pub there_by : (d : DeckView) (place : Place) (ls : List Bracket) (bss : List (List Block)) (reg : Reg) → OwnersLive ls bss → AllByRecursion (IsBracket d) bss → IsVerdictOf reg.kind (Retry place) → current ls ≡ Some reg
    → (obs : List Block) (rest : List (List Block)) → without_bracket bss ≡ obs ∷ rest → is_some (find (is_block_of (retry_birth reg (without_bracket bss))) obs) ≡ true
there_by d place ls [] reg owners all fits e obs rest same = absurd cc
there_by d place ls (bs ∷ []) reg owners all fits e obs rest same = absurd cc
there_by d place [] (bs ∷ obs2 ∷ rest2) reg owners all fits e obs rest same = absurd cc
there_by d place (l ∷ ls) (bs ∷ obs2 ∷ rest2) reg owners all fits e obs rest same =
    let one : obs2 ≡ obs = cc in
    let own : OwnerIn (Some reg) obs2 = subst (λ (o : Option Reg). OwnerIn o obs2) e owners.0 in
    subst (λ (list : List Block). is_some (find (is_block_of (retry_birth reg (obs2 ∷ rest2))) list) ≡ true) one
    (retry_there reg.kind reg.owner obs2 rest2 place fits (IsBracket.some all.1.0) own)

leave_length : (verdict : Verdict) (ls : List Bracket) → length (after_leave verdict ls) ≡ length ls - 1
leave_length verdict [] = omega arith
leave_length verdict (l ∷ ls) = length_innermost (after_verdict verdict l.error) ls ∙ omega arith

pub some_current : (o : Option Reg) (kind : Kind) (born : ℕ) → IsSomeAnd o (λ reg. (reg.kind ≡ kind) × (reg.born ≡ born)) → IsSome o
some_current None kind born h = absurd h
some_current (Some reg) kind born h = refl

pub its_kind : (o : Option Reg) (kind : Kind) (born : ℕ) → IsSomeAnd o (λ reg. (reg.kind ≡ kind) × (reg.born ≡ born)) → (reg : Reg) → o ≡ Some reg → reg.kind ≡ kind
its_kind None kind born h reg e = absurd cc
its_kind (Some x) kind born h reg e = let same : x ≡ reg = cc in subst (λ (y : Reg). y.kind ≡ kind) same h.0

module _ (d : DeckView) (n : ℕ) (c : Core) (sound : IsCoreSound d n c) (owners : HasOwners c) (depth born : ℕ) where
  abbrev HasIt : Core → Place → Type 0
  HasIt k s = IsBlockAt (length k.levels) depth (at_place born s) k.blocks

  -- the bracket alone is closed
  just_closed : (K : Type 0) → ((depth ≡ depth_in c.levels) → K) → (K → depth ≡ depth_in c.levels) → Turns Place (λ s. IsBlockAt (length c.levels - 1) depth (at_place born s) (without_bracket c.blocks)) (HasIt c) (λ s. ⊥) K (λ s. s)
  just_closed K to from = retold _ _ _ _ _ _ _ _ (λ s h. h) (λ s h. h) (λ k. to (omega (arith, k))) (λ k. omega (arith, from k, sound.levels_some)) (λ s. refl) (closing (length c.levels) depth born c.blocks)

  left_list : (verdict : Verdict) (kind : Kind) (routine : ℕ) → IsSomeAnd (current c.levels) (λ reg. (reg.kind ≡ kind) × (reg.born ≡ routine)) → IsVerdictOf kind verdict
      → Turns Place (λ s. IsBlockAt (length c.levels - 1) depth (at_place born s) (retry_blocks verdict (current c.levels) (without_bracket c.blocks))) (HasIt c) (λ s. ⊥)
      ((depth ≡ depth_in c.levels) ⊎ VerdictKills c verdict depth born) (λ s. verdict_moves c verdict depth born s)
  left_list (Retry place) kind routine own fits =
      retold _ _ _ _ _ _ _ _ (λ s h. h) (λ s h. h)
      (λ k. elim k [ inl closed ↦ inl (omega (arith, closed)) | inr cut ↦ inr cut ])
      (λ k. elim k [ inl closed ↦ inl (omega (arith, closed, sound.levels_some)) | inr cut ↦ inr cut ]) (λ s. refl)
      (retry_case (length c.levels) depth born (n + 1) place (current c.levels) c.blocks sound.births (some_current (current c.levels) kind routine own)
      (λ reg e. there_by d place c.levels c.blocks reg owners sound.brackets (subst (λ (k : Kind). IsVerdictOf k (Retry place)) (sym (its_kind (current c.levels) kind routine own reg e)) fits) e))
  left_list _ kind routine own fits = just_closed _ (λ k. inl k) (λ k. elim k [ inl closed ↦ closed | inr none ↦ absurd none ])

  left : (verdict : Verdict) (kind : Kind) (routine : ℕ) → IsSomeAnd (current c.levels) (λ reg. (reg.kind ≡ kind) × (reg.born ≡ routine)) → IsVerdictOf kind verdict
      → Turns Place (HasIt (with_routine_left kind routine verdict c)) (HasIt c) (λ s. ⊥) ((depth ≡ depth_in c.levels) ⊎ VerdictKills c verdict depth born) (λ s. verdict_moves c verdict depth born s)
  left verdict kind routine own fits =
      let inner : Core = without_routine verdict (is_gone_after verdict (record_in c.levels)) kind routine (with_bracket_closed verdict c) in
      let levels : length (Core.levels (with_routine_left kind routine verdict c)) ≡ length c.levels - 1 = ap (λ (ls : List Bracket). length ls) (levels_after verdict (current c.levels) inner) ∙ leave_length verdict c.levels in
      let list : Core.blocks (with_routine_left kind routine verdict c) ≡ retry_blocks verdict (current c.levels) (without_bracket c.blocks) = blocks_after verdict (current c.levels) inner in
      let turns = left_list verdict kind routine own fits in
      record {
        came = λ s h. turns.came s (subst (λ (k : ℕ). IsBlockAt k depth (at_place born s) (retry_blocks verdict (current c.levels) (without_bracket c.blocks))) levels (subst (IsBlockAt (length (Core.levels (with_routine_left kind routine verdict c))) depth (at_place born s)) list h));
        born = λ s h. absurd h;
        stays = λ s h alive.
            subst (IsBlockAt (length (Core.levels (with_routine_left kind routine verdict c))) depth (at_place born (verdict_moves c verdict depth born s))) (sym list)
            (subst (λ (k : ℕ). IsBlockAt k depth (at_place born (verdict_moves c verdict depth born s)) (retry_blocks verdict (current c.levels) (without_bracket c.blocks))) (sym levels) (turns.stays s h alive));
      }

-- Each entry

one_block : (w : World) (u rc : ℕ) (op : Op) → CanExecute w u rc op → op ≡ ops.Return → has_one_block (Core.blocks (core_at u w)) ≡ false
one_block w u rc op can e = subst (λ (o : Op). CanExecute w u rc o) e can

module _ (d : DeckView) (w : World) (n u : ℕ) (x : UnitBlock) (owners : (v : ℕ) → HasOwners (core_at v w)) where
  abbrev HasX : Core → Place → Type 0
  HasX k s = IsBlockAt (length k.levels) x.depth (at_place x.born s) k.blocks

  same_if : (b : Bool) (s : Place) → (if b then s else s) ≡ s
  same_if true s = refl
  same_if false s = refl

  by_own : (what : What) → IsMade d w n (record { unit = u; what = what })
      → Turns Place (HasX (own_entry d n w.managers (UnitOfWork.pending (unit_at u w.units)) what (core_at u w))) (HasX (core_at u w))
      (EntryMakes d n (core_at u w) w.managers what x.depth x.born) (EntryKills d (core_at u w) what x.depth x.born) (entry_moves d (core_at u w) what x.depth x.born)
  by_own (whats.Exec at rc) m =
      let op : Op = op_at d at.prog at.op in
      card d n (core_at u w) (IsSound.cores m.sound u) x.depth x.born w u rc at op
      (row_of (core_at u w) (surroundings_at d w u op) op rc (outcome_of d w u (whats.Exec at rc) m.may)) refl m.can.what.0.some (one_block w u rc op m.can.what.1)
  by_own (whats.Error at mark) m = opened_error d n (core_at u w) (IsSound.cores m.sound u) x.depth x.born (with_open (Some (error_record (Core.doomed (core_at u w)) mark (op_at d at.prog at.op))))
  by_own (whats.Land class from mark) m = landed d n (core_at u w) (IsSound.cores m.sound u) x.depth x.born (abort_named class from (UnitOfWork.pending (unit_at u w.units)))
  by_own (whats.Enter kind reg mark bare) m = enters d n (core_at u w) (IsSound.cores m.sound u) x.depth x.born bare (routine_named kind reg w.managers (core_at u w))
  by_own (whats.Leave kind reg verdict logrec dump) m =
      left d n (core_at u w) (IsSound.cores m.sound u) (owners u) x.depth x.born verdict kind reg m.can.what.own
      (verdict_of d (core_at u w) kind verdict (IsCoreSound.nested (IsSound.cores m.sound u)) (outcome_of d w u (whats.Leave kind reg verdict logrec dump) m.may))
  by_own (whats.Begin code dump) m = record {
    came = λ s h. absurd h;
    born = λ s h. absurd h;
    stays = λ s h alive. absurd (alive tt);
  }
  by_own _ m = still (HasX (core_at u w))

  -- a unit is born
  first_block : (unit birth : ℕ) (after before : Core) (estais : List Reg) → x.unit ≡ unit → before ≡ unborn_unit.core → after ≡ born_core birth (program_of d unit) estais before
      → Turns Place (HasX after) (HasX before) (λ s. IsFirstBlock d unit birth x s) ⊥ (λ s. s)
  first_block unit birth after before estais same was is =
      let now : after ≡ born_core birth (program_of d unit) estais unborn_unit.core = is ∙ ap (born_core birth (program_of d unit) estais) was in
      record {
        came = λ s h. elim (subst (λ (k : Core). HasX k s) now h) [
          | inl here ↦ elim here.1 [
            | inl block ↦ inl (record { unit_is = same; depth_is = omega (arith, here.0); born_is = ap Block.born block; place_is = ap Block.place block })
            | inr none ↦ absurd none
          ]
          | inr none ↦ absurd none
        ];
        born = λ s h. subst (λ (k : Core). HasX k s) (sym now) (inl (omega (arith, h.depth_is), inl (ap (λ (k : ℕ). at_place k s) h.born_is ∙ ap (at_place birth) h.place_is)));
        stays = λ s h alive. absurd (subst (λ (k : Core). HasX k s) was h);
      }

  with_rc : (unit rc birth : ℕ) (after before : Core) → rc ≡ 0 → Turns Place (HasX after) (HasX before) (λ s. IsFirstBlock d unit birth x s) ⊥ (λ s. s) → Turns Place (HasX after) (HasX before) (λ s. (rc ≡ 0) × IsFirstBlock d unit birth x s) ⊥ (λ s. s)
  with_rc unit rc birth after before zero_is turns = retold _ _ _ _ _ _ _ _ (λ s h. (zero_is, h)) (λ s h. h.1) (λ k. k) (λ k. k) (λ s. refl) turns

  kept_core : (after before : Core) (B : Place → Type 0) → ((s : Place) → B s → ⊥) → after ≡ before → Turns Place (HasX after) (HasX before) B ⊥ (λ s. s)
  kept_core after before B unborn same = record {
    came = λ s h. inr (s, subst (λ (k : Core). HasX k s) same h, λ k. k, refl);
    born = λ s h. absurd (unborn s h);
    stays = λ s h alive. subst (λ (k : Core). HasX k s) (sym same) h;
  }

  births : (rc : ℕ) (op : Op) (after : Core) → IsSound d n w → NamesUnit d op → CanExecute w u rc op → BirthOr d w n u x.unit rc op after (core_at x.unit w)
      → Turns Place (HasX after) (HasX (core_at x.unit w)) (BirthMakes d n rc op x) ⊥ (λ s. s)
  births rc (ops.Attachx unit estai term) after s named can (inl born) =
      with_rc unit rc (block_birth n) after (core_at x.unit w) born.rc_is
      (first_block unit (block_birth n) after (core_at x.unit w) _ born.unit_is (ap (λ (v : ℕ). core_at v w) born.unit_is ∙ was_unborn d w n unit s named (can born.rc_is)) born.core)
  births rc (ops.Attachx unit estai term) after s named can (inr kept) = kept_core after (core_at x.unit w) _ (λ s h. kept.other h.0 (IsFirstBlock.unit_is h.1)) kept.core
  births rc (ops.Schedule unit) after s named can (inl born) =
      with_rc unit rc (block_birth n) after (core_at x.unit w) born.rc_is
      (first_block unit (block_birth n) after (core_at x.unit w) [] born.unit_is (ap (λ (v : ℕ). core_at v w) born.unit_is ∙ was_unborn d w n unit s named (can born.rc_is)) born.core)
  births rc (ops.Schedule unit) after s named can (inr kept) = kept_core after (core_at x.unit w) _ (λ s h. kept.other h.0 (IsFirstBlock.unit_is h.1)) kept.core
  births rc _ after s named can h = kept_core after (core_at x.unit w) _ (λ s k. k) h

  unborn_card : (rc : ℕ) (op : Op) → IsSound d n w → NamesUnit d op → CanExecute w u rc op → 1 ≤ length (newest_bracket (Core.blocks (core_at u w))) → x.unit ≡ u → (s : Place) → BirthMakes d n rc op x s → ⊥
  unborn_card rc (ops.Attachx unit estai term) s named can some mine p h = no_self d w n u unit s named (can h.0) some (sym mine ∙ IsFirstBlock.unit_is h.1)
  unborn_card rc (ops.Schedule unit) s named can some mine p h = no_self d w n u unit s named (can h.0) some (sym mine ∙ IsFirstBlock.unit_is h.1)
  unborn_card rc _ s named can some mine p h = h

  unborn_by : (what : What) → IsMade d w n (record { unit = u; what = what }) → x.unit ≡ u → (s : Place) → ByBirth d (λ rc op. BirthMakes d n rc op x) what s → ⊥
  unborn_by (whats.Exec at rc) m mine s h = unborn_card rc (op_at d at.prog at.op) m.sound (unit_named d m.deck at.prog at.op) m.can.what.1 m.can.what.0.some mine s h
  unborn_by _ m mine s h = h

  births_of : (what : What) → IsMade d w n (record { unit = u; what = what }) → (after : Core) (at : Place) (rc : ℕ) → what ≡ whats.Exec at rc
      → BirthOr d w n u x.unit rc (op_at d at.prog at.op) after (core_at x.unit w) → Turns Place (HasX after) (HasX (core_at x.unit w)) (BirthMakes d n rc (op_at d at.prog at.op) x) ⊥ (λ s. s)
  births_of what m after at rc e h =
      let m2 = subst (λ (t : What). IsMade d w n (record { unit = u; what = t })) e m in
      births rc (op_at d at.prog at.op) after m2.sound (unit_named d m2.deck at.prog at.op) m2.can.what.1 h

  to_table : (what : What) (s : Place) → ByBirth d (λ rc op. BirthMakes d n rc op x) what s → UnitMakes d n what x s
  to_table (whats.Exec at rc) s h = h
  to_table _ s h = h

  from_table : (what : What) (s : Place) → UnitMakes d n what x s → ByBirth d (λ rc op. BirthMakes d n rc op x) what s
  from_table (whats.Exec at rc) s h = h
  from_table _ s h = h

  entry : (what : What) → IsMade d w n (record { unit = u; what = what }) → Changes blocks d w n (record { unit = u; what = what }) x
  entry what m =
      retold _ _ _ _ _ _ _ _
      (λ s h. elim h [ inl own ↦ inl own | inr born ↦ inr (to_table what s born) ]) (λ s h. elim h [ inl own ↦ inl own | inr born ↦ inr (from_table what s born) ])
      (λ k. k) (λ k. k) (λ s. refl)
      (whole_turns d w n u x.unit HasX (EntryMakes d n (core_at u w) w.managers what x.depth x.born) (EntryKills d (core_at u w) what x.depth x.born) (entry_moves d (core_at u w) what x.depth x.born) (λ rc op. BirthMakes d n rc op x)
      what m (λ c s h. h) (unborn_by what m) (λ same. by_own what m) (λ other after at rc e h. births_of what m after at rc e h))

-- At the start the job step task has one

module _ (d : DeckView) (deck : IsTrue (is_well_formed d)) (x : UnitBlock) where
  start_turns : (b : Bool) → (x.unit == job_step d) ≡ b
      → Turns Place (λ s. IsBlockAt (length (Core.levels (core_at x.unit (start d)))) x.depth (at_place x.born s) (Core.blocks (core_at x.unit (start d)))) (λ s. ⊥) (λ s. IsFirstBlock d (job_step d) 0 x s) ⊥ (λ s. s)
  start_turns true e =
      let same = eqb-true x.unit (job_step d) e in
      let units : List UnitOfWork = map (λ card. unborn_unit) d.units ++ unborn_unit ∷ [] in
      let within : job_step d < length units = omega (arith, job_step_in d deck, length-unborn d.units) in
      let now : core_at x.unit (start d) ≡ born_core 0 (program_of d (job_step d)) [] unborn_unit.core =
      ap (λ (v : ℕ). core_at v (start d)) same ∙ ap UnitOfWork.core (unit_here (job_step d) (at_birth 0 (program_of d (job_step d)) []) units within)
      ∙ ap (λ (k : UnitOfWork). born_core 0 (program_of d (job_step d)) [] k.core) (all_unborn d.units (job_step d)) in
      record {
        came = λ s h. elim (subst (λ (k : Core). IsBlockAt (length k.levels) x.depth (at_place x.born s) k.blocks) now h) [
          | inl here ↦ elim here.1 [
            | inl block ↦ inl (record { unit_is = same; depth_is = omega (arith, here.0); born_is = ap Block.born block; place_is = ap Block.place block })
            | inr none ↦ absurd none
          ]
          | inr none ↦ absurd none
        ];
        born = λ s h. subst (λ (k : Core). IsBlockAt (length k.levels) x.depth (at_place x.born s) k.blocks) (sym now) (inl (omega (arith, h.depth_is), inl (ap (λ (k : ℕ). at_place k s) h.born_is ∙ ap (at_place 0) h.place_is)));
        stays = λ s h alive. absurd h;
      }
  start_turns false e =
      let other = eqb-false x.unit (job_step d) e in
      let units : List UnitOfWork = map (λ card. unborn_unit) d.units ++ unborn_unit ∷ [] in
      let now : core_at x.unit (start d) ≡ unborn_unit.core = ap UnitOfWork.core (unit_there (job_step d) x.unit (at_birth 0 (program_of d (job_step d)) []) units other) ∙ ap UnitOfWork.core (all_unborn d.units x.unit) in
      record {
        came = λ s h. absurd (subst (λ (k : Core). IsBlockAt (length k.levels) x.depth (at_place x.born s) k.blocks) now h);
        born = λ s h. absurd (other h.unit_is);
        stays = λ s h alive. absurd h;
      }

  at_start : (s : Place) → IsBlockAt (length (Core.levels (core_at x.unit (start d)))) x.depth (at_place x.born s) (Core.blocks (core_at x.unit (start d))) → IsFirstBlock d (job_step d) 0 x s
  at_start s h = elim ((start_turns (x.unit == job_step d) refl).came s h) [ inl born ↦ born | inr none ↦ absurd none.1 ]

-- an ESTAE routine that runs has its owner in the bracket around it, at each moment
pub owners_before : (d : DeckView) (h : List Entry) → IsSoundHistory d h → Legal d h → (k : ℕ) → k ≤ length h → (v : ℕ) → HasOwners (core_at v (before d h k))
owners_before d h sound legal = kept_before d h sound legal (λ n w. (v : ℕ) → HasOwners (core_at v w)) (start_owners d) (λ w n e m owners. entry_owners d w n e.unit e.what m owners)

follows : Follows blocks (λ w. (v : ℕ) → HasOwners (core_at v w))
follows = record {
  first = λ d deck x s h. at_start d deck x s h;
  there = λ d deck x s h. (start_turns d deck x (x.unit == job_step d) refl).born s h;
  changes = λ d w n e m owners x. entry d w n e.unit x owners e.what m;
}

-- each bracket's request blocks are those that live, each at its place, newest first
pub blocks_live : (d : DeckView) (h : List Entry) → IsSoundHistory d h → Legal d h → AreTheBlocks d h
blocks_live d h sound legal = record {
  living = stated blocks d h sound legal (λ w. (v : ℕ) → HasOwners (core_at v w)) (owners_before d h sound legal) follows;
  order = λ u. subst (λ (w : World). BracketsFall (length h + 1) (Core.blocks (core_at u w))) (before-all d h) (IsCoreSound.births (IsSound.cores (sound.worlds (length h) (omega arith)) u));
}
