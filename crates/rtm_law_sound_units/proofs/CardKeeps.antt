-- A card that is executed leaves its unit's own control blocks sound.
use Rattle.std.proofs.Common.{◌≡◌, ℕ, ◌+◌, ◌-◌, ◌<◌, ◌≤◌, Bool, true, false, cond, List, [], ◌∷◌, length, Option, Some, None, refl, sym, subst, ap, arith}
use Rattle.std.specs.Prelude.{IfSome, IsTrue, find, if◌then◌else◌, is_some, not, ◌||◌}
use Rattle.std.specs.List.{AllByRecursion}
use Rattle.std.proofs.lemmas.Bool.{eqb-true, ltb-true}
use Rattle.rtm_deck_items.specs.declared.deck.Line.{Line}
use Rattle.rtm_deck_items.specs.declared.op.Op.{Op}
use Rattle.rtm_deck_items.specs.declared.op.Op.TheVariants as ops
use Rattle.rtm_deck_items.specs.View.{DeckView}
use Rattle.rtm_deck_items.specs.WellFormed.{is_op}
use Rattle.rtm_model.specs.declared.block.Block.{Block}
use Rattle.rtm_model.specs.declared.block.Place.{Place}
use Rattle.rtm_model.specs.declared.error_record.ErrorRecord.{ErrorRecord}
use Rattle.rtm_model.specs.declared.reg.Kind.{Kind}
use Rattle.rtm_model.specs.declared.reg.Kind.TheVariants.{Estae, Frr}
use Rattle.rtm_model.specs.declared.reg.Reg.{Reg}
use Rattle.rtm_model.specs.inner.Applies.{HasRoom}
use Rattle.rtm_model.specs.Limits.{deepest, most_blocks, most_estaes, most_frrs}
use Rattle.rtm_model.specs.Births.{block_birth, new_estae, new_frr}
use Rattle.rtm_model.specs.OwnChange.{move_to, own_card}
use Rattle.rtm_model.specs.Blocks.{after_return, first_place, has_one_block, newest_birth, newest_bracket, with_linked, with_place, with_program}
use Rattle.rtm_model.specs.Chains.{after_cancel, after_overlay, if_of_owner, is_of_depth, is_of_owner, newest_of, newest_owned, with_in_place, without_depth, without_first}
use Rattle.rtm_model.specs.Levels.{after_ret15, after_setrp, depth_in}
use Rattle.rtm_model.specs.Record.{ret15_in, setrp_in}
use Rattle.rtm_model.specs.inner.Soundness.{HasOwner, IsCoreSound, IsPlace, IsRecord, IsRoutine}
use Rattle.rtm_model.specs.World.{Core}
use Rattle.rtm_model.proofs.Levels.{after_record, length_record, quiet_record}
use Rattle.rtm_model.proofs.Lists.{AllByRecursion-filter, all_by, all_without_first, length-without_first-le}
use Rattle.rtm_law_sound_units.proofs.Lists.{all_found, all_kept}
use Rattle.rtm_law_sound_units.proofs.Nesting.{levels_later, record_kept}
use Rattle.rtm_law_sound_units.proofs.Owners.{owner_linked, owner_new, owner_returned}
use Rattle.rtm_law_sound_units.proofs.Parts.{HasChains, IsChain, brackets_of, chain_filter, chain_later, chains_of, end_of, estais_later, estais_of, later, levels_of, made_of, moved}
use Rattle.rtm_law_sound_units.proofs.Places.{first_is_place}
use Rattle.rtm_law_sound_units.proofs.Records.{ret15_record, setrp_record}
use Rattle.rtm_law_sound_units.proofs.RequestBlocks.{linked, returned}
use Rattle.rtm_law_sound_units.proofs.Routines.{all_in_place, fall_in_place, fall_later, fall_without_first, length_in_place}

-- what a card asks of its unit's own control blocks
abbrev pub CanCard : Core → Op → Type 0
CanCard c (ops.Link prog) = length (newest_bracket c.blocks) < most_blocks
CanCard c ops.Return = has_one_block c.blocks ≡ false
CanCard c (ops.EstaexCt prog term cancel xctl) = HasRoom c most_estaes (length c.estaes)
CanCard c (ops.FrrAdd prog) = HasRoom c most_frrs (length c.frrs)
CanCard c _ = Unit {0}

-- other FRRs, or other ESTAE routines, after the entry of index n
with_frrs : (d : DeckView) (n : ℕ) (c : Core) (frrs : List Reg) → IsChain d Frr most_frrs (n + 1) (depth_in c.levels) frrs → IsCoreSound d n c → IsCoreSound d (n + 1) (record c { frrs = frrs })
with_frrs d n c frrs h s =
    let t = later d n c s in
    let k = chains_of d (n + 1) c t in
    made_of d (n + 1) (record c { frrs = frrs }) (levels_of d (n + 1) c t) (brackets_of d (n + 1) c t)
    (record { frrs_are = h; estaes_are = k.estaes_are; owned = k.owned }) (estais_of d (n + 1) c t) (end_of d (n + 1) c t)

with_estaes : (d : DeckView) (n : ℕ) (c : Core) (estaes : List Reg) → IsChain d Estae most_estaes (n + 1) (depth_in c.levels) estaes → AllByRecursion (HasOwner (depth_in c.levels) c.blocks) estaes → IsCoreSound d n c → IsCoreSound d (n + 1) (record c { estaes = estaes })
with_estaes d n c estaes h owned s =
    let t = later d n c s in
    let k = chains_of d (n + 1) c t in
    made_of d (n + 1) (record c { estaes = estaes }) (levels_of d (n + 1) c t) (brackets_of d (n + 1) c t)
    (record { frrs_are = k.frrs_are; estaes_are = h; owned = owned }) (estais_of d (n + 1) c t) (end_of d (n + 1) c t)

-- LINK
link_kept : (d : DeckView) (n : ℕ) (place : Place) (prog : ℕ) (c : Core) → IsPlace d place → prog < length d.programs → length (newest_bracket (with_place place c.blocks)) < most_blocks → IsCoreSound d n c → IsCoreSound d (n + 1) (own_card n place (ops.Link prog) c)
link_kept d n place prog c p h room s =
    let t = moved d n place c p s in
    let k = chains_of d n (move_to place c) t in
    made_of d (n + 1) (own_card n place (ops.Link prog) c)
    (levels_later n (n + 1) c.levels (omega arith) (levels_of d n c s))
    (linked d n prog (with_place place c.blocks) h room (brackets_of d n (move_to place c) t))
    (record {
      frrs_are = chain_later d Frr most_frrs n (n + 1) (depth_in c.levels) c.frrs (omega arith) k.frrs_are;
      estaes_are = chain_later d Estae most_estaes n (n + 1) (depth_in c.levels) c.estaes (omega arith) k.estaes_are;
      owned = all_by (HasOwner (depth_in c.levels) (with_place place c.blocks)) (HasOwner (depth_in c.levels) (with_linked (block_birth n) prog (with_place place c.blocks)))
          (λ reg o. owner_linked (depth_in c.levels) (block_birth n) prog (with_place place c.blocks) reg o) c.estaes k.owned;
    })
    (estais_later d n (n + 1) c.estais (omega arith) (estais_of d n c s)) (end_of d n c s)

place_length : (place : Place) (brackets : List (List Block)) → length (newest_bracket (with_place place brackets)) ≡ length (newest_bracket brackets)
place_length place [] = refl
place_length place ([] ∷ outer) = refl
place_length place ((block ∷ blocks) ∷ outer) = refl

-- XCTL
xctl_kept : (d : DeckView) (n : ℕ) (place : Place) (prog : ℕ) (c : Core) → prog < length d.programs → IsCoreSound d n c → IsCoreSound d (n + 1) (own_card n place (ops.Xctl prog) c)
xctl_kept d n place prog c h s =
    let p = λ (reg : Reg). not (is_of_owner (newest_birth c.blocks) reg) || reg.xctl in
    let t = later d n (move_to (first_place prog) c) (moved d n (first_place prog) c (first_is_place d prog h) s) in
    let k = chains_of d (n + 1) (move_to (first_place prog) c) t in
    made_of d (n + 1) (own_card n place (ops.Xctl prog) c) (levels_of d (n + 1) (move_to (first_place prog) c) t) (brackets_of d (n + 1) (move_to (first_place prog) c) t)
    (record {
      frrs_are = k.frrs_are;
      estaes_are = chain_filter d Estae most_estaes (n + 1) (depth_in c.levels) p c.estaes k.estaes_are;
      owned = AllByRecursion-filter (HasOwner (depth_in c.levels) (with_program prog c.blocks)) p c.estaes k.owned;
    })
    (estais_of d (n + 1) (move_to (first_place prog) c) t) (end_of d (n + 1) (move_to (first_place prog) c) t)

-- RETURN
return_kept : (d : DeckView) (n : ℕ) (place : Place) (c : Core) → IsCoreSound d n c → IsCoreSound d (n + 1) (own_card n place ops.Return c)
return_kept d n place c s =
    let p = λ (reg : Reg). not (is_of_owner (newest_birth c.blocks) reg) in
    let t = later d n c s in
    let k = chains_of d (n + 1) c t in
    made_of d (n + 1) (own_card n place ops.Return c) (levels_of d (n + 1) c t) (returned d (n + 1) c.blocks (brackets_of d (n + 1) c t))
    (record {
      frrs_are = k.frrs_are;
      estaes_are = chain_filter d Estae most_estaes (n + 1) (depth_in c.levels) p c.estaes k.estaes_are;
      owned = all_kept (HasOwner (depth_in c.levels) c.blocks) (HasOwner (depth_in c.levels) (after_return c.blocks)) p
          (λ reg o e. owner_returned (depth_in c.levels) c.blocks reg e o) c.estaes k.owned;
    })
    (estais_of d (n + 1) c t) (end_of d (n + 1) c t)

-- ESTAEX CT
estae_is : (d : DeckView) (n prog : ℕ) (term cancel xctl : Bool) (c : Core) → prog < length d.programs → depth_in c.levels < deepest → IsRoutine d Estae (new_estae n c prog term cancel xctl)
estae_is d n prog term cancel xctl c h shallow = record { kind_is = refl; prog = h; depth = shallow }

create_kept : (d : DeckView) (n prog : ℕ) (term cancel xctl : Bool) (c : Core) → prog < length d.programs → HasRoom c most_estaes (length c.estaes) → 1 ≤ length (newest_bracket c.blocks) → IsCoreSound d n c
    → IsCoreSound d (n + 1) (record c { estaes = new_estae n c prog term cancel xctl ∷ c.estaes })
create_kept d n prog term cancel xctl c h room some s =
    let k = chains_of d n c s in
    with_estaes d n c (new_estae n c prog term cancel xctl ∷ c.estaes)
    (record {
      few = omega (arith, room.few);
      each = (estae_is d n prog term cancel xctl c h room.shallow, k.estaes_are.each);
      fall = (omega arith, omega arith, k.estaes_are.fall);
    })
    (owner_new (depth_in c.levels) c.blocks (new_estae n c prog term cancel xctl) some refl refl, k.owned) s

-- ESTAEX OV: where the bracket's newest routine is the request block's, that one is no deeper than the 15th bracket
found_shallow : (d : DeckView) (kind : Kind) (depth : ℕ) (regs : List Reg) (o : Option Reg) → newest_of depth regs ≡ o → is_some o ≡ true → AllByRecursion (IsRoutine d kind) regs → depth < deepest
found_shallow d kind depth regs None e there a = absurd cc
found_shallow d kind depth regs (Some reg) e there a =
    let f = subst (λ (o : Option Reg). IfSome o (λ reg. IsRoutine d kind reg × (is_of_depth depth reg ≡ true))) e (all_found (IsRoutine d kind) (is_of_depth depth) regs a) in
    omega (arith, f.0.depth, eqb-true reg.depth depth f.1)

owned_found : (owner : ℕ) (o : Option Reg) → is_some (if_of_owner owner o) ≡ true → is_some o ≡ true
owned_found owner None h = h
owned_found owner (Some reg) h = refl

overlay_if : (d : DeckView) (n prog : ℕ) (term cancel xctl : Bool) (c : Core) (b : Bool) → is_some (newest_owned (depth_in c.levels) (newest_birth c.blocks) c.estaes) ≡ b → prog < length d.programs → 1 ≤ length (newest_bracket c.blocks) → IsCoreSound d n c
    → IsCoreSound d (n + 1) (record c { estaes = if b then with_in_place (is_of_depth (depth_in c.levels)) (new_estae n c prog term cancel xctl) c.estaes else c.estaes })
overlay_if d n prog term cancel xctl c false e h some s = later d n c s
overlay_if d n prog term cancel xctl c true e h some s =
    let k = chains_of d n c s in
    let new = new_estae n c prog term cancel xctl in
    let shallow = found_shallow d Estae (depth_in c.levels) c.estaes (newest_of (depth_in c.levels) c.estaes) refl (owned_found (newest_birth c.blocks) (newest_of (depth_in c.levels) c.estaes) e) k.estaes_are.each in
    with_estaes d n c (with_in_place (is_of_depth (depth_in c.levels)) new c.estaes)
    (record {
      few = omega (arith, length_in_place (is_of_depth (depth_in c.levels)) new c.estaes, k.estaes_are.few);
      each = all_in_place (IsRoutine d Estae) (is_of_depth (depth_in c.levels)) new c.estaes (estae_is d n prog term cancel xctl c h shallow) k.estaes_are.each;
      fall = fall_in_place n (depth_in c.levels) new c.estaes refl refl k.estaes_are.fall;
    })
    (all_in_place (HasOwner (depth_in c.levels) c.blocks) (is_of_depth (depth_in c.levels)) new c.estaes (owner_new (depth_in c.levels) c.blocks new some refl refl) k.owned) s

-- ESTAEX 0
cancel_if : (d : DeckView) (n : ℕ) (c : Core) (b : Bool) → IsCoreSound d n c → IsCoreSound d (n + 1) (record c { estaes = if b then without_first (is_of_depth (depth_in c.levels)) c.estaes else c.estaes })
cancel_if d n c false s = later d n c s
cancel_if d n c true s =
    let k = chains_of d n c s in
    let p = is_of_depth (depth_in c.levels) in
    with_estaes d n c (without_first p c.estaes)
    (record {
      few = omega (arith, length-without_first-le p c.estaes, k.estaes_are.few);
      each = all_without_first (IsRoutine d Estae) p c.estaes k.estaes_are.each;
      fall = fall_later n (n + 1) (depth_in c.levels) (depth_in c.levels) (without_first p c.estaes) (omega arith) (omega arith) (fall_without_first p n (depth_in c.levels) c.estaes k.estaes_are.fall);
    })
    (all_without_first (HasOwner (depth_in c.levels) c.blocks) p c.estaes k.owned) s

-- SETFRR A, D, R, P
frr_is : (d : DeckView) (n prog : ℕ) (c : Core) → prog < length d.programs → depth_in c.levels < deepest → IsRoutine d Frr (new_frr n c prog)
frr_is d n prog c h shallow = record { kind_is = refl; prog = h; depth = shallow }

add_kept : (d : DeckView) (n prog : ℕ) (c : Core) → prog < length d.programs → HasRoom c most_frrs (length c.frrs) → IsCoreSound d n c → IsCoreSound d (n + 1) (record c { frrs = new_frr n c prog ∷ c.frrs })
add_kept d n prog c h room s =
    let k = chains_of d n c s in
    with_frrs d n c (new_frr n c prog ∷ c.frrs)
    (record { few = omega (arith, room.few); each = (frr_is d n prog c h room.shallow, k.frrs_are.each); fall = (omega arith, omega arith, k.frrs_are.fall) }) s

delete_kept : (d : DeckView) (n : ℕ) (c : Core) → IsCoreSound d n c → IsCoreSound d (n + 1) (record c { frrs = without_first (is_of_depth (depth_in c.levels)) c.frrs })
delete_kept d n c s =
    let k = chains_of d n c s in
    let p = is_of_depth (depth_in c.levels) in
    with_frrs d n c (without_first p c.frrs)
    (record {
      few = omega (arith, length-without_first-le p c.frrs, k.frrs_are.few);
      each = all_without_first (IsRoutine d Frr) p c.frrs k.frrs_are.each;
      fall = fall_later n (n + 1) (depth_in c.levels) (depth_in c.levels) (without_first p c.frrs) (omega arith) (omega arith) (fall_without_first p n (depth_in c.levels) c.frrs k.frrs_are.fall);
    }) s

none_if : (p : Reg → Bool) (y reg : Reg) (regs : List Reg) (b : Bool) → cond b (Some reg) (find p regs) ≡ None → (find p regs ≡ None → with_in_place p y regs ≡ regs) → cond b (y ∷ regs) (reg ∷ with_in_place p y regs) ≡ reg ∷ regs
none_if p y reg regs true e more = absurd cc
none_if p y reg regs false e more = rw (more e) refl

none_in_place : (p : Reg → Bool) (y : Reg) (regs : List Reg) → find p regs ≡ None → with_in_place p y regs ≡ regs
none_in_place p y [] e = refl
none_in_place p y (reg ∷ regs) e = none_if p y reg regs (p reg) e (none_in_place p y regs)

replace_by : (d : DeckView) (n prog : ℕ) (c : Core) (o : Option Reg) → newest_of (depth_in c.levels) c.frrs ≡ o → prog < length d.programs → IsCoreSound d n c
    → IsCoreSound d (n + 1) (record c { frrs = with_in_place (is_of_depth (depth_in c.levels)) (new_frr n c prog) c.frrs })
replace_by d n prog c None e h s =
    subst (λ (l : List Reg). IsCoreSound d (n + 1) (record c { frrs = l })) (sym (none_in_place (is_of_depth (depth_in c.levels)) (new_frr n c prog) c.frrs e)) (later d n c s)
replace_by d n prog c (Some reg) e h s =
    let k = chains_of d n c s in
    let p = is_of_depth (depth_in c.levels) in
    let shallow = found_shallow d Frr (depth_in c.levels) c.frrs (Some reg) e refl k.frrs_are.each in
    with_frrs d n c (with_in_place p (new_frr n c prog) c.frrs)
    (record {
      few = omega (arith, length_in_place p (new_frr n c prog) c.frrs, k.frrs_are.few);
      each = all_in_place (IsRoutine d Frr) p (new_frr n c prog) c.frrs (frr_is d n prog c h shallow) k.frrs_are.each;
      fall = fall_in_place n (depth_in c.levels) (new_frr n c prog) c.frrs refl refl k.frrs_are.fall;
    }) s

purge_kept : (d : DeckView) (n : ℕ) (c : Core) → IsCoreSound d n c → IsCoreSound d (n + 1) (record c { frrs = without_depth (depth_in c.levels) c.frrs })
purge_kept d n c s =
    let t = later d n c s in
    with_frrs d n c (without_depth (depth_in c.levels) c.frrs)
    (chain_filter d Frr most_frrs (n + 1) (depth_in c.levels) (λ reg. not (is_of_depth (depth_in c.levels) reg)) c.frrs (HasChains.frrs_are (chains_of d (n + 1) c t))) s

-- SETRP and RET15
record_keeps : (d : DeckView) (n : ℕ) (f : ErrorRecord → ErrorRecord) (c : Core) → ((r : ErrorRecord) → IsRecord r → IsRecord (f r)) → IsCoreSound d n c → IsCoreSound d (n + 1) (record c { levels = after_record f c.levels })
record_keeps d n f c h s =
    let t = later d n c s in
    let same = length_record f c.levels in
    made_of d (n + 1) (record c { levels = after_record f c.levels }) (record_kept (n + 1) f c.levels h (levels_of d (n + 1) c t)) (brackets_of d (n + 1) c t)
    (subst (λ (depth : ℕ). HasChains d (n + 1) depth c.blocks c.frrs c.estaes) (sym (ap (λ (k : ℕ). k - 1) same)) (chains_of d (n + 1) c t))
    (estais_of d (n + 1) c t) (record { codes = t.begun; quiet = λ h. quiet_record f c.levels (t.ending_quiet h) })

-- a card that is executed
pub card_kept : (d : DeckView) (n : ℕ) (place : Place) (c : Core) (lines : List Line) (op : Op) → IsCoreSound d n c → 1 ≤ length (newest_bracket c.blocks) → IsTrue (is_op d lines op)
    → ((op ≡ ops.Return → ⊥) → IsPlace d place) → CanCard c op → IsCoreSound d (n + 1) (own_card n place op c)
card_kept d n place c lines (ops.Link prog) s some fits p can =
    link_kept d n place prog c (p (λ e. cc)) (ltb-true prog (length d.programs) fits) (subst (λ (k : ℕ). k < most_blocks) (sym (place_length place c.blocks)) can) s
card_kept d n place c lines (ops.Xctl prog) s some fits p can = xctl_kept d n place prog c (ltb-true prog (length d.programs) fits) s
card_kept d n place c lines ops.Return s some fits p can = return_kept d n place c s
card_kept d n place c lines (ops.EstaexCt prog term cancel xctl) s some fits p can =
    moved d (n + 1) place (record c { estaes = new_estae n c prog term cancel xctl ∷ c.estaes }) (p (λ e. cc)) (create_kept d n prog term cancel xctl c (ltb-true prog (length d.programs) fits) can some s)
card_kept d n place c lines (ops.EstaexOv prog term cancel xctl) s some fits p can =
    moved d (n + 1) place (record c { estaes = after_overlay (depth_in c.levels) (newest_birth c.blocks) (new_estae n c prog term cancel xctl) c.estaes }) (p (λ e. cc))
    (overlay_if d n prog term cancel xctl c (is_some (newest_owned (depth_in c.levels) (newest_birth c.blocks) c.estaes)) refl (ltb-true prog (length d.programs) fits) some s)
card_kept d n place c lines ops.EstaexZero s some fits p can =
    moved d (n + 1) place (record c { estaes = after_cancel (depth_in c.levels) (newest_birth c.blocks) c.estaes }) (p (λ e. cc))
    (cancel_if d n c (is_some (newest_owned (depth_in c.levels) (newest_birth c.blocks) c.estaes)) s)
card_kept d n place c lines (ops.FrrAdd prog) s some fits p can =
    moved d (n + 1) place (record c { frrs = new_frr n c prog ∷ c.frrs }) (p (λ e. cc)) (add_kept d n prog c (ltb-true prog (length d.programs) fits) can s)
card_kept d n place c lines ops.FrrDelete s some fits p can =
    moved d (n + 1) place (record c { frrs = without_first (is_of_depth (depth_in c.levels)) c.frrs }) (p (λ e. cc)) (delete_kept d n c s)
card_kept d n place c lines (ops.FrrReplace prog) s some fits p can =
    moved d (n + 1) place (record c { frrs = with_in_place (is_of_depth (depth_in c.levels)) (new_frr n c prog) c.frrs }) (p (λ e. cc))
    (replace_by d n prog c (newest_of (depth_in c.levels) c.frrs) refl (ltb-true prog (length d.programs) fits) s)
card_kept d n place c lines ops.FrrPurge s some fits p can =
    moved d (n + 1) place (record c { frrs = without_depth (depth_in c.levels) c.frrs }) (p (λ e. cc)) (purge_kept d n c s)
card_kept d n place c lines (ops.SetRp setrp) s some fits p can =
    moved d (n + 1) place (record c { levels = after_setrp setrp c.levels }) (p (λ e. cc)) (record_keeps d n (setrp_in setrp) c (setrp_record d setrp fits) s)
card_kept d n place c lines (ops.Ret15 rc label) s some fits p can =
    moved d (n + 1) place (record c { levels = after_ret15 rc label c.levels }) (p (λ e. cc)) (record_keeps d n (ret15_in rc label) c (ret15_record rc label) s)
card_kept d n place c lines _ s some fits p can = moved d (n + 1) place c (p (λ e. cc)) (later d n c s)
