-- What goes on in inner brackets leaves the list of those that are eligible for an error of a bracket further out.
use Rattle.std.proofs.Common.{◌≡◌, ℕ, ◌<◌, ◌+◌, Bool, true, false, not, ◌&&◌, List, [], ◌∷◌, ◌++◌, length, Option, Some, None, refl, sym, ap, subst, arith, inl, inr, ◌⊎◌, ◌∙◌}
use Rattle.std.proofs.lemmas.Bool.{and_parts, eqb-true}
use Rattle.std.specs.Prelude.{IfSome, IsSomeAnd, IsTrue, filter, if◌then◌else◌}
use Rattle.rtm_deck_items.specs.Reading.{op_at}
use Rattle.rtm_deck_items.specs.View.{DeckView}
use Rattle.rtm_deck_items.specs.WellFormed.{is_well_formed}
use Rattle.rtm_deck_items.specs.declared.op.Op.{Op}
use Rattle.rtm_deck_items.specs.declared.op.Op.TheVariants as ops
use Rattle.rtm_model.specs.declared.abort.Abort.{Abort}
use Rattle.rtm_model.specs.declared.entry.Entry.{Entry}
use Rattle.rtm_model.specs.declared.entry.Verdict.{Verdict}
use Rattle.rtm_model.specs.declared.entry.Verdict.TheVariants.{Bad, Fail, Over, Perc, Retry, Stop}
use Rattle.rtm_model.specs.declared.entry.What.{What}
use Rattle.rtm_model.specs.declared.entry.What.TheVariants as whats
use Rattle.rtm_model.specs.declared.error_record.ErrorRecord.{ErrorRecord}
use Rattle.rtm_model.specs.declared.reg.Kind.{Kind}
use Rattle.rtm_model.specs.declared.reg.Kind.TheVariants.{Estae, Estai, Frr, Mgr}
use Rattle.rtm_model.specs.declared.reg.Reg.{Reg}
use Rattle.rtm_model.specs.Aborts.{abort_named}
use Rattle.rtm_model.specs.Advance.{world}
use Rattle.rtm_model.specs.Cards.{newest_owned_here}
use Rattle.rtm_model.specs.Chains.{if_of_owner, is_admitted, is_of_depth, is_of_owner, newest_of}
use Rattle.rtm_model.specs.Blocks.{newest_birth}
use Rattle.rtm_model.specs.Eligible.{estaes_for, frrs_for}
use Rattle.rtm_model.specs.Legal.{Legal}
use Rattle.rtm_model.specs.Levels.{Bracket, current, enclosing_bracket, error_of, is_recovery, depth_in, is_manager, record_in, verdict_in, verdict_of_routine}
use Rattle.rtm_model.specs.Moments.{IsIn}
use Rattle.rtm_model.specs.OwnChange.{after_retry, estais_left, is_gone_after, own_entry, place_after, routine_named, with_bracket_closed, with_landed, with_routine_entered, without_left, without_routine}
use Rattle.rtm_model.specs.Record.{is_estai}
use Rattle.rtm_model.specs.World.{Core, World, core_at}
use Rattle.rtm_model.specs.inner.Soundness.{IsCoreSound, IsSound}
use Rattle.rtm_model.proofs.Cards.{card_estais}
use Rattle.rtm_law_births.specs.Estaes as estae_law
use Rattle.rtm_law_births.specs.Estaes.{estaes}
use Rattle.rtm_law_births.specs.Frrs as frr_law
use Rattle.rtm_law_births.specs.Frrs.{frrs}
use Rattle.rtm_law_births.specs.RequestBlocks as block_law
use Rattle.rtm_law_births.proofs.Cores.{core_here}
use Rattle.rtm_law_births.proofs.Estaes.{estaes_live}
use Rattle.rtm_law_births.proofs.Frrs.{frrs_live}
use Rattle.rtm_law_births.proofs.Lists.{Falls, filter_in, in_filter}
use Rattle.rtm_law_births.proofs.Living.{IsMade}
use Rattle.rtm_law_births.proofs.Outcomes.{IsJudged, outcome_of, verdict_of}
use Rattle.rtm_law_births.proofs.Owned.{no_purge}
use Rattle.rtm_law_births.proofs.Routines.{falls, no_stop}
use Rattle.rtm_law_births.proofs.Sound.{sound_history}
use Rattle.rtm_law_sound.proofs.Histories.{world-append, world_sound}
use Rattle.rtm_law_landings.proofs.Nexts.{pending_in}
use Rattle.rtm_law_chains.proofs.Firsts.{list_at}
use Rattle.rtm_law_chains.proofs.Lists.{falls_filter, same_elements}
use Rattle.rtm_law_chains.proofs.Members.{passes}
use Rattle.rtm_law_chains.proofs.Running.{AllRun, RunsAt, all_run, estae_made, frr_made, length_routines, routines_of}
use Rattle.rtm_law_chains.proofs.Steps.{came, stays}

-- the routine of the innermost bracket
runs_if : (frrs estaes : List Reg) (depth : ℕ) (o : Option Reg) (reg : Reg) → o ≡ Some reg → IfSome o (RunsAt frrs estaes depth) → RunsAt frrs estaes depth reg
runs_if frrs estaes depth None reg e h = absurd cc
runs_if frrs estaes depth (Some own) reg e h = let same : own ≡ reg = cc in subst (RunsAt frrs estaes depth) same h

pub current_runs : (frrs estaes : List Reg) (ls : List Bracket) (reg : Reg) → current ls ≡ Some reg → AllRun frrs estaes (routines_of ls) → RunsAt frrs estaes (depth_in ls) reg
current_runs frrs estaes [] reg e h = absurd cc
current_runs frrs estaes (l ∷ ls) reg e h =
    let depth : length (routines_of ls) ≡ depth_in (l ∷ ls) = omega (arith, length_routines ls) in
    subst (λ (k : ℕ). RunsAt frrs estaes k reg) depth (runs_if frrs estaes (length (routines_of ls)) l.routine reg e h.0)

-- the entry is made in a bracket inside that of the depth, and doesn't close the next one
abbrev pub IsInner : ℕ → Core → What → Type 0
IsInner depth c (whats.Leave kind born verdict logrec dump) = depth + 1 < depth_in c.levels
IsInner depth c _ = depth < depth_in c.levels

inner_less : (depth : ℕ) (c : Core) (what : What) → IsInner depth c what → depth < depth_in c.levels
inner_less depth c (whats.Leave kind born verdict logrec dump) h = omega (arith, h)
inner_less depth c (whats.Exec at rc) h = h
inner_less depth c _ h = h

-- Cards end routines of the innermost bracket alone
frr_card : (c : Core) (rc : ℕ) (op : Op) (reg : Reg) → frr_law.CardKills c rc op reg → reg.depth ≡ depth_in c.levels
frr_card c rc ops.FrrDelete reg h = eqb-true reg.depth (depth_in c.levels) (passes (is_of_depth (depth_in c.levels)) c.frrs reg h.1)
frr_card c rc (ops.FrrReplace prog) reg h = eqb-true reg.depth (depth_in c.levels) (passes (is_of_depth (depth_in c.levels)) c.frrs reg h.1)
frr_card c rc ops.FrrPurge reg h = h.1
frr_card c rc _ reg h = absurd h

owned_if : (x : Reg) (t : Bool) (reg : Reg) → (if t then Some x else None) ≡ Some reg → x ≡ reg
owned_if x true reg e = cc
owned_if x false reg e = absurd cc

owned : (owner : ℕ) (o : Option Reg) (reg : Reg) → if_of_owner owner o ≡ Some reg → o ≡ Some reg
owned owner None reg e = absurd cc
owned owner (Some x) reg e = ap Some (owned_if x (is_of_owner owner x) reg e)

newest_depth : (c : Core) (reg : Reg) → newest_owned_here c ≡ Some reg → reg.depth ≡ depth_in c.levels
newest_depth c reg e =
    eqb-true reg.depth (depth_in c.levels) (passes (is_of_depth (depth_in c.levels)) c.estaes reg (owned (newest_birth c.blocks) (newest_of (depth_in c.levels) c.estaes) reg e))

estae_card : (c : Core) (rc : ℕ) (op : Op) (reg : Reg) → estae_law.CardKills c rc op reg → reg.depth ≡ depth_in c.levels
estae_card c rc (ops.EstaexOv prog term cancel xctl) reg h = newest_depth c reg h.1
estae_card c rc ops.EstaexZero reg h = newest_depth c reg h.1
estae_card c rc (ops.Xctl prog) reg h = h.0.0
estae_card c rc _ reg h = absurd h

block_card : (c : Core) (op : Op) (depth born : ℕ) → block_law.CardKills c op depth born → depth ≡ depth_in c.levels
block_card c ops.Return depth born h = h.0
block_card c _ depth born h = absurd h

verdict_depth : (c : Core) (verdict : Verdict) (depth born : ℕ) → block_law.VerdictKills c verdict depth born → depth + 1 ≡ depth_in c.levels
verdict_depth c (Retry place) depth born h = h.0
verdict_depth c _ depth born h = absurd h

-- the routine of that name
named_own : (o : Option Reg) (kind : Kind) (born : ℕ) → IsSomeAnd o (λ reg. (reg.kind ≡ kind) × (reg.born ≡ born)) → (own : Reg) × (o ≡ Some own) × (own.kind ≡ kind) × (own.born ≡ born)
named_own None kind born h = absurd h
named_own (Some own) kind born h = (own, refl, h.0, h.1)

pub own_routine : (d : DeckView) (w : World) (n u : ℕ) (kind : Kind) (born : ℕ) (verdict : Verdict) (logrec dump : Bool) → IsMade d w n (record { unit = u; what = whats.Leave kind born verdict logrec dump })
    → (own : Reg) × (current (Core.levels (core_at u w)) ≡ Some own) × (own.kind ≡ kind) × (own.born ≡ born)
own_routine d w n u kind born verdict logrec dump m = named_own (current (Core.levels (core_at u w))) kind born m.can.what.own

-- an ESTAI routine alone says Stop
none_over : (d : DeckView) (prog : ℕ) (o : Option Reg) (r : Option ErrorRecord) → r ≡ None → verdict_of_routine d prog o r ≡ Over
none_over d prog None r e = refl
none_over d prog (Some reg) None e = refl
none_over d prog (Some reg) (Some r) e = absurd cc

record_none : (ls : List Bracket) (reg : Reg) → current ls ≡ Some reg → reg.kind ≡ Mgr → record_in ls ≡ None
record_none ls reg e k =
    ap (λ (b : Bool). if b then error_of (enclosing_bracket ls) else None) (ap is_recovery e ∙ ap (λ (kind : Kind). not (is_manager kind)) k)

over_if : (d : DeckView) (c : Core) (prog : Reg → ℕ) (verdict : Verdict) (o : Option Reg) → current c.levels ≡ o → IsSomeAnd o (λ reg. (Mgr ≡ reg.kind) × (verdict ≡ verdict_in d (prog reg) c.levels)) → verdict ≡ Over
over_if d c prog verdict None e h = absurd h
over_if d c prog verdict (Some reg) e h = h.1 ∙ none_over d (prog reg) (current c.levels) (record_in c.levels) (record_none c.levels reg e (sym h.0))

module _ (d : DeckView) (w : World) (n u born : ℕ) (logrec dump : Bool) where
  no_manager : IsMade d w n (record { unit = u; what = whats.Leave Mgr born Stop logrec dump }) → (Stop ≡ Fail) ⊎ IsJudged d (core_at u w) Mgr Stop → ⊥
  no_manager m (inl failed) = cc
  no_manager m (inr is) = let clash : Stop ≡ Over = over_if d (core_at u w) _ Stop (current (Core.levels (core_at u w))) refl is.by in cc

  not_stop : (kind : Kind) → IsMade d w n (record { unit = u; what = whats.Leave kind born Stop logrec dump }) → (kind ≡ Mgr → ⊥) → (kind ≡ Estai → ⊥) → ⊥
  not_stop kind m other not_estai =
      no_stop kind Stop (verdict_of d (core_at u w) kind Stop (IsCoreSound.nested (IsSound.cores m.sound u)) (outcome_of d w u (whats.Leave kind born Stop logrec dump) m.may)) other not_estai refl

  pub stop_kind : (kind : Kind) → IsMade d w n (record { unit = u; what = whats.Leave kind born Stop logrec dump }) → kind ≡ Estai
  stop_kind Estai m = refl
  stop_kind Mgr m = absurd (no_manager m (outcome_of d w u (whats.Leave Mgr born Stop logrec dump) m.may))
  stop_kind Frr m = absurd (not_stop Frr m (λ e. absurd cc) (λ e. absurd cc))
  stop_kind Estae m = absurd (not_stop Estae m (λ e. absurd cc) (λ e. absurd cc))

pub retried_estais : (verdict : Verdict) (o : Option Reg) (c : Core) → Core.estais (after_retry verdict o c) ≡ c.estais
retried_estais (Retry place) None c = refl
retried_estais (Retry place) (Some r) c = refl
retried_estais _ o c = refl

landed_estais : (o : Option Abort) (c : Core) → Core.estais (with_landed o c) ≡ c.estais
landed_estais None c = refl
landed_estais (Some abort) c = refl

entered_estais : (n : ℕ) (bare : Bool) (o : Option Reg) (c : Core) → Core.estais (with_routine_entered n bare o c) ≡ c.estais
entered_estais n bare None c = refl
entered_estais n bare (Some reg) c = refl

not_estai : (kind : Kind) → (kind ≡ Estai → ⊥) → is_estai kind ≡ false
not_estai Estai h = absurd (h refl)
not_estai Frr h = refl
not_estai Estae h = refl
not_estai Mgr h = refl

kept_unless : (gone : Bool) (born : ℕ) (regs : List Reg) (b : Bool) → b ≡ false → without_left (gone && b) born regs ≡ regs
kept_unless true born regs b e = rw e refl
kept_unless false born regs b e = refl

-- of another kind it leaves all ESTAI routines
pub other_estais : (verdict : Verdict) (gone : Bool) (kind : Kind) (born : ℕ) (regs : List Reg) → (verdict ≡ Stop → ⊥) → (kind ≡ Estai → ⊥) → estais_left verdict gone kind born regs ≡ regs
other_estais Stop gone kind born regs no_stop other = absurd (no_stop refl)
other_estais (Retry place) gone kind born regs no_stop other = kept_unless gone born regs (is_estai kind) (not_estai kind other)
other_estais Perc gone kind born regs no_stop other = kept_unless gone born regs (is_estai kind) (not_estai kind other)
other_estais Bad gone kind born regs no_stop other = kept_unless gone born regs (is_estai kind) (not_estai kind other)
other_estais Fail gone kind born regs no_stop other = kept_unless gone born regs (is_estai kind) (not_estai kind other)
other_estais Over gone kind born regs no_stop other = kept_unless gone born regs (is_estai kind) (not_estai kind other)

module _ (d : DeckView) (h : List Entry) (u : ℕ) (what : What) (deck : IsTrue (is_well_formed d)) (legal : Legal d h) (longer : Legal d (h ++ record { unit = u; what = what } ∷ []))
    (m : IsMade d (world d h) (length h) (record { unit = u; what = what })) where
  abbrev Later : List Entry
  Later = h ++ record { unit = u; what = what } ∷ []

  abbrev pub Now : Core
  Now = core_at u (world d h)

  abbrev pub Then : Core
  Then = core_at u (world d (h ++ record { unit = u; what = what } ∷ []))

  pub then_is : Then ≡ own_entry d (length h) (World.managers (world d h)) (pending_in (world d h) u) what Now
  then_is = ap (core_at u) (world-append d h (record { unit = u; what = what })) ∙ core_here d (world d h) (length h) u u what m refl

  sound_then : IsCoreSound d (length Later) Then
  sound_then = IsSound.cores (world_sound d Later deck longer) u

  pub frrs_fall : Falls Reg.born (length h) (Core.frrs Now)
  frrs_fall = falls (length h) (depth_in (Core.levels Now)) (Core.frrs Now) (IsCoreSound.frrs_fall (IsSound.cores m.sound u))

  pub frrs_fall_then : Falls Reg.born (length Later) (Core.frrs Then)
  frrs_fall_then = falls (length Later) (depth_in (Core.levels Then)) (Core.frrs Then) sound_then.frrs_fall

  pub estaes_fall : Falls Reg.born (length h) (Core.estaes Now)
  estaes_fall = falls (length h) (depth_in (Core.levels Now)) (Core.estaes Now) (IsCoreSound.estaes_fall (IsSound.cores m.sound u))

  pub estaes_fall_then : Falls Reg.born (length Later) (Core.estaes Then)
  estaes_fall_then = falls (length Later) (depth_in (Core.levels Then)) (Core.estaes Then) sound_then.estaes_fall

  -- What has lived is there, where the entry isn't a death of it; and no more than that, but for what the entry makes

  pub frr_came : (reg : Reg) → IsIn reg (Core.frrs Then) → (reg.depth < depth_in (Core.levels Now)) → IsIn reg (Core.frrs Now) × (frr_law.EntryKills d Now what reg → ⊥)
  frr_came reg there less =
      elim (came frrs d h (record { unit = u; what = what }) (frrs_live d h (sound_history d h deck legal) legal).living (frrs_live d Later (sound_history d Later deck longer) longer).living (record { unit = u; reg = reg }) there) [
        | inl born ↦ absurd (omega (arith, less, (frr_made d (length h) what Now reg born.1).1))
        | inr stayed ↦ (stayed.0, λ killed. stayed.1 (inl (refl, killed)))
      ]

  pub frr_stays : (reg : Reg) → IsIn reg (Core.frrs Now) → (frr_law.EntryKills d Now what reg → ⊥) → IsIn reg (Core.frrs Then)
  frr_stays reg there alive =
      stays frrs d h (record { unit = u; what = what }) (frrs_live d h (sound_history d h deck legal) legal).living (frrs_live d Later (sound_history d Later deck longer) longer).living (record { unit = u; reg = reg }) there
      (λ killed. elim killed [ inl own ↦ alive own.1 | inr purged ↦ no_purge d (world d h) (length h) u u what m refl purged ])

  pub estae_came : (reg : Reg) → IsIn reg (Core.estaes Then) → (reg.depth < depth_in (Core.levels Now)) → IsIn reg (Core.estaes Now) × ((estae_law.EntryKills d Now what reg ⊎ estae_law.OwnerDies d Now what reg) → ⊥)
  estae_came reg there less =
      elim (came estaes d h (record { unit = u; what = what }) (estaes_live d h (sound_history d h deck legal) legal).living (estaes_live d Later (sound_history d Later deck longer) longer).living (record { unit = u; reg = reg }) there) [
        | inl born ↦ absurd (omega (arith, less, (estae_made d (length h) what Now reg born.1).1))
        | inr stayed ↦ (stayed.0, λ killed. stayed.1 (inl (refl, killed)))
      ]

  pub estae_stays : (reg : Reg) → IsIn reg (Core.estaes Now) → ((estae_law.EntryKills d Now what reg ⊎ estae_law.OwnerDies d Now what reg) → ⊥) → IsIn reg (Core.estaes Then)
  estae_stays reg there alive =
      stays estaes d h (record { unit = u; what = what }) (estaes_live d h (sound_history d h deck legal) legal).living (estaes_live d Later (sound_history d Later deck longer) longer).living (record { unit = u; reg = reg }) there
      (λ killed. elim killed [ inl own ↦ alive own.1 | inr purged ↦ no_purge d (world d h) (length h) u u what m refl purged ])

-- An entry of an inner bracket is no death of a routine further out

module _ (d : DeckView) (w : World) (n u : ℕ) (depth : ℕ) (reg : Reg) (depth_is : reg.depth ≡ depth) (run : AllRun (Core.frrs (core_at u w)) (Core.estaes (core_at u w)) (routines_of (Core.levels (core_at u w)))) where
  frr_alive : (what : What) → IsMade d w n (record { unit = u; what = what }) → IsIn reg (Core.frrs (core_at u w)) → IsInner depth (core_at u w) what → frr_law.EntryKills d (core_at u w) what reg → ⊥
  frr_alive (whats.Exec at rc) m there inner killed = omega (arith, inner, depth_is, frr_card (core_at u w) rc (op_at d at.prog at.op) reg killed)
  frr_alive (whats.Leave kind born verdict logrec dump) m there inner (inl closed) = omega (arith, inner, depth_is, closed)
  frr_alive (whats.Leave kind born verdict logrec dump) m there inner (inr its) =
      let own = own_routine d w n u kind born verdict logrec dump m in
      let runs = current_runs (Core.frrs (core_at u w)) (Core.estaes (core_at u w)) (Core.levels (core_at u w)) own.0 own.1 run in
      let next : reg.depth + 1 ≡ depth_in (Core.levels (core_at u w)) = runs.frr (own.2 ∙ its.kind_is) reg there (sym its.born_is ∙ sym own.3) in
      omega (arith, inner, depth_is, next)
  frr_alive (whats.Begin code dump) m there inner killed = let out : depth_in (Core.levels (core_at u w)) ≡ 0 = m.can.what.1 in omega (arith, inner, out)
  frr_alive _ m there inner killed = killed

  estae_alive : (what : What) → IsMade d w n (record { unit = u; what = what }) → IsIn reg (Core.estaes (core_at u w)) → IsInner depth (core_at u w) what
      → (estae_law.EntryKills d (core_at u w) what reg ⊎ estae_law.OwnerDies d (core_at u w) what reg) → ⊥
  estae_alive (whats.Exec at rc) m there inner (inl killed) = omega (arith, inner, depth_is, estae_card (core_at u w) rc (op_at d at.prog at.op) reg killed)
  estae_alive (whats.Exec at rc) m there inner (inr died) = omega (arith, inner, depth_is, block_card (core_at u w) (op_at d at.prog at.op) reg.depth reg.owner died)
  estae_alive (whats.Leave kind born verdict logrec dump) m there inner (inl its) =
      let own = own_routine d w n u kind born verdict logrec dump m in
      let runs = current_runs (Core.frrs (core_at u w)) (Core.estaes (core_at u w)) (Core.levels (core_at u w)) own.0 own.1 run in
      let next : reg.depth + 1 ≡ depth_in (Core.levels (core_at u w)) = runs.estae (own.2 ∙ its.kind_is) reg there (sym its.born_is ∙ sym own.3) in
      omega (arith, inner, depth_is, next)
  estae_alive (whats.Leave kind born verdict logrec dump) m there inner (inr (inl closed)) = omega (arith, inner, depth_is, closed)
  estae_alive (whats.Leave kind born verdict logrec dump) m there inner (inr (inr cut)) = omega (arith, inner, depth_is, verdict_depth (core_at u w) verdict reg.depth reg.owner cut)
  estae_alive (whats.Begin code dump) m there inner killed = let out : depth_in (Core.levels (core_at u w)) ≡ 0 = m.can.what.1 in omega (arith, inner, out)
  estae_alive _ m there inner (inl killed) = killed
  estae_alive _ m there inner (inr died) = died

-- nor of the ESTAI routines
module _ (d : DeckView) (w : World) (n u : ℕ) (depth : ℕ) (run : AllRun (Core.frrs (core_at u w)) (Core.estaes (core_at u w)) (routines_of (Core.levels (core_at u w)))) where
  estais_stay : (what : What) → IsMade d w n (record { unit = u; what = what }) → IsInner depth (core_at u w) what → Core.estais (own_entry d n w.managers (pending_in w u) what (core_at u w)) ≡ Core.estais (core_at u w)
  estais_stay (whats.Exec at rc) m inner = card_estais n (place_after d at rc (op_at d at.prog at.op)) (op_at d at.prog at.op) (core_at u w)
  estais_stay (whats.Land class from mark) m inner = landed_estais (abort_named class from (pending_in w u)) (core_at u w)
  estais_stay (whats.Enter kind born mark bare) m inner = entered_estais n bare (routine_named kind born w.managers (core_at u w)) (core_at u w)
  estais_stay (whats.Leave kind born verdict logrec dump) m inner =
      let c : Core = core_at u w in
      let own = own_routine d w n u kind born verdict logrec dump m in
      let runs = current_runs c.frrs c.estaes c.levels own.0 own.1 run in
      let other : kind ≡ Estai → ⊥ = λ is. omega (arith, inner, runs.estai (own.2 ∙ is)) in
      retried_estais verdict (current c.levels) (without_routine verdict (is_gone_after verdict (record_in c.levels)) kind born (with_bracket_closed verdict c))
      ∙ other_estais verdict (is_gone_after verdict (record_in c.levels)) kind born c.estais
      (λ stop. other (stop_kind d w n u born logrec dump kind (subst (λ (v : Verdict). IsMade d w n (record { unit = u; what = whats.Leave kind born v logrec dump })) stop m))) other
  estais_stay (whats.Begin code dump) m inner = let out : depth_in (Core.levels (core_at u w)) ≡ 0 = m.can.what.1 in absurd (omega (arith, inner, out))
  estais_stay _ m inner = refl

module _ (d : DeckView) (h : List Entry) (u : ℕ) (what : What) (deck : IsTrue (is_well_formed d)) (legal : Legal d h) (longer : Legal d (h ++ record { unit = u; what = what } ∷ []))
    (m : IsMade d (world d h) (length h) (record { unit = u; what = what })) (depth : ℕ) (inner : IsInner depth (core_at u (world d h)) what) where
  abbrev Before : Core
  Before = core_at u (world d h)

  abbrev After : Core
  After = core_at u (world d (h ++ record { unit = u; what = what } ∷ []))

  less_at : (reg : Reg) → reg.depth ≡ depth → reg.depth < depth_in (Core.levels Before)
  less_at reg e = omega (arith, e, inner_less depth Before what inner)

  frrs_kept : (term : Bool) → frrs_for depth term (Core.frrs After) ≡ frrs_for depth term (Core.frrs Before)
  frrs_kept true = refl
  frrs_kept false =
      same_elements Reg.born (length (h ++ record { unit = u; what = what } ∷ [])) (length h) (filter (is_of_depth depth) (Core.frrs After)) (filter (is_of_depth depth) (Core.frrs Before))
      (falls_filter Reg.born (is_of_depth depth) _ (Core.frrs After) (frrs_fall_then d h u what deck legal longer m))
      (falls_filter Reg.born (is_of_depth depth) _ (Core.frrs Before) (frrs_fall d h u what deck legal longer m))
      (λ z there.
      let is = in_filter (is_of_depth depth) (Core.frrs After) z there in
      filter_in (is_of_depth depth) (Core.frrs Before) z (frr_came d h u what deck legal longer m z is.0 (less_at z (eqb-true (Reg.depth z) depth is.1))).0 is.1)
      (λ z there.
      let is = in_filter (is_of_depth depth) (Core.frrs Before) z there in
      filter_in (is_of_depth depth) (Core.frrs After) z
      (frr_stays d h u what deck legal longer m z is.0 (frr_alive d (world d h) (length h) u depth z (eqb-true (Reg.depth z) depth is.1) (all_run d h deck legal u) what m is.0 inner)) is.1)

  estaes_kept : (term : Bool) → estaes_for depth term (Core.estaes After) ≡ estaes_for depth term (Core.estaes Before)
  estaes_kept term =
      let test : Reg → Bool = λ reg. is_of_depth depth reg && is_admitted term reg in
      same_elements Reg.born (length (h ++ record { unit = u; what = what } ∷ [])) (length h) (filter test (Core.estaes After)) (filter test (Core.estaes Before))
      (falls_filter Reg.born test _ (Core.estaes After) (estaes_fall_then d h u what deck legal longer m))
      (falls_filter Reg.born test _ (Core.estaes Before) (estaes_fall d h u what deck legal longer m))
      (λ z there.
      let is = in_filter test (Core.estaes After) z there in
      let depth_is = eqb-true (Reg.depth z) depth (and_parts (is_of_depth depth z) (is_admitted term z) is.1).0 in
      filter_in test (Core.estaes Before) z (estae_came d h u what deck legal longer m z is.0 (less_at z depth_is)).0 is.1)
      (λ z there.
      let is = in_filter test (Core.estaes Before) z there in
      let depth_is = eqb-true (Reg.depth z) depth (and_parts (is_of_depth depth z) (is_admitted term z) is.1).0 in
      filter_in test (Core.estaes After) z
      (estae_stays d h u what deck legal longer m z is.0 (estae_alive d (world d h) (length h) u depth z depth_is (all_run d h deck legal u) what m is.0 inner)) is.1)

  estais_kept : Core.estais After ≡ Core.estais Before
  estais_kept =
      ap Core.estais (then_is d h u what deck legal longer m)
      ∙ estais_stay d (world d h) (length h) u depth (all_run d h deck legal u) what m inner

  pub list_kept : (term : Bool) → list_at depth term After ≡ list_at depth term Before
  list_kept term = rw (frrs_kept term, estaes_kept term, estais_kept) refl
