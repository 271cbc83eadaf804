-- The routines that run: an FRR or ESTAE routine was made in the bracket around its own, and an ESTAI routine runs in
-- the bracket next to the outermost.
use Rattle.std.proofs.Common.{◌≡◌, ℕ, ◌<◌, ◌+◌, Bool, true, false, not, List, [], ◌∷◌, ◌++◌, length, Option, Some, None, refl, sym, ap, subst, arith, inl, inr, ◌⊎◌, ◌∙◌}
use Rattle.std.specs.List.{AllByRecursion}
use Rattle.std.specs.Prelude.{IfSome, IsSomeAnd, IsTrue, if◌then◌else◌, is_some}
use Rattle.rtm_deck_items.specs.Reading.{op_at}
use Rattle.rtm_deck_items.specs.View.{DeckView}
use Rattle.rtm_deck_items.specs.WellFormed.{is_well_formed}
use Rattle.rtm_deck_items.specs.declared.op.Op.{Op}
use Rattle.rtm_deck_items.specs.declared.op.Op.TheVariants as ops
use Rattle.rtm_model.specs.declared.abort.Abort.{Abort}
use Rattle.rtm_model.specs.declared.block.Place.{Place}
use Rattle.rtm_model.specs.declared.entry.Entry.{Entry}
use Rattle.rtm_model.specs.declared.entry.Verdict.{Verdict}
use Rattle.rtm_model.specs.declared.entry.What.{What}
use Rattle.rtm_model.specs.declared.entry.What.TheVariants as whats
use Rattle.rtm_model.specs.declared.error_record.ErrorRecord.{ErrorRecord}
use Rattle.rtm_model.specs.declared.error_record.RecordFlags.{RecordFlags}
use Rattle.rtm_model.specs.declared.reg.Kind.{Kind}
use Rattle.rtm_model.specs.declared.reg.Kind.TheVariants.{Estae, Estai, Frr, Mgr}
use Rattle.rtm_model.specs.declared.reg.Reg.{Reg}
use Rattle.rtm_model.specs.Aborts.{abort_named}
use Rattle.rtm_model.specs.Advance.{world}
use Rattle.rtm_model.specs.Legal.{Legal}
use Rattle.rtm_model.specs.Levels.{Bracket, after_leave, after_verdict, at_enclosing, at_innermost, current, depth_in, error_in, is_manager, on_record, record_in, recovers, with_open}
use Rattle.rtm_model.specs.Moments.{IsIn}
use Rattle.rtm_model.specs.NextEntry.{landed_record}
use Rattle.rtm_model.specs.OwnChange.{is_gone_after, own_card, own_entry, place_after, routine_named, with_bracket_closed, with_landed, with_routine_entered, without_routine}
use Rattle.rtm_model.specs.Record.{ret15_in, setrp_in}
use Rattle.rtm_model.specs.World.{Core, World, core_at, start}
use Rattle.rtm_model.specs.inner.Applies.{CanEnter}
use Rattle.rtm_model.specs.inner.Soundness.{IsCoreSound, IsSound, RunsSince}
use Rattle.rtm_law_births.specs.Estaes as estae_law
use Rattle.rtm_law_births.specs.Estaes.{estaes}
use Rattle.rtm_law_births.specs.Frrs as frr_law
use Rattle.rtm_law_births.specs.Frrs.{frrs}
use Rattle.rtm_law_births.proofs.Errors.{levels_after, levels_at_start}
use Rattle.rtm_law_births.proofs.Estaes.{estaes_live}
use Rattle.rtm_law_births.proofs.Frrs.{frrs_live}
use Rattle.rtm_law_births.proofs.InnerBrackets.{verdict_keeps}
use Rattle.rtm_law_births.proofs.Living.{IsMade}
use Rattle.rtm_law_births.proofs.Lists.{Falls, falls_in}
use Rattle.rtm_law_births.proofs.Routines.{falls}
use Rattle.rtm_law_births.proofs.Sound.{sound_history}
use Rattle.rtm_law_sound.proofs.Histories.{world-append, world-nil}
use Rattle.rtm_law_landings.proofs.Changes.{IsOthers, core_after}
use Rattle.rtm_law_landings.proofs.Nexts.{pending_in}
use Rattle.rtm_law_chains.proofs.Acts.{next_acts}
use Rattle.rtm_law_chains.proofs.Members.{IsEntered, IsEstaeOf, IsEstaiOf, IsFrrOf, entered, entered_in, listed, same_birth}
use Rattle.rtm_law_chains.proofs.Steps.{came, through}

-- the routines of brackets
abbrev pub routines_of : List Bracket → List (Option Reg)
routines_of [] = []
routines_of (l ∷ ls) = l.routine ∷ routines_of ls

pub length_routines : (ls : List Bracket) → length (routines_of ls) ≡ length ls
length_routines [] = refl
length_routines (l ∷ ls) = let rest = length_routines ls in omega (arith, rest)

-- A routine that runs in the bracket of that depth, of a unit that has those FRRs and ESTAE routines
pub record RunsAt (frrs estaes : List Reg) (depth : ℕ) (routine : Reg) : Type 0 where
  pub frr : routine.kind ≡ Frr → (reg : Reg) → IsIn reg frrs → reg.born ≡ routine.born → reg.depth + 1 ≡ depth
  pub estae : routine.kind ≡ Estae → (reg : Reg) → IsIn reg estaes → reg.born ≡ routine.born → reg.depth + 1 ≡ depth
  pub estai : routine.kind ≡ Estai → depth ≡ 1

abbrev pub AllRun : List Reg → List Reg → List (Option Reg) → Type 0
AllRun fs es [] = Unit {0}
AllRun fs es (o ∷ os) = IfSome o (RunsAt fs es (length os)) × AllRun fs es os

-- lists with no more routines than before, but for newer ones
abbrev IsPart : ℕ → List Reg → List Reg → Type 0
IsPart n after before = (reg : Reg) → IsIn reg after → IsIn reg before ⊎ (reg.born ≡ n)

module _ (n : ℕ) (frrs1 estaes1 frrs2 estaes2 : List Reg) (frr : IsPart n frrs2 frrs1) (estae : IsPart n estaes2 estaes1) where
  part_of : (before after : List Reg) → IsPart n after before → (routine : Reg) (depth : ℕ) → routine.born < n → ((reg : Reg) → IsIn reg before → reg.born ≡ routine.born → reg.depth + 1 ≡ depth)
      → (reg : Reg) → IsIn reg after → reg.born ≡ routine.born → reg.depth + 1 ≡ depth
  part_of before after part routine depth since was reg there same = elim (part reg there) [
    | inl old ↦ was reg old same
    | inr new ↦ absurd (omega (arith, since, same, new))
  ]

  part_runs : (o : Option Reg) (depth : ℕ) → IfSome o (λ reg. reg.born < n) → IfSome o (RunsAt frrs1 estaes1 depth) → IfSome o (RunsAt frrs2 estaes2 depth)
  part_runs None depth since h = tt
  part_runs (Some routine) depth since h = record {
    frr = λ kind. part_of frrs1 frrs2 frr routine depth since (h.frr kind);
    estae = λ kind. part_of estaes1 estaes2 estae routine depth since (h.estae kind);
    estai = h.estai;
  }

  part_run : (ls : List Bracket) → AllByRecursion (RunsSince n) ls → AllRun frrs1 estaes1 (routines_of ls) → AllRun frrs2 estaes2 (routines_of ls)
  part_run [] since h = tt
  part_run (l ∷ ls) since h = (part_runs l.routine (length (routines_of ls)) since.0 h.0, part_run ls since.1 h.1)

-- Changes of levels leave the routines, but for ENTER and LEAVE
inner_same : (f : Bracket → Bracket) → ((l : Bracket) → Bracket.routine (f l) ≡ l.routine) → (ls : List Bracket) → routines_of (at_innermost f ls) ≡ routines_of ls
inner_same f keeps [] = refl
inner_same f keeps (l ∷ ls) = ap (λ (o : Option Reg). o ∷ routines_of ls) (keeps l)

enclosing_same : (f : ErrorRecord → ErrorRecord) (ls : List Bracket) (b : Bool) → routines_of (if b then at_enclosing (on_record f) ls else ls) ≡ routines_of ls
enclosing_same f [] true = refl
enclosing_same f (l ∷ ls) true = ap (λ (os : List (Option Reg)). l.routine ∷ os) (inner_same (on_record f) (λ l. refl) ls)
enclosing_same f ls false = refl

card_same : (n : ℕ) (place : Place) (op : Op) (c : Core) → routines_of (Core.levels (own_card n place op c)) ≡ routines_of c.levels
card_same n place (ops.SetRp setrp) c = enclosing_same (setrp_in setrp) c.levels (recovers c.levels)
card_same n place (ops.Ret15 rc label) c = enclosing_same (ret15_in rc label) c.levels (recovers c.levels)
card_same n place _ c = refl

landed_same : (o : Option Abort) (c : Core) → routines_of (Core.levels (with_landed o c)) ≡ routines_of c.levels
landed_same None c = refl
landed_same (Some abort) c = inner_same (with_open (Some (landed_record abort))) (λ l. refl) c.levels

left_run : (fs es : List Reg) (verdict : Verdict) (ls : List Bracket) → AllRun fs es (routines_of ls) → AllRun fs es (routines_of (after_leave verdict ls))
left_run fs es verdict [] h = h
left_run fs es verdict (l ∷ ls) h =
    subst (AllRun fs es) (sym (inner_same (after_verdict verdict l.error) (λ o. (verdict_keeps verdict l.error o).0) ls)) h.1

-- A routine that is entered

module _ (d : DeckView) (n : ℕ) (c : Core) (sound : IsCoreSound d n c) (frrs2 estaes2 : List Reg) (frr : IsPart n frrs2 c.frrs) (estae : IsPart n estaes2 c.estaes) (reg0 : Reg) (kind : Kind) (born : ℕ)
    (kind_is : reg0.kind ≡ kind) (born_is : reg0.born ≡ born) where
  some_levels : length (routines_of c.levels) ≡ depth_in c.levels + 1
  some_levels = omega (arith, length_routines c.levels, sound.levels_some)

  of_one : (before after : List Reg) → IsPart n after before → Falls Reg.born n before → (is : IsEntered c kind born) → IsIn is.routine before → Reg.depth is.routine ≡ depth_in c.levels
      → (reg : Reg) → IsIn reg after → reg.born ≡ reg0.born → reg.depth + 1 ≡ length (routines_of c.levels)
  of_one before after part fall is there depth reg here same = elim (part reg here) [
    | inl old ↦
        let one : reg ≡ is.routine = same_birth before n fall reg is.routine old there (same ∙ born_is ∙ is.born_is) in
        omega (arith, some_levels, depth, ap Reg.depth one)
    | inr new ↦ let less = falls_in Reg.born n before is.routine fall there in absurd (omega (arith, less, new, same, born_is, is.born_is))
  ]

  kind_of : (is : IsEntered c kind born) → reg0.kind ≡ Reg.kind is.routine
  kind_of is = kind_is ∙ is.kind_is

  listed_runs : (is : IsEntered c kind born) → IsFrrOf (depth_in c.levels) c is.routine ⊎ IsEstaeOf (depth_in c.levels) c is.routine ⊎ IsEstaiOf (depth_in c.levels) c is.routine
      → RunsAt frrs2 estaes2 (length (routines_of c.levels)) reg0
  listed_runs is (inl of) = record {
    frr = λ _. of_one c.frrs frrs2 frr (falls n (depth_in c.levels) c.frrs sound.frrs_fall) is of.there of.depth_is;
    estae = λ other. let clash : Frr ≡ Estae = sym (kind_of is ∙ of.kind_is) ∙ other in absurd cc;
    estai = λ other. let clash : Frr ≡ Estai = sym (kind_of is ∙ of.kind_is) ∙ other in absurd cc;
  }
  listed_runs is (inr (inl of)) = record {
    frr = λ other. let clash : Estae ≡ Frr = sym (kind_of is ∙ of.kind_is) ∙ other in absurd cc;
    estae = λ _. of_one c.estaes estaes2 estae (falls n (depth_in c.levels) c.estaes sound.estaes_fall) is of.there of.depth_is;
    estai = λ other. let clash : Estae ≡ Estai = sym (kind_of is ∙ of.kind_is) ∙ other in absurd cc;
  }
  listed_runs is (inr (inr of)) = record {
    frr = λ other. let clash : Estai ≡ Frr = sym (kind_of is ∙ of.kind_is) ∙ other in absurd cc;
    estae = λ other. let clash : Estai ≡ Estae = sym (kind_of is ∙ of.kind_is) ∙ other in absurd cc;
    estai = λ _. omega (arith, some_levels, of.outermost);
  }

  manager_runs : kind ≡ Mgr → RunsAt frrs2 estaes2 (length (routines_of c.levels)) reg0
  manager_runs mgr = record {
    frr = λ other. let clash : Mgr ≡ Frr = sym (kind_is ∙ mgr) ∙ other in absurd cc;
    estae = λ other. let clash : Mgr ≡ Estae = sym (kind_is ∙ mgr) ∙ other in absurd cc;
    estai = λ other. let clash : Mgr ≡ Estai = sym (kind_is ∙ mgr) ∙ other in absurd cc;
  }

manager_or : (kind : Kind) → (kind ≡ Mgr) ⊎ (is_manager kind ≡ false)
manager_or Mgr = inl refl
manager_or Frr = inr refl
manager_or Estae = inr refl
manager_or Estai = inr refl

-- the routine of an ENTER has its name, and an error is open unless it is a manager
pub enter_facts : (o : Option Reg) (kind : Kind) (born : ℕ) (c : Core) (programs : ℕ) → IsSomeAnd o (λ routine. (routine.kind ≡ kind) × (routine.born ≡ born) × CanEnter c (is_manager kind) routine.prog programs)
    → IsSomeAnd o (λ routine. (routine.kind ≡ kind) × (routine.born ≡ born)) × (is_some (error_in c.levels) ≡ not (is_manager kind))
enter_facts None kind born c programs h = absurd h
enter_facts (Some reg) kind born c programs h = ((h.0, h.1), CanEnter.cause h.2)

-- What an entry makes is born at it
frr_card : (n rc : ℕ) (op : Op) (c : Core) (reg : Reg) → frr_law.CardMakes n c rc op reg → (reg.born ≡ n) × (reg.depth ≡ depth_in c.levels) × (reg.term ≡ false)
frr_card n rc (ops.FrrAdd prog) c reg h = (ap Reg.born h.1, ap Reg.depth h.1, ap Reg.term h.1)
frr_card n rc (ops.FrrReplace prog) c reg h = (ap Reg.born h.1, ap Reg.depth h.1, ap Reg.term h.1)
frr_card n rc _ c reg h = absurd h

pub frr_made : (d : DeckView) (n : ℕ) (what : What) (c : Core) (reg : Reg) → frr_law.EntryMakes d n c what reg → (reg.born ≡ n) × (reg.depth ≡ depth_in c.levels) × (reg.term ≡ false)
frr_made d n (whats.Exec at rc) c reg h = frr_card n rc (op_at d at.prog at.op) c reg h
frr_made d n _ c reg h = absurd h

estae_card : (n rc : ℕ) (op : Op) (c : Core) (reg : Reg) → estae_law.CardMakes n c rc op reg → (reg.born ≡ n) × (reg.depth ≡ depth_in c.levels)
estae_card n rc (ops.EstaexCt prog term cancel xctl) c reg h = (ap Reg.born h.1, ap Reg.depth h.1)
estae_card n rc (ops.EstaexOv prog term cancel xctl) c reg h = (ap Reg.born h.1, ap Reg.depth h.1)
estae_card n rc _ c reg h = absurd h

pub estae_made : (d : DeckView) (n : ℕ) (what : What) (c : Core) (reg : Reg) → estae_law.EntryMakes d n c what reg → (reg.born ≡ n) × (reg.depth ≡ depth_in c.levels)
estae_made d n (whats.Exec at rc) c reg h = estae_card n rc (op_at d at.prog at.op) c reg h
estae_made d n _ c reg h = absurd h

-- Each entry

module _ (d : DeckView) (h : List Entry) (e : Entry) (deck : IsTrue (is_well_formed d)) (legal : Legal d h) (longer : Legal d (h ++ e ∷ [])) (m : IsMade d (world d h) (length h) e) where
  frr_part : (v : ℕ) → IsPart (length h) (Core.frrs (core_at v (world d (h ++ e ∷ [])))) (Core.frrs (core_at v (world d h)))
  frr_part v reg there =
      let now = frrs_live d h (sound_history d h deck legal) legal in
      let after = frrs_live d (h ++ e ∷ []) (sound_history d (h ++ e ∷ []) deck longer) longer in
      elim (came frrs d h e now.living after.living (record { unit = v; reg = reg }) there) [
        | inl born ↦ inr (frr_made d (length h) e.what (core_at e.unit (world d h)) reg born.1).0
        | inr stayed ↦ inl stayed.0
      ]

  estae_part : (v : ℕ) → IsPart (length h) (Core.estaes (core_at v (world d (h ++ e ∷ [])))) (Core.estaes (core_at v (world d h)))
  estae_part v reg there =
      let now = estaes_live d h (sound_history d h deck legal) legal in
      let after = estaes_live d (h ++ e ∷ []) (sound_history d (h ++ e ∷ []) deck longer) longer in
      elim (came estaes d h e now.living after.living (record { unit = v; reg = reg }) there) [
        | inl born ↦ inr (estae_made d (length h) e.what (core_at e.unit (world d h)) reg born.1).0
        | inr stayed ↦ inl stayed.0
      ]

  module _ (u : ℕ) where
    abbrev frrs2 : List Reg
    frrs2 = Core.frrs (core_at u (world d (h ++ e ∷ [])))

    abbrev estaes2 : List Reg
    estaes2 = Core.estaes (core_at u (world d (h ++ e ∷ [])))

    enter_runs : (kind : Kind) (born : ℕ) (reg : Reg) → reg.kind ≡ kind → reg.born ≡ born → (is_manager kind ≡ false → IsEntered (core_at u (world d h)) kind born) → (kind ≡ Mgr) ⊎ (is_manager kind ≡ false)
        → RunsAt (Core.frrs (core_at u (world d (h ++ e ∷ [])))) (Core.estaes (core_at u (world d (h ++ e ∷ [])))) (length (routines_of (Core.levels (core_at u (world d h))))) reg
    enter_runs kind born reg k b is (inl mgr) =
        manager_runs d (length h) (core_at u (world d h)) (IsSound.cores m.sound u) frrs2 estaes2 (frr_part u) (estae_part u) reg kind born k b mgr
    enter_runs kind born reg k b is (inr other) =
        let c : Core = core_at u (world d h) in
        let one : IsEntered c kind born = is other in
        listed_runs d (length h) c (IsSound.cores m.sound u) frrs2 estaes2 (frr_part u) (estae_part u) reg kind born k b one
        (listed d (length h) c (IsSound.cores m.sound u) (depth_in c.levels) (IsEntered.routine one) (RecordFlags.term_only (ErrorRecord.flags (IsEntered.error one))) (entered_in c kind born one))

    abbrev RunIn : List Bracket → Type 0
    RunIn ls = AllRun (Core.frrs (core_at u (world d (h ++ e ∷ [])))) (Core.estaes (core_at u (world d (h ++ e ∷ [])))) (routines_of ls)

    entered_run : (bare : Bool) (o : Option Reg) (kind : Kind) (born : ℕ) → IsSomeAnd o (λ routine. (routine.kind ≡ kind) × (routine.born ≡ born)) → (is_manager kind ≡ false → IsEntered (core_at u (world d h)) kind born)
        → RunIn (Core.levels (core_at u (world d h))) → RunIn (Core.levels (with_routine_entered (length h) bare o (core_at u (world d h))))
    entered_run bare None kind born has is run = absurd has
    entered_run bare (Some reg) kind born has is run = (enter_runs kind born reg has.0 has.1 is (manager_or kind), run)

    own_run : (what : What) → IsMade d (world d h) (length h) (record { unit = u; what = what }) → RunIn (Core.levels (core_at u (world d h)))
        → RunIn (Core.levels (own_entry d (length h) (World.managers (world d h)) (pending_in (world d h) u) what (core_at u (world d h))))
    own_run (whats.Exec at rc) own run =
        subst (AllRun frrs2 estaes2) (sym (card_same (length h) (place_after d at rc (op_at d at.prog at.op)) (op_at d at.prog at.op) (core_at u (world d h)))) run
    own_run (whats.Error at mark) own run = subst (AllRun frrs2 estaes2) (sym (inner_same (with_open (Some _)) (λ l. refl) (Core.levels (core_at u (world d h))))) run
    own_run (whats.Land class from mark) own run = subst (AllRun frrs2 estaes2) (sym (landed_same (abort_named class from (pending_in (world d h) u)) (core_at u (world d h)))) run
    own_run (whats.Enter kind born mark bare) own run =
        let c : Core = core_at u (world d h) in
        let o : Option Reg = routine_named kind born (World.managers (world d h)) c in
        let facts = enter_facts o kind born c (length d.programs) own.can.what.0 in
        entered_run bare o kind born facts.0 (λ other. entered d c kind born mark bare (facts.1 ∙ ap not other) (next_acts d (world d h) u (whats.Enter kind born mark bare) own.may)) run
    own_run (whats.Leave kind born verdict logrec dump) own run =
        let c : Core = core_at u (world d h) in
        let levels = levels_after verdict (current c.levels) (without_routine verdict (is_gone_after verdict (record_in c.levels)) kind born (with_bracket_closed verdict c)) in
        subst RunIn (sym levels) (left_run frrs2 estaes2 verdict c.levels run)
    own_run (whats.Begin code dump) own run = (tt, tt)
    own_run _ own run = run

    others_run : (what : What) (after before : Core) → IsOthers u what after before → RunIn before.levels → RunIn after.levels
    others_run what after before (inl left) run = subst (λ (c : Core). RunIn c.levels) (sym left.core) run
    others_run what after before (inr (inl born)) run = subst (λ (c : Core). RunIn c.levels) (sym born.core) run
    others_run what after before (inr (inr purged)) run = subst (λ (c : Core). RunIn c.levels) (sym purged.core) (tt, tt)

  abbrev RunsNow : List Entry → ℕ → Type 0
  RunsNow hs v = AllRun (Core.frrs (core_at v (world d hs))) (Core.estaes (core_at v (world d hs))) (routines_of (Core.levels (core_at v (world d hs))))

  own_run_at : (v : ℕ) → v ≡ e.unit → RunIn v (Core.levels (core_at v (world d h)))
      → AllRun (frrs2 v) (estaes2 v) (routines_of (Core.levels (own_entry d (length h) (World.managers (world d h)) (pending_in (world d h) e.unit) e.what (core_at e.unit (world d h)))))
  own_run_at v mine run =
      subst (λ (i : ℕ). AllRun (frrs2 i) (estaes2 i) (routines_of (Core.levels (own_entry d (length h) (World.managers (world d h)) (pending_in (world d h) e.unit) e.what (core_at e.unit (world d h)))))) (sym mine)
      (own_run e.unit e.what m (subst (λ (i : ℕ). RunIn i (Core.levels (core_at i (world d h)))) mine run))

  run_keeps : ((v : ℕ) → RunsNow h v) → (v : ℕ) → RunsNow (h ++ e ∷ []) v
  run_keeps all v =
      let c : Core = core_at v (world d h) in
      let part = part_run (length h) c.frrs c.estaes (frrs2 v) (estaes2 v) (frr_part v) (estae_part v) c.levels (IsCoreSound.routines (IsSound.cores m.sound v)) (all v) in
      subst (λ (w : World). AllRun (frrs2 v) (estaes2 v) (routines_of (Core.levels (core_at v w)))) (sym (world-append d h e))
      (core_after d (world d h) (length h) e.unit v e.what m (λ c. AllRun (frrs2 v) (estaes2 v) (routines_of c.levels))
      (λ mine stays. own_run_at v mine part)
      (λ other after change. others_run v e.what after c change part))

-- so in each legal history
abbrev pub AllRunIn : DeckView → List Entry → Type 0
AllRunIn d h = (v : ℕ) → AllRun (Core.frrs (core_at v (world d h))) (Core.estaes (core_at v (world d h))) (routines_of (Core.levels (core_at v (world d h))))

pub all_run : (d : DeckView) (h : List Entry) → IsTrue (is_well_formed d) → Legal d h → AllRunIn d h
all_run d h deck legal =
    through d deck (AllRunIn d)
    (λ v. subst (λ (w : World). AllRun (Core.frrs (core_at v w)) (Core.estaes (core_at v w)) (routines_of (Core.levels (core_at v w)))) (sym (world-nil d))
    (subst (λ (ls : List Bracket). AllRun (Core.frrs (core_at v (start d))) (Core.estaes (core_at v (start d))) (routines_of ls)) (sym (levels_at_start d v)) (tt, tt)))
    (λ front e before longer m all. run_keeps d front e deck before longer m all) h legal
