-- What is left of an error's list after its routine was left: the list without that routine.
use Rattle.std.proofs.Common.{◌≡◌, ℕ, ◌<◌, ◌+◌, Bool, true, false, not, ◌&&◌, List, [], ◌∷◌, ◌++◌, length, Option, refl, sym, ap, subst, arith, inl, inr, ◌⊎◌, ◌∙◌}
use Rattle.std.proofs.lemmas.Bool.{and_parts, eqb-true}
use Rattle.std.specs.Prelude.{IsTrue, filter, if◌then◌else◌, ◌==◌}
use Rattle.rtm_deck_items.specs.View.{DeckView}
use Rattle.rtm_deck_items.specs.WellFormed.{is_well_formed}
use Rattle.rtm_model.specs.declared.entry.Entry.{Entry}
use Rattle.rtm_model.specs.declared.entry.Verdict.{Verdict}
use Rattle.rtm_model.specs.declared.entry.Verdict.TheVariants.{Bad, Fail, Over, Perc, Retry, Stop}
use Rattle.rtm_model.specs.declared.entry.What.{What}
use Rattle.rtm_model.specs.declared.entry.What.TheVariants as whats
use Rattle.rtm_model.specs.declared.error_record.ErrorRecord.{ErrorRecord}
use Rattle.rtm_model.specs.declared.reg.Kind.{Kind}
use Rattle.rtm_model.specs.declared.reg.Kind.TheVariants.{Estae, Estai, Frr}
use Rattle.rtm_model.specs.declared.reg.Reg.{Reg}
use Rattle.rtm_model.specs.Advance.{world}
use Rattle.rtm_model.specs.Chains.{is_admitted, is_of_depth, without_born}
use Rattle.rtm_model.specs.Eligible.{estaes_for, estais_for, frrs_for}
use Rattle.rtm_model.specs.Legal.{Legal}
use Rattle.rtm_model.specs.Levels.{current, depth_in, record_in}
use Rattle.rtm_model.specs.Moments.{IsIn}
use Rattle.rtm_model.specs.OwnChange.{estais_left, is_gone_after, with_bracket_closed, without_routine}
use Rattle.rtm_model.specs.World.{Core, core_at}
use Rattle.rtm_model.specs.inner.Soundness.{IsCoreSound, IsSound}
use Rattle.rtm_law_births.specs.RequestBlocks as block_law
use Rattle.rtm_law_births.specs.Routines.{IsItsLeave, RemovesRoutine}
use Rattle.rtm_law_births.proofs.Lists.{Falls, falls_in, filter_in, in_filter}
use Rattle.rtm_law_births.proofs.Living.{IsMade}
use Rattle.rtm_law_births.proofs.Numbers.{differs, other}
use Rattle.rtm_law_births.proofs.Routines.{falls}
use Rattle.rtm_law_chains.proofs.Firsts.{list_at}
use Rattle.rtm_law_chains.proofs.Frames.{estae_came, estae_stays, estaes_fall, estaes_fall_then, frr_came, frr_stays, frrs_fall, frrs_fall_then, other_estais, retried_estais, stop_kind, then_is}
use Rattle.rtm_law_chains.proofs.Lists.{falls_filter, same_elements}
use Rattle.rtm_law_chains.proofs.Members.{estae_listed, estai_listed, frr_listed}

-- a list without the one of that birth
pub record Drops (born : ℕ) (before after : List Reg) : Type 0 where
  pub forth : (z : Reg) → IsIn z after → IsIn z before × (z.born ≡ born → ⊥)
  pub back : (z : Reg) → IsIn z before → (z.born ≡ born → ⊥) → IsIn z after

later_in : (reg : Reg) (rest : List Reg) (z : Reg) → IsIn z (reg ∷ rest) → (z ≡ reg → ⊥) → IsIn z rest
later_in reg rest z (inl same) other = absurd (other same)
later_in reg rest z (inr there) other = there

-- where that one is the first, the others
pub first_drops : (n m born : ℕ) (before after : List Reg) (reg : Reg) (rest : List Reg) → Falls Reg.born n before → Falls Reg.born m after → Drops born before after → before ≡ reg ∷ rest → reg.born ≡ born → after ≡ rest
first_drops n m born before after reg rest f g drops is own =
    let falls_on : Falls Reg.born n (reg ∷ rest) = subst (Falls Reg.born n) is f in
    same_elements Reg.born m reg.born after rest g falls_on.1
    (λ z there.
    let was = drops.forth z there in
    later_in reg rest z (subst (IsIn z) is was.0) (λ same. was.1 (ap Reg.born same ∙ own)))
    (λ z there.
    let less = falls_in Reg.born reg.born rest z falls_on.1 there in
    drops.back z (subst (IsIn z) (sym is) (inr there)) (λ same. omega (arith, less, same, own)))

-- where none has that birth, all
pub none_drops : (n m : ℕ) (before after : List Reg) → Falls Reg.born n before → Falls Reg.born m after → ((z : Reg) → IsIn z after → IsIn z before) → ((z : Reg) → IsIn z before → IsIn z after) → after ≡ before
none_drops n m before after f g forth back = same_elements Reg.born m n after before g f forth back

-- The three lists, of which the routine's own drops it

-- one of the bracket is the first
pub record IsFirst (frrs2 estaes2 estais2 left : List Reg) (routine : Reg) : Type 0 where
  pub list_is : (frrs2 ++ estaes2) ++ estais2 ≡ left
  pub other : routine.kind ≡ Estai → ⊥

-- an ESTAI routine comes where the bracket has none
pub record IsLast (frrs2 estaes2 estais left : List Reg) (routine : Reg) : Type 0 where
  pub frrs_none : frrs2 ≡ []
  pub estaes_none : estaes2 ≡ []
  pub estais_is : estais ≡ routine ∷ left
  pub kind_is : routine.kind ≡ Estai

module _ (frrs estaes estais frrs2 estaes2 estais2 : List Reg) (routine : Reg) (left : List Reg)
    (frr_kind : (z : Reg) → IsIn z frrs → z.kind ≡ Frr) (estae_kind : (z : Reg) → IsIn z estaes → z.kind ≡ Estae) (estai_kind : (z : Reg) → IsIn z estais → z.kind ≡ Estai)
    (frrs_keep : (routine.kind ≡ Frr → ⊥) → frrs2 ≡ frrs) (frrs_drop : routine.kind ≡ Frr → (rest : List Reg) → frrs ≡ routine ∷ rest → frrs2 ≡ rest)
    (estaes_keep : (routine.kind ≡ Estae → ⊥) → estaes2 ≡ estaes) (estaes_drop : routine.kind ≡ Estae → (rest : List Reg) → estaes ≡ routine ∷ rest → estaes2 ≡ rest)
    (estais_keep : (routine.kind ≡ Estai → ⊥) → estais2 ≡ estais) where
  not_two : (a b : Kind) → (a ≡ b → ⊥) → routine.kind ≡ a → routine.kind ≡ b → ⊥
  not_two a b other e f = other (sym e ∙ f)

  of_frrs : (fs : List Reg) (f : Reg) → frrs ≡ f ∷ fs → ((f ∷ fs) ++ estaes) ++ estais ≡ routine ∷ left → IsFirst frrs2 estaes2 estais2 left routine
  of_frrs fs f is same =
      let one : f ≡ routine = cc in
      let rest : (fs ++ estaes) ++ estais ≡ left = cc in
      let kind : routine.kind ≡ Frr = frr_kind routine (subst (IsIn routine) (sym is) (inl (sym one))) in
      let own : frrs2 ≡ fs = frrs_drop kind fs (is ∙ ap (λ (z : Reg). z ∷ fs) one) in
      record {
        list_is = rw (own, estaes_keep (not_two Frr Estae (λ e. absurd cc) kind), estais_keep (not_two Frr Estai (λ e. absurd cc) kind)) rest;
        other = not_two Frr Estai (λ e. absurd cc) kind;
      }

  of_estaes : (es : List Reg) (e : Reg) → frrs ≡ [] → estaes ≡ e ∷ es → (e ∷ es) ++ estais ≡ routine ∷ left → IsFirst frrs2 estaes2 estais2 left routine
  of_estaes es e none is same =
      let one : e ≡ routine = cc in
      let rest : es ++ estais ≡ left = cc in
      let kind : routine.kind ≡ Estae = estae_kind routine (subst (IsIn routine) (sym is) (inl (sym one))) in
      let own : estaes2 ≡ es = estaes_drop kind es (is ∙ ap (λ (z : Reg). z ∷ es) one) in
      record {
        list_is = rw (frrs_keep (not_two Estae Frr (λ e. absurd cc) kind) ∙ none, own, estais_keep (not_two Estae Estai (λ e. absurd cc) kind)) rest;
        other = not_two Estae Estai (λ e. absurd cc) kind;
      }

  of_estais : frrs ≡ [] → estaes ≡ [] → estais ≡ routine ∷ left → IsLast frrs2 estaes2 estais left routine
  of_estais none none2 same =
      let kind : routine.kind ≡ Estai = estai_kind routine (subst (IsIn routine) (sym same) (inl refl)) in
      record {
        frrs_none = frrs_keep (not_two Estai Frr (λ e. absurd cc) kind) ∙ none;
        estaes_none = estaes_keep (not_two Estai Estae (λ e. absurd cc) kind) ∙ none2;
        estais_is = same;
        kind_is = kind;
      }

  split : (fs es : List Reg) → frrs ≡ fs → estaes ≡ es → (fs ++ es) ++ estais ≡ routine ∷ left → IsFirst frrs2 estaes2 estais2 left routine ⊎ IsLast frrs2 estaes2 estais left routine
  split (f ∷ fs) es e g same = inl (of_frrs fs f e (subst (λ (xs : List Reg). ((f ∷ fs) ++ xs) ++ estais ≡ routine ∷ left) (sym g) same))
  split [] (x ∷ es) e g same = inl (of_estaes es x e g same)
  split [] [] e g same = inr (of_estais e g same)

  pub left_over : (frrs ++ estaes) ++ estais ≡ routine ∷ left → IsFirst frrs2 estaes2 estais2 left routine ⊎ IsLast frrs2 estaes2 estais left routine
  left_over same = split frrs estaes refl refl same

-- The routine's own LEAVE

-- it goes: with any verdict but Retry, and Over, which recovery routines don't have
abbrev pub IsGone : Verdict → Type 0
IsGone (Retry place) = ⊥
IsGone Over = ⊥
IsGone _ = Unit {0}

removes : (verdict : Verdict) (r : Option ErrorRecord) → IsGone verdict → (verdict ≡ Stop → ⊥) → RemovesRoutine verdict r
removes (Retry place) r gone other = absurd gone
removes Perc r gone other = tt
removes Stop r gone other = absurd (other refl)
removes Bad r gone other = tt
removes Fail r gone other = tt
removes Over r gone other = absurd gone

goes : (verdict : Verdict) (r : Option ErrorRecord) → IsGone verdict → is_gone_after verdict r ≡ true
goes (Retry place) r gone = absurd gone
goes Perc r gone = refl
goes Stop r gone = refl
goes Bad r gone = refl
goes Fail r gone = refl
goes Over r gone = refl

no_cut : (c : Core) (verdict : Verdict) (depth owner : ℕ) → IsGone verdict → block_law.VerdictKills c verdict depth owner → ⊥
no_cut c (Retry place) depth owner gone cut = gone
no_cut c _ depth owner gone cut = cut

stop_or : (verdict : Verdict) → (verdict ≡ Stop) ⊎ (verdict ≡ Stop → ⊥)
stop_or Stop = inl refl
stop_or (Retry place) = inr (λ e. cc)
stop_or Perc = inr (λ e. cc)
stop_or Bad = inr (λ e. cc)
stop_or Fail = inr (λ e. cc)
stop_or Over = inr (λ e. cc)

none_if : (b : Bool) (term : Bool) → (if b then filter (is_admitted term) [] else []) ≡ []
none_if true term = refl
none_if false term = refl

module _ (d : DeckView) (h : List Entry) (u : ℕ) (kind : Kind) (born : ℕ) (verdict : Verdict) (logrec dump : Bool) (deck : IsTrue (is_well_formed d)) (legal : Legal d h)
    (longer : Legal d (h ++ record { unit = u; what = whats.Leave kind born verdict logrec dump } ∷ []))
    (m : IsMade d (world d h) (length h) (record { unit = u; what = whats.Leave kind born verdict logrec dump })) (gone : IsGone verdict)
    (depth : ℕ) (next : depth + 1 ≡ depth_in (Core.levels (core_at u (world d h)))) where
  abbrev Before : Core
  Before = core_at u (world d h)

  abbrev Longer : List Entry
  Longer = h ++ record { unit = u; what = whats.Leave kind born verdict logrec dump } ∷ []

  abbrev After : Core
  After = core_at u (world d (h ++ record { unit = u; what = whats.Leave kind born verdict logrec dump } ∷ []))

  what : What
  what = whats.Leave kind born verdict logrec dump

  not_stop : (other : Kind) → (other ≡ Estai → ⊥) → kind ≡ other → verdict ≡ Stop → ⊥
  not_stop other apart is stop =
      apart (sym is ∙ stop_kind d (world d h) (length h) u born logrec dump kind (subst (λ (v : Verdict). IsMade d (world d h) (length h) (record { unit = u; what = whats.Leave kind born v logrec dump })) stop m))

  shallow : (z : Reg) → z.depth ≡ depth → z.depth < depth_in (Core.levels Before)
  shallow z e = omega (arith, e, next)

  -- FRRs
  frr_forth : (z : Reg) → IsIn z (filter (is_of_depth depth) (Core.frrs After)) → IsIn z (filter (is_of_depth depth) (Core.frrs Before)) × (kind ≡ Frr → z.born ≡ born → ⊥)
  frr_forth z there =
      let is = in_filter (is_of_depth depth) (Core.frrs After) z there in
      let was = frr_came d h u (whats.Leave kind born verdict logrec dump) deck legal longer m z is.0 (shallow z (eqb-true (Reg.depth z) depth is.1)) in (
        filter_in (is_of_depth depth) (Core.frrs Before) z was.0 is.1,
        λ k same. was.1 (inr (record { kind_is = k; born_is = sym same; removes = removes verdict (record_in (Core.levels Before)) gone (not_stop Frr (λ e. absurd cc) k) })),
      )

  frr_back : (z : Reg) → IsIn z (filter (is_of_depth depth) (Core.frrs Before)) → (kind ≡ Frr → z.born ≡ born → ⊥) → IsIn z (filter (is_of_depth depth) (Core.frrs After))
  frr_back z there other =
      let is = in_filter (is_of_depth depth) (Core.frrs Before) z there in
      let depth_is = eqb-true (Reg.depth z) depth is.1 in
      filter_in (is_of_depth depth) (Core.frrs After) z
      (frr_stays d h u (whats.Leave kind born verdict logrec dump) deck legal longer m z is.0
      (λ killed. elim killed [ inl closed ↦ omega (arith, closed, depth_is, next) | inr its ↦ other its.kind_is (sym its.born_is) ])) is.1

  frr_falls_after : Falls Reg.born (length Longer) (filter (is_of_depth depth) (Core.frrs After))
  frr_falls_after = falls_filter Reg.born (is_of_depth depth) (length Longer) (Core.frrs After) (frrs_fall_then d h u (whats.Leave kind born verdict logrec dump) deck legal longer m)

  frr_falls_before : Falls Reg.born (length h) (filter (is_of_depth depth) (Core.frrs Before))
  frr_falls_before = falls_filter Reg.born (is_of_depth depth) (length h) (Core.frrs Before) (frrs_fall d h u (whats.Leave kind born verdict logrec dump) deck legal longer m)

  frrs_keep : (term : Bool) → (kind ≡ Frr → ⊥) → frrs_for depth term (Core.frrs After) ≡ frrs_for depth term (Core.frrs Before)
  frrs_keep true other = refl
  frrs_keep false other = none_drops (length h) (length Longer) _ _ frr_falls_before frr_falls_after (λ z there. (frr_forth z there).0) (λ z there. frr_back z there (λ k same. other k))

  frrs_drop : (term : Bool) → kind ≡ Frr → (reg : Reg) (rest : List Reg) → reg.born ≡ born → frrs_for depth term (Core.frrs Before) ≡ reg ∷ rest → frrs_for depth term (Core.frrs After) ≡ rest
  frrs_drop true k reg rest own is = absurd cc
  frrs_drop false k reg rest own is =
      first_drops (length h) (length Longer) born (filter (is_of_depth depth) (Core.frrs Before)) (filter (is_of_depth depth) (Core.frrs After)) reg rest frr_falls_before frr_falls_after
      (record { forth = λ z there. let was = frr_forth z there in (was.0, was.1 k); back = λ z there other. frr_back z there (λ _. other) }) is own

  -- ESTAE routines
  abbrev Test : Bool → Reg → Bool
  Test term reg = is_of_depth depth reg && is_admitted term reg

  estae_forth : (term : Bool) (z : Reg) → IsIn z (filter (Test term) (Core.estaes After)) → IsIn z (filter (Test term) (Core.estaes Before)) × (kind ≡ Estae → z.born ≡ born → ⊥)
  estae_forth term z there =
      let is = in_filter (Test term) (Core.estaes After) z there in
      let depth_is = eqb-true (Reg.depth z) depth (and_parts (is_of_depth depth z) (is_admitted term z) is.1).0 in
      let was = estae_came d h u (whats.Leave kind born verdict logrec dump) deck legal longer m z is.0 (shallow z depth_is) in (
        filter_in (Test term) (Core.estaes Before) z was.0 is.1,
        λ k same. was.1 (inl (record { kind_is = k; born_is = sym same; removes = removes verdict (record_in (Core.levels Before)) gone (not_stop Estae (λ e. absurd cc) k) })),
      )

  estae_back : (term : Bool) (z : Reg) → IsIn z (filter (Test term) (Core.estaes Before)) → (kind ≡ Estae → z.born ≡ born → ⊥) → IsIn z (filter (Test term) (Core.estaes After))
  estae_back term z there other =
      let is = in_filter (Test term) (Core.estaes Before) z there in
      let depth_is = eqb-true (Reg.depth z) depth (and_parts (is_of_depth depth z) (is_admitted term z) is.1).0 in
      filter_in (Test term) (Core.estaes After) z
      (estae_stays d h u (whats.Leave kind born verdict logrec dump) deck legal longer m z is.0 (λ killed. elim killed [
        | inl its ↦ other (IsItsLeave.kind_is its) (sym (IsItsLeave.born_is its))
        | inr died ↦ elim died [ inl closed ↦ omega (arith, closed, depth_is, next) | inr cut ↦ no_cut Before verdict (Reg.depth z) (Reg.owner z) gone cut ]
      ])) is.1

  estae_falls_after : (term : Bool) → Falls Reg.born (length Longer) (filter (Test term) (Core.estaes After))
  estae_falls_after term = falls_filter Reg.born (Test term) (length Longer) (Core.estaes After) (estaes_fall_then d h u (whats.Leave kind born verdict logrec dump) deck legal longer m)

  estae_falls_before : (term : Bool) → Falls Reg.born (length h) (filter (Test term) (Core.estaes Before))
  estae_falls_before term = falls_filter Reg.born (Test term) (length h) (Core.estaes Before) (estaes_fall d h u (whats.Leave kind born verdict logrec dump) deck legal longer m)

  estaes_keep : (term : Bool) → (kind ≡ Estae → ⊥) → estaes_for depth term (Core.estaes After) ≡ estaes_for depth term (Core.estaes Before)
  estaes_keep term other = none_drops (length h) (length Longer) _ _ (estae_falls_before term) (estae_falls_after term) (λ z there. (estae_forth term z there).0) (λ z there. estae_back term z there (λ k same. other k))

  estaes_drop : (term : Bool) → kind ≡ Estae → (reg : Reg) (rest : List Reg) → reg.born ≡ born → estaes_for depth term (Core.estaes Before) ≡ reg ∷ rest → estaes_for depth term (Core.estaes After) ≡ rest
  estaes_drop term k reg rest own is =
      first_drops (length h) (length Longer) born (filter (Test term) (Core.estaes Before)) (filter (Test term) (Core.estaes After)) reg rest (estae_falls_before term) (estae_falls_after term)
      (record { forth = λ z there. let was = estae_forth term z there in (was.0, was.1 k); back = λ z there other. estae_back term z there (λ _. other) }) is own

  -- ESTAI routines
  estais_are : Core.estais After ≡ estais_left verdict true kind born (Core.estais Before)
  estais_are =
      ap Core.estais (then_is d h u (whats.Leave kind born verdict logrec dump) deck legal longer m)
      ∙ retried_estais verdict (current (Core.levels Before)) (without_routine verdict (is_gone_after verdict (record_in (Core.levels Before))) kind born (with_bracket_closed verdict Before))
      ∙ ap (λ (b : Bool). estais_left verdict b kind born (Core.estais Before)) (goes verdict (record_in (Core.levels Before)) gone)

  estais_keep : (term : Bool) → (kind ≡ Estai → ⊥) → estais_for depth term (Core.estais After) ≡ estais_for depth term (Core.estais Before)
  estais_keep term other =
      ap (estais_for depth term)
      (estais_are ∙ other_estais verdict true kind born (Core.estais Before)
      (λ stop. other (stop_kind d (world d h) (length h) u born logrec dump kind (subst (λ (v : Verdict). IsMade d (world d h) (length h) (record { unit = u; what = whats.Leave kind born v logrec dump })) stop m))) other)

  without_own : (verdict ≡ Stop → ⊥) → kind ≡ Estai → Core.estais After ≡ without_born born (Core.estais Before)
  without_own other k = estais_are ∙ by_verdict verdict gone other k
    where
      by_verdict : (v : Verdict) → IsGone v → (v ≡ Stop → ⊥) → kind ≡ Estai → estais_left v true kind born (Core.estais Before) ≡ without_born born (Core.estais Before)
      by_verdict (Retry place) g o k = absurd g
      by_verdict Over g o k = absurd g
      by_verdict Stop g o k = absurd (o refl)
      by_verdict Perc g o k = rw k refl
      by_verdict Bad g o k = rw k refl
      by_verdict Fail g o k = rw k refl

  estais_fall : Falls Reg.born (length h) (Core.estais Before)
  estais_fall = falls (length h) 0 (Core.estais Before) (IsCoreSound.estais_fall (IsSound.cores m.sound u))

  dropped_if : (term : Bool) (reg : Reg) (rest : List Reg) → reg.born ≡ born → (b : Bool) → (if b then filter (is_admitted term) (Core.estais Before) else []) ≡ reg ∷ rest
      → (if b then filter (is_admitted term) (without_born born (Core.estais Before)) else []) ≡ rest
  dropped_if term reg rest own false is = absurd cc
  dropped_if term reg rest own true is =
      let test : Reg → Bool = λ z. not (z.born == born) in
      first_drops (length h) (length h) born (filter (is_admitted term) (Core.estais Before)) (filter (is_admitted term) (without_born born (Core.estais Before))) reg rest
      (falls_filter Reg.born (is_admitted term) (length h) (Core.estais Before) estais_fall)
      (falls_filter Reg.born (is_admitted term) (length h) (without_born born (Core.estais Before)) (falls_filter Reg.born (λ (z : Reg). not (z.born == born)) (length h) (Core.estais Before) estais_fall))
      (record {
        forth = λ z there.
            let is = in_filter (is_admitted term) (without_born born (Core.estais Before)) z there in
            let was = in_filter (λ (z : Reg). not (z.born == born)) (Core.estais Before) z is.0 in
            (filter_in (is_admitted term) (Core.estais Before) z was.0 is.1, other (Reg.born z) born was.1);
        back = λ z there apart.
            let is = in_filter (is_admitted term) (Core.estais Before) z there in
            filter_in (is_admitted term) (without_born born (Core.estais Before)) z (filter_in (λ (z : Reg). not (z.born == born)) (Core.estais Before) z is.0 (differs (Reg.born z) born apart)) is.1;
      }) is own

  estais_drop : (term : Bool) → (verdict ≡ Stop → ⊥) → kind ≡ Estai → (reg : Reg) (rest : List Reg) → reg.born ≡ born → estais_for depth term (Core.estais Before) ≡ reg ∷ rest → estais_for depth term (Core.estais After) ≡ rest
  estais_drop term other k reg rest own is = ap (estais_for depth term) (without_own other k) ∙ dropped_if term reg rest own (depth == 0) is

  -- all of it
  module _ (term : Bool) (routine : Reg) (left : List Reg) (kind_is : routine.kind ≡ kind) (born_is : routine.born ≡ born) (list_is : list_at depth term (core_at u (world d h)) ≡ routine ∷ left) where
    sound_before : IsCoreSound d (length h) Before
    sound_before = IsSound.cores m.sound u

    parts : IsFirst (frrs_for depth term (Core.frrs After)) (estaes_for depth term (Core.estaes After)) (estais_for depth term (Core.estais After)) left routine
        ⊎ IsLast (frrs_for depth term (Core.frrs After)) (estaes_for depth term (Core.estaes After)) (estais_for depth term (Core.estais Before)) left routine
    parts =
        left_over (frrs_for depth term (Core.frrs Before)) (estaes_for depth term (Core.estaes Before)) (estais_for depth term (Core.estais Before))
        (frrs_for depth term (Core.frrs After)) (estaes_for depth term (Core.estaes After)) (estais_for depth term (Core.estais After)) routine left
        (λ z there. (frr_listed d (length h) Before sound_before depth z term there).kind_is)
        (λ z there. (estae_listed d (length h) Before sound_before depth z term there).kind_is)
        (λ z there. (estai_listed d (length h) Before sound_before depth z term there).kind_is)
        (λ other. frrs_keep term (λ k. other (kind_is ∙ k))) (λ k rest is. frrs_drop term (sym kind_is ∙ k) routine rest born_is is)
        (λ other. estaes_keep term (λ k. other (kind_is ∙ k))) (λ k rest is. estaes_drop term (sym kind_is ∙ k) routine rest born_is is)
        (λ other. estais_keep term (λ k. other (kind_is ∙ k)))
        list_is

    -- what is left is what stood behind the routine
    pub left_list : (verdict ≡ Stop → ⊥) → list_at depth term (core_at u (world d (h ++ record { unit = u; what = whats.Leave kind born verdict logrec dump } ∷ []))) ≡ left
    left_list other = elim parts [
      | inl first ↦ first.list_is
      | inr last ↦ rw (last.frrs_none, last.estaes_none) (estais_drop term other (sym kind_is ∙ last.kind_is) routine left born_is last.estais_is)
    ]

    -- after a Stop nothing is
    pub stopped_list : verdict ≡ Stop → list_at depth term (core_at u (world d (h ++ record { unit = u; what = whats.Leave kind born verdict logrec dump } ∷ []))) ≡ []
    stopped_list stop = elim parts [
      | inl first ↦ absurd (first.other (kind_is ∙ stop_kind d (world d h) (length h) u born logrec dump kind (subst (λ (v : Verdict). IsMade d (world d h) (length h) (record { unit = u; what = whats.Leave kind born v logrec dump })) stop m)))
      | inr last ↦
          let none : Core.estais After ≡ [] = estais_are ∙ ap (λ (v : Verdict). estais_left v true kind born (Core.estais Before)) stop in
          rw (last.frrs_none, last.estaes_none, none) (none_if (depth == 0) term)
    ]
