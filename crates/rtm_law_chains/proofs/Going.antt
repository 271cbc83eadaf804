-- An entry of a unit keeps the state of each of its errors.
use Rattle.std.proofs.Common.{◌≡◌, ℕ, zero, ◌<◌, ◌≤◌, Bool, true, false, cond, List, [], ◌∷◌, ◌++◌, length, Option, Some, None, refl, sym, ap, subst, arith, inl, inr, ◌⊎◌, ◌∙◌}
use Rattle.std.proofs.lemmas.Bool.{eq-eqb, eqb-true}
use Rattle.std.specs.Prelude.{IsSomeAnd, IsTrue, find, is_some, ◌==◌}
use Rattle.rtm_deck_items.specs.View.{DeckView}
use Rattle.rtm_deck_items.specs.WellFormed.{is_well_formed}
use Rattle.rtm_model.specs.declared.entry.Entry.{Entry}
use Rattle.rtm_model.specs.declared.entry.Verdict.{Verdict}
use Rattle.rtm_model.specs.declared.entry.Verdict.TheVariants.{Fail}
use Rattle.rtm_model.specs.declared.entry.What.{What}
use Rattle.rtm_model.specs.declared.entry.What.TheVariants as whats
use Rattle.rtm_model.specs.declared.error_record.ErrorRecord.{ErrorRecord}
use Rattle.rtm_model.specs.declared.error_record.RecordFlags.{RecordFlags}
use Rattle.rtm_model.specs.declared.holding.Manager1.{Manager1}
use Rattle.rtm_model.specs.declared.mark.Mark.{Mark}
use Rattle.rtm_model.specs.declared.reg.Kind.{Kind}
use Rattle.rtm_model.specs.declared.reg.Kind.TheVariants.{Estae, Estai, Frr, Mgr}
use Rattle.rtm_model.specs.declared.reg.Reg.{Reg}
use Rattle.rtm_model.specs.Advance.{world}
use Rattle.rtm_model.specs.Blocks.{newest}
use Rattle.rtm_model.specs.Course.{Course, course_by}
use Rattle.rtm_model.specs.Course.{Goes, Stopped}
use Rattle.rtm_model.specs.Eligible.{is_named, is_same_kind}
use Rattle.rtm_model.specs.Legal.{Legal}
use Rattle.rtm_model.specs.Levels.{Bracket, current, depth_in, error_in}
use Rattle.rtm_model.specs.Moments.{IsIn}
use Rattle.rtm_model.specs.NextEntry.{eligible_routine, handling_of}
use Rattle.rtm_model.specs.OwnChange.{routine_named, with_routine_entered}
use Rattle.rtm_model.specs.World.{Core, World, core_at}
use Rattle.rtm_model.specs.inner.Soundness.{IsCoreSound, IsSound}
use Rattle.rtm_law_births.proofs.Lists.{Falls, falls_in}
use Rattle.rtm_law_births.proofs.Living.{IsMade}
use Rattle.rtm_law_births.proofs.Routines.{falls}
use Rattle.rtm_law_chains.proofs.Acts.{IsNext, next_acts}
use Rattle.rtm_law_chains.proofs.Courses.{HasState, IsGoing, IsRunning, IsStopped, RunsOver}
use Rattle.rtm_law_chains.proofs.Firsts.{eligible_first, list_at}
use Rattle.rtm_law_chains.proofs.Frames.{then_is}
use Rattle.rtm_law_chains.proofs.Members.{IsEntered, IsEstaeOf, IsEstaiOf, IsFrrOf, entered, entered_in, listed}

-- Names

same_kind : (kind : Kind) → is_same_kind kind kind ≡ true
same_kind Frr = refl
same_kind Estae = refl
same_kind Estai = refl
same_kind Mgr = refl

pub named_true : (kind : Kind) (born : ℕ) (reg : Reg) → kind ≡ reg.kind → born ≡ reg.born → is_named kind born reg ≡ true
named_true kind born reg k b = rw (k, same_kind reg.kind, eq-eqb reg.born born (sym b)) refl

-- the routine of that birth in a list that has it
found_if : (reg x : Reg) (xs : List Reg) (born : ℕ) (b : Bool) → (x.born == born) ≡ b → reg.born ≡ born → (reg ≡ x) ⊎ ((reg.born < x.born) × (find (λ (r : Reg). r.born == born) xs ≡ Some reg)) → cond b (Some x) (find (λ (r : Reg). r.born == born) xs) ≡ Some reg
found_if reg x xs born true e own (inl same) = ap Some (sym same)
found_if reg x xs born true e own (inr more) = absurd (omega (arith, eqb-true x.born born e, own, more.0))
found_if reg x xs born false e own (inl same) = let clash : (x.born == born) ≡ true = eq-eqb x.born born (sym (ap Reg.born same) ∙ own) in absurd cc
found_if reg x xs born false e own (inr more) = more.1

found_own : (xs : List Reg) (n born : ℕ) (reg : Reg) → Falls Reg.born n xs → IsIn reg xs → reg.born ≡ born → find (λ (r : Reg). r.born == born) xs ≡ Some reg
found_own [] n born reg f there own = absurd there
found_own (x ∷ xs) n born reg f (inl same) own = found_if reg x xs born (x.born == born) refl own (inl same)
found_own (x ∷ xs) n born reg f (inr there) own =
    found_if reg x xs born (x.born == born) refl own (inr (falls_in Reg.born x.born xs reg f.1 there, found_own xs x.born born reg f.1 there own))

named_is : (d : DeckView) (n : ℕ) (managers : List Manager1) (c : Core) → IsCoreSound d n c → (depth : ℕ) (kind : Kind) (born : ℕ) (reg : Reg) → kind ≡ reg.kind → born ≡ reg.born
    → IsFrrOf depth c reg ⊎ IsEstaeOf depth c reg ⊎ IsEstaiOf depth c reg → routine_named kind born managers c ≡ Some reg
named_is d n managers c sound depth kind born reg k b (inl is) =
    subst (λ (x : Kind). routine_named x born managers c ≡ Some reg) (sym (k ∙ is.kind_is)) (found_own c.frrs n born reg (falls n (depth_in c.levels) c.frrs sound.frrs_fall) is.there (sym b))
named_is d n managers c sound depth kind born reg k b (inr (inl is)) =
    subst (λ (x : Kind). routine_named x born managers c ≡ Some reg) (sym (k ∙ is.kind_is)) (found_own c.estaes n born reg (falls n (depth_in c.levels) c.estaes sound.estaes_fall) is.there (sym b))
named_is d n managers c sound depth kind born reg k b (inr (inr is)) =
    subst (λ (x : Kind). routine_named x born managers c ≡ Some reg) (sym (k ∙ is.kind_is)) (found_own c.estais n born reg (falls n 0 c.estais sound.estais_fall) is.there (sym b))

-- What an open error makes

abbrev pub is_handling : What → Bool
is_handling (whats.Enter kind born mark bare) = true
is_handling (whats.Leave kind born verdict logrec dump) = true
is_handling (whats.Begin code dump) = true
is_handling _ = false

handles : (sdwa : Bool) (r : ErrorRecord) (o own : Option Reg) → is_handling (handling_of sdwa r o own) ≡ true
handles sdwa r (Some reg) own = refl
handles sdwa r None (Some own) = refl
handles sdwa r None None = refl

pub none_other : (d : DeckView) (c : Core) (what : What) (r : ErrorRecord) → error_in c.levels ≡ Some r → IsNext d c what → is_handling what ≡ false → ⊥
none_other d c what r e next other =
    let clash : false ≡ true = sym other ∙ ap is_handling (next.handles r e) ∙ handles d.sdwa r (eligible_routine c r) (current c.levels) in
    cc

pub record IsFailed (c : Core) (r : ErrorRecord) (kind : Kind) (born : ℕ) (verdict : Verdict) : Type 0 where
  pub none : eligible_routine c r ≡ None
  pub fails : verdict ≡ Fail
  pub own : Reg
  pub own_is : current c.levels ≡ Some own
  pub kind_is : kind ≡ own.kind
  pub born_is : born ≡ own.born

failed_by : (sdwa : Bool) (c : Core) (r : ErrorRecord) (kind : Kind) (born : ℕ) (verdict : Verdict) (logrec dump : Bool) (o own : Option Reg) → eligible_routine c r ≡ o → current c.levels ≡ own
    → whats.Leave kind born verdict logrec dump ≡ handling_of sdwa r o own → IsFailed c r kind born verdict
failed_by sdwa c r kind born verdict logrec dump (Some reg) own e f same = absurd cc
failed_by sdwa c r kind born verdict logrec dump None (Some own) e f same = record { none = e; fails = cc; own = own; own_is = f; kind_is = cc; born_is = cc }
failed_by sdwa c r kind born verdict logrec dump None None e f same = absurd cc

begun_by : (sdwa : Bool) (c : Core) (r : ErrorRecord) (code : _) (dump : Bool) (o own : Option Reg) → eligible_routine c r ≡ o → whats.Begin code dump ≡ handling_of sdwa r o own → eligible_routine c r ≡ None
begun_by sdwa c r code dump (Some reg) own e same = absurd cc
begun_by sdwa c r code dump None own e same = e

none_left : (xs : List Reg) → newest xs ≡ None → xs ≡ []
none_left [] e = refl
none_left (x ∷ xs) e = absurd cc

some_left : (xs : List Reg) (reg : Reg) → newest xs ≡ Some reg → (rest : List Reg) × (xs ≡ reg ∷ rest)
some_left [] reg e = absurd cc
some_left (x ∷ xs) reg e = let same : x ≡ reg = cc in (xs, ap (λ (z : Reg). z ∷ xs) same)

over_entered : (reg : Reg) (bare : Bool) (r : ErrorRecord) (ls : List Bracket) → error_in ls ≡ Some r → RunsOver zero reg r.flags.term_only (record { routine = Some reg; bare = bare; error = None } ∷ ls)
over_entered reg bare r [] e = absurd cc
over_entered reg bare r (o ∷ ls) e = (refl, subst (λ (x : Option ErrorRecord). IsSomeAnd x (λ s. s.flags.term_only ≡ r.flags.term_only)) (sym e) refl)

-- The error's bracket is the innermost

module _ (d : DeckView) (h : List Entry) (u : ℕ) (deck : IsTrue (is_well_formed d)) (legal : Legal d h) where
  abbrev pub Step : What → Course → Type 0
  Step what course =
      Legal d (h ++ record { unit = u; what = what } ∷ []) → IsMade d (world d h) (length h) (record { unit = u; what = what })
      → IsSomeAnd (course_by (core_at u (world d h)) what course) (HasState (core_at u (world d (h ++ record { unit = u; what = what } ∷ []))))

  -- an arrival leaves it as it is
  pub arrived_core : (cmd : ℕ) (became : _) → Legal d (h ++ record { unit = u; what = whats.Arrive cmd became } ∷ []) → IsMade d (world d h) (length h) (record { unit = u; what = whats.Arrive cmd became })
      → core_at u (world d (h ++ record { unit = u; what = whats.Arrive cmd became } ∷ [])) ≡ core_at u (world d h)
  arrived_core cmd became longer m = then_is d h u (whats.Arrive cmd became) deck legal longer m

  module _ (left : List Reg) (g : IsGoing (core_at u (world d h)) left) where
    none_is : eligible_routine (core_at u (world d h)) g.error ≡ None → left ≡ []
    none_is e = sym g.list_is ∙ none_left (list_at (depth_in (Core.levels (core_at u (world d h)))) g.error.flags.term_only (core_at u (world d h))) (sym (eligible_first (core_at u (world d h)) g.error) ∙ e)

    going_enter : (kind : Kind) (born : ℕ) (mark : Mark) (bare : Bool) → Step (whats.Enter kind born mark bare) (Goes left)
    going_enter kind born mark bare longer m =
        let c : Core = core_at u (world d h) in
        let sound : IsCoreSound d (length h) c = IsSound.cores m.sound u in
        let is : IsEntered c kind born = entered d c kind born mark bare (ap is_some g.open_is) (next_acts d (world d h) u (whats.Enter kind born mark bare) m.may) in
        let both : Some is.error ≡ Some g.error = sym is.open_is ∙ g.open_is in
        let one : is.error ≡ g.error = cc in
        let reg : Reg = is.routine in
        let first : newest left ≡ Some reg = ap newest (sym g.list_is) ∙ ap (λ (s : ErrorRecord). newest (list_at (depth_in c.levels) s.flags.term_only c)) (sym one) ∙ is.first in
        let rest = some_left left reg first in
        let of = listed d (length h) c sound (depth_in c.levels) reg (RecordFlags.term_only (ErrorRecord.flags is.error)) (entered_in c kind born is) in
        let after : Core = with_routine_entered (length h) bare (Some reg) c in
        let core : core_at u (world d (h ++ record { unit = u; what = whats.Enter kind born mark bare } ∷ [])) ≡ after =
        then_is d h u (whats.Enter kind born mark bare) deck legal longer m
        ∙ ap (λ (o : Option Reg). with_routine_entered (length h) bare o c) (named_is d (length h) (World.managers (world d h)) c sound (depth_in c.levels) kind born reg is.kind_is is.born_is of) in
        let runs : IsRunning after reg rest.0 0 = record {
          term = g.error.flags.term_only;
          over = over_entered reg bare g.error c.levels g.open_is;
          depth = depth_in c.levels;
          depth_is = omega (arith, sound.levels_some);
          list_is = g.list_is ∙ rest.1;
        } in
        rw (rest.1, named_true kind born reg is.kind_is is.born_is) (subst (λ (k : Core). IsRunning k reg rest.0 0) (sym core) runs)

    going_leave : (kind : Kind) (born : ℕ) (verdict : Verdict) (logrec dump : Bool) → Step (whats.Leave kind born verdict logrec dump) (Goes left)
    going_leave kind born verdict logrec dump longer m =
        let c : Core = core_at u (world d h) in
        let next = next_acts d (world d h) u (whats.Leave kind born verdict logrec dump) m.may in
        let failed : IsFailed c g.error kind born verdict = failed_by d.sdwa c g.error kind born verdict logrec dump (eligible_routine c g.error) (current c.levels) refl refl (next.handles g.error g.open_is) in
        rw (failed.fails, none_is failed.none, failed.own_is, named_true kind born failed.own failed.kind_is failed.born_is) tt

    going_begin : (code : _) (dump : Bool) → Step (whats.Begin code dump) (Goes left)
    going_begin code dump longer m =
        let c : Core = core_at u (world d h) in
        let next = next_acts d (world d h) u (whats.Begin code dump) m.may in
        let none = none_is (begun_by d.sdwa c g.error code dump (eligible_routine c g.error) (current c.levels) refl (next.handles g.error g.open_is)) in
        rw (none, eq-eqb (depth_in c.levels) 0 m.can.what.1) tt

    pub going : (what : What) → Step what (Goes left)
    going (whats.Enter kind born mark bare) longer m = going_enter kind born mark bare longer m
    going (whats.Leave kind born verdict logrec dump) longer m = going_leave kind born verdict logrec dump longer m
    going (whats.Begin code dump) longer m = going_begin code dump longer m
    going (whats.Arrive cmd became) longer m = subst (λ (c : Core). IsGoing c left) (sym (arrived_core cmd became longer m)) g
    going what longer m = absurd (none_other d (core_at u (world d h)) what g.error g.open_is (next_acts d (world d h) u what m.may) refl)

  -- after a Stop
  pub stopped : IsStopped (core_at u (world d h)) → (what : What) → Step what Stopped
  stopped s (whats.Begin code dump) longer m = rw (eq-eqb (depth_in (Core.levels (core_at u (world d h)))) 0 s.outermost) tt
  stopped s (whats.Arrive cmd became) longer m = subst IsStopped (sym (arrived_core cmd became longer m)) s
  stopped s (whats.Enter kind born mark bare) longer m =
      let c : Core = core_at u (world d h) in
      let is : IsEntered c kind born = entered d c kind born mark bare (ap is_some s.going.open_is) (next_acts d (world d h) u (whats.Enter kind born mark bare) m.may) in
      let both : Some is.error ≡ Some s.going.error = sym is.open_is ∙ s.going.open_is in
      let one : is.error ≡ s.going.error = cc in
      let none : newest (list_at (depth_in c.levels) is.error.flags.term_only c) ≡ None = ap (λ (e : ErrorRecord). newest (list_at (depth_in c.levels) e.flags.term_only c)) one ∙ ap newest s.going.list_is in
      let clash : Some is.routine ≡ None = sym is.first ∙ none in
      absurd cc
  stopped s (whats.Leave kind born verdict logrec dump) longer m =
      let inner : 2 ≤ length (Core.levels (core_at u (world d h))) = m.can.what.inner in
      absurd (omega (arith, inner, s.outermost))
  stopped s what longer m = absurd (none_other d (core_at u (world d h)) what s.going.error s.going.open_is (next_acts d (world d h) u what m.may) refl)
