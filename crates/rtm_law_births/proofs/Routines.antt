-- Lists of recovery routines after an entry.
use Rattle.std.proofs.Common.{◌≡◌, ℕ, Bool, true, false, not, ◌&&◌, List, [], ◌∷◌, Option, Some, refl, sym, subst, inl, inr}
use Rattle.std.specs.Prelude.{filter, find, if◌then◌else◌, is_some, ◌==◌}
use Rattle.rtm_model.specs.declared.entry.Verdict.{Verdict}
use Rattle.rtm_model.specs.declared.entry.Verdict.TheVariants.{Bad, Fail, Over, Perc, Retry, Stop}
use Rattle.rtm_model.specs.declared.error_record.ErrorRecord.{ErrorRecord}
use Rattle.rtm_model.specs.declared.reg.Kind.{Kind}
use Rattle.rtm_model.specs.declared.reg.Kind.TheVariants.{Estae, Estai, Frr, Mgr}
use Rattle.rtm_model.specs.declared.reg.Reg.{Reg}
use Rattle.rtm_model.specs.OwnChange.{is_gone_after, without_left}
use Rattle.rtm_model.specs.Chains.{is_of_depth, with_in_place, without_born, without_depth, without_first}
use Rattle.rtm_model.specs.Levels.{record_in}
use Rattle.rtm_model.specs.Moments.{IsIn}
use Rattle.rtm_model.specs.inner.Soundness.{RoutinesFall}
use Rattle.rtm_model.specs.World.{Core}
use Rattle.rtm_law_births.specs.Routines.{IsItsLeave, RemovesRoutine}
use Rattle.rtm_law_births.proofs.Lists.{Falls, filter_in, in_filter, in_with_in_place, in_without_first, placed_in, with_in_place_in, without_first_in}
use Rattle.rtm_law_births.proofs.Living.{Moves, unmoved}
use Rattle.rtm_law_births.proofs.Numbers.{differs, other}
use Rattle.rtm_law_births.proofs.Outcomes.{IsVerdictOf}

-- the births of routines fall
pub falls : (n depth : ℕ) (regs : List Reg) → RoutinesFall n depth regs → Falls Reg.born n regs
falls n depth [] h = tt
falls n depth (r ∷ rs) h = (h.0, falls r.born r.depth rs h.2)

-- the list was filtered
pub filtered : {X : Type 0} (p : X → Bool) (xs : List X) (x : X) (K : Type 0) → (p x ≡ true → K → ⊥) → ((K → ⊥) → p x ≡ true) → Moves (IsIn x (filter p xs)) (IsIn x xs) ⊥ K
filtered p xs x K dead alive = record {
  came = λ h. let there = in_filter p xs x h in inr (there.0, dead there.1);
  born = λ h. absurd h;
  stays = λ h k. filter_in p xs x h (alive k);
}

pub depth_gone : (depth : ℕ) (regs : List Reg) (reg : Reg) → Moves (IsIn reg (without_depth depth regs)) (IsIn reg regs) ⊥ (reg.depth ≡ depth)
depth_gone depth regs reg = filtered (λ (r : Reg). not (is_of_depth depth r)) regs reg (reg.depth ≡ depth) (other reg.depth depth) (differs reg.depth depth)

pub born_gone : (born : ℕ) (regs : List Reg) (reg : Reg) → Moves (IsIn reg (without_born born regs)) (IsIn reg regs) ⊥ (born ≡ reg.born)
born_gone born regs reg = filtered (λ (r : Reg). not (r.born == born)) regs reg (born ≡ reg.born) (λ e k. other reg.born born e (sym k)) (λ k. differs reg.born born (λ e. k (sym e)))

-- a routine that is replaced where it stands, or taken away
pub replaced : {X : Type 0} (born : X → ℕ) (p : X → Bool) (z : X) (xs : List X) (n : ℕ) → Falls born n xs → (x : X)
    → Moves (IsIn x (with_in_place p z xs)) (IsIn x xs) ((x ≡ z) × (is_some (find p xs) ≡ true)) (find p xs ≡ Some x)
replaced born p z xs n fall x = record {
  came = λ h. in_with_in_place born p z xs n fall x h;
  born = λ h. subst (λ y. IsIn y (with_in_place p z xs)) (sym h.0) (placed_in p z xs h.1);
  stays = λ h alive. with_in_place_in p z xs x h alive;
}

pub first_gone : {X : Type 0} (born : X → ℕ) (p : X → Bool) (xs : List X) (n : ℕ) → Falls born n xs → (x : X) → Moves (IsIn x (without_first p xs)) (IsIn x xs) ⊥ (find p xs ≡ Some x)
first_gone born p xs n fall x = record {
  came = λ h. inr (in_without_first born p xs n fall x h);
  born = λ h. absurd h;
  stays = λ h alive. without_first_in p xs x h alive;
}

-- a verdict that removes the routine
removes : (verdict : Verdict) (r : Option ErrorRecord) → (verdict ≡ Stop → ⊥) → (verdict ≡ Over → ⊥) → is_gone_after verdict r ≡ true → RemovesRoutine verdict r
removes Perc r h k e = tt
removes Bad r h k e = tt
removes Fail r h k e = tt
removes (Retry place) r h k e = e
removes Stop r h k e = absurd (h refl)
removes Over r h k e = absurd (k refl)

removed : (verdict : Verdict) (r : Option ErrorRecord) → RemovesRoutine verdict r → is_gone_after verdict r ≡ true
removed Perc r h = refl
removed Bad r h = refl
removed Fail r h = refl
removed (Retry place) r h = h
removed Stop r h = absurd h
removed Over r h = absurd h

-- the routine of a LEAVE, of one kind, where the list isn't of that kind, or is
left_by : (c : Core) (kind left : Kind) (born : ℕ) (verdict : Verdict) (regs : List Reg) (reg : Reg) (gone here : Bool) → is_gone_after verdict (record_in c.levels) ≡ gone
    → (here ≡ true → left ≡ kind) → (left ≡ kind → here ≡ true) → (left ≡ kind → verdict ≡ Stop → ⊥) → (left ≡ kind → verdict ≡ Over → ⊥)
    → Moves (IsIn reg (if gone && here then without_born born regs else regs)) (IsIn reg regs) ⊥ (IsItsLeave c kind reg left born verdict)
left_by c kind left born verdict regs reg true true e f g no_stop no_over =
    let same = f refl in
    let m = born_gone born regs reg in
    record {
      came = λ h. elim (m.came h) [ inl none ↦ inl none | inr stayed ↦ inr (stayed.0, λ killed. stayed.1 (IsItsLeave.born_is killed)) ];
      born = λ h. absurd h;
      stays = λ h alive. m.stays h (λ k. alive (record { kind_is = same; born_is = k; removes = removes verdict (record_in c.levels) (no_stop same) (no_over same) e }));
    }
left_by c kind left born verdict regs reg true false e f g no_stop no_over = unmoved (λ h. h) (λ h. h) (λ h. h) (λ h. let k : false ≡ true = g h.kind_is in absurd cc)
left_by c kind left born verdict regs reg false true e f g no_stop no_over = unmoved (λ h. h) (λ h. h) (λ h. h) (λ h. let k = removed verdict (record_in c.levels) h.removes in absurd cc)
left_by c kind left born verdict regs reg false false e f g no_stop no_over = unmoved (λ h. h) (λ h. h) (λ h. h) (λ h. let k : false ≡ true = g h.kind_is in absurd cc)

pub left_moves : (c : Core) (kind left : Kind) (born : ℕ) (verdict : Verdict) (regs : List Reg) (reg : Reg) (here : Bool)
    → (here ≡ true → left ≡ kind) → (left ≡ kind → here ≡ true) → (left ≡ kind → verdict ≡ Stop → ⊥) → (left ≡ kind → verdict ≡ Over → ⊥)
    → Moves (IsIn reg (without_left (is_gone_after verdict (record_in c.levels) && here) born regs)) (IsIn reg regs) ⊥ (IsItsLeave c kind reg left born verdict)
left_moves c kind left born verdict regs reg here f g no_stop no_over = left_by c kind left born verdict regs reg (is_gone_after verdict (record_in c.levels)) here refl f g no_stop no_over

-- verdicts that FRRs, ESTAE and ESTAI routines don't have
pub no_over : (kind : Kind) (verdict : Verdict) → IsVerdictOf kind verdict → (kind ≡ Mgr → ⊥) → verdict ≡ Over → ⊥
no_over Mgr verdict h other e = other refl
no_over Frr verdict h other e = subst (IsVerdictOf Frr) e h
no_over Estae verdict h other e = subst (IsVerdictOf Estae) e h
no_over Estai verdict h other e = subst (IsVerdictOf Estai) e h

pub no_stop : (kind : Kind) (verdict : Verdict) → IsVerdictOf kind verdict → (kind ≡ Mgr → ⊥) → (kind ≡ Estai → ⊥) → verdict ≡ Stop → ⊥
no_stop Mgr verdict h other not_estai e = other refl
no_stop Frr verdict h other not_estai e = not_estai (subst (IsVerdictOf Frr) e h)
no_stop Estae verdict h other not_estai e = not_estai (subst (IsVerdictOf Estae) e h)
no_stop Estai verdict h other not_estai e = not_estai refl
