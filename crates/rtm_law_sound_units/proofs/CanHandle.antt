-- What an open error leads to can be made: a routine that is entered, one that has failed, or the begin of the end.
use Rattle.std.proofs.Common.{◌≡◌, ℕ, ◌-◌, ◌<◌, ◌≤◌, Bool, true, false, cond, List, [], ◌∷◌, length, Option, Some, None, refl, sym, subst, ap, arith}
use Rattle.std.specs.Prelude.{IfSome, IsSome, IsSomeAnd, find, if◌then◌else◌, is_some, not, ◌==◌, ◌&&◌}
use Rattle.std.specs.List.{AllByRecursion}
use Rattle.std.proofs.lemmas.Bool.{eq-eqb, eqb-true}
use Rattle.rtm_deck_items.specs.View.{DeckView}
use Rattle.rtm_model.specs.declared.entry.What.TheVariants as whats
use Rattle.rtm_model.specs.declared.entry.Verdict.TheVariants.{Fail}
use Rattle.rtm_model.specs.declared.error_record.ErrorRecord.{ErrorRecord}
use Rattle.rtm_model.specs.declared.reg.Kind.{Kind}
use Rattle.rtm_model.specs.declared.reg.Kind.TheVariants.{Estae, Estai, Frr}
use Rattle.rtm_model.specs.declared.reg.Reg.{Reg}
use Rattle.rtm_model.specs.inner.Applies.{CanEnter, CanMake, IsMark}
use Rattle.rtm_model.specs.Limits.{deepest, most_brackets}
use Rattle.rtm_model.specs.OwnChange.{routine_born_at, routine_named}
use Rattle.rtm_model.specs.Chains.{is_admitted, is_of_depth, newest_of, next_estae, next_estai}
use Rattle.rtm_model.specs.Levels.{Bracket, current, depth_in, error_in, is_manager, next_estai_at, next_frr}
use Rattle.rtm_model.specs.NextEntry.{eligible_routine, enter_of, handling_of, is_entered_bare}
use Rattle.rtm_model.specs.Record.{mark_of, value_or}
use Rattle.rtm_model.specs.inner.Soundness.{AreNested, IsCoreSound, IsRecord, IsRoutine, StandsIn, stands}
use Rattle.rtm_model.specs.World.{Core, World, core_at}
use Rattle.rtm_law_sound_units.proofs.Lists.{all_found}
use Rattle.rtm_model.proofs.Lists.{both_true}

-- a routine that is found can be found by its birth
some_if : {X : Type 0} (b : Bool) (x : X) (o : Option X) → IsSome o → IsSome (cond b (Some x) o)
some_if true x o h = refl
some_if false x o h = h

itself : {X : Type 0} (b : Bool) (x : X) (o : Option X) → b ≡ true → IsSome (cond b (Some x) o)
itself true x o e = refl
itself false x o e = absurd cc

lifted : {X : Type 0} (name : X → ℕ) (x : X) (xs : List X) (o : Option X) → IfSome o (λ y. IsSome (find (λ z. name z == name y) xs))
    → IfSome o (λ y. IsSome (cond (name x == name y) (Some x) (find (λ z. name z == name y) xs)))
lifted name x xs None more = tt
lifted name x xs (Some y) more = some_if (name x == name y) x (find (λ z. name z == name y) xs) more

-- among things that are named by a number
found_if : {X : Type 0} (name : X → ℕ) (p : X → Bool) (x : X) (xs : List X) (b : Bool) → IfSome (find p xs) (λ y. IsSome (find (λ z. name z == name y) xs))
    → IfSome (cond b (Some x) (find p xs)) (λ y. IsSome (cond (name x == name y) (Some x) (find (λ z. name z == name y) xs)))
found_if name p x xs true more = itself (name x == name x) x (find (λ z. name z == name x) xs) (eq-eqb (name x) (name x) refl)
found_if name p x xs false more = lifted name x xs (find p xs) more

pub found_named : {X : Type 0} (name : X → ℕ) (p : X → Bool) (xs : List X) → IfSome (find p xs) (λ y. IsSome (find (λ z. name z == name y) xs))
found_named name p [] = tt
found_named name p (x ∷ xs) = found_if name p x xs (p x) (found_named name p xs)

pub both_some : {X : Type 0} (P Q R : X → Type 0) → ((x : X) → P x → Q x → R x) → (o : Option X) → IfSome o P → IfSome o Q → IfSome o R
both_some P Q R f None h i = tt
both_some P Q R f (Some x) h i = f x h i

-- the routine of that kind and birth can be entered, where it is there
abbrev pub Entered : DeckView → Core → Kind → ℕ → Reg → Type 0
Entered d c kind born routine = (routine.kind ≡ kind) × (routine.born ≡ born) × CanEnter c (is_manager kind) routine.prog (length d.programs)

by_birth : (d : DeckView) (c : Core) (kind : Kind) (born : ℕ) (o : Option Reg) → IsSome o → IfSome o (λ reg. IsRoutine d kind reg × ((reg.born == born) ≡ true))
    → length c.levels < most_brackets → is_some (error_in c.levels) ≡ not (is_manager kind) → IsSomeAnd o (Entered d c kind born)
by_birth d c kind born None there h room cause = absurd cc
by_birth d c kind born (Some reg) there h room cause = (h.0.kind_is, eqb-true reg.born born h.1, record { shallow = room; cause = cause; prog_in = h.0.prog })

in_chain : (d : DeckView) (c : Core) (kind : Kind) (born : ℕ) (regs : List Reg) → AllByRecursion (IsRoutine d kind) regs → IsSome (routine_born_at born regs)
    → length c.levels < most_brackets → is_some (error_in c.levels) ≡ not (is_manager kind) → IsSomeAnd (routine_born_at born regs) (Entered d c kind born)
in_chain d c kind born regs all there room cause = by_birth d c kind born (routine_born_at born regs) there (all_found (IsRoutine d kind) (λ reg. reg.born == born) regs all) room cause

-- a routine that is eligible for an error
abbrev pub CanStart : DeckView → World → ℕ → ErrorRecord → Reg → Type 0
CanStart d w u r reg = CanMake d w u (enter_of d.sdwa r reg)

starts : (d : DeckView) (w : World) (u : ℕ) (r : ErrorRecord) (kind : Kind) (reg : Reg) → reg.kind ≡ kind → IsMark (mark_of r)
    → IsSomeAnd (routine_named kind reg.born w.managers (core_at u w)) (Entered d (core_at u w) kind reg.born) → CanStart d w u r reg
starts d w u r kind reg e m h = subst (λ (k : Kind). CanMake d w u (whats.Enter k reg.born (mark_of r) (is_entered_bare d.sdwa reg.kind))) (sym e) (h, m)

-- of a chain whose routines are found by a test that holds where there is room for a bracket
chain_starts : (d : DeckView) (w : World) (u : ℕ) (r : ErrorRecord) (kind : Kind) (p : Reg → Bool) (regs : List Reg) → AllByRecursion (IsRoutine d kind) regs → IsMark (mark_of r)
    → is_some (error_in (Core.levels (core_at u w))) ≡ not (is_manager kind)
    → ((reg : Reg) → IsRoutine d kind reg → p reg ≡ true → length (Core.levels (core_at u w)) < most_brackets)
    → ((reg : Reg) → IsSome (routine_born_at reg.born regs) → IsSomeAnd (routine_born_at reg.born regs) (Entered d (core_at u w) kind reg.born) → IsSomeAnd (routine_named kind reg.born w.managers (core_at u w)) (Entered d (core_at u w) kind reg.born))
    → IfSome (find p regs) (CanStart d w u r)
chain_starts d w u r kind p regs all m cause room named =
    both_some (λ (reg : Reg). IsRoutine d kind reg × (p reg ≡ true)) (λ (reg : Reg). IsSome (routine_born_at reg.born regs)) (CanStart d w u r)
    (λ reg h there. starts d w u r kind reg h.0.kind_is m (named reg there (in_chain d (core_at u w) kind reg.born regs all there (room reg h.0 h.1) cause)))
    (find p regs) (all_found (IsRoutine d kind) p regs all) (found_named (λ (reg : Reg). reg.born) p regs)

given_some : (P : Reg → Type 0) (o other : Option Reg) → IfSome o P → IfSome other P → IfSome (value_or o other) P
given_some P None other h i = i
given_some P (Some reg) other h i = h

unless_term : (P : Reg → Type 0) (b : Bool) (o : Option Reg) → IfSome o P → IfSome (if b then None else o) P
unless_term P true o h = tt
unless_term P false o h = h

outermost_only : (P : Reg → Type 0) (b : Bool) (o : Option Reg) → (b ≡ true → IfSome o P) → IfSome (if b then o else None) P
outermost_only P true o h = h refl
outermost_only P false o h = tt

within : (levels depth : ℕ) → depth < deepest → depth ≡ levels - 1 → levels < most_brackets
within levels depth h e = omega arith

eligible_starts : (d : DeckView) (n : ℕ) (w : World) (u : ℕ) (r : ErrorRecord) → IsCoreSound d n (core_at u w) → IsMark (mark_of r) → is_some (error_in (Core.levels (core_at u w))) ≡ true
    → IfSome (eligible_routine (core_at u w) r) (CanStart d w u r)
eligible_starts d n w u r s m erring =
    let c = core_at u w in
    let depth = depth_in c.levels in
    given_some (CanStart d w u r) (next_frr depth r.flags.term_only c.frrs) (value_or (next_estae depth r.flags.term_only c.estaes) (next_estai_at depth r.flags.term_only c.estais))
    (unless_term (CanStart d w u r) r.flags.term_only (newest_of depth c.frrs)
    (chain_starts d w u r Frr (is_of_depth depth) c.frrs s.frrs m erring (λ reg h e. within (length c.levels) reg.depth h.depth (eqb-true reg.depth depth e)) (λ reg there h. h)))
    (given_some (CanStart d w u r) (next_estae depth r.flags.term_only c.estaes) (next_estai_at depth r.flags.term_only c.estais)
    (chain_starts d w u r Estae (λ reg. is_of_depth depth reg && is_admitted r.flags.term_only reg) c.estaes s.estaes m erring
    (λ reg h e. within (length c.levels) reg.depth h.depth (eqb-true reg.depth depth (both_true (is_of_depth depth reg) (is_admitted r.flags.term_only reg) e).0)) (λ reg there h. h))
    (outermost_only (CanStart d w u r) (depth == 0) (next_estai r.flags.term_only c.estais)
    (λ outermost. chain_starts d w u r Estai (is_admitted r.flags.term_only) c.estais s.estais m erring (λ reg h e. within (length c.levels) 0 (omega arith) (sym (eqb-true depth 0 outermost))) (λ reg there h. h))))

alone : (o : Option Reg) (own : Reg) → StandsIn o None → o ≡ Some own → ⊥
alone None own h e = cc
alone (Some reg) own h e = h

-- where a routine runs the bracket is an inner one, and where none does it is the outermost
pub inner_current : (ls : List Bracket) (own : Reg) → AreNested ls → current ls ≡ Some own → 2 ≤ length ls
inner_current [] own h e = absurd cc
inner_current (l ∷ []) own h e = absurd (alone l.routine own h.0 e)
inner_current (l ∷ m ∷ ls) own h e = omega arith

no_routine : (o : Option Reg) (m : Bracket) → StandsIn o (Some m) → o ≡ None → ⊥
no_routine None m h e = h
no_routine (Some reg) m h e = cc

pub outermost_current : (ls : List Bracket) → AreNested ls → current ls ≡ None → length ls ≤ 1
outermost_current [] h e = omega arith
outermost_current (l ∷ []) h e = omega arith
outermost_current (l ∷ m ∷ ls) h e = absurd (no_routine l.routine m h.0 e)

-- a routine that has failed
can_fail : (d : DeckView) (w : World) (u : ℕ) (own : Reg) → AreNested (Core.levels (core_at u w)) → current (Core.levels (core_at u w)) ≡ Some own → CanMake d w u (whats.Leave own.kind own.born Fail false false)
can_fail d w u own h e = record {
  inner = inner_current (Core.levels (core_at u w)) own h e;
  own = subst (λ (o : Option Reg). IsSomeAnd o (λ reg. (reg.kind ≡ own.kind) × (reg.born ≡ own.born))) (sym e) (refl, refl);
  retries = tt;
}

handled_by : (d : DeckView) (n : ℕ) (w : World) (u : ℕ) (r : ErrorRecord) → IsCoreSound d n (core_at u w) → IsRecord r → (o : Option Reg) → IfSome o (CanStart d w u r)
    → (own : Option Reg) → current (Core.levels (core_at u w)) ≡ own → (length (Core.levels (core_at u w)) ≤ 1 → stands w u ≡ true) → CanMake d w u (handling_of d.sdwa r o own)
handled_by d n w u r s h (Some reg) start own e lives = start
handled_by d n w u r s h None start (Some own) e lives = can_fail d w u own s.nested e
handled_by d n w u r s h None start None e lives =
    let outermost = outermost_current (Core.levels (core_at u w)) s.nested e in
    (lives outermost, omega arith, h.code)

-- an open error, of a unit that stands where it is open in the outermost bracket
pub can_handle : (d : DeckView) (n : ℕ) (w : World) (u : ℕ) (r : ErrorRecord) → IsCoreSound d n (core_at u w) → error_in (Core.levels (core_at u w)) ≡ Some r → IsRecord r
    → (length (Core.levels (core_at u w)) ≤ 1 → stands w u ≡ true) → CanMake d w u (handling_of d.sdwa r (eligible_routine (core_at u w) r) (current (Core.levels (core_at u w))))
can_handle d n w u r s erring h lives =
    handled_by d n w u r s h (eligible_routine (core_at u w) r) (eligible_starts d n w u r s (record { code = h.code; reason = h.reason }) (ap (λ (o : Option ErrorRecord). is_some o) erring))
    (current (Core.levels (core_at u w))) refl lives
