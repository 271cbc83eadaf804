-- The routines of a list of eligible ones: of which kind they are, and where they stand.
use Rattle.std.proofs.Common.{◌≡◌, ℕ, Bool, true, false, cond, ◌&&◌, List, [], ◌∷◌, ◌++◌, Option, Some, None, refl, sym, ap, subst, arith, inl, inr, ◌⊎◌, ◌∙◌}
use Rattle.std.proofs.lemmas.Bool.{and_parts, eqb-true}
use Rattle.std.specs.Prelude.{filter, find, if◌then◌else◌, is_some, ◌==◌}
use Rattle.rtm_deck_items.specs.View.{DeckView}
use Rattle.rtm_model.specs.declared.entry.What.TheVariants as whats
use Rattle.rtm_model.specs.declared.error_record.ErrorRecord.{ErrorRecord}
use Rattle.rtm_model.specs.declared.mark.Mark.{Mark}
use Rattle.rtm_model.specs.declared.reg.Kind.{Kind}
use Rattle.rtm_model.specs.declared.reg.Kind.TheVariants.{Estae, Estai, Frr}
use Rattle.rtm_model.specs.declared.reg.Reg.{Reg}
use Rattle.rtm_model.specs.Blocks.{newest}
use Rattle.rtm_model.specs.Chains.{is_admitted, is_of_depth}
use Rattle.rtm_model.specs.Eligible.{estaes_for, estais_for, frrs_for}
use Rattle.rtm_model.specs.Levels.{current, depth_in, error_in}
use Rattle.rtm_model.specs.Moments.{IsIn}
use Rattle.rtm_model.specs.NextEntry.{eligible_routine, handling_of}
use Rattle.rtm_model.specs.World.{Core}
use Rattle.rtm_model.specs.inner.Soundness.{IsCoreSound, IsRoutine}
use Rattle.rtm_law_births.proofs.Lists.{Falls, all_in, falls_in, in_append, in_filter}
use Rattle.rtm_law_chains.proofs.Acts.{IsNext}
use Rattle.rtm_law_chains.proofs.Firsts.{eligible_first, list_at}

-- one of a list whose births fall is known by its birth
pub same_birth : (xs : List Reg) (n : ℕ) → Falls Reg.born n xs → (x y : Reg) → IsIn x xs → IsIn y xs → x.born ≡ y.born → x ≡ y
same_birth [] n f x y h i e = absurd h
same_birth (z ∷ zs) n f x y (inl a) (inl b) e = a ∙ sym b
same_birth (z ∷ zs) n f x y (inl a) (inr j) e = let less = falls_in Reg.born z.born zs y f.1 j in absurd (omega (arith, less, e, ap Reg.born a))
same_birth (z ∷ zs) n f x y (inr h) (inl b) e = let less = falls_in Reg.born z.born zs x f.1 h in absurd (omega (arith, less, e, ap Reg.born b))
same_birth (z ∷ zs) n f x y (inr h) (inr j) e = same_birth zs z.born f.1 x y h j e

-- what is found passes the test
passes_if : {X : Type 0} (p : X → Bool) (y : X) (ys : List X) (x : X) (b : Bool) → p y ≡ b → cond b (Some y) (find p ys) ≡ Some x → (find p ys ≡ Some x → p x ≡ true) → p x ≡ true
passes_if p y ys x true e f more = let same : y ≡ x = cc in subst (λ z. p z ≡ true) same e
passes_if p y ys x false e f more = more f

pub passes : {X : Type 0} (p : X → Bool) (xs : List X) (x : X) → find p xs ≡ Some x → p x ≡ true
passes p [] x e = absurd cc
passes p (y ∷ ys) x e = passes_if p y ys x (p y) refl e (passes p ys x)

-- Of each kind

pub record IsFrrOf (depth : ℕ) (c : Core) (reg : Reg) : Type 0 where
  pub kind_is : reg.kind ≡ Frr
  pub there : IsIn reg c.frrs
  pub depth_is : reg.depth ≡ depth

pub record IsEstaeOf (depth : ℕ) (c : Core) (reg : Reg) : Type 0 where
  pub kind_is : reg.kind ≡ Estae
  pub there : IsIn reg c.estaes
  pub depth_is : reg.depth ≡ depth

pub record IsEstaiOf (depth : ℕ) (c : Core) (reg : Reg) : Type 0 where
  pub kind_is : reg.kind ≡ Estai
  pub there : IsIn reg c.estais
  pub outermost : depth ≡ 0

module _ (d : DeckView) (n : ℕ) (c : Core) (sound : IsCoreSound d n c) (depth : ℕ) (reg : Reg) where
  pub frr_listed : (term : Bool) → IsIn reg (frrs_for depth term c.frrs) → IsFrrOf depth c reg
  frr_listed true h = absurd h
  frr_listed false h =
      let there = in_filter (is_of_depth depth) c.frrs reg h in
      record { kind_is = (all_in (IsRoutine d Frr) c.frrs sound.frrs reg there.0).kind_is; there = there.0; depth_is = eqb-true reg.depth depth there.1 }

  pub estae_listed : (term : Bool) → IsIn reg (estaes_for depth term c.estaes) → IsEstaeOf depth c reg
  estae_listed term h =
      let there = in_filter (λ (r : Reg). is_of_depth depth r && is_admitted term r) c.estaes reg h in
      let parts = and_parts (is_of_depth depth reg) (is_admitted term reg) there.1 in
      record { kind_is = (all_in (IsRoutine d Estae) c.estaes sound.estaes reg there.0).kind_is; there = there.0; depth_is = eqb-true reg.depth depth parts.0 }

  estai_if : (term b : Bool) → (depth == 0) ≡ b → IsIn reg (if b then filter (is_admitted term) c.estais else []) → IsEstaiOf depth c reg
  estai_if term true e h =
      let there = in_filter (is_admitted term) c.estais reg h in
      record { kind_is = (all_in (IsRoutine d Estai) c.estais sound.estais reg there.0).kind_is; there = there.0; outermost = eqb-true depth 0 e }
  estai_if term false e h = absurd h

  pub estai_listed : (term : Bool) → IsIn reg (estais_for depth term c.estais) → IsEstaiOf depth c reg
  estai_listed term h = estai_if term (depth == 0) refl h

  pub listed : (term : Bool) → IsIn reg (list_at depth term c) → IsFrrOf depth c reg ⊎ IsEstaeOf depth c reg ⊎ IsEstaiOf depth c reg
  listed term h = elim (in_append (frrs_for depth term c.frrs ++ estaes_for depth term c.estaes) (estais_for depth term c.estais) reg h) [
    | inl bracket ↦ elim (in_append (frrs_for depth term c.frrs) (estaes_for depth term c.estaes) reg bracket) [
      | inl frr ↦ inl (frr_listed term frr)
      | inr estae ↦ inr (inl (estae_listed term estae))
    ]
    | inr estai ↦ inr (inr (estai_listed term estai))
  ]

-- The routine of an ENTER that an open error makes

first_in : (xs : List Reg) (reg : Reg) → newest xs ≡ Some reg → IsIn reg xs
first_in [] reg e = absurd cc
first_in (x ∷ xs) reg e = let same : x ≡ reg = cc in inl (sym same)

pub record IsEntered (c : Core) (kind : Kind) (born : ℕ) : Type 0 where
  pub error : ErrorRecord
  pub open_is : error_in c.levels ≡ Some error
  pub routine : Reg
  pub first : newest (list_at (depth_in c.levels) error.flags.term_only c) ≡ Some routine
  pub kind_is : kind ≡ routine.kind
  pub born_is : born ≡ routine.born

module _ (d : DeckView) (c : Core) (kind : Kind) (born : ℕ) (mark : Mark) (bare : Bool) where
  entered_by : (r : ErrorRecord) → error_in c.levels ≡ Some r → (o own : Option Reg) → eligible_routine c r ≡ o → whats.Enter kind born mark bare ≡ handling_of d.sdwa r o own → IsEntered c kind born
  entered_by r open_is (Some reg) own e same = record {
    error = r;
    open_is = open_is;
    routine = reg;
    first = sym (eligible_first c r) ∙ e;
    kind_is = cc;
    born_is = cc;
  }
  entered_by r open_is None (Some reg) e same = absurd cc
  entered_by r open_is None None e same = absurd cc

  entered_if : (o : Option ErrorRecord) → error_in c.levels ≡ o → is_some o ≡ true → IsNext d c (whats.Enter kind born mark bare) → IsEntered c kind born
  entered_if None e some next = absurd cc
  entered_if (Some r) e some next = entered_by r e (eligible_routine c r) (current c.levels) refl (next.handles r e)

  pub entered : is_some (error_in c.levels) ≡ true → IsNext d c (whats.Enter kind born mark bare) → IsEntered c kind born
  entered some next = entered_if (error_in c.levels) refl some next

pub entered_in : (c : Core) (kind : Kind) (born : ℕ) (is : IsEntered c kind born) → IsIn is.routine (list_at (depth_in c.levels) is.error.flags.term_only c)
entered_in c kind born is = first_in _ is.routine is.first
