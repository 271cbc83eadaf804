-- The routines that a TERM-only record admits, of those of a list.
use Rattle.std.proofs.Common.{◌≡◌, ℕ, Bool, true, false, cond, not, ◌&&◌, ◌||◌, List, [], ◌∷◌, ◌++◌, length, refl, sym, ap, subst, inl, inr, ◌∙◌}
use Rattle.std.proofs.lemmas.List.Elements.{filter-append}
use Rattle.std.specs.Prelude.{IsTrue, filter, if◌then◌else◌, ◌==◌}
use Rattle.rtm_deck_items.specs.View.{DeckView}
use Rattle.rtm_deck_items.specs.WellFormed.{is_well_formed}
use Rattle.rtm_model.specs.declared.entry.Entry.{Entry}
use Rattle.rtm_model.specs.declared.reg.Reg.{Reg}
use Rattle.rtm_model.specs.Advance.{world}
use Rattle.rtm_model.specs.Chains.{is_admitted, is_of_depth}
use Rattle.rtm_model.specs.Eligible.{estaes_for, estais_for, frrs_for}
use Rattle.rtm_model.specs.Legal.{Legal}
use Rattle.rtm_model.specs.Moments.{IsIn, before}
use Rattle.rtm_model.specs.World.{Core, core_at}
use Rattle.rtm_law_births.specs.Frrs.{frrs}
use Rattle.rtm_law_births.specs.Life.{LivesBefore}
use Rattle.rtm_law_births.proofs.Frrs.{frrs_live}
use Rattle.rtm_law_births.proofs.Sound.{sound_history}
use Rattle.rtm_law_chains.proofs.Firsts.{list_at}
use Rattle.rtm_law_chains.proofs.Running.{frr_made}

-- no FRR has TERM=YES
module _ (d : DeckView) (h : List Entry) (deck : IsTrue (is_well_formed d)) (legal : Legal d h) (u : ℕ) (reg : Reg) where
  made_no_term : LivesBefore frrs d h (length h) (record { unit = u; reg = reg }) → reg.term ≡ false
  made_no_term (inl none) = absurd none.0
  made_no_term (inr (i, since)) = (frr_made d i (Entry.what since.entry) (core_at (Entry.unit since.entry) (before d h i)) reg since.makes.1).2

  pub frr_no_term : IsIn reg (Core.frrs (core_at u (world d h))) → reg.term ≡ false
  frr_no_term there = made_no_term ((frrs_live d h (sound_history d h deck legal) legal).living.lives (record { unit = u; reg = reg }) there)

-- of a list none of which has it, none is left
none_if : (reg : Reg) (b : Bool) (ys zs : List Reg) → reg.term ≡ false → zs ≡ [] → filter (λ (r : Reg). r.term) ys ≡ zs → filter (λ (r : Reg). r.term) (cond b (reg ∷ ys) ys) ≡ []
none_if reg true ys zs term none same = rw term (same ∙ none)
none_if reg false ys zs term none same = same ∙ none

none_kept : (p : Reg → Bool) (regs : List Reg) → ((reg : Reg) → IsIn reg regs → reg.term ≡ false) → filter (λ (r : Reg). r.term) (filter p regs) ≡ []
none_kept p [] h = refl
none_kept p (reg ∷ regs) h = none_if reg (p reg) (filter p regs) [] (h reg (inl refl)) refl (none_kept p regs (λ z there. h z (inr there)))

-- of the others those that have it
kept_if : (reg : Reg) (a t : Bool) (xs ys : List Reg) → reg.term ≡ t → xs ≡ filter (λ (r : Reg). r.term) ys → cond (a && (not true || t)) (reg ∷ xs) xs ≡ filter (λ (r : Reg). r.term) (cond (a && (not false || t)) (reg ∷ ys) ys)
kept_if reg false t xs ys e same = same
kept_if reg true true xs ys e same =
    subst (λ (b : Bool). reg ∷ xs ≡ cond b (reg ∷ filter (λ (r : Reg). r.term) ys) (filter (λ (r : Reg). r.term) ys)) (sym e) (ap (λ (zs : List Reg). reg ∷ zs) same)
kept_if reg true false xs ys e same = subst (λ (b : Bool). xs ≡ cond b (reg ∷ filter (λ (r : Reg). r.term) ys) (filter (λ (r : Reg). r.term) ys)) (sym e) same

kept_term : (p : Reg → Bool) (regs : List Reg) → filter (λ (r : Reg). p r && is_admitted true r) regs ≡ filter (λ (r : Reg). r.term) (filter (λ (r : Reg). p r && is_admitted false r) regs)
kept_term p [] = refl
kept_term p (reg ∷ regs) = kept_if reg (p reg) reg.term _ _ refl (kept_term p regs)

estais_if : (b : Bool) (regs : List Reg) → (if b then filter (is_admitted true) regs else []) ≡ filter (λ (r : Reg). r.term) (if b then filter (is_admitted false) regs else [])
estais_if true regs = kept_term (λ r. true) regs
estais_if false regs = refl

pub term_list : (depth : ℕ) (c : Core) → ((reg : Reg) → IsIn reg c.frrs → reg.term ≡ false) → list_at depth true c ≡ filter (λ (reg : Reg). reg.term) (list_at depth false c)
term_list depth c h =
    let p : Reg → Bool = λ r. r.term in
    let fs : List Reg = frrs_for depth false c.frrs in
    let es : List Reg = estaes_for depth false c.estaes in
    let is : List Reg = estais_for depth false c.estais in
    sym (
    filter-append p (fs ++ es) is
    ∙ ap (λ (xs : List Reg). xs ++ filter p is) (filter-append p fs es ∙ ap (λ (xs : List Reg). xs ++ filter p es) (none_kept (is_of_depth depth) c.frrs h))
    ∙ ap (λ (xs : List Reg). xs ++ filter p is) (sym (kept_term (is_of_depth depth) c.estaes))
    ∙ ap (λ (xs : List Reg). estaes_for depth true c.estaes ++ xs) (sym (estais_if (depth == 0) c.estais)))
