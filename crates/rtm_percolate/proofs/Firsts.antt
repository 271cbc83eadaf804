-- The first eligible routine is the first of the list of eligible ones.
use Rattle.std.proofs.Common.{◌≡◌, ℕ, Bool, true, false, cond, List, [], ◌∷◌, ◌++◌, Option, Some, None, refl, ap, sym, ◌∙◌}
use Rattle.std.specs.Prelude.{filter, find, ◌&&◌, ◌==◌, if◌then◌else◌}
use Rattle.rtm_model.specs.declared.reg.Reg.{Reg}
use Rattle.rtm_model.specs.Record.{value_or}
use Rattle.rtm_model.specs.Chains.{is_of_depth, is_admitted, next_estai}
use Rattle.rtm_model.specs.Levels.{next_frr, first_eligible}
use Rattle.rtm_percolate.specs.Choices.{eligible_routines, first}

found_step : (t : Bool) (reg : Reg) (regs : List Reg) (o : Option Reg) → o ≡ first regs → (if t then Some reg else o) ≡ first (cond t (reg ∷ regs) regs)
found_step true reg regs o e = refl
found_step false reg regs o e = e

-- what is found is the first that passes
find-first : (p : Reg → Bool) (regs : List Reg) → find p regs ≡ first (filter p regs)
find-first p [] = refl
find-first p (reg ∷ regs) = found_step (p reg) reg (filter p regs) (find p regs) (find-first p regs)

-- the first of two lists, one behind the other
joined : (xs ys : List Reg) → first (xs ++ ys) ≡ value_or (first xs) (first ys)
joined [] ys = refl
joined (x ∷ xs) ys = refl

value_or-assoc : (a b c : Option Reg) → value_or a (value_or b c) ≡ value_or (value_or a b) c
value_or-assoc (Some x) b c = refl
value_or-assoc None b c = refl

frr-first : (depth : ℕ) (term_only : Bool) (frrs : List Reg) → next_frr depth term_only frrs ≡ first (if term_only then [] else filter (is_of_depth depth) frrs)
frr-first depth true frrs = refl
frr-first depth false frrs = find-first (is_of_depth depth) frrs

estai-first : (t term_only : Bool) (estais : List Reg) → (if t then next_estai term_only estais else None) ≡ first (if t then filter (is_admitted term_only) estais else [])
estai-first true term_only estais = find-first (is_admitted term_only) estais
estai-first false term_only estais = refl

pub eligible_routines-first : (depth : ℕ) (term_only : Bool) (frrs estaes estais : List Reg) →
    first_eligible depth term_only frrs estaes estais ≡ first (eligible_routines depth term_only frrs estaes estais)
eligible_routines-first depth term_only frrs estaes estais =
    let a : List Reg = if term_only then [] else filter (is_of_depth depth) frrs in
    let b : List Reg = filter (λ reg. is_of_depth depth reg && is_admitted term_only reg) estaes in
    let c : List Reg = if depth == 0 then filter (is_admitted term_only) estais else [] in
    (λ i. value_or (frr-first depth term_only frrs i) (value_or (find-first (λ reg. is_of_depth depth reg && is_admitted term_only reg) estaes i) (estai-first (depth == 0) term_only estais i)))
    ∙ value_or-assoc (first a) (first b) (first c)
    ∙ sym (joined (a ++ b) c ∙ ap (λ o. value_or o (first c)) (joined a b))
