-- The first routine that is eligible for an error is the first of its list.
use Rattle.std.proofs.Common.{◌≡◌, ℕ, Bool, true, false, List, [], ◌++◌, Option, None, refl, sym, ap, ◌∙◌}
use Rattle.std.specs.Prelude.{filter, if◌then◌else◌, ◌&&◌, ◌==◌}
use Rattle.rtm_model.specs.declared.error_record.ErrorRecord.{ErrorRecord}
use Rattle.rtm_model.specs.declared.reg.Reg.{Reg}
use Rattle.rtm_model.specs.Blocks.{newest}
use Rattle.rtm_model.specs.Chains.{is_admitted, is_of_depth, next_estai}
use Rattle.rtm_model.specs.Eligible.{eligible_list, estaes_for, estais_for, frrs_for}
use Rattle.rtm_model.specs.Levels.{depth_in, first_eligible, next_frr}
use Rattle.rtm_model.specs.NextEntry.{eligible_routine}
use Rattle.rtm_model.specs.Record.{value_or}
use Rattle.rtm_model.specs.World.{Core}
use Rattle.rtm_law_chains.proofs.Lists.{find_first, first_joined, value_or-assoc}

-- the list of an error of the bracket of that depth, whose record admits routines with TERM=YES alone, or all
abbrev pub list_at : ℕ → Bool → Core → List Reg
list_at depth term c = (frrs_for depth term c.frrs ++ estaes_for depth term c.estaes) ++ estais_for depth term c.estais

frr_first : (depth : ℕ) (term : Bool) (frrs : List Reg) → next_frr depth term frrs ≡ newest (frrs_for depth term frrs)
frr_first depth true frrs = refl
frr_first depth false frrs = find_first (is_of_depth depth) frrs

estai_first : (outermost term : Bool) (estais : List Reg) → (if outermost then next_estai term estais else None) ≡ newest (if outermost then filter (is_admitted term) estais else [])
estai_first true term estais = find_first (is_admitted term) estais
estai_first false term estais = refl

first_at : (depth : ℕ) (term : Bool) (c : Core) → first_eligible depth term c.frrs c.estaes c.estais ≡ newest (list_at depth term c)
first_at depth term c =
    let a : List Reg = frrs_for depth term c.frrs in
    let b : List Reg = estaes_for depth term c.estaes in
    let e : List Reg = estais_for depth term c.estais in
    (λ i. value_or (frr_first depth term c.frrs i) (value_or (find_first (λ reg. is_of_depth depth reg && is_admitted term reg) c.estaes i) (estai_first (depth == 0) term c.estais i)))
    ∙ value_or-assoc (newest a) (newest b) (newest e)
    ∙ sym (first_joined (a ++ b) e ∙ ap (λ (o : Option Reg). value_or o (newest e)) (first_joined a b))

pub eligible_first : (c : Core) (r : ErrorRecord) → eligible_routine c r ≡ newest (eligible_list c r)
eligible_first c r = first_at (depth_in c.levels) r.flags.term_only c
