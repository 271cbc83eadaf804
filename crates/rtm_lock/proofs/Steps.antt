-- Each step of a lock keeps its rule.
use Rattle.std.proofs.Common.{◌≡◌, ℕ, ◌+◌, ◌%◌, ◌^◌, List, [], ◌∷◌, map, get_or, length-set, get_or-set_other, get_or-set_same, refl, sym, ap, ◌∙◌, subst, arith, Option, Some}
use mathlib.Core.Logic.{dite}
use mathlib.Core.Option.{some}
use native.Mathlib.Decide.{ℕ_discrete}
use Rattle.atomic_table.specs.Table.{Me, keeps, takes, gives, rest, Allows, Arrives}
use Rattle.atomic_table.proofs.Lists.{set_here}
use Rattle.rtm_lock.specs.Kept.{HasTaken, IsKept}

-- a seat with the one slot has it first
pub has_slot : {A : Type 0} (taken : List (ℕ × A)) → map (λ t. t.0) taken ≡ 0 ∷ [] → (held : A) × (taken ≡ (0, held) ∷ rest taken)
has_slot [] e = absurd cc
has_slot (t ∷ ts) e = (t.1, ap (λ (k : ℕ). (k, t.1) ∷ ts) (ap (λ (ks : List ℕ). get_or ks 0 0) e))

module _ {T K : Type 0} (Belongs : T → Type 0) where
  -- who finds 0 takes the value; who finds 1 changes nothing
  pub seizes : (slots : ℕ) (key : K) → Arrives (IsKept Belongs) slots 0 (λ _. 1) (λ found me. found ≡ 0 → HasTaken {K = K} Belongs me)
  seizes slots key table kept wide _ =
      let long = kept.0 in
      let one = get_or-set_same table.words 0 1 0 (omega arith) in
      dite (ℕ_discrete (get_or table.words 0 0) 0)
      (λ free. let home = kept.1 free in (key, takes 0 (Some home.0), home.1, (length-set table.words 0 1 ∙ long, λ e. absurd (omega arith)), λ _. (home.0, refl, home.2)))
      (λ held. (key, keeps, tt, (length-set table.words 0 1 ∙ long, λ e. absurd (omega arith)), λ e. absurd (held e)))

  -- a count changes nothing of the value
  pub counts : (slots id : ℕ) (me : Me (Option T) K) → Allows (IsKept Belongs) slots id me 1 (λ n. (n + 1) % 2 ^ 64) (λ _ after. after ≡ me)
  counts slots id me table kept wide _ _ =
      let n = (get_or table.words 1 0 + 1) % 2 ^ 64 in
      (me.0, keeps, tt, (length-set table.words 1 n ∙ kept.0, λ free. kept.1 (sym (get_or-set_other table.words 1 0 n 0 (omega arith)) ∙ free)), refl)

  -- a value that belongs to the key may come home
  pub comes_home : (id : ℕ) (me : Me (Option T) K) (value : T) (more : List (ℕ × Option T)) → me.1 ≡ (0, Some value) ∷ more → Belongs value
      → Allows (IsKept Belongs) 1 id me 0 (λ _. 0) (λ _ _. Unit {0})
  comes_home id me value more e belongs =
      subst (λ (taken : List (ℕ × Option T)). Allows (IsKept Belongs) 1 id (me.0, taken) 0 (λ _. 0) (λ _ _. Unit {0})) (sym e)
      (λ table kept wide _ _. (me.0, gives, tt, (length-set table.words 0 0 ∙ kept.0, λ _. (value, set_here table.homes 0 (some (Some value)) (omega arith), belongs)), tt))
