-- Lists of recovery routines: what is added, taken out and replaced keeps their order.
use Rattle.std.proofs.Common.{◌≡◌, ℕ, suc, ◌+◌, ◌<◌, ◌≤◌, Bool, true, false, cond, List, [], ◌∷◌, length, refl, sym, subst, arith}
use Rattle.std.specs.Prelude.{filter, not}
use Rattle.std.specs.List.{AllByRecursion}
use Rattle.std.proofs.lemmas.Bool.{eqb-true, eqb-false}
use Rattle.rtm_model.specs.declared.reg.Reg.{Reg}
use Rattle.rtm_model.specs.Chains.{is_of_depth, with_in_place, without_first, without_depth}
use Rattle.rtm_model.specs.inner.Soundness.{RoutinesFall}

-- a later moment, or a deeper bracket
pub fall_later : (n m k j : ℕ) (regs : List Reg) → n ≤ m → k ≤ j → RoutinesFall n k regs → RoutinesFall m j regs
fall_later n m k j [] h i f = tt
fall_later n m k j (reg ∷ regs) h i f = (omega arith, omega arith, f.2)

deeper : (j k : ℕ) (regs : List Reg) → j ≤ k → AllByRecursion (λ (reg : Reg). reg.depth ≤ j) regs → AllByRecursion (λ (reg : Reg). reg.depth ≤ k) regs
deeper j k [] h a = tt
deeper j k (reg ∷ regs) h a = (omega arith, deeper j k regs h a.1)

-- none is deeper
pub all_shallow : (n k : ℕ) (regs : List Reg) → RoutinesFall n k regs → AllByRecursion (λ (reg : Reg). reg.depth ≤ k) regs
all_shallow n k [] f = tt
all_shallow n k (reg ∷ regs) f = (f.1, deeper reg.depth k regs f.1 (all_shallow reg.born reg.depth regs f.2))

-- without those that fail a test
fall_if : (n k : ℕ) (reg : Reg) (regs : List Reg) (b : Bool) → reg.born < n → reg.depth ≤ k → RoutinesFall reg.born reg.depth regs → RoutinesFall n k (cond b (reg ∷ regs) regs)
fall_if n k reg regs true h i f = (h, i, f)
fall_if n k reg regs false h i f = fall_later reg.born n reg.depth k regs (omega arith) i f

pub fall_filter : (p : Reg → Bool) (n k : ℕ) (regs : List Reg) → RoutinesFall n k regs → RoutinesFall n k (filter p regs)
fall_filter p n k [] f = tt
fall_filter p n k (reg ∷ regs) f = fall_if n k reg (filter p regs) (p reg) f.0 f.1 (fall_filter p reg.born reg.depth regs f.2)

-- without the first that passes a test
first_if : (n k : ℕ) (reg : Reg) (regs rest : List Reg) (b : Bool) → reg.born < n → reg.depth ≤ k → RoutinesFall reg.born reg.depth regs → RoutinesFall reg.born reg.depth rest → RoutinesFall n k (cond b regs (reg ∷ rest))
first_if n k reg regs rest true h i f g = fall_later reg.born n reg.depth k regs (omega arith) i f
first_if n k reg regs rest false h i f g = (h, i, g)

pub fall_without_first : (p : Reg → Bool) (n k : ℕ) (regs : List Reg) → RoutinesFall n k regs → RoutinesFall n k (without_first p regs)
fall_without_first p n k [] f = tt
fall_without_first p n k (reg ∷ regs) f = first_if n k reg regs (without_first p regs) (p reg) f.0 f.1 f.2 (fall_without_first p reg.born reg.depth regs f.2)

-- one in the place of the first that passes a test
place_if : (P : Reg → Type 0) (y reg : Reg) (regs rest : List Reg) (b : Bool) → P y → P reg → AllByRecursion P regs → AllByRecursion P rest → AllByRecursion P (cond b (y ∷ regs) (reg ∷ rest))
place_if P y reg regs rest true new here all more = (new, all)
place_if P y reg regs rest false new here all more = (here, more)

pub all_in_place : (P : Reg → Type 0) (p : Reg → Bool) (y : Reg) (regs : List Reg) → P y → AllByRecursion P regs → AllByRecursion P (with_in_place p y regs)
all_in_place P p y [] new a = tt
all_in_place P p y (reg ∷ regs) new a = place_if P y reg regs (with_in_place p y regs) (p reg) new a.0 a.1 (all_in_place P p y regs new a.1)

place_length : (y reg : Reg) (regs rest : List Reg) (b : Bool) → length rest ≡ length regs → length (cond b (y ∷ regs) (reg ∷ rest)) ≡ suc (length regs)
place_length y reg regs rest true h = refl
place_length y reg regs rest false h = omega arith

pub length_in_place : (p : Reg → Bool) (y : Reg) (regs : List Reg) → length (with_in_place p y regs) ≡ length regs
length_in_place p y [] = refl
length_in_place p y (reg ∷ regs) = place_length y reg regs (with_in_place p y regs) (p reg) (length_in_place p y regs)

-- a bracket that is deeper than all of them has none
not_there : (k n j : ℕ) (y reg : Reg) (regs rest : List Reg) (b : Bool) → is_of_depth k reg ≡ b → reg.depth < k → rest ≡ regs → cond b (y ∷ regs) (reg ∷ rest) ≡ reg ∷ regs
not_there k n j y reg regs rest true e h same = absurd (omega (arith, eqb-true reg.depth k e))
not_there k n j y reg regs rest false e h same = rw same refl

none_of_depth : (k n j : ℕ) (y : Reg) (regs : List Reg) → j < k → RoutinesFall n j regs → with_in_place (is_of_depth k) y regs ≡ regs
none_of_depth k n j y [] h f = refl
none_of_depth k n j y (reg ∷ regs) h f =
    not_there k n j y reg regs (with_in_place (is_of_depth k) y regs) (is_of_depth k reg) refl (omega arith) (none_of_depth k reg.born reg.depth y regs (omega arith) f.2)

below : (a b : ℕ) → a ≤ b → (a ≡ b → ⊥) → a < b
below a b h ne = omega (arith, h, ne)

-- the newest routine of the innermost bracket is the newest of all, so that one in its place keeps the order
replaced_if : (n k : ℕ) (y reg : Reg) (regs rest : List Reg) (b : Bool) → is_of_depth k reg ≡ b → y.born ≡ n → y.depth ≡ k → reg.born < n → reg.depth ≤ k → RoutinesFall reg.born reg.depth regs
    → (reg.depth < k → rest ≡ regs) → RoutinesFall (n + 1) k (cond b (y ∷ regs) (reg ∷ rest))
replaced_if n k y reg regs rest true e born depth h i f none = (omega arith, omega arith, fall_later reg.born y.born reg.depth y.depth regs (omega arith) (omega arith) f)
replaced_if n k y reg regs rest false e born depth h i f none =
    let less : reg.depth < k = below reg.depth k i (eqb-false reg.depth k e) in
    (omega arith, i, subst (λ (l : List Reg). RoutinesFall reg.born reg.depth l) (sym (none less)) f)

pub fall_in_place : (n k : ℕ) (y : Reg) (regs : List Reg) → y.born ≡ n → y.depth ≡ k → RoutinesFall n k regs → RoutinesFall (n + 1) k (with_in_place (is_of_depth k) y regs)
fall_in_place n k y [] born depth f = tt
fall_in_place n k y (reg ∷ regs) born depth f =
    replaced_if n k y reg regs (with_in_place (is_of_depth k) y regs) (is_of_depth k reg) refl born depth f.0 f.1 f.2 (λ less. none_of_depth k reg.born reg.depth y regs less f.2)

-- the routines of a bracket that is closed are gone: none is left as deep
closed_if : (n k : ℕ) (reg : Reg) (regs : List Reg) (b : Bool) → is_of_depth (k + 1) reg ≡ b → reg.born < n → reg.depth ≤ k + 1 → RoutinesFall reg.born k regs → (reg.depth ≤ k → RoutinesFall reg.born reg.depth regs) → RoutinesFall n k (cond (not b) (reg ∷ regs) regs)
closed_if n k reg regs false e h i f g =
    let less : reg.depth < k + 1 = below reg.depth (k + 1) i (eqb-false reg.depth (k + 1) e) in
    (h, omega arith, g (omega arith))
closed_if n k reg regs true e h i f g = fall_later reg.born n k k regs (omega arith) (omega arith) f

pub fall_closed : (n k : ℕ) (regs : List Reg) → RoutinesFall n (k + 1) regs → RoutinesFall n k (without_depth (k + 1) regs)
fall_closed n k [] f = tt
fall_closed n k (reg ∷ regs) f =
    closed_if n k reg (without_depth (k + 1) regs) (is_of_depth (k + 1) reg) refl f.0 f.1
    (fall_closed reg.born k regs (fall_later reg.born reg.born reg.depth (k + 1) regs (omega arith) f.1 f.2))
    (λ less. fall_filter (λ reg. not (is_of_depth (k + 1) reg)) reg.born reg.depth regs f.2)
