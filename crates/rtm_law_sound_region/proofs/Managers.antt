-- What resource managers keep.
use Rattle.std.proofs.Common.{ℕ, ◌+◌, ◌<◌, ◌≤◌, Bool, true, false, cond, List, [], ◌∷◌, length, Option, arith}
use Rattle.std.specs.Prelude.{IfSome, filter}
use Rattle.std.specs.List.{AllByRecursion}
use Rattle.rtm_deck_items.specs.View.{DeckView}
use Rattle.rtm_model.specs.declared.holding.Manager1.{Manager1}
use Rattle.rtm_model.specs.Limits.{most_managers}
use Rattle.rtm_model.specs.Chains.{without_first}
use Rattle.rtm_model.specs.inner.Soundness.{IsManager, ManagersFall}
use Rattle.rtm_model.proofs.Lists.{AllByRecursion-filter, all_without_first, length-filter-le, length-without_first-le}

-- the resource managers after n entries
pub record AreManagers (d : DeckView) (n : ℕ) (managers : List Manager1) : Type 0 where
  pub few : length managers ≤ most_managers
  pub each : AllByRecursion (IsManager d) managers
  pub fall : ManagersFall n managers

-- births

fall_before : (k l : ℕ) (managers : List Manager1) → k ≤ l → ManagersFall k managers → ManagersFall l managers
fall_before k l [] le h = tt
fall_before k l (manager ∷ older) le h = (omega (arith, h.0), h.1)

first_if : (n : ℕ) (b : Bool) (manager : Manager1) (older rest : List Manager1) → manager.born < n → ManagersFall manager.born older → ManagersFall manager.born rest → ManagersFall n (cond b older (manager ∷ rest))
first_if n true manager older rest lt h k = fall_before manager.born n older (omega arith) h
first_if n false manager older rest lt h k = (lt, k)

fall_without : (n : ℕ) (p : Manager1 → Bool) (managers : List Manager1) → ManagersFall n managers → ManagersFall n (without_first p managers)
fall_without n p [] h = tt
fall_without n p (manager ∷ older) h = first_if n (p manager) manager older (without_first p older) h.0 h.1 (fall_without manager.born p older h.1)

kept_if : (n : ℕ) (b : Bool) (manager : Manager1) (rest : List Manager1) → manager.born < n → ManagersFall manager.born rest → ManagersFall n (cond b (manager ∷ rest) rest)
kept_if n true manager rest lt h = (lt, h)
kept_if n false manager rest lt h = fall_before manager.born n rest (omega arith) h

fall_filtered : (n : ℕ) (p : Manager1 → Bool) (managers : List Manager1) → ManagersFall n managers → ManagersFall n (filter p managers)
fall_filtered n p [] h = tt
fall_filtered n p (manager ∷ older) h = kept_if n (p manager) manager (filter p older) h.0 (fall_filtered manager.born p older h.1)

-- one more entry
pub managers_later : (d : DeckView) (n : ℕ) (managers : List Manager1) → AreManagers d n managers → AreManagers d (n + 1) managers
managers_later d n managers s = record { few = s.few; each = s.each; fall = fall_before n (n + 1) managers (omega arith) s.fall }

-- RESMGR ADD
pub managers_added : (d : DeckView) (n prog : ℕ) (task : Option ℕ) (managers : List Manager1) → prog < length d.programs → IfSome task (λ task. task < length d.units)
    → length managers < most_managers → AreManagers d n managers → AreManagers d (n + 1) (record { born = n; prog = prog; task = task } ∷ managers)
managers_added d n prog task managers lt there room s = record { few = omega arith; each = (record { prog = lt; task = there }, s.each); fall = (omega arith, s.fall) }

-- RESMGR DELETE
pub managers_without : (d : DeckView) (n : ℕ) (p : Manager1 → Bool) (managers : List Manager1) → AreManagers d n managers → AreManagers d n (without_first p managers)
managers_without d n p managers s = record {
  few = omega (arith, length-without_first-le p managers, s.few);
  each = all_without_first (IsManager d) p managers s.each;
  fall = fall_without n p managers s.fall;
}

-- managers that are gone after they were entered, or with their task
pub managers_filtered : (d : DeckView) (n : ℕ) (p : Manager1 → Bool) (managers : List Manager1) → AreManagers d n managers → AreManagers d n (filter p managers)
managers_filtered d n p managers s = record {
  few = omega (arith, length-filter-le p managers, s.few);
  each = AllByRecursion-filter (IsManager d) p managers s.each;
  fall = fall_filtered n p managers s.fall;
}
