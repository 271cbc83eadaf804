-- The units of a world after a change of one of them.
use Rattle.std.proofs.Common.{ℕ, zero, suc, Bool, true, false, List, [], ◌∷◌}
use Rattle.std.specs.Prelude.{if◌then◌else◌, is_some}
use Rattle.rtm_model.specs.declared.abort.Abort.{Abort}
use Rattle.rtm_model.specs.Posts.{post_to_subtasks, with_posted}
use Rattle.rtm_model.specs.Tasks.{Life, is_subtask_of}
use Rattle.rtm_model.specs.World.{Core, UnitOfWork, on_unit, unborn_unit, unit_at}
use Rattle.rtm_model.proofs.Lists.{each_set}

-- something holds of each unit
abbrev pub EachUnit : (UnitOfWork → Type 0) → List UnitOfWork → Type 0
EachUnit P units = (u : ℕ) → P (unit_at u units)

pub on_each : (P : UnitOfWork → Type 0) (units : List UnitOfWork) (v : ℕ) (f : UnitOfWork → UnitOfWork) → EachUnit P units → P (f (unit_at v units)) → EachUnit P (on_unit v f units)
on_each P units v f h new = each_set (λ u unit. P unit) unborn_unit units v (f (unit_at v units)) h new

posted_if : (P : UnitOfWork → Type 0) (b late : Bool) (abort : Abort) (unit : UnitOfWork) → P unit → P (with_posted late abort unit) → P (if b then with_posted late abort unit else unit)
posted_if P true late abort unit h i = i
posted_if P false late abort unit h i = h

-- an abort that is posted to the subtasks of a task
pub posted_each : (P : UnitOfWork → Type 0) (u : ℕ) (abort : Abort) → ((late : Bool) (unit : UnitOfWork) → P unit → P (with_posted late abort unit)) → P unborn_unit
    → (lives : List Life) (units : List UnitOfWork) → EachUnit P units → EachUnit P (post_to_subtasks u abort lives units)
posted_each P u abort keeps none [] units h v = h v
posted_each P u abort keeps none (life ∷ lives) [] h v = none
posted_each P u abort keeps none (life ∷ lives) (unit ∷ units) h zero =
    posted_if P (is_subtask_of u life) (is_some (Core.begun unit.core)) abort unit (h 0) (keeps (is_some (Core.begun unit.core)) unit (h 0))
posted_each P u abort keeps none (life ∷ lives) (unit ∷ units) h (suc v) = posted_each P u abort keeps none lives units (λ k. h (suc k)) v
