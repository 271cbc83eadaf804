-- An abort is posted to a unit.
use Rattle.std.proofs.Common.{◌≡◌, ℕ, zero, suc, ◌+◌, Bool, true, false, cond, not, ◌&&◌, ◌||◌, List, [], ◌∷◌, length, Option, Some, None, refl, arith}
use Rattle.std.specs.Prelude.{if◌then◌else◌, is_none, is_some}
use Rattle.rtm_model.specs.declared.abort.Abort.{Abort}
use Rattle.rtm_model.specs.Posts.{post_to_subtasks, with_posted}
use Rattle.rtm_model.specs.inner.Soundness.{IsAbort}
use Rattle.rtm_model.specs.Tasks.{Dormant, HasEnded, Life, Lives, is_living, is_subtask_of, life_of}
use Rattle.rtm_model.specs.World.{Beginning, Core, UnitOfWork, unit_at}
use Rattle.rtm_law_sound_region.proofs.Pending.{posted_pending}
use Rattle.rtm_law_sound_region.proofs.Units.{IsUnitSound, is_up, not_dormant}

-- an abort that the entry n posts
pub record IsPosted (n : ℕ) (abort : Abort) : Type 0 where
  pub sound : IsAbort (n + 1) abort
  pub from : abort.from ≡ n

-- an abort that isn't late finds a unit that stands
pub on_time : (living : Bool) (begun : Option Beginning) → (not living || is_some begun) ≡ false → (living && is_none begun) ≡ true
on_time true None e = refl
on_time true (Some b) e = absurd cc
on_time false begun e = absurd cc

-- the unit to which it is posted
pub unit_posted : (late : Bool) (m n born v : ℕ) (life : Life) (unit : UnitOfWork) (abort : Abort) → (late ≡ false → is_up life unit.core ≡ true) → IsPosted n abort
    → IsUnitSound m (n + 1) born v life unit → IsUnitSound m (n + 1) born v life (with_posted late abort unit)
unit_posted true m n born v life unit abort stands p s = s
unit_posted false m n born v life unit abort stands p s =
    let up : is_up life unit.core ≡ true = stands refl in
    record {
      blocks = s.blocks;
      dormant = λ lt dormant. absurd (not_dormant life (is_none (Core.begun unit.core)) dormant up);
      estais = s.estais;
      pending = posted_pending n abort unit.pending s.pending p.sound p.from;
      quiet = λ down. absurd cc;
      outermost = s.outermost;
    }

-- a subtask that lives
subtask_up : (u : ℕ) (life : Life) (begun : Option Beginning) → is_subtask_of u life ≡ true → is_some begun ≡ false → (is_living life && is_none begun) ≡ true
subtask_up u Dormant begun e f = absurd cc
subtask_up u (Lives mother) None e f = refl
subtask_up u (Lives mother) (Some b) e f = absurd cc
subtask_up u (HasEnded mother) begun e f = absurd cc

subtask_if : (b : Bool) (u m n born v : ℕ) (life : Life) (unit : UnitOfWork) (abort : Abort) → is_subtask_of u life ≡ b → IsPosted n abort
    → IsUnitSound m (n + 1) born v life unit → IsUnitSound m (n + 1) born v life (cond b (with_posted (is_some (Core.begun unit.core)) abort unit) unit)
subtask_if true u m n born v life unit abort e p s =
    unit_posted (is_some (Core.begun unit.core)) m n born v life unit abort (λ late. subtask_up u life (Core.begun unit.core) e late) p s
subtask_if false u m n born v life unit abort e p s = s

-- what holds of each unit and its life, holds once the abort was posted to the subtasks of a task
subtasks_at : (P : Life → UnitOfWork → Type 0) (u : ℕ) (abort : Abort)
    → ((life : Life) (unit : UnitOfWork) → P life unit → P life (if is_subtask_of u life then with_posted (is_some (Core.begun unit.core)) abort unit else unit))
    → (lives : List Life) (units : List UnitOfWork) (v : ℕ) → P (life_of v lives) (unit_at v units) → P (life_of v lives) (unit_at v (post_to_subtasks u abort lives units))
subtasks_at P u abort step [] units v h = h
subtasks_at P u abort step (life ∷ lives) [] v h = h
subtasks_at P u abort step (life ∷ lives) (unit ∷ units) zero h = step life unit h
subtasks_at P u abort step (life ∷ lives) (unit ∷ units) (suc v) h = subtasks_at P u abort step lives units v h

pub length_subtasks : (u : ℕ) (abort : Abort) (lives : List Life) (units : List UnitOfWork) → length (post_to_subtasks u abort lives units) ≡ length units
length_subtasks u abort [] units = refl
length_subtasks u abort (life ∷ lives) [] = refl
length_subtasks u abort (life ∷ lives) (unit ∷ units) = omega (arith, length_subtasks u abort lives units)

pub subtasks_posted : (m n born u : ℕ) (abort : Abort) (lives : List Life) (units : List UnitOfWork) (v : ℕ) → IsPosted n abort
    → IsUnitSound m (n + 1) born v (life_of v lives) (unit_at v units)
    → IsUnitSound m (n + 1) born v (life_of v lives) (unit_at v (post_to_subtasks u abort lives units))
subtasks_posted m n born u abort lives units v p s =
    subtasks_at (IsUnitSound m (n + 1) born v) u abort (λ life unit h. subtask_if (is_subtask_of u life) u m n born v life unit abort refl p h) lives units v s
