-- An abort that is posted to the subtasks of a task, unit by unit.
use Rattle.std.proofs.Common.{◌≡◌, ℕ, zero, suc, ◌+◌, ◌<◌, ◌≤◌, List, [], ◌∷◌, length, set, take, refl, sym, ap, subst, ◌∙◌, arith, get_or}
use Rattle.std.proofs.lemmas.List.{take_all}
use Rattle.rtm_model.specs.declared.abort.Abort.{Abort}
use Rattle.rtm_model.specs.Posts.{post_to_subtasks}
use Rattle.rtm_model.specs.Tasks.{Life}
use Rattle.rtm_model.specs.World.{UnitOfWork, unborn_unit}
use Rattle.rtm_system_world.specs.Posting.{post_below, post_if_subtask}

-- the next one
posted_more : (u : ℕ) (abort : Abort) (lives : List Life) (units : List UnitOfWork) (i : ℕ) (d : Life) → i < length lives → i < length units
    → post_below u abort lives units (suc i) ≡ set (post_below u abort lives units i) i (post_if_subtask u abort (get_or lives i d) (get_or (post_below u abort lives units i) i unborn_unit))
posted_more u abort [] units i d h k = absurd (omega arith)
posted_more u abort (life ∷ lives) [] i d h k = absurd (omega arith)
posted_more u abort (life ∷ lives) (unit ∷ units) zero d h k = refl
posted_more u abort (life ∷ lives) (unit ∷ units) (suc i) d h k =
    ap (λ (us : List UnitOfWork). post_if_subtask u abort life unit ∷ us) (posted_more u abort lives units i d (omega arith) (omega arith))

pub posted_step : (u : ℕ) (abort : Abort) (lives : List Life) (units xs : List UnitOfWork) (i : ℕ) (d : Life) → xs ≡ post_below u abort lives units i → i < length lives → i < length units
    → set xs i (post_if_subtask u abort (get_or lives i d) (get_or xs i unborn_unit)) ≡ post_below u abort lives units (i + 1)
posted_step u abort lives units xs i d e h k =
    let next : suc i ≡ i + 1 = omega arith in
    subst (λ (ys : List UnitOfWork). set ys i (post_if_subtask u abort (get_or lives i d) (get_or ys i unborn_unit)) ≡ post_below u abort lives units (i + 1)) (sym e)
    (sym (posted_more u abort lives units i d h k) ∙ ap (post_below u abort lives units) next)

-- all of them
pub posted_all : (u : ℕ) (abort : Abort) (lives : List Life) (units : List UnitOfWork) (i : ℕ) → length lives ≤ i → post_below u abort lives units i ≡ post_to_subtasks u abort lives units
posted_all u abort lives units i h = ap (λ (ls : List Life). post_to_subtasks u abort ls units) (take_all i lives h)

length_posted : (u : ℕ) (abort : Abort) (lives : List Life) (units : List UnitOfWork) → length (post_to_subtasks u abort lives units) ≡ length units
length_posted u abort [] units = refl
length_posted u abort (life ∷ lives) [] = refl
length_posted u abort (life ∷ lives) (unit ∷ units) = ap (λ (n : ℕ). suc n) (length_posted u abort lives units)

-- none is lost on the way
pub length_so_far : (u : ℕ) (abort : Abort) (lives : List Life) (units : List UnitOfWork) (i : ℕ) → length (post_below u abort lives units i) ≡ length units
length_so_far u abort lives units i = length_posted u abort (take i lives) units
