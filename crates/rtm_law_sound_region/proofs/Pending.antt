-- Aborts that are pending for a unit, after one more was posted, or one has landed.
use Rattle.std.proofs.Common.{◌≡◌, ℕ, ◌+◌, ◌≤◌, Bool, true, false, cond, List, [], ◌∷◌, ◌++◌, refl, sym, subst, arith}
use Rattle.std.proofs.lemmas.Bool.{or_parts}
use Rattle.std.specs.List.{AllByRecursion, list_any}
use Rattle.rtm_model.specs.declared.abort.Abort.{Abort}
use Rattle.rtm_model.specs.declared.entry.Class.{Class}
use Rattle.rtm_model.specs.declared.entry.Class.TheVariants.{Cancel, Detach, Mother, Step, Abterm, Srb}
use Rattle.rtm_model.specs.Aborts.{HasDistinctClasses, after_landing, has_class, is_of_class, is_same_class, with_abort}
use Rattle.rtm_model.specs.inner.Soundness.{ArePending, ComeInOrder, IsAbort}
use Rattle.rtm_model.specs.Blocks.{without_newest}
use Rattle.rtm_model.proofs.Landing.{IsFirst, behind_first}
use Rattle.rtm_model.proofs.Lists.{all_by}

-- no abort
pub none_pending : (n : ℕ) → ArePending n []
none_pending n = record { distinct = tt; each = tt; order = tt }

-- after one more entry
abort_later : (n : ℕ) (abort : Abort) → IsAbort n abort → IsAbort (n + 1) abort
abort_later n abort s = record { code = s.code; reason = s.reason; from = omega (arith, s.from) }

pub pending_later : (n : ℕ) (aborts : List Abort) → ArePending n aborts → ArePending (n + 1) aborts
pending_later n aborts s = record { distinct = s.distinct; each = all_by (IsAbort n) (IsAbort (n + 1)) (abort_later n) aborts s.each; order = s.order }

-- classes

same_class_sym : (a b : Class) → is_same_class a b ≡ is_same_class b a
same_class_sym Cancel Cancel = refl
same_class_sym Detach Detach = refl
same_class_sym Mother Mother = refl
same_class_sym Step Step = refl
same_class_sym Abterm Abterm = refl
same_class_sym Srb Srb = refl
same_class_sym _ _ = refl

none_pushed : {X : Type 0} (p : X → Bool) (xs : List X) (y : X) → list_any p xs ≡ false → p y ≡ false → list_any p (xs ++ y ∷ []) ≡ false
none_pushed p [] y h e = rw e
none_pushed p (x ∷ xs) y h e =
    let parts = or_parts (p x) (list_any p xs) h in
    rw (parts.0) (none_pushed p xs y parts.1 e)

distinct_pushed : (aborts : List Abort) (abort : Abort) → HasDistinctClasses aborts → has_class abort.class aborts ≡ false → HasDistinctClasses (aborts ++ abort ∷ [])
distinct_pushed [] abort s h = (refl, tt)
distinct_pushed (first ∷ later) abort s h =
    let parts = or_parts (is_of_class abort.class first) (has_class abort.class later) h in
    let other : is_same_class first.class abort.class ≡ false = rw (same_class_sym first.class abort.class) parts.0 in
    (none_pushed (is_of_class first.class) later abort s.0 other, distinct_pushed later abort s.1 parts.1)

-- order

each_pushed : (n : ℕ) (aborts : List Abort) (abort : Abort) → AllByRecursion (IsAbort n) aborts → IsAbort n abort → AllByRecursion (IsAbort n) (aborts ++ abort ∷ [])
each_pushed n [] abort all here = (here, tt)
each_pushed n (first ∷ later) abort all here = (all.0, each_pushed n later abort all.1 here)

order_pushed : (n k : ℕ) (aborts : List Abort) (abort : Abort) → k ≤ n → AllByRecursion (IsAbort (n + 1)) aborts → ComeInOrder k aborts → abort.from ≡ n → ComeInOrder k (aborts ++ abort ∷ [])
order_pushed n k [] abort le all h e = (omega arith, tt)
order_pushed n k (first ∷ later) abort le all h e = (h.0, order_pushed n first.from later abort (omega (arith, all.0.from)) all.1 h.1 e)

sooner : (k l : ℕ) (aborts : List Abort) → k ≤ l → ComeInOrder l aborts → ComeInOrder k aborts
sooner k l [] le h = tt
sooner k l (first ∷ later) le h = (omega (arith, h.0), h.1)

-- an abort of the entry n was posted in time
pushed_if : (n : ℕ) (b : Bool) (abort : Abort) (aborts : List Abort) → has_class abort.class aborts ≡ b → ArePending (n + 1) aborts → IsAbort (n + 1) abort → abort.from ≡ n → ArePending (n + 1) (cond b aborts (aborts ++ abort ∷ []))
pushed_if n true abort aborts h s here e = s
pushed_if n false abort aborts h s here e = record {
  distinct = distinct_pushed aborts abort s.distinct h;
  each = each_pushed (n + 1) aborts abort s.each here;
  order = order_pushed n 0 aborts abort (omega arith) s.each s.order e;
}

pub posted_pending : (n : ℕ) (abort : Abort) (aborts : List Abort) → ArePending (n + 1) aborts → IsAbort (n + 1) abort → abort.from ≡ n → ArePending (n + 1) (with_abort false abort aborts)
posted_pending n abort aborts s here e = pushed_if n (has_class abort.class aborts) abort aborts refl s here e

-- the first has landed
behind_pending : (n : ℕ) (aborts : List Abort) → ArePending n aborts → ArePending n (without_newest aborts)
behind_pending n [] s = s
behind_pending n (abort ∷ later) s = record { distinct = s.distinct.1; each = s.each.1; order = sooner 0 abort.from later (omega arith) s.order.1 }

pub landed_pending : (n : ℕ) (class : Class) (from : ℕ) (Q : Abort → Type 0) (aborts : List Abort) → IsFirst class from Q aborts → ArePending n aborts → ArePending n (after_landing class from aborts)
landed_pending n class from Q aborts h s = subst (ArePending n) (sym (behind_first class from Q aborts h)) (behind_pending n aborts s)
