-- Where the newest element that passes a test stands in a list that has the oldest first.
use Rattle.std.specs.Prelude.{◌≡◌, ℕ, ◌<◌, Bool, List, length, reverse, Some, None, find, remove, slice_index_or, slice_set}
use Rattle.rtm_model.specs.Chains.{without_first, with_in_place}

-- the element at i is the newest that passes the test: what it is, and what taking it away and writing over it leaves
pub record IsNewest {A : Type 0} (p : A → Bool) (xs : List A) (i : ℕ) : Type 0 where
  pub within : i < length xs
  pub is : (d : A) → find p (reverse xs) ≡ Some (slice_index_or xs i d)
  pub removed : reverse (remove xs i) ≡ without_first p (reverse xs)
  pub replaced : (y : A) → reverse (slice_set xs i y) ≡ with_in_place p y (reverse xs)

-- no element passes the test, so there is nothing to take away or to write over
pub record IsAbsent {A : Type 0} (p : A → Bool) (xs : List A) : Type 0 where
  pub is : find p (reverse xs) ≡ None
  pub removed : without_first p (reverse xs) ≡ reverse xs
  pub replaced : (y : A) → with_in_place p y (reverse xs) ≡ reverse xs
