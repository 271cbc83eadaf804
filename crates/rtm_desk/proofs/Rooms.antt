-- Managers of which one changes: the room and the rows of all.
use Rattle.std.proofs.Common.{Err, List, Ok, OnOk, Result, [], ap, arith, get_or, map, refl, set, subst, suc, sym, take, zero, ℕ, ◌+◌, ◌++◌, ◌≡◌, ◌≤◌, ◌∙◌, ◌∷◌}
use Rattle.std.specs.Prelude.{Bool, false, if◌then◌else◌, true}
use Rattle.std.proofs.Math.Seq.{map-set_same}
use Rattle.rtm_deck_operands.specs.declared.value.Res.{Res}
use Rattle.rtm_deck_operands.specs.declared.value.Res.TheVariants.{Dsn, Enq, Stor, Timr}
use Rattle.rtm_model.specs.Held.{is_same_res}
use Rattle.rtm_desk.specs.Told.{AllHaveRoom, Row, classes, place_of, tell, tell_row, told_to}

-- Room

-- who has room for n has room for fewer
pub less_room : (m n : ℕ) (spares : List ℕ) → m ≤ n → AllHaveRoom n spares → AllHaveRoom m spares
less_room m n [] fewer all = tt
less_room m n (s ∷ spares) fewer all = (omega (arith, fewer, all.0), less_room m n spares fewer all.1)

-- one has as much as before, or more: all have what they had
pub room_kept : {M : Type 0} (spare : M → ℕ) (least : ℕ) (ms : List M) (i : ℕ) (m d : M) → spare (get_or ms i d) ≤ spare m
    → AllHaveRoom least (map spare ms) → AllHaveRoom least (map spare (set ms i m))
room_kept spare least [] i m d more all = tt
room_kept spare least (x ∷ ms) zero m d more all = (omega (arith, more, all.0), all.1)
room_kept spare least (x ∷ ms) (suc i) m d more all = (all.0, room_kept spare least ms i m d more all.1)

-- one has room for n: with those before it one more has
pub room_made : {M : Type 0} (spare : M → ℕ) (n : ℕ) (ms : List M) (i : ℕ) (m : M) → n ≤ spare m
    → AllHaveRoom n (take i (map spare ms)) → AllHaveRoom n (take (suc i) (map spare (set ms i m)))
room_made spare n [] i m enough all = tt
room_made spare n (x ∷ ms) zero m enough all = (enough, tt)
room_made spare n (x ∷ ms) (suc i) m enough all = (all.0, room_made spare n ms i m enough all.1)

-- the same of a manager that was asked for it, where it didn't refuse
pub one_more : {M E : Type 0} (spare : M → ℕ) (answer : Result (Unit {0}) E) (n : ℕ) (ms : List M) (i : ℕ) (m : M) → OnOk answer (n ≤ spare m)
    → OnOk answer (AllHaveRoom n (take i (map spare ms)) → AllHaveRoom n (take (i + 1) (map spare (set ms i m))))
one_more spare (Ok done) n ms i m enough =
    let next : suc i ≡ i + 1 = omega arith in
    λ all. subst (λ (k : ℕ). AllHaveRoom n (take k (map spare (set ms i m)))) next (room_made spare n ms i m enough all)
one_more spare (Err e) n ms i m enough = tt

-- one used up room for one: all have all but one of what they had
pub room_used : {M : Type 0} (spare : M → ℕ) (least : ℕ) (ms : List M) (i : ℕ) (m d : M) → spare (get_or ms i d) ≤ spare m + 1
    → AllHaveRoom (least + 1) (map spare ms) → AllHaveRoom least (map spare (set ms i m))
room_used spare least [] i m d used all = tt
room_used spare least (x ∷ ms) zero m d used all = (omega (arith, used, all.0), less_room least (least + 1) (map spare ms) (omega arith) all.1)
room_used spare least (x ∷ ms) (suc i) m d used all = (omega (arith, all.0), room_used spare least ms i m d used all.1)

-- Rows

same_class : (class : Res) → is_same_res class class ≡ true
same_class Enq = refl
same_class Stor = refl
same_class Dsn = refl
same_class Timr = refl

-- the row of the class has the pair more, the others are as they were
row_told : (class of : Res) (list : List (ℕ × ℕ)) (pair : ℕ × ℕ) → of ≡ class → tell_row class pair (of, list) ≡ (of, list ++ pair ∷ [])
row_told class of list pair e =
    ap (λ (same : Bool). if same then (of, list ++ pair ∷ []) else (of, list)) (ap (λ (x : Res). is_same_res x class) e ∙ same_class class)

row_kept : (class of other : Res) (list : List (ℕ × ℕ)) (pair : ℕ × ℕ) → of ≡ other → is_same_res other class ≡ false → tell_row class pair (of, list) ≡ (of, list)
row_kept class of other list pair e apart =
    ap (λ (same : Bool). if same then (of, list ++ pair ∷ []) else (of, list)) (ap (λ (x : Res). is_same_res x class) e ∙ apart)

row_of : (k l : Res) (ks ls : List (ℕ × ℕ)) → k ≡ l → ks ≡ ls → ◌≡◌ {A = Row} (k, ks) (l, ls)
row_of k l ks ls e f = ap (λ (x : Res). (x, ks)) e ∙ ap (λ (xs : List (ℕ × ℕ)). (l, xs)) f

pub four_rows : (a b c d e f g h : Row) → a ≡ e → b ≡ f → c ≡ g → d ≡ h → a ∷ b ∷ c ∷ d ∷ [] ≡ e ∷ f ∷ g ∷ h ∷ []
four_rows a b c d e f g h p q r s =
    ap (λ (x : Row). x ∷ b ∷ c ∷ d ∷ []) p ∙ ap (λ (x : Row). e ∷ x ∷ c ∷ d ∷ []) q ∙ ap (λ (x : Row). e ∷ f ∷ x ∷ d ∷ []) r ∙ ap (λ (x : Row). e ∷ f ∷ g ∷ x ∷ []) s

module _ {M : Type 0} (class : M → Res) (released : M → List (ℕ × ℕ)) where
  -- the row of a manager that was told one more
  changed : (c : Res) (pair : ℕ × ℕ) (a m : M) → class a ≡ c → class m ≡ class a → released m ≡ released a ++ pair ∷ []
      → ◌≡◌ {A = Row} (class m, released m) (tell_row c pair (class a, released a))
  changed c pair a m is same more =
      row_of (class m) (class a) (released m) (released a ++ pair ∷ []) same more ∙ sym (row_told c (class a) (released a) pair is)

  kept : (c other : Res) (pair : ℕ × ℕ) (a : M) → class a ≡ other → is_same_res other c ≡ false → ◌≡◌ {A = Row} (class a, released a) (tell_row c pair (class a, released a))
  kept c other pair a is apart = sym (row_kept c (class a) other (released a) pair is apart)

  told_four : (a b c d m x : M) (k : Res) (pair : ℕ × ℕ) → map class (a ∷ b ∷ c ∷ d ∷ []) ≡ classes
      → class m ≡ class (get_or (a ∷ b ∷ c ∷ d ∷ []) (place_of k) x)
      → released m ≡ released (get_or (a ∷ b ∷ c ∷ d ∷ []) (place_of k) x) ++ pair ∷ []
      → told_to class released (set (a ∷ b ∷ c ∷ d ∷ []) (place_of k) m) ≡ tell k pair (told_to class released (a ∷ b ∷ c ∷ d ∷ []))
  told_four a b c d m x Enq pair order same more =
      four_rows _ _ _ _ _ _ _ _
      (changed Enq pair a m (ap (λ ks. get_or ks 0 Enq) order) same more)
      (kept Enq Stor pair b (ap (λ ks. get_or ks 1 Enq) order) refl)
      (kept Enq Dsn pair c (ap (λ ks. get_or ks 2 Enq) order) refl)
      (kept Enq Timr pair d (ap (λ ks. get_or ks 3 Enq) order) refl)
  told_four a b c d m x Stor pair order same more =
      four_rows _ _ _ _ _ _ _ _
      (kept Stor Enq pair a (ap (λ ks. get_or ks 0 Enq) order) refl)
      (changed Stor pair b m (ap (λ ks. get_or ks 1 Enq) order) same more)
      (kept Stor Dsn pair c (ap (λ ks. get_or ks 2 Enq) order) refl)
      (kept Stor Timr pair d (ap (λ ks. get_or ks 3 Enq) order) refl)
  told_four a b c d m x Dsn pair order same more =
      four_rows _ _ _ _ _ _ _ _
      (kept Dsn Enq pair a (ap (λ ks. get_or ks 0 Enq) order) refl)
      (kept Dsn Stor pair b (ap (λ ks. get_or ks 1 Enq) order) refl)
      (changed Dsn pair c m (ap (λ ks. get_or ks 2 Enq) order) same more)
      (kept Dsn Timr pair d (ap (λ ks. get_or ks 3 Enq) order) refl)
  told_four a b c d m x Timr pair order same more =
      four_rows _ _ _ _ _ _ _ _
      (kept Timr Enq pair a (ap (λ ks. get_or ks 0 Enq) order) refl)
      (kept Timr Stor pair b (ap (λ ks. get_or ks 1 Enq) order) refl)
      (kept Timr Dsn pair c (ap (λ ks. get_or ks 2 Enq) order) refl)
      (changed Timr pair d m (ap (λ ks. get_or ks 3 Enq) order) same more)

  pub told_kept : (ms : List M) (i : ℕ) (m d : M) → class m ≡ class (get_or ms i d) → released m ≡ released (get_or ms i d)
      → told_to class released (set ms i m) ≡ told_to class released ms
  told_kept ms i m d same list = map-set_same {B = Row} (λ m. (class m, released m)) ms i m d (row_of (class m) (class (get_or ms i d)) (released m) (released (get_or ms i d)) same list)

  -- the manager of a class, told one more: one pair more in the row of that class
  told_more : (ms : List M) (m x : M) (k : Res) (pair : ℕ × ℕ) → map class ms ≡ classes
      → class m ≡ class (get_or ms (place_of k) x) → released m ≡ released (get_or ms (place_of k) x) ++ pair ∷ []
      → told_to class released (set ms (place_of k) m) ≡ tell k pair (told_to class released ms)
  told_more [] m x k pair order same more = absurd cc
  told_more (a ∷ []) m x k pair order same more = absurd cc
  told_more (a ∷ b ∷ []) m x k pair order same more = absurd cc
  told_more (a ∷ b ∷ c ∷ []) m x k pair order same more = absurd cc
  told_more (a ∷ b ∷ c ∷ d ∷ []) m x k pair order same more = told_four a b c d m x k pair order same more
  told_more (a ∷ b ∷ c ∷ d ∷ e ∷ ms) m x k pair order same more = absurd cc

  -- the same at the place where it stands
  pub told_at : (ms : List M) (i : ℕ) (m x : M) (k : Res) (pair : ℕ × ℕ) → i ≡ place_of k → map class ms ≡ classes
      → class m ≡ class (get_or ms i x) → released m ≡ released (get_or ms i x) ++ pair ∷ []
      → told_to class released (set ms i m) ≡ tell k pair (told_to class released ms)
  told_at ms i m x k pair at order same more =
      ap (λ (j : ℕ). told_to class released (set ms j m)) at
      ∙ told_more ms m x k pair order (same ∙ ap (λ (j : ℕ). class (get_or ms j x)) at) (more ∙ ap (λ (j : ℕ). released (get_or ms j x) ++ pair ∷ []) at)
