-- A list that is split in two, with the first of the second part changed, is the list with that one changed.
use Rattle.std.proofs.Common.{◌≡◌, ℕ, zero, suc, ◌<◌, ◌≤◌, List, [], ◌∷◌, ◌++◌, length, take, drop, set, refl, ap, subst, sym, ◌∙◌, ◌+◌, arith, get_or}
use Rattle.std.proofs.lemmas.List.{append-nil, drop_all, take_all, take-append-drop, length-set, get_or-take, get_or-drop, get_or_default}

joined : {X : Type 0} (items : List X) (k : ℕ) (y : X) → k < length items → take k items ++ set (drop k items) 0 y ≡ set items k y
joined [] k y h = absurd (omega arith)
joined (x ∷ xs) zero y h = refl
joined {X} (x ∷ xs) (suc k) y h = ap (λ (l : List X). x ∷ l) (joined xs k y (omega arith))

written : {X : Type 0} (items xs : List X) (len : ℕ) → len ≡ length items → length xs ≡ length items → take len (xs ++ drop (length xs) items) ≡ xs
written {X} items xs len e f =
    let past : drop (length xs) items ≡ [] = drop_all (length xs) items (omega arith) in
    ap (λ (ys : List X). take len (xs ++ ys)) past ∙ ap (λ (ys : List X). take len ys) (append-nil xs) ∙ take_all len xs (omega arith)

-- the first of the second part changed
pub back_changed : {X : Type 0} (items front back : List X) (k len : ℕ) (y : X) → front ≡ take k items → back ≡ drop k items → k < length items → len ≡ length items
    → take len (front ++ set back 0 y ++ drop (length (front ++ set back 0 y)) items) ≡ set items k y
back_changed {X} items front back k len y f b h e =
    let same : front ++ set back 0 y ≡ set items k y =
    ap (λ (xs : List X). xs ++ set back 0 y) f ∙ ap (λ (ys : List X). take k items ++ set ys 0 y) b ∙ joined items k y h in
    subst (λ (xs : List X). take len (xs ++ drop (length xs) items) ≡ set items k y) (sym same) (written items (set items k y) len e (length-set items k y))

front_joined : {X : Type 0} (items : List X) (k i : ℕ) (y : X) → i < k → k ≤ length items → set (take k items) i y ++ drop k items ≡ set items i y
front_joined items zero i y h l = absurd (omega arith)
front_joined [] (suc k) i y h l = absurd (omega arith)
front_joined {X} (x ∷ xs) (suc k) zero y h l = ap (λ (ys : List X). y ∷ ys) (take-append-drop k xs)
front_joined {X} (x ∷ xs) (suc k) (suc i) y h l = ap (λ (ys : List X). x ∷ ys) (front_joined xs k i y (omega arith) (omega arith))

-- one of the first part changed
pub front_changed : {X : Type 0} (items front back : List X) (k i len : ℕ) (y : X) → front ≡ take k items → back ≡ drop k items → i < k → k ≤ length items → len ≡ length items
    → take len (set front i y ++ back ++ drop (length (set front i y ++ back)) items) ≡ set items i y
front_changed {X} items front back k i len y f b h l e =
    let same : set front i y ++ back ≡ set items i y =
    ap (λ (xs : List X). set xs i y ++ back) f ∙ ap (λ (ys : List X). set (take k items) i y ++ ys) b ∙ front_joined items k i y h l in
    subst (λ (xs : List X). take len (xs ++ drop (length xs) items) ≡ set items i y) (sym same) (written items (set items i y) len e (length-set items i y))

-- what is read of the parts
pub read_front : {X : Type 0} (items front : List X) (k i : ℕ) (x d : X) → front ≡ take k items → i < k → k ≤ length items → get_or front i x ≡ get_or items i d
read_front {X} items front k i x d f h l =
    ap (λ (xs : List X). get_or xs i x) f ∙ get_or-take k items i x h ∙ get_or_default items i x d (omega arith)

pub read_back : {X : Type 0} (items back : List X) (k i : ℕ) (x d : X) → back ≡ drop k items → k + i < length items → get_or back i x ≡ get_or items (k + i) d
read_back {X} items back k i x d b h = ap (λ (xs : List X). get_or xs i x) b ∙ get_or-drop k items i x ∙ get_or_default items (k + i) x d h
