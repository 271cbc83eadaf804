-- How far an error has gone along its list: its chain so far, and what is left.
use Rattle.std.proofs.Common.{◌≡◌, ℕ, suc, ◌+◌, ◌<◌, ◌≤◌, Bool, true, false, cond, not, ◌&&◌, List, [], ◌∷◌, ◌++◌, length, Option, Some, None, refl, sym, ap, subst, arith, inl, inr, ◌⊎◌, ◌∙◌}
use Rattle.std.proofs.lemmas.Bool.{eqb-true}
use Rattle.std.proofs.lemmas.Bool.Decides.{nat_tests}
use Rattle.std.proofs.lemmas.List.{take-append-le}
use Rattle.std.proofs.lemmas.List.Elements.{filter-append}
use Rattle.std.specs.List.{AllByRecursion}
use Rattle.std.specs.Option.{option_map, option_map_or}
use Rattle.std.specs.Prelude.{IsSome, filter, find, if◌then◌else◌, nat_lt, ◌==◌}
use Rattle.rtm_deck_items.specs.View.{DeckView}
use Rattle.rtm_model.specs.declared.entry.Entry.{Entry}
use Rattle.rtm_model.specs.declared.error_record.ErrorRecord.{ErrorRecord}
use Rattle.rtm_model.specs.declared.reg.Kind.{Kind}
use Rattle.rtm_model.specs.declared.reg.Kind.TheVariants.{Estae, Estai, Frr, Mgr}
use Rattle.rtm_model.specs.declared.reg.Reg.{Reg}
use Rattle.rtm_model.specs.Advance.{world}
use Rattle.rtm_model.specs.ChainLaw.{Leaving, chain, forced_chain, forced_end_at, forces_end, free_chain, is_before, leavings, rest_after, rest_of_list}
use Rattle.rtm_model.specs.Course.{is_fail}
use Rattle.rtm_model.specs.Eligible.{is_named, is_same_kind, list_of}
use Rattle.rtm_model.specs.Entries.{Opening}
use Rattle.rtm_model.specs.Levels.{error_in}
use Rattle.rtm_model.specs.World.{Core, core_at}
use Rattle.rtm_law_chains.proofs.Marks.{append-nil, append_assoc}

-- Lists

pub keep_all : {X : Type 0} (p : X → Bool) (xs : List X) → AllByRecursion (λ x. p x ≡ true) xs → filter p xs ≡ xs
keep_all p [] h = refl
keep_all {X} p (x ∷ xs) h = rw h.0 (ap (λ (ys : List X). x ∷ ys) (keep_all p xs h.1))

pub keep_none : {X : Type 0} (p : X → Bool) (xs : List X) → AllByRecursion (λ x. p x ≡ false) xs → filter p xs ≡ []
keep_none p [] h = refl
keep_none p (x ∷ xs) h = rw h.0 (keep_none p xs h.1)

pub all_by : {X : Type 0} (P Q : X → Type 0) → ((x : X) → P x → Q x) → (xs : List X) → AllByRecursion P xs → AllByRecursion Q xs
all_by P Q f [] h = tt
all_by P Q f (x ∷ xs) h = (f x h.0, all_by P Q f xs h.1)

pub all_more : {X : Type 0} (P : X → Type 0) (xs : List X) (x : X) → AllByRecursion P xs → P x → AllByRecursion P (xs ++ x ∷ [])
all_more P [] x h k = (k, tt)
all_more P (y ∷ xs) x h k = (h.0, all_more P xs x h.1 k)

pub length_more : {X : Type 0} (xs : List X) (x : X) → length (xs ++ x ∷ []) ≡ suc (length xs)
length_more [] x = refl
length_more (y ∷ xs) x = ap suc (length_more xs x)

filtered_if : {X : Type 0} (p : X → Bool) (x : X) (xs : List X) (b : Bool) → p x ≡ b → AllByRecursion (λ y. p y ≡ true) (filter p xs) → AllByRecursion (λ y. p y ≡ true) (cond b (x ∷ filter p xs) (filter p xs))
filtered_if p x xs true e h = (e, h)
filtered_if p x xs false e h = h

pub all_filtered : {X : Type 0} (p : X → Bool) (xs : List X) → AllByRecursion (λ x. p x ≡ true) (filter p xs)
all_filtered p [] = tt
all_filtered p (x ∷ xs) = filtered_if p x xs (p x) refl (all_filtered p xs)

lt_true : (a b : ℕ) → a < b → nat_lt a b ≡ true
lt_true a b h = grind (arith, nat_tests)

lt_false : (a b : ℕ) → b ≤ a → nat_lt a b ≡ false
lt_false a b h = grind (arith, nat_tests)

-- what is found in one more
pub find_same : {X : Type 0} (p q : X → Bool) (xs : List X) → AllByRecursion (λ y. q y ≡ p y) xs → find q xs ≡ find p xs
find_same p q [] h = refl
find_same {X} p q (x ∷ xs) h =
    ap (λ (b : Bool). cond b (Some x) (find q xs)) h.0 ∙ ap (λ (o : Option X). cond (p x) (Some x) o) (find_same p q xs h.1)

none_if : {X : Type 0} (q : X → Bool) (y : X) (ys : List X) (x : X) (b : Bool) → cond b (Some y) (find q ys) ≡ None → (find q ys ≡ None → find q (ys ++ x ∷ []) ≡ cond (q x) (Some x) None)
    → cond b (Some y) (find q (ys ++ x ∷ [])) ≡ cond (q x) (Some x) None
none_if q y ys x true e more = absurd cc
none_if q y ys x false e more = more e

pub find_none : {X : Type 0} (q : X → Bool) (xs : List X) (x : X) → find q xs ≡ None → find q (xs ++ x ∷ []) ≡ cond (q x) (Some x) None
find_none q [] x e = refl
find_none q (y ∷ ys) x e = none_if q y ys x (q y) e (find_none q ys x)

some_if : {X : Type 0} (q : X → Bool) (y : X) (ys : List X) (x z : X) (b : Bool) → cond b (Some y) (find q ys) ≡ Some z → (find q ys ≡ Some z → find q (ys ++ x ∷ []) ≡ Some z)
    → cond b (Some y) (find q (ys ++ x ∷ [])) ≡ Some z
some_if q y ys x z true e more = e
some_if q y ys x z false e more = more e

pub find_some : {X : Type 0} (q : X → Bool) (xs : List X) (x z : X) → find q xs ≡ Some z → find q (xs ++ x ∷ []) ≡ Some z
find_some q [] x z e = absurd cc
find_some q (y ∷ ys) x z e = some_if q y ys x z (q y) e (find_some q ys x z)

-- Names

same_kind : (kind : Kind) → is_same_kind kind kind ≡ true
same_kind Frr = refl
same_kind Estae = refl
same_kind Estai = refl
same_kind Mgr = refl

kind_is : (a b : Kind) → is_same_kind a b ≡ true → a ≡ b
kind_is Frr Frr h = refl
kind_is Estae Estae h = refl
kind_is Estai Estai h = refl
kind_is Mgr Mgr h = refl
kind_is _ _ h = absurd cc

and_is : (a b : Bool) → (a && b) ≡ true → (a ≡ true) × (b ≡ true)
and_is true true h = (refl, refl)
and_is true false h = absurd cc
and_is false b h = absurd cc

pub name_is : (kind : Kind) (born : ℕ) (reg : Reg) → is_named kind born reg ≡ true → (kind ≡ reg.kind) × (born ≡ reg.born)
name_is kind born reg h =
    let both = and_is (is_same_kind kind reg.kind) (reg.born == born) h in
    (kind_is kind reg.kind both.0, sym (eqb-true reg.born born both.1))

-- the chain goes one further
rest_if : (o : Opening) (os : List Opening) (x : Opening) (reg : Reg) (regs : List Reg) (next : Reg) (rest : List Reg) (b : Bool)
    → (if b then rest_after os regs else None) ≡ Some (next ∷ rest) → (rest_after os regs ≡ Some (next ∷ rest) → rest_after (os ++ x ∷ []) regs ≡ Some rest)
    → (if b then rest_after (os ++ x ∷ []) regs else None) ≡ Some rest
rest_if o os x reg regs next rest true e more = more e
rest_if o os x reg regs next rest false e more = absurd cc

pub rest_more : (os : List Opening) (x : Opening) (regs : List Reg) (next : Reg) (rest : List Reg) → is_named x.kind x.born next ≡ true → rest_after os regs ≡ Some (next ∷ rest) → rest_after (os ++ x ∷ []) regs ≡ Some rest
rest_more [] x regs next rest named e =
    let same : regs ≡ next ∷ rest = cc in
    rw (same, named) refl
rest_more (o ∷ os) x [] next rest named e = absurd cc
rest_more (o ∷ os) x (reg ∷ regs) next rest named e = rest_if o os x reg regs next rest (is_named o.kind o.born reg) e (rest_more os x regs next rest named)

-- Where each has been entered before the index
abbrev pub AreBelow : ℕ → List Opening → Type 0
AreBelow n os = AllByRecursion (λ (o : Opening). o.at < n) os

abbrev pub AreLeftBelow : ℕ → List Leaving → Type 0
AreLeftBelow n ls = AllByRecursion (λ (l : Leaving). l.at < n) ls

-- the one, or else the other
abbrev first_of : Option Leaving → Option Leaving → Option Leaving
first_of None other = other
first_of (Some l) other = Some l

module _ (d : DeckView) (error u : ℕ) (list : List Reg) where
  -- no routine has failed by a TERM-only error yet
  pub record IsFree (h : List Entry) (left : List Reg) : Type 0 where
    pub none : forced_end_at d h error u ≡ None
    pub rest : rest_after (chain error u h) list ≡ Some left

  -- one has, and so routines with TERM=YES alone are left
  pub record IsForced (h : List Entry) (left : List Reg) : Type 0 where
    pub at : ℕ
    pub forced : forced_end_at d h error u ≡ Some at
    pub since : at < length h
    pub front : List Opening
    pub back : List Opening
    pub chain_is : chain error u h ≡ front ++ back
    pub before : AllByRecursion (λ (o : Opening). o.at < at) front
    pub after : AllByRecursion (λ (o : Opening). at ≤ o.at) back
    pub middle : List Reg
    pub front_rest : rest_after front list ≡ Some middle
    pub back_rest : rest_after back (filter (λ (reg : Reg). reg.term) middle) ≡ Some left
    pub terms : AllByRecursion (λ (reg : Reg). reg.term ≡ true) left

  abbrev pub Walk : List Entry → List Reg → Type 0
  Walk h left = IsFree h left ⊎ IsForced h left

  -- what the law asks of it
  free_all : (os : List Opening) → AllByRecursion (λ (o : Opening). is_before None o ≡ true) os
  free_all [] = tt
  free_all (o ∷ os) = (refl, free_all os)

  free_none : (os : List Opening) → AllByRecursion (λ (o : Opening). not (is_before None o) ≡ false) os
  free_none [] = tt
  free_none (o ∷ os) = (refl, free_none os)

  chain_free : (h : List Entry) → forced_end_at d h error u ≡ None → free_chain d h error u ≡ chain error u h
  chain_free h none = ap (λ (f : Option ℕ). filter (is_before f) (chain error u h)) none ∙ keep_all (is_before None) (chain error u h) (free_all (chain error u h))

  chain_forced : (h : List Entry) → forced_end_at d h error u ≡ None → forced_chain d h error u ≡ []
  chain_forced h none =
      ap (λ (f : Option ℕ). filter (λ o. not (is_before f o)) (chain error u h)) none ∙ keep_none (λ o. not (is_before None o)) (chain error u h) (free_none (chain error u h))

  module _ (h : List Entry) (left : List Reg) (is : IsForced h left) where
    front_free : filter (is_before (Some is.at)) is.front ≡ is.front
    front_free = keep_all (is_before (Some is.at)) is.front (all_by _ _ (λ o less. lt_true (Opening.at o) is.at less) is.front is.before)

    back_free : filter (is_before (Some is.at)) is.back ≡ []
    back_free = keep_none (is_before (Some is.at)) is.back (all_by _ _ (λ o more. lt_false (Opening.at o) is.at more) is.back is.after)

    front_forced : filter (λ o. not (is_before (Some is.at) o)) is.front ≡ []
    front_forced = keep_none (λ o. not (is_before (Some is.at) o)) is.front (all_by _ _ (λ o less. ap not (lt_true (Opening.at o) is.at less)) is.front is.before)

    back_forced : filter (λ o. not (is_before (Some is.at) o)) is.back ≡ is.back
    back_forced = keep_all (λ o. not (is_before (Some is.at) o)) is.back (all_by _ _ (λ o more. ap not (lt_false (Opening.at o) is.at more)) is.back is.after)

    chain_front : free_chain d h error u ≡ is.front
    chain_front =
        ap (λ (f : Option ℕ). filter (is_before f) (chain error u h)) is.forced ∙ ap (filter (is_before (Some is.at))) is.chain_is
        ∙ filter-append (is_before (Some is.at)) is.front is.back ∙ ap (λ (os : List Opening). os ++ filter (is_before (Some is.at)) is.back) front_free
        ∙ ap (λ (os : List Opening). is.front ++ os) back_free ∙ append-nil is.front

    chain_back : forced_chain d h error u ≡ is.back
    chain_back =
        ap (λ (f : Option ℕ). filter (λ o. not (is_before f o)) (chain error u h)) is.forced ∙ ap (filter (λ o. not (is_before (Some is.at) o))) is.chain_is
        ∙ filter-append (λ o. not (is_before (Some is.at) o)) is.front is.back ∙ ap (λ (os : List Opening). os ++ filter (λ o. not (is_before (Some is.at) o)) is.back) front_forced
        ∙ back_forced

  module _ (h : List Entry) (left : List Reg) (list_is : list_of d h error u ≡ list) where
    pub walk_free : Walk h left → IsSome (rest_after (free_chain d h error u) (list_of d h error u))
    walk_free (inl is) = rw (chain_free h is.none, list_is, is.rest) refl
    walk_free (inr is) = rw (chain_front h left is, list_is, is.front_rest) refl

    pub walk_rest : Walk h left → rest_of_list d h error u ≡ Some left
    walk_rest (inl is) = rw (chain_free h is.none, list_is, is.rest, chain_forced h is.none, is.none) refl
    walk_rest (inr is) = rw (chain_front h left is, list_is, is.front_rest, chain_back h left is, is.forced) is.back_rest

  -- One entry more

  module _ (h : List Entry) (e : Entry) where
    abbrev Longer : List Entry
    Longer = h ++ e ∷ []

    more_length : length Longer ≡ length h + 1
    more_length = let m = length_more h e in omega (arith, m)

    -- what ended is known by the history up to it
    forces_same : (l : Leaving) → l.at ≤ length h → forces_end d Longer u l ≡ forces_end d h u l
    forces_same l le = ap (λ (es : List Entry). is_fail l.verdict && option_map_or (λ (r : ErrorRecord). r.flags.term_only) (error_in (Core.levels (core_at u (world d es)))) false) (take-append-le l.at h (e ∷ []) le)

    forced_same : leavings error u Longer ≡ leavings error u h → AreLeftBelow (length h) (leavings error u h) → forced_end_at d Longer error u ≡ forced_end_at d h error u
    forced_same same below =
        ap (λ (ls : List Leaving). option_map (λ (l : Leaving). l.at) (find (forces_end d Longer u) ls)) same
        ∙ ap (option_map (λ (l : Leaving). l.at)) (find_same (forces_end d h u) (forces_end d Longer u) (leavings error u h) (all_by _ _ (λ l less. forces_same l (omega (arith, less))) (leavings error u h) below))

    -- nothing of the error's
    pub walk_same : chain error u Longer ≡ chain error u h → leavings error u Longer ≡ leavings error u h → AreLeftBelow (length h) (leavings error u h) → (left : List Reg) → Walk h left → Walk Longer left
    walk_same chains lefts below left (inl is) = inl (record { none = forced_same lefts below ∙ is.none; rest = ap (λ (os : List Opening). rest_after os list) chains ∙ is.rest })
    walk_same chains lefts below left (inr is) = inr (record {
      at = is.at;
      forced = forced_same lefts below ∙ is.forced;
      since = omega (arith, is.since, more_length);
      front = is.front;
      back = is.back;
      chain_is = chains ∙ is.chain_is;
      before = is.before;
      after = is.after;
      middle = is.middle;
      front_rest = is.front_rest;
      back_rest = is.back_rest;
      terms = is.terms;
    })

    -- the next routine is entered
    pub walk_enters : (o : Opening) → o.at ≡ length h → chain error u Longer ≡ chain error u h ++ o ∷ [] → leavings error u Longer ≡ leavings error u h → AreLeftBelow (length h) (leavings error u h)
        → (reg : Reg) (left : List Reg) → is_named o.kind o.born reg ≡ true → Walk h (reg ∷ left) → Walk Longer left
    walk_enters o at chains lefts below reg left named (inl is) = inl (record {
      none = forced_same lefts below ∙ is.none;
      rest = ap (λ (os : List Opening). rest_after os list) chains ∙ rest_more (chain error u h) o list reg left named is.rest;
    })
    walk_enters o at chains lefts below reg left named (inr is) = inr (record {
      at = is.at;
      forced = forced_same lefts below ∙ is.forced;
      since = omega (arith, is.since, more_length);
      front = is.front;
      back = is.back ++ o ∷ [];
      chain_is = chains ∙ ap (λ (os : List Opening). os ++ o ∷ []) is.chain_is ∙ sym (append_assoc is.front is.back (o ∷ []));
      before = is.before;
      after = all_more _ is.back o is.after (omega (arith, is.since, at));
      middle = is.middle;
      front_rest = is.front_rest;
      back_rest = rest_more is.back o (filter (λ (reg : Reg). reg.term) is.middle) reg left named is.back_rest;
      terms = is.terms.1;
    })

    -- a routine is left: it has failed by a TERM-only error, or not
    module _ (l : Leaving) (at : l.at ≡ length h) (chains : chain error u Longer ≡ chain error u h) (lefts : leavings error u Longer ≡ leavings error u h ++ l ∷ []) (below : AreLeftBelow (length h) (leavings error u h)) where
      forces_now : forces_end d Longer u l ≡ forces_end d h u l
      forces_now = forces_same l (omega (arith, at))

      found_before : find (forces_end d Longer u) (leavings error u h) ≡ find (forces_end d h u) (leavings error u h)
      found_before = find_same (forces_end d h u) (forces_end d Longer u) (leavings error u h) (all_by _ _ (λ l less. forces_same l (omega (arith, less))) (leavings error u h) below)

      forced_by : (o : Option Leaving) → find (forces_end d h u) (leavings error u h) ≡ o → (b : Bool) → forces_end d h u l ≡ b
          → forced_end_at d Longer error u ≡ option_map (λ (l : Leaving). l.at) (first_of o (if b then Some l else None))
      forced_by None e b f =
          ap (λ (ls : List Leaving). option_map (λ (l : Leaving). l.at) (find (forces_end d Longer u) ls)) lefts
          ∙ ap (option_map (λ (l : Leaving). l.at)) (find_none (forces_end d Longer u) (leavings error u h) l (found_before ∙ e) ∙ ap (λ (b : Bool). cond b (Some l) None) (forces_now ∙ f))
      forced_by (Some x) e b f =
          ap (λ (ls : List Leaving). option_map (λ (l : Leaving). l.at) (find (forces_end d Longer u) ls)) lefts
          ∙ ap (option_map (λ (l : Leaving). l.at)) (find_some (forces_end d Longer u) (leavings error u h) l x (found_before ∙ e))

      free_still : (o : Option Leaving) → find (forces_end d h u) (leavings error u h) ≡ o → forced_end_at d h error u ≡ None → (b : Bool) → forces_end d h u l ≡ b → forced_end_at d Longer error u ≡ (if b then Some (length h) else None)
      free_still None e none true f = forced_by None e true f ∙ ap Some at
      free_still None e none false f = forced_by None e false f
      free_still (Some x) e none b f = let clash : Some (Leaving.at x) ≡ None = ap (option_map (λ (l : Leaving). l.at)) (sym e) ∙ none in absurd cc

      forced_still : (k : ℕ) (o : Option Leaving) → find (forces_end d h u) (leavings error u h) ≡ o → forced_end_at d h error u ≡ Some k → forced_end_at d Longer error u ≡ Some k
      forced_still k None e some = let clash : None ≡ Some k = ap (option_map (λ (l : Leaving). l.at)) (sym e) ∙ some in absurd cc
      forced_still k (Some x) e some = forced_by (Some x) e (forces_end d h u l) refl ∙ ap (option_map (λ (l : Leaving). l.at)) (sym e) ∙ some

      still_forced : (left : List Reg) → IsForced h left → IsForced Longer left
      still_forced left is = record {
        at = is.at;
        forced = forced_still is.at (find (forces_end d h u) (leavings error u h)) refl is.forced;
        since = omega (arith, is.since, more_length);
        front = is.front;
        back = is.back;
        chain_is = chains ∙ is.chain_is;
        before = is.before;
        after = is.after;
        middle = is.middle;
        front_rest = is.front_rest;
        back_rest = is.back_rest;
        terms = is.terms;
      }

      pub walk_leaves : AreBelow (length h) (chain error u h) → (left : List Reg) → Walk h left → (b : Bool) → forces_end d h u l ≡ b → Walk Longer (if b then filter (λ (reg : Reg). reg.term) left else left)
      walk_leaves chain_below left (inl is) false f = inl (record {
        none = free_still (find (forces_end d h u) (leavings error u h)) refl is.none false f;
        rest = ap (λ (os : List Opening). rest_after os list) chains ∙ is.rest;
      })
      walk_leaves chain_below left (inl is) true f = inr (record {
        at = length h;
        forced = free_still (find (forces_end d h u) (leavings error u h)) refl is.none true f;
        since = omega (arith, more_length);
        front = chain error u h;
        back = [];
        chain_is = chains ∙ sym (append-nil (chain error u h));
        before = chain_below;
        after = tt;
        middle = left;
        front_rest = is.rest;
        back_rest = refl;
        terms = all_filtered (λ (reg : Reg). reg.term) left;
      })
      walk_leaves chain_below left (inr is) false f = inr (still_forced left is)
      walk_leaves chain_below left (inr is) true f = subst (Walk Longer) (sym (keep_all (λ (reg : Reg). reg.term) left is.terms)) (inr (still_forced left is))
