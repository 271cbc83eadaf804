-- The chain of an error by entries, beside the states of its course.
use Rattle.std.proofs.Common.{◌≡◌, ℕ, zero, suc, ◌+◌, Bool, true, false, cond, not, ◌&&◌, List, [], ◌∷◌, ◌++◌, length, refl, sym, ap, subst, arith, ◌∙◌}
use Rattle.std.proofs.lemmas.Bool.{and_parts, eq-eqb, eqb-false, eqb-true, ne_eqb, not-true, or_parts}
use Rattle.std.proofs.lemmas.List.Folds.{list_any-append}
use Rattle.std.specs.List.{list_any}
use Rattle.std.specs.Prelude.{filter, if◌then◌else◌, ◌==◌}
use Rattle.rtm_deck_items.specs.View.{DeckView}
use Rattle.rtm_model.specs.declared.entry.Entry.{Entry}
use Rattle.rtm_model.specs.declared.reg.Kind.{Kind}
use Rattle.rtm_model.specs.declared.reg.Kind.TheVariants.{Estae, Estai, Frr, Mgr}
use Rattle.rtm_model.specs.declared.reg.Reg.{Reg}
use Rattle.rtm_model.specs.ChainLaw.{Leaving, are_entered_once, are_left, chain, ends_in_stop, forces_end, is_opening_of, is_stop, leaving_at, leavings, opening_at}
use Rattle.rtm_model.specs.Course.{Course}
use Rattle.rtm_model.specs.Course.{Closed, Goes, Runs, Stopped}
use Rattle.rtm_model.specs.Eligible.{AreDistinct, is_named, is_same_kind}
use Rattle.rtm_model.specs.Entries.{OpenBracket, Opening, brackets_after, brackets_from, brackets_of, enclosing_brackets, error_at, outermost_bracket}
use Rattle.rtm_model.specs.Tasks.{is_number}
use Rattle.rtm_law_chains.proofs.Marks.{IsAtDepth, IsNowhere, append-nil, chain_more, entered_now, leavings_more, left_now}
use Rattle.rtm_law_chains.proofs.Walks.{AreBelow, AreLeftBelow, Walk, all_by, all_more, length_more, name_is, walk_enters, walk_leaves, walk_same}

-- Brackets by one more entry

from_append : (u n : ℕ) (es : List Entry) (e : Entry) (bs : List OpenBracket) → brackets_from u n (es ++ e ∷ []) bs ≡ brackets_after u (n + length es) e (brackets_from u n es bs)
from_append u n [] e bs = let k : n + 0 ≡ n = omega arith in ap (λ (m : ℕ). brackets_after u m e bs) (sym k)
from_append u n (x ∷ es) e bs =
    let k : n + 1 + length es ≡ n + suc (length es) = omega arith in
    from_append u (n + 1) es e (brackets_after u n x bs) ∙ ap (λ (m : ℕ). brackets_after u m e (brackets_from u (n + 1) es (brackets_after u n x bs))) k

pub brackets_more : (u : ℕ) (h : List Entry) (e : Entry) → brackets_of u (h ++ e ∷ []) ≡ brackets_after u (length h) e (brackets_of u h)
brackets_more u h e =
    let k : 0 + length h ≡ length h = omega arith in
    from_append u 0 h e outermost_bracket ∙ ap (λ (m : ℕ). brackets_after u m e (brackets_of u h)) k

-- Left under their names

and_map : (a b c1 c2 : Bool) → (c1 ≡ true → c2 ≡ true) → (a && b && c1) ≡ true → (a && b && c2) ≡ true
and_map true true c1 c2 f h = f h
and_map true false c1 c2 f h = h
and_map false b c1 c2 f h = h

left_longer : (os : List Opening) (ls : List Leaving) (o : Opening) → are_left os ls ≡ true → are_left (os ++ o ∷ []) ls ≡ true
left_longer os [] o h = refl
left_longer [] (l ∷ ls) o h = absurd cc
left_longer (x ∷ os) (l ∷ ls) o h = and_map (is_same_kind x.kind l.kind) (x.born == l.born) (are_left os ls) (are_left (os ++ o ∷ []) ls) (left_longer os ls o) h

left_more : (os : List Opening) (ls : List Leaving) (o : Opening) (l : Leaving) → length os ≡ length ls → are_left os ls ≡ true → is_same_kind o.kind l.kind ≡ true → (o.born == l.born) ≡ true → are_left (os ++ o ∷ []) (ls ++ l ∷ []) ≡ true
left_more [] [] o l even h k b = rw (k, b) refl
left_more [] (x ∷ ls) o l even h k b = absurd (omega (arith, even))
left_more (x ∷ os) [] o l even h k b = absurd (omega (arith, even))
left_more (x ∷ os) (y ∷ ls) o l even h k b =
    and_map (is_same_kind x.kind y.kind) (x.born == y.born) (are_left os ls) (are_left (os ++ o ∷ []) (ls ++ l ∷ [])) (λ more. left_more os ls o l (omega (arith, even)) more k b) h

pub stop_more : (ls : List Leaving) (l : Leaving) → ends_in_stop (ls ++ l ∷ []) ≡ is_stop l.verdict
stop_more [] l = refl
stop_more (x ∷ []) l = refl
stop_more (x ∷ y ∷ ls) l = stop_more (y ∷ ls) l

same_kind : (kind : Kind) → is_same_kind kind kind ≡ true
same_kind Frr = refl
same_kind Estae = refl
same_kind Estai = refl
same_kind Mgr = refl

-- Names that are apart

abbrev pub AreApart : List Opening → List Reg → Type 0
AreApart [] regs = Unit {0}
AreApart (o ∷ os) regs = (list_any (is_named o.kind o.born) regs ≡ false) × AreApart os regs

pub apart_tail : (os : List Opening) (reg : Reg) (regs : List Reg) → AreApart os (reg ∷ regs) → AreApart os regs
apart_tail [] reg regs h = tt
apart_tail (o ∷ os) reg regs h = ((or_parts (is_named o.kind o.born reg) (list_any (is_named o.kind o.born) regs) h.0).1, apart_tail os reg regs h.1)

apart_more : (os : List Opening) (o : Opening) (regs : List Reg) → AreApart os regs → list_any (is_named o.kind o.born) regs ≡ false → AreApart (os ++ o ∷ []) regs
apart_more [] o regs h new = (new, tt)
apart_more (x ∷ os) o regs h new = (h.0, apart_more os o regs h.1 new)

any_if : (p q : Reg → Bool) (x : Reg) (ys zs : List Reg) (b : Bool) → p x ≡ false → list_any p zs ≡ false → list_any p (cond b (x ∷ zs) zs) ≡ false
any_if p q x ys zs true e h = rw e h
any_if p q x ys zs false e h = h

any_filter : (p q : Reg → Bool) (xs : List Reg) → list_any p xs ≡ false → list_any p (filter q xs) ≡ false
any_filter p q [] h = refl
any_filter p q (x ∷ xs) h =
    let parts = or_parts (p x) (list_any p xs) h in
    any_if p q x xs (filter q xs) (q x) parts.0 (any_filter p q xs parts.1)

apart_filter : (q : Reg → Bool) (os : List Opening) (regs : List Reg) → AreApart os regs → AreApart os (filter q regs)
apart_filter q [] regs h = tt
apart_filter q (o ∷ os) regs h = (any_filter (is_named o.kind o.born) q regs h.0, apart_filter q os regs h.1)

distinct_if : (q : Reg → Bool) (x : Reg) (xs : List Reg) (b : Bool) → list_any (is_named x.kind x.born) (filter q xs) ≡ false → AreDistinct (filter q xs) → AreDistinct (cond b (x ∷ filter q xs) (filter q xs))
distinct_if q x xs true new h = (new, h)
distinct_if q x xs false new h = h

distinct_filter : (q : Reg → Bool) (xs : List Reg) → AreDistinct xs → AreDistinct (filter q xs)
distinct_filter q [] h = tt
distinct_filter q (x ∷ xs) h = distinct_if q x xs (q x) (any_filter (is_named x.kind x.born) q xs h.0) (distinct_filter q xs h.1)

swap_if : (a b : ℕ) (t : Bool) → (a == b) ≡ t → t ≡ (b == a)
swap_if a b true e = sym (eq-eqb b a (sym (eqb-true a b e)))
swap_if a b false e = sym (ne_eqb b a (λ same. eqb-false a b e (sym same)))

swap : (a b : ℕ) → (a == b) ≡ (b == a)
swap a b = swap_if a b (a == b) refl

-- the one that is entered was not before
opening_is : (x o : Opening) (reg : Reg) → o.kind ≡ reg.kind → o.born ≡ reg.born → is_opening_of x o ≡ is_named x.kind x.born reg
opening_is x o reg k b = rw (k, b, swap x.born reg.born) refl

once_more : (os : List Opening) (o : Opening) (reg : Reg) (regs : List Reg) → o.kind ≡ reg.kind → o.born ≡ reg.born → are_entered_once os ≡ true → AreApart os (reg ∷ regs) → are_entered_once (os ++ o ∷ []) ≡ true
once_more [] o reg regs k b h apart = refl
once_more (x ∷ os) o reg regs k b h apart =
    let parts = and_parts (not (list_any (is_opening_of x) os)) (are_entered_once os) h in
    let old : list_any (is_opening_of x) os ≡ false = not-true (list_any (is_opening_of x) os) parts.0 in
    let new : is_opening_of x o ≡ false = opening_is x o reg k b ∙ (or_parts (is_named x.kind x.born reg) (list_any (is_named x.kind x.born) regs) apart.0).0 in
    let none : list_any (is_opening_of x) (os ++ o ∷ []) ≡ false = list_any-append (is_opening_of x) os (o ∷ []) ∙ rw (old, new) refl in
    rw (none, once_more os o reg regs k b parts.1 apart.1) refl

-- What an entry adds, and what it doesn't

pub neither : {X : Type 0} (b : Bool) (none : List X) → none ≡ [] → (if b then none else []) ≡ []
neither true none e = e
neither false none e = refl

unless : {X : Type 0} (a b : Bool) (xs : List X) → b ≡ false → (if a && b then xs else []) ≡ []
unless true b xs e = rw e refl
unless false b xs e = refl

module _ (error u : ℕ) where
  pub not_entered : (n : ℕ) (bs : List OpenBracket) (e : Entry) → is_number error (error_at bs) ≡ false → entered_now error u n bs e ≡ []
  not_entered n bs e h = unless (e.unit == u) (is_number error (error_at bs)) (opening_at n e.what) h

  pub not_left : (n : ℕ) (bs : List OpenBracket) (e : Entry) → is_number error (error_at (enclosing_brackets bs)) ≡ false → left_now error u n bs e ≡ []
  not_left n bs e h = unless (e.unit == u) (is_number error (error_at (enclosing_brackets bs))) (leaving_at n e.what) h

  pub chain_still : (h : List Entry) (e : Entry) → entered_now error u (length h) (brackets_of u h) e ≡ [] → chain error u (h ++ e ∷ []) ≡ chain error u h
  chain_still h e none = chain_more error u h e ∙ ap (λ (os : List Opening). chain error u h ++ os) none ∙ append-nil (chain error u h)

  pub leavings_still : (h : List Entry) (e : Entry) → left_now error u (length h) (brackets_of u h) e ≡ [] → leavings error u (h ++ e ∷ []) ≡ leavings error u h
  leavings_still h e none = leavings_more error u h e ∙ ap (λ (ls : List Leaving). leavings error u h ++ ls) none ∙ append-nil (leavings error u h)

-- The states

module _ (d : DeckView) (error u : ℕ) (list : List Reg) where
  pub record IsSound (h : List Entry) : Type 0 where
    pub below : AreBelow (length h) (chain error u h)
    pub left_below : AreLeftBelow (length h) (leavings error u h)
    pub once : are_entered_once (chain error u h) ≡ true

  pub record IsSettled (h : List Entry) (left : List Reg) : Type 0 where
    pub sound : IsSound h
    pub walk : Walk d error u list h left
    pub left_all : are_left (chain error u h) (leavings error u h) ≡ true
    pub even : length (chain error u h) ≡ length (leavings error u h)
    pub apart : AreApart (chain error u h) left
    pub distinct : AreDistinct left

  pub record IsPending (h : List Entry) (routine : Reg) (left : List Reg) : Type 0 where
    pub sound : IsSound h
    pub walk : Walk d error u list h left
    pub front : List Opening
    pub last : Opening
    pub chain_is : chain error u h ≡ front ++ last ∷ []
    pub kind_is : last.kind ≡ routine.kind
    pub born_is : last.born ≡ routine.born
    pub left_all : are_left front (leavings error u h) ≡ true
    pub even : length front ≡ length (leavings error u h)
    pub apart : AreApart (chain error u h) left
    pub distinct : AreDistinct left

  pub record IsEnded (h : List Entry) : Type 0 where
    pub sound : IsSound h
    pub left : List Reg
    pub walk : Walk d error u list h left
    pub left_all : are_left (chain error u h) (leavings error u h) ≡ true

  pub record IsAfterStop (h : List Entry) : Type 0 where
    pub left : List Reg
    pub settled : IsSettled h left
    pub stop : ends_in_stop (leavings error u h) ≡ true

  abbrev pub HasChain : List Entry → Course → Type 0
  HasChain h (Goes left) = IsSettled h left × IsAtDepth zero error (brackets_of u h)
  HasChain h (Runs routine left inside) = IsPending h routine left × IsAtDepth (suc inside) error (brackets_of u h)
  HasChain h Stopped = IsAfterStop h × IsAtDepth zero error (brackets_of u h)
  HasChain h Closed = IsEnded h × IsNowhere error (brackets_of u h)

  -- all openings so far are left, or the last still runs
  pub pending_left : (h : List Entry) (routine : Reg) (left : List Reg) (p : IsPending h routine left) → are_left (chain error u h) (leavings error u h) ≡ true
  pending_left h routine left p = ap (λ (os : List Opening). are_left os (leavings error u h)) p.chain_is ∙ left_longer p.front (leavings error u h) p.last p.left_all

  -- an entry that adds nothing
  module _ (h : List Entry) (e : Entry) (chains : chain error u (h ++ e ∷ []) ≡ chain error u h) (lefts : leavings error u (h ++ e ∷ []) ≡ leavings error u h) where
    more : length (h ++ e ∷ []) ≡ length h + 1
    more = let m = length_more h e in omega (arith, m)

    sound_same : IsSound h → IsSound (h ++ e ∷ [])
    sound_same s = record {
      below = subst (AreBelow (length (h ++ e ∷ []))) (sym chains) (all_by _ _ (λ o less. omega (arith, less, more)) (chain error u h) s.below);
      left_below = subst (AreLeftBelow (length (h ++ e ∷ []))) (sym lefts) (all_by _ _ (λ l less. omega (arith, less, more)) (leavings error u h) s.left_below);
      once = ap are_entered_once chains ∙ s.once;
    }

    left_same : are_left (chain error u h) (leavings error u h) ≡ true → are_left (chain error u (h ++ e ∷ [])) (leavings error u (h ++ e ∷ [])) ≡ true
    left_same k = ap (λ (os : List Opening). are_left os (leavings error u (h ++ e ∷ []))) chains ∙ ap (are_left (chain error u h)) lefts ∙ k

    pub settled_same : (left : List Reg) → IsSettled h left → IsSettled (h ++ e ∷ []) left
    settled_same left s = record {
      sound = sound_same s.sound;
      walk = walk_same d error u list h e chains lefts (IsSound.left_below s.sound) left s.walk;
      left_all = left_same s.left_all;
      even = ap length chains ∙ s.even ∙ ap length (sym lefts);
      apart = subst (λ (os : List Opening). AreApart os left) (sym chains) s.apart;
      distinct = s.distinct;
    }

    pub pending_same : (routine : Reg) (left : List Reg) → IsPending h routine left → IsPending (h ++ e ∷ []) routine left
    pending_same routine left p = record {
      sound = sound_same p.sound;
      walk = walk_same d error u list h e chains lefts (IsSound.left_below p.sound) left p.walk;
      front = p.front;
      last = p.last;
      chain_is = chains ∙ p.chain_is;
      kind_is = p.kind_is;
      born_is = p.born_is;
      left_all = ap (are_left p.front) lefts ∙ p.left_all;
      even = p.even ∙ ap length (sym lefts);
      apart = subst (λ (os : List Opening). AreApart os left) (sym chains) p.apart;
      distinct = p.distinct;
    }

    pub ended_same : IsEnded h → IsEnded (h ++ e ∷ [])
    ended_same s = record {
      sound = sound_same s.sound;
      left = s.left;
      walk = walk_same d error u list h e chains lefts (IsSound.left_below s.sound) s.left s.walk;
      left_all = left_same s.left_all;
    }

    pub stopped_same : IsAfterStop h → IsAfterStop (h ++ e ∷ [])
    stopped_same s = record { left = s.left; settled = settled_same s.left s.settled; stop = ap ends_in_stop lefts ∙ s.stop }

    pub settled_ends : (left : List Reg) → IsSettled h left → IsEnded (h ++ e ∷ [])
    settled_ends left s = record {
      sound = sound_same s.sound;
      left = left;
      walk = walk_same d error u list h e chains lefts (IsSound.left_below s.sound) left s.walk;
      left_all = left_same s.left_all;
    }

    pub pending_ends : (routine : Reg) (left : List Reg) → IsPending h routine left → IsEnded (h ++ e ∷ [])
    pending_ends routine left p = record {
      sound = sound_same p.sound;
      left = left;
      walk = walk_same d error u list h e chains lefts (IsSound.left_below p.sound) left p.walk;
      left_all = left_same (pending_left h routine left p);
    }

  -- the first of what is left is entered
  module _ (h : List Entry) (e : Entry) (o : Opening) (at : o.at ≡ length h) (chains : chain error u (h ++ e ∷ []) ≡ chain error u h ++ o ∷ []) (lefts : leavings error u (h ++ e ∷ []) ≡ leavings error u h)
      (reg : Reg) (left : List Reg) (named : is_named o.kind o.born reg ≡ true) (s : IsSettled h (reg ∷ left)) where
    pub enters : IsPending (h ++ e ∷ []) reg left
    enters =
        let name = name_is o.kind o.born reg named in
        let m = length_more h e in
        let apart_new : list_any (is_named o.kind o.born) left ≡ false =
        ap (λ (k : Kind). list_any (is_named k o.born) left) name.0 ∙ ap (λ (b : ℕ). list_any (is_named reg.kind b) left) name.1 ∙ s.distinct.0 in
        record {
          sound = record {
            below = subst (AreBelow (length (h ++ e ∷ []))) (sym chains) (all_more _ (chain error u h) o (all_by _ _ (λ o less. omega (arith, less, m)) (chain error u h) (IsSound.below s.sound)) (omega (arith, at, m)));
            left_below = subst (AreLeftBelow (length (h ++ e ∷ []))) (sym lefts) (all_by _ _ (λ l less. omega (arith, less, m)) (leavings error u h) (IsSound.left_below s.sound));
            once = ap are_entered_once chains ∙ once_more (chain error u h) o reg left name.0 name.1 (IsSound.once s.sound) s.apart;
          };
          walk = walk_enters d error u list h e o at chains lefts (IsSound.left_below s.sound) reg left named s.walk;
          front = chain error u h;
          last = o;
          chain_is = chains;
          kind_is = name.0;
          born_is = name.1;
          left_all = ap (are_left (chain error u h)) lefts ∙ s.left_all;
          even = s.even ∙ ap length (sym lefts);
          apart = subst (λ (os : List Opening). AreApart os left) (sym chains) (apart_more (chain error u h) o left (apart_tail (chain error u h) reg left s.apart) apart_new);
          distinct = s.distinct.1;
        }

  -- the routine that runs is left
  module _ (h : List Entry) (e : Entry) (l : Leaving) (at : l.at ≡ length h) (chains : chain error u (h ++ e ∷ []) ≡ chain error u h) (lefts : leavings error u (h ++ e ∷ []) ≡ leavings error u h ++ l ∷ [])
      (routine : Reg) (left : List Reg) (kind_is : l.kind ≡ routine.kind) (born_is : l.born ≡ routine.born) (p : IsPending h routine left) where
    left_sound : IsSound (h ++ e ∷ [])
    left_sound =
        let m = length_more h e in
        record {
          below = subst (AreBelow (length (h ++ e ∷ []))) (sym chains) (all_by _ _ (λ o less. omega (arith, less, m)) (chain error u h) (IsSound.below p.sound));
          left_below = subst (AreLeftBelow (length (h ++ e ∷ []))) (sym lefts) (all_more _ (leavings error u h) l (all_by _ _ (λ l less. omega (arith, less, m)) (leavings error u h) (IsSound.left_below p.sound)) (omega (arith, at, m)));
          once = ap are_entered_once chains ∙ IsSound.once p.sound;
        }

    left_every : are_left (chain error u (h ++ e ∷ [])) (leavings error u (h ++ e ∷ [])) ≡ true
    left_every =
        let kinds : is_same_kind (Opening.kind p.last) l.kind ≡ true = rw (p.kind_is, kind_is) (same_kind routine.kind) in
        let births : (Opening.born p.last == l.born) ≡ true = eq-eqb (Opening.born p.last) l.born (p.born_is ∙ sym born_is) in
        ap (λ (os : List Opening). are_left os (leavings error u (h ++ e ∷ []))) (chains ∙ p.chain_is) ∙ ap (are_left (p.front ++ p.last ∷ [])) lefts
        ∙ left_more p.front (leavings error u h) p.last l p.even p.left_all kinds births

    left_even : length (chain error u (h ++ e ∷ [])) ≡ length (leavings error u (h ++ e ∷ []))
    left_even =
        let a : length (chain error u (h ++ e ∷ [])) ≡ suc (length p.front) = ap length (chains ∙ p.chain_is) ∙ length_more p.front p.last in
        let b : length (leavings error u (h ++ e ∷ [])) ≡ suc (length (leavings error u h)) = ap length lefts ∙ length_more (leavings error u h) l in
        omega (arith, a, b, p.even)

    left_walk : (b : Bool) → forces_end d h u l ≡ b → Walk d error u list (h ++ e ∷ []) (if b then filter (λ (reg : Reg). reg.term) left else left)
    left_walk b f = walk_leaves d error u list h e l at chains lefts (IsSound.left_below p.sound) (IsSound.below p.sound) left p.walk b f

    left_apart : AreApart (chain error u (h ++ e ∷ [])) left
    left_apart = subst (λ (os : List Opening). AreApart os left) (sym chains) p.apart

    apart_if : (b : Bool) → AreApart (chain error u (h ++ e ∷ [])) (if b then filter (λ (reg : Reg). reg.term) left else left)
    apart_if true = apart_filter (λ (reg : Reg). reg.term) (chain error u (h ++ e ∷ [])) left left_apart
    apart_if false = left_apart

    distinct_or : (b : Bool) → AreDistinct (if b then filter (λ (reg : Reg). reg.term) left else left)
    distinct_or true = distinct_filter (λ (reg : Reg). reg.term) left p.distinct
    distinct_or false = p.distinct

    pub leaves : (b : Bool) → forces_end d h u l ≡ b → IsSettled (h ++ e ∷ []) (if b then filter (λ (reg : Reg). reg.term) left else left)
    leaves b f = record { sound = left_sound; walk = left_walk b f; left_all = left_every; even = left_even; apart = apart_if b; distinct = distinct_or b }

    pub leave_ends : (b : Bool) → forces_end d h u l ≡ b → IsEnded (h ++ e ∷ [])
    leave_ends b f = record { sound = left_sound; left = _; walk = left_walk b f; left_all = left_every }
