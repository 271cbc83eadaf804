-- What stands in the words and what is taken, of all units, is what is posted.
use Rattle.std.proofs.Common.{◌≡◌, ℕ, suc, ◌+◌, ◌<◌, Bool, true, false, ◌&&◌, ◌||◌, List, [], ◌∷◌, length, refl, sym, ap, ◌∙◌, zero-add, arith}
use Rattle.std.specs.Prelude.{◌==◌, nat_lt, nat_le, slice_index}
use Rattle.std.specs.List.{AllByRecursion}
use Rattle.std.proofs.lemmas.Bool.Decides.{nat_tests}
use Rattle.rtm_board.specs.Commands.{no_commands, has}
use Rattle.rtm_board.specs.View.{BoardView, ConsoleView, UnitView, commands_for, word_of, all_of, commands_taken_by, AreSeatsFrom, IsAccountedFor, AreAccountedFor, IsBoard, IsConsole}
use Rattle.rtm_board.proofs.Sets.{has_none, has_joined, has_commands_for}

-- Of one command: w and k say whether it stands in the first unit's word and whether that unit has taken it, x and y
-- the same of the units behind it, p whether it is posted, e whether it is the first unit's, f whether it is one of
-- the others', and g whether it is any unit's

clash : (p e f : Bool) → true ≡ (p && e) → true ≡ (p && f) → (e && f) ≡ false → ⊥
clash false e f h h' apart = absurd cc
clash true false f h h' apart = absurd cc
clash true true false h h' apart = absurd cc
clash true true true h h' apart = absurd cc

first_set : (p e f g : Bool) → true ≡ (p && e) → g ≡ (e || f) → true ≡ (p && g)
first_set false e f g h is = h
first_set true true f g h is = sym is
first_set true false f g h is = absurd cc

others_set : (p e f g : Bool) → true ≡ (p && f) → g ≡ (e || f) → true ≡ (p && g)
others_set false e f g h is = h
others_set true true f g h is = sym is
others_set true false f g h is = h ∙ sym is

none_set : (p e f g : Bool) → false ≡ (p && e) → false ≡ (p && f) → g ≡ (e || f) → false ≡ (p && g)
none_set false e f g h h' is = refl
none_set true true f g h h' is = absurd cc
none_set true false f g h h' is = h' ∙ sym is

record IsDivided (x y p g : Bool) : Type 0 where
  all : (x || y) ≡ (p && g)
  apart : (x && y) ≡ false

-- the first unit's word and takings joined to those of the others
together : (w k x y p e f g : Bool) → IsDivided w k p e → IsDivided x y p f → (e && f) ≡ false → g ≡ (e || f) → IsDivided (w || x) (k || y) p g
together true true x y p e f g one rest apart is = let bad : true ≡ false = one.apart in absurd cc
together true false true true p e f g one rest apart is = let bad : true ≡ false = rest.apart in absurd cc
together true false true false p e f g one rest apart is = absurd (clash p e f one.all rest.all apart)
together true false false true p e f g one rest apart is = absurd (clash p e f one.all rest.all apart)
together true false false false p e f g one rest apart is = record { all = first_set p e f g one.all is; apart = refl }
together false true true true p e f g one rest apart is = let bad : true ≡ false = rest.apart in absurd cc
together false true true false p e f g one rest apart is = absurd (clash p e f one.all rest.all apart)
together false true false true p e f g one rest apart is = absurd (clash p e f one.all rest.all apart)
together false true false false p e f g one rest apart is = record { all = first_set p e f g one.all is; apart = refl }
together false false true true p e f g one rest apart is = let bad : true ≡ false = rest.apart in absurd cc
together false false true false p e f g one rest apart is = record { all = others_set p e f g rest.all is; apart = refl }
together false false false true p e f g one rest apart is = record { all = others_set p e f g rest.all is; apart = refl }
together false false false false p e f g one rest apart is = record { all = none_set p e f g one.all rest.all is; apart = refl }

-- no unit is left
nobody_left : (p : Bool) (c n u t : ℕ) → (c < n → t < u) → (p && (nat_lt c n && nat_le u t)) ≡ false
nobody_left true c n u t h = grind (arith, nat_tests)
nobody_left false c n u t h = refl

one_unit : (c n u t : ℕ) → ((nat_lt c n && (t == u)) && (nat_lt c n && nat_le (u + 1) t)) ≡ false
one_unit c n u t = grind (arith, nat_tests)

any_unit : (c n u t : ℕ) → (nat_lt c n && nat_le u t) ≡ ((nat_lt c n && (t == u)) || (nat_lt c n && nat_le (u + 1) t))
any_unit c n u t = grind (arith, nat_tests)

-- every unit
whole : (p : Bool) (c n t : ℕ) → (p ≡ true → c < n) → (p && (nat_lt c n && nat_le 0 t)) ≡ p
whole true c n t h = let below : c < n = h refl in grind (arith, nat_tests)
whole false c n t h = refl

divided-along : (w w' k k' p e e' : Bool) → w ≡ w' → k ≡ k' → e ≡ e' → IsDivided w k p e → IsDivided w' k' p e'
divided-along w w' k k' p e e' hw hk he d =
    record { all = ap (λ (b : Bool). b || k') (sym hw) ∙ ap (λ (b : Bool). w || b) (sym hk) ∙ d.all ∙ ap (λ (b : Bool). p && b) he; apart = ap (λ (b : Bool). b && k') (sym hw) ∙ ap (λ (b : Bool). w && b) (sym hk) ∙ d.apart }

module _ (board : BoardView) (console : ConsoleView) (c : ℕ) (kept : IsBoard board.targets board.words) where
  abbrev target : ℕ
  target = slice_index board.targets c

  abbrev count : ℕ
  count = length board.targets

  -- it is a command for that unit or a later one
  abbrev is_from : ℕ → Bool
  is_from u = nat_lt c count && nat_le u target

  from : (u : ℕ) (words : List ℕ) (seats : List UnitView) → u + length words ≡ length board.words → ((i : ℕ) → slice_index words i ≡ slice_index board.words (u + i)) → AreSeatsFrom board u seats → AllByRecursion (IsAccountedFor board console) seats → IsDivided (has c (all_of words)) (has c (commands_taken_by seats)) (has c console.posted) (is_from u)
  from u [] [] size link order each =
      let past : c < count → target < u = λ below. omega (arith, kept.units c below) in
      record {
        all = ap (λ (b : Bool). b || has c no_commands) (has_none c) ∙ has_none c ∙ sym (nobody_left (has c console.posted) c count u target past);
        apart = ap (λ (b : Bool). b && has c no_commands) (has_none c);
      }
  from u (w ∷ words) [] size link order each = absurd (omega arith)
  from u [] (s ∷ seats) size link order each = absurd (omega (arith, order.1.unit, order.0))
  from u (w ∷ words) (s ∷ seats) size link order each =
      let here : s.unit ≡ u = order.0 in
      let at : u + 0 ≡ s.unit = omega arith in
      let word : word_of s.unit board ≡ w = sym (link 0 ∙ ap (λ (n : ℕ). slice_index board.words n) at) in
      let own : has c s.commands ≡ (nat_lt c count && (target == u)) =
      ap (has c) order.1.commands ∙ ap (λ (n : ℕ). has c (commands_for n board.targets)) here ∙ has_commands_for u c board.targets in
      let first : IsDivided (has c w) (has c s.taken) (has c console.posted) (nat_lt c count && (target == u)) =
      divided-along (has c (word_of s.unit board)) (has c w) (has c s.taken) (has c s.taken) (has c console.posted) (has c s.commands) (nat_lt c count && (target == u)) (ap (has c) word) refl own (record { all = each.0.posted c; apart = each.0.never_both c }) in
      let next : (i : ℕ) → u + suc i ≡ u + 1 + i = λ i. omega arith in
      let rest = from (u + 1) words seats (omega arith) (λ i. link (suc i) ∙ ap (λ (n : ℕ). slice_index board.words n) (next i)) order.2 each.1 in
      let both = together (has c w) (has c s.taken) (has c (all_of words)) (has c (commands_taken_by seats)) (has c console.posted) (nat_lt c count && (target == u)) (is_from (u + 1)) (is_from u) first rest (one_unit c count u target) (any_unit c count u target) in
      divided-along (has c w || has c (all_of words)) (has c (all_of (w ∷ words))) (has c s.taken || has c (commands_taken_by seats)) (has c (commands_taken_by (s ∷ seats))) (has c console.posted) (is_from u) (is_from u) (sym (has_joined c w (all_of words))) (sym (has_joined c s.taken (commands_taken_by seats))) refl both

  divided : (seats : List UnitView) → AreAccountedFor board console seats → IsDivided (has c (all_of board.words)) (has c (commands_taken_by seats)) (has c console.posted) (is_from 0)
  divided seats accounted =
      from 0 board.words seats (omega arith) (λ i. ap (λ (n : ℕ). slice_index board.words n) (sym (zero-add i))) accounted.all accounted.each

  pub closing : (seats : List UnitView) → AreAccountedFor board console seats → IsConsole board.targets console.posted → (has c (all_of board.words) || has c (commands_taken_by seats)) ≡ has c console.posted
  closing seats accounted own = (divided seats accounted).all ∙ whole (has c console.posted) c count target (own.own c)

  pub closing_apart : (seats : List UnitView) → AreAccountedFor board console seats → (has c (all_of board.words) && has c (commands_taken_by seats)) ≡ false
  closing_apart seats accounted = (divided seats accounted).apart
