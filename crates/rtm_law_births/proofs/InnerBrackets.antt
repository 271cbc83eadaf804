-- Births and deaths of brackets, entry by entry.
use Rattle.std.proofs.Common.{◌≡◌, ℕ, ◌<◌, ◌≤◌, ◌+◌, Bool, true, false, List, [], ◌∷◌, length, Option, Some, None, refl, sym, subst, arith, inl, inr, ◌⊎◌, ◌∙◌}
use Rattle.std.proofs.lemmas.Bool.{leb-false, leb-true}
use Rattle.std.specs.Prelude.{if◌then◌else◌, nat_le, slice_get}
use Rattle.rtm_deck_items.specs.Reading.{op_at}
use Rattle.rtm_deck_items.specs.View.{DeckView}
use Rattle.rtm_deck_items.specs.declared.op.Op.{Op}
use Rattle.rtm_deck_items.specs.declared.op.Op.TheVariants as ops
use Rattle.rtm_model.specs.declared.abort.Abort.{Abort}
use Rattle.rtm_model.specs.declared.block.Place.{Place}
use Rattle.rtm_model.specs.declared.entry.Entry.{Entry}
use Rattle.rtm_model.specs.declared.entry.Verdict.{Verdict}
use Rattle.rtm_model.specs.declared.entry.Verdict.TheVariants.{Retry}
use Rattle.rtm_model.specs.declared.entry.What.{What}
use Rattle.rtm_model.specs.declared.entry.What.TheVariants as whats
use Rattle.rtm_model.specs.declared.error_record.ErrorRecord.{ErrorRecord}
use Rattle.rtm_model.specs.declared.holding.Manager1.{Manager1}
use Rattle.rtm_model.specs.declared.reg.Reg.{Reg}
use Rattle.rtm_model.specs.Aborts.{abort_named}
use Rattle.rtm_model.specs.OwnChange.{error_record, is_gone_after, own_card, own_entry, place_after, routine_named, with_bracket_closed, with_landed, with_routine_entered, without_routine}
use Rattle.rtm_model.specs.Legal.{Legal}
use Rattle.rtm_model.specs.Levels.{Bracket, after_leave, after_verdict, at_enclosing, at_innermost, current, depth_in, on_record, outermost_alone, record_in, recovers, with_open}
use Rattle.rtm_model.specs.Moments.{before}
use Rattle.rtm_model.specs.NextEntry.{landed_record}
use Rattle.rtm_model.specs.Record.{ret15_in, setrp_in}
use Rattle.rtm_model.specs.inner.Soundness.{AreNested, IsCoreSound, IsSound, StandsIn}
use Rattle.rtm_model.specs.World.{Core, UnitOfWork, World, core_at, unit_at}
use Rattle.rtm_model.proofs.Levels.{length_innermost}
use Rattle.rtm_law_births.specs.Brackets.{AreTheBrackets, EntryKills, EntryMakes, IsAmong, UnitBracket, brackets}
use Rattle.rtm_law_births.specs.Life.{LivesBefore, LivesSince}
use Rattle.rtm_law_births.proofs.Errors.{levels_after, levels_at_start}
use Rattle.rtm_law_births.proofs.Living.{Changes, Follows, IsMade, Moves, living, living_at, survives_shorter, unmoved}
use Rattle.rtm_law_births.proofs.Owned.{unit_own_moves}
use Rattle.rtm_law_births.proofs.Sound.{IsSoundHistory}

below : (x : UnitBracket) (ls : List Bracket) → IsAmong x ls → x.depth < length ls
below x [] h = absurd h
below x (l ∷ ls) (inl here) = omega (arith, here.0)
below x (l ∷ ls) (inr more) = omega (arith, below x ls more)

-- changes that leave each bracket's routine, and whether it is bare
abbrev pub KeepsRoutine : (Bracket → Bracket) → Type 0
KeepsRoutine f = (l : Bracket) → (Bracket.routine (f l) ≡ l.routine) × (Bracket.bare (f l) ≡ l.bare)

runs_before : (f : Bracket → Bracket) → KeepsRoutine f → (x : UnitBracket) (ls : List Bracket) → IsAmong x (at_innermost f ls) → IsAmong x ls
runs_before f keeps x [] h = h
runs_before f keeps x (l ∷ ls) (inl here) = inl (here.0, sym (keeps l).0 ∙ here.1, sym (keeps l).1 ∙ here.2)
runs_before f keeps x (l ∷ ls) (inr more) = inr more

runs_after : (f : Bracket → Bracket) → KeepsRoutine f → (x : UnitBracket) (ls : List Bracket) → IsAmong x ls → IsAmong x (at_innermost f ls)
runs_after f keeps x [] h = h
runs_after f keeps x (l ∷ ls) (inl here) = inl (here.0, (keeps l).0 ∙ here.1, (keeps l).1 ∙ here.2)
runs_after f keeps x (l ∷ ls) (inr more) = inr more

inner_kept : (f : Bracket → Bracket) → KeepsRoutine f → (x : UnitBracket) (ls : List Bracket) → Moves (IsAmong x (at_innermost f ls)) (IsAmong x ls) ⊥ ⊥
inner_kept f keeps x ls = unmoved (runs_before f keeps x ls) (runs_after f keeps x ls) (λ h. h) (λ h. h)

-- SETRP and RET15
enclosing_kept : (f : Bracket → Bracket) → KeepsRoutine f → (x : UnitBracket) (ls : List Bracket) → Moves (IsAmong x (at_enclosing f ls)) (IsAmong x ls) ⊥ ⊥
enclosing_kept f keeps x [] = unmoved (λ h. h) (λ h. h) (λ h. h) (λ h. h)
enclosing_kept f keeps x (l ∷ ls) =
    unmoved (λ h. elim h [ inl here ↦ inl (omega (arith, here.0, length_innermost f ls), here.1, here.2) | inr more ↦ inr (runs_before f keeps x ls more) ])
    (λ h. elim h [ inl here ↦ inl (omega (arith, here.0, length_innermost f ls), here.1, here.2) | inr more ↦ inr (runs_after f keeps x ls more) ]) (λ h. h) (λ h. h)

record_if : (f : ErrorRecord → ErrorRecord) (x : UnitBracket) (ls : List Bracket) (b : Bool) → Moves (IsAmong x (if b then at_enclosing (on_record f) ls else ls)) (IsAmong x ls) ⊥ ⊥
record_if f x ls true = enclosing_kept (on_record f) (λ l. (refl, refl)) x ls
record_if f x ls false = unmoved (λ h. h) (λ h. h) (λ h. h) (λ h. h)

card_kept : (n : ℕ) (place : Place) (op : Op) (c : Core) (x : UnitBracket) → Moves (IsAmong x (Core.levels (own_card n place op c))) (IsAmong x c.levels) ⊥ ⊥
card_kept n place (ops.SetRp setrp) c x = record_if (setrp_in setrp) x c.levels (recovers c.levels)
card_kept n place (ops.Ret15 rc label) c x = record_if (ret15_in rc label) x c.levels (recovers c.levels)
card_kept n place _ c x = unmoved (λ h. h) (λ h. h) (λ h. h) (λ h. h)

landed_kept : (o : Option Abort) (c : Core) (x : UnitBracket) → Moves (IsAmong x (Core.levels (with_landed o c))) (IsAmong x c.levels) ⊥ ⊥
landed_kept None c x = unmoved (λ h. h) (λ h. h) (λ h. h) (λ h. h)
landed_kept (Some abort) c x = inner_kept (with_open (Some (landed_record abort))) (λ l. (refl, refl)) x c.levels

-- a routine is entered
entered_moves : (n : ℕ) (bare : Bool) (o : Option Reg) (c : Core) (x : UnitBracket)
    → Moves (IsAmong x (Core.levels (with_routine_entered n bare o c))) (IsAmong x c.levels) ((x.depth ≡ length c.levels) × (o ≡ Some x.routine) × (bare ≡ x.bare)) ⊥
entered_moves n bare None c x = unmoved (λ h. h) (λ h. h) (λ h. let clash : None ≡ Some x.routine = h.1 in cc) (λ h. h)
entered_moves n bare (Some routine) c x = record {
  came = λ h. elim h [ inl here ↦ inl (here.0, here.1, here.2) | inr more ↦ inr (more, λ k. k) ];
  born = λ h. inl (h.0, h.1, h.2);
  stays = λ h alive. inr h;
}

-- it is left
pub verdict_keeps : (verdict : Verdict) (inner : Option ErrorRecord) → KeepsRoutine (after_verdict verdict inner)
verdict_keeps (Retry place) inner l = (refl, refl)
verdict_keeps _ inner l = (refl, refl)

left_moves : (verdict : Verdict) (ls : List Bracket) (x : UnitBracket) → Moves (IsAmong x (after_leave verdict ls)) (IsAmong x ls) ⊥ (x.depth ≡ depth_in ls)
left_moves verdict [] x = record { came = λ h. absurd h; born = λ h. absurd h; stays = λ h alive. absurd h }
left_moves verdict (l ∷ ls) x =
    let keeps = verdict_keeps verdict l.error in
    record {
      came = λ h.
          let was = runs_before (after_verdict verdict l.error) keeps x ls h in
          inr (inr was, λ k. omega (arith, k, below x ls was));
      born = λ h. absurd h;
      stays = λ h alive. elim h [
        | inl here ↦ absurd (alive (omega (arith, here.0)))
        | inr more ↦ runs_after (after_verdict verdict l.error) keeps x ls more
      ];
    }

-- the outermost bracket has no routine
none_alone : (x : UnitBracket) → IsAmong x outermost_alone → ⊥
none_alone x (inl here) = let clash : None ≡ Some x.routine = here.1 in cc
none_alone x (inr none) = none

none_outermost : (ls : List Bracket) → AreNested ls → depth_in ls ≡ 0 → (x : UnitBracket) → IsAmong x ls → ⊥
none_outermost [] nested at x h = h
none_outermost (l ∷ []) nested at x (inl here) = subst (λ (o : Option Reg). StandsIn o None) here.1 nested.0
none_outermost (l ∷ []) nested at x (inr none) = none
none_outermost (l ∷ o ∷ ls) nested at x h = absurd (omega (arith, at))

module _ (d : DeckView) (w : World) (n u : ℕ) (x : UnitBracket) where
  by_own : (what : What) → IsMade d w n (record { unit = u; what = what })
      → Moves (IsAmong x (Core.levels (own_entry d n w.managers (UnitOfWork.pending (unit_at u w.units)) what (core_at u w)))) (IsAmong x (Core.levels (core_at u w)))
      (EntryMakes (core_at u w) w.managers what x) (EntryKills (core_at u w) what x.depth)
  by_own (whats.Exec at rc) m = card_kept n (place_after d at rc (op_at d at.prog at.op)) (op_at d at.prog at.op) (core_at u w) x
  by_own (whats.Error at mark) m = inner_kept (with_open (Some (error_record (Core.doomed (core_at u w)) mark (op_at d at.prog at.op)))) (λ l. (refl, refl)) x (Core.levels (core_at u w))
  by_own (whats.Land class from mark) m = landed_kept (abort_named class from (UnitOfWork.pending (unit_at u w.units))) (core_at u w) x
  by_own (whats.Enter kind reg mark bare) m = entered_moves n bare (routine_named kind reg w.managers (core_at u w)) (core_at u w) x
  by_own (whats.Leave kind reg verdict logrec dump) m =
      let c : Core = core_at u w in
      let same = levels_after verdict (current c.levels) (without_routine verdict (is_gone_after verdict (record_in c.levels)) kind reg (with_bracket_closed verdict c)) in
      let moves = left_moves verdict c.levels x in
      record {
        came = λ h. moves.came (subst (IsAmong x) same h);
        born = λ h. absurd h;
        stays = λ h alive. subst (IsAmong x) (sym same) (moves.stays h alive);
      }
  by_own (whats.Begin code dump) m =
      unmoved (λ h. absurd (none_alone x h))
      (λ h. absurd (none_outermost (Core.levels (core_at u w)) (IsCoreSound.nested (IsSound.cores m.sound u)) m.can.what.1 x h)) (λ h. h) (λ h. h)
  by_own _ m = unmoved (λ h. h) (λ h. h) (λ h. h) (λ h. h)

  entry : (what : What) → IsMade d w n (record { unit = u; what = what }) → Changes brackets d w n (record { unit = u; what = what }) x
  entry what m =
      unit_own_moves d w n u x.unit what m (λ c. IsAmong x c.levels) _ _ (λ c h. none_alone x h)
      (λ born prog estais c h. h) (λ born prog estais c h. h) (λ same. by_own what m)

follows : Follows brackets
follows = record {
  first = λ d deck x h. none_alone x (subst (IsAmong x) (levels_at_start d x.unit) h);
  there = λ d deck x h. absurd h;
  changes = λ d w n e m x. entry d w n e.unit x e.what m;
}

-- a bracket is born inside of all that are there
deepest : (c : Core) (managers : List Manager1) (what : What) (x : UnitBracket) → EntryMakes c managers what x → x.depth ≡ length c.levels
deepest c managers (whats.Enter kind born mark bare) x h = h.0
deepest c managers _ x h = absurd h

equal_or : (j i : ℕ) → j ≤ i → (j < i) ⊎ (j ≡ i)
equal_or j i h = grind arith

order_if : (i j : ℕ) (b : Bool) → nat_le j i ≡ b → (j ≤ i) ⊎ (i < j)
order_if i j true e = inl (leb-true j i e)
order_if i j false e = inr (leb-false j i e)

module _ (d : DeckView) (h : List Entry) (sound : IsSoundHistory d h) (legal : Legal d h) where
  -- an inner bracket that was there before an outer one is born would be inside of it
  no_inner : (x y : UnitBracket) (i j : ℕ) → x.unit ≡ y.unit → x.depth < y.depth → LivesSince brackets d h (length h) x i → LivesSince brackets d h (length h) y j → j ≤ i → ⊥
  no_inner x y i j same less born inner le =
      elim (equal_or j i le) [
        | inl earlier ↦
            let alive : LivesBefore brackets d h i y = inr (
              j,
              record {
                below = earlier;
                entry = inner.entry;
                at = inner.at;
                makes = inner.makes;
                survives = survives_shorter brackets.kills d h (j + 1) i (length h) y (omega (arith, born.below)) inner.survives;
              },
            ) in
            let runs = living_at brackets d h sound legal follows i (omega (arith, born.below)) y alive in
            let unit : y.unit ≡ Entry.unit born.entry = sym same ∙ born.makes.0 in
            let inside = below y (Core.levels (core_at (Entry.unit born.entry) (before d h i))) (subst (λ (v : ℕ). IsAmong y (Core.levels (core_at v (before d h i)))) unit runs) in
            let outside = deepest (core_at (Entry.unit born.entry) (before d h i)) (World.managers (before d h i)) (Entry.what born.entry) x born.makes.1 in
            omega (arith, inside, outside, less)
        | inr one ↦
            let at_i = subst (λ (k : ℕ). slice_get h k ≡ Some inner.entry) one inner.at in
            let at_x : slice_get h i ≡ Some born.entry = born.at in
            let entry : inner.entry ≡ born.entry = cc in
            let moved = subst (λ (k : ℕ). (y.unit ≡ Entry.unit inner.entry) × EntryMakes (core_at (Entry.unit inner.entry) (before d h k)) (World.managers (before d h k)) (Entry.what inner.entry) y) one inner.makes in
            let mine = subst (λ (e : Entry). (y.unit ≡ e.unit) × EntryMakes (core_at e.unit (before d h i)) (World.managers (before d h i)) e.what y) entry moved in
            let a = deepest (core_at (Entry.unit born.entry) (before d h i)) (World.managers (before d h i)) (Entry.what born.entry) y mine.1 in
            let b = deepest (core_at (Entry.unit born.entry) (before d h i)) (World.managers (before d h i)) (Entry.what born.entry) x born.makes.1 in
            omega (arith, a, b, less)
      ]

  in_order : (x y : UnitBracket) (i j : ℕ) → x.unit ≡ y.unit → x.depth < y.depth → LivesSince brackets d h (length h) x i → LivesSince brackets d h (length h) y j → i < j
  in_order x y i j same less born inner = elim (order_if i j (nat_le j i) refl) [
    | inl le ↦ absurd (no_inner x y i j same less born inner le)
    | inr lt ↦ lt
  ]

  -- the inner brackets are those that live, each entered later than those around it
  pub brackets_live : AreTheBrackets d h
  brackets_live = record { living = living brackets d h sound legal follows; order = in_order }
