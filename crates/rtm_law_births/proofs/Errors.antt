-- Births and deaths of errors, and their records, entry by entry.
use Rattle.std.proofs.Common.{◌≡◌, ℕ, ◌<◌, ◌≤◌, ◌+◌, Bool, true, false, List, [], ◌∷◌, ◌++◌, length, Option, Some, None, refl, sym, ap, subst, arith, inl, inr, ◌⊎◌, ◌∙◌}
use Rattle.std.proofs.lemmas.Bool.{eq-eqb, ne_eqb}
use Rattle.std.specs.Option.{option_map}
use Rattle.std.specs.Prelude.{if◌then◌else◌, map, ◌==◌}
use Rattle.rtm_deck_items.specs.Reading.{job_step, op_at, program_of}
use Rattle.rtm_deck_items.specs.View.{DeckView}
use Rattle.rtm_deck_items.specs.declared.op.Op.{Op}
use Rattle.rtm_deck_items.specs.declared.op.Op.TheVariants as ops
use Rattle.rtm_model.specs.declared.abort.Abort.{Abort}
use Rattle.rtm_model.specs.declared.block.Place.{Place}
use Rattle.rtm_model.specs.declared.entry.Entry.{Entry}
use Rattle.rtm_model.specs.declared.entry.Verdict.{Verdict}
use Rattle.rtm_model.specs.declared.entry.Verdict.TheVariants.{Bad, Fail, Over, Perc, Retry, Stop}
use Rattle.rtm_model.specs.declared.entry.What.{What}
use Rattle.rtm_model.specs.declared.entry.What.TheVariants as whats
use Rattle.rtm_model.specs.declared.error_record.ErrorRecord.{ErrorRecord}
use Rattle.rtm_model.specs.declared.reg.Kind.{Kind}
use Rattle.rtm_model.specs.declared.reg.Reg.{Reg}
use Rattle.rtm_model.specs.Aborts.{abort_named}
use Rattle.rtm_model.specs.OwnChange.{after_retry, error_record, is_gone_after, own_card, own_entry, place_after, routine_named, with_bracket_closed, with_landed, with_routine_entered, without_routine}
use Rattle.rtm_model.specs.Legal.{Legal}
use Rattle.rtm_model.specs.Levels.{Bracket, after_enter, after_error, after_inner_failure, after_leave, at_enclosing, at_innermost, current, depth_in, error_in, on_record, outermost_alone, record_in, recovers, with_open}
use Rattle.rtm_model.specs.NextEntry.{landed_record}
use Rattle.rtm_model.specs.Record.{after_percolation, ret15_in, setrp_in}
use Rattle.rtm_model.specs.inner.Soundness.{IsCoreSound, IsSound}
use Rattle.rtm_model.specs.World.{Core, UnitOfWork, World, at_birth, core_at, start, unborn_unit, unit_at}
use Rattle.rtm_model.proofs.Levels.{length_innermost}
use Rattle.rtm_model.proofs.Units.{unit_same}
use Rattle.rtm_model.proofs.Start.{all_unborn}
use Rattle.rtm_law_births.specs.Errors.{AreTheErrors, EntryKills, EntryMakes, IsLanded, IsOpenAt, UnitError, VerdictKills, card_changes, entry_changes, errors, verdict_changes}
use Rattle.rtm_law_births.proofs.Living.{IsMade}
use Rattle.rtm_law_births.proofs.Outcomes.{IsJudged, outcome_of}
use Rattle.rtm_law_births.proofs.OwnedStates.{own_turns}
use Rattle.rtm_law_births.proofs.Sound.{IsSoundHistory}
use Rattle.rtm_law_births.proofs.States.{Changes, Follows, Turns, stated}

-- an open error's bracket is one of those
below : (depth : ℕ) (r : ErrorRecord) (ls : List Bracket) → IsOpenAt depth r ls → depth < length ls
below depth r [] h = absurd h
below depth r (l ∷ ls) (inl here) = omega (arith, here.0)
below depth r (l ∷ ls) (inr more) = omega (arith, below depth r ls more)

-- the change where the error is the one that the innermost bracket's routine was entered for
abbrev for_entered : List Bracket → ℕ → (ErrorRecord → ErrorRecord) → ErrorRecord → ErrorRecord
for_entered ls depth f r = if depth + 1 == depth_in ls then f r else r

entered_is : (ls : List Bracket) (depth : ℕ) (f : ErrorRecord → ErrorRecord) (r : ErrorRecord) → depth + 1 ≡ depth_in ls → for_entered ls depth f r ≡ f r
entered_is ls depth f r e = rw (eq-eqb (depth + 1) (depth_in ls) e) refl

other_is : (ls : List Bracket) (depth : ℕ) (f : ErrorRecord → ErrorRecord) (r : ErrorRecord) → (depth + 1 ≡ depth_in ls → ⊥) → for_entered ls depth f r ≡ r
other_is ls depth f r e = rw (ne_eqb (depth + 1) (depth_in ls) e) refl

same_is : (ls : List Bracket) (depth : ℕ) (r : ErrorRecord) (b : Bool) → (if b then r else r) ≡ r
same_is ls depth r true = refl
same_is ls depth r false = refl

same_turns : (ls : List Bracket) (depth : ℕ) (before after : ErrorRecord → Type 0) → ((r : ErrorRecord) → after r → before r) → ((r : ErrorRecord) → before r → after r) → Turns ErrorRecord after before (λ r. ⊥) ⊥ (λ r. if depth + 1 == depth_in ls then r else r)
same_turns ls depth before after forth back = record {
  came = λ r h. inr (r, forth r h, λ k. k, sym (same_is ls depth r (depth + 1 == depth_in ls)));
  born = λ r h. absurd h;
  stays = λ r h alive. subst after (sym (same_is ls depth r (depth + 1 == depth_in ls))) (back r h);
}

-- an option is mapped
map_some : (f : ErrorRecord → ErrorRecord) (o : Option ErrorRecord) (r : ErrorRecord) → option_map f o ≡ Some r → (t : ErrorRecord) × (o ≡ Some t) × (r ≡ f t)
map_some f None r e = absurd cc
map_some f (Some t) r e = let same : f t ≡ r = cc in (t, refl, sym same)

some_map : (f : ErrorRecord → ErrorRecord) (o : Option ErrorRecord) (t : ErrorRecord) → o ≡ Some t → option_map f o ≡ Some (f t)
some_map f o t e = ap (option_map f) e

some_same : (a b : ErrorRecord) → Some a ≡ Some b → a ≡ b
some_same a b e = cc

none_some : (r : ErrorRecord) (o : Option ErrorRecord) → o ≡ None → o ≡ Some r → ⊥
none_some r o e f = let clash : None ≡ Some r = sym e ∙ f in cc

-- an error is opened in the innermost bracket, in which none was
opened : (r0 : ErrorRecord) (depth : ℕ) (ls : List Bracket) → error_in ls ≡ None → Turns ErrorRecord (λ r. IsOpenAt depth r (after_error r0 ls)) (λ r. IsOpenAt depth r ls) (λ r. (depth ≡ depth_in ls) × (r ≡ r0) × (1 ≤ length ls)) ⊥ (λ r. if depth + 1 == depth_in ls then r else r)
opened r0 depth [] quiet = record {
  came = λ r h. absurd h;
  born = λ r h. absurd (omega (arith, h.2));
  stays = λ r h alive. absurd h;
}
opened r0 depth (l ∷ ls) quiet = record {
  came = λ r h. elim h [
    | inl here ↦ let same : r0 ≡ r = some_same r0 r here.1 in inl (omega (arith, here.0), sym same, omega arith)
    | inr more ↦ inr (r, inr more, λ k. k, sym (same_is (l ∷ ls) depth r (depth + 1 == depth_in (l ∷ ls))))
  ];
  born = λ r h. inl (omega (arith, h.0), ap Some (sym h.1));
  stays = λ r h alive. subst (λ (s : ErrorRecord). IsOpenAt depth s (after_error r0 (l ∷ ls))) (sym (same_is (l ∷ ls) depth r (depth + 1 == depth_in (l ∷ ls))))
      (elim h [ inl here ↦ absurd (none_some r l.error quiet here.1) | inr more ↦ inr more ]);
}

-- the enclosing bracket's record is changed
module _ (l : Bracket) (f : ErrorRecord → ErrorRecord) (depth : ℕ) where
  changed : (ls : List Bracket) → Turns ErrorRecord (λ r. IsOpenAt depth r (l ∷ at_innermost (on_record f) ls)) (λ r. IsOpenAt depth r (l ∷ ls)) (λ r. ⊥) ⊥ (for_entered (l ∷ ls) depth f)
  changed [] = record {
    came = λ r h. inr (r, h, λ k. k, elim h [ inl here ↦ sym (other_is (l ∷ []) depth f r (λ e. omega (arith, e, here.0))) | inr none ↦ absurd none ]);
    born = λ r h. absurd h;
    stays = λ r h alive. elim h [ inl here ↦ subst (λ (s : ErrorRecord). IsOpenAt depth s (l ∷ [])) (sym (other_is (l ∷ []) depth f r (λ e. omega (arith, e, here.0)))) (inl here) | inr none ↦ absurd none ];
  }
  changed (o ∷ ls) = record {
    came = λ r h. elim h [
      | inl here ↦ inr (r, inl (omega (arith, here.0), here.1), λ k. k, sym (other_is (l ∷ o ∷ ls) depth f r (λ e. omega (arith, e, here.0))))
      | inr more ↦ elim more [
        | inl there ↦
            let was = map_some f o.error r there.1 in
            inr (was.0, inr (inl (there.0, was.1)), λ k. k, was.2 ∙ sym (entered_is (l ∷ o ∷ ls) depth f was.0 (omega (arith, there.0))))
        | inr further ↦ inr (r, inr (inr further), λ k. k, sym (other_is (l ∷ o ∷ ls) depth f r (λ e. omega (arith, e, below depth r ls further))))
      ]
    ];
    born = λ r h. absurd h;
    stays = λ r h alive. elim h [
      | inl here ↦ subst (λ (s : ErrorRecord). IsOpenAt depth s (l ∷ at_innermost (on_record f) (o ∷ ls))) (sym (other_is (l ∷ o ∷ ls) depth f r (λ e. omega (arith, e, here.0)))) (inl (omega (arith, here.0), here.1))
      | inr more ↦ elim more [
        | inl there ↦ subst (λ (s : ErrorRecord). IsOpenAt depth s (l ∷ at_innermost (on_record f) (o ∷ ls))) (sym (entered_is (l ∷ o ∷ ls) depth f r (omega (arith, there.0)))) (inr (inl (there.0, some_map f o.error r there.1)))
        | inr further ↦ subst (λ (s : ErrorRecord). IsOpenAt depth s (l ∷ at_innermost (on_record f) (o ∷ ls))) (sym (other_is (l ∷ o ∷ ls) depth f r (λ e. omega (arith, e, below depth r ls further)))) (inr (inr further))
      ]
    ];
  }

-- the innermost bracket is closed, and the enclosing one's record is changed
module _ (l : Bracket) (ls : List Bracket) (depth : ℕ) (f : ErrorRecord → ErrorRecord) (K : Type 0) (dies : (r : ErrorRecord) → depth ≡ length ls → l.error ≡ Some r → K) (is_top : K → depth ≡ length ls) where
  popped : Turns ErrorRecord (λ r. IsOpenAt depth r (at_innermost (on_record f) ls)) (λ r. IsOpenAt depth r (l ∷ ls)) (λ r. ⊥) K (for_entered (l ∷ ls) depth f)
  popped =
      let turns = changed l f depth ls in
      record {
        came = λ r h. elim (turns.came r (inr h)) [
          | inl none ↦ absurd none
          | inr stayed ↦ inr (stayed.0, stayed.1, λ k. omega (arith, is_top k, below depth r (at_innermost (on_record f) ls) h, length_innermost (on_record f) ls), stayed.3)
        ];
        born = λ r h. absurd h;
        stays = λ r h alive. elim (turns.stays r h (λ k. k)) [
          | inl here ↦ elim h [
            | inl was ↦ absurd (alive (dies r was.0 was.1))
            | inr more ↦ absurd (omega (arith, here.0, length_innermost (on_record f) ls, below depth r ls more))
          ]
          | inr more ↦ more
        ];
      }

quiet_top : (l : Bracket) (n : ℕ) (depth : ℕ) (K : Type 0) → l.error ≡ None → (r : ErrorRecord) → depth ≡ n → l.error ≡ Some r → K
quiet_top l n depth K quiet r at e = absurd (none_some r l.error quiet e)

not_fail : (verdict : Verdict) (l : Bracket) → (verdict ≡ Fail → ⊥) → (verdict ≡ Fail) ⊎ (l.error ≡ None) → l.error ≡ None
not_fail verdict l other (inl failed) = absurd (other failed)
not_fail verdict l other (inr quiet) = quiet

-- a retry: the enclosing bracket's error is gone
retried_level : (place : Place) (l : Bracket) (ls : List Bracket) (depth : ℕ) → l.error ≡ None
    → Turns ErrorRecord (λ r. IsOpenAt depth r (at_innermost (with_open None) ls)) (λ r. IsOpenAt depth r (l ∷ ls)) (λ r. ⊥) (depth + 1 ≡ depth_in (l ∷ ls)) (λ r. if depth + 1 == depth_in (l ∷ ls) then r else r)
retried_level place l [] depth quiet = record {
  came = λ r h. absurd h;
  born = λ r h. absurd h;
  stays = λ r h alive. elim h [ inl here ↦ absurd (none_some r l.error quiet here.1) | inr none ↦ absurd none ];
}
retried_level place l (o ∷ ls) depth quiet = record {
  came = λ r h. elim h [
    | inl here ↦ let clash : None ≡ Some r = here.1 in absurd cc
    | inr more ↦ inr (r, inr (inr more), λ k. omega (arith, k, below depth r ls more), sym (same_is (l ∷ o ∷ ls) depth r (depth + 1 == depth_in (l ∷ o ∷ ls))))
  ];
  born = λ r h. absurd h;
  stays = λ r h alive. subst (λ (s : ErrorRecord). IsOpenAt depth s (at_innermost (with_open None) (o ∷ ls))) (sym (same_is (l ∷ o ∷ ls) depth r (depth + 1 == depth_in (l ∷ o ∷ ls))))
      (elim h [
        | inl here ↦ absurd (none_some r l.error quiet here.1)
        | inr more ↦ elim more [ inl there ↦ absurd (alive (omega (arith, there.0))) | inr further ↦ inr further ]
      ]);
}

-- a manager is left: nothing else
over_level : (l : Bracket) (ls : List Bracket) (depth : ℕ) → l.error ≡ None
    → Turns ErrorRecord (λ r. IsOpenAt depth r (at_innermost (λ o. o) ls)) (λ r. IsOpenAt depth r (l ∷ ls)) (λ r. ⊥) ⊥ (λ r. if depth + 1 == depth_in (l ∷ ls) then r else r)
over_level l [] depth quiet =
    same_turns (l ∷ []) depth (λ r. IsOpenAt depth r (l ∷ [])) (λ r. ⊥) (λ r h. absurd h) (λ r h. elim h [ inl here ↦ absurd (none_some r l.error quiet here.1) | inr none ↦ absurd none ])
over_level l (o ∷ ls) depth quiet =
    same_turns (l ∷ o ∷ ls) depth (λ r. IsOpenAt depth r (l ∷ o ∷ ls)) (λ r. IsOpenAt depth r (o ∷ ls)) (λ r h. inr h) (λ r h. elim h [ inl here ↦ absurd (none_some r l.error quiet here.1) | inr more ↦ more ])

left_levels : (verdict : Verdict) (ls : List Bracket) (depth : ℕ) → (verdict ≡ Fail) ⊎ (error_in ls ≡ None)
    → Turns ErrorRecord (λ r. IsOpenAt depth r (after_leave verdict ls)) (λ r. IsOpenAt depth r ls) (λ r. ⊥) (VerdictKills ls verdict depth) (for_entered ls depth (verdict_changes ls verdict))
left_levels verdict [] depth quiet = record {
  came = λ r h. absurd h;
  born = λ r h. absurd h;
  stays = λ r h alive. absurd h;
}
left_levels (Retry place) (l ∷ ls) depth quiet = retried_level place l ls depth (not_fail (Retry place) l (λ e. absurd cc) quiet)
left_levels Perc (l ∷ ls) depth quiet = popped l ls depth after_percolation ⊥ (quiet_top l (length ls) depth ⊥ (not_fail Perc l (λ e. absurd cc) quiet)) (λ k. absurd k)
left_levels Stop (l ∷ ls) depth quiet = popped l ls depth after_percolation ⊥ (quiet_top l (length ls) depth ⊥ (not_fail Stop l (λ e. absurd cc) quiet)) (λ k. absurd k)
left_levels Bad (l ∷ ls) depth quiet = popped l ls depth after_percolation ⊥ (quiet_top l (length ls) depth ⊥ (not_fail Bad l (λ e. absurd cc) quiet)) (λ k. absurd k)
left_levels Fail (l ∷ ls) depth quiet = popped l ls depth (after_inner_failure l.error) (depth ≡ depth_in (l ∷ ls)) (λ r at e. omega (arith, at)) (λ k. omega (arith, k))
left_levels Over (l ∷ ls) depth quiet = over_level l ls depth (not_fail Over l (λ e. absurd cc) quiet)

pub levels_after : (verdict : Verdict) (o : Option Reg) (c : Core) → Core.levels (after_retry verdict o c) ≡ c.levels
levels_after (Retry place) None c = refl
levels_after (Retry place) (Some r) c = refl
levels_after Perc o c = refl
levels_after _ o c = refl

-- SETRP and RET15
record_if : (f : ErrorRecord → ErrorRecord) (ls : List Bracket) (depth : ℕ) (b : Bool)
    → Turns ErrorRecord (λ r. IsOpenAt depth r (if b then at_enclosing (on_record f) ls else ls)) (λ r. IsOpenAt depth r ls) (λ r. ⊥) ⊥ (for_entered ls depth (λ r. if b then f r else r))
record_if f ls depth false = same_turns ls depth (λ r. IsOpenAt depth r ls) (λ r. IsOpenAt depth r ls) (λ r h. h) (λ r h. h)
record_if f [] depth true = record { came = λ r h. absurd h; born = λ r h. absurd h; stays = λ r h alive. absurd h }
record_if f (l ∷ ls) depth true = changed l f depth ls

card_levels : (n : ℕ) (place : Place) (op : Op) (c : Core) (depth : ℕ)
    → Turns ErrorRecord (λ r. IsOpenAt depth r (Core.levels (own_card n place op c))) (λ r. IsOpenAt depth r c.levels) (λ r. ⊥) ⊥ (for_entered c.levels depth (card_changes c.levels op))
card_levels n place (ops.SetRp setrp) c depth = record_if (setrp_in setrp) c.levels depth (recovers c.levels)
card_levels n place (ops.Ret15 rc label) c depth = record_if (ret15_in rc label) c.levels depth (recovers c.levels)
card_levels n place _ c depth = same_turns c.levels depth (λ r. IsOpenAt depth r c.levels) (λ r. IsOpenAt depth r c.levels) (λ r h. h) (λ r h. h)

-- in other words
told : {S : Type 0} {after before B B2 : S → Type 0} {K : Type 0} (change : S → S) → ((s : S) → B s → B2 s) → ((s : S) → B2 s → B s) → Turns S after before B K change → Turns S after before B2 K change
told change f g turns = record {
  came = λ s h. elim (turns.came s h) [ inl born ↦ inl (f s born) | inr stayed ↦ inr stayed ];
  born = λ s h. turns.born s (g s h);
  stays = turns.stays;
}

landed_levels : (o : Option Abort) (c : Core) (depth : ℕ) → error_in c.levels ≡ None → 1 ≤ length c.levels
    → Turns ErrorRecord (λ r. IsOpenAt depth r (Core.levels (with_landed o c))) (λ r. IsOpenAt depth r c.levels) (λ r. (depth ≡ depth_in c.levels) × IsLanded o r) ⊥ (λ r. if depth + 1 == depth_in c.levels then r else r)
landed_levels None c depth quiet some =
    told _ (λ r h. absurd h) (λ r h. h.1) (same_turns c.levels depth (λ r. IsOpenAt depth r c.levels) (λ r. IsOpenAt depth r c.levels) (λ r h. h) (λ r h. h))
landed_levels (Some abort) c depth quiet some =
    told _ (λ r h. (h.0, h.1)) (λ r h. (h.0, h.1, some)) (opened (landed_record abort) depth c.levels quiet)

entered_levels : (n : ℕ) (bare : Bool) (o : Option Reg) (c : Core) (depth : ℕ)
    → Turns ErrorRecord (λ r. IsOpenAt depth r (Core.levels (with_routine_entered n bare o c))) (λ r. IsOpenAt depth r c.levels) (λ r. ⊥) ⊥ (λ r. if depth + 1 == depth_in c.levels then r else r)
entered_levels n bare None c depth = same_turns c.levels depth (λ r. IsOpenAt depth r c.levels) (λ r. IsOpenAt depth r c.levels) (λ r h. h) (λ r h. h)
entered_levels n bare (Some reg) c depth =
    same_turns c.levels depth (λ r. IsOpenAt depth r c.levels) (λ r. IsOpenAt depth r (after_enter reg bare c.levels))
    (λ r h. elim h [ inl here ↦ let clash : None ≡ Some r = here.1 in absurd cc | inr more ↦ more ]) (λ r h. inr h)

none_open : (depth : ℕ) (r : ErrorRecord) → IsOpenAt depth r outermost_alone → ⊥
none_open depth r (inl here) = let clash : None ≡ Some r = here.1 in cc
none_open depth r (inr none) = none

quiet_or : (d : DeckView) (c : Core) (kind : Kind) (verdict : Verdict) → (verdict ≡ Fail) ⊎ IsJudged d c kind verdict → (verdict ≡ Fail) ⊎ (error_in c.levels ≡ None)
quiet_or d c kind verdict (inl failed) = inl failed
quiet_or d c kind verdict (inr judged) = inr judged.quiet

module _ (d : DeckView) (w : World) (n u : ℕ) (x : UnitError) where
  some : (m : IsSound d n w) → 1 ≤ length (Core.levels (core_at u w))
  some s = IsCoreSound.levels_some (s.cores u)

  still : Turns ErrorRecord (λ r. IsOpenAt x.depth r (Core.levels (core_at u w))) (λ r. IsOpenAt x.depth r (Core.levels (core_at u w))) (λ r. ⊥) ⊥ (λ r. if x.depth + 1 == depth_in (Core.levels (core_at u w)) then r else r)
  still = same_turns (Core.levels (core_at u w)) x.depth (λ r. IsOpenAt x.depth r (Core.levels (core_at u w))) (λ r. IsOpenAt x.depth r (Core.levels (core_at u w))) (λ r h. h) (λ r h. h)

  by_own : (what : What) → IsMade d w n (record { unit = u; what = what })
      → Turns ErrorRecord (λ r. IsOpenAt x.depth r (Core.levels (own_entry d n w.managers (UnitOfWork.pending (unit_at u w.units)) what (core_at u w)))) (λ r. IsOpenAt x.depth r (Core.levels (core_at u w)))
      (EntryMakes d (core_at u w) (UnitOfWork.pending (unit_at u w.units)) what x.depth) (EntryKills (core_at u w) what x.depth)
      (λ r. if x.depth + 1 == depth_in (Core.levels (core_at u w)) then entry_changes d (core_at u w) what r else r)
  by_own (whats.Exec at rc) m = card_levels n (place_after d at rc (op_at d at.prog at.op)) (op_at d at.prog at.op) (core_at u w) x.depth
  by_own (whats.Error at mark) m =
      told _ (λ r h. (h.0, h.1)) (λ r h. (h.0, h.1, some m.sound))
      (opened (error_record (Core.doomed (core_at u w)) mark (op_at d at.prog at.op)) x.depth (Core.levels (core_at u w)) m.can.what.0.quiet)
  by_own (whats.Land class from mark) m =
      landed_levels (abort_named class from (UnitOfWork.pending (unit_at u w.units))) (core_at u w) x.depth m.can.what.1 (some m.sound)
  by_own (whats.Enter kind reg mark bare) m = entered_levels n bare (routine_named kind reg w.managers (core_at u w)) (core_at u w) x.depth
  by_own (whats.Leave kind reg verdict logrec dump) m =
      let c : Core = core_at u w in
      let same = levels_after verdict (current c.levels) (without_routine verdict (is_gone_after verdict (record_in c.levels)) kind reg (with_bracket_closed verdict c)) in
      let turns = left_levels verdict c.levels x.depth (quiet_or d c kind verdict (outcome_of d w u (whats.Leave kind reg verdict logrec dump) m.may)) in
      record {
        came = λ r h. turns.came r (subst (IsOpenAt x.depth r) same h);
        born = λ r h. absurd h;
        stays = λ r h alive. subst (IsOpenAt x.depth _) (sym same) (turns.stays r h alive);
      }
  by_own (whats.Begin code dump) m = record {
    came = λ r h. absurd (none_open x.depth r h);
    born = λ r h. absurd h;
    stays = λ r h alive. absurd (alive tt);
  }
  by_own (whats.Arrive cmd became) m = still
  by_own _ m = still

  entry : (what : What) → IsMade d w n (record { unit = u; what = what }) → Changes errors d w n (record { unit = u; what = what }) x
  entry what m =
      own_turns d w n u x.unit what m (λ c r. IsOpenAt x.depth r c.levels)
      (EntryMakes d (core_at u w) (UnitOfWork.pending (unit_at u w.units)) what x.depth) (EntryKills (core_at u w) what x.depth)
      (λ r. if x.depth + 1 == depth_in (Core.levels (core_at u w)) then entry_changes d (core_at u w) what r else r)
      (λ c r h. none_open x.depth r h) (λ born prog estais c r h. h) (λ born prog estais c r h. h) (by_own what m)

pub levels_at_start : (d : DeckView) (v : ℕ) → Core.levels (core_at v (start d)) ≡ outermost_alone
levels_at_start d v =
    unit_same (λ (unit : UnitOfWork). Core.levels unit.core) (at_birth 0 (program_of d (job_step d)) []) (λ unit. refl) (job_step d) v (map (λ card. unborn_unit) d.units ++ unborn_unit ∷ [])
    ∙ ap (λ (unit : UnitOfWork). Core.levels unit.core) (all_unborn d.units v)

follows : Follows errors (λ w. Unit {0})
follows = record {
  first = λ d deck x r h. none_open x.depth r (subst (IsOpenAt x.depth r) (levels_at_start d x.unit) h);
  there = λ d deck x r h. absurd h;
  changes = λ d w n e m _ x. entry d w n e.unit x e.what m;
}

-- the open errors are those that live, each with its record
pub errors_live : (d : DeckView) (h : List Entry) → IsSoundHistory d h → Legal d h → AreTheErrors d h
errors_live d h sound legal = stated errors d h sound legal (λ w. Unit {0}) (λ k le. tt) follows
