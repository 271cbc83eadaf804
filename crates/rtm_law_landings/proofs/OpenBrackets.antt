-- What entries alone say of a unit's brackets agrees with what lives.
use Rattle.std.proofs.Common.{◌≡◌, ℕ, suc, ◌+◌, ◌<◌, Bool, true, false, ◌||◌, List, [], ◌∷◌, ◌++◌, length, Option, Some, None, refl, sym, ap, subst, arith, inl, inr, ◌∙◌}
use Rattle.std.proofs.lemmas.Bool.{eq-eqb, ne_eqb}
use Rattle.std.specs.List.{AllByRecursion, cons_option, filter_map, list_any}
use Rattle.std.specs.Option.{option_and_then, option_map, option_map_or}
use Rattle.std.specs.Prelude.{IfSome, IsSomeAnd, IsTrue, if◌then◌else◌, is_some}
use Rattle.rtm_deck_items.specs.Reading.{op_at}
use Rattle.rtm_deck_items.specs.View.{DeckView}
use Rattle.rtm_deck_items.specs.WellFormed.{is_well_formed}
use Rattle.rtm_deck_items.specs.declared.op.Op.{Op}
use Rattle.rtm_deck_items.specs.declared.op.Op.TheVariants as ops
use Rattle.rtm_model.specs.declared.abort.Abort.{Abort}
use Rattle.rtm_model.specs.declared.block.Place.{Place}
use Rattle.rtm_model.specs.declared.entry.Entry.{Entry}
use Rattle.rtm_model.specs.declared.entry.Verdict.{Verdict}
use Rattle.rtm_model.specs.declared.entry.Verdict.TheVariants.{Bad, Fail, Over, Perc, Retry, Stop}
use Rattle.rtm_model.specs.declared.entry.What.{What}
use Rattle.rtm_model.specs.declared.entry.What.TheVariants as whats
use Rattle.rtm_model.specs.declared.error_record.ErrorRecord.{ErrorRecord}
use Rattle.rtm_model.specs.declared.mark.Mark.{Mark}
use Rattle.rtm_model.specs.declared.reg.Kind.{Kind}
use Rattle.rtm_model.specs.declared.reg.Reg.{Reg}
use Rattle.rtm_model.specs.Aborts.{abort_named, first_abort}
use Rattle.rtm_model.specs.Advance.{world}
use Rattle.rtm_model.specs.Entries.{OpenBracket, Opening, brackets_after, brackets_from, brackets_left, brackets_of, enclosing_brackets, error_at, executed_op, holds_off, is_held_off, op_executed_at, open_error, outermost_bracket, own_brackets, purges, with_error_at}
use Rattle.rtm_model.specs.Legal.{Legal}
use Rattle.rtm_model.specs.Levels.{Bracket, after_inner_failure, after_leave, at_enclosing, at_innermost, current, error_here, on_record, outermost_alone, record_in, recovers, shielded, shields, with_open}
use Rattle.rtm_model.specs.NextEntry.{landed_record}
use Rattle.rtm_model.specs.OwnChange.{is_gone_after, own_card, own_entry, place_after, routine_named, with_bracket_closed, with_landed, with_routine_entered, without_routine}
use Rattle.rtm_model.specs.Record.{mark_of, ret15_in, setrp_in}
use Rattle.rtm_model.specs.inner.Soundness.{IsCoreSound, IsSound, RunsSince}
use Rattle.rtm_model.specs.World.{Core, UnitOfWork, World, core_at, unit_at}
use Rattle.rtm_model.proofs.Landing.{named_first}
use Rattle.rtm_law_births.proofs.Errors.{levels_after, levels_at_start}
use Rattle.rtm_law_births.proofs.Living.{IsMade}
use Rattle.rtm_law_sound.proofs.Histories.{world-append, world-nil}
use Rattle.rtm_law_landings.proofs.Appended.{holds_of, same_below}
use Rattle.rtm_law_landings.proofs.Changes.{IsOthers, core_after}
use Rattle.rtm_law_landings.proofs.Registered.{through}

-- One more entry

from_append : (u n : ℕ) (es : List Entry) (e : Entry) (bs : List OpenBracket) → brackets_from u n (es ++ e ∷ []) bs ≡ brackets_after u (n + length es) e (brackets_from u n es bs)
from_append u n [] e bs = let k : n + 0 ≡ n = omega arith in ap (λ (m : ℕ). brackets_after u m e bs) (sym k)
from_append u n (x ∷ es) e bs =
    let k : n + 1 + length es ≡ n + suc (length es) = omega arith in
    from_append u (n + 1) es e (brackets_after u n x bs) ∙ ap (λ (m : ℕ). brackets_after u m e (brackets_from u (n + 1) es (brackets_after u n x bs))) k

brackets-append : (u : ℕ) (h : List Entry) (e : Entry) → brackets_of u (h ++ e ∷ []) ≡ brackets_after u (length h) e (brackets_of u h)
brackets-append u h e =
    let k : 0 + length h ≡ length h = omega arith in
    from_append u 0 h e outermost_bracket ∙ ap (λ (m : ℕ). brackets_after u m e (brackets_of u h)) k

-- the brackets are the same, each with its routine's name, whether it holds aborts off, and whether an error is open

abbrev pub HasName : Option Opening → Option Reg → Type 0
HasName None None = Unit {0}
HasName None (Some reg) = ⊥
HasName (Some opening) None = ⊥
HasName (Some opening) (Some reg) = (reg.kind ≡ opening.kind) × (reg.born ≡ opening.born)

pub record IsSame (d : DeckView) (h : List Entry) (l : Bracket) (b : OpenBracket) : Type 0 where
  pub error : is_some l.error ≡ is_some b.error
  pub name : HasName b.opening l.routine
  pub holds : shields l.routine ≡ option_map_or (holds_off d h) b.opening false

abbrev pub AreSame : DeckView → List Entry → List Bracket → List OpenBracket → Type 0
AreSame d h [] [] = Unit {0}
AreSame d h [] (b ∷ bs) = ⊥
AreSame d h (l ∷ ls) [] = ⊥
AreSame d h (l ∷ ls) (b ∷ bs) = IsSame d h l b × AreSame d h ls bs

-- the innermost one is changed
inner_same : (d : DeckView) (h : List Entry) (f : Bracket → Bracket) (error : Option ℕ) → ((l : Bracket) → (Bracket.routine (f l) ≡ l.routine) × (is_some (Bracket.error (f l)) ≡ is_some error))
    → (ls : List Bracket) (bs : List OpenBracket) → AreSame d h ls bs → AreSame d h (at_innermost f ls) (with_error_at error bs)
inner_same d h f error keeps [] [] same = tt
inner_same d h f error keeps [] (b ∷ bs) same = absurd same
inner_same d h f error keeps (l ∷ ls) [] same = absurd same
inner_same d h f error keeps (l ∷ ls) (b ∷ bs) same = (
  record {
    error = (keeps l).1;
    name = subst (HasName b.opening) (sym (keeps l).0) (IsSame.name same.0);
    holds = ap shields (keeps l).0 ∙ IsSame.holds same.0;
  },
  same.1,
)

-- it stays as it is in what entries say
abbrev Keeps : (Bracket → Bracket) → Type 0
Keeps f = (l : Bracket) → (Bracket.routine (f l) ≡ l.routine) × (is_some (Bracket.error (f l)) ≡ is_some l.error)

inner_kept : (d : DeckView) (h : List Entry) (f : Bracket → Bracket) → Keeps f → (ls : List Bracket) (bs : List OpenBracket) → AreSame d h ls bs → AreSame d h (at_innermost f ls) bs
inner_kept d h f keeps [] [] same = tt
inner_kept d h f keeps [] (b ∷ bs) same = absurd same
inner_kept d h f keeps (l ∷ ls) [] same = absurd same
inner_kept d h f keeps (l ∷ ls) (b ∷ bs) same = (
  record {
    error = (keeps l).1 ∙ IsSame.error same.0;
    name = subst (HasName b.opening) (sym (keeps l).0) (IsSame.name same.0);
    holds = ap shields (keeps l).0 ∙ IsSame.holds same.0;
  },
  same.1,
)

enclosing_kept : (d : DeckView) (h : List Entry) (f : Bracket → Bracket) → Keeps f → (ls : List Bracket) (bs : List OpenBracket) → AreSame d h ls bs → AreSame d h (at_enclosing f ls) bs
enclosing_kept d h f keeps [] [] same = tt
enclosing_kept d h f keeps [] (b ∷ bs) same = absurd same
enclosing_kept d h f keeps (l ∷ ls) [] same = absurd same
enclosing_kept d h f keeps (l ∷ ls) (b ∷ bs) same = (same.0, inner_kept d h f keeps ls bs same.1)

mapped_some : (f : ErrorRecord → ErrorRecord) (o : Option ErrorRecord) → is_some (option_map f o) ≡ is_some o
mapped_some f None = refl
mapped_some f (Some r) = refl

record_keeps : (f : ErrorRecord → ErrorRecord) → Keeps (on_record f)
record_keeps f l = (refl, mapped_some f l.error)

record_if : (d : DeckView) (h : List Entry) (f : ErrorRecord → ErrorRecord) (ls : List Bracket) (bs : List OpenBracket) → AreSame d h ls bs → (b : Bool) → AreSame d h (if b then at_enclosing (on_record f) ls else ls) bs
record_if d h f ls bs same true = enclosing_kept d h (on_record f) (record_keeps f) ls bs same
record_if d h f ls bs same false = same

card_same : (d : DeckView) (h : List Entry) (n : ℕ) (place : Place) (op : Op) (c : Core) (bs : List OpenBracket) → AreSame d h c.levels bs → AreSame d h (Core.levels (own_card n place op c)) bs
card_same d h n place (ops.SetRp setrp) c bs same = record_if d h (setrp_in setrp) c.levels bs same (recovers c.levels)
card_same d h n place (ops.Ret15 rc label) c bs same = record_if d h (ret15_in rc label) c.levels bs same (recovers c.levels)
card_same d h n place _ c bs same = same

-- a routine is left
left_same : (d : DeckView) (h : List Entry) (verdict : Verdict) (ls : List Bracket) (bs : List OpenBracket) → AreSame d h ls bs → AreSame d h (after_leave verdict ls) (brackets_left verdict (enclosing_brackets bs))
left_same d h (Retry place) [] [] same = tt
left_same d h Perc [] [] same = tt
left_same d h Stop [] [] same = tt
left_same d h Bad [] [] same = tt
left_same d h Fail [] [] same = tt
left_same d h Over [] [] same = tt
left_same d h verdict [] (b ∷ bs) same = absurd same
left_same d h verdict (l ∷ ls) [] same = absurd same
left_same d h (Retry place) (l ∷ ls) (b ∷ bs) same = inner_same d h (with_open None) None (λ l. (refl, refl)) ls bs same.1
left_same d h Perc (l ∷ ls) (b ∷ bs) same = inner_kept d h (on_record _) (record_keeps _) ls bs same.1
left_same d h Stop (l ∷ ls) (b ∷ bs) same = inner_kept d h (on_record _) (record_keeps _) ls bs same.1
left_same d h Bad (l ∷ ls) (b ∷ bs) same = inner_kept d h (on_record _) (record_keeps _) ls bs same.1
left_same d h Fail (l ∷ ls) (b ∷ bs) same = inner_kept d h (on_record (after_inner_failure l.error)) (record_keeps _) ls bs same.1
left_same d h Over (l ∷ ls) (b ∷ bs) same = inner_kept d h (λ l. l) (λ l. (refl, refl)) ls bs same.1

alone_same : (d : DeckView) (h : List Entry) → AreSame d h outermost_alone outermost_bracket
alone_same d h = (record { error = refl; name = tt; holds = refl }, tt)

-- cards below stand in a longer history too
module _ (d : DeckView) (h : List Entry) (e : Entry) where
  same_card : (i : ℕ) → i < length h → op_executed_at d (h ++ e ∷ []) i ≡ op_executed_at d h i
  same_card i within = ap (λ (o : Option Entry). option_and_then (λ (e : Entry). executed_op d e.what) o) (same_below h i (e ∷ []) within)

  held_longer : (o : Option Opening) (routine : Option Reg) → HasName o routine → IfSome routine (λ reg. reg.born < length h) → shields routine ≡ option_map_or (holds_off d h) o false
      → shields routine ≡ option_map_or (holds_off d (h ++ e ∷ [])) o false
  held_longer None None name since holds = holds
  held_longer None (Some reg) name since holds = absurd name
  held_longer (Some opening) None name since holds = absurd name
  held_longer (Some opening) (Some reg) name since holds =
      let card = same_card opening.born (omega (arith, since, name.1)) in
      rw card holds

  longer : (ls : List Bracket) (bs : List OpenBracket) → AllByRecursion (RunsSince (length h)) ls → AreSame d h ls bs → AreSame d (h ++ e ∷ []) ls bs
  longer [] [] since same = tt
  longer [] (b ∷ bs) since same = absurd same
  longer (l ∷ ls) [] since same = absurd same
  longer (l ∷ ls) (b ∷ bs) since same = (
    record {
      error = IsSame.error same.0;
      name = IsSame.name same.0;
      holds = held_longer b.opening l.routine (IsSame.name same.0) since.0 (IsSame.holds same.0);
    },
    longer ls bs since.1 same.1,
  )

-- Each entry

abbrev pub BracketsAgree : DeckView → List Entry → Type 0
BracketsAgree d h = (v : ℕ) → AreSame d h (Core.levels (core_at v (world d h))) (brackets_of v h)

module _ (d : DeckView) (h : List Entry) (e : Entry) (deck : IsTrue (is_well_formed d)) (legal : Legal d h) (m : IsMade d (world d h) (length h) e) where
  landed_same : (mark : Mark) (c : Core) (bs : List OpenBracket) (first named : Option Abort) → named ≡ first → is_some first ≡ true → AreSame d (h ++ e ∷ []) c.levels bs
      → AreSame d (h ++ e ∷ []) (Core.levels (with_landed named c)) (with_error_at (Some (length h)) bs)
  landed_same mark c bs first None is some same = let clash : false ≡ true = ap is_some is ∙ some in absurd cc
  landed_same mark c bs first (Some abort) is some same = inner_same d (h ++ e ∷ []) (with_open (Some (landed_record abort))) (Some (length h)) (λ l. (refl, refl)) c.levels bs same

  entered_same : (kind : Kind) (born : ℕ) (mark : Mark) (bare : Bool) (u : ℕ) (o : Option Reg) → routine_named kind born (World.managers (world d h)) (core_at u (world d h)) ≡ o
      → IsSomeAnd o (λ routine. (routine.kind ≡ kind) × (routine.born ≡ born)) → (bs : List OpenBracket) → AreSame d (h ++ e ∷ []) (Core.levels (core_at u (world d h))) bs
      → AreSame d (h ++ e ∷ []) (Core.levels (with_routine_entered (length h) bare o (core_at u (world d h)))) (own_brackets (length h) (whats.Enter kind born mark bare) bs)
  entered_same kind born mark bare u None named has bs same = absurd has
  entered_same kind born mark bare u (Some reg) named has bs same = (
    record {
      error = refl;
      name = has;
      holds = through d h deck legal u (h ++ e ∷ []) born (length h) kind reg (same_card d h e) named has.0 has.1;
    },
    same,
  )

  some_first : (o : Option Abort) (P : Abort → Type 0) → IsSomeAnd o P → is_some o ≡ true
  some_first None P h = absurd h
  some_first (Some a) P h = refl

  named_only : (o : Option Reg) (kind : Kind) (born : ℕ) (Q : Reg → Type 0) → IsSomeAnd o (λ routine. (routine.kind ≡ kind) × (routine.born ≡ born) × Q routine) → IsSomeAnd o (λ routine. (routine.kind ≡ kind) × (routine.born ≡ born))
  named_only None kind born Q h = h
  named_only (Some reg) kind born Q h = (h.0, h.1)

  own_same : (u : ℕ) (what : What) → IsMade d (world d h) (length h) (record { unit = u; what = what }) → (bs : List OpenBracket) → AreSame d (h ++ e ∷ []) (Core.levels (core_at u (world d h))) bs
      → AreSame d (h ++ e ∷ []) (Core.levels (own_entry d (length h) (World.managers (world d h)) (UnitOfWork.pending (unit_at u (World.units (world d h)))) what (core_at u (world d h)))) (own_brackets (length h) what bs)
  own_same u (whats.Exec at rc) made bs same = card_same d (h ++ e ∷ []) (length h) (place_after d at rc (op_at d at.prog at.op)) (op_at d at.prog at.op) (core_at u (world d h)) bs same
  own_same u (whats.Error at mark) made bs same = inner_same d (h ++ e ∷ []) (with_open (Some _)) (Some (length h)) (λ l. (refl, refl)) (Core.levels (core_at u (world d h))) bs same
  own_same u (whats.Land class from mark) made bs same =
      let pending : List Abort = UnitOfWork.pending (unit_at u (World.units (world d h))) in
      landed_same mark (core_at u (world d h)) bs (first_abort pending) (abort_named class from pending)
      (named_first class from (λ first. mark ≡ mark_of (landed_record first)) pending made.can.what.2) (some_first (first_abort pending) _ made.can.what.2) same
  own_same u (whats.Enter kind born mark bare) made bs same =
      entered_same kind born mark bare u (routine_named kind born (World.managers (world d h)) (core_at u (world d h))) refl (named_only _ kind born _ made.can.what.0) bs same
  own_same u (whats.Leave kind born verdict logrec dump) made bs same =
      let c : Core = core_at u (world d h) in
      let levels = levels_after verdict (current c.levels) (without_routine verdict (is_gone_after verdict (record_in c.levels)) kind born (with_bracket_closed verdict c)) in
      subst (λ (ls : List Bracket). AreSame d (h ++ e ∷ []) ls (brackets_left verdict (enclosing_brackets bs))) (sym levels) (left_same d (h ++ e ∷ []) verdict c.levels bs same)
  own_same u (whats.Begin code dump) made bs same = alone_same d (h ++ e ∷ [])
  own_same u _ made bs same = same

  after_own : (u v : ℕ) (what : What) (bs : List OpenBracket) → v ≡ u → purges v what ≡ false → brackets_after v (length h) (record { unit = u; what = what }) bs ≡ own_brackets (length h) what bs
  after_own u v what bs same stays = rw (stays, eq-eqb u v (sym same)) refl

  after_other : (u v : ℕ) (what : What) (bs : List OpenBracket) → (v ≡ u → ⊥) → purges v what ≡ false → brackets_after v (length h) (record { unit = u; what = what }) bs ≡ bs
  after_other u v what bs other stays = rw (stays, ne_eqb u v (λ same. other (sym same))) refl

  after_purge : (u v : ℕ) (what : What) (bs : List OpenBracket) → purges v what ≡ true → brackets_after v (length h) (record { unit = u; what = what }) bs ≡ outermost_bracket
  after_purge u v what bs goes = rw goes refl

  others_same : (u v : ℕ) (what : What) (after : Core) (bs : List OpenBracket) → (v ≡ u → ⊥) → AreSame d (h ++ e ∷ []) (Core.levels (core_at v (world d h))) bs → IsOthers v what after (core_at v (world d h))
      → AreSame d (h ++ e ∷ []) after.levels (brackets_after v (length h) (record { unit = u; what = what }) bs)
  others_same u v what after bs other same (inl left) =
      subst (AreSame d (h ++ e ∷ []) after.levels) (sym (after_other u v what bs other left.stays)) (subst (λ (c : Core). AreSame d (h ++ e ∷ []) c.levels bs) (sym left.core) same)
  others_same u v what after bs other same (inr (inl born)) =
      subst (AreSame d (h ++ e ∷ []) after.levels) (sym (after_other u v what bs other born.stays)) (subst (λ (c : Core). AreSame d (h ++ e ∷ []) c.levels bs) (sym born.core) same)
  others_same u v what after bs other same (inr (inr purged)) =
      subst (AreSame d (h ++ e ∷ []) after.levels) (sym (after_purge u v what bs purged.goes)) (subst (λ (c : Core). AreSame d (h ++ e ∷ []) c.levels outermost_bracket) (sym purged.core) (alone_same d (h ++ e ∷ [])))

  brackets_keep : BracketsAgree d h → BracketsAgree d (h ++ e ∷ [])
  brackets_keep agree v =
      let bs : List OpenBracket = brackets_of v h in
      let same : AreSame d (h ++ e ∷ []) (Core.levels (core_at v (world d h))) bs = longer d h e (Core.levels (core_at v (world d h))) bs (IsCoreSound.routines (IsSound.cores m.sound v)) (agree v) in
      let after = core_after d (world d h) (length h) e.unit v e.what m (λ c. AreSame d (h ++ e ∷ []) c.levels (brackets_after v (length h) e bs))
      (λ mine stays.
      subst (AreSame d (h ++ e ∷ []) _) (sym (after_own e.unit v e.what bs mine stays))
      (own_same e.unit e.what m bs (subst (λ (i : ℕ). AreSame d (h ++ e ∷ []) (Core.levels (core_at i (world d h))) bs) mine same)))
      (λ other core change. others_same e.unit v e.what core bs other same change) in
      subst (λ (w : World). AreSame d (h ++ e ∷ []) (Core.levels (core_at v w)) (brackets_of v (h ++ e ∷ []))) (sym (world-append d h e))
      (subst (AreSame d (h ++ e ∷ []) _) (sym (brackets-append v h e)) after)

pub brackets_agree : (d : DeckView) (h : List Entry) → IsTrue (is_well_formed d) → Legal d h → BracketsAgree d h
brackets_agree d h deck legal =
    holds_of d deck (BracketsAgree d)
    (λ v. subst (λ (w : World). AreSame d [] (Core.levels (core_at v w)) outermost_bracket) (sym (world-nil d))
    (subst (λ (ls : List Bracket). AreSame d [] ls outermost_bracket) (sym (levels_at_start d v)) (alone_same d [])))
    (λ front e before m agree. brackets_keep d front e deck before m agree) h legal

-- So no abort interrupts the one's brackets where none interrupts the other's, and an error is open in both

one_held : (d : DeckView) (h : List Entry) (o : Option Opening) (more : List Opening) → (option_map_or (holds_off d h) o false || list_any (holds_off d h) more) ≡ list_any (holds_off d h) (cons_option o more)
one_held d h None more = refl
one_held d h (Some opening) more = refl

held_same : (d : DeckView) (h : List Entry) (ls : List Bracket) (bs : List OpenBracket) → AreSame d h ls bs → list_any (λ (l : Bracket). shields l.routine) ls ≡ list_any (holds_off d h) (filter_map (λ (b : OpenBracket). b.opening) bs)
held_same d h [] [] same = refl
held_same d h [] (b ∷ bs) same = absurd same
held_same d h (l ∷ ls) [] same = absurd same
held_same d h (l ∷ ls) (b ∷ bs) same =
    rw (IsSame.holds same.0, held_same d h ls bs same.1) (one_held d h b.opening (filter_map (λ (b : OpenBracket). b.opening) bs))

errors_same : (d : DeckView) (h : List Entry) (ls : List Bracket) (bs : List OpenBracket) → AreSame d h ls bs → error_here ls ≡ is_some (error_at bs)
errors_same d h [] [] same = refl
errors_same d h [] (b ∷ bs) same = absurd same
errors_same d h (l ∷ ls) [] same = absurd same
errors_same d h (l ∷ ls) (b ∷ bs) same = IsSame.error same.0

pub held_agree : (d : DeckView) (h : List Entry) → IsTrue (is_well_formed d) → Legal d h → (v : ℕ) → shielded (Core.levels (core_at v (world d h))) ≡ is_held_off d v h
held_agree d h deck legal v = held_same d h _ _ (brackets_agree d h deck legal v)

pub error_agree : (d : DeckView) (h : List Entry) → IsTrue (is_well_formed d) → Legal d h → (v : ℕ) → error_here (Core.levels (core_at v (world d h))) ≡ is_some (open_error v h)
error_agree d h deck legal v = errors_same d h _ _ (brackets_agree d h deck legal v)
