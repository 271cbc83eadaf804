-- The flags of open errors: CLUP stands in doomed units alone; and a record that admits routines with TERM=YES alone
-- forbids retry, while those of the brackets around its own don't.
use Rattle.std.proofs.Common.{◌≡◌, ℕ, Bool, true, false, not, ◌||◌, List, [], ◌∷◌, ◌++◌, length, Option, Some, None, refl, sym, ap, subst, inl, inr, ◌⊎◌, ◌∙◌}
use Rattle.std.specs.Option.{option_map}
use Rattle.std.specs.Prelude.{IfSome, IsTrue, if◌then◌else◌, is_none, slice_get}
use Rattle.rtm_deck_items.specs.Reading.{op_at}
use Rattle.rtm_deck_items.specs.View.{DeckView}
use Rattle.rtm_deck_items.specs.WellFormed.{is_well_formed}
use Rattle.rtm_deck_items.specs.declared.deck.Command.{Command}
use Rattle.rtm_deck_items.specs.declared.op.Op.{Op}
use Rattle.rtm_deck_items.specs.declared.op.Op.TheVariants as ops
use Rattle.rtm_model.specs.declared.abort.Abort.{Abort}
use Rattle.rtm_model.specs.declared.block.Place.{Place}
use Rattle.rtm_model.specs.declared.entry.Class.{Class}
use Rattle.rtm_model.specs.declared.entry.Entry.{Entry}
use Rattle.rtm_model.specs.declared.entry.Fate.{Fate}
use Rattle.rtm_model.specs.declared.entry.Verdict.{Verdict}
use Rattle.rtm_model.specs.declared.entry.Verdict.TheVariants.{Bad, Fail, Over, Perc, Retry, Stop}
use Rattle.rtm_model.specs.declared.entry.What.{What}
use Rattle.rtm_model.specs.declared.entry.What.TheVariants as whats
use Rattle.rtm_model.specs.declared.error_record.ErrorRecord.{ErrorRecord}
use Rattle.rtm_model.specs.declared.error_record.RecordFlags.{RecordFlags}
use Rattle.rtm_model.specs.declared.mark.Mark.{Mark}
use Rattle.rtm_model.specs.declared.reg.Reg.{Reg}
use Rattle.rtm_model.specs.Aborts.{abort_named}
use Rattle.rtm_model.specs.Advance.{world}
use Rattle.rtm_model.specs.Cards.{has_frr}
use Rattle.rtm_model.specs.Legal.{Legal}
use Rattle.rtm_model.specs.Levels.{Bracket, after_inner_failure, after_leave, after_verdict, at_enclosing, at_innermost, current, error_here, on_record, record_in, recovers, shielded, with_open}
use Rattle.rtm_model.specs.Moments.{IsIn, before}
use Rattle.rtm_model.specs.NextEntry.{interruptible, landed_record}
use Rattle.rtm_model.specs.OwnChange.{after_retry, error_record, is_gone_after, own_card, own_entry, place_after, routine_named, with_bracket_closed, with_landed, with_routine_entered, without_routine}
use Rattle.rtm_model.specs.Record.{after_percolation, inner_failed, ret15_in, setrp_in}
use Rattle.rtm_model.specs.World.{Core, World, core_at, related_task}
use Rattle.rtm_law_births.specs.Aborts.{CardPosts, CommandPosts, EntryMakes, IsQueued, MotherPosts, PendingAbort, RelatedPosts, StepPosts, aborts}
use Rattle.rtm_law_births.specs.Life.{LivesBefore}
use Rattle.rtm_law_births.proofs.Errors.{levels_after, levels_at_start}
use Rattle.rtm_law_births.proofs.Living.{IsMade}
use Rattle.rtm_law_births.proofs.Sound.{sound_history}
use Rattle.rtm_law_births.proofs.Turns.{aborts_live}
use Rattle.rtm_law_sound.proofs.Histories.{world-append, world-nil}
use Rattle.rtm_law_landings.proofs.Appended.{holds_of}
use Rattle.rtm_law_landings.proofs.Changes.{IsOthers, core_after}
use Rattle.rtm_law_landings.proofs.Clups.{parts4}
use Rattle.rtm_law_landings.proofs.Doomed.{IsLanded, landed}
use Rattle.rtm_law_landings.proofs.Nexts.{IsMasters, IsUnits, next_is, pending_in}

-- An abort that admits routines with TERM=YES alone forbids retry

abbrev Forbids : Abort → Type 0
Forbids a = a.term_only ≡ true → a.retry ≡ false

card_forbids : (i rc : ℕ) (op : Op) (x : PendingAbort) → CardPosts i rc op x → Forbids x.abort
card_forbids i rc (ops.Detach unit stae) x h = subst Forbids (sym h.2) (λ t. refl)
card_forbids i rc (ops.Abterm unit code reason dump retry) x h = subst Forbids (sym h.2) (λ t. absurd cc)
card_forbids i rc _ x h = absurd h

command_forbids : (i : ℕ) (became : Fate) (o : Option Command) (x : PendingAbort) → CommandPosts i became o x → Forbids x.abort
command_forbids i became None x h = absurd h
command_forbids i became (Some command) x h = subst Forbids (sym h.abort_is) (λ t. refl)

related_forbids : (i : ℕ) (rel : Option ℕ) (cause : Option ErrorRecord) (to_task : Option Fate) (x : PendingAbort) → RelatedPosts i rel cause to_task x → Forbids x.abort
related_forbids i (Some task) (Some r) (Some queued) x h = subst Forbids (sym h.abort_is) (λ t. absurd cc)
related_forbids i (Some task) (Some r) None x h = absurd h
related_forbids i None cause to_task x h = absurd h
related_forbids i (Some task) None to_task x h = absurd h

step_forbids : (d : DeckView) (i : ℕ) (cause : Option ErrorRecord) (to_step : Option Fate) (x : PendingAbort) → StepPosts d i cause to_step x → Forbids x.abort
step_forbids d i (Some r) (Some queued) x h = subst Forbids (sym h.abort_is) (λ t. refl)
step_forbids d i (Some r) None x h = absurd h
step_forbids d i None to_step x h = absurd h

entry_forbids : (d : DeckView) (w : World) (i u : ℕ) (what : What) (x : PendingAbort) → EntryMakes d w i u what x → Forbids x.abort
entry_forbids d w i u (whats.Exec at rc) x h = card_forbids i rc (op_at d at.prog at.op) x h
entry_forbids d w i u (whats.Arrive cmd became) x h = command_forbids i became (slice_get d.commands cmd) x h
entry_forbids d w i u (whats.Begin code dump) x h = subst Forbids (sym (IsQueued.abort_is (MotherPosts.posts h))) (λ t. refl)
entry_forbids d w i u (whats.Done code to_task to_step) x (inl h) = related_forbids i (related_task d u) _ to_task x h
entry_forbids d w i u (whats.Done code to_task to_step) x (inr h) = step_forbids d i _ to_step x h
entry_forbids d w i u _ x h = absurd h

module _ (d : DeckView) (h : List Entry) (deck : IsTrue (is_well_formed d)) (legal : Legal d h) (v : ℕ) (a : Abort) where
  lives_forbids : LivesBefore aborts d h (length h) (record { target = v; abort = a }) → Forbids a
  lives_forbids (inl none) = absurd none.0
  lives_forbids (inr (i, since)) = entry_forbids d (before d h i) i (Entry.unit since.entry) (Entry.what since.entry) (record { target = v; abort = a }) since.makes

  pending_forbids : IsIn a (pending_in (world d h) v) → Forbids a
  pending_forbids there = lives_forbids ((aborts_live d h (sound_history d h deck legal) legal).living.lives (record { target = v; abort = a }) there)

-- The flags of a unit's open errors

abbrev IsCalm : Option ErrorRecord → Type 0
IsCalm o = IfSome o (λ r. r.flags.clup ≡ false)

abbrev pub AreCalm : List Bracket → Type 0
AreCalm [] = Unit {0}
AreCalm (l ∷ ls) = IsCalm l.error × AreCalm ls

pub record IsTermOnly (r : ErrorRecord) (outer : List Bracket) : Type 0 where
  pub clup : r.flags.clup ≡ true
  pub calm : AreCalm outer

abbrev pub TermOnlyIs : Option ErrorRecord → List Bracket → Type 0
TermOnlyIs o outer = IfSome o (λ r. r.flags.term_only ≡ true → IsTermOnly r outer)

abbrev pub AreTermOnly : List Bracket → Type 0
AreTermOnly [] = Unit {0}
AreTermOnly (l ∷ ls) = TermOnlyIs l.error ls × AreTermOnly ls

pub record HasFlags (c : Core) : Type 0 where
  pub calm : c.doomed ≡ false → AreCalm c.levels
  pub term : AreTermOnly c.levels

-- a change that leaves both flags
pub record KeepsFlags (f : ErrorRecord → ErrorRecord) : Type 0 where
  pub clup : (r : ErrorRecord) → RecordFlags.clup (ErrorRecord.flags (f r)) ≡ r.flags.clup
  pub term : (r : ErrorRecord) → RecordFlags.term_only (ErrorRecord.flags (f r)) ≡ r.flags.term_only

calm_mapped : (f : ErrorRecord → ErrorRecord) → KeepsFlags f → (o : Option ErrorRecord) → IsCalm o → IsCalm (option_map f o)
calm_mapped f keeps None h = h
calm_mapped f keeps (Some r) h = keeps.clup r ∙ h

calm_inner : (f : ErrorRecord → ErrorRecord) → KeepsFlags f → (ls : List Bracket) → AreCalm ls → AreCalm (at_innermost (on_record f) ls)
calm_inner f keeps [] h = h
calm_inner f keeps (l ∷ ls) h = (calm_mapped f keeps l.error h.0, h.1)

calm_enclosing : (f : ErrorRecord → ErrorRecord) → KeepsFlags f → (ls : List Bracket) → AreCalm ls → AreCalm (at_enclosing (on_record f) ls)
calm_enclosing f keeps [] h = h
calm_enclosing f keeps (l ∷ ls) h = (h.0, calm_inner f keeps ls h.1)

term_mapped : (f : ErrorRecord → ErrorRecord) → KeepsFlags f → (o : Option ErrorRecord) (outer : List Bracket) → TermOnlyIs o outer → TermOnlyIs (option_map f o) outer
term_mapped f keeps None outer h = h
term_mapped f keeps (Some r) outer h = λ t. let was = h (sym (keeps.term r) ∙ t) in record { clup = keeps.clup r ∙ was.clup; calm = was.calm }

term_inner : (f : ErrorRecord → ErrorRecord) → KeepsFlags f → (ls : List Bracket) → AreTermOnly ls → AreTermOnly (at_innermost (on_record f) ls)
term_inner f keeps [] h = h
term_inner f keeps (l ∷ ls) h = (term_mapped f keeps l.error ls h.0, h.1)

around : (o : Option ErrorRecord) (before after : List Bracket) → (AreCalm before → AreCalm after) → TermOnlyIs o before → TermOnlyIs o after
around None before after move h = h
around (Some r) before after move h = λ t. let was = h t in record { clup = was.clup; calm = move was.calm }

term_enclosing : (f : ErrorRecord → ErrorRecord) → KeepsFlags f → (ls : List Bracket) → AreTermOnly ls → AreTermOnly (at_enclosing (on_record f) ls)
term_enclosing f keeps [] h = h
term_enclosing f keeps (l ∷ ls) h = (around l.error ls (at_innermost (on_record f) ls) (calm_inner f keeps ls) h.0, term_inner f keeps ls h.1)

-- SETRP and RET15
setrp_keeps : (setrp : _) → KeepsFlags (setrp_in setrp)
setrp_keeps setrp = record { clup = λ r. refl; term = λ r. refl }

ret15_keeps : (rc : ℕ) (label : Option (List ℕ)) → KeepsFlags (ret15_in rc label)
ret15_keeps rc label = record { clup = λ r. refl; term = λ r. refl }

percolation_keeps : KeepsFlags after_percolation
percolation_keeps = record { clup = λ r. refl; term = λ r. refl }

calm_if : (f : ErrorRecord → ErrorRecord) → KeepsFlags f → (ls : List Bracket) (b : Bool) → AreCalm ls → AreCalm (if b then at_enclosing (on_record f) ls else ls)
calm_if f keeps ls true h = calm_enclosing f keeps ls h
calm_if f keeps ls false h = h

term_if : (f : ErrorRecord → ErrorRecord) → KeepsFlags f → (ls : List Bracket) (b : Bool) → AreTermOnly ls → AreTermOnly (if b then at_enclosing (on_record f) ls else ls)
term_if f keeps ls true h = term_enclosing f keeps ls h
term_if f keeps ls false h = h

card_flags : (n : ℕ) (place : Place) (op : Op) (c : Core) → HasFlags c → HasFlags (own_card n place op c)
card_flags n place (ops.SetRp setrp) c h = record {
  calm = λ free. calm_if (setrp_in setrp) (setrp_keeps setrp) c.levels (recovers c.levels) (h.calm free);
  term = term_if (setrp_in setrp) (setrp_keeps setrp) c.levels (recovers c.levels) h.term;
}
card_flags n place (ops.Ret15 rc label) c h = record {
  calm = λ free. calm_if (ret15_in rc label) (ret15_keeps rc label) c.levels (recovers c.levels) (h.calm free);
  term = term_if (ret15_in rc label) (ret15_keeps rc label) c.levels (recovers c.levels) h.term;
}
card_flags n place _ c h = record { calm = h.calm; term = h.term }

-- an error is opened in the innermost bracket
calm_opened : (r : ErrorRecord) → r.flags.clup ≡ false → (ls : List Bracket) → AreCalm ls → AreCalm (at_innermost (with_open (Some r)) ls)
calm_opened r clup [] h = h
calm_opened r clup (l ∷ ls) h = (clup, h.1)

term_opened : (r : ErrorRecord) (ls : List Bracket) → (r.flags.term_only ≡ true → (r.flags.clup ≡ true) × AreCalm ls) → AreTermOnly ls → AreTermOnly (at_innermost (with_open (Some r)) ls)
term_opened r [] is h = h
term_opened r (l ∷ ls) is h = (λ t. let now = is t in record { clup = now.0; calm = now.1.1 }, h.1)

error_flags : (r : ErrorRecord) (c : Core) → r.flags.clup ≡ c.doomed → r.flags.term_only ≡ false → HasFlags c → HasFlags (record c { levels = at_innermost (with_open (Some r)) c.levels })
error_flags r c clup term h = record {
  calm = λ free. calm_opened r (clup ∙ free) c.levels (h.calm free);
  term = term_opened r c.levels (λ t. let clash : false ≡ true = sym term ∙ t in absurd cc) h.term;
}

entered_flags : (n : ℕ) (bare : Bool) (o : Option Reg) (c : Core) → HasFlags c → HasFlags (with_routine_entered n bare o c)
entered_flags n bare None c h = h
entered_flags n bare (Some reg) c h = record { calm = λ free. (tt, h.calm free); term = (tt, h.term) }

-- a routine is left
calm_failed : (inner outer : ErrorRecord) → inner.flags.clup ≡ false → RecordFlags.clup (ErrorRecord.flags (inner_failed inner outer)) ≡ outer.flags.clup
calm_failed inner outer calm = rw calm refl

calm_left : (inner : Option ErrorRecord) (o : Option ErrorRecord) → IsCalm inner → IsCalm o → IsCalm (option_map (after_inner_failure inner) o)
calm_left inner None h i = i
calm_left None (Some outer) h i = i
calm_left (Some r) (Some outer) h i = calm_failed r outer h ∙ i

calm_verdict : (verdict : Verdict) (inner : Option ErrorRecord) (ls : List Bracket) → IsCalm inner → AreCalm ls → AreCalm (at_innermost (after_verdict verdict inner) ls)
calm_verdict (Retry place) inner [] h i = i
calm_verdict Perc inner [] h i = i
calm_verdict Stop inner [] h i = i
calm_verdict Bad inner [] h i = i
calm_verdict Fail inner [] h i = i
calm_verdict Over inner [] h i = i
calm_verdict (Retry place) inner (l ∷ ls) h i = (tt, i.1)
calm_verdict Perc inner (l ∷ ls) h i = (calm_mapped after_percolation percolation_keeps l.error i.0, i.1)
calm_verdict Stop inner (l ∷ ls) h i = (calm_mapped after_percolation percolation_keeps l.error i.0, i.1)
calm_verdict Bad inner (l ∷ ls) h i = (calm_mapped after_percolation percolation_keeps l.error i.0, i.1)
calm_verdict Fail inner (l ∷ ls) h i = (calm_left inner l.error h i.0, i.1)
calm_verdict Over inner (l ∷ ls) h i = i

term_taken : (inner outer : ErrorRecord) (ls : List Bracket) → (inner.flags.term_only ≡ true → AreCalm ls) → (outer.flags.term_only ≡ true → IsTermOnly outer ls)
    → (a b : Bool) → inner.flags.clup ≡ a → outer.flags.clup ≡ b → RecordFlags.term_only (ErrorRecord.flags (inner_failed inner outer)) ≡ true → IsTermOnly (inner_failed inner outer) ls
term_taken inner outer ls calm h true false e f = rw (e, f) (λ t. record { clup = refl; calm = calm t })
term_taken inner outer ls calm h true true e f = rw (e, f) (λ t. record { clup = refl; calm = IsTermOnly.calm (h t) })
term_taken inner outer ls calm h false b e f = rw e (λ t. record { clup = IsTermOnly.clup (h t); calm = IsTermOnly.calm (h t) })

term_left : (inner : Option ErrorRecord) (o : Option ErrorRecord) (ls : List Bracket) → IfSome inner (λ r. r.flags.term_only ≡ true → AreCalm ls) → TermOnlyIs o ls → TermOnlyIs (option_map (after_inner_failure inner) o) ls
term_left inner None ls calm h = h
term_left None (Some outer) ls calm h = h
term_left (Some r) (Some outer) ls calm h = term_taken r outer ls calm h r.flags.clup outer.flags.clup refl refl

behind : (inner : Option ErrorRecord) (l : Bracket) (ls : List Bracket) → TermOnlyIs inner (l ∷ ls) → IfSome inner (λ r. r.flags.term_only ≡ true → AreCalm ls)
behind None l ls h = h
behind (Some r) l ls h = λ t. (IsTermOnly.calm (h t)).1

term_verdict : (verdict : Verdict) (inner : Option ErrorRecord) (ls : List Bracket) → TermOnlyIs inner ls → AreTermOnly ls → AreTermOnly (at_innermost (after_verdict verdict inner) ls)
term_verdict (Retry place) inner [] h i = i
term_verdict Perc inner [] h i = i
term_verdict Stop inner [] h i = i
term_verdict Bad inner [] h i = i
term_verdict Fail inner [] h i = i
term_verdict Over inner [] h i = i
term_verdict (Retry place) inner (l ∷ ls) h i = (tt, i.1)
term_verdict Perc inner (l ∷ ls) h i = (term_mapped after_percolation percolation_keeps l.error ls i.0, i.1)
term_verdict Stop inner (l ∷ ls) h i = (term_mapped after_percolation percolation_keeps l.error ls i.0, i.1)
term_verdict Bad inner (l ∷ ls) h i = (term_mapped after_percolation percolation_keeps l.error ls i.0, i.1)
term_verdict Fail inner (l ∷ ls) h i = (term_left inner l.error ls (behind inner l ls h) i.0, i.1)
term_verdict Over inner (l ∷ ls) h i = i

left_calm : (verdict : Verdict) (ls : List Bracket) → AreCalm ls → AreCalm (after_leave verdict ls)
left_calm verdict [] h = h
left_calm verdict (l ∷ ls) h = calm_verdict verdict l.error ls h.0 h.1

left_term : (verdict : Verdict) (ls : List Bracket) → AreTermOnly ls → AreTermOnly (after_leave verdict ls)
left_term verdict [] h = h
left_term verdict (l ∷ ls) h = term_verdict verdict l.error ls h.0 h.1

-- Each entry

retried_doomed : (verdict : Verdict) (o : Option Reg) (c : Core) → Core.doomed (after_retry verdict o c) ≡ c.doomed
retried_doomed (Retry place) None c = refl
retried_doomed (Retry place) (Some reg) c = refl
retried_doomed _ o c = refl

or_none : (a b : Bool) → (a || b) ≡ false → b ≡ false
or_none true b h = absurd cc
or_none false b h = h

module _ (d : DeckView) (h : List Entry) (deck : IsTrue (is_well_formed d)) (legal : Legal d h) (u : ℕ) where
  landing_flags : (class : Class) (from : ℕ) (mark : Mark) → IsLanded (pending_in (world d h) u) class from mark → interruptible (core_at u (world d h)) ≡ true
      → HasFlags (core_at u (world d h)) → HasFlags (with_landed (abort_named class from (pending_in (world d h) u)) (core_at u (world d h)))
  landing_flags class from mark is can flags =
      let c : Core = core_at u (world d h) in
      let free = parts4 (is_none c.begun) (has_frr c.frrs) (shielded c.levels) c.doomed (error_here c.levels) can in
      let calm : AreCalm c.levels = flags.calm free.1 in
      rw (IsLanded.named is) (record {
        calm = λ f. calm_opened (landed_record is.first) (or_none c.doomed (not (Abort.retry is.first)) f) c.levels calm;
        term = term_opened (landed_record is.first) c.levels (λ t. (ap not (pending_forbids d h deck legal u is.first is.there t), calm)) flags.term;
      })

  own_flags : (what : What) → IsMade d (world d h) (length h) (record { unit = u; what = what }) → IsUnits d (world d h) u what ⊎ IsMasters d (world d h) u what → HasFlags (core_at u (world d h))
      → HasFlags (own_entry d (length h) (World.managers (world d h)) (pending_in (world d h) u) what (core_at u (world d h)))
  own_flags (whats.Exec at rc) m is f = card_flags (length h) (place_after d at rc (op_at d at.prog at.op)) (op_at d at.prog at.op) (core_at u (world d h)) f
  own_flags (whats.Error at mark) m is f = error_flags (error_record (Core.doomed (core_at u (world d h))) mark (op_at d at.prog at.op)) (core_at u (world d h)) refl refl f
  own_flags (whats.Land class from mark) m (inl units) f = elim units.timely [
    | inl lands ↦ landing_flags class from mark (landed d (world d h) (length h) u class from mark m) lands.can f
    | inr other ↦ let clash : true ≡ false = other.other in absurd cc
  ]
  own_flags (whats.Land class from mark) m (inr masters) f = let clash : true ≡ false = masters.other in absurd cc
  own_flags (whats.Enter kind born mark bare) m is f = entered_flags (length h) bare (routine_named kind born (World.managers (world d h)) (core_at u (world d h))) (core_at u (world d h)) f
  own_flags (whats.Leave kind born verdict logrec dump) m is f =
      let c : Core = core_at u (world d h) in
      let inner : Core = without_routine verdict (is_gone_after verdict (record_in c.levels)) kind born (with_bracket_closed verdict c) in
      let levels = levels_after verdict (current c.levels) inner in
      record {
        calm = λ free. subst AreCalm (sym levels) (left_calm verdict c.levels (f.calm (sym (retried_doomed verdict (current c.levels) inner) ∙ free)));
        term = subst AreTermOnly (sym levels) (left_term verdict c.levels f.term);
      }
  own_flags (whats.Begin code dump) m is f = record { calm = λ free. (tt, tt); term = (tt, tt) }
  own_flags _ m is f = f

  own_flags_by : (what : What) → IsMade d (world d h) (length h) (record { unit = u; what = what }) → HasFlags (core_at u (world d h))
      → HasFlags (own_entry d (length h) (World.managers (world d h)) (pending_in (world d h) u) what (core_at u (world d h)))
  own_flags_by (whats.Arrive cmd became) m f = f
  own_flags_by what m f = own_flags what m (next_is d (world d h) u what m.may) f

others_flags : (v : ℕ) (what : What) (after before : Core) → IsOthers v what after before → HasFlags before → HasFlags after
others_flags v what after before (inl left) h = subst HasFlags (sym left.core) h
others_flags v what after before (inr (inl born)) h = subst HasFlags (sym born.core) (record { calm = h.calm; term = h.term })
others_flags v what after before (inr (inr purged)) h = subst HasFlags (sym purged.core) (record { calm = λ free. (tt, tt); term = (tt, tt) })

abbrev pub AllHaveFlags : DeckView → List Entry → Type 0
AllHaveFlags d h = (v : ℕ) → HasFlags (core_at v (world d h))

flags_keep : (d : DeckView) (h : List Entry) (e : Entry) → IsTrue (is_well_formed d) → Legal d h → IsMade d (world d h) (length h) e → AllHaveFlags d h → AllHaveFlags d (h ++ e ∷ [])
flags_keep d h e deck legal m all v =
    subst (λ (w : World). HasFlags (core_at v w)) (sym (world-append d h e))
    (core_after d (world d h) (length h) e.unit v e.what m HasFlags
    (λ same stays. own_flags_by d h deck legal e.unit e.what m (all e.unit))
    (λ other after change. others_flags v e.what after (core_at v (world d h)) change (all v)))

pub all_have_flags : (d : DeckView) (h : List Entry) → IsTrue (is_well_formed d) → Legal d h → AllHaveFlags d h
all_have_flags d h deck legal =
    holds_of d deck (AllHaveFlags d)
    (λ v. subst (λ (w : World). HasFlags (core_at v w)) (sym (world-nil d))
    (record {
      calm = λ free. subst AreCalm (sym (levels_at_start d v)) (tt, tt);
      term = subst AreTermOnly (sym (levels_at_start d v)) (tt, tt);
    }))
    (λ front e before m all. flags_keep d front e deck before m all) h legal
