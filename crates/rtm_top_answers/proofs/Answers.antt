-- What an answer is of, by what was found in the bytes.
use Rattle.std.proofs.Common.{◌≡◌, ℕ, ◌≤◌, ◌⊎◌, List, [], length, Option, Some, Result, Ok, Err, subst, inl, inr}
use Rattle.std.specs.Prelude.{IfErr, IfOk}
use Rattle.rtm_deck_items.specs.declared.why.Why.{Why}
use Rattle.rtm_deck_items.specs.Faults.{IsFirstFault}
use Rattle.rtm_deck_items.specs.Spelling.{DeckText}
use Rattle.rtm_deck_items.specs.View.{DeckView}
use Rattle.rtm_trace_judge.specs.Judged.{IsFirstIllegal, IsJudged, IsWrongEnd}
use Rattle.rtm_deck_load.specs.Deck.{load_deck}
use Rattle.rtm_desk.specs.Told.{Row, told_by}
use Rattle.rtm_model.specs.declared.entry.End.{End}
use Rattle.rtm_model.specs.declared.entry.Entry.{Entry}
use Rattle.rtm_model.specs.Legal.{Legal, end_of}
use Rattle.rtm_model.specs.Turns.{seq}
use Rattle.rtm_cards.specs.Split.{deck_part, trace_part}
use Rattle.rtm_trace.specs.Lines.{IsFirstBadLine, IsTraceOf}
use Rattle.rtm_trace.specs.View.{TraceView}
use Rattle.rtm_top_answers.specs.Load.{IsLoadOf, counted_answer}
use Rattle.rtm_top_answers.specs.Refusal.{refusal}
use Rattle.rtm_top_answers.specs.Run.{AreToldOfRunIn, AreToldOfRunOrNothing, IsRunAnswer, IsRunIn, traced_answer}
use Rattle.rtm_top_answers.specs.Scan.{IsScanAnswer, canonical}
use Rattle.rtm_top_answers.specs.Verify.{IsJudgement, IsOfTrace, IsVerifyAnswer, bad_line, faulted_part, not_legal, verified_answer, wrong_end}
use Rattle.rtm_top_answers.specs.View.{AnswerView}
use Rattle.rtm_top_answers.proofs.Faulted.{is_deck_part}

-- ---- scan

pub scanned_fault : {E : Type 0} (bytes : List ℕ) (card : ℕ) (why : Why) (r : Result AnswerView E) → IsFirstFault bytes card why
    → IfOk r (λ a. a ≡ refusal card why) → IfOk r (IsScanAnswer bytes)
scanned_fault bytes card why (Ok a) f e = inl (record { card = card; why = why; fault = f; is = e })
scanned_fault bytes card why (Err x) f e = tt

pub scanned_deck : {E : Type 0} (bytes : List ℕ) (d : DeckView) (r : Result AnswerView E) → DeckText bytes d
    → IfOk r (λ a. a ≡ canonical d) → IfOk r (IsScanAnswer bytes)
scanned_deck bytes d (Ok a) s e = inr (record { deck = d; spelled = s; is = e })
scanned_deck bytes d (Err x) s e = tt

-- ---- a run

module _ {E : Type 0} (makes : DeckView → List Entry → Type 0) where
  pub run_in : (d : DeckView) (history : List Entry) (end : End) (told : List Row) (r : Result AnswerView E) → makes d history → Legal d history → end_of d history ≡ Some end
      → told ≡ told_by history → IfOk r (λ a. a ≡ traced_answer d history end) → IfOk r (λ a. IsRunIn makes d a told)
  run_in d history end told (Ok a) makes_it l n m e = record { history = history; made = makes_it; run = record { legal = l; end = end; ends = n; is = e; managers = m } }
  run_in d history end told (Err x) makes_it l n m e = tt

  pub told_none : (d : DeckView) (told : List Row) (r : Result AnswerView E) → told ≡ told_by []
      → IfErr r (λ e. (told ≡ told_by []) ⊎ AreToldOfRunIn makes d told)
  told_none d told (Ok a) m = tt
  told_none d told (Err x) m = inl m

  pub told_all : (d : DeckView) (history : List Entry) (end : End) (told : List Row) (r : Result AnswerView E) → makes d history → Legal d history → end_of d history ≡ Some end
      → told ≡ told_by history → IfErr r (λ e. (told ≡ told_by []) ⊎ AreToldOfRunIn makes d told)
  told_all d history end told (Ok a) makes_it l n m = tt
  told_all d history end told (Err x) makes_it l n m = inr (record { history = history; made = makes_it; legal = l; end = end; ends = n; managers = m })

  pub run_fault : (bytes : List ℕ) (card : ℕ) (why : Why) (told : List Row) (r : Result AnswerView E) → IsFirstFault bytes card why → told ≡ told_by []
      → IfOk r (λ a. a ≡ refusal card why) → IfOk r (λ a. IsRunAnswer makes bytes a told)
  run_fault bytes card why told (Ok a) f m e = inl (record { card = card; why = why; fault = f; is = e }, m)
  run_fault bytes card why told (Err x) f m e = tt

  pub run_deck : (bytes : List ℕ) (d : DeckView) (told : List Row) (r : Result AnswerView E) → DeckText bytes d
      → IfOk r (λ a. IsRunIn makes d a told) → IfOk r (λ a. IsRunAnswer makes bytes a told)
  run_deck bytes d told (Ok a) s run = inr (record { deck = d; spelled = s; run = run })
  run_deck bytes d told (Err x) s run = tt

  pub told_nothing : (bytes : List ℕ) (told : List Row) (r : Result AnswerView E) → told ≡ told_by []
      → IfErr r (λ e. AreToldOfRunOrNothing makes bytes told)
  told_nothing bytes told (Ok a) m = tt
  told_nothing bytes told (Err x) m = inl m

  pub told_deck : (bytes : List ℕ) (d : DeckView) (told : List Row) (r : Result AnswerView E) → DeckText bytes d
      → IfErr r (λ e. (told ≡ told_by []) ⊎ AreToldOfRunIn makes d told) → IfErr r (λ e. AreToldOfRunOrNothing makes bytes told)
  told_deck bytes d told (Ok a) s m = tt
  told_deck bytes d told (Err x) s m = elim m [ inl none ↦ inl none | inr all ↦ inr (record { deck = d; spelled = s; run = all }) ]

-- ---- load

pub load_of : {E : Type 0} (tasks : ℕ) (end : End) (r : Result AnswerView E) → Legal (load_deck tasks) (seq (load_deck tasks))
    → end_of (load_deck tasks) (seq (load_deck tasks)) ≡ Some end
    → IfOk r (λ a. a ≡ counted_answer tasks (seq (load_deck tasks)) end) → IfOk r (IsLoadOf tasks)
load_of tasks end (Ok a) l n e = record { legal = l; end = end; ends = n; is = e }
load_of tasks end (Err x) l n e = tt

-- ---- verify

pub names_illegal : {E : Type 0} (d : DeckView) (t : TraceView) (index : ℕ) (wanted : Option Entry) (r : Result AnswerView E) → IsFirstIllegal d t.entries index wanted
    → IfOk r (λ a. a ≡ not_legal d index wanted) → IfOk r (IsJudgement d t)
names_illegal d t index wanted (Ok a) i e = inl (record { index = index; wanted = wanted; illegal = i; is = e })
names_illegal d t index wanted (Err x) i e = tt

pub names_end : {E : Type 0} (d : DeckView) (t : TraceView) (claimed : End) (found : Option End) (r : Result AnswerView E) → IsWrongEnd d t.entries t.end claimed found
    → IfOk r (λ a. a ≡ wrong_end claimed found) → IfOk r (IsJudgement d t)
names_end d t claimed found (Ok a) w e = inr (inl (record { stated = claimed; found = found; wrong = w; is = e }))
names_end d t claimed found (Err x) w e = tt

pub accepts : {E : Type 0} (d : DeckView) (t : TraceView) (r : Result AnswerView E) → IsJudged d t.entries t.end
    → IfOk r (λ a. a ≡ verified_answer (length t.entries) t.end) → IfOk r (IsJudgement d t)
accepts d t (Ok a) j e = inr (inr (record { judged = j; is = e }))
accepts d t (Err x) j e = tt

pub names_line : {E : Type 0} (d : DeckView) (bytes : List ℕ) (line : ℕ) (r : Result AnswerView E) → IsFirstBadLine d bytes line
    → IfOk r (λ a. a ≡ bad_line line) → IfOk r (IsOfTrace d bytes)
names_line d bytes line (Ok a) b e = inl (record { line = line; bad = b; is = e })
names_line d bytes line (Err x) b e = tt

pub judges_trace : {E : Type 0} (d : DeckView) (bytes : List ℕ) (t : TraceView) (r : Result AnswerView E) → IsTraceOf d bytes t
    → IfOk r (IsJudgement d t) → IfOk r (IsOfTrace d bytes)
judges_trace d bytes t (Ok a) s j = inr (record { trace = t; spelled = s; judgement = j })
judges_trace d bytes t (Err x) s j = tt

pub verified_fault : {E : Type 0} (bytes front : List ℕ) (card : ℕ) (why : Why) (r : Result AnswerView E) → length bytes ≤ 16777216 → front ≡ deck_part bytes
    → IsFirstFault front card why → IfOk r (λ a. a ≡ refusal card why) → IfOk r (IsVerifyAnswer bytes)
verified_fault bytes front card why (Ok a) few is f e =
    let there : IsFirstFault (faulted_part bytes) card why =
    subst (λ (part : List ℕ). IsFirstFault part card why) (is_deck_part bytes few) (subst (λ (part : List ℕ). IsFirstFault part card why) is f) in
    inl (record { card = card; why = why; fault = there; is = e })
verified_fault bytes front card why (Err x) few is f e = tt

pub verified_deck : {E : Type 0} (bytes front rest : List ℕ) (d : DeckView) (r : Result AnswerView E) → length bytes ≤ 16777216 → front ≡ deck_part bytes
    → rest ≡ trace_part bytes → DeckText front d → IfOk r (IsOfTrace d rest) → IfOk r (IsVerifyAnswer bytes)
verified_deck bytes front rest d (Ok a) few is behind s o =
    let spelled : DeckText (faulted_part bytes) d =
    subst (λ (part : List ℕ). DeckText part d) (is_deck_part bytes few) (subst (λ (part : List ℕ). DeckText part d) is s) in
    inr (record { deck = d; spelled = spelled; trace = subst (λ (part : List ℕ). IsOfTrace d part a) behind o })
verified_deck bytes front rest d (Err x) few is behind s o = tt
