-- Where no count of faults rose and memory isn't refused, the status is the one that is due.
use Rattle.std.proofs.Common.{◌≡◌, ℕ, ◌<◌, ◌≤◌, List, length, Option, Some, None, refl, sym, ap, subst, ◌∙◌, inl, inr, arith, length-drop}
use Rattle.std.specs.Prelude.{◌^◌, IsTrue}
use Rattle.std.proofs.lemmas.Bool.{cases_lt}
use Rattle.rtm_cards.specs.Lines.{lines_of}
use Rattle.rtm_deck_items.specs.View.{DeckView}
use Rattle.rtm_deck_items.specs.Spelling.{DeckText}
use Rattle.rtm_deck_items.specs.WellFormed.{is_well_formed}
use Rattle.rtm_deck_spelling.proofs.NotBoth.{never_both}
use Rattle.rtm_deck_spelling.proofs.OneDeck.{one_deck}
use Rattle.rtm_trace_judge.proofs.Firsts.{legal_has_none, one_end}
use Rattle.rtm_deck_load.specs.Deck.{load_deck}
use Rattle.rtm_desk.specs.Told.{Row}
use Rattle.rtm_model.specs.declared.entry.End.{End}
use Rattle.rtm_model.specs.declared.entry.Entry.{Entry}
use Rattle.rtm_model.specs.Legal.{end_of}
use Rattle.rtm_model.specs.Turns.{seq}
use Rattle.rtm_cards.specs.Split.{front_in, trace_part}
use Rattle.rtm_trace.specs.View.{TraceView}
use Rattle.rtm_trace.proofs.Replies.{not_both}
use Rattle.rtm_trace.proofs.TraceLaws.{one_trace}
use Rattle.rtm_top.specs.declared.request.Request.{Request}
use Rattle.rtm_top.specs.declared.request.Request.TheVariants as requests
use Rattle.rtm_top.specs.Answer.{Call, IsDue, Says}
use Rattle.rtm_top.specs.Due.{ByItsJudgement, ByItsTrace, DeckIfFaulty, IsComplete, IsDueOf, IsDueStatus, IsOfAnEnd, IsOfItsEnd}
use Rattle.rtm_top_answers.specs.Load.{IsLoadOf}
use Rattle.rtm_crew.specs.Histories.{in_any_order, in_turns}
use Rattle.rtm_top_answers.specs.Run.{IsRunAnswer, IsRunIn}
use Rattle.rtm_top_answers.specs.Scan.{IsScanAnswer}
use Rattle.rtm_top_answers.specs.Status.{status_of}
use Rattle.rtm_top_answers.specs.Verify.{IsJudgement, IsOfTrace, IsVerifyAnswer, faulted_part}
use Rattle.rtm_top_answers.specs.View.{AnswerView}
use Rattle.rtm_top_answers.specs.declared.status.Status.{Status}
use Rattle.rtm_top_answers.proofs.Faulted.{is_whole}

same_some : (a b : End) → Some a ≡ Some b → a ≡ b
same_some a b e = cc

-- a history has one end
ends_as : (d : DeckView) (history : List Entry) (end found : End) (s : Status) → end_of d history ≡ Some found → s ≡ status_of found → end_of d history ≡ Some end → s ≡ status_of end
ends_as d history end found s f g h = g ∙ ap status_of (same_some found end (sym f ∙ h))

-- the end of the history that a single thread makes of the deck
its_end : (d other : DeckView) (found : End) (s : Status) → other ≡ d → end_of other (seq other) ≡ Some found → s ≡ status_of found → IsOfItsEnd d s
its_end d other found s e f g = λ end is.
    ends_as d (seq d) end found s (subst (λ (x : DeckView). end_of x (seq x) ≡ Some found) e f) g is

-- what spells a deck has no first fault
not_faulty : (bytes : List ℕ) (d : DeckView) (s : Status) → DeckText bytes d → DeckIfFaulty bytes s
not_faulty bytes d s spelled = λ card why fault. absurd (never_both bytes d card why spelled fault)

-- ---- scan, seq and run

scanned : (bytes : List ℕ) (a : AnswerView) → IsScanAnswer bytes a → IsDueOf requests.Scan bytes a.status
scanned bytes a h = elim h [
  | inl r ↦ (λ card why fault. ap AnswerView.status r.is, λ d spelled. absurd (never_both bytes d r.card r.why spelled r.fault))
  | inr c ↦ (not_faulty bytes c.deck a.status c.spelled, λ d spelled. ap AnswerView.status c.is)
]

-- what holds of the deck and the status of each such run is due
ran : (makes : DeckView → List Entry → Type 0) (bytes : List ℕ) (a : AnswerView) (told : List Row) (P : DeckView → Type 0)
    → ((d : DeckView) → IsRunIn makes d a told → P d) → IsRunAnswer makes bytes a told → DeckIfFaulty bytes a.status × ((d : DeckView) → DeckText bytes d → P d)
ran makes bytes a told P holds h = elim h [
  | inl r ↦ (λ card why fault. ap AnswerView.status r.0.is, λ d spelled. absurd (never_both bytes d r.0.card r.0.why spelled r.0.fault))
  | inr c ↦ (
    not_faulty bytes c.deck a.status c.spelled,
    λ d spelled. subst P (one_deck bytes c.deck d c.spelled spelled) (holds c.deck c.run),
  )
]

in_turns_due : (bytes : List ℕ) (a : AnswerView) (told : List Row) → IsRunAnswer in_turns bytes a told → IsDueOf requests.Seq bytes a.status
in_turns_due bytes a told h = ran in_turns bytes a told (λ d. IsOfItsEnd d a.status) of_it h
  where
    of_it : (d : DeckView) → IsRunIn in_turns d a told → IsOfItsEnd d a.status
    of_it d r = its_end d d r.run.end a.status refl (subst (λ (history : List Entry). end_of d history ≡ Some r.run.end) r.made r.run.ends) (ap AnswerView.status r.run.is)

in_any_order_due : (bytes : List ℕ) (a : AnswerView) (told : List Row) → IsRunAnswer in_any_order bytes a told → IsDueOf requests.Run bytes a.status
in_any_order_due bytes a told h = ran in_any_order bytes a told (λ d. IsOfAnEnd d a.status) of_it h
  where
    of_it : (d : DeckView) → IsRunIn in_any_order d a told → IsOfAnEnd d a.status
    of_it d r = record { history = r.history; legal = r.run.legal; end = r.run.end; ends = r.run.ends; is = ap AnswerView.status r.run.is }

-- ---- verify

-- of three judgements one is right
tried : (d : DeckView) (t : TraceView) (a : AnswerView) → IsJudgement d t a → ByItsJudgement d t a.status
tried d t a h = elim h [
  | inl j ↦ record {
    not_legal = λ index wanted i. ap AnswerView.status j.is;
    wrong_end = λ claimed found w. absurd (legal_has_none d t.entries j.index j.wanted w.legal j.illegal);
    accepted = λ x. absurd (legal_has_none d t.entries j.index j.wanted x.legal j.illegal);
  }
  | inr h ↦ elim h [
    | inl j ↦ record {
      not_legal = λ index wanted i. absurd (legal_has_none d t.entries index wanted j.wrong.legal i);
      wrong_end = λ claimed found w. ap AnswerView.status j.is;
      accepted = λ x. absurd (one_end d t.entries t.end j.stated j.found x j.wrong);
    }
    | inr j ↦ record {
      not_legal = λ index wanted i. absurd (legal_has_none d t.entries index wanted j.judged.legal i);
      wrong_end = λ claimed found w. absurd (one_end d t.entries t.end claimed found j.judged w);
      accepted = λ x. ap AnswerView.status j.is;
    }
  ]
]

read_on : (d : DeckView) (bytes : List ℕ) (a : AnswerView) → IsTrue (is_well_formed d) → length bytes < 2 ^ 64 → IsOfTrace d bytes a → ByItsTrace d bytes a.status
read_on d bytes a w small h = elim h [
  | inl n ↦ (λ line bad. ap AnswerView.status n.is, λ t is. absurd (not_both d bytes t n.line w small is n.bad))
  | inr j ↦ (
    λ line bad. absurd (not_both d bytes j.trace line w small j.spelled bad),
    λ u other. subst (λ (x : TraceView). ByItsJudgement d x a.status) (one_trace d w bytes j.trace u small j.spelled other) (tried d j.trace a j.judgement),
  )
]

-- an input whose deck is spelled isn't too long
few : (bytes : List ℕ) (d : DeckView) → DeckText (faulted_part bytes) d → length bytes ≤ 16777216
few bytes d h = elim (cases_lt 16777216 (length bytes)) [
  | inl long ↦ (subst (λ (part : List ℕ). DeckText part d) (sym (is_whole bytes long)) h).cut.size
  | inr short ↦ short
]

few_behind : (bytes : List ℕ) (d : DeckView) → DeckText (faulted_part bytes) d → length (trace_part bytes) < 2 ^ 64
few_behind bytes d h = omega (arith, few bytes d h, length-drop (front_in (lines_of bytes)) bytes)

verified : (bytes : List ℕ) (a : AnswerView) → IsVerifyAnswer bytes a → IsDueOf requests.Verify bytes a.status
verified bytes a h = elim h [
  | inl r ↦ (
    λ card why fault. ap AnswerView.status r.is,
    λ d spelled. absurd (never_both (faulted_part bytes) d r.card r.why spelled r.fault),
  )
  | inr v ↦ (
    not_faulty (faulted_part bytes) v.deck a.status v.spelled,
    λ d spelled. subst (λ (x : DeckView). ByItsTrace x (trace_part bytes) a.status) (one_deck (faulted_part bytes) v.deck d v.spelled spelled)
        (read_on v.deck (trace_part bytes) a v.spelled.well_formed (few_behind bytes v.deck v.spelled) v.trace),
  )
]

-- ---- all words

counted : (tasks : ℕ) (a : AnswerView) → IsLoadOf tasks a → IsOfItsEnd (load_deck tasks) a.status
counted tasks a h = its_end (load_deck tasks) (load_deck tasks) h.end a.status refl h.ends (ap AnswerView.status h.is)

due : (request : Request) (left : Option (List ℕ)) (a : AnswerView) (told : List Row) → IsDue request left a told → IsDueStatus request left a.status
due requests.Scan None a told h = tt
due requests.Scan (Some bytes) a told h = subst (λ (b : List ℕ). IsDueOf requests.Scan b a.status) h.1 (scanned h.0 a h.2.0)
due requests.Seq None a told h = tt
due requests.Seq (Some bytes) a told h = subst (λ (b : List ℕ). IsDueOf requests.Seq b a.status) h.1 (in_turns_due h.0 a told h.2)
due requests.Run None a told h = tt
due requests.Run (Some bytes) a told h = subst (λ (b : List ℕ). IsDueOf requests.Run b a.status) h.1 (in_any_order_due h.0 a told h.2)
due requests.Verify None a told h = tt
due requests.Verify (Some bytes) a told h = subst (λ (b : List ℕ). IsDueOf requests.Verify b a.status) h.1 (verified h.0 a h.2.0)
due (requests.Load tasks) left a told h = counted tasks a h.2.0

pub is_complete : (request : Request) (call : Call) (s : Status) → Says request call s → IsComplete request call s
is_complete request call s h = λ source sink memory. elim h [
  | inl a ↦ subst (λ (x : Status). IsDueStatus request call.left x) (sym a.its_status) (due request call.left a.answer call.told a.due)
  | inr h ↦ elim h [
    | inl w ↦ absurd (sink w.sink)
    | inr h ↦ elim h [ inl r ↦ absurd (source r.source) | inr m ↦ absurd (memory m.is_memory) ]
  ]
]
