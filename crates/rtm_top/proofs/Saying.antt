-- What the parts of a call come to: a status for what was read, made and written.
use Rattle.std.proofs.Common.{◌≡◌, ℕ, Bool, true, false, List, [], Option, Some, None, Result, Ok, Err, refl, sym, ap, subst, ◌∙◌, inl, inr, arith}
use Rattle.std.specs.Prelude.{IfErr, IfOk, IfSome, IsErr}
use Rattle.rtm_io.specs.Faults.{HasRisen}
use Rattle.rtm_io.specs.Stream.{TakesAtMost}
use Rattle.rtm_deck_items.specs.View.{DeckView}
use Rattle.rtm_desk.specs.Told.{Row, told_by}
use Rattle.rtm_model.specs.declared.entry.End.{End}
use Rattle.rtm_model.specs.declared.entry.End.TheVariants.{Ended, Limit, Stalled}
use Rattle.rtm_model.specs.declared.entry.Entry.{Entry}
use Rattle.rtm_top.specs.declared.request.Request.{Request}
use Rattle.rtm_top.specs.declared.request.Request.TheVariants as requests
use Rattle.rtm_top.specs.Answer.{AreToldUnanswered, AreToldWithoutMemory, Call, IsAnswer, IsDue, IsSent, IsUnmade, Says}
use Rattle.rtm_top_answers.specs.Load.{IsLoadOf}
use Rattle.rtm_crew.specs.Histories.{in_any_order}
use Rattle.rtm_top_answers.specs.Run.{AreToldOfRunOrNothing, IsRunAnswer}
use Rattle.rtm_top_answers.specs.Status.{status_of}
use Rattle.rtm_top_answers.specs.Verify.{IsOfTrace}
use Rattle.rtm_top_answers.specs.View.{AnswerView}
use Rattle.rtm_top_answers.specs.declared.status.Status.{Status}
use Rattle.rtm_top_answers.specs.declared.status.Status.TheVariants as status

-- ---- the statuses that an answer never has

is_of_an_answer : Status → Bool
is_of_an_answer status.Memory = false
is_of_an_answer status.Read = false
is_of_an_answer status.Write = false
is_of_an_answer status.Words = false
is_of_an_answer _ = true

end_is : (end : End) → is_of_an_answer (status_of end) ≡ true
unfolding is_of_an_answer
end_is Ended = refl
end_is Stalled = refl
end_is Limit = refl

-- by the equation that an answer's record has
by : (a b : AnswerView) → a ≡ b → is_of_an_answer b.status ≡ true → is_of_an_answer a.status ≡ true
by a b e h = ap (λ (x : AnswerView). is_of_an_answer x.status) e ∙ h

of_trace : (d : DeckView) (bytes : List ℕ) (a : AnswerView) → IsOfTrace d bytes a → is_of_an_answer a.status ≡ true
unfolding is_of_an_answer
of_trace d bytes a h = elim h [
  | inl n ↦ by a _ n.is refl
  | inr j ↦ elim j.judgement [ inl i ↦ by a _ i.is refl | inr h ↦ elim h [ inl w ↦ by a _ w.is refl | inr v ↦ by a _ v.is refl ] ]
]

answer_is : (request : Request) (bytes : List ℕ) (a : AnswerView) (told : List Row) → IsAnswer request bytes a told → is_of_an_answer a.status ≡ true
unfolding is_of_an_answer
answer_is requests.Scan bytes a told h = elim h.0 [ inl r ↦ by a _ r.is refl | inr c ↦ by a _ c.is refl ]
answer_is requests.Seq bytes a told h = elim h [ inl r ↦ by a _ r.0.is refl | inr c ↦ by a _ c.run.run.is (end_is c.run.run.end) ]
answer_is requests.Run bytes a told h = elim h [ inl r ↦ by a _ r.0.is refl | inr c ↦ by a _ c.run.run.is (end_is c.run.run.end) ]
answer_is requests.Verify bytes a told h = elim h.0 [ inl r ↦ by a _ r.is refl | inr v ↦ of_trace v.deck _ a v.trace ]
answer_is (requests.Load tasks) bytes a told h = by a _ h.0.is (end_is h.0.end)

-- a status that no answer has isn't that of the answer
never : (request : Request) (left : Option (List ℕ)) (a : AnswerView) (told : List Row) (s : Status) → IsDue request left a told → is_of_an_answer s ≡ false → a.status ≡ s → ⊥
never request left a told s due other e = true_false (sym (answer_is request due.0 a told due.2) ∙ ap is_of_an_answer e ∙ other)
  where
    true_false : true ≡ false → ⊥
    true_false x = absurd cc

-- a written answer's status is none of those, but for Write
sent_is_no : (request : Request) (left : Option (List ℕ)) (a : AnswerView) (told : List Row) (before now : ℕ) (old new : Option (List ℕ)) (s other : Status) → IsDue request left a told → IsSent a before now old new s
    → is_of_an_answer other ≡ false → (status.Write ≡ other → ⊥) → s ≡ other → ⊥
sent_is_no request left a told before now old new s other due sent unlike differs e = elim sent [
  | inl h ↦ never request left a told other due unlike (sym h.0 ∙ e)
  | inr h ↦ differs (sym h.0 ∙ e)
]

pub sent_is_not_read : (request : Request) (left : Option (List ℕ)) (a : AnswerView) (told : List Row) (before now : ℕ) (old new : Option (List ℕ)) (s : Status) → IsDue request left a told → IsSent a before now old new s
    → s ≡ status.Read → ⊥
unfolding is_of_an_answer
sent_is_not_read request left a told before now old new s due sent = sent_is_no request left a told before now old new s status.Read due sent refl (λ e. absurd cc)

pub sent_is_not_memory : (request : Request) (left : Option (List ℕ)) (a : AnswerView) (told : List Row) (before now : ℕ) (old new : Option (List ℕ)) (s : Status) → IsDue request left a told → IsSent a before now old new s
    → s ≡ status.Memory → ⊥
unfolding is_of_an_answer
sent_is_not_memory request left a told before now old new s due sent = sent_is_no request left a told before now old new s status.Memory due sent refl (λ e. absurd cc)

pub sent_is_not_words : (request : Request) (left : Option (List ℕ)) (a : AnswerView) (told : List Row) (before now : ℕ) (old new : Option (List ℕ)) (s : Status) → IsDue request left a told → IsSent a before now old new s
    → s ≡ status.Words → ⊥
unfolding is_of_an_answer
sent_is_not_words request left a told before now old new s due sent = sent_is_no request left a told before now old new s status.Words due sent refl (λ e. absurd cc)

-- ---- what a call says

pub says_sent : (request : Request) (call : Call) (a : AnswerView) (s : Status) → IsDue request call.left a call.told → call.source_now ≡ call.source_before
    → IsSent a call.sink_before call.sink_now call.written_before call.written_now s → Says request call s
says_sent request call a s due source sent = elim sent [
  | inl h ↦ inl (record { answer = a; due = due; its_status = h.0; written = h.1; source = source; sink = h.2 })
  | inr h ↦ inr (inl (record { is_write = h.0; answer = a; due = due; written = h.1; source = source; sink = h.2 }))
]

pub says_unmade : (request : Request) (call : Call) (s : Status) → IsUnmade request call.left call.told call.source_before call.source_now s → call.written_now ≡ call.written_before
    → call.sink_now ≡ call.sink_before → Says request call s
says_unmade request call s unmade written sink = elim unmade [
  | inl h ↦ inr (inr (inl (record { is_read = h.0; written = written; source = h.1; sink = sink; managers = h.2 })))
  | inr h ↦ inr (inr (inr (record { is_memory = h.0; managers = h.2; written = written; source = h.1; sink = sink })))
]

pub unmade_is_not_words : (request : Request) (left : Option (List ℕ)) (told : List Row) (before now : ℕ) (s : Status) → IsUnmade request left told before now s → s ≡ status.Words → ⊥
unmade_is_not_words request left told before now s unmade e = elim unmade [ inl h ↦ clash_read (sym h.0 ∙ e) | inr h ↦ clash_memory (sym h.0 ∙ e) ]
  where
    clash_read : status.Read ≡ status.Words → ⊥
    clash_read x = absurd cc

    clash_memory : status.Memory ≡ status.Words → ⊥
    clash_memory x = absurd cc

pub says_same : (a b : Request) (call : Call) (s : Status) → a ≡ b → Says a call s → Says b call s
says_same a b call s e h = subst (λ (r : Request). Says r call s) e h

-- ---- what is made without reading

pub due_load : {E : Type 0} (request : Request) (tasks : ℕ) (left : Option (List ℕ)) (told : List Row) (r : Result AnswerView E) → request ≡ requests.Load tasks → told ≡ told_by []
    → IfOk r (IsLoadOf tasks) → IfOk r (λ a. IsDue request left a told)
due_load request tasks None told (Ok a) e m h = ([], tt, subst (λ (q : Request). IsAnswer q [] a told) (sym e) (h, m))
due_load request tasks (Some bytes) told (Ok a) e m h = (bytes, refl, subst (λ (q : Request). IsAnswer q bytes a told) (sym e) (h, m))
due_load request tasks left told (Err x) e m h = tt

-- a source that wasn't called has given nothing
pub takes_none : (most : ℕ) (left : Option (List ℕ)) → TakesAtMost most left left
takes_none most None = (0, omega arith, refl)
takes_none most (Some bytes) = (0, omega arith, refl)

-- ---- what is made of the bytes that were read

pub due_read : {E : Type 0} (request : Request) (bytes : List ℕ) (left : Option (List ℕ)) (told : List Row) (r : Result AnswerView E) → IfSome left (λ read. bytes ≡ read)
    → IfOk r (λ a. IsAnswer request bytes a told) → IfOk r (λ a. IsDue request left a told)
due_read request bytes left told (Ok a) all h = (bytes, all, h)
due_read request bytes left told (Err x) all h = tt

-- ---- what the managers were told where nothing is written

-- an answer that comes while the managers were told nothing
pub untold_yet : {A E : Type 0} (P : A → Type 0) (told : List Row) (r : Result A E) → told ≡ told_by [] → IfOk r P → IfOk r (λ a. P a × (told ≡ told_by []))
untold_yet P told (Ok a) m h = (h, m)
untold_yet P told (Err x) m h = tt

untold : (request : Request) (bytes : List ℕ) (told : List Row) → told ≡ told_by [] → AreToldUnanswered request bytes told
untold requests.Scan bytes told m = m
untold requests.Seq bytes told m = inl m
untold requests.Run bytes told m = inl m
untold requests.Verify bytes told m = m
untold (requests.Load tasks) bytes told m = m

pub unanswered : {A E : Type 0} (request : Request) (bytes : List ℕ) (told : List Row) (r : Result A E) → told ≡ told_by [] → IfErr r (λ s. AreToldUnanswered request bytes told)
unanswered request bytes told (Ok a) m = tt
unanswered request bytes told (Err s) m = untold request bytes told m

-- of a run: the status is an error exactly where its answer is one
pub unanswered_run : {A B E F : Type 0} (makes : DeckView → List Entry → Type 0) (bytes : List ℕ) (told : List Row) (answer : Result A E) (r : Result B F) → IfErr r (λ s. IsErr answer)
    → IfErr answer (λ e. AreToldOfRunOrNothing makes bytes told) → IfErr r (λ s. AreToldOfRunOrNothing makes bytes told)
unanswered_run makes bytes told answer (Ok b) is m = tt
unanswered_run makes bytes told (Ok a) (Err s) is m = absurd (false_true is)
  where
    false_true : false ≡ true → ⊥
    false_true x = absurd cc
unanswered_run makes bytes told (Err e) (Err s) is m = m

-- a run whose histories are some of the legal ones is one whose history is legal
pub in_whatever_order : {E : Type 0} (makes : DeckView → List Entry → Type 0) (bytes : List ℕ) (told : List Row) (r : Result AnswerView E)
    → IfOk r (λ a. IsRunAnswer makes bytes a told) → IfOk r (λ a. IsRunAnswer in_any_order bytes a told)
in_whatever_order makes bytes told (Ok a) h = elim h [
  | inl r ↦ inl r
  | inr c ↦ inr (record { deck = c.deck; spelled = c.spelled; run = record { history = c.run.history; made = tt; run = c.run.run } })
]
in_whatever_order makes bytes told (Err x) h = tt

pub told_in_whatever_order : {A E : Type 0} (makes : DeckView → List Entry → Type 0) (bytes : List ℕ) (told : List Row) (r : Result A E)
    → IfErr r (λ e. AreToldOfRunOrNothing makes bytes told) → IfErr r (λ e. AreToldOfRunOrNothing in_any_order bytes told)
told_in_whatever_order makes bytes told (Ok a) m = tt
told_in_whatever_order makes bytes told (Err x) m = elim m [
  | inl none ↦ inl none
  | inr all ↦ inr (record {
    deck = all.deck;
    spelled = all.spelled;
    run = record { history = all.run.history; made = tt; legal = all.run.legal; end = all.run.end; ends = all.run.ends; managers = all.run.managers };
  })
]

nothing_told : (request : Request) (left : Option (List ℕ)) (told : List Row) → told ≡ told_by [] → AreToldWithoutMemory request left told
nothing_told request None told m = ([], tt, untold request [] told m)
nothing_told request (Some bytes) told m = (bytes, refl, untold request bytes told m)

pub unmade_read : {A : Type 0} (request : Request) (bytes : List ℕ) (left : Option (List ℕ)) (told : List Row) (before now : ℕ) (r : Result A Status) → IfSome left (λ read. bytes ≡ read)
    → IfErr r (λ s. s ≡ status.Memory) → IfErr r (λ s. AreToldUnanswered request bytes told) → now ≡ before → IfErr r (IsUnmade request left told before now)
unmade_read request bytes left told before now (Ok a) all is m e = tt
unmade_read request bytes left told before now (Err s) all is m e = inr (is, e, (bytes, all, m))

pub unmade_for_memory : {A : Type 0} (request : Request) (left : Option (List ℕ)) (told : List Row) (before now : ℕ) (r : Result A Status) → told ≡ told_by []
    → IfErr r (λ s. s ≡ status.Memory) → now ≡ before → IfErr r (IsUnmade request left told before now)
unmade_for_memory request left told before now (Ok a) m is e = tt
unmade_for_memory request left told before now (Err s) m is e = inr (is, e, nothing_told request left told m)

pub unmade_by_memory : (request : Request) (left : Option (List ℕ)) (told : List Row) (before now : ℕ) → told ≡ told_by [] → now ≡ before → IsUnmade request left told before now status.Memory
unmade_by_memory request left told before now m e = inr (refl, e, nothing_told request left told m)

pub unmade_by_read : (request : Request) (left : Option (List ℕ)) (told : List Row) (before now : ℕ) → told ≡ told_by [] → HasRisen before now → IsUnmade request left told before now status.Read
unmade_by_read request left told before now m h = inl (refl, h, m)
