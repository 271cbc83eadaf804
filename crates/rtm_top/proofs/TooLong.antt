-- What is to be written of an input that is too long.
use Rattle.std.proofs.Common.{◌≡◌, ℕ, zero, suc, ◌+◌, ◌-◌, ◌<◌, ◌≤◌, List, [], ◌∷◌, length, take, Option, Some, None, Result, Ok, Err, refl, sym, subst, ◌∙◌, cond, arith, inl}
use Rattle.std.specs.Prelude.{IfSome, IfOk, count_by, ◌==◌}
use Rattle.std.proofs.lemmas.List.Sums.{sum_by-cons}
use Rattle.rtm_io.specs.Input.{IsInFault, IsTooLong, line_at}
use Rattle.rtm_io.specs.declared.input.InFault.{InFault}
use Rattle.rtm_io.specs.declared.input.InFault.TheVariants.{Memory, TooLong}
use Rattle.rtm_cards.specs.Limits.{most_bytes}
use Rattle.rtm_cards.specs.Lines.{number_at}
use Rattle.rtm_deck_items.specs.declared.why.Why.TheVariants as whys
use Rattle.rtm_deck_items.specs.Faults.{IsFirstFault}
use Rattle.rtm_desk.specs.Told.{Row, told_by}
use Rattle.rtm_top.specs.declared.request.Request.{Request}
use Rattle.rtm_top.specs.declared.request.Request.TheVariants as requests
use Rattle.rtm_top.specs.Answer.{IsAnswer, IsDue}
use Rattle.rtm_top.specs.Request.{Reads}
use Rattle.rtm_top_answers.specs.Refusal.{refusal}
use Rattle.rtm_top_answers.specs.View.{AnswerView}
use Rattle.rtm_top_answers.proofs.Faulted.{is_whole}

-- the card of a byte is one more than the line feeds before it
number_is : (bytes : List ℕ) (i : ℕ) → number_at bytes i ≡ line_at bytes i
unfolding number_at
number_is bytes i = omega arith

-- so many line feeds, and so many other bytes and one more
sample : ℕ → ℕ → List ℕ
sample zero zero = 65 ∷ []
sample zero (suc others) = 65 ∷ sample zero others
sample (suc feeds) others = 10 ∷ sample feeds others

sample-length : (feeds others : ℕ) → length (sample feeds others) ≡ feeds + others + 1
unfolding sample
sample-length zero zero = refl
sample-length zero (suc others) = omega (arith, sample-length zero others)
sample-length (suc feeds) others = omega (arith, sample-length feeds others)

-- the first of its bytes, but for the last, hold all the line feeds
abbrev feed : ℕ → ℕ
feed byte = cond (byte == 10) 1 0

sample-feeds : (feeds others n : ℕ) → n ≡ feeds + others → count_by (λ byte. byte == 10) (take n (sample feeds others)) ≡ feeds
unfolding sample
sample-feeds zero zero zero e = refl
sample-feeds zero zero (suc n) e = absurd (omega (arith, e))
sample-feeds zero (suc others) zero e = absurd (omega (arith, e))
sample-feeds zero (suc others) (suc n) e =
    sum_by-cons feed 65 (take n (sample zero others)) ∙ omega (arith, sample-feeds zero others n (omega (arith, e)))
sample-feeds (suc feeds) others zero e = absurd (omega (arith, e))
sample-feeds (suc feeds) others (suc n) e =
    sum_by-cons feed 10 (take n (sample feeds others)) ∙ omega (arith, sample-feeds feeds others n (omega (arith, e)))

-- There are bytes whose first too many, past the limit, is on that line.
sampled : (limit line : ℕ) → 1 ≤ line → line ≤ limit + 1 → (bytes : List ℕ) × (limit < length bytes) × (line ≡ line_at bytes limit)
sampled limit line some few =
    let others = limit - (line - 1) in
    let many = sample-length (line - 1) others in
    let feeds = sample-feeds (line - 1) others limit (omega (arith, some, few)) in
    (sample (line - 1) others, omega (arith, many, some, few), omega (arith, feeds, some))

-- too many bytes, of which the first too many is on that line, have that first fault
too_long : (bytes : List ℕ) (line : ℕ) → most_bytes < length bytes → line ≡ line_at bytes most_bytes → IsFirstFault bytes line whys.TooLong
too_long bytes line long e = record {
  by_size = λ _. (e ∙ sym (number_is bytes most_bytes), refl);
  by_card = λ few. absurd (omega (arith, long, few));
}

-- some bytes that the source may have had left, with that first fault
some_bytes : (left new : Option (List ℕ)) (line : ℕ) → IsTooLong most_bytes left new line
    → (bytes : List ℕ) × IfSome left (λ told. bytes ≡ told) × (most_bytes < length bytes) × IsFirstFault bytes line whys.TooLong
some_bytes None new line h =
    let some = sampled most_bytes line h.in_range.0 h.in_range.1 in
    (some.0, tt, some.1, too_long some.0 line some.1 some.2)
some_bytes (Some told) new line h = (told, refl, h.longer, too_long told line h.longer h.in_line)

-- the refusal of an input with that first fault is what is to be written
is_refusal : (request : Request) (bytes : List ℕ) (a : AnswerView) (told : List Row) (card : ℕ) → Reads request → most_bytes < length bytes → IsFirstFault bytes card whys.TooLong
    → told ≡ told_by [] → a ≡ refusal card whys.TooLong → IsAnswer request bytes a told
is_refusal requests.Scan bytes a told card reads long f m e = (inl (record { card = card; why = whys.TooLong; fault = f; is = e }), m)
is_refusal requests.Seq bytes a told card reads long f m e = inl (record { card = card; why = whys.TooLong; fault = f; is = e }, m)
is_refusal requests.Run bytes a told card reads long f m e = inl (record { card = card; why = whys.TooLong; fault = f; is = e }, m)
is_refusal requests.Verify bytes a told card reads long f m e =
    (inl (record { card = card; why = whys.TooLong; fault = subst (λ (part : List ℕ). IsFirstFault part card whys.TooLong) (is_whole bytes long) f; is = e }), m)
is_refusal (requests.Load tasks) bytes a told card reads long f m e = absurd reads

-- of more bytes than are read
pub of_too_long : {E : Type 0} (request : Request) (left new : Option (List ℕ)) (told : List Row) (line : ℕ) (r : Result AnswerView E) → Reads request → IsTooLong most_bytes left new line
    → told ≡ told_by [] → IfOk r (λ a. a ≡ refusal line whys.TooLong) → IfOk r (λ a. IsDue request left a told)
of_too_long request left new told line (Ok a) reads h m e =
    let some = some_bytes left new line h in
    (some.0, some.1, is_refusal request some.0 a told line reads some.2 some.3 m e)
of_too_long request left new told line (Err x) reads h m e = tt

-- the same of a fault that is that one
pub of_fault : {E : Type 0} (request : Request) (left new : Option (List ℕ)) (told : List Row) (before now line : ℕ) (fault : InFault) (r : Result AnswerView E) → Reads request
    → fault ≡ TooLong line → IsInFault most_bytes left new before now fault → told ≡ told_by [] → IfOk r (λ a. a ≡ refusal line whys.TooLong)
    → IfOk r (λ a. IsDue request left a told)
of_fault request left new told before now line fault r reads e h m is =
    of_too_long request left new told line r reads (subst (λ (f : InFault). IsInFault most_bytes left new before now f) e h).0 m is

-- want of memory counts no fault
pub counts_none : (left new : Option (List ℕ)) (before now : ℕ) (fault : InFault) → fault ≡ Memory → IsInFault most_bytes left new before now fault → now ≡ before
counts_none left new before now fault e h = subst (λ (f : InFault). IsInFault most_bytes left new before now f) e h
