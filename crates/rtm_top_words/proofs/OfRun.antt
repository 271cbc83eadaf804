-- What follows where the words are those of a run.
use Rattle.std.proofs.Common.{List, sym, ℕ, ◌↔◌, ◌≡◌, ◌∙◌}
use Rattle.rtm_top.specs.declared.request.Request.TheVariants as requests
use Rattle.rtm_top.specs.Answer.{Call, Says}
use Rattle.rtm_top.specs.Due.{AnswersWords}
use Rattle.rtm_top.specs.Request.{AreUnknown, IsRequest, words_of}
use Rattle.rtm_top.proofs.Complete.{is_complete}
use Rattle.rtm_top.proofs.Saying.{says_same}
use Rattle.rtm_top.proofs.Words.{words_same}
use Rattle.rtm_top_answers.specs.declared.status.Status.{Status}
use Rattle.rtm_top_answers.specs.declared.status.Status.TheVariants as status

-- they are those of no other request
pub run_answers : (words : List (List ℕ)) (call : Call) (s : Status) → words ≡ words_of requests.Run → Says requests.Run call s → AnswersWords words call s
run_answers words call s is says = λ request is_request others.
    let same = says_same requests.Run request call s (words_same requests.Run request tt is_request (sym is ∙ others)) says in
    (same, is_complete request call s same)

-- they are known
pub run_is_known : (words : List (List ℕ)) → words ≡ words_of requests.Run → AreUnknown words → ⊥
run_is_known words is unknown = unknown requests.Run tt is

-- they are those of no load
pub run_is_no_load : {P : Type 0} (words : List (List ℕ)) (tasks : ℕ) → words ≡ words_of requests.Run → IsRequest (requests.Load tasks) → words ≡ words_of (requests.Load tasks) → P
run_is_no_load words tasks is is_load others = absurd (differ (words_same requests.Run (requests.Load tasks) tt is_load (sym is ∙ others)))
  where
    differ : requests.Run ≡ requests.Load tasks → ⊥
    differ e = absurd cc

-- whatever its status is, but for Words
pub run_is_not_unknown : (words : List (List ℕ)) (s : Status) → words ≡ words_of requests.Run → (s ≡ status.Words → ⊥) → (s ≡ status.Words) ↔ AreUnknown words
run_is_not_unknown words s is known = (λ e. absurd (known e), λ unknown. absurd (run_is_known words is unknown))
