-- Which status is due: by the words, and by what the source had left (this profile). Each is an implication: it says
-- which status comes where something is so of the bytes.
use Rattle.std.specs.Prelude.{List, None, Option, Some, ℕ, ◌≡◌}
use Rattle.rtm_io.specs.Faults.{HasRisen}
use Rattle.rtm_deck_items.specs.Faults.{IsFirstFault}
use Rattle.rtm_deck_items.specs.Spelling.{DeckText}
use Rattle.rtm_deck_items.specs.View.{DeckView}
use Rattle.rtm_deck_items.specs.declared.why.Why.{Why}
use Rattle.rtm_trace_judge.specs.Judged.{IsFirstIllegal, IsJudged, IsWrongEnd}
use Rattle.rtm_deck_load.specs.Deck.{load_deck}
use Rattle.rtm_model.specs.declared.entry.End.{End}
use Rattle.rtm_model.specs.declared.entry.Entry.{Entry}
use Rattle.rtm_model.specs.Legal.{Legal, end_of}
use Rattle.rtm_model.specs.Turns.{seq}
use Rattle.rtm_cards.specs.Split.{trace_part}
use Rattle.rtm_trace.specs.Lines.{IsFirstBadLine, IsTraceOf}
use Rattle.rtm_trace.specs.View.{TraceView}
use Rattle.rtm_top_answers.specs.Status.{status_of}
use Rattle.rtm_top_answers.specs.Verify.{faulted_part}
use Rattle.rtm_top_answers.specs.declared.status.Status.{Status}
use Rattle.rtm_top_answers.specs.declared.status.Status.TheVariants as status
use Rattle.rtm_top.specs.declared.request.Request.{Request}
use Rattle.rtm_top.specs.declared.request.Request.TheVariants as requests
use Rattle.rtm_top.specs.Answer.{Call, Says}
use Rattle.rtm_top.specs.Request.{IsRequest, words_of}

-- bytes with a first fault are refused
abbrev pub DeckIfFaulty : List ℕ → Status → Type 0
DeckIfFaulty bytes s = (card : ℕ) → (why : Why) → IsFirstFault bytes card why → s ≡ status.Deck

-- a deck is scanned
abbrev pub FineIfSpelled : List ℕ → Status → Type 0
FineIfSpelled bytes s = (d : DeckView) → DeckText bytes d → s ≡ status.Fine

-- the status is that of the end of the one history that a single thread makes of the deck
abbrev pub IsOfItsEnd : DeckView → Status → Type 0
IsOfItsEnd d s = (end : End) → end_of d (seq d) ≡ Some end → s ≡ status_of end

-- a deck is run on a single thread
abbrev pub OfItsEndIfSpelled : List ℕ → Status → Type 0
OfItsEndIfSpelled bytes s = (d : DeckView) → DeckText bytes d → IsOfItsEnd d s

-- The status is that of the end of a legal history of the deck.
pub record IsOfAnEnd (d : DeckView) (s : Status) : Type 0 where
  pub history : List Entry
  pub legal : Legal d history
  pub end : End
  pub ends : end_of d history ≡ Some end
  pub is : s ≡ status_of end

-- a deck is run in whatever order
abbrev pub OfAnEndIfSpelled : List ℕ → Status → Type 0
OfAnEndIfSpelled bytes s = (d : DeckView) → DeckText bytes d → IsOfAnEnd d s

-- bytes with a bad line are refused
abbrev pub LineIfBad : DeckView → List ℕ → Status → Type 0
LineIfBad d bytes s = (line : ℕ) → IsFirstBadLine d bytes line → s ≡ status.Line

-- a trace is judged: its history isn't legal, or it ends otherwise, or it is accepted
pub record ByItsJudgement (d : DeckView) (t : TraceView) (s : Status) : Type 0 where
  pub not_legal : (index : ℕ) → (wanted : Option Entry) → IsFirstIllegal d t.entries index wanted → s ≡ status.NotLegal
  pub wrong_end : (stated : End) → (found : Option End) → IsWrongEnd d t.entries t.end stated found → s ≡ status.WrongEnd
  pub accepted : IsJudged d t.entries t.end → s ≡ status.Fine

-- the bytes behind a deck are read and judged
abbrev pub ByItsTrace : DeckView → List ℕ → Status → Type 0
ByItsTrace d bytes s = LineIfBad d bytes s × ((t : TraceView) → IsTraceOf d bytes t → ByItsJudgement d t s)

-- a deck with a trace is verified
abbrev pub ByItsTraceIfSpelled : List ℕ → Status → Type 0
ByItsTraceIfSpelled bytes s = (d : DeckView) → DeckText (faulted_part bytes) d → ByItsTrace d (trace_part bytes) s

-- the status that is due where these bytes are all that the source had left; that of a load by its number alone
abbrev pub IsDueOf : Request → List ℕ → Status → Type 0
IsDueOf requests.Scan bytes s = DeckIfFaulty bytes s × FineIfSpelled bytes s
IsDueOf requests.Seq bytes s = DeckIfFaulty bytes s × OfItsEndIfSpelled bytes s
IsDueOf requests.Run bytes s = DeckIfFaulty bytes s × OfAnEndIfSpelled bytes s
IsDueOf requests.Verify bytes s = DeckIfFaulty (faulted_part bytes) s × ByItsTraceIfSpelled bytes s
IsDueOf (requests.Load tasks) bytes s = IsOfItsEnd (load_deck tasks) s

-- the same of what the source told; of a source that tells nothing it says something of a load alone
abbrev pub IsDueStatus : Request → Option (List ℕ) → Status → Type 0
IsDueStatus (requests.Load tasks) left s = IsOfItsEnd (load_deck tasks) s
IsDueStatus request None s = Unit {0}
IsDueStatus request (Some bytes) s = IsDueOf request bytes s

-- Where no count of faults rose and memory isn't refused, the status is the one that is due.
abbrev pub IsComplete : Request → Call → Status → Type 0
IsComplete request call s =
    (HasRisen call.source_before call.source_now → ⊥)
    → (HasRisen call.sink_before call.sink_now → ⊥)
    → (s ≡ status.Memory → ⊥)
    → IsDueStatus request call.left s

-- what a call says whose words are those of a request, and that it is the one that is due
abbrev pub AnswersWords : List (List ℕ) → Call → Status → Type 0
AnswersWords words call s =
    (request : Request) → IsRequest request → words ≡ words_of request → Says request call s × IsComplete request call s
