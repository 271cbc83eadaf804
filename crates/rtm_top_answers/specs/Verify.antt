-- What is written of a trace that is verified (this profile).
use Rattle.std.specs.Prelude.{List, None, Option, Some, codes, decimal, if◌then◌else◌, length, nat_lt, ℕ, ◌++◌, ◌≡◌, ◌⊎◌}
use Rattle.rtm_cards.specs.Limits.{most_bytes}
use Rattle.rtm_deck_items.specs.Spelling.{DeckText}
use Rattle.rtm_deck_items.specs.View.{DeckView}
use Rattle.rtm_trace_judge.specs.Judged.{IsFirstIllegal, IsJudged, IsWrongEnd}
use Rattle.rtm_model.specs.declared.entry.End.{End}
use Rattle.rtm_model.specs.declared.entry.Entry.{Entry}
use Rattle.rtm_cards.specs.Split.{deck_part, trace_part}
use Rattle.rtm_trace.specs.Lines.{IsFirstBadLine, IsTraceOf}
use Rattle.rtm_trace.specs.Text.{end_text, entry_text}
use Rattle.rtm_trace.specs.View.{TraceView}
use Rattle.rtm_top_answers.specs.Refusal.{IsRefusalOf}
use Rattle.rtm_top_answers.specs.declared.status.Status.TheVariants as status
use Rattle.rtm_top_answers.specs.View.{AnswerView}

-- the part of the input whose first fault is named: all of it where it is too long as a whole, else the deck
abbrev pub faulted_part : List ℕ → List ℕ
faulted_part bytes = if nat_lt most_bytes (length bytes) then bytes else deck_part bytes

-- the entry that was wanted, or that none was
abbrev pub wanted_text : DeckView → Option Entry → List ℕ
wanted_text d None = codes "NONE"
wanted_text d (Some e) = entry_text d e

-- how a history ends, or that it has no end yet
abbrev pub found_text : Option End → List ℕ
found_text None = codes "NONE"
found_text (Some end) = end_text end

-- the answer that names a bad line
abbrev pub bad_line_text : ℕ → List ℕ
bad_line_text line = codes "LINE " ++ decimal line ++ codes "\n"

abbrev pub bad_line : ℕ → AnswerView
bad_line line = record { text = bad_line_text line; status = status.Line }

-- the answer that names an illegal entry, and the one that was wanted in its place
abbrev pub not_legal_text : DeckView → ℕ → Option Entry → List ℕ
not_legal_text d index wanted =
    codes "NOTLEGAL " ++ decimal index ++ codes " WANTED " ++ wanted_text d wanted ++ codes "\n"

abbrev pub not_legal : DeckView → ℕ → Option Entry → AnswerView
not_legal d index wanted = record { text = not_legal_text d index wanted; status = status.NotLegal }

-- the answer that names the end that was stated, and the one that was found
abbrev pub wrong_end_text : End → Option End → List ℕ
wrong_end_text stated found = codes "WRONGEND " ++ end_text stated ++ codes " " ++ found_text found ++ codes "\n"

abbrev pub wrong_end : End → Option End → AnswerView
wrong_end stated found = record { text = wrong_end_text stated found; status = status.WrongEnd }

-- the answer that accepts so many entries with that end
abbrev pub verified_text : ℕ → End → List ℕ
verified_text entries end = codes "VERIFIED " ++ decimal entries ++ codes " " ++ end_text end ++ codes "\n"

abbrev pub verified_answer : ℕ → End → AnswerView
verified_answer entries end = record { text = verified_text entries end; status = status.Fine }

-- The answer names the first bad line of the bytes.
pub record NamesLine (d : DeckView) (bytes : List ℕ) (answer : AnswerView) : Type 0 where
  pub line : ℕ
  pub bad : IsFirstBadLine d bytes line
  pub is : answer ≡ bad_line line

-- The answer names the first illegal entry, and the one that was wanted.
pub record NamesIllegal (d : DeckView) (entries : List Entry) (answer : AnswerView) : Type 0 where
  pub index : ℕ
  pub wanted : Option Entry
  pub illegal : IsFirstIllegal d entries index wanted
  pub is : answer ≡ not_legal d index wanted

-- The answer names the end that was stated, and that of the legal history.
pub record NamesEnd (d : DeckView) (entries : List Entry) (end : End) (answer : AnswerView) : Type 0 where
  pub stated : End
  pub found : Option End
  pub wrong : IsWrongEnd d entries end stated found
  pub is : answer ≡ wrong_end stated found

-- The entries are a legal history that ends so, and the answer says that.
pub record Accepts (d : DeckView) (entries : List Entry) (end : End) (answer : AnswerView) : Type 0 where
  pub judged : IsJudged d entries end
  pub is : answer ≡ verified_answer (length entries) end

-- what is written of a trace that was read, by its judgement
abbrev pub IsJudgement : DeckView → TraceView → AnswerView → Type 0
IsJudgement d trace answer =
    NamesIllegal d trace.entries answer
    ⊎ (NamesEnd d trace.entries trace.end answer ⊎ Accepts d trace.entries trace.end answer)

-- The bytes are the text of a trace, and the answer is its judgement.
pub record JudgesTrace (d : DeckView) (bytes : List ℕ) (answer : AnswerView) : Type 0 where
  pub trace : TraceView
  pub spelled : IsTraceOf d bytes trace
  pub judgement : IsJudgement d trace answer

-- what is written of the bytes behind a deck
abbrev pub IsOfTrace : DeckView → List ℕ → AnswerView → Type 0
IsOfTrace d bytes answer = NamesLine d bytes answer ⊎ JudgesTrace d bytes answer

-- What is written of an input whose deck is spelled; none is in an input that is too long.
pub record IsVerified (bytes : List ℕ) (answer : AnswerView) : Type 0 where
  pub deck : DeckView
  pub spelled : DeckText (faulted_part bytes) deck
  pub trace : IsOfTrace deck (trace_part bytes) answer

-- what is to be written of the bytes that were read, under `verify`
abbrev pub IsVerifyAnswer : List ℕ → AnswerView → Type 0
IsVerifyAnswer bytes answer = IsRefusalOf (faulted_part bytes) answer ⊎ IsVerified bytes answer
