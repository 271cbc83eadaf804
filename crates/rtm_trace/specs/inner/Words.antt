-- Words of a line, and what they are read as: loosely, since the reader writes what it has read again and compares.
-- Nobody has to believe them.
use Rattle.std.specs.Prelude.{ℕ, Bool, not, ◌==◌, nat_lt, if◌then◌else◌, List, [], ◌∷◌, ◌++◌, Option, Some, None, option_and_then, position, find, bytes_eq, codes, length, map}
use Rattle.std.specs.List.{list_any}
use Rattle.rtm_deck_items.specs.View.{DeckView}
use Rattle.rtm_deck_operands.specs.declared.value.Res.{Res}
use Rattle.rtm_deck_operands.specs.declared.value.Res.TheVariants as res
use Rattle.rtm_deck_operands.specs.Name.{name_in}
use Rattle.rtm_model.specs.declared.entry.Class.{Class}
use Rattle.rtm_model.specs.declared.entry.Class.TheVariants as class
use Rattle.rtm_model.specs.declared.entry.End.{End}
use Rattle.rtm_model.specs.declared.entry.End.TheVariants as end
use Rattle.rtm_model.specs.declared.entry.Fate.{Fate}
use Rattle.rtm_model.specs.declared.entry.Fate.TheVariants as fate
use Rattle.rtm_model.specs.declared.entry.Verdict.{Verdict}
use Rattle.rtm_model.specs.declared.entry.Verdict.TheVariants as verdict
use Rattle.rtm_model.specs.declared.reg.Kind.{Kind}
use Rattle.rtm_model.specs.declared.reg.Kind.TheVariants as kind
use Rattle.rtm_text.specs.Digits.{below, number_after}
use Rattle.rtm_trace.specs.Text.{kind_text, class_text, res_text, fate_text, end_line}
use Rattle.rtm_trace.specs.declared.form.Form.{Form}
use Rattle.rtm_trace.specs.declared.form.Form.TheVariants as form

-- what stands before the first byte that fails the test
abbrev pub front : (ℕ → Bool) → List ℕ → List ℕ
front test [] = []
front test (b ∷ bs) = if test b then b ∷ front test bs else []

-- what stands behind that byte
abbrev pub back : (ℕ → Bool) → List ℕ → List ℕ
back test [] = []
back test (b ∷ bs) = if test b then back test bs else bs

-- a byte of a word: behind the blank, and so no line feed
abbrev pub is_inner : ℕ → Bool
is_inner b = nat_lt 32 b

-- the first word of a line, and what stands behind it and the byte that ends it
abbrev pub word_of : List ℕ → List ℕ
word_of line = front is_inner line

abbrev pub rest_of : List ℕ → List ℕ
rest_of line = back is_inner line

-- the parts of a word before and behind the first byte of that kind
abbrev pub before : ℕ → List ℕ → List ℕ
before stop word = front (λ b. not (b == stop)) word

abbrev pub behind : ℕ → List ℕ → List ℕ
behind stop word = back (λ b. not (b == stop)) word

-- the first line with its line feed, and what stands behind it
abbrev pub first_of : List ℕ → List ℕ
first_of [] = []
first_of (b ∷ bs) = if b == 10 then 10 ∷ [] else b ∷ first_of bs

abbrev pub after_of : List ℕ → List ℕ
after_of [] = []
after_of (b ∷ bs) = if b == 10 then bs else after_of bs

-- the number that at most ten digits make in the base, where it is below the limit
abbrev pub number_in : ℕ → ℕ → List ℕ → Option ℕ
number_in base limit digits =
    if nat_lt 10 (length digits) then None else option_and_then (below limit) (number_after base 0 digits)

-- names put one after the other into a set
abbrev pub put_name : List (List ℕ) → List ℕ → List (List ℕ)
put_name names name = if list_any (bytes_eq name) names then names else names ++ name ∷ []

abbrev pub put_names : List (List ℕ) → List (List ℕ) → List (List ℕ)
put_names names [] = names
put_names names (one ∷ more) = put_names (put_name names one) more

-- the names of a deck's programs and units, to be looked up
pub record NamesView : Type 0 where
  pub programs : List (List ℕ)
  pub units : List (List ℕ)

abbrev pub names_of : DeckView → NamesView
names_of d = record {
  programs = put_names [] (map (λ p. p.name) d.programs);
  units = put_names [] (map (λ u. u.name) d.units);
}

-- a number of 16 bits
abbrev pub narrow : ℕ → Option ℕ
narrow n = if nat_lt n 65536 then Some n else None

-- the number of the program or unit of that name
abbrev pub number_of_name : List (List ℕ) → List ℕ → Option ℕ
number_of_name names word = option_and_then (λ name. option_and_then narrow (position (bytes_eq name) names)) (name_in word)

-- The words of entries, each looked up among all of its kind.
abbrev pub kinds : List Kind
kinds = kind.Frr ∷ kind.Estae ∷ kind.Estai ∷ kind.Mgr ∷ []

abbrev pub kind_in : List ℕ → Option Kind
kind_in word = find (λ x. bytes_eq (kind_text x) word) kinds

abbrev pub classes : List Class
classes = class.Cancel ∷ class.Detach ∷ class.Mother ∷ class.Step ∷ class.Abterm ∷ class.Srb ∷ []

abbrev pub class_in : List ℕ → Option Class
class_in word = find (λ x. bytes_eq (class_text x) word) classes

abbrev pub resources : List Res
resources = res.Enq ∷ res.Stor ∷ res.Dsn ∷ res.Timr ∷ []

abbrev pub res_in : List ℕ → Option Res
res_in word = find (λ x. bytes_eq (res_text x) word) resources

abbrev pub fates : List Fate
fates = fate.Queued ∷ fate.Merged ∷ fate.Late ∷ []

abbrev pub fate_in : List ℕ → Option Fate
fate_in word = find (λ x. bytes_eq (fate_text x) word) fates

-- the word with which a verdict begins
abbrev pub verdict_word : Verdict → List ℕ
verdict_word (verdict.Retry place) = codes "RETRY"
verdict_word verdict.Perc = codes "PERC"
verdict_word verdict.Stop = codes "STOP"
verdict_word verdict.Bad = codes "BAD"
verdict_word verdict.Fail = codes "FAIL"
verdict_word verdict.Over = codes "OVER"

-- the verdicts that are a word alone
abbrev pub plain_verdicts : List Verdict
plain_verdicts = verdict.Perc ∷ verdict.Stop ∷ verdict.Bad ∷ verdict.Fail ∷ verdict.Over ∷ []

abbrev pub plain_verdict : List ℕ → Option Verdict
plain_verdict word = find (λ x. bytes_eq (verdict_word x) word) plain_verdicts

-- the word with which the entries of a form begin
abbrev pub form_word : Form → List ℕ
form_word form.Exec = codes "EXEC"
form_word form.Error = codes "ERROR"
form_word form.Land = codes "LAND"
form_word form.Enter = codes "ENTER"
form_word form.Leave = codes "LEAVE"
form_word form.Arrive = codes "ARRIVE"
form_word form.Begin = codes "BEGIN"
form_word form.Release = codes "RELEASE"
form_word form.Done = codes "DONE"
form_word form.Purge = codes "PURGE"
form_word form.MemEnd = codes "MEMEND"

abbrev pub forms : List Form
forms = form.Exec ∷ form.Error ∷ form.Land ∷ form.Enter ∷ form.Leave ∷ form.Arrive ∷ form.Begin ∷ form.Release ∷ form.Done ∷ form.Purge ∷ form.MemEnd ∷ []

abbrev pub form_in : List ℕ → Option Form
form_in word = find (λ x. bytes_eq (form_word x) word) forms

-- the end whose line it is
abbrev pub ends : List End
ends = end.Ended ∷ end.Stalled ∷ end.Limit ∷ []

abbrev pub end_in : List ℕ → Option End
end_in line = find (λ x. bytes_eq (end_line x) line) ends
