-- What stands behind the cards of a deck that is spelled, up to a card of it.
use Rattle.std.proofs.Common.{◌≡◌, ℕ, suc, ◌+◌, ◌≤◌, Bool, true, false, not, ◌&&◌, ◌||◌, cond, List, [], ◌∷◌, length, map, refl, ap, sym, ◌∙◌, arith}
use Rattle.std.specs.Prelude.{bytes_eq, codes, IsTrue, count_by}
use Rattle.std.specs.List.{list_any, AllByRecursion}
use Rattle.std.proofs.lemmas.Bool.{or_from, or_parts, and_left, and_right, false_from_ne_true, both_ways}
use Rattle.std.proofs.lemmas.List.Sums.{sum_by-cons, take_while-cons}
use Rattle.std.proofs.lemmas.Slice.Eq.{bytes_eq-Decides}
use Rattle.rtm_deck_operands.specs.Name.{padded_text, trimmed_text, is_padded_name}
use Rattle.rtm_cards.specs.Limits.{most_programs, most_units, most_commands}
use Rattle.rtm_cards.specs.Cards.{CardText}
use Rattle.rtm_deck_items.specs.declared.deck.Unit.{Unit as UnitCard}
use Rattle.rtm_deck_items.specs.declared.deck.UnitKind.{UnitKind}
use Rattle.rtm_deck_items.specs.declared.deck.UnitKind.TheVariants.{Task, Srb}
use Rattle.rtm_deck_items.specs.declared.form.CardForm.TheVariants as forms
use Rattle.rtm_deck_items.specs.Reading.{is_task, is_task_card}
use Rattle.rtm_deck_items.specs.Faults.{is_called, is_named, has_operation, is_in_program, is_unit_card, since_program}
use Rattle.rtm_deck_operands.proofs.Names.{padded_parts}
use Rattle.rtm_deck_spelling.proofs.RuleTests.{IsLineCard, called_as}

abbrev pub has_program : List CardText → List ℕ → Bool
has_program earlier name = list_any (λ c. is_called (codes "PROG") c && is_named name c) earlier

abbrev pub has_unit : List CardText → List ℕ → Bool
has_unit earlier name = list_any (λ c. is_unit_card c && is_named name c) earlier

-- none of the names passes the test
abbrev pub AreFree : (List ℕ → Bool) → List (List ℕ) → Type 0
AreFree test names = AllByRecursion (λ name. test (trimmed_text name) ≡ false) names

pub all_mapped : {X : Type 0} (P Q : X → Type 0) (xs : List X) → ((x : X) → P x → Q x) → AllByRecursion P xs → AllByRecursion Q xs
all_mapped P Q [] f h = tt
all_mapped P Q (x ∷ xs) f h = (f x h.0, all_mapped P Q xs f h.1)

-- a name is that of its text
same_text : (a b : List ℕ) → IsTrue (is_padded_name a) → IsTrue (is_padded_name b) → trimmed_text a ≡ trimmed_text b → a ≡ b
same_text a b h g e = (padded_parts a h).whole ∙ (ap padded_text e ∙ sym (padded_parts b g).whole)

pub other_text : (a b : List ℕ) → IsTrue (is_padded_name a) → IsTrue (is_padded_name b) → bytes_eq a b ≡ false → bytes_eq (trimmed_text a) (trimmed_text b) ≡ false
other_text a b h g e = false_from_ne_true (bytes_eq (trimmed_text a) (trimmed_text b)) (λ t.
    both_ways (bytes_eq a b) e ((bytes_eq-Decides a b).1 (same_text a b h g ((bytes_eq-Decides (trimmed_text a) (trimmed_text b)).0 t))))

-- names stay free behind a name that is none of them
pub free_behind : (test after : List ℕ → Bool) (name : List ℕ) (names : List (List ℕ)) → IsTrue (is_padded_name name) → AllByRecursion (λ n. IsTrue (is_padded_name n)) names
    → list_any (bytes_eq name) names ≡ false → ((n : List ℕ) → bytes_eq (trimmed_text name) n ≡ false → test n ≡ false → after n ≡ false)
    → AreFree test names → AreFree after names
free_behind test after name [] h all other step free = tt
free_behind test after name (n ∷ names) h all other step free =
    let parts = or_parts (bytes_eq name n) (list_any (bytes_eq name) names) other in
    (step (trimmed_text n) (other_text name n h all.0 parts.0) free.0, free_behind test after name names h all.1 parts.1 step free.1)

-- What the cards before a card are, where these names of programs, these units, and as many commands are still to come.
pub record Kept (earlier : List CardText) (programs : List (List ℕ)) (units : List UnitCard) (commands : ℕ) : Type 0 where
  pub no_end : has_operation (codes "END") earlier ≡ false
  pub no_oper : has_operation (codes "OPER") earlier ≡ false
  pub free_programs : AreFree (has_program earlier) programs
  pub free_units : AreFree (has_unit earlier) (map (λ u. u.name) units)
  pub program_count : count_by (is_called (codes "PROG")) earlier + length programs ≤ most_programs
  pub unit_count : count_by is_unit_card earlier + length units ≤ most_units
  pub command_count : count_by (is_called (codes "CANCEL")) earlier + commands ≤ most_commands
  pub task : (has_operation (codes "TASK") earlier || list_any is_task_card units) ≡ true

-- The card is none of those that are counted or end a deck.
pub record IsOther (c : CardText) : Type 0 where
  pub prog : is_called (codes "PROG") c ≡ false
  pub task : is_called (codes "TASK") c ≡ false
  pub srb : is_called (codes "SRB") c ≡ false
  pub oper : is_called (codes "OPER") c ≡ false
  pub cancel : is_called (codes "CANCEL") c ≡ false
  pub last : is_called (codes "END") c ≡ false

pub line_is_other : (c : CardText) → IsLineCard c → IsOther c
line_is_other c h = record { prog = h.prog; task = h.task; srb = h.srb; oper = h.oper; cancel = h.cancel; last = h.last }

count_past : (test : CardText → Bool) (c : CardText) (cs : List CardText) → test c ≡ false → count_by test (c ∷ cs) ≡ count_by test cs
count_past test c cs e = sum_by-cons (λ (x : CardText). cond (test x) 1 0) c cs ∙ rw e (omega arith)

count_more : (test : CardText → Bool) (c : CardText) (cs : List CardText) → test c ≡ true → count_by test (c ∷ cs) ≡ suc (count_by test cs)
count_more test c cs e = sum_by-cons (λ (x : CardText). cond (test x) 1 0) c cs ∙ rw e (omega arith)

or_past : (a b : Bool) → a ≡ false → (a || b) ≡ b
or_past a b e = rw e refl

unit_past : (c : CardText) → IsOther c → is_unit_card c ≡ false
unit_past c h = or_from (is_called (codes "TASK") c) (is_called (codes "SRB") c) h.task h.srb

pub kept_past : (c : CardText) (earlier : List CardText) (programs : List (List ℕ)) (units : List UnitCard) (commands : ℕ) → IsOther c
    → Kept earlier programs units commands → Kept (c ∷ earlier) programs units commands
kept_past c earlier programs units commands h k = record {
  no_end = or_from (is_called (codes "END") c) _ h.last k.no_end;
  no_oper = or_from (is_called (codes "OPER") c) _ h.oper k.no_oper;
  free_programs = all_mapped (λ n. has_program earlier (trimmed_text n) ≡ false) (λ n. has_program (c ∷ earlier) (trimmed_text n) ≡ false) programs
      (λ n e. or_from _ (has_program earlier (trimmed_text n)) (and_left (is_called (codes "PROG") c) _ h.prog) e) k.free_programs;
  free_units = all_mapped (λ n. has_unit earlier (trimmed_text n) ≡ false) (λ n. has_unit (c ∷ earlier) (trimmed_text n) ≡ false) (map (λ u. u.name) units)
      (λ n e. or_from _ (has_unit earlier (trimmed_text n)) (and_left (is_unit_card c) _ (unit_past c h)) e) k.free_units;
  program_count = rw (count_past (is_called (codes "PROG")) c earlier h.prog) k.program_count;
  unit_count = rw (count_past is_unit_card c earlier (unit_past c h)) k.unit_count;
  command_count = rw (count_past (is_called (codes "CANCEL")) c earlier h.cancel) k.command_count;
  task = ap (λ (t : Bool). t || list_any is_task_card units) (or_past (is_called (codes "TASK") c) (has_operation (codes "TASK") earlier) h.task) ∙ k.task;
}

pub kept_program : (c : CardText) (name : List ℕ) (earlier : List CardText) (programs : List (List ℕ)) (units : List UnitCard) (commands : ℕ)
    → c.op ≡ codes "PROG" → c.name ≡ trimmed_text name → IsTrue (is_padded_name name) → AllByRecursion (λ n. IsTrue (is_padded_name n)) programs → list_any (bytes_eq name) programs ≡ false
    → Kept earlier (name ∷ programs) units commands → Kept (c ∷ earlier) programs units commands
kept_program c name earlier programs units commands op is padded all other k =
    let prog : is_called (codes "PROG") c ≡ true = called_as c forms.Prog (codes "PROG") op in
    let task : is_called (codes "TASK") c ≡ false = called_as c forms.Prog (codes "TASK") op in
    let srb : is_called (codes "SRB") c ≡ false = called_as c forms.Prog (codes "SRB") op in
    let no_unit : is_unit_card c ≡ false = or_from (is_called (codes "TASK") c) (is_called (codes "SRB") c) task srb in
    let count = k.program_count in
    record {
      no_end = or_from (is_called (codes "END") c) _ (called_as c forms.Prog (codes "END") op) k.no_end;
      no_oper = or_from (is_called (codes "OPER") c) _ (called_as c forms.Prog (codes "OPER") op) k.no_oper;
      free_programs = free_behind (has_program earlier) (has_program (c ∷ earlier)) name programs padded all other
          (λ n ne e. or_from _ (has_program earlier n) (and_right (is_called (codes "PROG") c) (is_named n c) (ap (λ (x : List ℕ). bytes_eq x n) is ∙ ne)) e) k.free_programs.1;
      free_units = all_mapped (λ n. has_unit earlier (trimmed_text n) ≡ false) (λ n. has_unit (c ∷ earlier) (trimmed_text n) ≡ false) (map (λ u. u.name) units)
          (λ n e. or_from _ (has_unit earlier (trimmed_text n)) (and_left (is_unit_card c) _ no_unit) e) k.free_units;
      program_count = rw (count_more (is_called (codes "PROG")) c earlier prog) (omega arith);
      unit_count = rw (count_past is_unit_card c earlier no_unit) k.unit_count;
      command_count = rw (count_past (is_called (codes "CANCEL")) c earlier (called_as c forms.Prog (codes "CANCEL") op)) k.command_count;
      task = ap (λ (t : Bool). t || list_any is_task_card units) (or_past (is_called (codes "TASK") c) (has_operation (codes "TASK") earlier) task) ∙ k.task;
    }

-- a unit's card, by its kind
pub record IsUnit (c : CardText) (kind : UnitKind) : Type 0 where
  pub unit : is_unit_card c ≡ true
  pub task : is_called (codes "TASK") c ≡ is_task kind
  pub prog : is_called (codes "PROG") c ≡ false
  pub pend : is_called (codes "PEND") c ≡ false
  pub oper : is_called (codes "OPER") c ≡ false
  pub cancel : is_called (codes "CANCEL") c ≡ false
  pub last : is_called (codes "END") c ≡ false

task_is_unit : (c : CardText) → c.op ≡ codes "TASK" → IsUnit c Task
task_is_unit c op =
    let task : is_called (codes "TASK") c ≡ true = called_as c forms.Task (codes "TASK") op in
    record {
      unit = ap (λ (t : Bool). t || is_called (codes "SRB") c) task;
      task = task;
      prog = called_as c forms.Task (codes "PROG") op;
      pend = called_as c forms.Task (codes "PEND") op;
      oper = called_as c forms.Task (codes "OPER") op;
      cancel = called_as c forms.Task (codes "CANCEL") op;
      last = called_as c forms.Task (codes "END") op;
    }

srb_is_unit : (c : CardText) → c.op ≡ codes "SRB" → IsUnit c Srb
srb_is_unit c op =
    let task : is_called (codes "TASK") c ≡ false = called_as c forms.Srb (codes "TASK") op in
    let srb : is_called (codes "SRB") c ≡ true = called_as c forms.Srb (codes "SRB") op in
    record {
      unit = ap (λ (t : Bool). t || is_called (codes "SRB") c) task ∙ srb;
      task = task;
      prog = called_as c forms.Srb (codes "PROG") op;
      pend = called_as c forms.Srb (codes "PEND") op;
      oper = called_as c forms.Srb (codes "OPER") op;
      cancel = called_as c forms.Srb (codes "CANCEL") op;
      last = called_as c forms.Srb (codes "END") op;
    }

abbrev pub unit_operation : UnitKind → List ℕ
unit_operation Task = codes "TASK"
unit_operation Srb = codes "SRB"

pub unit_card : (c : CardText) (kind : UnitKind) → c.op ≡ unit_operation kind → IsUnit c kind
unit_card c Task op = task_is_unit c op
unit_card c Srb op = srb_is_unit c op

one_task_more : (called had this others : Bool) → called ≡ this → (had || (this || others)) ≡ true → ((called || had) || others) ≡ true
one_task_more true had this others e h = refl
one_task_more false true this others e h = refl
one_task_more false false true others e h = absurd cc
one_task_more false false false others e h = h

pub kept_unit : (c : CardText) (unit : UnitCard) (earlier : List CardText) (programs : List (List ℕ)) (units : List UnitCard) (commands : ℕ)
    → IsUnit c unit.kind → c.name ≡ trimmed_text unit.name → IsTrue (is_padded_name unit.name) → AllByRecursion (λ n. IsTrue (is_padded_name n)) (map (λ u. u.name) units)
    → list_any (bytes_eq unit.name) (map (λ u. u.name) units) ≡ false
    → Kept earlier programs (unit ∷ units) commands → Kept (c ∷ earlier) programs units commands
kept_unit c unit earlier programs units commands op is padded all other k =
    let count = k.unit_count in
    record {
      no_end = or_from (is_called (codes "END") c) _ op.last k.no_end;
      no_oper = or_from (is_called (codes "OPER") c) _ op.oper k.no_oper;
      free_programs = all_mapped (λ n. has_program earlier (trimmed_text n) ≡ false) (λ n. has_program (c ∷ earlier) (trimmed_text n) ≡ false) programs
          (λ n e. or_from _ (has_program earlier (trimmed_text n)) (and_left (is_called (codes "PROG") c) _ op.prog) e) k.free_programs;
      free_units = free_behind (has_unit earlier) (has_unit (c ∷ earlier)) unit.name (map (λ u. u.name) units) padded all other
          (λ n ne e. or_from _ (has_unit earlier n) (and_right (is_unit_card c) (is_named n c) (ap (λ (x : List ℕ). bytes_eq x n) is ∙ ne)) e) k.free_units.1;
      program_count = rw (count_past (is_called (codes "PROG")) c earlier op.prog) k.program_count;
      unit_count = rw (count_more is_unit_card c earlier op.unit) (omega arith);
      command_count = rw (count_past (is_called (codes "CANCEL")) c earlier op.cancel) k.command_count;
      task = one_task_more (is_called (codes "TASK") c) (has_operation (codes "TASK") earlier) (is_task_card unit) (list_any is_task_card units) op.task k.task;
    }

-- inside a program or outside of one, behind a card
pub opened : (c : CardText) (earlier : List CardText) → is_called (codes "PROG") c ≡ true → is_in_program (c ∷ earlier) ≡ true
opened c earlier prog = rw prog refl

pub closed : (c : CardText) (earlier : List CardText) → is_called (codes "PROG") c ≡ false → is_called (codes "PEND") c ≡ true → is_in_program (c ∷ earlier) ≡ false
closed c earlier prog pend = rw (prog, pend) refl

pub stays : (c : CardText) (earlier : List CardText) → is_called (codes "PROG") c ≡ false → is_called (codes "PEND") c ≡ false → is_in_program (c ∷ earlier) ≡ is_in_program earlier
stays c earlier prog pend = rw (prog, pend) refl

pub since_start : (c : CardText) (earlier : List CardText) → is_called (codes "PROG") c ≡ true → since_program (c ∷ earlier) ≡ []
since_start c earlier prog = take_while-cons (λ (c : CardText). not (is_called (codes "PROG") c)) c earlier ∙ rw prog refl

pub since_more : (c : CardText) (earlier : List CardText) → is_called (codes "PROG") c ≡ false → since_program (c ∷ earlier) ≡ c ∷ since_program earlier
since_more c earlier prog = take_while-cons (λ (c : CardText). not (is_called (codes "PROG") c)) c earlier ∙ rw prog refl

-- the labels that are still to come are free in their program
abbrev pub FreeLabels : List CardText → List (List ℕ) → Type 0
FreeLabels earlier labels = AreFree (λ text. list_any (is_named text) (since_program earlier)) labels
