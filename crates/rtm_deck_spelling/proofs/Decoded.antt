-- An item is found again from the form, the name field and the values of the card that says it.
use Rattle.std.proofs.Common.{◌≡◌, ℕ, zero, suc, ◌<◌, Bool, true, false, not, ◌&&◌, ◌||◌, List, [], ◌∷◌, length, map, Option, Some, None, refl, ap, sym, ◌∙◌, arith}
use Rattle.std.specs.Prelude.{IsTrue, bytes_eq, slice_get, if◌then◌else◌, is_some}
use Rattle.std.specs.Option.{option_map, option_map_or}
use Rattle.std.specs.List.{list_any}
use Rattle.std.proofs.lemmas.Bool.{ltb-true, not-true, both_ways, false_from_ne_true, or_right}
use Rattle.std.proofs.lemmas.Slice.Eq.{bytes_eq-Decides}
use Rattle.rtm_codes.specs.declared.code.Code.{Code}
use Rattle.rtm_codes.specs.declared.code.Code.TheVariants.{Sys}
use Rattle.rtm_deck_operands.specs.declared.value.Value.{Value}
use Rattle.rtm_deck_operands.specs.declared.value.Value.TheVariants as values
use Rattle.rtm_deck_operands.specs.declared.value.Three.{Three}
use Rattle.rtm_deck_operands.specs.declared.value.Res.{Res}
use Rattle.rtm_deck_operands.specs.declared.value.Res.TheVariants.{Enq}
use Rattle.rtm_deck_operands.specs.Name.{padded_text, trimmed_text, is_padded_name}
use Rattle.rtm_deck_items.specs.declared.deck.Line.{Line}
use Rattle.rtm_deck_items.specs.declared.deck.Unit.{Unit as UnitCard}
use Rattle.rtm_deck_items.specs.declared.deck.UnitKind.{UnitKind}
use Rattle.rtm_deck_items.specs.declared.deck.UnitKind.TheVariants.{Task, Srb}
use Rattle.rtm_deck_items.specs.declared.deck.Command.{Command}
use Rattle.rtm_deck_items.specs.declared.op.Op.{Op}
use Rattle.rtm_deck_items.specs.declared.op.Op.TheVariants as ops
use Rattle.rtm_deck_items.specs.declared.op.Setrp.{Setrp}
use Rattle.rtm_deck_items.specs.declared.form.CardForm.{CardForm}
use Rattle.rtm_deck_items.specs.declared.form.CardForm.TheVariants as forms
use Rattle.rtm_deck_items.specs.View.{ProgramView, DeckView}
use Rattle.rtm_deck_items.specs.Items.{Item, RegionCard, ProgramStart, ProgramCard, ProgramEnd, UnitOfWork, CommandsStart, CommandCard, DeckEnd, form_of_op, values_of_op, form_of, values_of, name_of, label_text, program_name, unit_name}
use Rattle.rtm_deck_items.specs.Reading.{is_task_card}
use Rattle.rtm_cards.specs.Name.{is_name}
use Rattle.rtm_deck_items.specs.WellFormed.{are_distinct, is_label, is_op, is_program, is_program_or_none, is_task_in, is_srb_in, is_unit_of, is_command_of, is_abend_code, is_reason}
use Rattle.rtm_deck_items.proofs.Lists.{both_true}
use Rattle.rtm_deck_operands.proofs.Names.{padded_parts}

abbrev pub program_names : DeckView → List (List ℕ)
program_names d = map (λ p. p.name) d.programs

abbrev pub unit_names : DeckView → List (List ℕ)
unit_names d = map (λ u. u.name) d.units

-- The names of programs are distinct, and so are those of units.
pub record Named (d : DeckView) : Type 0 where
  pub programs : IsTrue (are_distinct (program_names d))
  pub units : IsTrue (are_distinct (unit_names d))

-- the first place of a name
abbrev pub place_in : List (List ℕ) → List ℕ → ℕ
place_in [] name = 0
place_in (n ∷ ns) name = if bytes_eq n name then 0 else suc (place_in ns name)

abbrev pub number_in : List (List ℕ) → Option Value → ℕ
number_in names (Some (values.Name name)) = place_in names name
number_in names _ = 0

abbrev pub number_or_none_in : List (List ℕ) → Option Value → Option ℕ
number_or_none_in names None = None
number_or_none_in names (Some value) = Some (number_in names (Some value))

abbrev value_at : List (Option Value) → ℕ → Option Value
value_at [] n = None
value_at (v ∷ vs) zero = v
value_at (v ∷ vs) (suc n) = value_at vs n

abbrev the_number : Option Value → ℕ
the_number (Some (values.Number x)) = x
the_number _ = 0

abbrev the_code : Option Value → Code
the_code (Some (values.Code x)) = x
the_code _ = Sys 0

abbrev the_flag : Option Value → Bool
the_flag (Some (values.Flag x)) = x
the_flag _ = false

abbrev the_class : Option Value → Res
the_class (Some (values.Class x)) = x
the_class _ = Enq

abbrev the_label : Option Value → List ℕ
the_label (Some (values.Name x)) = x
the_label _ = []

abbrev number_or_none : Option Value → Option ℕ
number_or_none (Some (values.Number x)) = Some x
number_or_none _ = None

kept_number : (o : Option ℕ) → number_or_none (option_map values.Number o) ≡ o
kept_number None = refl
kept_number (Some x) = refl

abbrev code_or_none : Option Value → Option Code
code_or_none (Some (values.Code x)) = Some x
code_or_none _ = None

kept_code : (o : Option Code) → code_or_none (option_map values.Code o) ≡ o
kept_code None = refl
kept_code (Some x) = refl

abbrev flag_or_none : Option Value → Option Bool
flag_or_none (Some (values.Flag x)) = Some x
flag_or_none _ = None

kept_flag : (o : Option Bool) → flag_or_none (option_map values.Flag o) ≡ o
kept_flag None = refl
kept_flag (Some x) = refl

abbrev label_or_none : Option Value → Option (List ℕ)
label_or_none (Some (values.Name x)) = Some x
label_or_none _ = None

kept_label : (o : Option (List ℕ)) → label_or_none (option_map values.Name o) ≡ o
kept_label None = refl
kept_label (Some x) = refl

abbrev reason_or_none : Option Value → Option ℕ
reason_or_none (Some (values.Reason x)) = Some x
reason_or_none _ = None

kept_reason : (o : Option ℕ) → reason_or_none (option_map values.Reason o) ≡ o
kept_reason None = refl
kept_reason (Some x) = refl

abbrev three_or_none : Option Value → Option Three
three_or_none (Some (values.Three x)) = Some x
three_or_none _ = None

kept_three : (o : Option Three) → three_or_none (option_map values.Three o) ≡ o
kept_three None = refl
kept_three (Some x) = refl

-- the operation of a card of that form with these values
abbrev op_of : List (List ℕ) → List (List ℕ) → CardForm → List (Option Value) → Op
op_of programs units forms.Nop vs = ops.Nop
op_of programs units forms.Get vs = ops.Get (the_class (value_at vs 0)) (the_number (value_at vs 1))
op_of programs units forms.Free vs = ops.Free (the_class (value_at vs 0)) (the_number (value_at vs 1))
op_of programs units forms.Link vs = ops.Link (number_in programs (value_at vs 0))
op_of programs units forms.Xctl vs = ops.Xctl (number_in programs (value_at vs 0))
op_of programs units forms.Return vs = ops.Return
op_of programs units forms.Abend vs = ops.Abend (the_code (value_at vs 0)) (reason_or_none (value_at vs 1)) (the_flag (value_at vs 2)) (the_flag (value_at vs 3))
op_of programs units forms.EstaexCt vs = ops.EstaexCt (number_in programs (value_at vs 1)) (the_flag (value_at vs 2)) (the_flag (value_at vs 3)) (the_flag (value_at vs 4))
op_of programs units forms.EstaexOv vs = ops.EstaexOv (number_in programs (value_at vs 1)) (the_flag (value_at vs 2)) (the_flag (value_at vs 3)) (the_flag (value_at vs 4))
op_of programs units forms.EstaexZero vs = ops.EstaexZero
op_of programs units forms.FrrAdd vs = ops.FrrAdd (number_in programs (value_at vs 1))
op_of programs units forms.FrrDelete vs = ops.FrrDelete
op_of programs units forms.FrrReplace vs = ops.FrrReplace (number_in programs (value_at vs 1))
op_of programs units forms.FrrPurge vs = ops.FrrPurge
op_of programs units forms.Detach vs = ops.Detach (number_in units (value_at vs 0)) (the_flag (value_at vs 1))
op_of programs units forms.Abterm vs = ops.Abterm (number_in units (value_at vs 1)) (the_code (value_at vs 2)) (reason_or_none (value_at vs 3)) (the_flag (value_at vs 4)) (the_flag (value_at vs 5))
op_of programs units forms.Memterm vs = ops.Memterm (the_code (value_at vs 1))
op_of programs units forms.MgrAdd vs = ops.MgrAdd (number_in programs (value_at vs 1)) (the_flag (value_at vs 2))
op_of programs units forms.MgrDelete vs = ops.MgrDelete (number_in programs (value_at vs 1)) (the_flag (value_at vs 2))
op_of programs units forms.Schedule vs = ops.Schedule (number_in units (value_at vs 0))
op_of programs units forms.Wait vs = ops.Wait (the_number (value_at vs 0))
op_of programs units forms.WaitTask vs = ops.WaitTask (number_in units (value_at vs 0))
op_of programs units forms.Post vs = ops.Post (the_number (value_at vs 0))
op_of programs units forms.SetRp vs = ops.SetRp (record {
  rc = number_or_none (value_at vs 0);
  retaddr = label_or_none (value_at vs 1);
  remrec = flag_or_none (value_at vs 2);
  compcod = code_or_none (value_at vs 3);
  reason = reason_or_none (value_at vs 4);
  dump = three_or_none (value_at vs 5);
  logrec = three_or_none (value_at vs 6);
  fresdwa = flag_or_none (value_at vs 7);
})
op_of programs units forms.Ret15 vs = ops.Ret15 (the_number (value_at vs 0)) (label_or_none (value_at vs 1))
op_of programs units forms.Branch vs = ops.Branch (the_label (value_at vs 0))
op_of programs units forms.IfCode vs = ops.IfCode (the_code (value_at vs 0)) (the_label (value_at vs 1))
op_of programs units forms.IfClup vs = ops.IfClup (the_label (value_at vs 0))
op_of programs units forms.IfPerc vs = ops.IfPerc (the_label (value_at vs 0))
op_of programs units forms.Attachx vs = ops.Attachx (number_in units (value_at vs 0)) None false
op_of programs units forms.AttachxEstai vs = ops.Attachx (number_in units (value_at vs 0)) (Some (number_in programs (value_at vs 1))) (the_flag (value_at vs 2))
op_of programs units _ vs = ops.Nop

abbrev label_of : List ℕ → Option (List ℕ)
label_of [] = None
label_of (b ∷ bs) = Some (padded_text (b ∷ bs))

-- the item that a card of that form says, with that name and these values
abbrev item_of : List (List ℕ) → List (List ℕ) → CardForm → List ℕ → List (Option Value) → Item
item_of programs units forms.Region name vs = RegionCard (the_number (value_at vs 0)) (the_flag (value_at vs 1))
item_of programs units forms.Prog name vs = ProgramStart (padded_text name)
item_of programs units forms.Pend name vs = ProgramEnd
item_of programs units forms.Task name vs = UnitOfWork (record { name = padded_text name; kind = Task; prog = number_in programs (value_at vs 0); related = None })
item_of programs units forms.Srb name vs = UnitOfWork (record { name = padded_text name; kind = Srb; prog = number_in programs (value_at vs 0); related = number_or_none_in units (value_at vs 1) })
item_of programs units forms.Oper name vs = CommandsStart
item_of programs units forms.Cancel name vs = CommandCard (record { target = number_in units (value_at vs 0); at = the_number (value_at vs 1); dump = the_flag (value_at vs 2) })
item_of programs units forms.End name vs = DeckEnd
item_of programs units form name vs = ProgramCard (record { label = label_of name; op = op_of programs units form vs })

-- what holds of an item of a well formed deck
abbrev pub Good : DeckView → Item → Type 0
Good d (RegionCard limit sdwa) = Unit {0}
Good d (ProgramStart name) = IsTrue (is_padded_name name)
Good d (ProgramCard line) = IsTrue (is_label line.label) × ((lines : List Line) × IsTrue (is_op d lines line.op))
Good d ProgramEnd = Unit {0}
Good d (UnitOfWork unit) = IsTrue (is_unit_of d unit)
Good d CommandsStart = Unit {0}
Good d (CommandCard command) = IsTrue (is_command_of d command)
Good d DeckEnd = Unit {0}

pub any_at : {X : Type 0} (test : X → Bool) (xs : List X) (i : ℕ) (x : X) → slice_get xs i ≡ Some x → test x ≡ true → list_any test xs ≡ true
any_at test [] i x e h = absurd cc
any_at test (y ∷ ys) zero x e h = let same : y ≡ x = cc in let t : test y ≡ true = rw same h in rw t refl
any_at test (y ∷ ys) (suc i) x e h = or_right (test y) (list_any test ys) (any_at test ys i x e h)

-- among distinct names the first place of a name is its place
pub placed : (names : List (List ℕ)) (i : ℕ) (name : List ℕ) → IsTrue (are_distinct names) → slice_get names i ≡ Some name → place_in names name ≡ i
placed [] i name d e = absurd cc
placed (n ∷ ns) zero name d e =
    let same : n ≡ name = cc in
    let t : bytes_eq n name ≡ true = (bytes_eq-Decides n name).1 same in
    rw t refl
placed (n ∷ ns) (suc i) name d e =
    let parts = both_true (not (list_any (bytes_eq n) ns)) (are_distinct ns) d in
    let other : bytes_eq n name ≡ false = false_from_ne_true (bytes_eq n name) (λ t. both_ways (list_any (bytes_eq n) ns) (not-true _ parts.0) (any_at (bytes_eq n) ns i name e t)) in
    rw other (ap suc (placed ns i name parts.1 e))

-- the element of that number
pub record IsAt {X : Type 0} (xs : List X) (i : ℕ) : Type 0 where
  pub element : X
  pub is : slice_get xs i ≡ Some element

pub at_below : {X : Type 0} (xs : List X) (i : ℕ) → i < length xs → IsAt xs i
at_below [] i h = absurd (omega arith)
at_below (x ∷ xs) zero h = record { element = x; is = refl }
at_below (x ∷ xs) (suc i) h = let r = at_below xs i (omega arith) in record { element = r.element; is = r.is }

pub at_tested : {X : Type 0} (test : X → Bool) (xs : List X) (i : ℕ) → IsTrue (option_map_or test (slice_get xs i) false) → IsAt xs i
at_tested test [] i h = absurd cc
at_tested test (x ∷ xs) zero h = record { element = x; is = refl }
at_tested test (x ∷ xs) (suc i) h = let r = at_tested test xs i h in record { element = r.element; is = r.is }

pub mapped_at : {X : Type 0} (f : X → List ℕ) (xs : List X) (i : ℕ) (x : X) → slice_get xs i ≡ Some x → slice_get (map f xs) i ≡ Some (f x)
mapped_at f [] i x e = absurd cc
mapped_at f (y ∷ ys) zero x e = let same : y ≡ x = cc in ap (λ z. Some (f z)) same
mapped_at f (y ∷ ys) (suc i) x e = mapped_at f ys i x e

pub program_at : (d : DeckView) (prog : ℕ) → IsTrue (is_program d prog) → IsAt d.programs prog
program_at d prog h = at_below d.programs prog (ltb-true prog (length d.programs) h)

pub program_found : (d : DeckView) (prog : ℕ) → Named d → IsTrue (is_program d prog) → number_in (program_names d) (program_name d prog) ≡ prog
program_found d prog named h =
    let r = program_at d prog h in
    let is = r.is in
    ap (λ (o : Option ProgramView). number_in (program_names d) (option_map (λ p. values.Name p.name) o)) is
    ∙ placed (program_names d) prog r.element.name named.programs (mapped_at (λ (p : ProgramView). p.name) d.programs prog r.element is)

pub unit_found : (d : DeckView) (unit : ℕ) → Named d → IsAt d.units unit → number_in (unit_names d) (unit_name d unit) ≡ unit
unit_found d unit named r =
    let is = r.is in
    ap (λ (o : Option UnitCard). number_in (unit_names d) (option_map (λ p. values.Name p.name) o)) is
    ∙ placed (unit_names d) unit r.element.name named.units (mapped_at (λ (u : UnitCard). u.name) d.units unit r.element is)

pub unit_or_none_found : (d : DeckView) (unit : ℕ) → Named d → IsAt d.units unit → number_or_none_in (unit_names d) (unit_name d unit) ≡ Some unit
unit_or_none_found d unit named r =
    let is = r.is in
    ap (λ (o : Option UnitCard). number_or_none_in (unit_names d) (option_map (λ p. values.Name p.name) o)) is
    ∙ ap Some (placed (unit_names d) unit r.element.name named.units (mapped_at (λ (u : UnitCard). u.name) d.units unit r.element is))

pub task_found : (d : DeckView) (unit : ℕ) → Named d → IsTrue (is_task_in d unit) → number_in (unit_names d) (unit_name d unit) ≡ unit
task_found d unit named h = unit_found d unit named (at_tested is_task_card d.units unit h)

pub srb_found : (d : DeckView) (unit : ℕ) → Named d → IsTrue (is_srb_in d unit) → number_in (unit_names d) (unit_name d unit) ≡ unit
srb_found d unit named h = unit_found d unit named (at_tested (λ card. not (is_task_card card)) d.units unit h)

options_found : (s : Setrp) → record {
  rc = number_or_none (option_map values.Number s.rc);
  retaddr = label_or_none (option_map values.Name s.retaddr);
  remrec = flag_or_none (option_map values.Flag s.remrec);
  compcod = code_or_none (option_map values.Code s.compcod);
  reason = reason_or_none (option_map values.Reason s.reason);
  dump = three_or_none (option_map values.Three s.dump);
  logrec = three_or_none (option_map values.Three s.logrec);
  fresdwa = flag_or_none (option_map values.Flag s.fresdwa);
} ≡ s
options_found s = rw (kept_number s.rc, kept_label s.retaddr, kept_flag s.remrec, kept_code s.compcod, kept_reason s.reason, kept_three s.dump, kept_three s.logrec, kept_flag s.fresdwa) refl

-- an operation is found again from its card
pub op_found : (d : DeckView) (lines : List Line) (op : Op) → Named d → IsTrue (is_op d lines op) → op_of (program_names d) (unit_names d) (form_of_op op) (values_of_op d op) ≡ op
op_found d lines (ops.Link prog) named h = ap (λ (x : ℕ). ops.Link x) (program_found d prog named h)
op_found d lines (ops.Xctl prog) named h = ap (λ (x : ℕ). ops.Xctl x) (program_found d prog named h)
op_found d lines (ops.Abend code reason dump step) named h = ap (λ (x : Option ℕ). ops.Abend code x dump step) (kept_reason reason)
op_found d lines (ops.EstaexCt prog term cancel xctl) named h = ap (λ (x : ℕ). ops.EstaexCt x term cancel xctl) (program_found d prog named h)
op_found d lines (ops.EstaexOv prog term cancel xctl) named h = ap (λ (x : ℕ). ops.EstaexOv x term cancel xctl) (program_found d prog named h)
op_found d lines (ops.FrrAdd prog) named h = ap (λ (x : ℕ). ops.FrrAdd x) (program_found d prog named h)
op_found d lines (ops.FrrReplace prog) named h = ap (λ (x : ℕ). ops.FrrReplace x) (program_found d prog named h)
op_found d lines (ops.Detach unit stae) named h = ap (λ (x : ℕ). ops.Detach x stae) (task_found d unit named h)
op_found d lines (ops.Abterm unit code reason dump retry) named h = let g = (both_true _ (is_reason reason) h).0 in let t = (both_true (is_task_in d unit) (is_abend_code code) g).0 in rw (task_found d unit named t, kept_reason reason) refl
op_found d lines (ops.MgrAdd prog space) named h = ap (λ (x : ℕ). ops.MgrAdd x space) (program_found d prog named h)
op_found d lines (ops.MgrDelete prog space) named h = ap (λ (x : ℕ). ops.MgrDelete x space) (program_found d prog named h)
op_found d lines (ops.Schedule unit) named h = ap (λ (x : ℕ). ops.Schedule x) (srb_found d unit named h)
op_found d lines (ops.WaitTask unit) named h = ap (λ (x : ℕ). ops.WaitTask x) (task_found d unit named h)
op_found d lines (ops.SetRp setrp) named h = ap ops.SetRp (options_found setrp)
op_found d lines (ops.Ret15 rc label) named h = ap (λ (x : Option (List ℕ)). ops.Ret15 rc x) (kept_label label)
op_found d lines (ops.Attachx unit None true) named h = absurd (let p = (both_true (is_task_in d unit && is_program_or_none d None) (is_some {T = ℕ} None || not true) h).1 in cc)
op_found d lines (ops.Attachx unit None false) named h =
    let p = both_true (is_task_in d unit && is_program_or_none d None) true h in
    let t = (both_true (is_task_in d unit) true p.0).0 in
    ap (λ (x : ℕ). ops.Attachx x None false) (task_found d unit named t)
op_found d lines (ops.Attachx unit (Some prog) term) named h =
    let p = (both_true (is_task_in d unit && is_program d prog) true h).0 in
    let t = both_true (is_task_in d unit) (is_program d prog) p in
    rw (task_found d unit named t.0, program_found d prog named t.1) refl
op_found d lines _ named h = refl

pub label_found : (label : Option (List ℕ)) → IsTrue (is_label label) → label_of (label_text label) ≡ label
label_found None h = refl
label_found (Some name) h = let p = padded_parts name h in go (trimmed_text name) p.whole p.name
  where
    go : (text : List ℕ) → name ≡ padded_text text → IsTrue (is_name text) → label_of text ≡ Some name
    go [] e f = absurd cc
    go (b ∷ bs) e f = ap Some (sym e)

line_found : (programs units : List (List ℕ)) (op : Op) (name : List ℕ) (vs : List (Option Value))
    → item_of programs units (form_of_op op) name vs ≡ ProgramCard (record { label = label_of name; op = op_of programs units (form_of_op op) vs })
line_found programs units (ops.Attachx unit None term) name vs = refl
line_found programs units (ops.Attachx unit (Some prog) term) name vs = refl
line_found programs units _ name vs = refl

same_line : (a b : Option (List ℕ)) (x y : Op) → a ≡ b → x ≡ y → ProgramCard (record { label = a; op = x }) ≡ ProgramCard (record { label = b; op = y })
same_line a b x y e f = rw (e, f) refl

same_unit : (kind : UnitKind) (a b : List ℕ) (m n : ℕ) (r s : Option ℕ) → a ≡ b → m ≡ n → r ≡ s → UnitOfWork (record { name = a; kind = kind; prog = m; related = r }) ≡ UnitOfWork (record { name = b; kind = kind; prog = n; related = s })
same_unit kind a b m n r s e f g = rw (e, f, g) refl

unit_card_found : (d : DeckView) (name : List ℕ) (kind : UnitKind) (prog : ℕ) (related : Option ℕ) → Named d
    → IsTrue (is_unit_of d (record { name = name; kind = kind; prog = prog; related = related }))
    → (let card : UnitCard = record { name = name; kind = kind; prog = prog; related = related } in
    item_of (program_names d) (unit_names d) (form_of (UnitOfWork card)) (trimmed_text name) (values_of d (UnitOfWork card)) ≡ UnitOfWork card)
unit_card_found d name kind prog related named h = go kind related h
  where
    go : (kind : UnitKind) (related : Option ℕ) → IsTrue (is_unit_of d (record { name = name; kind = kind; prog = prog; related = related }))
        → (let card : UnitCard = record { name = name; kind = kind; prog = prog; related = related } in
        item_of (program_names d) (unit_names d) (form_of (UnitOfWork card)) (trimmed_text name) (values_of d (UnitOfWork card)) ≡ UnitOfWork card)
    go Task None h =
        let p = both_true (is_padded_name name && is_program d prog) true h in
        let q = both_true (is_padded_name name) (is_program d prog) p.0 in
        same_unit Task _ _ _ _ None None (sym (padded_parts name q.0).whole) (program_found d prog named q.1) refl
    go Task (Some unit) h = absurd (let p = (both_true (is_padded_name name && is_program d prog) false h).1 in cc)
    go Srb None h =
        let p = both_true (is_padded_name name && is_program d prog) true h in
        let q = both_true (is_padded_name name) (is_program d prog) p.0 in
        same_unit Srb _ _ _ _ None None (sym (padded_parts name q.0).whole) (program_found d prog named q.1) refl
    go Srb (Some unit) h =
        let p = both_true (is_padded_name name && is_program d prog) (is_task_in d unit) h in
        let q = both_true (is_padded_name name) (is_program d prog) p.0 in
        same_unit Srb _ _ _ _ _ (Some unit) (sym (padded_parts name q.0).whole) (program_found d prog named q.1)
        (unit_or_none_found d unit named (at_tested is_task_card d.units unit p.1))

command_found : (d : DeckView) (command : Command) → Named d → IsTrue (is_command_of d command)
    → item_of (program_names d) (unit_names d) forms.Cancel [] (values_of d (CommandCard command)) ≡ CommandCard command
command_found d command named h =
    let t = both_true (is_task_in d command.target) _ h in
    ap (λ (x : ℕ). CommandCard (record { target = x; at = command.at; dump = command.dump })) (task_found d command.target named t.0)

-- an item is found again from its card
pub item_found : (d : DeckView) (item : Item) → Named d → Good d item
    → item_of (program_names d) (unit_names d) (form_of item) (name_of item) (values_of d item) ≡ item
item_found d (RegionCard limit sdwa) named good = refl
item_found d (ProgramStart name) named good = ap ProgramStart (sym (padded_parts name good).whole)
item_found d (ProgramCard line) named good =
    line_found (program_names d) (unit_names d) line.op (label_text line.label) (values_of_op d line.op)
    ∙ same_line (label_of (label_text line.label)) line.label _ line.op (label_found line.label good.0) (op_found d good.1.0 line.op named good.1.1)
item_found d ProgramEnd named good = refl
item_found d (UnitOfWork unit) named good = unit_card_found d unit.name unit.kind unit.prog unit.related named good
item_found d CommandsStart named good = refl
item_found d (CommandCard command) named good = command_found d command named good
item_found d DeckEnd named good = refl

-- two items of one form, name and values are one, in decks of the same names
pub one_item : (a b : DeckView) (i j : Item) → Named a → Named b → Good a i → Good b j → program_names a ≡ program_names b → unit_names a ≡ unit_names b
    → form_of i ≡ form_of j → name_of i ≡ name_of j → values_of a i ≡ values_of b j → i ≡ j
one_item a b i j n m g h programs units form name vs =
    sym (item_found a i n g)
    ∙ (same_item (program_names a) (program_names b) (unit_names a) (unit_names b) (form_of i) (form_of j) (name_of i) (name_of j) (values_of a i) (values_of b j) programs units form name vs
    ∙ item_found b j m h)
  where
    same_item : (p q u v : List (List ℕ)) (f g : CardForm) (x y : List ℕ) (vs ws : List (Option Value)) → p ≡ q → u ≡ v → f ≡ g → x ≡ y → vs ≡ ws → item_of p u f x vs ≡ item_of q v g y ws
    same_item p q u v f g x y vs ws e1 e2 e3 e4 e5 = rw (e1, e2, e3, e4, e5) refl
