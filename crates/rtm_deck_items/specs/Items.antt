-- What the cards of a deck say, one after the other, and how each says it (this profile).
use Rattle.std.specs.Prelude.{ℕ, Bool, List, [], ◌∷◌, ◌++◌, Option, Some, None, map, slice_get, if◌then◌else◌}
use Rattle.std.specs.Option.{option_map}
use Rattle.std.specs.List.{flat_map}
use Rattle.rtm_deck_operands.specs.declared.value.Value.{Value}
use Rattle.rtm_deck_operands.specs.declared.value.Value.TheVariants.{Word, Number, Name, Code, Reason, Flag, Three, Class}
use Rattle.rtm_deck_operands.specs.Name.{trimmed_text}
use Rattle.rtm_deck_items.specs.declared.deck.Line.{Line}
use Rattle.rtm_deck_items.specs.declared.deck.Unit.{Unit as UnitCard}
use Rattle.rtm_deck_items.specs.declared.deck.Command.{Command}
use Rattle.rtm_deck_items.specs.declared.deck.UnitKind.{UnitKind}
use Rattle.rtm_deck_items.specs.declared.deck.UnitKind.TheVariants.{Task, Srb}
use Rattle.rtm_deck_items.specs.declared.form.CardForm.{CardForm}
use Rattle.rtm_deck_items.specs.declared.form.CardForm.TheVariants as forms
use Rattle.rtm_deck_items.specs.declared.op.Op.{Op}
use Rattle.rtm_deck_items.specs.declared.op.Op.TheVariants as ops
use Rattle.rtm_deck_items.specs.View.{ProgramView, DeckView}

-- what one card says
pub data Item : Type 0 where
  RegionCard : (limit : ℕ) (sdwa : Bool) → Item
  ProgramStart : (name : List ℕ) → Item
  ProgramCard : (line : Line) → Item
  ProgramEnd : Item
  UnitOfWork : (unit : UnitCard) → Item
  CommandsStart : Item
  CommandCard : (command : Command) → Item
  DeckEnd : Item

-- a value that is given
abbrev pub some : Value → Option Value
some value = Some value

-- the name of a program, and nothing where there is no such program
abbrev pub program_name : DeckView → ℕ → Option Value
program_name d prog = option_map (λ p. Name p.name) (slice_get d.programs prog)

-- the name of a unit, and nothing where there is no such unit
abbrev pub unit_name : DeckView → ℕ → Option Value
unit_name d unit = option_map (λ u. Name u.name) (slice_get d.units unit)

-- the name of a related task, where there is one
abbrev pub related_name : DeckView → Option ℕ → Option Value
related_name d None = None
related_name d (Some unit) = unit_name d unit

-- the form of the card of an operation
abbrev pub form_of_op : Op → CardForm
form_of_op ops.Nop = forms.Nop
form_of_op (ops.Get class id) = forms.Get
form_of_op (ops.Free class id) = forms.Free
form_of_op (ops.Link prog) = forms.Link
form_of_op (ops.Xctl prog) = forms.Xctl
form_of_op ops.Return = forms.Return
form_of_op (ops.Abend code reason dump step) = forms.Abend
form_of_op (ops.EstaexCt prog term cancel xctl) = forms.EstaexCt
form_of_op (ops.EstaexOv prog term cancel xctl) = forms.EstaexOv
form_of_op ops.EstaexZero = forms.EstaexZero
form_of_op (ops.FrrAdd prog) = forms.FrrAdd
form_of_op ops.FrrDelete = forms.FrrDelete
form_of_op (ops.FrrReplace prog) = forms.FrrReplace
form_of_op ops.FrrPurge = forms.FrrPurge
form_of_op (ops.Attachx unit None term) = forms.Attachx
form_of_op (ops.Attachx unit (Some prog) term) = forms.AttachxEstai
form_of_op (ops.Detach unit stae) = forms.Detach
form_of_op (ops.Abterm unit code reason dump retry) = forms.Abterm
form_of_op (ops.Memterm code) = forms.Memterm
form_of_op (ops.MgrAdd prog space) = forms.MgrAdd
form_of_op (ops.MgrDelete prog space) = forms.MgrDelete
form_of_op (ops.Schedule unit) = forms.Schedule
form_of_op (ops.Wait event) = forms.Wait
form_of_op (ops.WaitTask unit) = forms.WaitTask
form_of_op (ops.Post event) = forms.Post
form_of_op (ops.SetRp setrp) = forms.SetRp
form_of_op (ops.Ret15 rc label) = forms.Ret15
form_of_op (ops.Branch label) = forms.Branch
form_of_op (ops.IfCode code label) = forms.IfCode
form_of_op (ops.IfClup label) = forms.IfClup
form_of_op (ops.IfPerc label) = forms.IfPerc

-- the values of its operands, in the order of its form
abbrev pub values_of_op : DeckView → Op → List (Option Value)
values_of_op d ops.Nop = []
values_of_op d (ops.Get class id) = some (Class class) ∷ some (Number id) ∷ []
values_of_op d (ops.Free class id) = some (Class class) ∷ some (Number id) ∷ []
values_of_op d (ops.Link prog) = program_name d prog ∷ []
values_of_op d (ops.Xctl prog) = program_name d prog ∷ []
values_of_op d ops.Return = []
values_of_op d (ops.Abend code reason dump step) = some (Code code) ∷ option_map Reason reason ∷ some (Flag dump) ∷ some (Flag step) ∷ []
values_of_op d (ops.EstaexCt prog term cancel xctl) = some Word ∷ program_name d prog ∷ some (Flag term) ∷ some (Flag cancel) ∷ some (Flag xctl) ∷ []
values_of_op d (ops.EstaexOv prog term cancel xctl) = some Word ∷ program_name d prog ∷ some (Flag term) ∷ some (Flag cancel) ∷ some (Flag xctl) ∷ []
values_of_op d ops.EstaexZero = some Word ∷ []
values_of_op d (ops.FrrAdd prog) = some Word ∷ program_name d prog ∷ []
values_of_op d ops.FrrDelete = some Word ∷ []
values_of_op d (ops.FrrReplace prog) = some Word ∷ program_name d prog ∷ []
values_of_op d ops.FrrPurge = some Word ∷ []
values_of_op d (ops.Attachx unit None term) = unit_name d unit ∷ []
values_of_op d (ops.Attachx unit (Some prog) term) = unit_name d unit ∷ program_name d prog ∷ some (Flag term) ∷ []
values_of_op d (ops.Detach unit stae) = unit_name d unit ∷ some (Flag stae) ∷ []
values_of_op d (ops.Abterm unit code reason dump retry) = some Word ∷ unit_name d unit ∷ some (Code code) ∷ option_map Reason reason ∷ some (Flag dump) ∷ some (Flag retry) ∷ []
values_of_op d (ops.Memterm code) = some Word ∷ some (Code code) ∷ []
values_of_op d (ops.MgrAdd prog space) = some Word ∷ program_name d prog ∷ some (Flag space) ∷ []
values_of_op d (ops.MgrDelete prog space) = some Word ∷ program_name d prog ∷ some (Flag space) ∷ []
values_of_op d (ops.Schedule unit) = unit_name d unit ∷ []
values_of_op d (ops.Wait event) = some (Number event) ∷ []
values_of_op d (ops.WaitTask unit) = unit_name d unit ∷ []
values_of_op d (ops.Post event) = some (Number event) ∷ []
values_of_op d (ops.SetRp s) = option_map Number s.rc ∷ option_map Name s.retaddr ∷ option_map Flag s.remrec ∷ option_map Code s.compcod ∷ option_map Reason s.reason ∷ option_map Three s.dump ∷ option_map Three s.logrec ∷ option_map Flag s.fresdwa ∷ []
values_of_op d (ops.Ret15 rc label) = some (Number rc) ∷ option_map Name label ∷ []
values_of_op d (ops.Branch label) = some (Name label) ∷ []
values_of_op d (ops.IfCode code label) = some (Code code) ∷ some (Name label) ∷ []
values_of_op d (ops.IfClup label) = some (Name label) ∷ []
values_of_op d (ops.IfPerc label) = some (Name label) ∷ []

-- the form of the card of a unit of work
abbrev pub form_of_kind : UnitKind → CardForm
form_of_kind Task = forms.Task
form_of_kind Srb = forms.Srb

-- the values of its operands: an SRB may have a related task
abbrev pub values_of_unit : DeckView → UnitKind → UnitCard → List (Option Value)
values_of_unit d Task unit = program_name d unit.prog ∷ []
values_of_unit d Srb unit = program_name d unit.prog ∷ related_name d unit.related ∷ []

-- the form of the card that says it
abbrev pub form_of : Item → CardForm
form_of (RegionCard limit sdwa) = forms.Region
form_of (ProgramStart name) = forms.Prog
form_of (ProgramCard line) = form_of_op line.op
form_of ProgramEnd = forms.Pend
form_of (UnitOfWork unit) = form_of_kind unit.kind
form_of CommandsStart = forms.Oper
form_of (CommandCard command) = forms.Cancel
form_of DeckEnd = forms.End

-- the values of the operands of the card that says it
abbrev pub values_of : DeckView → Item → List (Option Value)
values_of d (RegionCard limit sdwa) = some (Number limit) ∷ some (Flag sdwa) ∷ []
values_of d (ProgramStart name) = []
values_of d (ProgramCard line) = values_of_op d line.op
values_of d ProgramEnd = []
values_of d (UnitOfWork unit) = values_of_unit d unit.kind unit
values_of d CommandsStart = []
values_of d (CommandCard command) = unit_name d command.target ∷ some (Number command.at) ∷ some (Flag command.dump) ∷ []
values_of d DeckEnd = []

-- the label of a card without its padding, and nothing where it has none
abbrev pub label_text : Option (List ℕ) → List ℕ
label_text None = []
label_text (Some label) = trimmed_text label

-- what stands in the name field of the card that says it
abbrev pub name_of : Item → List ℕ
name_of (ProgramStart name) = trimmed_text name
name_of (ProgramCard line) = label_text line.label
name_of (UnitOfWork unit) = trimmed_text unit.name
name_of _ = []

-- a program, or a unit of work: what may stand in any order behind REGION and before OPER
pub data Block : Type 0 where
  ProgramBlock : (program : ProgramView) → Block
  UnitBlock : (unit : UnitCard) → Block

-- a program's cards: PROG, those between, and PEND
abbrev pub items_of_block : Block → List Item
items_of_block (ProgramBlock program) = ProgramStart program.name ∷ map ProgramCard program.lines ++ ProgramEnd ∷ []
items_of_block (UnitBlock unit) = UnitOfWork unit ∷ []

-- REGION, where it is given
abbrev pub opening_items : Bool → ℕ → Bool → List Item
opening_items given limit sdwa = if given then RegionCard limit sdwa ∷ [] else []

-- OPER, where it is given, and the commands
abbrev pub closing_items : Bool → List Command → List Item
closing_items given commands = if given then CommandsStart ∷ map CommandCard commands else []

-- what the cards of a deck say whose programs and units stand in the order of these blocks
abbrev pub items_of : Bool → Bool → List Block → DeckView → List Item
items_of region oper blocks d = opening_items region d.limit d.sdwa ++ flat_map items_of_block blocks ++ closing_items oper d.commands ++ DeckEnd ∷ []
