-- The forms of cards: the operation, what stands in the name field, where the card may stand, and its operands (this
-- profile; the operands follow the macros' own in Authorized Assembler Services Reference, as far as they are kept).
use Rattle.std.specs.Prelude.{ℕ, Bool, true, false, List, [], ◌∷◌, Option, codes, bytes_eq, find}
use Rattle.rtm_cards.specs.Limits.{most_entries, default_entries}
use Rattle.rtm_deck_operands.specs.declared.slot.Slot.{Slot}
use Rattle.rtm_deck_operands.specs.declared.slot.Kind.TheVariants.{Word, Number, ReturnCode, Name, Code, AbendCode, Reason, YesNo, YesNoIgnore, Class, Scope}
use Rattle.rtm_deck_operands.specs.declared.slot.NameOf.TheVariants.{Program, OwnLabel, AnyLabel}
use Rattle.rtm_deck_operands.specs.declared.slot.NameOf.TheVariants as names
use Rattle.rtm_deck_operands.specs.Slot.{positional_slot, needed_slot, optional_slot, default_flag, default_number}
use Rattle.rtm_deck_items.specs.declared.form.CardForm.{CardForm}
use Rattle.rtm_deck_items.specs.declared.form.CardForm.TheVariants.{Region, Prog, Pend, Task, Srb, Oper, Cancel, End, Nop, Get, Free, Link, Xctl, Return, Abend, EstaexCt, EstaexOv, EstaexZero, FrrAdd, FrrDelete, FrrReplace, FrrPurge, Attachx, AttachxEstai, Detach, Abterm, Memterm, MgrAdd, MgrDelete, Schedule, Wait, WaitTask, Post, SetRp, Ret15, Branch, IfCode, IfClup, IfPerc}
use Rattle.rtm_deck_items.specs.declared.form.NameField.{NameField}
use Rattle.rtm_deck_items.specs.declared.form.NameField.TheVariants.{Needed, Allowed, Refused}

-- all forms of cards
abbrev pub all_forms : List CardForm
all_forms = Region ∷ Prog ∷ Pend ∷ Task ∷ Srb ∷ Oper ∷ Cancel ∷ End ∷ Nop ∷ Get ∷ Free ∷ Link ∷ Xctl ∷ Return ∷ Abend ∷ EstaexCt ∷ EstaexOv ∷ EstaexZero ∷ FrrAdd ∷ FrrDelete ∷ FrrReplace ∷ FrrPurge ∷ Attachx ∷ AttachxEstai ∷ Detach ∷ Abterm ∷ Memterm ∷ MgrAdd ∷ MgrDelete ∷ Schedule ∷ Wait ∷ WaitTask ∷ Post ∷ SetRp ∷ Ret15 ∷ Branch ∷ IfCode ∷ IfClup ∷ IfPerc ∷ []

-- what stands in the operation field
abbrev pub operation_of : CardForm → List ℕ
operation_of Region = codes "REGION"
operation_of Prog = codes "PROG"
operation_of Pend = codes "PEND"
operation_of Task = codes "TASK"
operation_of Srb = codes "SRB"
operation_of Oper = codes "OPER"
operation_of Cancel = codes "CANCEL"
operation_of End = codes "END"
operation_of Nop = codes "NOP"
operation_of Get = codes "GET"
operation_of Free = codes "FREE"
operation_of Link = codes "LINK"
operation_of Xctl = codes "XCTL"
operation_of Return = codes "RETURN"
operation_of Abend = codes "ABEND"
operation_of EstaexCt = codes "ESTAEX"
operation_of EstaexOv = codes "ESTAEX"
operation_of EstaexZero = codes "ESTAEX"
operation_of FrrAdd = codes "SETFRR"
operation_of FrrDelete = codes "SETFRR"
operation_of FrrReplace = codes "SETFRR"
operation_of FrrPurge = codes "SETFRR"
operation_of Attachx = codes "ATTACHX"
operation_of AttachxEstai = codes "ATTACHX"
operation_of Detach = codes "DETACH"
operation_of Abterm = codes "CALLRTM"
operation_of Memterm = codes "CALLRTM"
operation_of MgrAdd = codes "RESMGR"
operation_of MgrDelete = codes "RESMGR"
operation_of Schedule = codes "SCHEDULE"
operation_of Wait = codes "WAIT"
operation_of WaitTask = codes "WAITT"
operation_of Post = codes "POST"
operation_of SetRp = codes "SETRP"
operation_of Ret15 = codes "RET15"
operation_of Branch = codes "B"
operation_of IfCode = codes "IFCODE"
operation_of IfClup = codes "IFCLUP"
operation_of IfPerc = codes "IFPERC"

-- the operands, in the order in which they are written: positional ones first
abbrev pub slots_of : CardForm → List Slot
slots_of Region = default_number (codes "LIMIT   ") (Number 1 most_entries) default_entries ∷ default_flag (codes "SDWA    ") YesNo true ∷ []
slots_of Prog = []
slots_of Pend = []
slots_of Task = needed_slot (codes "PGM     ") (Name Program) ∷ []
slots_of Srb = needed_slot (codes "PGM     ") (Name Program) ∷ optional_slot (codes "TASK    ") (Name names.Task) ∷ []
slots_of Oper = []
slots_of Cancel = positional_slot (Name names.Task) ∷ default_number (codes "AT      ") (Number 0 most_entries) 0 ∷ default_flag (codes "DUMP    ") YesNo false ∷ []
slots_of End = []
slots_of Nop = []
slots_of Get = positional_slot Class ∷ positional_slot (Number 0 999999) ∷ []
slots_of Free = positional_slot Class ∷ positional_slot (Number 0 999999) ∷ []
slots_of Link = positional_slot (Name Program) ∷ []
slots_of Xctl = positional_slot (Name Program) ∷ []
slots_of Return = []
slots_of Abend = positional_slot AbendCode ∷ optional_slot (codes "REASON  ") Reason ∷ default_flag (codes "DUMP    ") YesNo false ∷ default_flag (codes "STEP    ") YesNo false ∷ []
slots_of EstaexCt = positional_slot (Word (codes "CT      ")) ∷ needed_slot (codes "PGM     ") (Name Program) ∷ default_flag (codes "TERM    ") YesNo false ∷ default_flag (codes "CANCEL  ") YesNo true ∷ default_flag (codes "XCTL    ") YesNo false ∷ []
slots_of EstaexOv = positional_slot (Word (codes "OV      ")) ∷ needed_slot (codes "PGM     ") (Name Program) ∷ default_flag (codes "TERM    ") YesNo false ∷ default_flag (codes "CANCEL  ") YesNo true ∷ default_flag (codes "XCTL    ") YesNo false ∷ []
slots_of EstaexZero = positional_slot (Word (codes "0       ")) ∷ []
slots_of FrrAdd = positional_slot (Word (codes "A       ")) ∷ needed_slot (codes "PGM     ") (Name Program) ∷ []
slots_of FrrDelete = positional_slot (Word (codes "D       ")) ∷ []
slots_of FrrReplace = positional_slot (Word (codes "R       ")) ∷ needed_slot (codes "PGM     ") (Name Program) ∷ []
slots_of FrrPurge = positional_slot (Word (codes "P       ")) ∷ []
slots_of Attachx = positional_slot (Name names.Task) ∷ []
slots_of AttachxEstai = positional_slot (Name names.Task) ∷ needed_slot (codes "ESTAI   ") (Name Program) ∷ default_flag (codes "TERM    ") YesNo false ∷ []
slots_of Detach = positional_slot (Name names.Task) ∷ default_flag (codes "STAE    ") YesNo false ∷ []
slots_of Abterm = positional_slot (Word (codes "ABTERM  ")) ∷ needed_slot (codes "TASK    ") (Name names.Task) ∷ needed_slot (codes "COMPCOD ") AbendCode ∷ optional_slot (codes "REASON  ") Reason ∷ default_flag (codes "DUMP    ") YesNo false ∷ default_flag (codes "RETRY   ") YesNo true ∷ []
slots_of Memterm = positional_slot (Word (codes "MEMTERM ")) ∷ needed_slot (codes "COMPCOD ") AbendCode ∷ []
slots_of MgrAdd = positional_slot (Word (codes "ADD     ")) ∷ needed_slot (codes "PGM     ") (Name Program) ∷ needed_slot (codes "TYPE    ") Scope ∷ []
slots_of MgrDelete = positional_slot (Word (codes "DELETE  ")) ∷ needed_slot (codes "PGM     ") (Name Program) ∷ needed_slot (codes "TYPE    ") Scope ∷ []
slots_of Schedule = positional_slot (Name names.Srb) ∷ []
slots_of Wait = positional_slot (Number 0 255) ∷ []
slots_of WaitTask = positional_slot (Name names.Task) ∷ []
slots_of Post = positional_slot (Number 0 255) ∷ []
slots_of SetRp = optional_slot (codes "RC      ") ReturnCode ∷ optional_slot (codes "RETADDR ") (Name AnyLabel) ∷ optional_slot (codes "REMREC  ") YesNo ∷ optional_slot (codes "COMPCOD ") AbendCode ∷ optional_slot (codes "REASON  ") Reason ∷ optional_slot (codes "DUMP    ") YesNoIgnore ∷ optional_slot (codes "RECORD  ") YesNoIgnore ∷ optional_slot (codes "FRESDWA ") YesNo ∷ []
slots_of Ret15 = positional_slot ReturnCode ∷ optional_slot (codes "RETADDR ") (Name AnyLabel) ∷ []
slots_of Branch = positional_slot (Name OwnLabel) ∷ []
slots_of IfCode = positional_slot Code ∷ positional_slot (Name OwnLabel) ∷ []
slots_of IfClup = positional_slot (Name OwnLabel) ∷ []
slots_of IfPerc = positional_slot (Name OwnLabel) ∷ []

-- at least one operand has to stand there, though none is needed
abbrev pub needs_some : CardForm → Bool
needs_some Region = true
needs_some SetRp = true
needs_some _ = false

-- programs and units of work are named, the cards of a program may have labels, and the others have no name
abbrev pub name_field : CardForm → NameField
name_field Region = Refused
name_field Prog = Needed
name_field Pend = Refused
name_field Task = Needed
name_field Srb = Needed
name_field Oper = Refused
name_field Cancel = Refused
name_field End = Refused
name_field _ = Allowed

-- the card stands between PROG and PEND, or is PEND
abbrev pub is_inside : CardForm → Bool
is_inside Region = false
is_inside Prog = false
is_inside Task = false
is_inside Srb = false
is_inside Oper = false
is_inside Cancel = false
is_inside End = false
is_inside _ = true

-- the first form of that operation; none where no card is called so
abbrev pub form_named : List ℕ → Option CardForm
form_named op = find (λ form. bytes_eq (operation_of form) op) all_forms
