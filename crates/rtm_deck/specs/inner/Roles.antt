-- What a card is in the order of a deck, by its form.
use Rattle.std.specs.Prelude.{Bool, true, false, Option, is_some, is_none, List, ℕ}
use Rattle.rtm_deck_items.specs.declared.form.CardForm.{CardForm}
use Rattle.rtm_deck_items.specs.declared.form.CardForm.TheVariants as forms
use Rattle.rtm_deck.specs.declared.role.Role.{Role}
use Rattle.rtm_deck.specs.declared.role.Role.TheVariants.{Region, Program, ProgramEnd, Task, Srb, Commands, Command, End, Line}

-- the role of the cards of a form
abbrev pub role_of : CardForm → Role
role_of forms.Region = Region
role_of forms.Prog = Program
role_of forms.Pend = ProgramEnd
role_of forms.Task = Task
role_of forms.Srb = Srb
role_of forms.Oper = Commands
role_of forms.Cancel = Command
role_of forms.End = End
role_of _ = Line

-- the card stands between PROG and PEND, or is PEND
abbrev pub is_inside_role : Role → Bool
is_inside_role ProgramEnd = true
is_inside_role Line = true
is_inside_role _ = false

-- a card of a program
abbrev pub is_line : Role → Bool
is_line Line = true
is_line _ = false

abbrev pub is_program_role : Role → Bool
is_program_role Program = true
is_program_role _ = false

-- a name stands where none may, or none where one must
abbrev pub is_misnamed_role : Role → Option (List ℕ) → Bool
is_misnamed_role Program name = is_none name
is_misnamed_role Task name = is_none name
is_misnamed_role Srb name = is_none name
is_misnamed_role Line name = false
is_misnamed_role _ name = is_some name
