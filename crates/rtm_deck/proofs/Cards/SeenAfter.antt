-- What the reader keeps behind a card that breaks no rule is what the cards up to it say.
use Rattle.std.proofs.Common.{◌≡◌, ℕ, suc, ◌+◌, Bool, true, false, not, ◌||◌, List, [], ◌∷◌, ◌++◌, length, Option, Some, None, is_some, is_none, refl, ap, sym, subst, ◌∙◌, arith, length-append}
use Rattle.std.specs.Prelude.{codes, IsTrue, ◌==◌, if◌then◌else◌}
use Rattle.std.proofs.lemmas.Bool.{ne_eqb}
use Rattle.rtm_cards.specs.Name.{is_name_field}
use Rattle.rtm_cards.specs.Cards.{CardText}
use Rattle.rtm_deck_operands.specs.Name.{name_in}
use Rattle.rtm_deck_items.specs.Faults.{is_called, is_unit_card, since_program}
use Rattle.rtm_deck_spelling.proofs.Behind.{opened, closed, stays, since_start, since_more}
use Rattle.rtm_deck.specs.declared.role.Role.{Role}
use Rattle.rtm_deck.specs.declared.role.Role.TheVariants.{Region, Program, ProgramEnd, Task, Srb, Commands, Command, End, Line}
use Rattle.rtm_deck.specs.inner.View.{SeenView}
use Rattle.rtm_deck.specs.inner.Roles.{is_inside_role, is_misnamed_role}
use Rattle.rtm_deck.specs.inner.Seen.{has_name, has_given, with_name, after, is_doubled_name}
use Rattle.rtm_deck.proofs.Cards.Names.{longer}
use Rattle.rtm_deck.proofs.Cards.SeenCards.{Holds, Sees, Calls, CallsAs, any_card, is_text, holds_more, holds_past, has_more, count_more, count_past}

-- a name that is given
given : (o : Option (List ℕ)) → is_none o ≡ false → (name : List ℕ) × (o ≡ Some name)
given None e = absurd cc
given (Some name) e = (name, refl)

-- none is given
not_given : (o : Option (List ℕ)) → is_some o ≡ false → o ≡ None
not_given None e = refl
not_given (Some name) e = absurd cc

-- a card that breaks no rule of its name and its place
pub record Accepted (s : SeenView) (role : Role) (c : CardText) : Type 0 where
  pub field : IsTrue (is_name_field c.name)
  pub named : is_misnamed_role role (name_in c.name) ≡ false
  pub placed : s.inside ≡ is_inside_role role
  pub single : is_doubled_name s role (name_in c.name) ≡ false

-- a set with a name that it hasn't is longer by one
grown : (names : List (List ℕ)) (o : Option (List ℕ)) → is_none o ≡ false → has_given names o ≡ false → length (with_name names o) ≡ length names + 1
grown names None e h = absurd cc
grown names (Some name) e h = longer names name h

-- a set with a name isn't empty
some_if : (names : List (List ℕ)) (name : List ℕ) (b : Bool) → has_name names name ≡ b → (length (if b then names else names ++ name ∷ []) == 0) ≡ false
some_if [] name true e = absurd cc
some_if (n ∷ ns) name true e = ne_eqb (suc (length ns)) 0 (λ h. absurd (omega (arith, h)))
some_if names name false e = ne_eqb (length (names ++ name ∷ [])) 0 (λ h. absurd (omega (arith, h, length-append names (name ∷ []))))

not_empty : (names : List (List ℕ)) (o : Option (List ℕ)) → is_none o ≡ false → (length (with_name names o) == 0) ≡ false
not_empty names None e = absurd cc
not_empty names (Some name) e = some_if names name (has_name names name) refl

-- there is a card
started : (c : CardText) (cards : List CardText) → true ≡ not (length (c ∷ cards) == 0)
started c cards = sym (ap not (ne_eqb (suc (length cards)) 0 (λ h. absurd (omega (arith, h)))))

unit_or : (c : CardText) (a b : Bool) → is_called (codes "TASK") c ≡ a → is_called (codes "SRB") c ≡ b → is_unit_card c ≡ (a || b)
unit_or c a b e f = λ j. e j || f j

-- past a card that opens, ends and names nothing
past : (s : SeenView) (c : CardText) (cards : List CardText) → Calls c false false false false false false false false → s.inside ≡ false → Sees s cards → Sees (record s { started = true }) (c ∷ cards)
past s c cards calls outside h =
    let unit = unit_or c false false calls.is_task calls.is_srb in
    record {
      started = started c cards;
      inside = h.inside ∙ sym (stays c cards calls.is_prog calls.is_pend);
      oper = h.oper ∙ sym (has_more _ c cards false calls.is_oper);
      ended = h.ended ∙ sym (has_more _ c cards false calls.is_last);
      programs = holds_past s.programs _ c cards calls.is_prog h.programs;
      units = holds_past s.units _ c cards unit h.units;
      tasks = holds_past s.tasks _ c cards calls.is_task h.tasks;
      srbs = holds_past s.srbs _ c cards calls.is_srb h.srbs;
      own = λ e. let clash : true ≡ false = sym e ∙ outside in absurd cc;
      labels = holds_past s.labels _ c cards calls.is_of_text h.labels;
      program_count = h.program_count ∙ sym (count_past _ c cards calls.is_prog);
      unit_count = h.unit_count ∙ sym (count_past is_unit_card c cards unit);
      task_there = h.task_there ∙ ap not (sym (has_more _ c cards false calls.is_task));
      command_count = h.command_count ∙ sym (count_past _ c cards calls.is_cancel);
    }

pub sees_after : (role : Role) (s : SeenView) (c : CardText) (cards : List CardText) → CallsAs c role → Accepted s role c → Sees s cards → Sees (after s role (name_in c.name)) (c ∷ cards)
sees_after Region s c cards calls a h = past s c cards calls a.placed h
sees_after Program s c cards calls a h =
    let unit = unit_or c false false calls.is_task calls.is_srb in
    record {
      started = started c cards;
      inside = sym (opened c cards calls.is_prog);
      oper = h.oper ∙ sym (has_more _ c cards false calls.is_oper);
      ended = h.ended ∙ sym (has_more _ c cards false calls.is_last);
      programs = holds_more s.programs _ c cards calls.is_prog a.field h.programs;
      units = holds_past s.units _ c cards unit h.units;
      tasks = holds_past s.tasks _ c cards calls.is_task h.tasks;
      srbs = holds_past s.srbs _ c cards calls.is_srb h.srbs;
      own = λ e. subst (λ (l : List CardText). Holds [] any_card l) (sym (since_start c cards calls.is_prog)) (λ name is. refl);
      labels = holds_past s.labels _ c cards calls.is_of_text h.labels;
      program_count = grown s.programs (name_in c.name) a.named a.single ∙ ap (λ n. n + 1) h.program_count ∙ sym (count_more _ c cards calls.is_prog);
      unit_count = h.unit_count ∙ sym (count_past is_unit_card c cards unit);
      task_there = h.task_there ∙ ap not (sym (has_more _ c cards false calls.is_task));
      command_count = h.command_count ∙ sym (count_past _ c cards calls.is_cancel);
    }
sees_after ProgramEnd s c cards calls a h =
    let unit = unit_or c false false calls.is_task calls.is_srb in
    record {
      started = started c cards;
      inside = sym (closed c cards calls.is_prog calls.is_pend);
      oper = h.oper ∙ sym (has_more _ c cards false calls.is_oper);
      ended = h.ended ∙ sym (has_more _ c cards false calls.is_last);
      programs = holds_past s.programs _ c cards calls.is_prog h.programs;
      units = holds_past s.units _ c cards unit h.units;
      tasks = holds_past s.tasks _ c cards calls.is_task h.tasks;
      srbs = holds_past s.srbs _ c cards calls.is_srb h.srbs;
      own = λ e. absurd cc;
      labels = subst (λ (o : Option (List ℕ)). Holds (with_name s.labels o) is_text (c ∷ cards)) (not_given (name_in c.name) a.named) (holds_more s.labels is_text c cards calls.is_of_text a.field h.labels);
      program_count = h.program_count ∙ sym (count_past _ c cards calls.is_prog);
      unit_count = h.unit_count ∙ sym (count_past is_unit_card c cards unit);
      task_there = h.task_there ∙ ap not (sym (has_more _ c cards false calls.is_task));
      command_count = h.command_count ∙ sym (count_past _ c cards calls.is_cancel);
    }
sees_after Task s c cards calls a h =
    let unit = unit_or c true false calls.is_task calls.is_srb in
    record {
      started = started c cards;
      inside = h.inside ∙ sym (stays c cards calls.is_prog calls.is_pend);
      oper = h.oper ∙ sym (has_more _ c cards false calls.is_oper);
      ended = h.ended ∙ sym (has_more _ c cards false calls.is_last);
      programs = holds_past s.programs _ c cards calls.is_prog h.programs;
      units = holds_more s.units is_unit_card c cards unit a.field h.units;
      tasks = holds_more s.tasks _ c cards calls.is_task a.field h.tasks;
      srbs = holds_past s.srbs _ c cards calls.is_srb h.srbs;
      own = λ e. let clash : true ≡ false = sym e ∙ a.placed in absurd cc;
      labels = holds_past s.labels _ c cards calls.is_of_text h.labels;
      program_count = h.program_count ∙ sym (count_past _ c cards calls.is_prog);
      unit_count = grown s.units (name_in c.name) a.named a.single ∙ ap (λ n. n + 1) h.unit_count ∙ sym (count_more is_unit_card c cards unit);
      task_there = not_empty s.tasks (name_in c.name) a.named ∙ ap not (sym (has_more _ c cards true calls.is_task));
      command_count = h.command_count ∙ sym (count_past _ c cards calls.is_cancel);
    }
sees_after Srb s c cards calls a h =
    let unit = unit_or c false true calls.is_task calls.is_srb in
    record {
      started = started c cards;
      inside = h.inside ∙ sym (stays c cards calls.is_prog calls.is_pend);
      oper = h.oper ∙ sym (has_more _ c cards false calls.is_oper);
      ended = h.ended ∙ sym (has_more _ c cards false calls.is_last);
      programs = holds_past s.programs _ c cards calls.is_prog h.programs;
      units = holds_more s.units is_unit_card c cards unit a.field h.units;
      tasks = holds_past s.tasks _ c cards calls.is_task h.tasks;
      srbs = holds_more s.srbs _ c cards calls.is_srb a.field h.srbs;
      own = λ e. let clash : true ≡ false = sym e ∙ a.placed in absurd cc;
      labels = holds_past s.labels _ c cards calls.is_of_text h.labels;
      program_count = h.program_count ∙ sym (count_past _ c cards calls.is_prog);
      unit_count = grown s.units (name_in c.name) a.named a.single ∙ ap (λ n. n + 1) h.unit_count ∙ sym (count_more is_unit_card c cards unit);
      task_there = h.task_there ∙ ap not (sym (has_more _ c cards false calls.is_task));
      command_count = h.command_count ∙ sym (count_past _ c cards calls.is_cancel);
    }
sees_after Commands s c cards calls a h =
    let unit = unit_or c false false calls.is_task calls.is_srb in
    record {
      started = started c cards;
      inside = h.inside ∙ sym (stays c cards calls.is_prog calls.is_pend);
      oper = sym (has_more _ c cards true calls.is_oper);
      ended = h.ended ∙ sym (has_more _ c cards false calls.is_last);
      programs = holds_past s.programs _ c cards calls.is_prog h.programs;
      units = holds_past s.units _ c cards unit h.units;
      tasks = holds_past s.tasks _ c cards calls.is_task h.tasks;
      srbs = holds_past s.srbs _ c cards calls.is_srb h.srbs;
      own = λ e. let clash : true ≡ false = sym e ∙ a.placed in absurd cc;
      labels = holds_past s.labels _ c cards calls.is_of_text h.labels;
      program_count = h.program_count ∙ sym (count_past _ c cards calls.is_prog);
      unit_count = h.unit_count ∙ sym (count_past is_unit_card c cards unit);
      task_there = h.task_there ∙ ap not (sym (has_more _ c cards false calls.is_task));
      command_count = h.command_count ∙ sym (count_past _ c cards calls.is_cancel);
    }
sees_after Command s c cards calls a h =
    let unit = unit_or c false false calls.is_task calls.is_srb in
    record {
      started = started c cards;
      inside = h.inside ∙ sym (stays c cards calls.is_prog calls.is_pend);
      oper = h.oper ∙ sym (has_more _ c cards false calls.is_oper);
      ended = h.ended ∙ sym (has_more _ c cards false calls.is_last);
      programs = holds_past s.programs _ c cards calls.is_prog h.programs;
      units = holds_past s.units _ c cards unit h.units;
      tasks = holds_past s.tasks _ c cards calls.is_task h.tasks;
      srbs = holds_past s.srbs _ c cards calls.is_srb h.srbs;
      own = λ e. let clash : true ≡ false = sym e ∙ a.placed in absurd cc;
      labels = holds_past s.labels _ c cards calls.is_of_text h.labels;
      program_count = h.program_count ∙ sym (count_past _ c cards calls.is_prog);
      unit_count = h.unit_count ∙ sym (count_past is_unit_card c cards unit);
      task_there = h.task_there ∙ ap not (sym (has_more _ c cards false calls.is_task));
      command_count = ap (λ n. n + 1) h.command_count ∙ sym (count_more _ c cards calls.is_cancel);
    }
sees_after End s c cards calls a h =
    let unit = unit_or c false false calls.is_task calls.is_srb in
    record {
      started = started c cards;
      inside = h.inside ∙ sym (stays c cards calls.is_prog calls.is_pend);
      oper = h.oper ∙ sym (has_more _ c cards false calls.is_oper);
      ended = sym (has_more _ c cards true calls.is_last);
      programs = holds_past s.programs _ c cards calls.is_prog h.programs;
      units = holds_past s.units _ c cards unit h.units;
      tasks = holds_past s.tasks _ c cards calls.is_task h.tasks;
      srbs = holds_past s.srbs _ c cards calls.is_srb h.srbs;
      own = λ e. let clash : true ≡ false = sym e ∙ a.placed in absurd cc;
      labels = holds_past s.labels _ c cards calls.is_of_text h.labels;
      program_count = h.program_count ∙ sym (count_past _ c cards calls.is_prog);
      unit_count = h.unit_count ∙ sym (count_past is_unit_card c cards unit);
      task_there = h.task_there ∙ ap not (sym (has_more _ c cards false calls.is_task));
      command_count = h.command_count ∙ sym (count_past _ c cards calls.is_cancel);
    }
sees_after Line s c cards calls a h =
    let unit = unit_or c false false calls.is_task calls.is_srb in
    record {
      started = started c cards;
      inside = h.inside ∙ sym (stays c cards calls.is_prog calls.is_pend);
      oper = h.oper ∙ sym (has_more _ c cards false calls.is_oper);
      ended = h.ended ∙ sym (has_more _ c cards false calls.is_last);
      programs = holds_past s.programs _ c cards calls.is_prog h.programs;
      units = holds_past s.units _ c cards unit h.units;
      tasks = holds_past s.tasks _ c cards calls.is_task h.tasks;
      srbs = holds_past s.srbs _ c cards calls.is_srb h.srbs;
      own = λ e. subst (λ (l : List CardText). Holds (with_name s.own (name_in c.name)) any_card l) (sym (since_more c cards calls.is_prog)) (holds_more s.own any_card c (since_program cards) refl a.field (h.own e));
      labels = holds_more s.labels is_text c cards calls.is_of_text a.field h.labels;
      program_count = h.program_count ∙ sym (count_past _ c cards calls.is_prog);
      unit_count = h.unit_count ∙ sym (count_past is_unit_card c cards unit);
      task_there = h.task_there ∙ ap not (sym (has_more _ c cards false calls.is_task));
      command_count = h.command_count ∙ sym (count_past _ c cards calls.is_cancel);
    }
