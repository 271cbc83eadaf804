-- What the operands of a card name, and the first that isn't there.
use Rattle.std.specs.Prelude.{ℕ, Bool, List, [], ◌∷◌, Option, Some, None, if◌then◌else◌}
use Rattle.std.specs.Option.{option_or}
use Rattle.rtm_deck_operands.specs.declared.value.Value.{Value}
use Rattle.rtm_deck_operands.specs.declared.value.Value.TheVariants as values
use Rattle.rtm_deck_operands.specs.declared.slot.Slot.{Slot}
use Rattle.rtm_deck_operands.specs.declared.slot.Kind.{Kind}
use Rattle.rtm_deck_operands.specs.declared.slot.Kind.TheVariants as kinds
use Rattle.rtm_deck_operands.specs.declared.slot.NameOf.{NameOf}
use Rattle.rtm_deck_operands.specs.declared.slot.NameOf.TheVariants.{Program, Task, Srb, OwnLabel, AnyLabel}
use Rattle.rtm_deck_items.specs.declared.why.Why.{Why}
use Rattle.rtm_deck_items.specs.Forms.{slots_of}
use Rattle.rtm_deck_items.specs.Faults.{why_of_name}
use Rattle.rtm_deck.specs.inner.View.{ReadView, SeenView, Refusal}
use Rattle.rtm_deck.specs.inner.Roles.{role_of, is_line, is_program_role}
use Rattle.rtm_deck.specs.inner.Seen.{has_name, with_name}

-- the name is there, with these labels of the own program
abbrev pub finds : SeenView → List (List ℕ) → NameOf → List ℕ → Bool
finds s own Program name = has_name s.programs name
finds s own Task name = has_name s.tasks name
finds s own Srb name = has_name s.srbs name
finds s own OwnLabel name = has_name own name
finds s own AnyLabel name = has_name s.labels name

-- the fault of a value of that kind that names what isn't there
abbrev pub unfound : SeenView → List (List ℕ) → Kind → Option Value → Option Why
unfound s own (kinds.Name named) (Some (values.Name name)) = if finds s own named name then None else Some (why_of_name named)
unfound s own kind value = None

-- the fault of the first of the values of these slots that names what isn't there
abbrev pub first_unfound : SeenView → List (List ℕ) → List Slot → List (Option Value) → Option Why
first_unfound s own [] vs = None
first_unfound s own (slot ∷ slots) [] = None
first_unfound s own (slot ∷ slots) (v ∷ vs) = option_or (unfound s own slot.kind v) (first_unfound s own slots vs)

-- the labels, with those of the cards up to the first that is none of a program
abbrev pub labels_onto : List (List ℕ) → List ReadView → List (List ℕ)
labels_onto labels [] = labels
labels_onto labels (r ∷ rs) = if is_line (role_of r.form) then labels_onto (with_name labels r.name) rs else labels

-- the labels of the program of a card: behind PROG those of the cards that follow
abbrev pub own_labels : List (List ℕ) → ReadView → List ReadView → List (List ℕ)
own_labels own r rs = if is_program_role (role_of r.form) then labels_onto [] rs else own

abbrev pub refusal : ℕ → Why → Refusal
refusal card why = record { card = card; why = why }

-- the fault of the card, else that of the others
abbrev pub nameless_or : ReadView → Option Why → Option Refusal → Option Refusal
nameless_or r (Some why) others = Some (refusal r.number why)
nameless_or r None others = others

-- the least card that names what isn't there
abbrev pub first_nameless : SeenView → List (List ℕ) → List ReadView → Option Refusal
first_nameless s own [] = None
first_nameless s own (r ∷ rs) =
    nameless_or r (first_unfound s (own_labels own r rs) (slots_of r.form) r.values) (first_nameless s (own_labels own r rs) rs)
