-- What a card of a program says is the operation that is read from it.
use Rattle.std.proofs.Common.{◌≡◌, ℕ, ◌≤◌, ◌<◌, Bool, true, false, not, ◌&&◌, ◌||◌, List, [], ◌∷◌, Option, Some, None, is_some, refl, ap, arith, eqb}
use Rattle.std.specs.Prelude.{IsTrue, nat_le, unwrap_or, if◌then◌else◌}
use Rattle.std.specs.Option.{option_map}
use Rattle.std.specs.List.{list_any}
use Rattle.std.proofs.lemmas.Bool.{and_parts, and_from, leb-true, le-leb, lt-ltb, not-true, eqb-false, eqb-true}
use Rattle.rtm_codes.specs.declared.code.Code.TheVariants.{Sys, User}
use Rattle.rtm_deck_operands.specs.declared.value.Value.{Value}
use Rattle.rtm_deck_operands.specs.declared.value.Value.TheVariants as values
use Rattle.rtm_deck_operands.specs.declared.value.Res.TheVariants as classes
use Rattle.rtm_deck_operands.specs.declared.slot.Kind.TheVariants as kinds
use Rattle.rtm_deck_operands.specs.declared.slot.NameOf.TheVariants as names
use Rattle.rtm_deck_operands.specs.declared.slot.Slot.{Slot}
use Rattle.rtm_deck_operands.specs.Name.{is_padded_name}
use Rattle.rtm_deck_operands.specs.Value.{is_return_code}
use Rattle.rtm_deck_operands.specs.Slot.{slot_fits, slots_fit, positional_slot, optional_slot}
use Rattle.rtm_deck_items.specs.declared.why.Why.{Why}
use Rattle.rtm_deck_items.specs.declared.deck.Line.{Line}
use Rattle.rtm_deck_items.specs.declared.form.CardForm.{CardForm}
use Rattle.rtm_deck_items.specs.declared.form.CardForm.TheVariants as forms
use Rattle.rtm_deck_items.specs.Forms.{slots_of, needs_some}
use Rattle.rtm_deck_items.specs.View.{DeckView}
use Rattle.rtm_deck_items.specs.Items.{some, program_name, unit_name, form_of_op, values_of_op}
use Rattle.rtm_deck_items.specs.WellFormed.{is_code, is_abend_code, is_reason, is_setrp_rc, is_setrp_code, is_program, is_task_in, is_srb_in, is_own_label, is_retry_label, has_label, has_label_anywhere, is_op}
use Rattle.rtm_deck.specs.inner.View.{SeenView}
use Rattle.rtm_deck.specs.inner.Roles.{role_of, is_line}
use Rattle.rtm_deck.specs.inner.Seen.{has_name}
use Rattle.rtm_deck.specs.inner.References.{unfound}
use Rattle.rtm_deck.specs.inner.Operations.{flag_in, number_in, reason_in, code_in, name_in, three_in, class_in, narrow, index_in, named_number_in, no_name, op_of}

-- Names that are there have the numbers of what they name.
pub record Places (e : SeenView) (d : DeckView) : Type 0 where
  pub program_said : (name : List ℕ) → has_name e.programs name ≡ true → program_name d (index_in e.programs name) ≡ Some (values.Name name)
  pub program_there : (name : List ℕ) → has_name e.programs name ≡ true → IsTrue (is_program d (index_in e.programs name))
  pub task_said : (name : List ℕ) → has_name e.tasks name ≡ true → unit_name d (index_in e.units name) ≡ Some (values.Name name)
  pub task_there : (name : List ℕ) → has_name e.tasks name ≡ true → IsTrue (is_task_in d (index_in e.units name))
  pub srb_said : (name : List ℕ) → has_name e.srbs name ≡ true → unit_name d (index_in e.units name) ≡ Some (values.Name name)
  pub srb_there : (name : List ℕ) → has_name e.srbs name ≡ true → IsTrue (is_srb_in d (index_in e.units name))
  pub labelled : (name : List ℕ) → has_name e.labels name ≡ true → IsTrue (has_label_anywhere d name)

-- Each operand names what is there.
abbrev pub FindsEach : SeenView → List (List ℕ) → List Slot → List (Option Value) → Type 0
FindsEach e own [] vs = Unit {0}
FindsEach e own (slot ∷ slots) [] = Unit {0}
FindsEach e own (slot ∷ slots) (v ∷ vs) = (unfound e own slot.kind v ≡ None) × FindsEach e own slots vs

-- what isn't refused is found
pub found : (b : Bool) (why : Why) → (if b then None else Some why) ≡ None → b ≡ true
found true why e = refl
found false why e = absurd cc

-- what holds of each list of values that fit
abbrev pub Each : List Slot → (List (Option Value) → Type 0) → Type 0
Each [] P = P []
Each (slot ∷ slots) P = (v : Option Value) → IsTrue (slot_fits slot v) → Each slots (λ vs. P (v ∷ vs))

pub for_shapes : (slots : List Slot) (P : List (Option Value) → Type 0) → Each slots P → (vs : List (Option Value)) → IsTrue (slots_fit slots vs) → P vs
for_shapes [] P p [] h = p
for_shapes [] P p (v ∷ vs) h = absurd cc
for_shapes (slot ∷ slots) P p [] h = absurd cc
for_shapes (slot ∷ slots) P p (v ∷ vs) h =
    let parts = and_parts (slot_fits slot v) (slots_fit slots vs) h in
    for_shapes slots (λ vs. P (v ∷ vs)) (p v parts.0) vs parts.1

pub cons : {x y : Option Value} {xs ys : List (Option Value)} → x ≡ y → xs ≡ ys → x ∷ xs ≡ y ∷ ys
cons e f = λ j. e j ∷ f j

-- One value of each kind.

word_said : (v : Option Value) → IsTrue (slot_fits (positional_slot (kinds.Word [])) v) → some values.Word ≡ v
word_said (Some values.Word) h = refl
word_said _ h = absurd cc

class_said : (v : Option Value) → IsTrue (slot_fits (positional_slot kinds.Class) v) → some (values.Class (unwrap_or (class_in v) classes.Enq)) ≡ v
class_said (Some (values.Class class)) h = refl
class_said _ h = absurd cc

pub flag_said : (v : Option Value) → IsTrue (slot_fits (positional_slot kinds.YesNo) v) → some (values.Flag (unwrap_or (flag_in v) false)) ≡ v
flag_said (Some (values.Flag flag)) h = refl
flag_said _ h = absurd cc

scope_said : (v : Option Value) → IsTrue (slot_fits (positional_slot kinds.Scope) v) → some (values.Flag (unwrap_or (flag_in v) false)) ≡ v
scope_said (Some (values.Flag flag)) h = refl
scope_said _ h = absurd cc

pub number_said : (least most : ℕ) (v : Option Value) → IsTrue (slot_fits (positional_slot (kinds.Number least most)) v) → some (values.Number (unwrap_or (number_in v) 0)) ≡ v
number_said least most (Some (values.Number n)) h = refl
number_said least most _ h = absurd cc

pub number_least : (least most : ℕ) (v : Option Value) → IsTrue (slot_fits (positional_slot (kinds.Number least most)) v) → IsTrue (nat_le least (unwrap_or (number_in v) 0))
number_least least most (Some (values.Number n)) h = (and_parts (nat_le least n) (nat_le n most) h).0
number_least least most _ h = absurd cc

pub number_most : (least most : ℕ) (v : Option Value) → IsTrue (slot_fits (positional_slot (kinds.Number least most)) v) → IsTrue (nat_le (unwrap_or (number_in v) 0) most)
number_most least most (Some (values.Number n)) h = (and_parts (nat_le least n) (nat_le n most) h).1
number_most least most _ h = absurd cc

narrowed : (n : ℕ) → n < 256 → narrow n ≡ n
narrowed n h = rw (lt-ltb n 256 h) refl

byte_said : (v : Option Value) → IsTrue (slot_fits (positional_slot (kinds.Number 0 255)) v) → some (values.Number (narrow (unwrap_or (number_in v) 0))) ≡ v
byte_said (Some (values.Number n)) h =
    let most : n ≤ 255 = leb-true n 255 (and_parts (nat_le 0 n) (nat_le n 255) h).1 in
    ap (λ (m : ℕ). some (values.Number m)) (narrowed n (omega arith))
byte_said _ h = absurd cc

byte_most : (v : Option Value) → IsTrue (slot_fits (positional_slot (kinds.Number 0 255)) v) → IsTrue (nat_le (narrow (unwrap_or (number_in v) 0)) 255)
byte_most (Some (values.Number n)) h =
    let most : n ≤ 255 = leb-true n 255 (and_parts (nat_le 0 n) (nat_le n 255) h).1 in
    rw (narrowed n (omega arith)) (and_parts (nat_le 0 n) (nat_le n 255) h).1
byte_most _ h = absurd cc

code_said : (v : Option Value) → IsTrue (slot_fits (positional_slot kinds.Code) v) → some (values.Code (unwrap_or (code_in v) (Sys 0))) ≡ v
code_said (Some (values.Code code)) h = refl
code_said _ h = absurd cc

code_there : (v : Option Value) → IsTrue (slot_fits (positional_slot kinds.Code) v) → IsTrue (is_code (unwrap_or (code_in v) (Sys 0)))
code_there (Some (values.Code (Sys n))) h = h
code_there (Some (values.Code (User n))) h = h
code_there _ h = absurd cc

-- 0, 4 and 16 are small
small : (n : ℕ) (a b c : Bool) → eqb n 0 ≡ a → eqb n 4 ≡ b → eqb n 16 ≡ c → IsTrue (a || b || c) → n < 256
small n true b c e f g h = let is = eqb-true n 0 e in omega (arith, is)
small n false true c e f g h = let is = eqb-true n 4 f in omega (arith, is)
small n false false true e f g h = let is = eqb-true n 16 g in omega (arith, is)
small n false false false e f g h = absurd cc

-- a return code that stands there
return_code_said : (v : Option Value) → IsTrue (slot_fits (positional_slot kinds.ReturnCode) v) → some (values.Number (narrow (unwrap_or (number_in v) 0))) ≡ v
return_code_said (Some (values.Number n)) h = ap (λ (m : ℕ). some (values.Number m)) (narrowed n (small n (eqb n 0) (eqb n 4) (eqb n 16) refl refl refl h))
return_code_said _ h = absurd cc

return_code_there : (v : Option Value) → IsTrue (slot_fits (positional_slot kinds.ReturnCode) v) → IsTrue (is_return_code (narrow (unwrap_or (number_in v) 0)))
return_code_there (Some (values.Number n)) h = rw (narrowed n (small n (eqb n 0) (eqb n 4) (eqb n 16) refl refl refl h)) h
return_code_there _ h = absurd cc

abend_said : (v : Option Value) → IsTrue (slot_fits (positional_slot kinds.AbendCode) v) → some (values.Code (unwrap_or (code_in v) (Sys 0))) ≡ v
abend_said (Some (values.Code code)) h = refl
abend_said _ h = absurd cc

not_zero : (n : ℕ) → IsTrue (nat_le n 4095 && not (eqb n 0)) → IsTrue (nat_le 1 n && nat_le n 4095)
not_zero n h =
    let parts = and_parts (nat_le n 4095) (not (eqb n 0)) h in
    let other = eqb-false n 0 (not-true (eqb n 0) parts.1) in
    and_from (nat_le 1 n) (nat_le n 4095) (le-leb 1 n (omega (arith, other))) parts.0

abend_there : (v : Option Value) → IsTrue (slot_fits (positional_slot kinds.AbendCode) v) → IsTrue (is_abend_code (unwrap_or (code_in v) (Sys 0)))
abend_there (Some (values.Code (Sys n))) h = not_zero n h
abend_there (Some (values.Code (User n))) h = (and_parts (nat_le n 4095) true h).0
abend_there _ h = absurd cc

reason_said : (v : Option Value) → IsTrue (slot_fits (optional_slot [] kinds.Reason) v) → option_map values.Reason (reason_in v) ≡ v
reason_said None h = refl
reason_said (Some (values.Reason n)) h = refl
reason_said _ h = absurd cc

reason_there : (v : Option Value) → IsTrue (slot_fits (optional_slot [] kinds.Reason) v) → IsTrue (is_reason (reason_in v))
reason_there None h = refl
reason_there (Some (values.Reason n)) h = let most : n ≤ 4294967295 = leb-true n 4294967295 h in lt-ltb n 4294967296 (omega arith)
reason_there _ h = absurd cc

-- The options of SETRP.

rc_said : (v : Option Value) → IsTrue (slot_fits (optional_slot [] kinds.ReturnCode) v) → option_map values.Number (option_map narrow (number_in v)) ≡ v
rc_said None h = refl
rc_said (Some (values.Number n)) h = ap (λ (m : ℕ). Some (values.Number m)) (narrowed n (small n (eqb n 0) (eqb n 4) (eqb n 16) refl refl refl h))
rc_said _ h = absurd cc

rc_there : (v : Option Value) → IsTrue (slot_fits (optional_slot [] kinds.ReturnCode) v) → IsTrue (is_setrp_rc (option_map narrow (number_in v)))
rc_there None h = refl
rc_there (Some (values.Number n)) h = rw (narrowed n (small n (eqb n 0) (eqb n 4) (eqb n 16) refl refl refl h)) h
rc_there _ h = absurd cc

flag_or_none_said : (v : Option Value) → IsTrue (slot_fits (optional_slot [] kinds.YesNo) v) → option_map values.Flag (flag_in v) ≡ v
flag_or_none_said None h = refl
flag_or_none_said (Some (values.Flag flag)) h = refl
flag_or_none_said _ h = absurd cc

three_said : (v : Option Value) → IsTrue (slot_fits (optional_slot [] kinds.YesNoIgnore) v) → option_map values.Three (three_in v) ≡ v
three_said None h = refl
three_said (Some (values.Three three)) h = refl
three_said _ h = absurd cc

setrp_code_said : (v : Option Value) → IsTrue (slot_fits (optional_slot [] kinds.AbendCode) v) → option_map values.Code (code_in v) ≡ v
setrp_code_said None h = refl
setrp_code_said (Some (values.Code code)) h = refl
setrp_code_said _ h = absurd cc

setrp_code_there : (v : Option Value) → IsTrue (slot_fits (optional_slot [] kinds.AbendCode) v) → IsTrue (is_setrp_code (code_in v))
setrp_code_there None h = refl
setrp_code_there (Some (values.Code (Sys n))) h = not_zero n h
setrp_code_there (Some (values.Code (User n))) h = (and_parts (nat_le n 4095) true h).0
setrp_code_there _ h = absurd cc

retry_said : (v : Option Value) → IsTrue (slot_fits (optional_slot [] (kinds.Name names.AnyLabel)) v) → option_map values.Name (name_in v) ≡ v
retry_said None h = refl
retry_said (Some (values.Name name)) h = refl
retry_said _ h = absurd cc

some_map : {A : Type 0} (f : A → Value) (o : Option A) (v : Option Value) → option_map f o ≡ v → is_some o ≡ is_some v
some_map f None v e = ap is_some e
some_map f (Some x) v e = ap is_some e

any_of_eight : (a b c d e f g h : Bool) → IsTrue (a || (b || (c || (d || (e || (f || (g || (h || false)))))))) → IsTrue (a || b || c || d || e || f || g || h)
any_of_eight true b c d e f g h i = refl
any_of_eight false true c d e f g h i = refl
any_of_eight false false true d e f g h i = refl
any_of_eight false false false true e f g h i = refl
any_of_eight false false false false true f g h i = refl
any_of_eight false false false false false true g h i = refl
any_of_eight false false false false false false true h i = refl
any_of_eight false false false false false false false true i = refl
any_of_eight false false false false false false false false i = absurd cc

module _ (e : SeenView) (d : DeckView) (places : Places e d) (own : List (List ℕ)) where
  pub program_said : (v : Option Value) → IsTrue (slot_fits (positional_slot (kinds.Name names.Program)) v) → unfound e own (kinds.Name names.Program) v ≡ None → program_name d (unwrap_or (named_number_in e.programs v) 0) ≡ v
  program_said (Some (values.Name name)) h f = places.program_said name (found _ _ f)
  program_said _ h f = absurd cc

  pub program_there : (v : Option Value) → IsTrue (slot_fits (positional_slot (kinds.Name names.Program)) v) → unfound e own (kinds.Name names.Program) v ≡ None → IsTrue (is_program d (unwrap_or (named_number_in e.programs v) 0))
  program_there (Some (values.Name name)) h f = places.program_there name (found _ _ f)
  program_there _ h f = absurd cc

  pub task_said : (v : Option Value) → IsTrue (slot_fits (positional_slot (kinds.Name names.Task)) v) → unfound e own (kinds.Name names.Task) v ≡ None → unit_name d (unwrap_or (named_number_in e.units v) 0) ≡ v
  task_said (Some (values.Name name)) h f = places.task_said name (found _ _ f)
  task_said _ h f = absurd cc

  pub task_there : (v : Option Value) → IsTrue (slot_fits (positional_slot (kinds.Name names.Task)) v) → unfound e own (kinds.Name names.Task) v ≡ None → IsTrue (is_task_in d (unwrap_or (named_number_in e.units v) 0))
  task_there (Some (values.Name name)) h f = places.task_there name (found _ _ f)
  task_there _ h f = absurd cc

  srb_said : (v : Option Value) → IsTrue (slot_fits (positional_slot (kinds.Name names.Srb)) v) → unfound e own (kinds.Name names.Srb) v ≡ None → unit_name d (unwrap_or (named_number_in e.units v) 0) ≡ v
  srb_said (Some (values.Name name)) h f = places.srb_said name (found _ _ f)
  srb_said _ h f = absurd cc

  srb_there : (v : Option Value) → IsTrue (slot_fits (positional_slot (kinds.Name names.Srb)) v) → unfound e own (kinds.Name names.Srb) v ≡ None → IsTrue (is_srb_in d (unwrap_or (named_number_in e.units v) 0))
  srb_there (Some (values.Name name)) h f = places.srb_there name (found _ _ f)
  srb_there _ h f = absurd cc

  label_said : (v : Option Value) → IsTrue (slot_fits (positional_slot (kinds.Name names.OwnLabel)) v) → some (values.Name (unwrap_or (name_in v) no_name)) ≡ v
  label_said (Some (values.Name name)) h = refl
  label_said _ h = absurd cc

  abbrev pub Holds : List Line → Type 0
  Holds lines = (name : List ℕ) → has_name own name ≡ true → IsTrue (has_label name lines)

  label_there : (lines : List Line) (v : Option Value) → IsTrue (slot_fits (positional_slot (kinds.Name names.OwnLabel)) v) → unfound e own (kinds.Name names.OwnLabel) v ≡ None → Holds lines → IsTrue (is_own_label lines (unwrap_or (name_in v) no_name))
  label_there lines (Some (values.Name name)) h f there = and_from (is_padded_name name) (has_label name lines) h (there name (found _ _ f))
  label_there lines _ h f there = absurd cc

  retry_there : (v : Option Value) → IsTrue (slot_fits (optional_slot [] (kinds.Name names.AnyLabel)) v) → unfound e own (kinds.Name names.AnyLabel) v ≡ None → IsTrue (is_retry_label d (name_in v))
  retry_there None h f = refl
  retry_there (Some (values.Name name)) h f = and_from (is_padded_name name) (has_label_anywhere d name) h (places.labelled name (found _ _ f))
  retry_there _ h f = absurd cc

  pub record Said (f : CardForm) (vs : List (Option Value)) : Type 0 where
    pub form : form_of_op (op_of e f vs) ≡ f
    pub same : values_of_op d (op_of e f vs) ≡ vs
    pub op : (lines : List Line) → Holds lines → IsTrue (is_op d lines (op_of e f vs))

  abbrev Goal : CardForm → List (Option Value) → Type 0
  Goal f vs = (IsTrue (needs_some f) → IsTrue (list_any is_some vs)) → FindsEach e own (slots_of f) vs → Said f vs

  said_each : (f : CardForm) → is_line (role_of f) ≡ true → Each (slots_of f) (Goal f)
  said_each forms.Region l = absurd cc
  said_each forms.Prog l = absurd cc
  said_each forms.Pend l = absurd cc
  said_each forms.Task l = absurd cc
  said_each forms.Srb l = absurd cc
  said_each forms.Oper l = absurd cc
  said_each forms.Cancel l = absurd cc
  said_each forms.End l = absurd cc
  said_each forms.Nop l = λ some given. record { form = refl; same = refl; op = λ lines own. refl }
  said_each forms.Get l = λ v h w k some given. record { form = refl; same = cons (class_said v h) (cons (number_said 0 999999 w k) refl); op = λ lines own. number_most 0 999999 w k }
  said_each forms.Free l = λ v h w k some given. record { form = refl; same = cons (class_said v h) (cons (number_said 0 999999 w k) refl); op = λ lines own. number_most 0 999999 w k }
  said_each forms.Link l = λ v h some given. record { form = refl; same = cons (program_said v h given.0) refl; op = λ lines own. program_there v h given.0 }
  said_each forms.Xctl l = λ v h some given. record { form = refl; same = cons (program_said v h given.0) refl; op = λ lines own. program_there v h given.0 }
  said_each forms.Return l = λ some given. record { form = refl; same = refl; op = λ lines own. refl }
  said_each forms.Abend l = λ v h w k x m y n some given. record { form = refl; same = cons (abend_said v h) (cons (reason_said w k) (cons (flag_said x m) (cons (flag_said y n) refl))); op = λ lines own. and_from _ _ (abend_there v h) (reason_there w k) }
  said_each forms.EstaexCt l = λ u g v h w k x m y n some given. record { form = refl; same = cons (word_said u g) (cons (program_said v h given.1.0) (cons (flag_said w k) (cons (flag_said x m) (cons (flag_said y n) refl)))); op = λ lines own. program_there v h given.1.0 }
  said_each forms.EstaexOv l = λ u g v h w k x m y n some given. record { form = refl; same = cons (word_said u g) (cons (program_said v h given.1.0) (cons (flag_said w k) (cons (flag_said x m) (cons (flag_said y n) refl)))); op = λ lines own. program_there v h given.1.0 }
  said_each forms.EstaexZero l = λ u g some given. record { form = refl; same = cons (word_said u g) refl; op = λ lines own. refl }
  said_each forms.FrrAdd l = λ u g v h some given. record { form = refl; same = cons (word_said u g) (cons (program_said v h given.1.0) refl); op = λ lines own. program_there v h given.1.0 }
  said_each forms.FrrDelete l = λ u g some given. record { form = refl; same = cons (word_said u g) refl; op = λ lines own. refl }
  said_each forms.FrrReplace l = λ u g v h some given. record { form = refl; same = cons (word_said u g) (cons (program_said v h given.1.0) refl); op = λ lines own. program_there v h given.1.0 }
  said_each forms.FrrPurge l = λ u g some given. record { form = refl; same = cons (word_said u g) refl; op = λ lines own. refl }
  said_each forms.Attachx l = λ v h some given. record { form = refl; same = cons (task_said v h given.0) refl; op = λ lines own. and_from _ _ (and_from _ true (task_there v h given.0) refl) refl }
  said_each forms.AttachxEstai l = λ v h w k x m some given. record { form = refl; same = cons (task_said v h given.0) (cons (program_said w k given.1.0) (cons (flag_said x m) refl)); op = λ lines own. and_from _ true (and_from _ _ (task_there v h given.0) (program_there w k given.1.0)) refl }
  said_each forms.Detach l = λ v h x m some given. record { form = refl; same = cons (task_said v h given.0) (cons (flag_said x m) refl); op = λ lines own. task_there v h given.0 }
  said_each forms.Abterm l = λ u g v h c k w r x m y n some given. record { form = refl; same = cons (word_said u g) (cons (task_said v h given.1.0) (cons (abend_said c k) (cons (reason_said w r) (cons (flag_said x m) (cons (flag_said y n) refl))))); op = λ lines own. and_from _ _ (and_from _ _ (task_there v h given.1.0) (abend_there c k)) (reason_there w r) }
  said_each forms.Memterm l = λ u g c k some given. record { form = refl; same = cons (word_said u g) (cons (abend_said c k) refl); op = λ lines own. abend_there c k }
  said_each forms.MgrAdd l = λ u g v h x m some given. record { form = refl; same = cons (word_said u g) (cons (program_said v h given.1.0) (cons (scope_said x m) refl)); op = λ lines own. program_there v h given.1.0 }
  said_each forms.MgrDelete l = λ u g v h x m some given. record { form = refl; same = cons (word_said u g) (cons (program_said v h given.1.0) (cons (scope_said x m) refl)); op = λ lines own. program_there v h given.1.0 }
  said_each forms.Schedule l = λ v h some given. record { form = refl; same = cons (srb_said v h given.0) refl; op = λ lines own. srb_there v h given.0 }
  said_each forms.Wait l = λ v h some given. record { form = refl; same = cons (byte_said v h) refl; op = λ lines own. byte_most v h }
  said_each forms.WaitTask l = λ v h some given. record { form = refl; same = cons (task_said v h given.0) refl; op = λ lines own. task_there v h given.0 }
  said_each forms.Post l = λ v h some given. record { form = refl; same = cons (byte_said v h) refl; op = λ lines own. byte_most v h }
  said_each forms.SetRp l = λ a ha b hb c hc f hf g hg i hi j hj k hk some given. record {
    form = refl;
    same = cons (rc_said a ha) (cons (retry_said b hb) (cons (flag_or_none_said c hc) (cons (setrp_code_said f hf) (cons (reason_said g hg) (cons (three_said i hi) (cons (three_said j hj) (cons (flag_or_none_said k hk) refl)))))));
    op = λ lines own. and_from _ _ (and_from _ _ (and_from _ _ (and_from _ _ (rc_there a ha) (retry_there b hb given.1.0)) (setrp_code_there f hf)) (reason_there g hg))
        (rw (
          some_map values.Number (option_map narrow (number_in a)) a (rc_said a ha),
          some_map values.Name (name_in b) b (retry_said b hb),
          some_map values.Flag (flag_in c) c (flag_or_none_said c hc),
          some_map values.Code (code_in f) f (setrp_code_said f hf),
          some_map values.Reason (reason_in g) g (reason_said g hg),
          some_map values.Three (three_in i) i (three_said i hi),
          some_map values.Three (three_in j) j (three_said j hj),
          some_map values.Flag (flag_in k) k (flag_or_none_said k hk),
        )
        (any_of_eight (is_some a) (is_some b) (is_some c) (is_some f) (is_some g) (is_some i) (is_some j) (is_some k) (some refl)));
  }
  said_each forms.Ret15 l = λ a ha b hb some given. record {
    form = refl;
    same = cons (return_code_said a ha) (cons (retry_said b hb) refl);
    op = λ lines own. and_from _ _ (return_code_there a ha) (retry_there b hb given.1.0);
  }
  said_each forms.Branch l = λ v h some given. record { form = refl; same = cons (label_said v h) refl; op = λ lines own. label_there lines v h given.0 own }
  said_each forms.IfCode l = λ c k v h some given. record { form = refl; same = cons (code_said c k) (cons (label_said v h) refl); op = λ lines own. and_from _ _ (code_there c k) (label_there lines v h given.1.0 own) }
  said_each forms.IfClup l = λ v h some given. record { form = refl; same = cons (label_said v h) refl; op = λ lines own. label_there lines v h given.0 own }
  said_each forms.IfPerc l = λ v h some given. record { form = refl; same = cons (label_said v h) refl; op = λ lines own. label_there lines v h given.0 own }

  -- the operation that is read from values says them
  pub said : (f : CardForm) → is_line (role_of f) ≡ true → (vs : List (Option Value)) → IsTrue (slots_fit (slots_of f) vs) → (IsTrue (needs_some f) → IsTrue (list_any is_some vs))
      → FindsEach e own (slots_of f) vs → Said f vs
  said f l vs h = for_shapes (slots_of f) (Goal f) (said_each f l) vs h
