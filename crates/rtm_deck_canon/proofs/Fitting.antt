-- The values of the items of a well formed deck fit their slots.
use Rattle.std.proofs.Common.{◌≡◌, ℕ, zero, suc, ◌<◌, ◌≤◌, Bool, true, false, eqb, not, ◌&&◌, List, [], ◌∷◌, length, Option, Some, None, refl, arith}
use Rattle.std.specs.Prelude.{IsTrue, slice_get, nat_le, codes, replicate}
use Rattle.std.specs.Option.{option_map, option_map_or}
use Rattle.std.specs.List.{list_all}
use Rattle.std.proofs.lemmas.Bool.{and_parts, and_from, leb-true, le-leb, ltb-true, ne_eqb}
use Rattle.rtm_codes.specs.declared.code.Code.{Code}
use Rattle.rtm_codes.specs.declared.code.Code.TheVariants.{Sys, User}
use Rattle.rtm_deck_operands.specs.declared.value.Value.{Value}
use Rattle.rtm_deck_operands.specs.declared.value.Value.TheVariants as values
use Rattle.rtm_deck_operands.specs.declared.value.Three.{Three}
use Rattle.rtm_deck_operands.specs.declared.slot.Kind.TheVariants as kinds
use Rattle.rtm_deck_operands.specs.declared.slot.NameOf.{NameOf}
use Rattle.rtm_deck_operands.specs.declared.slot.NameOf.TheVariants as names
use Rattle.rtm_deck_operands.specs.declared.slot.LeftOut.{LeftOut}
use Rattle.rtm_deck_operands.specs.declared.slot.LeftOut.TheVariants as left_out
use Rattle.rtm_deck_operands.specs.Name.{is_padded_name}
use Rattle.rtm_deck_operands.specs.Slot.{blank, slot_fits, slots_fit, optional_slot}
use Rattle.rtm_cards.specs.Limits.{most_entries}
use Rattle.rtm_deck_operands.specs.Value.{is_return_code}
use Rattle.rtm_deck_operands.specs.Value.{is_abend_code as is_abend_value}
use Rattle.rtm_deck_items.specs.declared.deck.Line.{Line}
use Rattle.rtm_deck_items.specs.declared.deck.Unit.{Unit as UnitCard}
use Rattle.rtm_deck_items.specs.declared.deck.Command.{Command}
use Rattle.rtm_deck_items.specs.declared.deck.UnitKind.{UnitKind}
use Rattle.rtm_deck_items.specs.declared.deck.UnitKind.TheVariants.{Task, Srb}
use Rattle.rtm_deck_items.specs.declared.op.Op.{Op}
use Rattle.rtm_deck_items.specs.declared.op.Op.TheVariants as ops
use Rattle.rtm_deck_items.specs.declared.op.Setrp.{Setrp}
use Rattle.rtm_deck_items.specs.View.{ProgramView, DeckView}
use Rattle.rtm_deck_items.specs.Forms.{slots_of}
use Rattle.rtm_deck_items.specs.Items.{RegionCard, program_name, unit_name, related_name, form_of_op, values_of_op, form_of_kind, values_of_unit}
use Rattle.rtm_deck_items.specs.Reading.{is_task_card}
use Rattle.rtm_deck_items.specs.WellFormed.{is_well_formed, is_code, is_abend_code, is_reason, is_setrp_rc, is_setrp_code, gives_some, is_program, is_task_in, is_srb_in, is_own_label, is_retry_label, has_label, has_label_anywhere, is_setrp, is_op, is_label, labels_in, are_distinct, is_program_of, is_related, is_unit_of, is_command_of}
use Rattle.rtm_deck_items.proofs.FormFacts.{conditions, limits}
use Rattle.rtm_deck_canon.proofs.Each.{each_test}
use Rattle.rtm_deck_canon.specs.Fits.{item_fits, line_fits, program_fits, unit_fits, command_fits}

-- the value is a name
record Named (value : Option Value) : Type 0 where
  bytes : List ℕ
  is : value ≡ Some (values.Name bytes)
  padded : IsTrue (is_padded_name bytes)

named_program : (ps : List ProgramView) (prog : ℕ) → IsTrue (list_all (λ (p : ProgramView). is_padded_name p.name) ps) → prog < length ps
    → Named (option_map (λ (p : ProgramView). values.Name p.name) (slice_get ps prog))
named_program [] prog h there = absurd (omega arith)
named_program (p ∷ ps) zero h there = record { bytes = p.name; is = refl; padded = (and_parts (is_padded_name p.name) _ h).0 }
named_program (p ∷ ps) (suc prog) h there = named_program ps prog (and_parts (is_padded_name p.name) _ h).1 (omega arith)

-- a unit that is there, and passes some test, is named
named_unit : (us : List UnitCard) (unit : ℕ) (test : UnitCard → Bool) → IsTrue (list_all (λ (u : UnitCard). is_padded_name u.name) us) → IsTrue (option_map_or test (slice_get us unit) false)
    → Named (option_map (λ (u : UnitCard). values.Name u.name) (slice_get us unit))
named_unit [] unit test h there = absurd cc
named_unit (u ∷ us) zero test h there = record { bytes = u.name; is = refl; padded = (and_parts (is_padded_name u.name) _ h).0 }
named_unit (u ∷ us) (suc unit) test h there = named_unit us unit test (and_parts (is_padded_name u.name) _ h).1 there

-- a name fits a slot that takes names
fit_name : (named : NameOf) (key : List ℕ) (absent : LeftOut) (value : Option Value) → Named value → IsTrue (slot_fits (record { key = key; kind = kinds.Name named; left_out = absent }) value)
fit_name named key absent value h = rw h.is h.padded

fit_number : (least most n : ℕ) → least ≤ n → n ≤ most → IsTrue (nat_le least n && nat_le n most)
fit_number least most n a b = and_from _ _ (le-leb least n a) (le-leb n most b)

fit_code : (key : List ℕ) (absent : LeftOut) (code : Code) → IsTrue (is_code code) → IsTrue (slot_fits (record { key = key; kind = kinds.Code; left_out = absent }) (Some (values.Code code)))
fit_code key absent (Sys n) h = h
fit_code key absent (User n) h = h

abend_code : (code : Code) → IsTrue (is_abend_code code) → IsTrue (is_abend_value code)
abend_code (Sys n) h =
    let parts = and_parts (nat_le 1 n) (nat_le n 4095) h in
    let some : 1 ≤ n = leb-true 1 n parts.0 in
    and_from (nat_le n 4095) (not (eqb n 0)) parts.1 (rw (ne_eqb n 0 (λ e. absurd (omega (arith, some, e)))) refl)
abend_code (User n) h = and_from (nat_le n 4095) true h refl

fit_abend_code : (key : List ℕ) (absent : LeftOut) (code : Code) → IsTrue (is_abend_code code) → IsTrue (slot_fits (record { key = key; kind = kinds.AbendCode; left_out = absent }) (Some (values.Code code)))
fit_abend_code key absent code h = abend_code code h

fit_reason : (key : List ℕ) (reason : Option ℕ) → IsTrue (is_reason reason) → IsTrue (slot_fits (optional_slot key kinds.Reason) (option_map values.Reason reason))
fit_reason key None h = refl
fit_reason key (Some n) h =
    let below : n < 4294967296 = ltb-true n 4294967296 h in
    le-leb n 4294967295 (omega arith)

fit_return_code : (key : List ℕ) (rc : Option ℕ) → IsTrue (is_setrp_rc rc) → IsTrue (slot_fits (optional_slot key kinds.ReturnCode) (option_map values.Number rc))
fit_return_code key None h = refl
fit_return_code key (Some n) h = h

fit_retry_label : (d : DeckView) (key : List ℕ) (label : Option (List ℕ)) → IsTrue (is_retry_label d label) → IsTrue (slot_fits (optional_slot key (kinds.Name names.AnyLabel)) (option_map values.Name label))
fit_retry_label d key None h = refl
fit_retry_label d key (Some label) h = (and_parts (is_padded_name label) (has_label_anywhere d label) h).0

fit_setrp_code : (key : List ℕ) (code : Option Code) → IsTrue (is_setrp_code code) → IsTrue (slot_fits (optional_slot key kinds.AbendCode) (option_map values.Code code))
fit_setrp_code key None h = refl
fit_setrp_code key (Some code) h = abend_code code h

fit_flag : (key : List ℕ) (flag : Option Bool) → IsTrue (slot_fits (optional_slot key kinds.YesNo) (option_map values.Flag flag))
fit_flag key None = refl
fit_flag key (Some flag) = refl

fit_answer : (key : List ℕ) (answer : Option Three) → IsTrue (slot_fits (optional_slot key kinds.YesNoIgnore) (option_map values.Three answer))
fit_answer key None = refl
fit_answer key (Some answer) = refl

module _ (d : DeckView) (form : IsTrue (is_well_formed d)) where
  -- the program of that number is named
  program : (prog : ℕ) → IsTrue (is_program d prog) → Named (program_name d prog)
  program prog h =
      named_program d.programs prog
      (each_test (is_program_of d) (λ (p : ProgramView). is_padded_name p.name)
      (λ p t. (and_parts (is_padded_name p.name) _ (and_parts (is_padded_name p.name && list_all (λ (line : Line). is_label line.label && is_op d p.lines line.op) p.lines) (are_distinct (labels_in p.lines)) t).0).0)
      d.programs (conditions d form).programs)
      (ltb-true prog (length d.programs) h)

  unit_names : IsTrue (list_all (λ (u : UnitCard). is_padded_name u.name) d.units)
  unit_names =
      each_test (is_unit_of d) (λ (u : UnitCard). is_padded_name u.name)
      (λ u t. (and_parts (is_padded_name u.name) _ (and_parts (is_padded_name u.name && is_program d u.prog) (is_related d u.kind u.related) t).0).0)
      d.units (conditions d form).units

  task : (unit : ℕ) → IsTrue (is_task_in d unit) → Named (unit_name d unit)
  task unit h = named_unit d.units unit is_task_card unit_names h

  srb : (unit : ℕ) → IsTrue (is_srb_in d unit) → Named (unit_name d unit)
  srb unit h = named_unit d.units unit (λ (u : UnitCard). not (is_task_card u)) unit_names h

  -- one name alone
  one_name : (named : NameOf) (key : List ℕ) (absent : LeftOut) (value : Option Value) → Named value → IsTrue (slots_fit (record { key = key; kind = kinds.Name named; left_out = absent } ∷ []) (value ∷ []))
  one_name named key absent value h = and_from _ true (fit_name named key absent value h) refl

  -- a label of the own program
  own_label : (lines : List Line) (label : List ℕ) → IsTrue (is_own_label lines label) → Named (Some (values.Name label))
  own_label lines label h = record { bytes = label; is = refl; padded = (and_parts (is_padded_name label) (has_label label lines) h).0 }

  setrp : (s : Setrp) → IsTrue (is_setrp d s) → IsTrue (slots_fit (slots_of (form_of_op (ops.SetRp s))) (values_of_op d (ops.SetRp s)))
  setrp s h =
      let abcd = and_parts (is_setrp_rc s.rc && is_retry_label d s.retaddr && is_setrp_code s.compcod && is_reason s.reason) (gives_some s) h in
      let abc = and_parts (is_setrp_rc s.rc && is_retry_label d s.retaddr && is_setrp_code s.compcod) (is_reason s.reason) abcd.0 in
      let ab = and_parts (is_setrp_rc s.rc && is_retry_label d s.retaddr) (is_setrp_code s.compcod) abc.0 in
      let a = and_parts (is_setrp_rc s.rc) (is_retry_label d s.retaddr) ab.0 in
      and_from _ _ (fit_return_code (codes "RC      ") s.rc a.0) (and_from _ _ (fit_retry_label d (codes "RETADDR ") s.retaddr a.1) (and_from _ _ (fit_flag (codes "REMREC  ") s.remrec)
      (and_from _ _ (fit_setrp_code (codes "COMPCOD ") s.compcod ab.1) (and_from _ _ (fit_reason (codes "REASON  ") s.reason abc.1) (and_from _ _ (fit_answer (codes "DUMP    ") s.dump)
      (and_from _ _ (fit_answer (codes "RECORD  ") s.logrec) (and_from _ _ (fit_flag (codes "FRESDWA ") s.fresdwa) refl)))))))

  pub op_fits : (lines : List Line) (op : Op) → IsTrue (is_op d lines op) → IsTrue (slots_fit (slots_of (form_of_op op)) (values_of_op d op))
  op_fits lines ops.Nop h = refl
  op_fits lines (ops.Get class id) h = and_from _ true (fit_number 0 999999 id (omega arith) (leb-true id 999999 h)) refl
  op_fits lines (ops.Free class id) h = and_from _ true (fit_number 0 999999 id (omega arith) (leb-true id 999999 h)) refl
  op_fits lines (ops.Link prog) h = one_name names.Program (replicate 8 blank) left_out.Needed _ (program prog h)
  op_fits lines (ops.Xctl prog) h = one_name names.Program (replicate 8 blank) left_out.Needed _ (program prog h)
  op_fits lines ops.Return h = refl
  op_fits lines (ops.Abend code reason dump step) h =
      let parts = and_parts (is_abend_code code) (is_reason reason) h in
      and_from _ _ (fit_abend_code (replicate 8 blank) left_out.Needed code parts.0) (and_from _ true (fit_reason (codes "REASON  ") reason parts.1) refl)
  op_fits lines (ops.EstaexCt prog term cancel xctl) h = and_from _ true (fit_name names.Program (codes "PGM     ") left_out.Needed _ (program prog h)) refl
  op_fits lines (ops.EstaexOv prog term cancel xctl) h = and_from _ true (fit_name names.Program (codes "PGM     ") left_out.Needed _ (program prog h)) refl
  op_fits lines ops.EstaexZero h = refl
  op_fits lines (ops.FrrAdd prog) h = one_name names.Program (codes "PGM     ") left_out.Needed _ (program prog h)
  op_fits lines ops.FrrDelete h = refl
  op_fits lines (ops.FrrReplace prog) h = one_name names.Program (codes "PGM     ") left_out.Needed _ (program prog h)
  op_fits lines ops.FrrPurge h = refl
  op_fits lines (ops.Attachx unit None term) h =
      one_name names.Task (replicate 8 blank) left_out.Needed _ (task unit (and_parts (is_task_in d unit) true (and_parts (is_task_in d unit && true) (not term) h).0).0)
  op_fits lines (ops.Attachx unit (Some prog) term) h =
      let parts = and_parts (is_task_in d unit) (is_program d prog) (and_parts (is_task_in d unit && is_program d prog) true h).0 in
      and_from _ _ (fit_name names.Task (replicate 8 blank) left_out.Needed _ (task unit parts.0)) (and_from _ true (fit_name names.Program (codes "ESTAI   ") left_out.Needed _ (program prog parts.1)) refl)
  op_fits lines (ops.Detach unit stae) h = and_from _ true (fit_name names.Task (replicate 8 blank) left_out.Needed _ (task unit h)) refl
  op_fits lines (ops.Abterm unit code reason dump retry) h =
      let parts = and_parts (is_task_in d unit && is_abend_code code) (is_reason reason) h in
      let front = and_parts (is_task_in d unit) (is_abend_code code) parts.0 in
      and_from _ _ (fit_name names.Task (codes "TASK    ") left_out.Needed _ (task unit front.0)) (and_from _ _ (fit_abend_code (codes "COMPCOD ") left_out.Needed code front.1) (and_from _ true (fit_reason (codes "REASON  ") reason parts.1) refl))
  op_fits lines (ops.Memterm code) h = and_from _ true (fit_abend_code (codes "COMPCOD ") left_out.Needed code h) refl
  op_fits lines (ops.MgrAdd prog space) h = and_from _ true (fit_name names.Program (codes "PGM     ") left_out.Needed _ (program prog h)) refl
  op_fits lines (ops.MgrDelete prog space) h = and_from _ true (fit_name names.Program (codes "PGM     ") left_out.Needed _ (program prog h)) refl
  op_fits lines (ops.Schedule unit) h = one_name names.Srb (replicate 8 blank) left_out.Needed _ (srb unit h)
  op_fits lines (ops.Wait event) h = and_from _ true (fit_number 0 255 event (omega arith) (leb-true event 255 h)) refl
  op_fits lines (ops.WaitTask unit) h = one_name names.Task (replicate 8 blank) left_out.Needed _ (task unit h)
  op_fits lines (ops.Post event) h = and_from _ true (fit_number 0 255 event (omega arith) (leb-true event 255 h)) refl
  op_fits lines (ops.SetRp s) h = setrp s h
  op_fits lines (ops.Ret15 rc label) h =
      let parts = and_parts (is_return_code rc) (is_retry_label d label) h in
      and_from _ _ parts.0 (and_from _ true (fit_retry_label d (codes "RETADDR ") label parts.1) refl)
  op_fits lines (ops.Branch label) h = one_name names.OwnLabel (replicate 8 blank) left_out.Needed _ (own_label lines label h)
  op_fits lines (ops.IfCode code label) h =
      let parts = and_parts (is_code code) (is_own_label lines label) h in
      and_from _ _ (fit_code (replicate 8 blank) left_out.Needed code parts.0) (one_name names.OwnLabel (replicate 8 blank) left_out.Needed _ (own_label lines label parts.1))
  op_fits lines (ops.IfClup label) h = one_name names.OwnLabel (replicate 8 blank) left_out.Needed _ (own_label lines label h)
  op_fits lines (ops.IfPerc label) h = one_name names.OwnLabel (replicate 8 blank) left_out.Needed _ (own_label lines label h)

  -- the values of each card of a program fit
  pub program_fit : (p : ProgramView) → IsTrue (is_program_of d p) → IsTrue (program_fits d p)
  program_fit p h =
      each_test (λ (line : Line). is_label line.label && is_op d p.lines line.op) (line_fits d)
      (λ line t. op_fits p.lines line.op (and_parts (is_label line.label) (is_op d p.lines line.op) t).1)
      p.lines
      (and_parts (is_padded_name p.name) _ (and_parts (is_padded_name p.name && list_all (λ (line : Line). is_label line.label && is_op d p.lines line.op) p.lines) (are_distinct (labels_in p.lines)) h).0).1

  pub programs_fit : IsTrue (list_all (program_fits d) d.programs)
  programs_fit = each_test (is_program_of d) (program_fits d) program_fit d.programs (conditions d form).programs

  related : (unit : Option ℕ) → IsTrue (is_related d Srb unit) → IsTrue (slot_fits (optional_slot (codes "TASK    ") (kinds.Name names.Task)) (related_name d unit))
  related None h = refl
  related (Some unit) h = fit_name names.Task (codes "TASK    ") left_out.Nothing _ (task unit h)

  kind_fits : (kind : UnitKind) (unit : UnitCard) → IsTrue (is_program d unit.prog) → IsTrue (is_related d kind unit.related) → IsTrue (slots_fit (slots_of (form_of_kind kind)) (values_of_unit d kind unit))
  kind_fits Task unit h r = one_name names.Program (codes "PGM     ") left_out.Needed _ (program unit.prog h)
  kind_fits Srb unit h r = and_from _ _ (fit_name names.Program (codes "PGM     ") left_out.Needed _ (program unit.prog h)) (and_from _ true (related unit.related r) refl)

  pub unit_fit : (unit : UnitCard) → IsTrue (is_unit_of d unit) → IsTrue (unit_fits d unit)
  unit_fit unit h =
      let parts = and_parts (is_padded_name unit.name && is_program d unit.prog) (is_related d unit.kind unit.related) h in
      kind_fits unit.kind unit (and_parts (is_padded_name unit.name) (is_program d unit.prog) parts.0).1 parts.1

  pub units_fit : IsTrue (list_all (unit_fits d) d.units)
  units_fit = each_test (is_unit_of d) (unit_fits d) unit_fit d.units (conditions d form).units

  pub command_fit : (command : Command) → IsTrue (is_command_of d command) → IsTrue (command_fits d command)
  command_fit command h =
      let parts = and_parts (is_task_in d command.target) (nat_le command.at most_entries) h in
      and_from _ _ (fit_name names.Task (replicate 8 blank) left_out.Needed _ (task command.target parts.0))
      (and_from _ true (fit_number 0 most_entries command.at (omega arith) (leb-true command.at most_entries parts.1)) refl)

  pub commands_fit : IsTrue (list_all (command_fits d) d.commands)
  commands_fit = each_test (is_command_of d) (command_fits d) command_fit d.commands (conditions d form).commands

  pub region_fits : IsTrue (item_fits d (RegionCard d.limit d.sdwa))
  region_fits = and_from _ true (fit_number 1 most_entries d.limit (limits d form).least (limits d form).most) refl
