-- Each SETRP and RET15 card of a well formed deck has what the record of an error asks of it.
use Rattle.std.proofs.Common.{◌≡◌, ℕ, ◌-◌, Bool, true, false, ◌&&◌, List, Option, Some, None, refl, subst, arith}
use Rattle.std.specs.Prelude.{slice_get, IsTrue, nat_le, ◌==◌, not}
use Rattle.std.specs.List.{list_all}
use Rattle.std.proofs.lemmas.Bool.Decides.{nat_tests}
use Rattle.rtm_codes.specs.declared.code.Code.{Code}
use Rattle.rtm_codes.specs.declared.code.Code.TheVariants.{Sys, User}
use Rattle.rtm_deck_items.specs.declared.deck.Line.{Line}
use Rattle.rtm_deck_items.specs.declared.op.Op.{Op}
use Rattle.rtm_deck_items.specs.declared.op.Op.TheVariants.{Ret15, SetRp}
use Rattle.rtm_deck_items.specs.declared.op.Setrp.{Setrp}
use Rattle.rtm_deck_items.specs.View.{ProgramView, DeckView}
use Rattle.rtm_deck_items.specs.Reading.{lines_in, lines_of, op_in, op_at}
use Rattle.rtm_deck_operands.specs.Name.{is_padded_name}
use Rattle.rtm_deck_items.specs.WellFormed.{is_well_formed, is_program_of, is_label, is_op, are_distinct, labels_in, is_setrp, is_setrp_rc, is_retry_label, is_setrp_code, is_abend_code, is_reason, gives_some}
use Rattle.rtm_deck_items.proofs.FormFacts.{conditions}
use Rattle.rtm_deck_operands.specs.Value.{is_abend_code as is_abend, is_return_code}
use Rattle.rtm_model.specs.SetrpCard.{is_given_abend, is_given_return_code, is_setrp_card}
use Rattle.rtm_deck_items.proofs.Lists.{at_from_list_all, both_true}

-- two tests that both pass
both : (a b : Bool) → IsTrue a → IsTrue b → IsTrue (a && b)
both true b h i = i
both false b h i = absurd cc

system_abend : (n : ℕ) → IsTrue (nat_le 1 n) → IsTrue (nat_le n 4095) → IsTrue (not (n == 0))
system_abend n h i = grind (arith, nat_tests)

abend : (code : Code) → IsTrue (is_abend_code code) → IsTrue (is_abend code)
abend (Sys n) h =
    let parts = both_true (nat_le 1 n) (nat_le n 4095) h in
    both (nat_le n 4095) (not (n == 0)) parts.1 (system_abend n parts.0 parts.1)
abend (User n) h = both (nat_le n 4095) true h refl

given_code : (code : Option Code) → IsTrue (is_setrp_code code) → IsTrue (is_given_abend code)
given_code None h = refl
given_code (Some code) h = abend code h

given_rc : (rc : Option ℕ) → IsTrue (is_setrp_rc rc) → IsTrue (is_given_return_code rc)
given_rc None h = refl
given_rc (Some n) h = h

-- a SETRP card that a deck may hold
pub setrp_card : (d : DeckView) (s : Setrp) → IsTrue (is_setrp d s) → IsTrue (is_setrp_card s)
setrp_card d s h =
    let abcd = (both_true _ (gives_some s) h).0 in
    let abc = (both_true _ (is_reason s.reason) abcd).0 in
    let ab_c = both_true _ (is_setrp_code s.compcod) abc in
    let a = (both_true (is_setrp_rc s.rc) (is_retry_label d s.retaddr) ab_c.0).0 in
    both (is_given_return_code s.rc) (is_given_abend s.compcod) (given_rc s.rc a) (given_code s.compcod ab_c.1)

-- Each operation of a well formed deck fits it; so does the RETURN behind a program's last card.

in_lines : (d : DeckView) (all lines : List Line) (op : ℕ) → IsTrue (list_all (λ line. is_label line.label && is_op d all line.op) lines) → (o : Option Line) → slice_get lines (op - 1) ≡ o → IsTrue (is_op d all (op_in o))
in_lines d all lines op h None e = refl
in_lines d all lines op h (Some line) e =
    let fits = at_from_list_all (λ (l : Line). is_label l.label && is_op d all l.op) lines (op - 1) line h e in
    (both_true (is_label line.label) (is_op d all line.op) fits).1

in_program : (d : DeckView) → IsTrue (list_all (is_program_of d) d.programs) → (prog op : ℕ) (o : Option ProgramView) → slice_get d.programs prog ≡ o → IsTrue (is_op d (lines_in o) (op_in (slice_get (lines_in o) (op - 1))))
in_program d h prog op None e = refl
in_program d h prog op (Some p) e =
    let abc = both_true _ (are_distinct (labels_in p.lines)) (at_from_list_all (is_program_of d) d.programs prog p h e) in
    let ab = both_true (is_padded_name p.name) (list_all (λ (line : Line). is_label line.label && is_op d p.lines line.op) p.lines) abc.0 in
    in_lines d p.lines p.lines op ab.1 (slice_get p.lines (op - 1)) refl

pub op_fits : (d : DeckView) → IsTrue (is_well_formed d) → (prog op : ℕ) → IsTrue (is_op d (lines_of d prog) (op_at d prog op))
op_fits d h prog op = in_program d (conditions d h).programs prog op (slice_get d.programs prog) refl

-- the card that stands at an operation of a well formed deck
pub setrp_at : (d : DeckView) → IsTrue (is_well_formed d) → (prog op : ℕ) (s : Setrp) → op_at d prog op ≡ SetRp s → IsTrue (is_setrp_card s)
setrp_at d h prog op s e = setrp_card d s (subst (λ (o : Op). IsTrue (is_op d (lines_of d prog) o)) e (op_fits d h prog op))

pub ret15_at : (d : DeckView) → IsTrue (is_well_formed d) → (prog op rc : ℕ) (label : Option (List ℕ)) → op_at d prog op ≡ Ret15 rc label → IsTrue (is_return_code rc)
ret15_at d h prog op rc label e =
    (both_true (is_return_code rc) (is_retry_label d label) (subst (λ (o : Op). IsTrue (is_op d (lines_of d prog) o)) e (op_fits d h prog op))).0
