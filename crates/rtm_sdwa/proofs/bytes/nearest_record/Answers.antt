use Rattle.std.proofs.Common.{List, Some, None, ℕ, ap, sym, ◌∙◌}
use Rattle.std.specs.Prelude.{if◌then◌else◌}
use Rattle.rtm_deck_operands.specs.Name.{is_padded_name}
use Rattle.rtm_model.specs.declared.error_record.RecordFlags.{RecordFlags}
use Rattle.rtm_deck_operands.specs.Value.{is_return_code}
use Rattle.rtm_sdwa.specs.Flags.{flags_of}
use Rattle.rtm_sdwa.proofs.Reading.{code_there, first_there, reason_there, flags_there, rc_there, label_there, field_again, reason_again}
use Rattle.rtm_sdwa.proofs.bytes.nearest_record.Goals as goal

pub returns : goal.returns
returns c = λ r s e.
    let ten = c.ten-flags.ensures ∙ ap flags_of (c.from_bits_retain.ensures tt ∙ c.flags_at.ensures) ∙ flags_there r s c.args.bytes.now e in
    let code = c.code_in.ensures.only r.code s.kept.code (sym (c.word_at.ensures ∙ code_there r s c.args.bytes.now e)) in
    let first = c.code_in-2.ensures.only r.first s.kept.first (sym (c.word_at-2.ensures ∙ first_there r s c.args.bytes.now e)) in
    let stands = ap (λ (flags : RecordFlags). flags.reason) ten ∙ s.kept.reason in
    let reason = c.reason_in.ensures
    ∙ ap (λ (word : ℕ). if c.ten-flags.result.reason then Some word else None) (c.word_at-3.ensures ∙ reason_there r s c.args.bytes.now e)
    ∙ reason_again r.reason c.ten-flags.result.reason stands in
    let rc = c.rc_in.ensures.only (ap is_return_code (rc_there r s c.args.bytes.now e) ∙ s.kept.rc) ∙ rc_there r s c.args.bytes.now e in
    let label = c.label_in.ensures
    ∙ ap (λ (field : List ℕ). if is_padded_name field then Some field else None) (c.label_at.ensures ∙ label_there r s c.args.bytes.now e)
    ∙ field_again r.retaddr s.label in
    λ i. record { code = code i; first = first i; reason = reason i; flags = (c.of.ensures.flags ∙ ten) i; rc = rc i; retaddr = label i }
