-- The 48 bytes of an SDWA (this profile).
use Rattle.std.specs.Prelude.{ℕ, List, [], ◌∷◌, ◌++◌, Option, Some, None, codes, replicate}
use Rattle.std.specs.Int.{w16, w32, to_be_bytes}
use Rattle.std.specs.Option.{unwrap_or}
use Rattle.rtm_codes.specs.Code.{packed_of}
use Rattle.rtm_model.specs.declared.error_record.ErrorRecord.{ErrorRecord}
use Rattle.rtm_sdwa.specs.Flags.{word_of}

-- the field of a label: its eight bytes with their padding, blanks where there is none
abbrev pub label_field : Option (List ℕ) → List ℕ
label_field None = replicate 8 32
label_field (Some label) = label

-- The parts, in their order: the eye catcher, the code, the first code, the reason (0 where there is none), the flags,
-- the return code, a zero, the label of the retry, and twenty zeros. Numbers have their high byte first.
abbrev pub bytes_of : ErrorRecord → List ℕ
bytes_of r =
    codes "SDWA"
    ++ to_be_bytes w32 (packed_of r.code)
    ++ to_be_bytes w32 (packed_of r.first)
    ++ to_be_bytes w32 (unwrap_or r.reason 0)
    ++ to_be_bytes w16 (word_of r.flags)
    ++ (r.rc ∷ 0 ∷ [])
    ++ label_field r.retaddr
    ++ replicate 20 0
