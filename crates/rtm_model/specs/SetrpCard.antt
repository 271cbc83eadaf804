-- Which SETRP cards a deck may hold, as far as the record of an error asks (Assembler Services Reference, SETRP).
use Rattle.std.specs.Prelude.{ℕ, Bool, true, ◌&&◌, Option, Some, None}
use Rattle.rtm_codes.specs.declared.code.Code.{Code}
use Rattle.rtm_deck_operands.specs.Value.{is_abend_code, is_return_code}
use Rattle.rtm_deck_items.specs.declared.op.Setrp.{Setrp}

-- RC=, where it is given
abbrev pub is_given_return_code : Option ℕ → Bool
is_given_return_code None = true
is_given_return_code (Some rc) = is_return_code rc

-- COMPCOD=, where it is given
abbrev pub is_given_abend : Option Code → Bool
is_given_abend None = true
is_given_abend (Some code) = is_abend_code code

abbrev pub is_setrp_card : Setrp → Bool
is_setrp_card s = is_given_return_code s.rc && is_given_abend s.compcod
