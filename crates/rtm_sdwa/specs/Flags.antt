-- The flags of an SDWA as a word of 16 bits, and which flag has which bit (this profile).
use Rattle.std.specs.Prelude.{◌≡◌, ℕ, ◌+◌, Bool, ◌==◌, if◌then◌else◌, bit_and}
use Rattle.rtm_model.specs.declared.error_record.RecordFlags.{RecordFlags}
use Rattle.rtm_sdwa.specs.declared.flags.SdwaFlags.{SdwaFlags}

-- the bit stands in the word
abbrev pub has : ℕ → ℕ → Bool
has word bit = bit_and word bit == bit

-- which of the ten flags stand in the word
abbrev pub flags_of : ℕ → RecordFlags
flags_of word = record {
  clup = has word 0x8000;
  perc = has word 0x4000;
  staf = has word 0x2000;
  step = has word 0x1000;
  reason = has word 0x0800;
  term_only = has word 0x0400;
  dump = has word 0x0200;
  remrec = has word 0x0100;
  logrec = has word 0x0080;
  fresdwa = has word 0x0040;
}

-- the bit, where the flag stands
abbrev pub bit_where : ℕ → Bool → ℕ
bit_where bit flag = if flag then bit else 0

-- the word in which those flags stand, and no other bit
abbrev pub word_of : RecordFlags → ℕ
word_of f =
    bit_where 0x8000 f.clup + bit_where 0x4000 f.perc + bit_where 0x2000 f.staf + bit_where 0x1000 f.step
    + bit_where 0x0800 f.reason + bit_where 0x0400 f.term_only + bit_where 0x0200 f.dump + bit_where 0x0100 f.remrec
    + bit_where 0x0080 f.logrec + bit_where 0x0040 f.fresdwa

-- no bit stands in the word but those of the ten flags
abbrev pub HasFlagsAlone : ℕ → Type 0
HasFlagsAlone word = word_of (flags_of word) ≡ word

-- the word of an SDWA's flags
abbrev pub word_in : SdwaFlags → ℕ
word_in flags = flags.0

-- which of the ten stand in it
abbrev pub ten_in : SdwaFlags → RecordFlags
ten_in flags = flags_of (word_in flags)
