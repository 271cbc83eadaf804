-- Bytes of cards (this profile).
use Rattle.std.specs.Prelude.{ℕ}
pub use Rattle.rtm_text.specs.Cutting.{blank, before, from_first, skip_blanks}

abbrev pub comma : ℕ
comma = 44

abbrev pub line_feed : ℕ
line_feed = 10

abbrev pub asterisk : ℕ
asterisk = 42
