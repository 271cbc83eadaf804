-- Numbers in digits without leading zeros.
pub use Rattle.rtm_text.specs.Numeral.{numeral}
unfoldable pub use Rattle.rtm_text.specs.Numeral.{decimal_of, hexadecimal_of}
