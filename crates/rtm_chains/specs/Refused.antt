use Rattle.rtm_chains.specs.declared.refused.Empty.{Empty}
use Rattle.rtm_chains.specs.declared.refused.NotOwned.{NotOwned}

-- the one value of Empty
abbrev pub empty : Empty
empty = record {}

-- the one value of NotOwned
abbrev pub not_owned : NotOwned
not_owned = record {}
