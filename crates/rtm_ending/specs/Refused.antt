use Rattle.rtm_ending.specs.declared.refused.NotHeld.{NotHeld}
use Rattle.rtm_ending.specs.declared.refused.NotFound.{NotFound}

-- the one value of NotHeld
abbrev pub not_held : NotHeld
not_held = record {}

-- the one value of NotFound
abbrev pub not_found : NotFound
not_found = record {}
