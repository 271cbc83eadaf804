-- Which entries fit a deck, so that they have a text: each number names what is there, or is in the range of its type
-- (this profile).
use Rattle.std.specs.Prelude.{length, ℕ, ◌<◌, ◌≤◌}
use Rattle.rtm_codes.specs.Code.{IsInRange}
use Rattle.rtm_deck_items.specs.View.{DeckView}
use Rattle.rtm_model.specs.declared.entry.Entry.{Entry}
use Rattle.rtm_model.specs.declared.entry.Verdict.{Verdict}
use Rattle.rtm_model.specs.declared.entry.Verdict.TheVariants.{Retry}
use Rattle.rtm_model.specs.declared.entry.What.{What}
use Rattle.rtm_model.specs.declared.entry.What.TheVariants.{Arrive, Begin, Done, Enter, Error, Exec, Land, Leave, MemEnd, Purge, Release}
use Rattle.rtm_model.specs.inner.Applies.{IsMark}
use Rattle.rtm_model.specs.inner.Soundness.{IsPlace}
use Rattle.rtm_model.specs.Limits.{words}
use Rattle.rtm_model.specs.World.{master}

-- the index of an entry has 32 bits
abbrev pub IsIndex : ℕ → Type 0
IsIndex n = n < words

abbrev pub VerdictFits : DeckView → Verdict → Type 0
VerdictFits d (Retry place) = IsPlace d place
VerdictFits d _ = Unit {0}

abbrev pub WhatFits : DeckView → What → Type 0
WhatFits d (Exec at rc) = IsPlace d at × (rc < 256)
WhatFits d (Error at mark) = IsPlace d at × IsMark mark
WhatFits d (Land class from mark) = IsIndex from × IsMark mark
WhatFits d (Enter kind reg mark bare) = IsIndex reg × IsMark mark
WhatFits d (Leave kind reg verdict logrec dump) = IsIndex reg × VerdictFits d verdict
WhatFits d (Arrive cmd _) = cmd < length d.commands
WhatFits d (Begin code dump) = IsInRange code
WhatFits d (Release class id owner) = (id ≤ 999999) × (owner ≤ master d)
WhatFits d (Done code to_task to_step) = IsInRange code
WhatFits d (Purge unit) = unit < length d.units
WhatFits d MemEnd = Unit {0}

pub record Fits (d : DeckView) (e : Entry) : Type 0 where
  pub unit : e.unit ≤ master d
  pub what : WhatFits d e.what
