-- Things that a unit has, and the purge that takes them away (this profile).
use Rattle.std.specs.Prelude.{ℕ, ◌≡◌}
use Rattle.rtm_model.specs.declared.entry.What.{What}
use Rattle.rtm_model.specs.declared.entry.What.TheVariants.{Purge}

-- the entry is the unit's PURGE
abbrev pub IsPurgeOf : ℕ → What → Type 0
IsPurgeOf u (Purge unit) = unit ≡ u
IsPurgeOf u _ = ⊥
