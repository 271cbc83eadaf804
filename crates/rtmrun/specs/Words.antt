-- The words that the system hands to the program (this profile).
use Rattle.rtm_top_answers.specs.declared.status.Status.{Status}
use Rattle.rtm_top_answers.specs.declared.status.Status.TheVariants as status

-- Words can't be had: memory is wanting, or one of them is no text.
abbrev pub HasNoWords : Status → Type 0
HasNoWords status.Memory = Unit {0}
HasNoWords status.Words = Unit {0}
HasNoWords _ = ⊥
