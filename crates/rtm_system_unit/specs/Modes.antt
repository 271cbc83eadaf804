-- The modes of the code are those of the definitions.
use Rattle.rtm_model.specs.Cards as cards
use Rattle.rtm_system_unit.specs.declared.modes.Mode.{Mode}
use Rattle.rtm_system_unit.specs.declared.modes.Mode.TheVariants.{Anywhere, ForTask, ForTaskOutsideManager, OutsideManager, ForRoutine, ForSdwa}

abbrev pub mode_at : Mode → cards.Mode
mode_at Anywhere = cards.Anywhere
mode_at ForTask = cards.ForTask
mode_at ForTaskOutsideManager = cards.ForTaskOutsideManager
mode_at OutsideManager = cards.OutsideManager
mode_at ForRoutine = cards.ForRoutine
mode_at ForSdwa = cards.ForSdwa
