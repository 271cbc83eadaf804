-- The first abort lands.
use Rattle.std.proofs.Common.{◌≡◌, List, ◌∷◌, refl}
use Rattle.rtm_model.specs.declared.abort.Abort.{Abort}
use Rattle.rtm_model.specs.Aborts.{after_landing}
use Rattle.rtm_model.proofs.Landing.{behind_first}

pub first_lands : (abort : Abort) (later : List Abort) → after_landing abort.class abort.from (abort ∷ later) ≡ later
first_lands abort later = behind_first abort.class abort.from (λ other. Unit {0}) (abort ∷ later) (refl, refl, tt)
