use Rattle.std.proofs.Common.{take}
use Rattle.rtm_law_births.proofs.Turns.{aborts_live}
use Rattle.rtm_law_births.proofs.Errors.{errors_live}
use Rattle.rtm_law_births.proofs.Estaes.{estaes_live}
use Rattle.rtm_law_births.proofs.Estais.{estais_live}
use Rattle.rtm_law_births.proofs.Frrs.{frrs_live}
use Rattle.rtm_law_births.proofs.Holdings.{holdings_live}
use Rattle.rtm_law_births.proofs.InnerBrackets.{brackets_live}
use Rattle.rtm_law_births.proofs.LiveBlocks.{blocks_live}
use Rattle.rtm_law_births.proofs.LivingUnits.{units_live}
use Rattle.rtm_law_births.proofs.Managers.{managers_live}
use Rattle.rtm_law_births.proofs.Sound.{sound_history}
use Rattle.rtm_law_sound.proofs.Histories.{prefix_legal}
use Rattle.rtm_law_flags.proofs.laws.what_lives_at_every_moment.Goals as goal

pub returns : goal.returns
returns c = λ d h i deck legal.
    let front = take i h in
    let before = prefix_legal d h i legal in
    let sound = sound_history d front deck before in
    record {
      units = units_live d front sound before;
      blocks = blocks_live d front sound before;
      brackets = brackets_live d front sound before;
      errors = errors_live d front sound before;
      frrs = frrs_live d front sound before;
      estaes = estaes_live d front sound before;
      estais = estais_live d front sound before;
      managers = managers_live d front sound before;
      holdings = holdings_live d front sound before;
      aborts = aborts_live d front sound before;
    }
