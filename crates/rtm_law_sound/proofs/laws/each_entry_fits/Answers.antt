use Rattle.rtm_law_sound.proofs.Fitting.{all_fit}
use Rattle.rtm_law_sound.proofs.laws.each_entry_fits.Goals as goal

pub returns : goal.returns
returns c = all_fit
