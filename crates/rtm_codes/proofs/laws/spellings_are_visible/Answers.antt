use Rattle.rtm_codes.proofs.Written.{IsDigitOrCapital-spelled, IsVisible-spelled}
use Rattle.rtm_codes.proofs.laws.spellings_are_visible.Goals as goal

pub returns-clause-plain : goal.returns-clause-plain
returns-clause-plain c = IsDigitOrCapital-spelled

pub returns-clause-visible : goal.returns-clause-visible
returns-clause-visible c = IsVisible-spelled
