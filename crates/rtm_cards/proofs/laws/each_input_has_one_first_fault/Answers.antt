use Rattle.rtm_cards.proofs.FaultLaws.{fault_or_none, never_both, only_one, too_long_by_size}
use Rattle.rtm_cards.proofs.laws.each_input_has_one_first_fault.Goals as goal

pub returns : goal.returns
returns c = record { either = fault_or_none; not_both = never_both; one = only_one; too_long = too_long_by_size }
