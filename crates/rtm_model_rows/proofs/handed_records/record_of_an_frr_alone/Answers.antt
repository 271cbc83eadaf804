-- It is computed.
use Rattle.std.proofs.Common.{refl}
use Rattle.rtm_model.specs.Records.{records}
use Rattle.rtm_model_rows.proofs.handed_records.record_of_an_frr_alone.Goals as goal

pub returns : goal.returns
unfolding records
returns c = refl
