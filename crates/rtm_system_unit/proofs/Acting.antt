-- The next act of an ending, as an entry.
use Rattle.std.proofs.Common.{◌≡◌, Bool, true, false, Option, Some, None}
use Rattle.std.specs.Prelude.{if◌then◌else◌}
use Rattle.rtm_codes.specs.declared.code.Code.{Code}
use Rattle.rtm_model.specs.declared.entry.What.{What}
use Rattle.rtm_model.specs.declared.holding.Holding.{Holding}
use Rattle.rtm_model.specs.declared.holding.Manager1.{Manager1}
use Rattle.rtm_model.specs.NextEntry.{manager_or, release_or}
use Rattle.rtm_ending.specs.Acts.{next_act}
use Rattle.rtm_ending.specs.declared.act.Act.TheVariants.{Give, Run}

-- a manager runs, where no subtask is left and it is the next
pub unit_runs : (code : Code) (done : What) (subtask : Bool) (next : Option Manager1) (holding : Option Holding) (manager : Manager1) → next_act subtask next holding ≡ Run manager
    → Some (manager_or code (Some manager) done) ≡ (if subtask then None else Some (manager_or code next (release_or holding done)))
unit_runs code done true next holding manager e = absurd cc
unit_runs code done false (Some first) holding manager e = cc
unit_runs code done false None (Some held) manager e = absurd cc
unit_runs code done false None None manager e = absurd cc

-- a holding is released, where no manager is left besides
pub unit_gives : (code : Code) (done : What) (subtask : Bool) (next : Option Manager1) (holding : Option Holding) (held : Holding) → next_act subtask next holding ≡ Give held
    → Some (release_or (Some held) done) ≡ (if subtask then None else Some (manager_or code next (release_or holding done)))
unit_gives code done true next holding held e = absurd cc
unit_gives code done false (Some first) holding held e = absurd cc
unit_gives code done false None (Some first) held e = cc
unit_gives code done false None None held e = absurd cc

pub master_runs : (code : Code) (end : What) (next : Option Manager1) (holding : Option Holding) (manager : Manager1) → next_act false next holding ≡ Run manager
    → manager_or code (Some manager) end ≡ manager_or code next (release_or holding end)
master_runs code end (Some first) holding manager e = cc
master_runs code end None (Some held) manager e = absurd cc
master_runs code end None None manager e = absurd cc

pub master_gives : (code : Code) (end : What) (next : Option Manager1) (holding : Option Holding) (held : Holding) → next_act false next holding ≡ Give held
    → release_or (Some held) end ≡ manager_or code next (release_or holding end)
master_gives code end (Some first) holding held e = absurd cc
master_gives code end None (Some first) held e = cc
master_gives code end None None held e = absurd cc
