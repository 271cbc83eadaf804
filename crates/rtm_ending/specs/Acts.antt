-- What a unit that ends does next.
use Rattle.std.specs.Prelude.{Bool, true, false, Option, Some, None}
use Rattle.rtm_model.specs.declared.holding.Holding.{Holding}
use Rattle.rtm_model.specs.declared.holding.Manager1.{Manager1}
use Rattle.rtm_ending.specs.declared.act.Act.{Act}
use Rattle.rtm_ending.specs.declared.act.Act.TheVariants.{Wait, Run, Give, Finish}

-- first the subtasks end, then the managers run, then the holdings are released, and then it has ended (this profile)
abbrev pub next_act : Bool → Option Manager1 → Option Holding → Act
next_act true manager holding = Wait
next_act false (Some manager) holding = Run manager
next_act false None (Some holding) = Give holding
next_act false None None = Finish
