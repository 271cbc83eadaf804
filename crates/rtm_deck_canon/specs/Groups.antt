-- Groups of operations, whose values are found by functions of their own.
use Rattle.std.specs.Prelude.{Bool, true, false}
use Rattle.rtm_deck_items.specs.declared.op.Op.{Op}
use Rattle.rtm_deck_items.specs.declared.op.Op.TheVariants.{Abend, EstaexCt, EstaexOv, EstaexZero, FrrAdd, FrrDelete, FrrReplace, FrrPurge, Attachx, Detach, Abterm, Memterm, MgrAdd, MgrDelete, Schedule, WaitTask}

-- the operation ends, detaches, waits for or makes a unit of work, or ends them all
abbrev pub names_unit : Op → Bool
names_unit (Attachx unit estai term) = true
names_unit (Detach unit stae) = true
names_unit (Abterm unit code reason dump retry) = true
names_unit (Memterm code) = true
names_unit (Schedule unit) = true
names_unit (WaitTask unit) = true
names_unit _ = false

-- the operation ends its unit of work abnormally, or asks for recovery or for a resource manager
abbrev pub is_request : Op → Bool
is_request (Abend code reason dump step) = true
is_request (EstaexCt prog term cancel xctl) = true
is_request (EstaexOv prog term cancel xctl) = true
is_request EstaexZero = true
is_request (FrrAdd prog) = true
is_request FrrDelete = true
is_request (FrrReplace prog) = true
is_request FrrPurge = true
is_request (MgrAdd prog space) = true
is_request (MgrDelete prog space) = true
is_request _ = false
