-- What entries make: request blocks, recovery routines, and managers as routines (this profile, unless a line says
-- otherwise).
use Rattle.std.specs.Prelude.{Bool, Option, false, true, ℕ, ◌+◌}
use Rattle.std.specs.Option.{option_map}
use Rattle.rtm_model.specs.declared.holding.Manager1.{Manager1}
use Rattle.rtm_model.specs.declared.reg.Kind.TheVariants.{Estae, Estai, Frr, Mgr}
use Rattle.rtm_model.specs.declared.reg.Reg.{Reg}
use Rattle.rtm_model.specs.Blocks.{newest_birth}
use Rattle.rtm_model.specs.Levels.{depth_in}
use Rattle.rtm_model.specs.World.{Core}

-- The births that cards make

-- request blocks are named by the entry that makes them, plus one: 0 is the one that lives from the start
abbrev pub block_birth : ℕ → ℕ
block_birth n = n + 1

-- the FRR that SETFRR makes (Authorized Assembler Services Reference, SETFRR)
abbrev pub new_frr : ℕ → Core → ℕ → Reg
new_frr n c prog = record {
  kind = Frr;
  born = n;
  owner = newest_birth c.blocks;
  depth = depth_in c.levels;
  prog = prog;
  term = false;
  cancel = true;
  xctl = false;
}

-- the ESTAE routine that ESTAEX makes (Assembler Services Reference, ESTAEX)
abbrev pub new_estae : ℕ → Core → ℕ → Bool → Bool → Bool → Reg
new_estae n c prog term cancel xctl = record {
  kind = Estae;
  born = n;
  owner = newest_birth c.blocks;
  depth = depth_in c.levels;
  prog = prog;
  term = term;
  cancel = cancel;
  xctl = xctl;
}

-- the ESTAI routine that ATTACHX names, if it names one (Assembler Services Reference, ATTACHX; that it has a TERM
-- option of its own, and CANCEL=YES always, is this profile's)
abbrev pub new_estai : ℕ → Bool → Option ℕ → Option Reg
new_estai n term prog = option_map (λ prog. record {
  kind = Estai;
  born = n;
  owner = 0;
  depth = 0;
  prog = prog;
  term = term;
  cancel = true;
  xctl = false;
}) prog

-- a manager, as the routine of a bracket
abbrev pub manager_routine : Manager1 → Reg
manager_routine manager = record {
  kind = Mgr;
  born = manager.born;
  owner = 0;
  depth = 0;
  prog = manager.prog;
  term = false;
  cancel = false;
  xctl = false;
}
