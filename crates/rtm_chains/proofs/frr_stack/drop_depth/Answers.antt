use Rattle.std.proofs.Common.{not, rules}
use Rattle.arrayvec.proofs.ArrayVecLemmas.{filter-from_retain}
use Rattle.rtm_model.specs.declared.reg.Reg.{Reg}
use Rattle.rtm_model.specs.Chains.{is_of_depth}
use Rattle.rtm_chains.proofs.frr_stack.drop_depth.Goals as goal

pub returns-clause-items : goal.returns-clause-items
returns-clause-items c = filter-from_retain _ (λ (reg : Reg). not (is_of_depth c.args.depth reg)) _ (λ x b f' y s. search rules) _ _ c.retain.ensures.filtered
