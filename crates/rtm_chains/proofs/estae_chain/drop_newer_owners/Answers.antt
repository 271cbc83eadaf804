use Rattle.std.proofs.Common.{rules}
use Rattle.std.specs.Prelude.{nat_le}
use Rattle.std.proofs.lemmas.Fn.{filter_same}
use Rattle.rtm_model.specs.declared.reg.Reg.{Reg}
use Rattle.rtm_chains.proofs.estae_chain.drop_newer_owners.Goals as goal

pub returns-clause-items : goal.returns-clause-items
returns-clause-items c = filter_same _ (λ (reg : Reg). nat_le reg.owner c.args.born) _ (λ x b f' s. search rules) _ _ c.retain.ensures.filtered
