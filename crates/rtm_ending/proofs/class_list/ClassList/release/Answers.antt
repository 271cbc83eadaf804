use Rattle.std.proofs.Common.{◌∙◌, ap, List}
use Rattle.std.specs.Prelude.{◌==◌}
use Rattle.rtm_model.specs.declared.holding.Holding.{Holding}
use Rattle.rtm_model.specs.Chains.{without_first}
use Rattle.rtm_ending.proofs.Births.{first_alone}
use Rattle.rtm_ending.proofs.class_list.ClassList.release.Goals as goal

pub returns-clause-list : goal.returns-clause-list
returns-clause-list c =
    c.drop_born.ensures.items
    ∙ ap (λ (held : List Holding). without_first (λ holding. holding.born == c.args.born) held) c.self.view_is
    ∙ first_alone c.args.born c.args.self.now c.requires.distinct
