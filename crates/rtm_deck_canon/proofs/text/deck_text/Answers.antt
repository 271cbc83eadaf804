use Rattle.rtm_deck_canon.proofs.Fitting.{region_fits, programs_fit, units_fit, commands_fit}
use Rattle.std.proofs.Common.{ℕ, List, ◌++◌, ap, ◌∙◌}
use Rattle.rtm_deck_canon.specs.Text.{region_text}
use Rattle.rtm_deck_canon.proofs.PartTexts.{written}
use Rattle.rtm_deck_canon.proofs.text.deck_text.Goals as goal

pub push_region-requires : goal.push_region-requires
push_region-requires c = region_fits c.args.deck.now c.keeps_its_form.ensures.well_formed

pub push_programs-requires : goal.push_programs-requires
push_programs-requires c = programs_fit c.args.deck.now c.keeps_its_form.ensures.well_formed

pub push_units-requires : goal.push_units-requires
push_units-requires c = units_fit c.args.deck.now c.keeps_its_form.ensures.well_formed

pub push_commands-requires : goal.push_commands-requires
push_commands-requires c = commands_fit c.args.deck.now c.keeps_its_form.ensures.well_formed

pub returns : goal.returns
returns c = written c.args.deck.now _ _ _ _ _ (c.in_ok-push_region.ensures ∙ ap (λ (x : List ℕ). x ++ region_text c.args.deck.now) c.new-text.ensures.items) c.in_ok-push_programs.ensures c.in_ok-push_units.ensures c.in_ok-push_commands.ensures c.in_ok-push_bare_card.ensures
