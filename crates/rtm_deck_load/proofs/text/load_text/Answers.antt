use Rattle.rtm_deck_load.proofs.Written.{text_written}
use Rattle.rtm_deck_load.proofs.text.load_text.Goals as goal

pub returns : goal.returns
returns c =
    text_written c.args.tasks _ _ _ _ _ _ _ _ _ c.new-text.ensures.items c.in_ok-push_card.ensures c.in_ok-push_main.ensures c.in_ok-push_work.ensures c.in_ok-push_sub.ensures
    c.in_ok-push_routines.ensures c.in_ok-push_empty_programs.ensures c.in_ok-push_units.ensures c.in_ok-push_card-2.ensures
