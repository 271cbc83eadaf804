-- A wait for an event that nobody posts.
use Rattle.std.specs.Prelude.{List, [], codes, ◌∷◌}
use Rattle.rtm_deck_items.specs.View.{DeckView}
use Rattle.rtm_deck_items.specs.declared.op.Op.TheVariants.{Wait}
use Rattle.rtm_model.specs.declared.entry.Entry.{Entry}
use Rattle.rtm_model_rows.specs.Writing.{card, deck_of, program, task}

abbrev pub deck : DeckView
deck =
    deck_of 20000 (
    program (codes "MAIN    ") (
    card (Wait 1) ∷
    []) ∷
    []) (
    task (codes "JOB     ") 0 ∷
    []) []

abbrev pub history : List Entry
history =
    []
