-- A routine with CANCEL=NO waits for ever: the cancel stays pending, and the history stalls.
use Rattle.std.specs.Prelude.{List, None, [], codes, false, ◌∷◌}
use Rattle.rtm_codes.specs.declared.code.Code.TheVariants.{Sys}
use Rattle.rtm_deck_items.specs.View.{DeckView}
use Rattle.rtm_deck_items.specs.declared.op.Op.TheVariants.{Abend, EstaexCt, Wait}
use Rattle.rtm_model.specs.declared.entry.Entry.{Entry}
use Rattle.rtm_model.specs.declared.entry.Fate.TheVariants.{Queued}
use Rattle.rtm_model.specs.declared.reg.Kind.TheVariants.{Estae}
use Rattle.rtm_model_rows.specs.Writing.{arrive, cancel, card, deck_of, enter, error, exec, mark, program, task}

abbrev pub deck : DeckView
deck =
    deck_of 20000 (
    program (codes "MAIN    ") (
    card (EstaexCt 1 false false false) ∷
    card (Abend (Sys 0x0C1) None false false) ∷
    []) ∷
    program (codes "W       ") (
    card (Wait 9) ∷
    []) ∷
    []) (
    task (codes "JOB     ") 0 ∷
    []) (cancel 0 100 false ∷ [])

abbrev pub history : List Entry
history =
    exec 0 0 1 0 ∷
    error 0 0 2 (mark (Sys 0x0C1)) ∷
    enter 0 Estae 0 (mark (Sys 0x0C1)) ∷
    arrive 0 0 Queued ∷
    []
