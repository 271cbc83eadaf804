-- A task that does nothing ends.
use Rattle.std.specs.Prelude.{List, [], codes, false, ◌∷◌}
use Rattle.rtm_codes.specs.declared.code.Code.TheVariants.{Sys}
use Rattle.rtm_deck_items.specs.View.{DeckView}
use Rattle.rtm_deck_items.specs.declared.op.Op.TheVariants.{Nop, Return}
use Rattle.rtm_model.specs.declared.entry.Entry.{Entry}
use Rattle.rtm_model_rows.specs.Writing.{begin, card, deck_of, exec, memend, plain_done, program, task}

abbrev pub deck : DeckView
deck =
    deck_of 20000 (
    program (codes "MAIN    ") (
    card Nop ∷
    card Return ∷
    []) ∷
    []) (
    task (codes "JOB     ") 0 ∷
    []) []

abbrev pub history : List Entry
history =
    exec 0 0 1 0 ∷
    begin 0 (Sys 0x000) false ∷
    plain_done 0 (Sys 0x000) ∷
    memend 1 ∷
    []
