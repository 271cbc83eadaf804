-- The job step task ends while a subtask lives: A03, and the subtask is aborted.
use Rattle.std.specs.Prelude.{List, None, [], codes, false, true, ◌∷◌}
use Rattle.rtm_codes.specs.declared.code.Code.TheVariants.{Sys}
use Rattle.rtm_deck_items.specs.View.{DeckView}
use Rattle.rtm_deck_items.specs.declared.op.Op.TheVariants.{Attachx, Wait}
use Rattle.rtm_model.specs.declared.entry.Entry.{Entry}
use Rattle.rtm_model_rows.specs.Writing.{begin, card, deck_of, exec, full_mark, land, memend, plain_done, program, task}
use Rattle.rtm_model.specs.declared.entry.Class.TheVariants as classes

abbrev pub deck : DeckView
deck =
    deck_of 20000 (
    program (codes "MAIN    ") (
    card (Attachx 1 None false) ∷
    []) ∷
    program (codes "PA      ") (
    card (Wait 3) ∷
    []) ∷
    []) (
    task (codes "JOB     ") 0 ∷
    task (codes "A       ") 1 ∷
    []) []

abbrev pub history : List Entry
history =
    exec 0 0 1 0 ∷
    begin 0 (Sys 0xA03) false ∷
    land 1 classes.Mother 1 (full_mark (Sys 0x13E) None true false false) ∷
    begin 1 (Sys 0x13E) false ∷
    plain_done 1 (Sys 0x13E) ∷
    plain_done 0 (Sys 0xA03) ∷
    memend 2 ∷
    []
