-- RC=16 of an ESTAI routine: no further one of the unit gets control.
use Rattle.std.specs.Prelude.{List, None, Some, [], codes, false, ◌∷◌}
use Rattle.rtm_codes.specs.declared.code.Code.TheVariants.{Sys}
use Rattle.rtm_deck_items.specs.View.{DeckView}
use Rattle.rtm_deck_items.specs.declared.op.Op.TheVariants.{Abend, Attachx, SetRp, WaitTask}
use Rattle.rtm_model.specs.declared.entry.Entry.{Entry}
use Rattle.rtm_model.specs.declared.entry.Verdict.TheVariants.{Stop}
use Rattle.rtm_model.specs.declared.reg.Kind.TheVariants.{Estai}
use Rattle.rtm_model_rows.specs.Writing.{begin, card, deck_of, enter, error, exec, leave, mark, memend, plain_done, program, setrp, task}

abbrev pub deck : DeckView
deck =
    deck_of 20000 (
    program (codes "MAIN    ") (
    card (Attachx 1 (Some 3) false) ∷
    card (WaitTask 1) ∷
    []) ∷
    program (codes "PA      ") (
    card (Attachx 2 (Some 4) false) ∷
    card (WaitTask 2) ∷
    []) ∷
    program (codes "PB      ") (
    card (Abend (Sys 0x0C7) None false false) ∷
    []) ∷
    program (codes "E1      ") (
    []) ∷
    program (codes "E2      ") (
    card (SetRp (setrp (Some 16) None None None None None None None)) ∷
    []) ∷
    []) (
    task (codes "JOB     ") 0 ∷
    task (codes "A       ") 1 ∷
    task (codes "B       ") 2 ∷
    []) []

abbrev pub history : List Entry
history =
    exec 0 0 1 0 ∷
    exec 1 1 1 0 ∷
    error 2 2 1 (mark (Sys 0x0C7)) ∷
    enter 2 Estai 1 (mark (Sys 0x0C7)) ∷
    exec 2 4 1 0 ∷
    leave 2 Estai 1 Stop ∷
    begin 2 (Sys 0x0C7) false ∷
    plain_done 2 (Sys 0x0C7) ∷
    exec 1 1 2 0 ∷
    begin 1 (Sys 0x000) false ∷
    plain_done 1 (Sys 0x000) ∷
    exec 0 0 2 0 ∷
    begin 0 (Sys 0x000) false ∷
    plain_done 0 (Sys 0x000) ∷
    memend 3 ∷
    []
