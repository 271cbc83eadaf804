-- An ESTAI routine without an SDWA retries under the oldest request block.
use Rattle.std.specs.Prelude.{List, None, Some, [], codes, false, ◌∷◌}
use Rattle.rtm_codes.specs.declared.code.Code.TheVariants.{Sys, User}
use Rattle.rtm_deck_items.specs.View.{DeckView}
use Rattle.rtm_deck_items.specs.declared.op.Op.TheVariants.{Abend, Attachx, Nop, Ret15, WaitTask}
use Rattle.rtm_model.specs.declared.entry.Entry.{Entry}
use Rattle.rtm_model.specs.declared.reg.Kind.TheVariants.{Estai}
use Rattle.rtm_model_rows.specs.Writing.{bare_deck_of, begin, card, enter_bare, error, exec, labelled_line, leave, mark, memend, plain_done, program, retry, task}

abbrev pub deck : DeckView
deck =
    bare_deck_of 20000 (
    program (codes "MAIN    ") (
    card (Attachx 1 (Some 2) false) ∷
    card (WaitTask 1) ∷
    []) ∷
    program (codes "PA      ") (
    card Nop ∷
    card (Abend (User 3) None false false) ∷
    labelled_line (codes "BACK    ") Nop ∷
    []) ∷
    program (codes "WATCH   ") (
    card (Ret15 4 (Some (codes "BACK    "))) ∷
    []) ∷
    []) (
    task (codes "JOB     ") 0 ∷
    task (codes "A       ") 1 ∷
    []) []

abbrev pub history : List Entry
history =
    exec 0 0 1 0 ∷
    exec 1 1 1 0 ∷
    error 1 1 2 (mark (User 3)) ∷
    enter_bare 1 Estai 0 (mark (User 3)) ∷
    exec 1 2 1 0 ∷
    leave 1 Estai 0 (retry 1 3) ∷
    exec 1 1 3 0 ∷
    begin 1 (Sys 0x000) false ∷
    plain_done 1 (Sys 0x000) ∷
    exec 0 0 2 0 ∷
    begin 0 (Sys 0x000) false ∷
    plain_done 0 (Sys 0x000) ∷
    memend 2 ∷
    []
