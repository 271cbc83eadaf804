-- One request block, ESTAE routine, holding and resource manager more than there may be.
use Rattle.std.specs.Prelude.{List, None, Some, [], codes, false, replicate, true, ◌++◌, ◌∷◌}
use Rattle.rtm_codes.specs.declared.code.Code.TheVariants.{Sys}
use Rattle.rtm_deck_items.specs.View.{DeckView}
use Rattle.rtm_deck_items.specs.declared.op.Op.TheVariants.{Attachx, EstaexCt, Get, Link, MgrAdd, Return, SetRp, WaitTask}
use Rattle.rtm_deck_operands.specs.declared.value.Res.TheVariants.{Stor}
use Rattle.rtm_model.specs.declared.entry.Entry.{Entry}
use Rattle.rtm_model.specs.declared.reg.Kind.TheVariants.{Estae}
use Rattle.rtm_model_rows.specs.Writing.{begin, card, deck_of, enter, error, exec, execs, labelled_line, leave, managers_run, mark, memend, plain_done, program, release, retry, setrp, task}

abbrev pub deck : DeckView
deck =
    deck_of 20000 (
    program (codes "MAIN    ") (
    card (Attachx 1 None false) ∷
    card (WaitTask 1) ∷
    card (Attachx 2 None false) ∷
    card (WaitTask 2) ∷
    card (Attachx 3 None false) ∷
    card (WaitTask 3) ∷
    card (Attachx 4 None false) ∷
    card (WaitTask 4) ∷
    []) ∷
    program (codes "DEEP    ") (
    card (Link 1) ∷
    []) ∷
    program (codes "WIDE    ") (
    replicate 65 (card (EstaexCt 5 false true false)) ++
    labelled_line (codes "OVER    ") Return ∷
    []) ∷
    program (codes "HELD    ") (
    replicate 257 (card (Get Stor 1))) ∷
    program (codes "KEPT    ") (
    replicate 65 (card (MgrAdd 6 false))) ∷
    program (codes "REC     ") (
    card (SetRp (setrp (Some 4) (Some (codes "OVER    ")) None None None None None None)) ∷
    []) ∷
    program (codes "NONE    ") (
    []) ∷
    []) (
    task (codes "JOB     ") 0 ∷
    task (codes "A       ") 1 ∷
    task (codes "B       ") 2 ∷
    task (codes "C       ") 3 ∷
    task (codes "D       ") 4 ∷
    []) []

abbrev pub history : List Entry
history =
    exec 0 0 1 0 ∷
    replicate 31 (exec 1 1 1 0) ++
    error 1 1 1 (mark (Sys 0xEE1)) ∷
    begin 1 (Sys 0xEE1) false ∷
    plain_done 1 (Sys 0xEE1) ∷
    exec 0 0 2 0 ∷
    exec 0 0 3 0 ∷
    execs 2 2 1 64 ++
    error 2 2 65 (mark (Sys 0xEE2)) ∷
    enter 2 Estae 100 (mark (Sys 0xEE2)) ∷
    exec 2 5 1 0 ∷
    leave 2 Estae 100 (retry 2 66) ∷
    begin 2 (Sys 0x000) false ∷
    plain_done 2 (Sys 0x000) ∷
    exec 0 0 4 0 ∷
    exec 0 0 5 0 ∷
    execs 3 3 1 256 ++
    error 3 3 257 (mark (Sys 0xEE4)) ∷
    begin 3 (Sys 0xEE4) false ∷
    replicate 256 (release 3 Stor 1 3) ++
    plain_done 3 (Sys 0xEE4) ∷
    exec 0 0 6 0 ∷
    exec 0 0 7 0 ∷
    execs 4 4 1 64 ++
    error 4 4 65 (mark (Sys 0xEE5)) ∷
    begin 4 (Sys 0xEE5) false ∷
    managers_run 4 626 64 (mark (Sys 0xEE5)) ++
    plain_done 4 (Sys 0xEE5) ∷
    exec 0 0 8 0 ∷
    begin 0 (Sys 0x000) false ∷
    plain_done 0 (Sys 0x000) ∷
    memend 5 ∷
    []
