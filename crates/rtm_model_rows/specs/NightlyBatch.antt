-- A batch of four tasks: a retry, an abend with a dump, and a cancel that an ESTAI routine sees.
use Rattle.std.specs.Prelude.{List, None, Some, [], codes, false, true, ◌∷◌}
use Rattle.rtm_codes.specs.declared.code.Code.TheVariants.{Sys, User}
use Rattle.rtm_deck_items.specs.View.{DeckView}
use Rattle.rtm_deck_items.specs.declared.op.Op.TheVariants.{Abend, Attachx, EstaexCt, Free, Get, Nop, Post, Return, SetRp, Wait, WaitTask}
use Rattle.rtm_deck_operands.specs.declared.value.Res.TheVariants.{Dsn, Enq, Stor}
use Rattle.rtm_deck_operands.specs.declared.value.Three.TheVariants.{Yes}
use Rattle.rtm_model.specs.declared.entry.Entry.{Entry}
use Rattle.rtm_model.specs.declared.entry.Fate.TheVariants.{Queued}
use Rattle.rtm_model.specs.declared.entry.Verdict.TheVariants.{Perc}
use Rattle.rtm_model.specs.declared.reg.Kind.TheVariants.{Estae, Estai}
use Rattle.rtm_model_rows.specs.Writing.{arrive, begin, cancel, card, deck_of, enter, error, exec, full_mark, labelled_line, land, leave, leave_with, mark, memend, plain_done, program, release, retry, setrp, task}
use Rattle.rtm_model.specs.declared.entry.Class.TheVariants as classes

abbrev pub deck : DeckView
deck =
    deck_of 20000 (
    program (codes "MAIN    ") (
    card (Get Enq 100) ∷
    card (EstaexCt 5 true true false) ∷
    card (Attachx 1 (Some 6) false) ∷
    card (Attachx 2 (Some 6) true) ∷
    card (Attachx 3 None false) ∷
    card (WaitTask 1) ∷
    card (WaitTask 2) ∷
    card (WaitTask 3) ∷
    card (Free Enq 100) ∷
    card Return ∷
    []) ∷
    program (codes "READER  ") (
    card (Get Dsn 1) ∷
    card (EstaexCt 4 false true false) ∷
    card (Abend (Sys 0x0C4) (Some 16) false false) ∷
    labelled_line (codes "GOON    ") (Free Dsn 1) ∷
    card (Post 1) ∷
    card Return ∷
    []) ∷
    program (codes "CALCPGM ") (
    card (Get Stor 64) ∷
    card (Wait 2) ∷
    card Return ∷
    []) ∷
    program (codes "PRINTER ") (
    card (Get Dsn 2) ∷
    card (Wait 1) ∷
    card (Abend (User 20) None true false) ∷
    []) ∷
    program (codes "READREC ") (
    card (SetRp (setrp (Some 4) (Some (codes "GOON    ")) None None None None (Some Yes) None)) ∷
    []) ∷
    program (codes "MAINREC ") (
    []) ∷
    program (codes "WATCH   ") (
    card Nop ∷
    []) ∷
    []) (
    task (codes "JOB     ") 0 ∷
    task (codes "READ    ") 1 ∷
    task (codes "CALC    ") 2 ∷
    task (codes "PRINT   ") 3 ∷
    []) (cancel 2 30 false ∷ [])

abbrev pub history : List Entry
history =
    exec 0 0 1 0 ∷
    exec 0 0 2 0 ∷
    exec 0 0 3 0 ∷
    exec 1 1 1 0 ∷
    exec 0 0 4 0 ∷
    exec 1 1 2 0 ∷
    exec 2 2 1 0 ∷
    exec 0 0 5 0 ∷
    error 1 1 3 (full_mark (Sys 0x0C4) (Some 16) false false false) ∷
    exec 3 3 1 0 ∷
    enter 1 Estae 5 (full_mark (Sys 0x0C4) (Some 16) false false false) ∷
    exec 1 4 1 0 ∷
    leave_with 1 Estae 5 (retry 1 4) true false ∷
    exec 1 1 4 0 ∷
    exec 1 1 5 0 ∷
    exec 3 3 2 0 ∷
    begin 1 (Sys 0x000) false ∷
    error 3 3 3 (mark (User 20)) ∷
    plain_done 1 (Sys 0x000) ∷
    begin 3 (User 20) true ∷
    exec 0 0 6 0 ∷
    release 3 Dsn 2 3 ∷
    plain_done 3 (User 20) ∷
    arrive 2 0 Queued ∷
    land 2 classes.Cancel 23 (full_mark (Sys 0x222) None true false false) ∷
    enter 2 Estai 4 (full_mark (Sys 0x222) None true false false) ∷
    exec 2 6 1 0 ∷
    leave 2 Estai 4 Perc ∷
    begin 2 (Sys 0x222) false ∷
    release 2 Stor 64 2 ∷
    plain_done 2 (Sys 0x222) ∷
    exec 0 0 7 0 ∷
    exec 0 0 8 0 ∷
    exec 0 0 9 0 ∷
    begin 0 (Sys 0x000) false ∷
    plain_done 0 (Sys 0x000) ∷
    memend 4 ∷
    []
