-- Retries by an FRR, an ESTAE and an ESTAI routine, branches that depend on the record, and each abort that a task
-- posts to another.
use Rattle.std.specs.Prelude.{List, None, Some, [], codes, false, true, ◌∷◌}
use Rattle.rtm_codes.specs.declared.code.Code.TheVariants.{Sys, User}
use Rattle.rtm_deck_items.specs.View.{DeckView}
use Rattle.rtm_deck_items.specs.declared.op.Op.TheVariants.{Abend, Attachx, Branch, EstaexCt, EstaexOv, EstaexZero, FrrAdd, FrrDelete, FrrReplace, IfClup, IfCode, IfPerc, Nop, Post, Return, SetRp, Wait, WaitTask}
use Rattle.rtm_model.specs.declared.entry.Entry.{Entry}
use Rattle.rtm_model.specs.declared.entry.Fate.TheVariants.{Queued}
use Rattle.rtm_model.specs.declared.entry.Verdict.TheVariants.{Bad, Fail, Perc}
use Rattle.rtm_model.specs.declared.reg.Kind.TheVariants.{Estae, Estai, Frr}
use Rattle.rtm_model_rows.specs.Writing.{arrive, begin, cancel, card, deck_of, enter, error, exec, full_mark, labelled_line, land, leave, mark, memend, plain_done, program, retry, setrp, task}
use Rattle.rtm_deck_items.specs.declared.op.Op.TheVariants as ops
use Rattle.rtm_model.specs.declared.entry.Class.TheVariants as classes

abbrev pub deck : DeckView
deck =
    deck_of 20000 (
    program (codes "MAIN    ") (
    card (EstaexOv 5 false true false) ∷
    card EstaexZero ∷
    card (FrrReplace 1) ∷
    card FrrDelete ∷
    card (EstaexCt 2 false true false) ∷
    card (EstaexOv 5 false true false) ∷
    card (FrrAdd 2) ∷
    card (FrrReplace 1) ∷
    card (FrrAdd 3) ∷
    card (FrrAdd 4) ∷
    card (Branch (codes "FIRST   ")) ∷
    card Nop ∷
    labelled_line (codes "FIRST   ") (Abend (Sys 0x0C1) None false false) ∷
    labelled_line (codes "SECOND  ") FrrDelete ∷
    card (EstaexCt 2 false true false) ∷
    card (Abend (Sys 0x0C4) (Some 4) false false) ∷
    labelled_line (codes "THIRD   ") (Attachx 1 (Some 7) false) ∷
    card (Attachx 1 None false) ∷
    card (Wait 1) ∷
    card (ops.Detach 1 true) ∷
    card (Attachx 2 (Some 4) false) ∷
    card (ops.Abterm 2 (User 7) None false false) ∷
    card (Attachx 3 (Some 3) true) ∷
    card (WaitTask 3) ∷
    card (ops.Detach 3 false) ∷
    card (ops.Detach 4 false) ∷
    []) ∷
    program (codes "FRR     ") (
    card (SetRp (setrp (Some 4) (Some (codes "SECOND  ")) None None None None None None)) ∷
    []) ∷
    program (codes "PASS    ") (
    []) ∷
    program (codes "BADLY   ") (
    card (SetRp (setrp (Some 4) None None None None None None None)) ∷
    []) ∷
    program (codes "FAILS   ") (
    card (Abend (User 2) None false false) ∷
    []) ∷
    program (codes "REC     ") (
    card (IfCode (Sys 0x23E) (codes "OUT     ")) ∷
    card (IfClup (codes "OUT     ")) ∷
    card (IfPerc (codes "RETRY   ")) ∷
    card Return ∷
    labelled_line (codes "RETRY   ") (SetRp (setrp (Some 4) (Some (codes "THIRD   ")) None None None None None None)) ∷
    labelled_line (codes "OUT     ") Return ∷
    []) ∷
    program (codes "PA      ") (
    card (Abend (User 1) None false false) ∷
    labelled_line (codes "BACK    ") (Post 1) ∷
    card (Post 1) ∷
    card (Wait 9) ∷
    []) ∷
    program (codes "WATCH   ") (
    card (IfClup (codes "OUT     ")) ∷
    card (SetRp (setrp (Some 4) (Some (codes "BACK    ")) None None None None None None)) ∷
    labelled_line (codes "OUT     ") Return ∷
    []) ∷
    program (codes "PB      ") (
    card (EstaexCt 9 false true false) ∷
    card (Wait 9) ∷
    labelled_line (codes "ON      ") Return ∷
    []) ∷
    program (codes "AGAIN   ") (
    card (IfClup (codes "ASK     ")) ∷
    labelled_line (codes "ASK     ") (SetRp (setrp (Some 4) (Some (codes "ON      ")) None None None None None None)) ∷
    []) ∷
    program (codes "PC      ") (
    card (Wait 9) ∷
    []) ∷
    []) (
    task (codes "JOB     ") 0 ∷
    task (codes "A       ") 6 ∷
    task (codes "B       ") 8 ∷
    task (codes "C       ") 10 ∷
    task (codes "D       ") 10 ∷
    []) (cancel 3 0 true ∷ [])

abbrev pub history : List Entry
history =
    exec 0 0 1 8 ∷
    exec 0 0 2 8 ∷
    exec 0 0 3 4 ∷
    exec 0 0 4 4 ∷
    exec 0 0 5 0 ∷
    exec 0 0 6 0 ∷
    exec 0 0 7 0 ∷
    exec 0 0 8 0 ∷
    exec 0 0 9 0 ∷
    exec 0 0 10 0 ∷
    exec 0 0 11 0 ∷
    error 0 0 13 (mark (Sys 0x0C1)) ∷
    enter 0 Frr 9 (mark (Sys 0x0C1)) ∷
    error 0 4 1 (mark (User 2)) ∷
    leave 0 Frr 9 Fail ∷
    enter 0 Frr 8 (full_mark (Sys 0x0C1) None false false true) ∷
    exec 0 3 1 0 ∷
    leave 0 Frr 8 Bad ∷
    enter 0 Frr 7 (full_mark (Sys 0x0C1) None false true true) ∷
    exec 0 1 1 0 ∷
    leave 0 Frr 7 (retry 0 14) ∷
    exec 0 0 14 0 ∷
    exec 0 0 15 0 ∷
    error 0 0 16 (full_mark (Sys 0x0C4) (Some 4) false false false) ∷
    enter 0 Estae 22 (full_mark (Sys 0x0C4) (Some 4) false false false) ∷
    leave 0 Estae 22 Perc ∷
    enter 0 Estae 5 (full_mark (Sys 0x0C4) (Some 4) false true false) ∷
    exec 0 5 1 0 ∷
    exec 0 5 2 0 ∷
    exec 0 5 3 4 ∷
    exec 0 5 5 0 ∷
    leave 0 Estae 5 (retry 0 17) ∷
    exec 0 0 17 0 ∷
    error 1 6 1 (mark (User 1)) ∷
    exec 0 0 18 8 ∷
    enter 1 Estai 32 (mark (User 1)) ∷
    exec 1 7 1 0 ∷
    exec 1 7 2 0 ∷
    leave 1 Estai 32 (retry 6 2) ∷
    exec 1 6 2 0 ∷
    exec 0 0 19 0 ∷
    exec 1 6 3 4 ∷
    exec 0 0 20 0 ∷
    land 1 classes.Detach 42 (full_mark (Sys 0x33E) None true false false) ∷
    exec 0 0 21 0 ∷
    enter 1 Estai 32 (full_mark (Sys 0x33E) None true false false) ∷
    exec 2 8 1 0 ∷
    exec 0 0 22 0 ∷
    exec 1 7 1 4 ∷
    land 2 classes.Abterm 47 (full_mark (User 7) None true false false) ∷
    exec 0 0 23 0 ∷
    arrive 3 0 Queued ∷
    leave 1 Estai 32 Perc ∷
    enter 2 Estae 46 (full_mark (User 7) None true false false) ∷
    land 3 classes.Cancel 51 (full_mark (Sys 0x122) None true false false) ∷
    begin 1 (Sys 0x33E) false ∷
    exec 2 9 1 4 ∷
    enter 3 Estai 50 (full_mark (Sys 0x122) None true false false) ∷
    plain_done 1 (Sys 0x33E) ∷
    exec 2 9 2 0 ∷
    exec 3 3 1 0 ∷
    leave 2 Estae 46 Bad ∷
    leave 3 Estai 50 Bad ∷
    enter 2 Estai 44 (full_mark (User 7) None true true false) ∷
    begin 3 (Sys 0x122) true ∷
    error 2 4 1 (full_mark (User 2) None true false false) ∷
    plain_done 3 (Sys 0x122) ∷
    exec 0 0 24 0 ∷
    leave 2 Estai 44 Fail ∷
    exec 0 0 25 8 ∷
    begin 2 (User 7) false ∷
    error 0 0 26 (mark (Sys 0x23E)) ∷
    plain_done 2 (User 7) ∷
    enter 0 Estae 5 (mark (Sys 0x23E)) ∷
    exec 0 5 1 4 ∷
    leave 0 Estae 5 Perc ∷
    begin 0 (Sys 0x23E) false ∷
    plain_done 0 (Sys 0x23E) ∷
    memend 5 ∷
    []
