-- Two aborts of one DONE land one after the other; a manager fails, and the master runs that of the address space.
use Rattle.std.specs.Prelude.{List, None, Some, [], codes, false, true, ◌∷◌}
use Rattle.rtm_codes.specs.declared.code.Code.TheVariants.{Sys, User}
use Rattle.rtm_deck_items.specs.View.{DeckView}
use Rattle.rtm_deck_items.specs.declared.op.Op.TheVariants.{Abend, Attachx, EstaexCt, Free, IfClup, MgrAdd, MgrDelete, Return, Schedule, SetRp, Wait, WaitTask}
use Rattle.rtm_deck_operands.specs.declared.value.Res.TheVariants.{Enq}
use Rattle.rtm_model.specs.declared.entry.Entry.{Entry}
use Rattle.rtm_model.specs.declared.entry.Fate.TheVariants.{Queued}
use Rattle.rtm_model.specs.declared.entry.Verdict.TheVariants.{Fail, Over}
use Rattle.rtm_model.specs.declared.reg.Kind.TheVariants.{Estae, Mgr}
use Rattle.rtm_model_rows.specs.Writing.{begin, card, deck_of, done_with, enter, error, exec, full_mark, labelled_line, land, leave, mark, memend, plain_done, program, retry, setrp, srb, task}
use Rattle.rtm_model.specs.declared.entry.Class.TheVariants as classes

abbrev pub deck : DeckView
deck =
    deck_of 20000 (
    program (codes "MAIN    ") (
    card (MgrAdd 2 true) ∷
    card (MgrAdd 1 false) ∷
    card (MgrDelete 1 false) ∷
    card (MgrDelete 1 false) ∷
    card (MgrAdd 3 false) ∷
    card (Attachx 1 None false) ∷
    card (Schedule 2) ∷
    card (Schedule 2) ∷
    card (WaitTask 1) ∷
    card (EstaexCt 7 false false false) ∷
    card (Schedule 3) ∷
    card (Wait 9) ∷
    labelled_line (codes "AGAIN   ") (Wait 9) ∷
    []) ∷
    program (codes "EMPTY   ") (
    []) ∷
    program (codes "SPACE   ") (
    card (Free Enq 1) ∷
    []) ∷
    program (codes "BAD     ") (
    card (Wait 9) ∷
    []) ∷
    program (codes "PT      ") (
    card (Wait 9) ∷
    []) ∷
    program (codes "P1      ") (
    card (IfClup (codes "OUT     ")) ∷
    labelled_line (codes "OUT     ") Return ∷
    []) ∷
    program (codes "P2      ") (
    card (Abend (User 2) None false true) ∷
    []) ∷
    program (codes "REC     ") (
    card (IfClup (codes "OUT     ")) ∷
    card (SetRp (setrp (Some 4) (Some (codes "AGAIN   ")) None None None None None None)) ∷
    labelled_line (codes "OUT     ") Return ∷
    []) ∷
    []) (
    task (codes "JOB     ") 0 ∷
    task (codes "T       ") 4 ∷
    srb (codes "S1      ") 5 (Some 1) ∷
    srb (codes "S2      ") 6 (Some 0) ∷
    []) []

abbrev pub history : List Entry
history =
    exec 0 0 1 0 ∷
    exec 0 0 2 0 ∷
    exec 0 0 3 0 ∷
    exec 0 0 4 4 ∷
    exec 0 0 5 0 ∷
    exec 0 0 6 0 ∷
    exec 0 0 7 0 ∷
    error 2 5 1 (mark (Sys 0xEE6)) ∷
    exec 0 0 8 8 ∷
    begin 2 (Sys 0xEE6) false ∷
    done_with 2 (Sys 0xEE6) (Some Queued) None ∷
    land 1 classes.Srb 10 (mark (Sys 0xEE6)) ∷
    begin 1 (Sys 0xEE6) false ∷
    plain_done 1 (Sys 0xEE6) ∷
    exec 0 0 9 0 ∷
    exec 0 0 10 0 ∷
    exec 0 0 11 0 ∷
    error 3 6 1 (mark (User 2)) ∷
    begin 3 (User 2) false ∷
    done_with 3 (User 2) (Some Queued) (Some Queued) ∷
    land 0 classes.Srb 19 (mark (User 2)) ∷
    enter 0 Estae 15 (mark (User 2)) ∷
    exec 0 7 1 0 ∷
    exec 0 7 2 0 ∷
    leave 0 Estae 15 (retry 0 13) ∷
    land 0 classes.Step 19 (full_mark (User 2) None true false false) ∷
    begin 0 (User 2) false ∷
    enter 0 Mgr 4 (mark (User 2)) ∷
    error 0 3 1 (full_mark (Sys 0x0F8) None true false false) ∷
    leave 0 Mgr 4 Fail ∷
    plain_done 0 (User 2) ∷
    enter 4 Mgr 0 (mark (User 2)) ∷
    exec 4 2 1 4 ∷
    leave 4 Mgr 0 Over ∷
    memend 4 ∷
    []
