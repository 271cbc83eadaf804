-- Two aborts are pending: the first lands once the FRR is gone, the second in the routine of its error.
use Rattle.std.specs.Prelude.{List, None, [], codes, false, true, ◌∷◌}
use Rattle.rtm_codes.specs.declared.code.Code.TheVariants.{Sys, User}
use Rattle.rtm_deck_items.specs.View.{DeckView}
use Rattle.rtm_deck_items.specs.declared.op.Op.TheVariants.{Attachx, EstaexCt, FrrAdd, FrrPurge, Nop, Post, Wait, WaitTask}
use Rattle.rtm_model.specs.declared.entry.Entry.{Entry}
use Rattle.rtm_model.specs.declared.entry.Verdict.TheVariants.{Fail}
use Rattle.rtm_model.specs.declared.reg.Kind.TheVariants.{Estae}
use Rattle.rtm_model_rows.specs.Writing.{begin, card, deck_of, enter, exec, full_mark, land, leave, mark, memend, plain_done, program, task}
use Rattle.rtm_deck_items.specs.declared.op.Op.TheVariants as ops
use Rattle.rtm_model.specs.declared.entry.Class.TheVariants as classes

abbrev pub deck : DeckView
deck =
    deck_of 20000 (
    program (codes "MAIN    ") (
    card (Attachx 1 None false) ∷
    card (Wait 1) ∷
    card (ops.Abterm 1 (User 5) None false true) ∷
    card (ops.Detach 1 false) ∷
    card (WaitTask 1) ∷
    []) ∷
    program (codes "PA      ") (
    card (EstaexCt 2 false true false) ∷
    card (FrrAdd 2) ∷
    card (Post 1) ∷
    card Nop ∷
    card Nop ∷
    card Nop ∷
    card FrrPurge ∷
    []) ∷
    program (codes "R       ") (
    []) ∷
    []) (
    task (codes "JOB     ") 0 ∷
    task (codes "A       ") 1 ∷
    []) []

abbrev pub history : List Entry
history =
    exec 0 0 1 0 ∷
    exec 1 1 1 0 ∷
    exec 1 1 2 0 ∷
    exec 1 1 3 0 ∷
    exec 0 0 2 0 ∷
    exec 1 1 4 0 ∷
    exec 0 0 3 0 ∷
    exec 1 1 5 0 ∷
    exec 0 0 4 0 ∷
    exec 1 1 6 0 ∷
    exec 1 1 7 0 ∷
    land 1 classes.Abterm 6 (mark (User 5)) ∷
    enter 1 Estae 1 (mark (User 5)) ∷
    land 1 classes.Detach 8 (full_mark (Sys 0x13E) None true false false) ∷
    leave 1 Estae 1 Fail ∷
    begin 1 (Sys 0x13E) false ∷
    plain_done 1 (Sys 0x13E) ∷
    exec 0 0 5 0 ∷
    begin 0 (Sys 0x000) false ∷
    plain_done 0 (Sys 0x000) ∷
    memend 2 ∷
    []
