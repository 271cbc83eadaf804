-- The seventeenth FRR is the error 07D, and the sixteen percolate, newest first.
use Rattle.std.specs.Prelude.{List, None, [], codes, false, true, ◌∷◌}
use Rattle.rtm_codes.specs.declared.code.Code.TheVariants.{Sys}
use Rattle.rtm_deck_items.specs.View.{DeckView}
use Rattle.rtm_deck_items.specs.declared.op.Op.TheVariants.{FrrAdd}
use Rattle.rtm_model.specs.declared.entry.Entry.{Entry}
use Rattle.rtm_model.specs.declared.entry.Verdict.TheVariants.{Perc}
use Rattle.rtm_model.specs.declared.reg.Kind.TheVariants.{Frr}
use Rattle.rtm_model_rows.specs.Writing.{begin, card, deck_of, enter, error, exec, full_mark, leave, mark, memend, plain_done, program, task}

abbrev pub deck : DeckView
deck =
    deck_of 20000 (
    program (codes "MAIN    ") (
    card (FrrAdd 1) ∷
    card (FrrAdd 1) ∷
    card (FrrAdd 1) ∷
    card (FrrAdd 1) ∷
    card (FrrAdd 1) ∷
    card (FrrAdd 1) ∷
    card (FrrAdd 1) ∷
    card (FrrAdd 1) ∷
    card (FrrAdd 1) ∷
    card (FrrAdd 1) ∷
    card (FrrAdd 1) ∷
    card (FrrAdd 1) ∷
    card (FrrAdd 1) ∷
    card (FrrAdd 1) ∷
    card (FrrAdd 1) ∷
    card (FrrAdd 1) ∷
    card (FrrAdd 1) ∷
    []) ∷
    program (codes "F       ") (
    []) ∷
    []) (
    task (codes "JOB     ") 0 ∷
    []) []

abbrev pub history : List Entry
history =
    exec 0 0 1 0 ∷
    exec 0 0 2 0 ∷
    exec 0 0 3 0 ∷
    exec 0 0 4 0 ∷
    exec 0 0 5 0 ∷
    exec 0 0 6 0 ∷
    exec 0 0 7 0 ∷
    exec 0 0 8 0 ∷
    exec 0 0 9 0 ∷
    exec 0 0 10 0 ∷
    exec 0 0 11 0 ∷
    exec 0 0 12 0 ∷
    exec 0 0 13 0 ∷
    exec 0 0 14 0 ∷
    exec 0 0 15 0 ∷
    exec 0 0 16 0 ∷
    error 0 0 17 (mark (Sys 0x07D)) ∷
    enter 0 Frr 15 (mark (Sys 0x07D)) ∷
    leave 0 Frr 15 Perc ∷
    enter 0 Frr 14 (full_mark (Sys 0x07D) None false true false) ∷
    leave 0 Frr 14 Perc ∷
    enter 0 Frr 13 (full_mark (Sys 0x07D) None false true false) ∷
    leave 0 Frr 13 Perc ∷
    enter 0 Frr 12 (full_mark (Sys 0x07D) None false true false) ∷
    leave 0 Frr 12 Perc ∷
    enter 0 Frr 11 (full_mark (Sys 0x07D) None false true false) ∷
    leave 0 Frr 11 Perc ∷
    enter 0 Frr 10 (full_mark (Sys 0x07D) None false true false) ∷
    leave 0 Frr 10 Perc ∷
    enter 0 Frr 9 (full_mark (Sys 0x07D) None false true false) ∷
    leave 0 Frr 9 Perc ∷
    enter 0 Frr 8 (full_mark (Sys 0x07D) None false true false) ∷
    leave 0 Frr 8 Perc ∷
    enter 0 Frr 7 (full_mark (Sys 0x07D) None false true false) ∷
    leave 0 Frr 7 Perc ∷
    enter 0 Frr 6 (full_mark (Sys 0x07D) None false true false) ∷
    leave 0 Frr 6 Perc ∷
    enter 0 Frr 5 (full_mark (Sys 0x07D) None false true false) ∷
    leave 0 Frr 5 Perc ∷
    enter 0 Frr 4 (full_mark (Sys 0x07D) None false true false) ∷
    leave 0 Frr 4 Perc ∷
    enter 0 Frr 3 (full_mark (Sys 0x07D) None false true false) ∷
    leave 0 Frr 3 Perc ∷
    enter 0 Frr 2 (full_mark (Sys 0x07D) None false true false) ∷
    leave 0 Frr 2 Perc ∷
    enter 0 Frr 1 (full_mark (Sys 0x07D) None false true false) ∷
    leave 0 Frr 1 Perc ∷
    enter 0 Frr 0 (full_mark (Sys 0x07D) None false true false) ∷
    leave 0 Frr 0 Perc ∷
    begin 0 (Sys 0x07D) false ∷
    plain_done 0 (Sys 0x07D) ∷
    memend 1 ∷
    []
