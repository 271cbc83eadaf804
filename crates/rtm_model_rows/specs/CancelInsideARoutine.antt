-- A cancel lands in a routine of a routine: nothing retries from then on.
use Rattle.std.specs.Prelude.{List, None, Some, [], codes, false, true, ◌∷◌}
use Rattle.rtm_codes.specs.declared.code.Code.TheVariants.{Sys, User}
use Rattle.rtm_deck_items.specs.View.{DeckView}
use Rattle.rtm_deck_items.specs.declared.op.Op.TheVariants.{Abend, EstaexCt, Nop, SetRp}
use Rattle.rtm_model.specs.declared.entry.Entry.{Entry}
use Rattle.rtm_model.specs.declared.entry.Fate.TheVariants.{Queued}
use Rattle.rtm_model.specs.declared.entry.Verdict.TheVariants.{Bad, Fail}
use Rattle.rtm_model.specs.declared.reg.Kind.TheVariants.{Estae}
use Rattle.rtm_model_rows.specs.Writing.{arrive, begin, cancel, card, deck_of, enter, error, exec, full_mark, labelled_line, land, leave, mark, memend, plain_done, program, setrp, task}
use Rattle.rtm_model.specs.declared.entry.Class.TheVariants as classes

abbrev pub deck : DeckView
deck =
    deck_of 20000 (
    program (codes "MAIN    ") (
    card (EstaexCt 4 true true false) ∷
    card (EstaexCt 1 false true false) ∷
    card (Abend (Sys 0x0C1) None false false) ∷
    labelled_line (codes "BACK    ") Nop ∷
    []) ∷
    program (codes "R1      ") (
    card (EstaexCt 2 false true false) ∷
    card (Abend (User 1) None false false) ∷
    []) ∷
    program (codes "R2      ") (
    card (EstaexCt 3 false true false) ∷
    card Nop ∷
    card (Abend (User 2) None false false) ∷
    []) ∷
    program (codes "R3      ") (
    []) ∷
    program (codes "KEEP    ") (
    card (SetRp (setrp (Some 4) (Some (codes "BACK    ")) None None None None None None)) ∷
    []) ∷
    []) (
    task (codes "JOB     ") 0 ∷
    []) (cancel 0 8 false ∷ [])

abbrev pub history : List Entry
history =
    exec 0 0 1 0 ∷
    exec 0 0 2 0 ∷
    error 0 0 3 (mark (Sys 0x0C1)) ∷
    enter 0 Estae 1 (mark (Sys 0x0C1)) ∷
    exec 0 1 1 0 ∷
    error 0 1 2 (mark (User 1)) ∷
    enter 0 Estae 4 (mark (User 1)) ∷
    exec 0 2 1 0 ∷
    arrive 0 0 Queued ∷
    land 0 classes.Cancel 8 (full_mark (Sys 0x222) None true false false) ∷
    leave 0 Estae 4 Fail ∷
    leave 0 Estae 1 Fail ∷
    enter 0 Estae 0 (full_mark (Sys 0x222) None true false true) ∷
    exec 0 4 1 0 ∷
    leave 0 Estae 0 Bad ∷
    begin 0 (Sys 0x222) false ∷
    plain_done 0 (Sys 0x222) ∷
    memend 1 ∷
    []
