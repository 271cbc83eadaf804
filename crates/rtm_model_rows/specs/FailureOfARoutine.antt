-- A recovery routine fails, and the next older one gets control.
use Rattle.std.specs.Prelude.{List, None, [], codes, false, true, ◌∷◌}
use Rattle.rtm_codes.specs.declared.code.Code.TheVariants.{Sys, User}
use Rattle.rtm_deck_items.specs.View.{DeckView}
use Rattle.rtm_deck_items.specs.declared.op.Op.TheVariants.{Abend, EstaexCt}
use Rattle.rtm_model.specs.declared.entry.Entry.{Entry}
use Rattle.rtm_model.specs.declared.entry.Verdict.TheVariants.{Fail, Perc}
use Rattle.rtm_model.specs.declared.reg.Kind.TheVariants.{Estae}
use Rattle.rtm_model_rows.specs.Writing.{begin, card, deck_of, enter, error, exec, full_mark, leave, mark, memend, plain_done, program, task}

abbrev pub deck : DeckView
deck =
    deck_of 20000 (
    program (codes "MAIN    ") (
    card (EstaexCt 2 false true false) ∷
    card (EstaexCt 1 false true false) ∷
    card (Abend (Sys 0x0C1) None false false) ∷
    []) ∷
    program (codes "OUTER   ") (
    card (Abend (User 7) None false false) ∷
    []) ∷
    program (codes "LAST    ") (
    []) ∷
    []) (
    task (codes "JOB     ") 0 ∷
    []) []

abbrev pub history : List Entry
history =
    exec 0 0 1 0 ∷
    exec 0 0 2 0 ∷
    error 0 0 3 (mark (Sys 0x0C1)) ∷
    enter 0 Estae 1 (mark (Sys 0x0C1)) ∷
    error 0 1 1 (mark (User 7)) ∷
    leave 0 Estae 1 Fail ∷
    enter 0 Estae 0 (full_mark (Sys 0x0C1) None false false true) ∷
    leave 0 Estae 0 Perc ∷
    begin 0 (Sys 0x0C1) false ∷
    plain_done 0 (Sys 0x0C1) ∷
    memend 1 ∷
    []
