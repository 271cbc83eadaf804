-- Recovery routines that fail inside one another, down to the sixteenth bracket.
use Rattle.std.specs.Prelude.{List, None, [], codes, false, true, ◌∷◌}
use Rattle.rtm_codes.specs.declared.code.Code.TheVariants.{Sys, User}
use Rattle.rtm_deck_items.specs.View.{DeckView}
use Rattle.rtm_deck_items.specs.declared.op.Op.TheVariants.{Abend, EstaexCt}
use Rattle.rtm_model.specs.declared.entry.Entry.{Entry}
use Rattle.rtm_model.specs.declared.entry.Verdict.TheVariants.{Fail}
use Rattle.rtm_model.specs.declared.reg.Kind.TheVariants.{Estae}
use Rattle.rtm_model_rows.specs.Writing.{begin, card, deck_of, enter, error, exec, leave, mark, memend, plain_done, program, task}

abbrev pub deck : DeckView
deck =
    deck_of 20000 (
    program (codes "MAIN    ") (
    card (EstaexCt 1 false true false) ∷
    card (Abend (User 1) None false false) ∷
    []) ∷
    program (codes "REC     ") (
    card (EstaexCt 1 false true false) ∷
    card (Abend (User 1) None false false) ∷
    []) ∷
    []) (
    task (codes "JOB     ") 0 ∷
    []) []

abbrev pub history : List Entry
history =
    exec 0 0 1 0 ∷
    error 0 0 2 (mark (User 1)) ∷
    enter 0 Estae 0 (mark (User 1)) ∷
    exec 0 1 1 0 ∷
    error 0 1 2 (mark (User 1)) ∷
    enter 0 Estae 3 (mark (User 1)) ∷
    exec 0 1 1 0 ∷
    error 0 1 2 (mark (User 1)) ∷
    enter 0 Estae 6 (mark (User 1)) ∷
    exec 0 1 1 0 ∷
    error 0 1 2 (mark (User 1)) ∷
    enter 0 Estae 9 (mark (User 1)) ∷
    exec 0 1 1 0 ∷
    error 0 1 2 (mark (User 1)) ∷
    enter 0 Estae 12 (mark (User 1)) ∷
    exec 0 1 1 0 ∷
    error 0 1 2 (mark (User 1)) ∷
    enter 0 Estae 15 (mark (User 1)) ∷
    exec 0 1 1 0 ∷
    error 0 1 2 (mark (User 1)) ∷
    enter 0 Estae 18 (mark (User 1)) ∷
    exec 0 1 1 0 ∷
    error 0 1 2 (mark (User 1)) ∷
    enter 0 Estae 21 (mark (User 1)) ∷
    exec 0 1 1 0 ∷
    error 0 1 2 (mark (User 1)) ∷
    enter 0 Estae 24 (mark (User 1)) ∷
    exec 0 1 1 0 ∷
    error 0 1 2 (mark (User 1)) ∷
    enter 0 Estae 27 (mark (User 1)) ∷
    exec 0 1 1 0 ∷
    error 0 1 2 (mark (User 1)) ∷
    enter 0 Estae 30 (mark (User 1)) ∷
    exec 0 1 1 0 ∷
    error 0 1 2 (mark (User 1)) ∷
    enter 0 Estae 33 (mark (User 1)) ∷
    exec 0 1 1 0 ∷
    error 0 1 2 (mark (User 1)) ∷
    enter 0 Estae 36 (mark (User 1)) ∷
    exec 0 1 1 0 ∷
    error 0 1 2 (mark (User 1)) ∷
    enter 0 Estae 39 (mark (User 1)) ∷
    exec 0 1 1 0 ∷
    error 0 1 2 (mark (User 1)) ∷
    enter 0 Estae 42 (mark (User 1)) ∷
    error 0 1 1 (mark (Sys 0xEE3)) ∷
    leave 0 Estae 42 Fail ∷
    leave 0 Estae 39 Fail ∷
    leave 0 Estae 36 Fail ∷
    leave 0 Estae 33 Fail ∷
    leave 0 Estae 30 Fail ∷
    leave 0 Estae 27 Fail ∷
    leave 0 Estae 24 Fail ∷
    leave 0 Estae 21 Fail ∷
    leave 0 Estae 18 Fail ∷
    leave 0 Estae 15 Fail ∷
    leave 0 Estae 12 Fail ∷
    leave 0 Estae 9 Fail ∷
    leave 0 Estae 6 Fail ∷
    leave 0 Estae 3 Fail ∷
    leave 0 Estae 0 Fail ∷
    begin 0 (User 1) false ∷
    plain_done 0 (User 1) ∷
    memend 1 ∷
    []
