-- A resource manager that fails is passed over, and what it got is released.
use Rattle.std.specs.Prelude.{List, None, [], codes, false, ◌∷◌}
use Rattle.rtm_codes.specs.declared.code.Code.TheVariants.{Sys, User}
use Rattle.rtm_deck_items.specs.View.{DeckView}
use Rattle.rtm_deck_items.specs.declared.op.Op.TheVariants.{Abend, Get, MgrAdd}
use Rattle.rtm_deck_operands.specs.declared.value.Res.TheVariants.{Enq, Timr}
use Rattle.rtm_model.specs.declared.entry.Entry.{Entry}
use Rattle.rtm_model.specs.declared.entry.Verdict.TheVariants.{Fail}
use Rattle.rtm_model.specs.declared.reg.Kind.TheVariants.{Mgr}
use Rattle.rtm_model_rows.specs.Writing.{begin, card, deck_of, enter, error, exec, leave, mark, memend, plain_done, program, release, task}

abbrev pub deck : DeckView
deck =
    deck_of 20000 (
    program (codes "MAIN    ") (
    card (MgrAdd 1 false) ∷
    card (Get Timr 4) ∷
    []) ∷
    program (codes "M       ") (
    card (Get Enq 8) ∷
    card (Abend (User 1) None false false) ∷
    []) ∷
    []) (
    task (codes "JOB     ") 0 ∷
    []) []

abbrev pub history : List Entry
history =
    exec 0 0 1 0 ∷
    exec 0 0 2 0 ∷
    begin 0 (Sys 0x000) false ∷
    enter 0 Mgr 0 (mark (Sys 0x000)) ∷
    exec 0 1 1 0 ∷
    error 0 1 2 (mark (User 1)) ∷
    leave 0 Mgr 0 Fail ∷
    release 0 Enq 8 0 ∷
    release 0 Timr 4 0 ∷
    plain_done 0 (Sys 0x000) ∷
    memend 1 ∷
    []
