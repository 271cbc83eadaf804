-- XCTL leaves of its request block the routines with XCTL=YES alone.
use Rattle.std.specs.Prelude.{List, None, [], codes, false, true, ◌∷◌}
use Rattle.rtm_codes.specs.declared.code.Code.TheVariants.{User}
use Rattle.rtm_deck_items.specs.View.{DeckView}
use Rattle.rtm_deck_items.specs.declared.op.Op.TheVariants.{Abend, EstaexCt, Xctl}
use Rattle.rtm_model.specs.declared.entry.Entry.{Entry}
use Rattle.rtm_model.specs.declared.entry.Verdict.TheVariants.{Perc}
use Rattle.rtm_model.specs.declared.reg.Kind.TheVariants.{Estae}
use Rattle.rtm_model_rows.specs.Writing.{begin, card, deck_of, enter, error, exec, leave, mark, memend, plain_done, program, task}

abbrev pub deck : DeckView
deck =
    deck_of 20000 (
    program (codes "MAIN    ") (
    card (EstaexCt 2 false true false) ∷
    card (EstaexCt 3 false true true) ∷
    card (Xctl 1) ∷
    []) ∷
    program (codes "SUB     ") (
    card (Abend (User 5) None false false) ∷
    []) ∷
    program (codes "A       ") (
    []) ∷
    program (codes "B       ") (
    []) ∷
    []) (
    task (codes "JOB     ") 0 ∷
    []) []

abbrev pub history : List Entry
history =
    exec 0 0 1 0 ∷
    exec 0 0 2 0 ∷
    exec 0 0 3 0 ∷
    error 0 1 1 (mark (User 5)) ∷
    enter 0 Estae 1 (mark (User 5)) ∷
    leave 0 Estae 1 Perc ∷
    begin 0 (User 5) false ∷
    plain_done 0 (User 5) ∷
    memend 1 ∷
    []
