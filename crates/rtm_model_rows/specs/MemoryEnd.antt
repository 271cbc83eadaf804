-- CALLRTM MEMTERM ends the address space past all recovery routines.
use Rattle.std.specs.Prelude.{List, None, [], codes, false, true, ◌∷◌}
use Rattle.rtm_codes.specs.declared.code.Code.TheVariants.{Sys, User}
use Rattle.rtm_deck_items.specs.View.{DeckView}
use Rattle.rtm_deck_items.specs.declared.op.Op.TheVariants.{Abend, Attachx, EstaexCt, Get, Memterm, Post, Wait}
use Rattle.rtm_deck_operands.specs.declared.value.Res.TheVariants.{Dsn, Enq, Stor}
use Rattle.rtm_model.specs.declared.entry.Entry.{Entry}
use Rattle.rtm_model.specs.declared.reg.Kind.TheVariants.{Estae}
use Rattle.rtm_model_rows.specs.Writing.{card, deck_of, enter, error, exec, mark, memend, program, purge, release, task}

abbrev pub deck : DeckView
deck =
    deck_of 20000 (
    program (codes "MAIN    ") (
    card (Get Enq 1) ∷
    card (Get Dsn 7) ∷
    card (Attachx 1 None false) ∷
    card (Wait 1) ∷
    card (Memterm (User 99)) ∷
    []) ∷
    program (codes "PA      ") (
    card (Get Enq 2) ∷
    card (Get Stor 5) ∷
    card (Get Enq 2) ∷
    card (EstaexCt 2 false true false) ∷
    card (Abend (Sys 0x0C1) None false false) ∷
    []) ∷
    program (codes "R       ") (
    card (Post 1) ∷
    card (Wait 2) ∷
    []) ∷
    []) (
    task (codes "JOB     ") 0 ∷
    task (codes "A       ") 1 ∷
    []) []

abbrev pub history : List Entry
history =
    exec 0 0 1 0 ∷
    exec 0 0 2 0 ∷
    exec 0 0 3 0 ∷
    exec 1 1 1 0 ∷
    exec 1 1 2 0 ∷
    exec 1 1 3 0 ∷
    exec 1 1 4 0 ∷
    error 1 1 5 (mark (Sys 0x0C1)) ∷
    enter 1 Estae 6 (mark (Sys 0x0C1)) ∷
    exec 1 2 1 0 ∷
    exec 0 0 4 0 ∷
    exec 0 0 5 0 ∷
    purge 2 0 ∷
    purge 2 1 ∷
    release 2 Enq 2 1 ∷
    release 2 Enq 2 1 ∷
    release 2 Enq 1 0 ∷
    release 2 Stor 5 1 ∷
    release 2 Dsn 7 0 ∷
    memend 2 ∷
    []
