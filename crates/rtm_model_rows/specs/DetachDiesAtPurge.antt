-- A DETACH is pending for a task that a routine with CANCEL=NO shields, when memory end purges it.
use Rattle.std.specs.Prelude.{List, None, [], codes, false, ◌∷◌}
use Rattle.rtm_codes.specs.declared.code.Code.TheVariants.{Sys, User}
use Rattle.rtm_deck_items.specs.View.{DeckView}
use Rattle.rtm_deck_items.specs.declared.op.Op.TheVariants.{Abend, Attachx, EstaexCt, Memterm, Post, Wait}
use Rattle.rtm_model.specs.declared.entry.Entry.{Entry}
use Rattle.rtm_model.specs.declared.reg.Kind.TheVariants.{Estae}
use Rattle.rtm_model_rows.specs.Writing.{card, deck_of, enter, error, exec, mark, memend, program, purge, task}
use Rattle.rtm_deck_items.specs.declared.op.Op.TheVariants as ops

abbrev pub deck : DeckView
deck =
    deck_of 20000 (
    program (codes "MAIN    ") (
    card (Attachx 1 None false) ∷
    card (Wait 1) ∷
    card (ops.Detach 1 false) ∷
    card (Memterm (User 99)) ∷
    []) ∷
    program (codes "PA      ") (
    card (EstaexCt 2 false false false) ∷
    card (Abend (Sys 0x0C1) None false false) ∷
    []) ∷
    program (codes "R       ") (
    card (Post 1) ∷
    card (Wait 2) ∷
    []) ∷
    []) (
    task (codes "JOB     ") 0 ∷
    task (codes "A       ") 1 ∷
    []) []

abbrev pub history : List Entry
history =
    exec 0 0 1 0 ∷
    exec 1 1 1 0 ∷
    error 1 1 2 (mark (Sys 0x0C1)) ∷
    enter 1 Estae 1 (mark (Sys 0x0C1)) ∷
    exec 1 2 1 0 ∷
    exec 0 0 2 0 ∷
    exec 0 0 3 0 ∷
    exec 0 0 4 0 ∷
    purge 2 0 ∷
    purge 2 1 ∷
    memend 2 ∷
    []
