-- LINK in an SRB is the error 0F8, and memory end purges the SRB.
use Rattle.std.specs.Prelude.{List, None, [], codes, false, ◌∷◌}
use Rattle.rtm_codes.specs.declared.code.Code.TheVariants.{Sys}
use Rattle.rtm_deck_items.specs.View.{DeckView}
use Rattle.rtm_deck_items.specs.declared.op.Op.TheVariants.{FrrAdd, Link, Nop, Schedule}
use Rattle.rtm_model.specs.declared.entry.Entry.{Entry}
use Rattle.rtm_model.specs.declared.reg.Kind.TheVariants.{Frr}
use Rattle.rtm_model_rows.specs.Writing.{begin, card, deck_of, enter, error, exec, mark, memend, plain_done, program, purge, srb, task}

abbrev pub deck : DeckView
deck =
    deck_of 20000 (
    program (codes "MAIN    ") (
    card (Schedule 1) ∷
    card Nop ∷
    []) ∷
    program (codes "PS      ") (
    card (FrrAdd 2) ∷
    card (Link 3) ∷
    []) ∷
    program (codes "F       ") (
    []) ∷
    program (codes "F2      ") (
    []) ∷
    []) (
    task (codes "JOB     ") 0 ∷
    srb (codes "S       ") 1 None ∷
    []) []

abbrev pub history : List Entry
history =
    exec 0 0 1 0 ∷
    exec 1 1 1 0 ∷
    exec 0 0 2 0 ∷
    error 1 1 2 (mark (Sys 0x0F8)) ∷
    begin 0 (Sys 0x000) false ∷
    enter 1 Frr 1 (mark (Sys 0x0F8)) ∷
    plain_done 0 (Sys 0x000) ∷
    purge 2 1 ∷
    memend 2 ∷
    []
