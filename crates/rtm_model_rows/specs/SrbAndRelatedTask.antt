-- The error of an SRB comes too late for its related task.
use Rattle.std.specs.Prelude.{List, None, Some, [], codes, false, ◌∷◌}
use Rattle.rtm_codes.specs.declared.code.Code.TheVariants.{Sys}
use Rattle.rtm_deck_items.specs.View.{DeckView}
use Rattle.rtm_deck_items.specs.declared.op.Op.TheVariants.{Abend, Attachx, FrrAdd, Get, Nop, Post, Schedule, Wait}
use Rattle.rtm_deck_operands.specs.declared.value.Res.TheVariants.{Enq}
use Rattle.rtm_model.specs.declared.entry.Entry.{Entry}
use Rattle.rtm_model.specs.declared.entry.Fate.TheVariants.{Late}
use Rattle.rtm_model.specs.declared.entry.Verdict.TheVariants.{Perc}
use Rattle.rtm_model.specs.declared.reg.Kind.TheVariants.{Frr}
use Rattle.rtm_model_rows.specs.Writing.{begin, card, deck_of, done_with, enter, error, exec, leave, mark, memend, plain_done, program, release, srb, task}

abbrev pub deck : DeckView
deck =
    deck_of 20000 (
    program (codes "MAIN    ") (
    card (Attachx 1 None false) ∷
    card (Schedule 2) ∷
    card (Wait 5) ∷
    card Nop ∷
    card Nop ∷
    []) ∷
    program (codes "PT      ") (
    card (Get Enq 1) ∷
    []) ∷
    program (codes "PS      ") (
    card (FrrAdd 3) ∷
    card (Abend (Sys 0x0C4) None false false) ∷
    []) ∷
    program (codes "F       ") (
    card (Post 5) ∷
    []) ∷
    []) (
    task (codes "JOB     ") 0 ∷
    task (codes "T       ") 1 ∷
    srb (codes "S       ") 2 (Some 1) ∷
    []) []

abbrev pub history : List Entry
history =
    exec 0 0 1 0 ∷
    exec 1 1 1 0 ∷
    exec 0 0 2 0 ∷
    begin 1 (Sys 0x000) false ∷
    exec 2 2 1 0 ∷
    release 1 Enq 1 1 ∷
    error 2 2 2 (mark (Sys 0x0C4)) ∷
    plain_done 1 (Sys 0x000) ∷
    enter 2 Frr 4 (mark (Sys 0x0C4)) ∷
    exec 2 3 1 0 ∷
    exec 0 0 3 0 ∷
    leave 2 Frr 4 Perc ∷
    exec 0 0 4 0 ∷
    begin 2 (Sys 0x0C4) false ∷
    exec 0 0 5 0 ∷
    done_with 2 (Sys 0x0C4) (Some Late) None ∷
    begin 0 (Sys 0x000) false ∷
    plain_done 0 (Sys 0x000) ∷
    memend 3 ∷
    []
