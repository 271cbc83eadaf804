-- A cancel lands inside a routine: the one with TERM=NO behind it is passed over, and the one with TERM=YES entered.
use Rattle.std.specs.Prelude.{List, None, [], codes, false, true, ◌∷◌}
use Rattle.rtm_codes.specs.declared.code.Code.TheVariants.{Sys}
use Rattle.rtm_deck_items.specs.View.{DeckView}
use Rattle.rtm_deck_items.specs.declared.op.Op.TheVariants.{Abend, EstaexCt, Nop}
use Rattle.rtm_model.specs.declared.entry.Entry.{Entry}
use Rattle.rtm_model.specs.declared.entry.Fate.TheVariants.{Queued}
use Rattle.rtm_model.specs.declared.entry.Verdict.TheVariants.{Fail, Perc}
use Rattle.rtm_model.specs.declared.reg.Kind.TheVariants.{Estae}
use Rattle.rtm_model_rows.specs.Writing.{arrive, begin, cancel, card, deck_of, enter, error, exec, full_mark, land, leave, mark, memend, plain_done, program, task}
use Rattle.rtm_model.specs.declared.entry.Class.TheVariants as classes

abbrev pub deck : DeckView
deck =
    deck_of 20000 (
    program (codes "MAIN    ") (
    card (EstaexCt 2 true true false) ∷
    card (EstaexCt 2 false true false) ∷
    card (EstaexCt 1 false true false) ∷
    card (Abend (Sys 0x0C1) None false false) ∷
    []) ∷
    program (codes "R       ") (
    card Nop ∷
    []) ∷
    program (codes "CLEAN   ") (
    []) ∷
    []) (
    task (codes "JOB     ") 0 ∷
    []) (cancel 0 5 false ∷ [])

abbrev pub history : List Entry
history =
    exec 0 0 1 0 ∷
    exec 0 0 2 0 ∷
    exec 0 0 3 0 ∷
    error 0 0 4 (mark (Sys 0x0C1)) ∷
    enter 0 Estae 2 (mark (Sys 0x0C1)) ∷
    arrive 0 0 Queued ∷
    land 0 classes.Cancel 5 (full_mark (Sys 0x222) None true false false) ∷
    leave 0 Estae 2 Fail ∷
    enter 0 Estae 0 (full_mark (Sys 0x222) None true false true) ∷
    leave 0 Estae 0 Perc ∷
    begin 0 (Sys 0x222) false ∷
    plain_done 0 (Sys 0x222) ∷
    memend 1 ∷
    []
