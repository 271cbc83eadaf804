-- An FRR has its SDWA where ESTAE routines get none.
use Rattle.std.specs.Prelude.{List, None, Some, [], codes, false, true, ◌∷◌}
use Rattle.rtm_codes.specs.declared.code.Code.TheVariants.{Sys}
use Rattle.rtm_deck_items.specs.View.{DeckView}
use Rattle.rtm_deck_items.specs.declared.op.Op.TheVariants.{Abend, EstaexCt, FrrAdd, Nop, Ret15, SetRp}
use Rattle.rtm_model.specs.declared.entry.Entry.{Entry}
use Rattle.rtm_model.specs.declared.entry.Verdict.TheVariants.{Perc}
use Rattle.rtm_model.specs.declared.reg.Kind.TheVariants.{Estae, Frr}
use Rattle.rtm_model_rows.specs.Writing.{bare_deck_of, begin, card, enter, enter_bare, error, exec, full_mark, labelled_line, leave, mark, memend, plain_done, program, retry, setrp, task}

abbrev pub deck : DeckView
deck =
    bare_deck_of 20000 (
    program (codes "MAIN    ") (
    card (EstaexCt 1 false true false) ∷
    card (FrrAdd 2) ∷
    card (Abend (Sys 0x0C4) None false false) ∷
    labelled_line (codes "BACK    ") Nop ∷
    []) ∷
    program (codes "REC     ") (
    card (Ret15 4 (Some (codes "BACK    "))) ∷
    []) ∷
    program (codes "FRR     ") (
    card (SetRp (setrp (Some 0) None None None None None None None)) ∷
    []) ∷
    []) (
    task (codes "JOB     ") 0 ∷
    []) []

abbrev pub history : List Entry
history =
    exec 0 0 1 0 ∷
    exec 0 0 2 0 ∷
    error 0 0 3 (mark (Sys 0x0C4)) ∷
    enter 0 Frr 1 (mark (Sys 0x0C4)) ∷
    exec 0 2 1 0 ∷
    leave 0 Frr 1 Perc ∷
    enter_bare 0 Estae 0 (full_mark (Sys 0x0C4) None false true false) ∷
    exec 0 1 1 0 ∷
    leave 0 Estae 0 (retry 0 4) ∷
    exec 0 0 4 0 ∷
    begin 0 (Sys 0x000) false ∷
    plain_done 0 (Sys 0x000) ∷
    memend 1 ∷
    []
