-- SETRP in a routine without an SDWA is the error EE7.
use Rattle.std.specs.Prelude.{List, None, Some, [], codes, false, true, ◌∷◌}
use Rattle.rtm_codes.specs.declared.code.Code.TheVariants.{Sys}
use Rattle.rtm_deck_items.specs.View.{DeckView}
use Rattle.rtm_deck_items.specs.declared.op.Op.TheVariants.{Abend, EstaexCt, Nop, SetRp}
use Rattle.rtm_model.specs.declared.entry.Entry.{Entry}
use Rattle.rtm_model.specs.declared.entry.Verdict.TheVariants.{Fail}
use Rattle.rtm_model.specs.declared.reg.Kind.TheVariants.{Estae}
use Rattle.rtm_model_rows.specs.Writing.{bare_deck_of, begin, card, enter_bare, error, exec, labelled_line, leave, mark, memend, plain_done, program, setrp, task}

abbrev pub deck : DeckView
deck =
    bare_deck_of 20000 (
    program (codes "MAIN    ") (
    card (EstaexCt 1 false true false) ∷
    card (Abend (Sys 0x0C1) None false false) ∷
    labelled_line (codes "BACK    ") Nop ∷
    []) ∷
    program (codes "REC     ") (
    card (SetRp (setrp (Some 4) (Some (codes "BACK    ")) None None None None None None)) ∷
    []) ∷
    []) (
    task (codes "JOB     ") 0 ∷
    []) []

abbrev pub history : List Entry
history =
    exec 0 0 1 0 ∷
    error 0 0 2 (mark (Sys 0x0C1)) ∷
    enter_bare 0 Estae 0 (mark (Sys 0x0C1)) ∷
    error 0 1 1 (mark (Sys 0xEE7)) ∷
    leave 0 Estae 0 Fail ∷
    begin 0 (Sys 0x0C1) false ∷
    plain_done 0 (Sys 0x0C1) ∷
    memend 1 ∷
    []
