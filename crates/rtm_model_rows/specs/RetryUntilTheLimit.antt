-- A routine that retries the card that failed, until the history has as many entries as it may have.
use Rattle.std.specs.Prelude.{List, None, Some, [], codes, false, true, ◌∷◌}
use Rattle.rtm_codes.specs.declared.code.Code.TheVariants.{Sys}
use Rattle.rtm_deck_items.specs.View.{DeckView}
use Rattle.rtm_deck_items.specs.declared.op.Op.TheVariants.{Abend, EstaexCt, SetRp}
use Rattle.rtm_model.specs.declared.entry.Entry.{Entry}
use Rattle.rtm_model.specs.declared.entry.Verdict.TheVariants.{Perc}
use Rattle.rtm_model.specs.declared.reg.Kind.TheVariants.{Estae}
use Rattle.rtm_model_rows.specs.Writing.{card, deck_of, enter, error, exec, full_mark, labelled_line, leave, mark, program, retry, setrp, task}

abbrev pub deck : DeckView
deck =
    deck_of 10 (
    program (codes "MAIN    ") (
    card (EstaexCt 1 false true false) ∷
    card (EstaexCt 2 false true false) ∷
    labelled_line (codes "AGAIN   ") (Abend (Sys 0x0C1) None false false) ∷
    card (Abend (Sys 0x0C4) None false false) ∷
    []) ∷
    program (codes "OLD     ") (
    card (SetRp (setrp (Some 4) (Some (codes "AGAIN   ")) (Some false) None None None None None)) ∷
    []) ∷
    program (codes "NEW     ") (
    card (SetRp (setrp (Some 0) None None None None None None None)) ∷
    []) ∷
    []) (
    task (codes "JOB     ") 0 ∷
    []) []

abbrev pub history : List Entry
history =
    exec 0 0 1 0 ∷
    exec 0 0 2 0 ∷
    error 0 0 3 (mark (Sys 0x0C1)) ∷
    enter 0 Estae 1 (mark (Sys 0x0C1)) ∷
    exec 0 2 1 0 ∷
    leave 0 Estae 1 Perc ∷
    enter 0 Estae 0 (full_mark (Sys 0x0C1) None false true false) ∷
    exec 0 1 1 0 ∷
    leave 0 Estae 0 (retry 0 3) ∷
    error 0 0 3 (mark (Sys 0x0C1)) ∷
    []
