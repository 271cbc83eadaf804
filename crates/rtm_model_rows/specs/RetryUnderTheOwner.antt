-- A retry runs under the request block that made the routine; the newer ones are gone.
use Rattle.std.specs.Prelude.{List, None, Some, [], codes, false, true, ◌∷◌}
use Rattle.rtm_codes.specs.declared.code.Code.TheVariants.{Sys}
use Rattle.rtm_deck_items.specs.View.{DeckView}
use Rattle.rtm_deck_items.specs.declared.op.Op.TheVariants.{Abend, EstaexCt, Link, Nop, SetRp}
use Rattle.rtm_model.specs.declared.entry.Entry.{Entry}
use Rattle.rtm_model.specs.declared.reg.Kind.TheVariants.{Estae}
use Rattle.rtm_model_rows.specs.Writing.{begin, card, deck_of, enter, error, exec, labelled_line, leave, mark, memend, plain_done, program, retry, setrp, task}

abbrev pub deck : DeckView
deck =
    deck_of 20000 (
    program (codes "MAIN    ") (
    card (EstaexCt 4 false true false) ∷
    card (Link 1) ∷
    labelled_line (codes "OUT     ") Nop ∷
    []) ∷
    program (codes "A       ") (
    card (Link 2) ∷
    []) ∷
    program (codes "B       ") (
    card (Link 3) ∷
    []) ∷
    program (codes "C       ") (
    card (Abend (Sys 0x0C4) None false false) ∷
    []) ∷
    program (codes "REC     ") (
    card (SetRp (setrp (Some 4) (Some (codes "OUT     ")) None None None None None None)) ∷
    []) ∷
    []) (
    task (codes "JOB     ") 0 ∷
    []) []

abbrev pub history : List Entry
history =
    exec 0 0 1 0 ∷
    exec 0 0 2 0 ∷
    exec 0 1 1 0 ∷
    exec 0 2 1 0 ∷
    error 0 3 1 (mark (Sys 0x0C4)) ∷
    enter 0 Estae 0 (mark (Sys 0x0C4)) ∷
    exec 0 4 1 0 ∷
    leave 0 Estae 0 (retry 0 3) ∷
    exec 0 0 3 0 ∷
    begin 0 (Sys 0x000) false ∷
    plain_done 0 (Sys 0x000) ∷
    memend 1 ∷
    []
