-- An error inside a recovery routine is retried by a routine that it made itself.
use Rattle.std.specs.Prelude.{List, None, Some, [], codes, false, true, ◌∷◌}
use Rattle.rtm_codes.specs.declared.code.Code.TheVariants.{Sys, User}
use Rattle.rtm_deck_items.specs.View.{DeckView}
use Rattle.rtm_deck_items.specs.declared.op.Op.TheVariants.{Abend, EstaexCt, Nop, SetRp}
use Rattle.rtm_model.specs.declared.entry.Entry.{Entry}
use Rattle.rtm_model.specs.declared.reg.Kind.TheVariants.{Estae}
use Rattle.rtm_model_rows.specs.Writing.{begin, card, deck_of, enter, error, exec, labelled_line, leave, mark, memend, plain_done, program, retry, setrp, task}

abbrev pub deck : DeckView
deck =
    deck_of 20000 (
    program (codes "MAIN    ") (
    card (EstaexCt 1 false true false) ∷
    card (Abend (Sys 0x0C1) None false false) ∷
    labelled_line (codes "BACK    ") Nop ∷
    []) ∷
    program (codes "OUTER   ") (
    card (EstaexCt 2 false true false) ∷
    card (Abend (User 7) None false false) ∷
    labelled_line (codes "GO      ") (SetRp (setrp (Some 4) (Some (codes "BACK    ")) None None None None None None)) ∷
    []) ∷
    program (codes "INNER   ") (
    card (SetRp (setrp (Some 4) (Some (codes "GO      ")) None None None None None None)) ∷
    []) ∷
    []) (
    task (codes "JOB     ") 0 ∷
    []) []

abbrev pub history : List Entry
history =
    exec 0 0 1 0 ∷
    error 0 0 2 (mark (Sys 0x0C1)) ∷
    enter 0 Estae 0 (mark (Sys 0x0C1)) ∷
    exec 0 1 1 0 ∷
    error 0 1 2 (mark (User 7)) ∷
    enter 0 Estae 3 (mark (User 7)) ∷
    exec 0 2 1 0 ∷
    leave 0 Estae 3 (retry 1 3) ∷
    exec 0 1 3 0 ∷
    leave 0 Estae 0 (retry 0 3) ∷
    exec 0 0 3 0 ∷
    begin 0 (Sys 0x000) false ∷
    plain_done 0 (Sys 0x000) ∷
    memend 1 ∷
    []
