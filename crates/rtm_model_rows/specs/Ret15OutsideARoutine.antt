-- RET15 outside of a recovery routine is the error EE6.
use Rattle.std.specs.Prelude.{List, None, Some, [], codes, false, true, ◌∷◌}
use Rattle.rtm_codes.specs.declared.code.Code.TheVariants.{Sys}
use Rattle.rtm_deck_items.specs.View.{DeckView}
use Rattle.rtm_deck_items.specs.declared.op.Op.TheVariants.{EstaexCt, Ret15, Return, SetRp}
use Rattle.rtm_model.specs.declared.entry.Entry.{Entry}
use Rattle.rtm_model.specs.declared.reg.Kind.TheVariants.{Estae}
use Rattle.rtm_model_rows.specs.Writing.{begin, card, deck_of, enter, error, exec, labelled_line, leave, mark, memend, plain_done, program, retry, setrp, task}

abbrev pub deck : DeckView
deck =
    deck_of 20000 (
    program (codes "MAIN    ") (
    card (EstaexCt 1 false true false) ∷
    card (Ret15 4 (Some (codes "BACK    "))) ∷
    labelled_line (codes "BACK    ") Return ∷
    []) ∷
    program (codes "REC     ") (
    card (SetRp (setrp (Some 4) (Some (codes "BACK    ")) (Some true) None None None None None)) ∷
    []) ∷
    []) (
    task (codes "JOB     ") 0 ∷
    []) []

abbrev pub history : List Entry
history =
    exec 0 0 1 0 ∷
    error 0 0 2 (mark (Sys 0xEE6)) ∷
    enter 0 Estae 0 (mark (Sys 0xEE6)) ∷
    exec 0 1 1 0 ∷
    leave 0 Estae 0 (retry 0 3) ∷
    begin 0 (Sys 0x000) false ∷
    plain_done 0 (Sys 0x000) ∷
    memend 1 ∷
    []
