-- ESTAEX 0 takes away no routine that another request block has made.
use Rattle.std.specs.Prelude.{List, [], codes, false, true, ◌∷◌}
use Rattle.rtm_codes.specs.declared.code.Code.TheVariants.{Sys}
use Rattle.rtm_deck_items.specs.View.{DeckView}
use Rattle.rtm_deck_items.specs.declared.op.Op.TheVariants.{EstaexCt, EstaexZero, Link, Nop, Return}
use Rattle.rtm_model.specs.declared.entry.Entry.{Entry}
use Rattle.rtm_model_rows.specs.Writing.{begin, card, deck_of, exec, memend, plain_done, program, task}

abbrev pub deck : DeckView
deck =
    deck_of 20000 (
    program (codes "MAIN    ") (
    card (EstaexCt 2 false true false) ∷
    card (Link 1) ∷
    card Return ∷
    []) ∷
    program (codes "SUB     ") (
    card EstaexZero ∷
    []) ∷
    program (codes "REC     ") (
    card Nop ∷
    []) ∷
    []) (
    task (codes "JOB     ") 0 ∷
    []) []

abbrev pub history : List Entry
history =
    exec 0 0 1 0 ∷
    exec 0 0 2 0 ∷
    exec 0 1 1 8 ∷
    exec 0 1 2 0 ∷
    begin 0 (Sys 0x000) false ∷
    plain_done 0 (Sys 0x000) ∷
    memend 1 ∷
    []
