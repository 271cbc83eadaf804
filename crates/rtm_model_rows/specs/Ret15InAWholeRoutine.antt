-- RET15 in a routine that has its SDWA changes RC= and RETADDR= of it alone.
use Rattle.std.specs.Prelude.{List, None, Some, [], codes, false, true, ◌∷◌}
use Rattle.rtm_codes.specs.declared.code.Code.TheVariants.{Sys, User}
use Rattle.rtm_deck_items.specs.View.{DeckView}
use Rattle.rtm_deck_items.specs.declared.op.Op.TheVariants.{Abend, EstaexCt, Nop, Ret15, SetRp}
use Rattle.rtm_deck_operands.specs.declared.value.Three.TheVariants.{Yes}
use Rattle.rtm_model.specs.declared.entry.Entry.{Entry}
use Rattle.rtm_model.specs.declared.reg.Kind.TheVariants.{Estae}
use Rattle.rtm_model_rows.specs.Writing.{begin, card, deck_of, enter, error, exec, labelled_line, leave_with, mark, memend, plain_done, program, retry, setrp, task}

abbrev pub deck : DeckView
deck =
    deck_of 20000 (
    program (codes "MAIN    ") (
    card (EstaexCt 1 false true false) ∷
    card (Abend (User 9) None false false) ∷
    labelled_line (codes "BACK    ") Nop ∷
    []) ∷
    program (codes "REC     ") (
    card (SetRp (setrp (Some 16) None (Some true) None None None (Some Yes) None)) ∷
    card (Ret15 4 (Some (codes "BACK    "))) ∷
    []) ∷
    []) (
    task (codes "JOB     ") 0 ∷
    []) []

abbrev pub history : List Entry
history =
    exec 0 0 1 0 ∷
    error 0 0 2 (mark (User 9)) ∷
    enter 0 Estae 0 (mark (User 9)) ∷
    exec 0 1 1 0 ∷
    exec 0 1 2 0 ∷
    leave_with 0 Estae 0 (retry 0 3) true false ∷
    exec 0 0 3 0 ∷
    begin 0 (Sys 0x000) false ∷
    plain_done 0 (Sys 0x000) ∷
    memend 1 ∷
    []
