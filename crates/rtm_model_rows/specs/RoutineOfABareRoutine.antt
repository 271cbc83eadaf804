-- A routine that a bare routine makes has its own record: what it asks for leaves that of the other as it was.
use Rattle.std.specs.Prelude.{List, None, Some, [], codes, false, true, ◌∷◌}
use Rattle.rtm_codes.specs.declared.code.Code.TheVariants.{Sys, User}
use Rattle.rtm_deck_items.specs.View.{DeckView}
use Rattle.rtm_deck_items.specs.declared.op.Op.TheVariants.{Abend, EstaexCt, IfCode, Nop, Ret15, Return}
use Rattle.rtm_model.specs.declared.entry.Entry.{Entry}
use Rattle.rtm_model.specs.declared.reg.Kind.TheVariants.{Estae}
use Rattle.rtm_model_rows.specs.Writing.{bare_deck_of, begin, card, enter_bare, error, exec, labelled_line, leave, mark, memend, plain_done, program, retry, task}

abbrev pub deck : DeckView
deck =
    bare_deck_of 20000 (
    program (codes "MAIN    ") (
    card (EstaexCt 1 false true false) ∷
    card (Abend (User 1) None false false) ∷
    labelled_line (codes "BACK    ") Nop ∷
    []) ∷
    program (codes "REC     ") (
    card (EstaexCt 2 false true false) ∷
    card (Ret15 4 (Some (codes "BACK    "))) ∷
    card (Abend (User 2) None false false) ∷
    labelled_line (codes "ON      ") Return ∷
    []) ∷
    program (codes "INNER   ") (
    card (IfCode (User 2) (codes "TWO     ")) ∷
    card Return ∷
    labelled_line (codes "TWO     ") (Ret15 4 (Some (codes "ON      "))) ∷
    []) ∷
    []) (
    task (codes "JOB     ") 0 ∷
    []) []

abbrev pub history : List Entry
history =
    exec 0 0 1 0 ∷
    error 0 0 2 (mark (User 1)) ∷
    enter_bare 0 Estae 0 (mark (User 1)) ∷
    exec 0 1 1 0 ∷
    exec 0 1 2 0 ∷
    error 0 1 3 (mark (User 2)) ∷
    enter_bare 0 Estae 3 (mark (User 2)) ∷
    exec 0 2 1 4 ∷
    exec 0 2 3 0 ∷
    leave 0 Estae 3 (retry 1 4) ∷
    leave 0 Estae 0 (retry 0 3) ∷
    exec 0 0 3 0 ∷
    begin 0 (Sys 0x000) false ∷
    plain_done 0 (Sys 0x000) ∷
    memend 1 ∷
    []
