-- RET15 in a resource manager is the error EE6.
use Rattle.std.specs.Prelude.{List, None, [], codes, false, ◌∷◌}
use Rattle.rtm_codes.specs.declared.code.Code.TheVariants.{Sys}
use Rattle.rtm_deck_items.specs.View.{DeckView}
use Rattle.rtm_deck_items.specs.declared.op.Op.TheVariants.{MgrAdd, Ret15}
use Rattle.rtm_model.specs.declared.entry.Entry.{Entry}
use Rattle.rtm_model.specs.declared.entry.Verdict.TheVariants.{Fail}
use Rattle.rtm_model.specs.declared.reg.Kind.TheVariants.{Mgr}
use Rattle.rtm_model_rows.specs.Writing.{bare_deck_of, begin, card, enter, error, exec, leave, mark, memend, plain_done, program, task}

abbrev pub deck : DeckView
deck =
    bare_deck_of 20000 (
    program (codes "MAIN    ") (
    card (MgrAdd 1 false) ∷
    []) ∷
    program (codes "MGR     ") (
    card (Ret15 0 None) ∷
    []) ∷
    []) (
    task (codes "JOB     ") 0 ∷
    []) []

abbrev pub history : List Entry
history =
    exec 0 0 1 0 ∷
    begin 0 (Sys 0x000) false ∷
    enter 0 Mgr 0 (mark (Sys 0x000)) ∷
    error 0 1 1 (mark (Sys 0xEE6)) ∷
    leave 0 Mgr 0 Fail ∷
    plain_done 0 (Sys 0x000) ∷
    memend 1 ∷
    []
