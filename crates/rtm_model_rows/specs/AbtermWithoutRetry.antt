-- CALLRTM TYPE=ABTERM with RETRY=NO: the task's routine gets control, and its retry is refused.
use Rattle.std.specs.Prelude.{List, None, Some, [], codes, false, true, ◌∷◌}
use Rattle.rtm_codes.specs.declared.code.Code.TheVariants.{User}
use Rattle.rtm_deck_items.specs.View.{DeckView}
use Rattle.rtm_deck_items.specs.declared.op.Op.TheVariants.{EstaexCt, Nop, SetRp}
use Rattle.rtm_model.specs.declared.entry.Entry.{Entry}
use Rattle.rtm_model.specs.declared.entry.Verdict.TheVariants.{Bad}
use Rattle.rtm_model.specs.declared.reg.Kind.TheVariants.{Estae}
use Rattle.rtm_model_rows.specs.Writing.{begin, card, deck_of, enter, exec, full_mark, labelled_line, land, leave, memend, plain_done, program, setrp, task}
use Rattle.rtm_deck_items.specs.declared.op.Op.TheVariants as ops
use Rattle.rtm_model.specs.declared.entry.Class.TheVariants as classes

abbrev pub deck : DeckView
deck =
    deck_of 20000 (
    program (codes "MAIN    ") (
    card (EstaexCt 1 false true false) ∷
    card (ops.Abterm 0 (User 5) None false false) ∷
    labelled_line (codes "BACK    ") Nop ∷
    []) ∷
    program (codes "R       ") (
    card (SetRp (setrp (Some 4) (Some (codes "BACK    ")) None None None None None None)) ∷
    []) ∷
    []) (
    task (codes "JOB     ") 0 ∷
    []) []

abbrev pub history : List Entry
history =
    exec 0 0 1 0 ∷
    exec 0 0 2 0 ∷
    land 0 classes.Abterm 1 (full_mark (User 5) None true false false) ∷
    enter 0 Estae 0 (full_mark (User 5) None true false false) ∷
    exec 0 1 1 0 ∷
    leave 0 Estae 0 Bad ∷
    begin 0 (User 5) false ∷
    plain_done 0 (User 5) ∷
    memend 1 ∷
    []
