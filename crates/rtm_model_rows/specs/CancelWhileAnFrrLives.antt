-- Two cancels become one, which lands once the FRR is gone.
use Rattle.std.specs.Prelude.{List, None, [], codes, false, true, ◌∷◌}
use Rattle.rtm_codes.specs.declared.code.Code.TheVariants.{Sys}
use Rattle.rtm_deck_items.specs.View.{DeckView}
use Rattle.rtm_deck_items.specs.declared.op.Op.TheVariants.{FrrAdd, FrrDelete, Nop, Return}
use Rattle.rtm_model.specs.declared.entry.Entry.{Entry}
use Rattle.rtm_model.specs.declared.entry.Fate.TheVariants.{Merged, Queued}
use Rattle.rtm_model_rows.specs.Writing.{arrive, begin, cancel, card, deck_of, exec, full_mark, land, memend, plain_done, program, task}
use Rattle.rtm_model.specs.declared.entry.Class.TheVariants as classes

abbrev pub deck : DeckView
deck =
    deck_of 20000 (
    program (codes "MAIN    ") (
    card (FrrAdd 1) ∷
    card Nop ∷
    card FrrDelete ∷
    card Return ∷
    []) ∷
    program (codes "F       ") (
    []) ∷
    []) (
    task (codes "JOB     ") 0 ∷
    []) (cancel 0 1 false ∷ cancel 0 1 false ∷ [])

abbrev pub history : List Entry
history =
    exec 0 0 1 0 ∷
    arrive 0 0 Queued ∷
    arrive 0 1 Merged ∷
    exec 0 0 2 0 ∷
    exec 0 0 3 0 ∷
    land 0 classes.Cancel 1 (full_mark (Sys 0x222) None true false false) ∷
    begin 0 (Sys 0x222) false ∷
    plain_done 0 (Sys 0x222) ∷
    memend 1 ∷
    []
