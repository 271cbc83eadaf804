-- An error that is to end the job step aborts the job step task.
use Rattle.std.specs.Prelude.{List, None, Some, [], codes, false, true, ◌∷◌}
use Rattle.rtm_codes.specs.declared.code.Code.TheVariants.{User}
use Rattle.rtm_deck_items.specs.View.{DeckView}
use Rattle.rtm_deck_items.specs.declared.op.Op.TheVariants.{Abend, Attachx, WaitTask}
use Rattle.rtm_model.specs.declared.entry.Entry.{Entry}
use Rattle.rtm_model.specs.declared.entry.Fate.TheVariants.{Queued}
use Rattle.rtm_model_rows.specs.Writing.{begin, card, deck_of, done_with, error, exec, full_mark, land, mark, memend, plain_done, program, task}
use Rattle.rtm_model.specs.declared.entry.Class.TheVariants as classes

abbrev pub deck : DeckView
deck =
    deck_of 20000 (
    program (codes "MAIN    ") (
    card (Attachx 1 None false) ∷
    card (WaitTask 1) ∷
    []) ∷
    program (codes "PA      ") (
    card (Abend (User 3) None false true) ∷
    []) ∷
    []) (
    task (codes "JOB     ") 0 ∷
    task (codes "A       ") 1 ∷
    []) []

abbrev pub history : List Entry
history =
    exec 0 0 1 0 ∷
    error 1 1 1 (mark (User 3)) ∷
    begin 1 (User 3) false ∷
    done_with 1 (User 3) None (Some Queued) ∷
    land 0 classes.Step 3 (full_mark (User 3) None true false false) ∷
    begin 0 (User 3) false ∷
    plain_done 0 (User 3) ∷
    memend 2 ∷
    []
