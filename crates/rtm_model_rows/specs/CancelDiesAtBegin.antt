-- A cancel that comes while an FRR lives is still pending when its task begins to end, and lands no more.
use Rattle.std.specs.Prelude.{List, None, [], codes, false, ◌∷◌}
use Rattle.rtm_codes.specs.declared.code.Code.TheVariants.{Sys}
use Rattle.rtm_deck_items.specs.View.{DeckView}
use Rattle.rtm_deck_items.specs.declared.op.Op.TheVariants.{Abend, FrrAdd}
use Rattle.rtm_model.specs.declared.entry.Entry.{Entry}
use Rattle.rtm_model.specs.declared.entry.Fate.TheVariants.{Queued}
use Rattle.rtm_model.specs.declared.entry.Verdict.TheVariants.{Perc}
use Rattle.rtm_model.specs.declared.reg.Kind.TheVariants.{Frr}
use Rattle.rtm_model_rows.specs.Writing.{arrive, begin, cancel, card, deck_of, enter, error, exec, leave, mark, memend, plain_done, program, task}

abbrev pub deck : DeckView
deck =
    deck_of 20000 (
    program (codes "MAIN    ") (
    card (FrrAdd 1) ∷
    card (Abend (Sys 0x0C4) None false false) ∷
    []) ∷
    program (codes "F       ") (
    []) ∷
    []) (
    task (codes "JOB     ") 0 ∷
    []) (cancel 0 1 false ∷ [])

abbrev pub history : List Entry
history =
    exec 0 0 1 0 ∷
    arrive 0 0 Queued ∷
    error 0 0 2 (mark (Sys 0x0C4)) ∷
    enter 0 Frr 0 (mark (Sys 0x0C4)) ∷
    leave 0 Frr 0 Perc ∷
    begin 0 (Sys 0x0C4) false ∷
    plain_done 0 (Sys 0x0C4) ∷
    memend 1 ∷
    []
