-- One entry more of a history: one pair more for the manager of a release, nothing for any other.
use Rattle.std.proofs.Common.{Bool, List, [], ap, false, refl, true, ℕ, ◌++◌, ◌≡◌, ◌∙◌, ◌∷◌}
use Rattle.std.specs.Prelude.{if◌then◌else◌, map}
use Rattle.std.proofs.lemmas.Grind.{flat_map-append}
use Rattle.std.proofs.lemmas.List.{append-nil}
use Rattle.rtm_deck_operands.specs.declared.value.Res.{Res}
use Rattle.rtm_deck_operands.specs.declared.value.Res.TheVariants.{Dsn, Enq, Stor, Timr}
use Rattle.rtm_model.specs.declared.entry.Entry.{Entry}
use Rattle.rtm_model.specs.declared.entry.What.{What}
use Rattle.rtm_model.specs.declared.entry.What.TheVariants.{Arrive, Begin, Done, Enter, Error, Exec, Land, Leave, MemEnd, Purge, Release}
use Rattle.rtm_model.specs.Held.{is_same_res, release_by, releases}
use Rattle.rtm_desk.specs.Told.{Row, classes, tell_of, tell_row, told_by}
use Rattle.rtm_desk.proofs.Rooms.{four_rows}

releases_more : (class : Res) (history : List Entry) (e : Entry) → releases class (history ++ e ∷ []) ≡ releases class history ++ release_by class e.what
releases_more class history e =
    flat_map-append (λ (x : Entry). release_by class x.what) history (e ∷ [])
    ∙ ap (λ (pairs : List (ℕ × ℕ)). releases class history ++ pairs) (append-nil (release_by class e.what))

abbrev row_with : Res → List Entry → List (ℕ × ℕ) → Row
row_with class history pairs = (class, releases class history ++ pairs)

-- what a row gets of a release
row_told : (same : Bool) (class : Res) (list : List (ℕ × ℕ)) (pair : ℕ × ℕ) →
    ◌≡◌ {A = Row} (class, list ++ (if same then pair ∷ [] else [])) (if same then (class, list ++ pair ∷ []) else (class, list))
row_told true class list pair = refl
row_told false class list pair = ap (λ (xs : List (ℕ × ℕ)). (class, xs)) (append-nil list)

nobody_told : (history : List Entry) → map (λ class. row_with class history []) classes ≡ told_by history
nobody_told history =
    four_rows _ _ _ _ _ _ _ _ (same Enq) (same Stor) (same Dsn) (same Timr)
  where
    same : (class : Res) → ◌≡◌ {A = Row} (row_with class history []) (class, releases class history)
    same class = ap (λ (xs : List (ℕ × ℕ)). (class, xs)) (append-nil (releases class history))

by_what : (history : List Entry) (what : What) → map (λ class. row_with class history (release_by class what)) classes ≡ tell_of what (told_by history)
by_what history (Release class id owner) =
    four_rows _ _ _ _ _ _ _ _ (row Enq) (row Stor) (row Dsn) (row Timr)
  where
    row : (of : Res) → ◌≡◌ {A = Row} (row_with of history (release_by of (Release class id owner))) (tell_row class (owner, id) (of, releases of history))
    row of = row_told (is_same_res of class) of (releases of history) (owner, id)
by_what history (Exec at rc) = nobody_told history
by_what history (Error at mark) = nobody_told history
by_what history (Land class from mark) = nobody_told history
by_what history (Enter kind reg mark bare) = nobody_told history
by_what history (Leave kind reg verdict logrec dump) = nobody_told history
by_what history (Arrive _ _) = nobody_told history
by_what history (Begin code dump) = nobody_told history
by_what history (Done code to_task to_step) = nobody_told history
by_what history (Purge unit) = nobody_told history
by_what history MemEnd = nobody_told history

pub told_one_more : (history : List Entry) (e : Entry) → told_by (history ++ e ∷ []) ≡ tell_of e.what (told_by history)
told_one_more history e =
    four_rows _ _ _ _ _ _ _ _ (row Enq) (row Stor) (row Dsn) (row Timr) ∙ by_what history e.what
  where
    row : (class : Res) → ◌≡◌ {A = Row} (class, releases class (history ++ e ∷ [])) (row_with class history (release_by class e.what))
    row class = ap (λ (xs : List (ℕ × ℕ)). (class, xs)) (releases_more class history e)
