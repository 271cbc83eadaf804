-- What the managers are told of a history: each those RELEASE entries that are of its class, in order (this profile).
use Rattle.std.specs.Prelude.{List, [], if◌then◌else◌, map, ℕ, ◌++◌, ◌≤◌, ◌∷◌}
use Rattle.std.specs.List.{AllByRecursion}
use Rattle.rtm_deck_operands.specs.declared.value.Res.{Res}
use Rattle.rtm_deck_operands.specs.declared.value.Res.TheVariants.{Dsn, Enq, Stor, Timr}
use Rattle.rtm_model.specs.declared.entry.Entry.{Entry}
use Rattle.rtm_model.specs.declared.entry.What.{What}
use Rattle.rtm_model.specs.declared.entry.What.TheVariants.{Release}
use Rattle.rtm_model.specs.Held.{is_same_res, releases}

-- a class, and the owner and the number of each resource of it that was released, oldest first
abbrev pub Row : Type 0
Row = Res × List (ℕ × ℕ)

-- the classes, in their order
abbrev pub classes : List Res
classes = Enq ∷ Stor ∷ Dsn ∷ Timr ∷ []

-- the releases of a history, class by class
abbrev pub told_by : List Entry → List Row
told_by history = map (λ class. (class, releases class history)) classes

-- one pair more in the row of that class
abbrev pub tell_row : Res → ℕ × ℕ → Row → Row
tell_row class pair row = if is_same_res row.0 class then (row.0, row.1 ++ pair ∷ []) else row

abbrev pub tell : Res → ℕ × ℕ → List Row → List Row
tell class pair rows = map (tell_row class pair) rows

-- what an entry adds: a release its pair, any other entry nothing
abbrev pub tell_of : What → List Row → List Row
tell_of (Release class id owner) rows = tell class (owner, id) rows
tell_of _ rows = rows

-- the desks, as a contract sees them: a row for each manager, and of how many releases each can be told yet
pub record DesksView : Type 0 where
  pub told : List Row
  pub spares : List ℕ

-- what these managers were told, where the two words say of one its class and its list
abbrev pub told_to : {M : Type 0} → (M → Res) → (M → List (ℕ × ℕ)) → List M → List Row
told_to class released managers = map {B = Row} (λ m. (class m, released m)) managers

-- each can be told of so many releases
abbrev pub AllHaveRoom : ℕ → List ℕ → Type 0
AllHaveRoom n spares = AllByRecursion (λ spare. n ≤ spare) spares

abbrev pub HasRoom : ℕ → DesksView → Type 0
HasRoom n desks = AllHaveRoom n desks.spares

-- where the manager of a class stands among the four
abbrev pub place_of : Res → ℕ
place_of Enq = 0
place_of Stor = 1
place_of Dsn = 2
place_of Timr = 3
