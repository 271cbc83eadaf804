-- What is seen behind the cards of a deck is what the deck has.
use Rattle.std.proofs.Common.{◌≡◌, ℕ, ◌+◌, ◌≤◌, Bool, true, false, not, ◌&&◌, ◌||◌, List, [], ◌∷◌, ◌++◌, length, map, Option, Some, None, is_none, refl, ap, sym, subst, ◌∙◌, arith, append_assoc, length-append}
use Rattle.std.specs.Prelude.{IsTrue, bytes_eq, nat_le}
use Rattle.std.specs.Option.{option_map_or}
use Rattle.std.specs.List.{list_any}
use Rattle.std.proofs.lemmas.Bool.{and_parts, and_from, leb-false}
use Rattle.std.proofs.lemmas.List.Folds.{list_any-append}
use Rattle.std.proofs.lemmas.Slice.Eq.{bytes_eq-Decides}
use Rattle.std.proofs.Math.Bool.{or-false, or_assoc}
use Rattle.std.proofs.lemmas.List.{append-nil}
use Rattle.rtm_cards.specs.Limits.{most_programs, most_units, most_commands}
use Rattle.rtm_cards.specs.Cards.{CardText}
use Rattle.rtm_deck_items.specs.declared.deck.Line.{Line as LineCard}
use Rattle.rtm_deck_items.specs.declared.deck.Unit.{Unit as UnitCard}
use Rattle.rtm_deck_items.specs.declared.deck.Command.{Command as CommandCard}
use Rattle.rtm_deck_items.specs.declared.deck.UnitKind.TheVariants as kinds
use Rattle.rtm_deck_items.specs.View.{ProgramView}
use Rattle.rtm_deck_items.specs.Reading.{is_task_card}
use Rattle.rtm_deck_items.specs.WellFormed.{are_distinct}
use Rattle.rtm_deck.specs.declared.role.Role.{Role}
use Rattle.rtm_deck.specs.declared.role.Role.TheVariants.{Region, Program, ProgramEnd, Task, Srb, Commands, Command, End, Line}
use Rattle.rtm_deck.specs.inner.View.{ReadView, SeenView}
use Rattle.rtm_deck.specs.inner.Roles.{role_of}
use Rattle.rtm_deck.specs.inner.Seen.{after, has_name, insert_name, with_name}
use Rattle.rtm_deck.specs.inner.Building.{lines_from, programs_from, units_from, commands_from}
use Rattle.rtm_deck.proofs.Cards.Names.{same_test, has_insert}
use Rattle.rtm_deck.proofs.Decks.Walk.{Walk}
use Rattle.rtm_deck.proofs.Decks.Laid.{Facts, facts}

pub same_swapped : (a b : List ℕ) → bytes_eq a b ≡ bytes_eq b a
same_swapped a b = same_test (bytes_eq a b) (bytes_eq b a)
    (λ e. (bytes_eq-Decides b a).1 (sym ((bytes_eq-Decides a b).0 e)))
    (λ e. (bytes_eq-Decides a b).1 (sym ((bytes_eq-Decides b a).0 e)))

pub inserted : (names : List (List ℕ)) (name : List ℕ) → has_name names name ≡ false → insert_name names name ≡ names ++ name ∷ []
inserted names name e = rw e refl

distinct_if : (xs : List (List ℕ)) (x name : List ℕ) (a b : Bool) → list_any (bytes_eq x) xs ≡ a → bytes_eq name x ≡ b → IsTrue (not a) → (b || has_name xs name) ≡ false → (list_any (bytes_eq x) (xs ++ name ∷ []) ≡ false) × (has_name xs name ≡ false)
distinct_if xs x name true b ea eb h e = absurd cc
distinct_if xs x name false true ea eb h e = absurd cc
distinct_if xs x name false false ea eb h e = (list_any-append (bytes_eq x) xs (name ∷ []) ∙ (λ j. ea j || ((same_swapped x name ∙ eb) j || false)), e)

-- names with one more that is not among them are distinct
pub distinct_more : (xs : List (List ℕ)) (name : List ℕ) → IsTrue (are_distinct xs) → has_name xs name ≡ false → IsTrue (are_distinct (xs ++ name ∷ []))
distinct_more [] name d e = refl
distinct_more (x ∷ xs) name d e =
    let parts = and_parts (not (list_any (bytes_eq x) xs)) (are_distinct xs) d in
    let p = distinct_if xs x name (list_any (bytes_eq x) xs) (bytes_eq name x) refl refl parts.0 e in
    and_from (not (list_any (bytes_eq x) (xs ++ name ∷ []))) (are_distinct (xs ++ name ∷ [])) (ap not p.0) (distinct_more xs name parts.1 p.1)

abbrev pub names_of_programs : List ProgramView → List (List ℕ)
names_of_programs ps = map (λ p. p.name) ps

abbrev pub names_of_units : List UnitCard → List (List ℕ)
names_of_units us = map (λ u. u.name) us

-- the unit is a task of that name
abbrev pub is_task_named : List ℕ → UnitCard → Bool
is_task_named name u = is_task_card u && bytes_eq name u.name

abbrev pub is_srb_named : List ℕ → UnitCard → Bool
is_srb_named name u = not (is_task_card u) && bytes_eq name u.name

-- what is seen behind is what was seen, with what the deck has
pub record Sums (sp su st ss : List (List ℕ)) (sc : ℕ) (ps : List ProgramView) (us : List UnitCard) (cs : List CommandCard) (e : SeenView) : Type 0 where
  pub programs : e.programs ≡ sp ++ names_of_programs ps
  pub units : e.units ≡ su ++ names_of_units us
  pub few_programs : length sp ≤ most_programs → length e.programs ≤ most_programs
  pub few_units : length su ≤ most_units → length e.units ≤ most_units
  pub few_commands : sc ≤ most_commands → length cs + sc ≤ most_commands
  pub distinct_programs : IsTrue (are_distinct sp) → IsTrue (are_distinct e.programs)
  pub distinct_units : IsTrue (are_distinct su) → IsTrue (are_distinct e.units)
  pub tasks : (name : List ℕ) → has_name e.tasks name ≡ (has_name st name || list_any (is_task_named name) us)
  pub srbs : (name : List ℕ) → has_name e.srbs name ≡ (has_name ss name || list_any (is_srb_named name) us)

one_longer : (xs : List (List ℕ)) (name : List ℕ) (n : ℕ) → nat_le n (length xs) ≡ false → length (xs ++ name ∷ []) ≤ n
one_longer xs name n e = let below = leb-false n (length xs) e in let long = length-append xs (name ∷ []) in omega arith

program_more : (sp su st ss : List (List ℕ)) (sc : ℕ) (ps : List ProgramView) (us : List UnitCard) (cs : List CommandCard) (e : SeenView) (name : List ℕ) (lines : List LineCard)
    → has_name sp name ≡ false → nat_le most_programs (length sp) ≡ false → Sums (insert_name sp name) su st ss sc ps us cs e → Sums sp su st ss sc (record { name = name; lines = lines } ∷ ps) us cs e
program_more sp su st ss sc ps us cs e name lines h l s0 =
    let s : Sums (sp ++ name ∷ []) su st ss sc ps us cs e = subst (λ (x : List (List ℕ)). Sums x su st ss sc ps us cs e) (inserted sp name h) s0 in
    record {
      programs = s.programs ∙ append_assoc sp (name ∷ []) (names_of_programs ps);
      units = s.units;
      few_programs = λ _. s.few_programs (one_longer sp name most_programs l);
      few_units = s.few_units;
      few_commands = s.few_commands;
      distinct_programs = λ d. s.distinct_programs (distinct_more sp name d h);
      distinct_units = s.distinct_units;
      tasks = s.tasks;
      srbs = s.srbs;
    }

task_more : (sp su st ss : List (List ℕ)) (sc : ℕ) (ps : List ProgramView) (us : List UnitCard) (cs : List CommandCard) (e : SeenView) (name : List ℕ) (prog : ℕ) (related : Option ℕ)
    → has_name su name ≡ false → nat_le most_units (length su) ≡ false → Sums sp (insert_name su name) (insert_name st name) ss sc ps us cs e → Sums sp su st ss sc ps (record { name = name; kind = kinds.Task; prog = prog; related = related } ∷ us) cs e
task_more sp su st ss sc ps us cs e name prog related h l s0 =
    let s : Sums sp (su ++ name ∷ []) (insert_name st name) ss sc ps us cs e = subst (λ (x : List (List ℕ)). Sums sp x (insert_name st name) ss sc ps us cs e) (inserted su name h) s0 in
    record {
      programs = s.programs;
      units = s.units ∙ append_assoc su (name ∷ []) (names_of_units us);
      few_programs = s.few_programs;
      few_units = λ _. s.few_units (one_longer su name most_units l);
      few_commands = s.few_commands;
      distinct_programs = s.distinct_programs;
      distinct_units = λ d. s.distinct_units (distinct_more su name d h);
      tasks = λ other. s.tasks other ∙ (ap (λ (b : Bool). b || list_any (is_task_named other) us) (has_insert st name other) ∙ or_assoc (has_name st other) (bytes_eq other name) (list_any (is_task_named other) us));
      srbs = s.srbs;
    }

srb_more : (sp su st ss : List (List ℕ)) (sc : ℕ) (ps : List ProgramView) (us : List UnitCard) (cs : List CommandCard) (e : SeenView) (name : List ℕ) (prog : ℕ) (related : Option ℕ)
    → has_name su name ≡ false → nat_le most_units (length su) ≡ false → Sums sp (insert_name su name) st (insert_name ss name) sc ps us cs e → Sums sp su st ss sc ps (record { name = name; kind = kinds.Srb; prog = prog; related = related } ∷ us) cs e
srb_more sp su st ss sc ps us cs e name prog related h l s0 =
    let s : Sums sp (su ++ name ∷ []) st (insert_name ss name) sc ps us cs e = subst (λ (x : List (List ℕ)). Sums sp x st (insert_name ss name) sc ps us cs e) (inserted su name h) s0 in
    record {
      programs = s.programs;
      units = s.units ∙ append_assoc su (name ∷ []) (names_of_units us);
      few_programs = s.few_programs;
      few_units = λ _. s.few_units (one_longer su name most_units l);
      few_commands = s.few_commands;
      distinct_programs = s.distinct_programs;
      distinct_units = λ d. s.distinct_units (distinct_more su name d h);
      tasks = s.tasks;
      srbs = λ other. s.srbs other ∙ (ap (λ (b : Bool). b || list_any (is_srb_named other) us) (has_insert ss name other) ∙ or_assoc (has_name ss other) (bytes_eq other name) (list_any (is_srb_named other) us));
    }

command_more : (sp su st ss : List (List ℕ)) (sc : ℕ) (ps : List ProgramView) (us : List UnitCard) (cs : List CommandCard) (e : SeenView) (c : CommandCard)
    → nat_le most_commands sc ≡ false → Sums sp su st ss (sc + 1) ps us cs e → Sums sp su st ss sc ps us (c ∷ cs) e
command_more sp su st ss sc ps us cs e c l s =
    record {
      programs = s.programs;
      units = s.units;
      few_programs = s.few_programs;
      few_units = s.few_units;
      few_commands = λ _. (let below = leb-false most_commands sc l in let more = s.few_commands (omega arith) in omega arith);
      distinct_programs = s.distinct_programs;
      distinct_units = s.distinct_units;
      tasks = s.tasks;
      srbs = s.srbs;
    }

-- a name that has to be given
pub record Given (o : Option (List ℕ)) : Type 0 where
  pub name : List ℕ
  pub is : o ≡ Some name

pub given : (o : Option (List ℕ)) → is_none o ≡ false → Given o
given None e = absurd cc
given (Some name) e = record { name = name; is = refl }

abbrev SumsOf : SeenView → SeenView → List ReadView → SeenView → Type 0
SumsOf s x rs e = Sums s.programs s.units s.tasks s.srbs s.commands (programs_from x rs) (units_from x rs) (commands_from x rs) e

sums_step : (s x e : SeenView) (r : ReadView) (rs : List ReadView) (role : Role) → role_of r.form ≡ role → Facts s role r.name → SumsOf (after s role r.name) x rs e → SumsOf s x (r ∷ rs) e
sums_step s x e r rs Region is f m = rw is m
sums_step s x e r rs ProgramEnd is f m = rw is m
sums_step s x e r rs Commands is f m = rw is m
sums_step s x e r rs End is f m = rw is m
sums_step s x e r rs Line is f m = rw is m
sums_step s x e r rs Program is f m = go r.name refl f.named f.single f.within m
  where
    go : (o : Option (List ℕ)) → r.name ≡ o → is_none o ≡ false → option_map_or (has_name s.programs) o false ≡ false → nat_le most_programs (length s.programs) ≡ false
        → Sums (with_name s.programs o) s.units s.tasks s.srbs s.commands (programs_from x rs) (units_from x rs) (commands_from x rs) e → SumsOf s x (r ∷ rs) e
    go None eq g single within m = absurd cc
    go (Some name) eq g single within m = rw (is, eq) (program_more s.programs s.units s.tasks s.srbs s.commands (programs_from x rs) (units_from x rs) (commands_from x rs) e name (lines_from x rs) single within m)
sums_step s x e r rs Task is f m = go r.name refl f.named f.single f.within m
  where
    go : (o : Option (List ℕ)) → r.name ≡ o → is_none o ≡ false → option_map_or (has_name s.units) o false ≡ false → nat_le most_units (length s.units) ≡ false
        → Sums s.programs (with_name s.units o) (with_name s.tasks o) s.srbs s.commands (programs_from x rs) (units_from x rs) (commands_from x rs) e → SumsOf s x (r ∷ rs) e
    go None eq g single within m = absurd cc
    go (Some name) eq g single within m = rw (is, eq) (task_more s.programs s.units s.tasks s.srbs s.commands (programs_from x rs) (units_from x rs) (commands_from x rs) e name _ _ single within m)
sums_step s x e r rs Srb is f m = go r.name refl f.named f.single f.within m
  where
    go : (o : Option (List ℕ)) → r.name ≡ o → is_none o ≡ false → option_map_or (has_name s.units) o false ≡ false → nat_le most_units (length s.units) ≡ false
        → Sums s.programs (with_name s.units o) s.tasks (with_name s.srbs o) s.commands (programs_from x rs) (units_from x rs) (commands_from x rs) e → SumsOf s x (r ∷ rs) e
    go None eq g single within m = absurd cc
    go (Some name) eq g single within m = rw (is, eq) (srb_more s.programs s.units s.tasks s.srbs s.commands (programs_from x rs) (units_from x rs) (commands_from x rs) e name _ _ single within m)
sums_step s x e r rs Command is f m = rw is (command_more s.programs s.units s.tasks s.srbs s.commands (programs_from x rs) (units_from x rs) (commands_from x rs) e _ f.within m)

nothing_more : (s : SeenView) → Sums s.programs s.units s.tasks s.srbs s.commands [] [] [] s
nothing_more s = record {
  programs = sym (append-nil s.programs);
  units = sym (append-nil s.units);
  few_programs = λ h. h;
  few_units = λ h. h;
  few_commands = λ h. omega (arith, h);
  distinct_programs = λ h. h;
  distinct_units = λ h. h;
  tasks = λ name. sym (or-false (has_name s.tasks name));
  srbs = λ name. sym (or-false (has_name s.srbs name));
}

pub sums : (s x e : SeenView) (cs : List CardText) (rs : List ReadView) → Walk s cs rs e → SumsOf s x rs e
sums s x e [] [] w = subst (λ (t : SeenView). SumsOf s x [] t) (sym w) (nothing_more s)
sums s x e (c ∷ cs) [] w = absurd w
sums s x e [] (r ∷ rs) w = absurd w
sums s x e (c ∷ cs) (r ∷ rs) w = sums_step s x e r rs (role_of r.form) refl (facts s c r w.0) (sums (after s (role_of r.form) r.name) x e cs rs w.1)
