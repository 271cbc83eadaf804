-- The labels that are seen are those of the deck's programs.
use Rattle.std.proofs.Common.{◌≡◌, ℕ, Bool, true, false, ◌||◌, List, [], ◌∷◌, ◌++◌, length, Option, Some, None, refl, ap, sym, subst, ◌∙◌, append_assoc}
use Rattle.std.specs.Prelude.{IsTrue, bytes_eq, ◌==◌, if◌then◌else◌}
use Rattle.std.specs.Option.{option_map_or}
use Rattle.std.specs.List.{list_any}
use Rattle.std.proofs.Math.Bool.{or-false, or_assoc}
use Rattle.std.proofs.lemmas.List.{append-nil}
use Rattle.rtm_cards.specs.Cards.{CardText}
use Rattle.rtm_deck_items.specs.declared.deck.Line.{Line as LineCard}
use Rattle.rtm_deck_items.specs.View.{ProgramView}
use Rattle.rtm_deck_items.specs.WellFormed.{are_distinct, labels_in, has_label}
use Rattle.rtm_deck.specs.declared.role.Role.{Role}
use Rattle.rtm_deck.specs.declared.role.Role.TheVariants.{Region, Program, ProgramEnd, Task, Srb, Commands, Command, End, Line}
use Rattle.rtm_deck.specs.inner.View.{ReadView, SeenView}
use Rattle.rtm_deck.specs.inner.Roles.{role_of, is_line}
use Rattle.rtm_deck.specs.inner.Seen.{after, has_name, insert_name, with_name}
use Rattle.rtm_deck.specs.inner.References.{labels_onto}
use Rattle.rtm_deck.specs.inner.Building.{line_of, lines_from, programs_from}
use Rattle.rtm_deck.proofs.Cards.Names.{has_insert}
use Rattle.rtm_deck.proofs.Cards.SeenCards.{is_line_role}
use Rattle.rtm_deck.proofs.Decks.Walk.{Walk}
use Rattle.rtm_deck.proofs.Decks.Laid.{Facts, facts, walk_ended}
use Rattle.rtm_deck.proofs.Decks.Counts.{same_swapped, inserted, distinct_more}

-- a name is among the labels behind a card where it was before, or is the card's
abbrev labels : Option (List ℕ) → List ℕ → Bool
labels o name = option_map_or (λ own. bytes_eq own name) o false

has_labels : (names : List (List ℕ)) (o : Option (List ℕ)) (name : List ℕ) → has_name (with_name names o) name ≡ (has_name names name || labels o name)
has_labels names None name = sym (or-false (has_name names name))
has_labels names (Some own) name = has_insert names own name ∙ ap (λ (b : Bool). has_name names name || b) (same_swapped name own)

-- the labels of the program that is open
abbrev pub open_label : Bool → List ℕ → List LineCard → Bool
open_label true name lines = has_label name lines
open_label false name lines = false

abbrev in_some : List ℕ → List ProgramView → Bool
in_some name ps = list_any (λ p. has_label name p.lines) ps

abbrev Labels : Bool → SeenView → SeenView → List ℕ → List ReadView → SeenView → Type 0
Labels b s x name rs e = has_name e.labels name ≡ (has_name s.labels name || (open_label b name (lines_from x rs) || in_some name (programs_from x rs)))

four : (a b c d : Bool) → ((a || b) || (c || d)) ≡ (a || ((b || c) || d))
four true b c d = refl
four false true c d = refl
four false false c d = refl

label_step : (s x e : SeenView) (name : List ℕ) (r : ReadView) (rs : List ReadView) (b : Bool) → s.inside ≡ b
    → (role : Role) → role_of r.form ≡ role → Facts s role r.name → ((b : Bool) → (after s role r.name).inside ≡ b → Labels b (after s role r.name) x name rs e) → Labels b s x name (r ∷ rs) e
label_step s x e name r rs true i Region is f m = let h = f.inside in absurd cc
label_step s x e name r rs false i Region is f m = let h = m false i in rw is h
label_step s x e name r rs true i Program is f m = let h = f.inside in absurd cc
label_step s x e name r rs false i Program is f m = let h = m true refl in rw is h
label_step s x e name r rs true i ProgramEnd is f m = let h = m false refl in rw is h
label_step s x e name r rs false i ProgramEnd is f m = let h = f.inside in absurd cc
label_step s x e name r rs true i Task is f m = let h = f.inside in absurd cc
label_step s x e name r rs false i Task is f m = let h = m false i in rw is h
label_step s x e name r rs true i Srb is f m = let h = f.inside in absurd cc
label_step s x e name r rs false i Srb is f m = let h = m false i in rw is h
label_step s x e name r rs true i Commands is f m = let h = f.inside in absurd cc
label_step s x e name r rs false i Commands is f m = let h = m false i in rw is h
label_step s x e name r rs true i Command is f m = let h = f.inside in absurd cc
label_step s x e name r rs false i Command is f m = let h = m false i in rw is h
label_step s x e name r rs true i End is f m = let h = f.inside in absurd cc
label_step s x e name r rs false i End is f m = let h = m false i in rw is h
label_step s x e name r rs false i Line is f m = let h = f.inside in absurd cc
label_step s x e name r rs true i Line is f m =
    let h = m true i in
    rw is (h ∙ (ap (λ (t : Bool). t || (has_label name (lines_from x rs) || in_some name (programs_from x rs))) (has_labels s.labels r.name name)
    ∙ four (has_name s.labels name) (labels r.name name) (has_label name (lines_from x rs)) (in_some name (programs_from x rs))))

nothing_open : (b : Bool) (s : SeenView) (name : List ℕ) → has_name s.labels name ≡ (has_name s.labels name || (open_label b name [] || false))
nothing_open true s name = sym (or-false (has_name s.labels name))
nothing_open false s name = sym (or-false (has_name s.labels name))

-- each label that is seen was seen before, or is one of the open program, or of another
pub labels_seen : (b : Bool) (s x e : SeenView) (name : List ℕ) (cs : List CardText) (rs : List ReadView) → s.inside ≡ b → Walk s cs rs e → Labels b s x name rs e
labels_seen b s x e name [] [] i w = ap (λ (t : SeenView). has_name t.labels name) w ∙ nothing_open b s name
labels_seen b s x e name (c ∷ cs) [] i w = absurd w
labels_seen b s x e name [] (r ∷ rs) i w = absurd w
labels_seen b s x e name (c ∷ cs) (r ∷ rs) i w =
    label_step s x e name r rs b i (role_of r.form) refl (facts s c r w.0) (λ (b : Bool) i. labels_seen b (after s (role_of r.form) r.name) x e name cs rs i w.1)

-- the labels of a program's cards are among those that were there, or the cards carry them
pub own_carried : (x : SeenView) (own : List (List ℕ)) (name : List ℕ) (rs : List ReadView) → has_name (labels_onto own rs) name ≡ (has_name own name || has_label name (lines_from x rs))
own_carried x own name [] = sym (or-false (has_name own name))
own_carried x own name (r ∷ rs) = go (is_line (role_of r.form)) refl (own_carried x (with_name own r.name) name rs)
  where
    go : (b : Bool) → is_line (role_of r.form) ≡ b → has_name (labels_onto (with_name own r.name) rs) name ≡ (has_name (with_name own r.name) name || has_label name (lines_from x rs))
        → has_name (if b then labels_onto (with_name own r.name) rs else own) name ≡ (has_name own name || has_label name (if b then line_of x r ∷ lines_from x rs else []))
    go true e more = more ∙ (ap (λ (t : Bool). t || has_label name (lines_from x rs)) (has_labels own r.name name) ∙ or_assoc (has_name own name) (labels r.name name) (has_label name (lines_from x rs)))
    go false e more = sym (or-false (has_name own name))

-- one label more, if there is one
abbrev labels_then : Option (List ℕ) → List (List ℕ) → List (List ℕ)
labels_then o rest = option_map_or (λ label. label ∷ rest) o rest

distinct_label : (own rest : List (List ℕ)) (o : Option (List ℕ)) → IsTrue (are_distinct own) → option_map_or (has_name own) o false ≡ false
    → (IsTrue (are_distinct (with_name own o)) → IsTrue (are_distinct (with_name own o ++ rest))) → IsTrue (are_distinct (own ++ labels_then o rest))
distinct_label own rest None d e more = more d
distinct_label own rest (Some name) d e more =
    let same : insert_name own name ≡ own ++ name ∷ [] = inserted own name e in
    let m : IsTrue (are_distinct (insert_name own name ++ rest)) = more (subst (λ (xs : List (List ℕ)). IsTrue (are_distinct xs)) (sym same) (distinct_more own name d e)) in
    subst (λ (xs : List (List ℕ)). IsTrue (are_distinct xs)) (ap (λ (xs : List (List ℕ)). xs ++ rest) same ∙ append_assoc own (name ∷ []) rest) m

own_of : (s : SeenView) (o : Option (List ℕ)) (role : Role) → role ≡ Line → (after s role o).own ≡ with_name s.own o
own_of s o role e = rw e refl

single_of : (s : SeenView) (o : Option (List ℕ)) (role : Role) → role ≡ Line → Facts s role o → option_map_or (has_name s.own) o false ≡ false
single_of s o role e f = (subst (λ (ρ : Role). Facts s ρ o) e f).single

-- the labels of a program are distinct
pub distinct_labels : (s x e : SeenView) (cs : List CardText) (rs : List ReadView) → Walk s cs rs e → IsTrue (are_distinct s.own) → IsTrue (are_distinct (s.own ++ labels_in (lines_from x rs)))
distinct_labels s x e [] [] w d = subst (λ (xs : List (List ℕ)). IsTrue (are_distinct xs)) (sym (append-nil s.own)) d
distinct_labels s x e (c ∷ cs) [] w d = absurd w
distinct_labels s x e [] (r ∷ rs) w d = absurd w
distinct_labels s x e (c ∷ cs) (r ∷ rs) w d = go (is_line (role_of r.form)) refl (distinct_labels (after s (role_of r.form) r.name) x e cs rs w.1)
  where
    go : (b : Bool) → is_line (role_of r.form) ≡ b
        → (IsTrue (are_distinct (after s (role_of r.form) r.name).own) → IsTrue (are_distinct ((after s (role_of r.form) r.name).own ++ labels_in (lines_from x rs))))
        → IsTrue (are_distinct (s.own ++ labels_in (if b then line_of x r ∷ lines_from x rs else [])))
    go true e more =
        let is = is_line_role (role_of r.form) e in
        let same = own_of s r.name (role_of r.form) is in
        distinct_label s.own (labels_in (lines_from x rs)) r.name d (single_of s r.name (role_of r.form) is (facts s c r w.0))
        (λ h. subst (λ (xs : List (List ℕ)). IsTrue (are_distinct (xs ++ labels_in (lines_from x rs)))) same (more (subst (λ (xs : List (List ℕ)). IsTrue (are_distinct xs)) (sym same) h)))
    go false e more = subst (λ (xs : List (List ℕ)). IsTrue (are_distinct xs)) (sym (append-nil s.own)) d

task_step : (s e : SeenView) (cs : List CardText) (name : Option (List ℕ)) (rs : List ReadView) (role : Role) → Facts s role name → Walk (after s role name) cs rs e
    → ((after s role name).ended ≡ false → (length e.tasks == 0) ≡ false) → (length e.tasks == 0) ≡ false
task_step s e cs name rs Region f w more = more f.ended
task_step s e cs name rs Program f w more = more f.ended
task_step s e cs name rs ProgramEnd f w more = more f.ended
task_step s e cs name rs Task f w more = more f.ended
task_step s e cs name rs Srb f w more = more f.ended
task_step s e cs name rs Commands f w more = more f.ended
task_step s e cs name rs Command f w more = more f.ended
task_step s e cs name rs Line f w more = more f.ended
task_step s e [] name [] End f w more = ap (λ (t : SeenView). length t.tasks == 0) w ∙ f.tasked
task_step s e (c ∷ cs) name [] End f w more = absurd w
task_step s e cs name (r ∷ rs) End f w more = let none = walk_ended (after s End name) e cs (r ∷ rs) refl w in absurd cc

-- END stands behind a task.
pub has_task : (s e : SeenView) (cs : List CardText) (rs : List ReadView) → Walk s cs rs e → s.ended ≡ false → e.ended ≡ true → (length e.tasks == 0) ≡ false
has_task s e [] [] w d n = let h = ap (λ (t : SeenView). t.ended) w in absurd cc
has_task s e (c ∷ cs) [] w d n = absurd w
has_task s e [] (r ∷ rs) w d n = absurd w
has_task s e (c ∷ cs) (r ∷ rs) w d n = task_step s e cs r.name rs (role_of r.form) (facts s c r w.0) w.1 (λ d. has_task (after s (role_of r.form) r.name) e cs rs w.1 d n)
