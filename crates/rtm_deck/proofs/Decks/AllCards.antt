-- All cards say the items of the deck, and its programs, units and commands are as they may be.
use Rattle.std.proofs.Common.{◌≡◌, ℕ, Bool, true, false, ◌&&◌, List, [], ◌∷◌, Option, None, is_none, refl, ap, sym, subst, ◌∙◌}
use Rattle.std.specs.Prelude.{IsTrue, if◌then◌else◌}
use Rattle.std.specs.List.{list_all, AllByRecursion}
use Rattle.std.proofs.lemmas.Bool.{and_from}
use Rattle.rtm_cards.specs.Cards.{CardText}
use Rattle.rtm_deck_operands.specs.Name.{name_in}
use Rattle.rtm_deck_items.specs.declared.deck.Line.{Line as LineCard}
use Rattle.rtm_deck_items.specs.View.{DeckView, ProgramView}
use Rattle.rtm_deck_items.specs.Forms.{slots_of}
use Rattle.rtm_deck_items.specs.Spelling.{SpellEach}
use Rattle.rtm_deck_items.specs.WellFormed.{is_unit_of, is_command_of, is_label, is_op, is_program_of, has_label}
use Rattle.rtm_deck.specs.declared.role.Role.{Role}
use Rattle.rtm_deck.specs.declared.role.Role.TheVariants.{Region, Program, ProgramEnd, Task, Srb, Commands, Command, End, Line}
use Rattle.rtm_deck.specs.inner.View.{ReadView, SeenView}
use Rattle.rtm_deck.specs.inner.Roles.{role_of, is_line, is_program_role}
use Rattle.rtm_deck.specs.inner.Seen.{after, has_name}
use Rattle.rtm_deck.specs.inner.References.{first_unfound, own_labels, labels_onto, first_nameless}
use Rattle.rtm_deck.specs.inner.Building.{line_of, lines_from, program_of, programs_from, units_from, commands_from}
use Rattle.rtm_deck.proofs.Decks.Walk.{Walk}
use Rattle.rtm_deck.proofs.Decks.Operations.{Places}
use Rattle.rtm_deck.proofs.Decks.Laid.{Facts, facts, items_at}
use Rattle.rtm_deck.proofs.Decks.Labels.{distinct_labels, own_carried}
use Rattle.rtm_deck.proofs.Cards.SeenCards.{is_line_role}
use Rattle.rtm_deck.proofs.Decks.Items.{Fields, Fine, Good, good, said_of, finds_each, none_nameless, read_label, name_padded}

module _ (e : SeenView) (d : DeckView) (places : Places e d) where
  abbrev Fines : List ReadView → Type 0
  Fines rs = AllByRecursion (λ (r : ReadView). Fine e d places (role_of r.form) r) rs

  -- each card says its item, and each unit and command is fine
  pub record AllGood (cs : List CardText) (rs : List ReadView) : Type 0 where
    pub each : SpellEach d cs (items_at e rs)
    pub units : IsTrue (list_all (is_unit_of d) (units_from e rs))
    pub commands : IsTrue (list_all (is_command_of d) (commands_from e rs))

  good_more : (c : CardText) (cs : List CardText) (r : ReadView) (rs : List ReadView) (role : Role) → role_of r.form ≡ role → Good e d places role c r → AllGood cs rs → AllGood (c ∷ cs) (r ∷ rs)
  good_more c cs r rs Region is g m = let each = m.each in let units = m.units in let commands = m.commands in record { each = rw is (g.0, each); units = rw is units; commands = rw is commands }
  good_more c cs r rs Program is g m = let each = m.each in let units = m.units in let commands = m.commands in record { each = rw is (g.0, each); units = rw is units; commands = rw is commands }
  good_more c cs r rs ProgramEnd is g m = let each = m.each in let units = m.units in let commands = m.commands in record { each = rw is (g.0, each); units = rw is units; commands = rw is commands }
  good_more c cs r rs Commands is g m = let each = m.each in let units = m.units in let commands = m.commands in record { each = rw is (g.0, each); units = rw is units; commands = rw is commands }
  good_more c cs r rs End is g m = let each = m.each in let units = m.units in let commands = m.commands in record { each = rw is (g.0, each); units = rw is units; commands = rw is commands }
  good_more c cs r rs Line is g m = let each = m.each in let units = m.units in let commands = m.commands in record { each = rw is (g.0, each); units = rw is units; commands = rw is commands }
  good_more c cs r rs Task is g m = let each = m.each in let units = m.units in let commands = m.commands in record { each = rw is (g.0, each); units = rw is (and_from _ _ g.1 units); commands = rw is commands }
  good_more c cs r rs Srb is g m = let each = m.each in let units = m.units in let commands = m.commands in record { each = rw is (g.0, each); units = rw is (and_from _ _ g.1 units); commands = rw is commands }
  good_more c cs r rs Command is g m = let each = m.each in let units = m.units in let commands = m.commands in record { each = rw is (g.0, each); units = rw is units; commands = rw is (and_from _ _ g.1 commands) }

  pub all_good : (own : List (List ℕ)) (s : SeenView) (cs : List CardText) (rs : List ReadView) → Fields cs → Walk s cs rs e → first_nameless e own rs ≡ None → AllGood cs rs
  all_good own s [] [] fields w h = record { each = refl; units = refl; commands = refl }
  all_good own s (c ∷ cs) [] fields w h = absurd w
  all_good own s [] (r ∷ rs) fields w h = absurd w
  all_good own s (c ∷ cs) (r ∷ rs) fields w h =
      let parts = none_nameless r (first_unfound e (own_labels own r rs) (slots_of r.form) r.values) (first_nameless e (own_labels own r rs) rs) h in
      good_more c cs r rs (role_of r.form) refl (good e d places s c r (own_labels own r rs) fields.0 w.0 (finds_each e (own_labels own r rs) (slots_of r.form) r.values parts.0))
      (all_good (own_labels own r rs) (after s (role_of r.form) r.name) cs rs fields.1 w.1 parts.1)

  -- a card of a program with these cards is as it may be
  abbrev pub LinesFine : List LineCard → List LineCard → Type 0
  LinesFine all lines = IsTrue (list_all (λ line. is_label line.label && is_op d all line.op) lines)

  own_stays : (own : List (List ℕ)) (r : ReadView) (rs : List ReadView) → is_line (role_of r.form) ≡ true → own_labels own r rs ≡ own
  own_stays own r rs l = ap (λ (ρ : Role). if is_program_role ρ then labels_onto [] rs else own) (is_line_role (role_of r.form) l)

  pub lines_fine : (own : List (List ℕ)) (all : List LineCard) (s : SeenView) (cs : List CardText) (rs : List ReadView) → ((name : List ℕ) → has_name own name ≡ true → IsTrue (has_label name all)) → Walk s cs rs e → first_nameless e own rs ≡ None
      → LinesFine all (lines_from e rs)
  lines_fine own all s [] [] there w h = refl
  lines_fine own all s (c ∷ cs) [] there w h = absurd w
  lines_fine own all s [] (r ∷ rs) there w h = absurd w
  lines_fine own all s (c ∷ cs) (r ∷ rs) there w h = go (is_line (role_of r.form)) refl (lines_fine own all (after s (role_of r.form) r.name) cs rs there w.1)
    where
      go : (b : Bool) → is_line (role_of r.form) ≡ b → (first_nameless e own rs ≡ None → LinesFine all (lines_from e rs)) → LinesFine all (if b then line_of e r ∷ lines_from e rs else [])
      go false l more = refl
      go true l more =
          let stays = own_stays own r rs l in
          let parts = none_nameless r (first_unfound e (own_labels own r rs) (slots_of r.form) r.values) (first_nameless e (own_labels own r rs) rs) h in
          let found = finds_each e own (slots_of r.form) r.values (subst (λ (o : List (List ℕ)). first_unfound e o (slots_of r.form) r.values ≡ None) stays parts.0) in
          let op = (said_of e d places s c r own w.0 l found).op all there in
          and_from _ _ (and_from (is_label r.name) _ (subst (λ (o : Option (List ℕ)). IsTrue (is_label o)) (sym w.0.name) (read_label c.name)) op)
          (more (subst (λ (o : List (List ℕ)). first_nameless e o rs ≡ None) stays parts.1))

  abbrev ProgramsFine : List ProgramView → Type 0
  ProgramsFine ps = IsTrue (list_all (is_program_of d) ps)

  program_fine : (c : CardText) (cs : List CardText) (r : ReadView) (rs : List ReadView) (s : SeenView) → r.name ≡ name_in c.name → is_none r.name ≡ false → Walk (after s Program r.name) cs rs e → first_nameless e (labels_onto [] rs) rs ≡ None
      → IsTrue (is_program_of d (program_of e r rs))
  program_fine c cs r rs s name named w h =
      let lines = lines_fine (labels_onto [] rs) (lines_from e rs) (after s Program r.name) cs rs (λ (n : List ℕ) (t : has_name (labels_onto [] rs) n ≡ true). sym (own_carried e [] n rs) ∙ t) w h in
      let distinct = distinct_labels (after s Program r.name) e e cs rs w refl in
      and_from _ _ (and_from _ _ (name_padded c.name r.name name named) lines) distinct

  programs_step : (own : List (List ℕ)) (s : SeenView) (c : CardText) (cs : List CardText) (r : ReadView) (rs : List ReadView) (role : Role) → role_of r.form ≡ role → r.name ≡ name_in c.name → Facts s role r.name → Walk (after s role r.name) cs rs e
      → first_nameless e (if is_program_role role then labels_onto [] rs else own) rs ≡ None → ProgramsFine (programs_from e rs) → ProgramsFine (programs_from e (r ∷ rs))
  programs_step own s c cs r rs Program is name f w h m = rw is (and_from _ _ (program_fine c cs r rs s name f.named w h) m)
  programs_step own s c cs r rs Region is name f w h m = rw is m
  programs_step own s c cs r rs ProgramEnd is name f w h m = rw is m
  programs_step own s c cs r rs Task is name f w h m = rw is m
  programs_step own s c cs r rs Srb is name f w h m = rw is m
  programs_step own s c cs r rs Commands is name f w h m = rw is m
  programs_step own s c cs r rs Command is name f w h m = rw is m
  programs_step own s c cs r rs End is name f w h m = rw is m
  programs_step own s c cs r rs Line is name f w h m = rw is m

  pub programs_fine : (own : List (List ℕ)) (s : SeenView) (cs : List CardText) (rs : List ReadView) → Walk s cs rs e → first_nameless e own rs ≡ None → IsTrue (list_all (is_program_of d) (programs_from e rs))
  programs_fine own s [] [] w h = refl
  programs_fine own s (c ∷ cs) [] w h = absurd w
  programs_fine own s [] (r ∷ rs) w h = absurd w
  programs_fine own s (c ∷ cs) (r ∷ rs) w h =
      let parts = none_nameless r (first_unfound e (own_labels own r rs) (slots_of r.form) r.values) (first_nameless e (own_labels own r rs) rs) h in
      programs_step own s c cs r rs (role_of r.form) refl w.0.name (facts s c r w.0) w.1 parts.1 (programs_fine (own_labels own r rs) (after s (role_of r.form) r.name) cs rs w.1 parts.1)
