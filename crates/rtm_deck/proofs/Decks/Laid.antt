-- The cards of a deck, in the order that their roles allow, are those of blocks, commands and END.
use Rattle.std.proofs.Common.{◌≡◌, ℕ, Bool, true, false, not, ◌||◌, List, [], ◌∷◌, Option, None, refl, ap, sym, ◌⊎◌, inl, inr}
use Rattle.std.specs.Prelude.{IsTrue, unwrap_or}
use Rattle.rtm_cards.specs.Limits.{default_entries}
use Rattle.rtm_cards.specs.Cards.{CardText}
use Rattle.rtm_deck_items.specs.Faults.{differ}
use Rattle.rtm_deck_items.specs.declared.deck.Line.{Line as LineCard}
use Rattle.rtm_deck_items.specs.declared.deck.UnitKind.TheVariants as kinds
use Rattle.rtm_deck_items.specs.Items.{Item, RegionCard, ProgramStart, ProgramCard, ProgramEnd as ProgramLast, UnitOfWork, CommandsStart, CommandCard, DeckEnd, Block, ProgramBlock, UnitBlock}
use Rattle.rtm_deck_items.specs.Spelling.{programs_in, units_in}
use Rattle.rtm_deck_spelling.proofs.LaidOut.{lines_then, blocks_then, commands_then_end, closing}
use Rattle.rtm_deck.specs.declared.role.Role.{Role}
use Rattle.rtm_deck.specs.declared.role.Role.TheVariants.{Region, Program, ProgramEnd, Task, Srb, Commands, Command, End, Line}
use Rattle.rtm_deck.specs.inner.View.{ReadView, SeenView}
use Rattle.rtm_deck.specs.inner.Roles.{role_of, is_inside_role, is_misnamed_role}
use Rattle.rtm_deck.specs.inner.Seen.{after, is_unordered, is_doubled_name, is_beyond, lacks_task_role}
use Rattle.rtm_deck.specs.inner.Operations.{no_name, named_number_in, named_number_at, number_at, flag_at, value_at}
use Rattle.rtm_deck.specs.inner.Building.{line_of, lines_from, program_of, programs_from, unit_of, units_from, commands_from, region_from}
use Rattle.rtm_deck.proofs.Decks.Walk.{Step, Walk}

-- what holds of a card of that role and name that breaks no rule
pub record Facts (s : SeenView) (role : Role) (name : Option (List ℕ)) : Type 0 where
  pub ended : s.ended ≡ false
  pub inside : is_inside_role role ≡ s.inside
  pub ordered : is_unordered s role ≡ false
  pub named : is_misnamed_role role name ≡ false
  pub single : is_doubled_name s role name ≡ false
  pub within : is_beyond s role ≡ false
  pub tasked : lacks_task_role s role ≡ false

none_of : (a b c : Bool) → (a || b || c) ≡ false → (a ≡ false) × (b ≡ false) × (c ≡ false)
none_of true b c e = absurd cc
none_of false true c e = absurd cc
none_of false false true e = absurd cc
none_of false false false e = (refl, refl, refl)

same_if : (a b : Bool) → differ a b ≡ false → a ≡ b
same_if true true e = refl
same_if true false e = absurd cc
same_if false true e = absurd cc
same_if false false e = refl

pub facts : (s : SeenView) (c : CardText) (r : ReadView) → Step s c r → Facts s (role_of r.form) r.name
facts s c r st =
    let p = none_of s.ended (differ (is_inside_role (role_of r.form)) s.inside) (is_unordered s (role_of r.form)) st.placed in
    record { ended = p.0; inside = same_if _ _ p.1; ordered = p.2; named = st.named; single = st.single; within = st.within; tasked = st.tasked }

-- what a card says
abbrev pub item_at : SeenView → Role → ReadView → Item
item_at x Region r = RegionCard (number_at r.values 0) (flag_at r.values 1)
item_at x Program r = ProgramStart (unwrap_or r.name no_name)
item_at x ProgramEnd r = ProgramLast
item_at x Task r = UnitOfWork (unit_of x r kinds.Task None)
item_at x Srb r = UnitOfWork (unit_of x r kinds.Srb (named_number_in x.units (value_at r.values 1)))
item_at x Commands r = CommandsStart
item_at x Command r = CommandCard (record { target = named_number_at x.units r.values 0; at = number_at r.values 1; dump = flag_at r.values 2 })
item_at x End r = DeckEnd
item_at x Line r = ProgramCard (line_of x r)

abbrev pub items_at : SeenView → List ReadView → List Item
items_at x [] = []
items_at x (r ∷ rs) = item_at x (role_of r.form) r ∷ items_at x rs

-- Behind END no card stands.
pub walk_ended : (s e : SeenView) (cs : List CardText) (rs : List ReadView) → s.ended ≡ true → Walk s cs rs e → rs ≡ []
walk_ended s e cs [] h w = refl
walk_ended s e [] (r ∷ rs) h w = absurd w
walk_ended s e (c ∷ cs) (r ∷ rs) h w = let f = (facts s c r w.0).ended in absurd cc

-- what follows OPER
pub record InCommands (x : SeenView) (rs : List ReadView) : Type 0 where
  pub items : items_at x rs ≡ commands_then_end (commands_from x rs)
  pub programs : programs_from x rs ≡ []
  pub units : units_from x rs ≡ []
  pub region : region_from rs ≡ (default_entries, true)

commands_step : (s x e : SeenView) (cs : List CardText) (r : ReadView) (rs : List ReadView) → s.oper ≡ true → s.inside ≡ false → s.started ≡ true → e.ended ≡ true
    → ((t : SeenView) → t.oper ≡ true → t.ended ≡ false → t.inside ≡ false → t.started ≡ true → Walk t cs rs e → InCommands x rs)
    → (role : Role) → role_of r.form ≡ role → Facts s role r.name → Walk (after s role r.name) cs rs e → InCommands x (r ∷ rs)
commands_step s x e cs r rs o i st n more Region is f w = let h = f.ordered in absurd cc
commands_step s x e cs r rs o i st n more Program is f w = let h = f.ordered in absurd cc
commands_step s x e cs r rs o i st n more ProgramEnd is f w = let h = f.inside in absurd cc
commands_step s x e cs r rs o i st n more Task is f w = let h = f.ordered in absurd cc
commands_step s x e cs r rs o i st n more Srb is f w = let h = f.ordered in absurd cc
commands_step s x e cs r rs o i st n more Commands is f w = let h = f.ordered in absurd cc
commands_step s x e cs r rs o i st n more Command is f w =
    let m = more (after s Command r.name) o f.ended i refl w in
    let items = m.items in let programs = m.programs in let units = m.units in let region = m.region in
    record { items = rw is (ap (λ (ys : List Item). item_at x Command r ∷ ys) items); programs = rw is programs; units = rw is units; region = rw is region }
commands_step s x e cs r rs o i st n more End is f w =
    let none = walk_ended (after s End r.name) e cs rs refl w in
    record { items = rw (is, none) refl; programs = rw (is, none) refl; units = rw (is, none) refl; region = rw (is, none) refl }
commands_step s x e cs r rs o i st n more Line is f w = let h = f.inside in absurd cc

in_commands : (s x e : SeenView) (cs : List CardText) (rs : List ReadView) → s.oper ≡ true → s.ended ≡ false → s.inside ≡ false → s.started ≡ true → e.ended ≡ true → Walk s cs rs e → InCommands x rs
in_commands s x e [] [] o d i st n w = let h = ap (λ (t : SeenView). t.ended) w in absurd cc
in_commands s x e (c ∷ cs) [] o d i st n w = absurd w
in_commands s x e [] (r ∷ rs) o d i st n w = absurd w
in_commands s x e (c ∷ cs) (r ∷ rs) o d i st n w =
    commands_step s x e cs r rs o i st n (λ (t : SeenView) o d i st w. in_commands t x e cs rs o d i st n w) (role_of r.form) refl (facts s c r w.0) w.1

-- inside of a program its cards come first
abbrev pub inner : Bool → List LineCard → List Item → List Item
inner true lines rest = lines_then lines rest
inner false lines rest = rest

abbrev pub is_region : Role → Bool
is_region Region = true
is_region _ = false

-- The first card isn't REGION.
abbrev pub NotRegion : List ReadView → Type 0
NotRegion [] = Unit {0}
NotRegion (r ∷ rs) = is_region (role_of r.form) ≡ false

-- a card stood before, or the first isn't REGION
abbrev pub Started : SeenView → List ReadView → Type 0
Started s rs = (s.started ≡ true) ⊎ NotRegion rs

-- what stands behind REGION, inside of a program or outside of one
pub record Outer (x : SeenView) (inside : Bool) (rs : List ReadView) : Type 0 where
  pub oper : Bool
  pub blocks : List Block
  pub items : items_at x rs ≡ inner inside (lines_from x rs) (blocks_then blocks (closing oper (commands_from x rs)))
  pub programs : programs_in blocks ≡ programs_from x rs
  pub units : units_in blocks ≡ units_from x rs
  pub commands : IsTrue (not oper) → commands_from x rs ≡ []
  pub region : region_from rs ≡ (default_entries, true)

outer_step : (s x e : SeenView) (cs : List CardText) (r : ReadView) (rs : List ReadView) (b : Bool) → s.inside ≡ b → s.oper ≡ false → e.ended ≡ true → Started s (r ∷ rs)
    → ((b : Bool) (t : SeenView) → t.inside ≡ b → t.oper ≡ false → t.ended ≡ false → t.started ≡ true → Walk t cs rs e → Outer x b rs)
    → (role : Role) → role_of r.form ≡ role → Facts s role r.name → Walk (after s role r.name) cs rs e → Outer x b (r ∷ rs)
outer_step s x e cs r rs b i o n (inl st) more Region is f w = let h = f.ordered in absurd cc
outer_step s x e cs r rs b i o n (inr st) more Region is f w = let h = ap is_region is in absurd cc
outer_step s x e cs r rs true i o n st more Program is f w = let h = f.inside in absurd cc
outer_step s x e cs r rs false i o n st more Program is f w =
    let m = more true (after s Program r.name) refl o f.ended refl w in
    let items = m.items in let programs = m.programs in let units = m.units in let commands = m.commands in let region = m.region in
    record {
      oper = m.oper;
      blocks = ProgramBlock (program_of x r rs) ∷ m.blocks;
      items = rw is (ap (λ (ys : List Item). item_at x Program r ∷ ys) items);
      programs = rw is (ap (λ ys. program_of x r rs ∷ ys) programs);
      units = rw is units;
      commands = λ t. rw is (commands t);
      region = rw is region;
    }
outer_step s x e cs r rs false i o n st more ProgramEnd is f w = let h = f.inside in absurd cc
outer_step s x e cs r rs true i o n st more ProgramEnd is f w =
    let m = more false (after s ProgramEnd r.name) refl o f.ended refl w in
    let items = m.items in let programs = m.programs in let units = m.units in let commands = m.commands in let region = m.region in
    record {
      oper = m.oper;
      blocks = m.blocks;
      items = rw is (ap (λ (ys : List Item). ProgramLast ∷ ys) items);
      programs = rw is programs;
      units = rw is units;
      commands = λ t. rw is (commands t);
      region = rw is region;
    }
outer_step s x e cs r rs true i o n st more Task is f w = let h = f.inside in absurd cc
outer_step s x e cs r rs false i o n st more Task is f w =
    let m = more false (after s Task r.name) i o f.ended refl w in
    let items = m.items in let programs = m.programs in let units = m.units in let commands = m.commands in let region = m.region in
    record {
      oper = m.oper;
      blocks = UnitBlock (unit_of x r kinds.Task None) ∷ m.blocks;
      items = rw is (ap (λ (ys : List Item). item_at x Task r ∷ ys) items);
      programs = rw is programs;
      units = rw is (ap (λ ys. unit_of x r kinds.Task None ∷ ys) units);
      commands = λ t. rw is (commands t);
      region = rw is region;
    }
outer_step s x e cs r rs true i o n st more Srb is f w = let h = f.inside in absurd cc
outer_step s x e cs r rs false i o n st more Srb is f w =
    let m = more false (after s Srb r.name) i o f.ended refl w in
    let items = m.items in let programs = m.programs in let units = m.units in let commands = m.commands in let region = m.region in
    record {
      oper = m.oper;
      blocks = UnitBlock (unit_of x r kinds.Srb (named_number_in x.units (value_at r.values 1))) ∷ m.blocks;
      items = rw is (ap (λ (ys : List Item). item_at x Srb r ∷ ys) items);
      programs = rw is programs;
      units = rw is (ap (λ ys. unit_of x r kinds.Srb (named_number_in x.units (value_at r.values 1)) ∷ ys) units);
      commands = λ t. rw is (commands t);
      region = rw is region;
    }
outer_step s x e cs r rs true i o n st more Commands is f w = let h = f.inside in absurd cc
outer_step s x e cs r rs false i o n st more Commands is f w =
    let m = in_commands (after s Commands r.name) x e cs rs refl f.ended i refl n w in
    let items = m.items in let programs = m.programs in let units = m.units in let region = m.region in
    record {
      oper = true;
      blocks = [];
      items = rw is (ap (λ (ys : List Item). CommandsStart ∷ ys) items);
      programs = rw is (sym programs);
      units = rw is (sym units);
      commands = λ t. absurd cc;
      region = rw is region;
    }
outer_step s x e cs r rs b i o n st more Command is f w = let h = f.ordered in absurd cc
outer_step s x e cs r rs true i o n st more End is f w = let h = f.inside in absurd cc
outer_step s x e cs r rs false i o n st more End is f w =
    let none = walk_ended (after s End r.name) e cs rs refl w in
    record {
      oper = false;
      blocks = [];
      items = rw (is, none) refl;
      programs = rw (is, none) refl;
      units = rw (is, none) refl;
      commands = λ t. rw (is, none) refl;
      region = rw (is, none) refl;
    }
outer_step s x e cs r rs false i o n st more Line is f w = let h = f.inside in absurd cc
outer_step s x e cs r rs true i o n st more Line is f w =
    let m = more true (after s Line r.name) i o f.ended refl w in
    let items = m.items in let programs = m.programs in let units = m.units in let commands = m.commands in let region = m.region in
    record {
      oper = m.oper;
      blocks = m.blocks;
      items = rw is (ap (λ (ys : List Item). item_at x Line r ∷ ys) items);
      programs = rw is programs;
      units = rw is units;
      commands = λ t. rw is (commands t);
      region = rw is region;
    }

pub outer : (b : Bool) (s x e : SeenView) (cs : List CardText) (rs : List ReadView) → s.inside ≡ b → s.oper ≡ false → s.ended ≡ false → Started s rs → e.ended ≡ true → Walk s cs rs e → Outer x b rs
outer b s x e [] [] i o d st n w = let h = ap (λ (t : SeenView). t.ended) w in absurd cc
outer b s x e (c ∷ cs) [] i o d st n w = absurd w
outer b s x e [] (r ∷ rs) i o d st n w = absurd w
outer b s x e (c ∷ cs) (r ∷ rs) i o d st n w =
    outer_step s x e cs r rs b i o n st (λ (b : Bool) (t : SeenView) i o d st w. outer b t x e cs rs i o d (inl st) n w) (role_of r.form) refl (facts s c r w.0) w.1
