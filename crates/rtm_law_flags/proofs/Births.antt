-- Each thing's birth is named by its entry, so that no other entry makes it.
use Rattle.std.proofs.Common.{◌≡◌, ℕ, ◌+◌, ◌<◌, Bool, true, ◌&&◌, List, length, take, Option, Some, None, refl, sym, ap, subst, arith, inl, inr, ◌∙◌}
use Rattle.std.proofs.lemmas.Bool.{eq-eqb}
use Rattle.std.specs.Prelude.{IsTrue, slice_get, ◌==◌}
use Rattle.rtm_deck_items.specs.Reading.{op_at}
use Rattle.rtm_deck_items.specs.View.{DeckView}
use Rattle.rtm_deck_items.specs.WellFormed.{is_well_formed}
use Rattle.rtm_deck_items.specs.declared.deck.Command.{Command}
use Rattle.rtm_deck_items.specs.declared.op.Op.{Op}
use Rattle.rtm_deck_items.specs.declared.op.Op.TheVariants as ops
use Rattle.rtm_model.specs.declared.abort.Abort.{Abort}
use Rattle.rtm_model.specs.declared.block.Place.{Place}
use Rattle.rtm_model.specs.declared.entry.Entry.{Entry}
use Rattle.rtm_model.specs.declared.entry.Fate.{Fate}
use Rattle.rtm_model.specs.declared.entry.What.{What}
use Rattle.rtm_model.specs.declared.entry.What.TheVariants as whats
use Rattle.rtm_model.specs.declared.error_record.ErrorRecord.{ErrorRecord}
use Rattle.rtm_model.specs.declared.holding.Holding.{Holding}
use Rattle.rtm_model.specs.declared.holding.Manager1.{Manager1}
use Rattle.rtm_model.specs.declared.reg.Reg.{Reg}
use Rattle.rtm_model.specs.inner.Soundness.{IsSound}
use Rattle.rtm_model.specs.Advance.{cause_of}
use Rattle.rtm_model.specs.Legal.{Legal}
use Rattle.rtm_model.specs.Moments.{IsAt, IsIn, before}
use Rattle.rtm_model.specs.Tasks.{Dormant, HasEnded, Life, Lives, Tree, is_dormant, life_of}
use Rattle.rtm_model.specs.World.{Core, UnitOfWork, World, core_at, related_task, unborn_unit, unit_at}
use Rattle.rtm_law_births.specs.Aborts as aborts_table
use Rattle.rtm_law_births.specs.Estaes as estaes_table
use Rattle.rtm_law_births.specs.Estais as estais_table
use Rattle.rtm_law_births.specs.Frrs as frrs_table
use Rattle.rtm_law_births.specs.Holdings as holdings_table
use Rattle.rtm_law_births.specs.LivingUnits as units_table
use Rattle.rtm_law_births.specs.Managers as managers_table
use Rattle.rtm_law_births.specs.RequestBlocks as blocks_table
use Rattle.rtm_law_births.specs.Life.{HasTheLiving, LivesBefore, StateTable, Table}
use Rattle.rtm_law_births.specs.Routines.{UnitRoutine}
use Rattle.rtm_law_births.proofs.Turns.{aborts_live}
use Rattle.rtm_law_births.proofs.Cards.{NamesUnit, unit_named}
use Rattle.rtm_law_births.proofs.Estaes.{estaes_live}
use Rattle.rtm_law_births.proofs.Frrs.{frrs_live}
use Rattle.rtm_law_births.proofs.Holdings.{holdings_live}
use Rattle.rtm_law_births.proofs.Managers.{managers_live}
use Rattle.rtm_law_births.proofs.Sound.{sound_history}
use Rattle.rtm_law_landings.proofs.Appended.{front_length}
use Rattle.rtm_law_sound.proofs.Histories.{prefix_legal, world_sound}
use Rattle.rtm_law_flags.specs.Births.{AreBornOnce, IsBornOnce}
use Rattle.rtm_law_flags.specs.Flags.{LivesOnce}
use Rattle.rtm_law_flags.specs.Said.{gives_birth, says_birth}
use Rattle.rtm_law_flags.proofs.Once.{lives_once}

-- the entry that makes a thing is the one of its birth's index
abbrev pub Names : {X : Type 0} → Table X → (X → ℕ) → DeckView → Type 0
Names {X} table birth d = (w : World) (n : ℕ) (e : Entry) (x : X) → table.makes d w n e x → birth x ≡ n

module _ {X : Type 0} (table : Table X) (birth : X → ℕ) (d : DeckView) (h : List Entry) (names : Names table birth d)
    (unstarted : (x : X) → table.starts d x → ⊥) (living : (i : ℕ) → HasTheLiving table d (take i h)) where
  is_new : (x : X) (i : ℕ) (e : Entry) → IsAt h i e → table.makes d (before d h i) i e x → LivesBefore table d (take i h) (length (take i h)) x → ⊥
  is_new x i e at makes (inl (from, survives)) = unstarted x from
  is_new x i e at makes (inr (j, since)) =
      let one : birth x ≡ i = names (before d h i) i e x makes in
      let two : birth x ≡ j = names (before d (take i h) j) j since.entry x since.makes in
      omega (arith, since.below, front_length h i e at, one, two)

  pub born_once : IsBornOnce table d h
  born_once = record {
    once = λ x i j e other at there one two. sym (names (before d h i) i e x one) ∙ names (before d h j) j other x two;
    new = λ x i e at makes has. is_new x i e at makes (HasTheLiving.lives (living i) x has);
  }

-- Each kind

reg_born : (a b : Reg) → a ≡ b → a.born ≡ b.born
reg_born a b same = ap Reg.born same

frr_card : (n : ℕ) (c : Core) (rc : ℕ) (op : Op) (reg : Reg) → frrs_table.CardMakes n c rc op reg → reg.born ≡ n
frr_card n c rc (ops.FrrAdd prog) reg h = ap Reg.born h.1
frr_card n c rc (ops.FrrReplace prog) reg h = ap Reg.born h.1
frr_card n c rc _ reg h = absurd h

frr_entry : (d : DeckView) (n : ℕ) (c : Core) (what : What) (reg : Reg) → frrs_table.EntryMakes d n c what reg → reg.born ≡ n
frr_entry d n c (whats.Exec at rc) reg h = frr_card n c rc (op_at d at.prog at.op) reg h
frr_entry d n c _ reg h = absurd h

estae_card : (n : ℕ) (c : Core) (rc : ℕ) (op : Op) (reg : Reg) → estaes_table.CardMakes n c rc op reg → reg.born ≡ n
estae_card n c rc (ops.EstaexCt prog term cancel xctl) reg h = ap Reg.born h.1
estae_card n c rc (ops.EstaexOv prog term cancel xctl) reg h = ap Reg.born h.1
estae_card n c rc _ reg h = absurd h

estae_entry : (d : DeckView) (n : ℕ) (c : Core) (what : What) (reg : Reg) → estaes_table.EntryMakes d n c what reg → reg.born ≡ n
estae_entry d n c (whats.Exec at rc) reg h = estae_card n c rc (op_at d at.prog at.op) reg h
estae_entry d n c _ reg h = absurd h

manager_card : (n u rc : ℕ) (op : Op) (x : Manager1) → managers_table.CardMakes n u rc op x → x.born ≡ n
manager_card n u rc (ops.MgrAdd prog space) x h = ap Manager1.born h.1
manager_card n u rc _ x h = absurd h

manager_entry : (d : DeckView) (n u : ℕ) (what : What) (x : Manager1) → managers_table.EntryMakes d n u what x → x.born ≡ n
manager_entry d n u (whats.Exec at rc) x h = manager_card n u rc (op_at d at.prog at.op) x h
manager_entry d n u _ x h = absurd h

holding_card : (n u rc : ℕ) (op : Op) (x : Holding) → holdings_table.CardMakes n u rc op x → x.born ≡ n
holding_card n u rc (ops.Get class id) x h = ap Holding.born h.1
holding_card n u rc _ x h = absurd h

holding_entry : (d : DeckView) (n u : ℕ) (what : What) (x : Holding) → holdings_table.EntryMakes d n u what x → x.born ≡ n
holding_entry d n u (whats.Exec at rc) x h = holding_card n u rc (op_at d at.prog at.op) x h
holding_entry d n u _ x h = absurd h

-- an abort's birth is the entry that it names
abbrev from_of : aborts_table.PendingAbort → ℕ
from_of x = Abort.from x.abort

related_from : (n : ℕ) (task : Option ℕ) (r : Option ErrorRecord) (fate : Option Fate) (x : aborts_table.PendingAbort) → aborts_table.RelatedPosts n task r fate x → from_of x ≡ n
related_from n (Some task) (Some r) (Some fate) x h = ap Abort.from h.abort_is
related_from n (Some task) (Some r) None x h = absurd h
related_from n (Some task) None fate x h = absurd h
related_from n None r fate x h = absurd h

step_from : (d : DeckView) (n : ℕ) (r : Option ErrorRecord) (fate : Option Fate) (x : aborts_table.PendingAbort) → aborts_table.StepPosts d n r fate x → from_of x ≡ n
step_from d n (Some r) (Some fate) x h = ap Abort.from h.abort_is
step_from d n (Some r) None x h = absurd h
step_from d n None fate x h = absurd h

abort_card : (n rc : ℕ) (op : Op) (x : aborts_table.PendingAbort) → aborts_table.CardPosts n rc op x → from_of x ≡ n
abort_card n rc (ops.Detach unit stae) x h = ap Abort.from h.2
abort_card n rc (ops.Abterm unit code reason dump retry) x h = ap Abort.from h.2
abort_card n rc _ x h = absurd h

command_from : (n : ℕ) (fate : Fate) (o : Option Command) (x : aborts_table.PendingAbort) → aborts_table.CommandPosts n fate o x → from_of x ≡ n
command_from n fate None x h = absurd h
command_from n fate (Some command) x h = ap Abort.from h.abort_is

abort_entry : (d : DeckView) (w : World) (n u : ℕ) (what : What) (x : aborts_table.PendingAbort) → aborts_table.EntryMakes d w n u what x → from_of x ≡ n
abort_entry d w n u (whats.Exec at rc) x h = abort_card n rc (op_at d at.prog at.op) x h
abort_entry d w n u (whats.Arrive cmd fate) x h = command_from n fate (slice_get d.commands cmd) x h
abort_entry d w n u (whats.Begin code dump) x h = ap Abort.from (aborts_table.IsQueued.abort_is (aborts_table.MotherPosts.posts h))
abort_entry d w n u (whats.Done code to_task to_step) x (inl related) = related_from n (related_task d u) (cause_of (Core.begun (core_at u w))) to_task x related
abort_entry d w n u (whats.Done code to_task to_step) x (inr step) = step_from d n (cause_of (Core.begun (core_at u w))) to_step x step
abort_entry d w n u _ x h = absurd h

-- a unit, and an ESTAI routine of it, is made by the entry that brings the unit to life
both_hold : (a b : Bool) → a ≡ true → b ≡ true → (a && b) ≡ true
both_hold a b h k = rw (h, k) refl

unit_card : (u rc : ℕ) (op : Op) (x : units_table.LivingUnit) → units_table.CardMakes u rc op x → says_birth rc x.unit op ≡ true
unit_card u rc (ops.Attachx unit estai term) x h = both_hold (rc == 0) (unit == x.unit) (eq-eqb rc 0 h.0) (eq-eqb unit x.unit (sym h.1))
unit_card u rc (ops.Schedule unit) x h = both_hold (rc == 0) (unit == x.unit) (eq-eqb rc 0 h.0) (eq-eqb unit x.unit (sym h.1))
unit_card u rc _ x h = absurd h

unit_entry : (d : DeckView) (u : ℕ) (what : What) (x : units_table.LivingUnit) → units_table.EntryMakes d u what x → gives_birth d x.unit what ≡ true
unit_entry d u (whats.Exec at rc) x h = unit_card u rc (op_at d at.prog at.op) x h
unit_entry d u _ x h = absurd h

estai_card : (n : ℕ) (c : Core) (rc : ℕ) (op : Op) (x : UnitRoutine) → estais_table.CardMakes n c rc op x → says_birth rc x.unit op ≡ true
estai_card n c rc (ops.Attachx unit estai term) x h = both_hold (rc == 0) (unit == x.unit) (eq-eqb rc 0 h.0) (eq-eqb unit x.unit (sym h.1))
estai_card n c rc _ x h = absurd h

estai_entry : (d : DeckView) (n : ℕ) (c : Core) (what : What) (x : UnitRoutine) → estais_table.EntryMakes d n c what x → gives_birth d x.unit what ≡ true
estai_entry d n c (whats.Exec at rc) x h = estai_card n c rc (op_at d at.prog at.op) x h
estai_entry d n c _ x h = absurd h

-- which is a unit of the deck
estai_named : (d : DeckView) (n : ℕ) (c : Core) (rc : ℕ) (op : Op) (x : UnitRoutine) → NamesUnit d op → estais_table.CardMakes n c rc op x → x.unit < length d.units
estai_named d n c rc (ops.Attachx unit estai term) x named h = omega (arith, named, h.1)
estai_named d n c rc _ x named h = absurd h

estai_within : (d : DeckView) (n : ℕ) (c : Core) (what : What) (x : UnitRoutine) → IsTrue (is_well_formed d) → estais_table.EntryMakes d n c what x → x.unit < length d.units
estai_within d n c (whats.Exec at rc) x deck h = estai_named d n c rc (op_at d at.prog at.op) x (unit_named d deck at.prog at.op) h
estai_within d n c _ x deck h = absurd h

dormant_lives : (life : Life) (mother : Option ℕ) → is_dormant life ≡ true → life ≡ Lives mother → ⊥
dormant_lives Dormant mother h k = cc
dormant_lives (Lives other) mother h k = cc
dormant_lives (HasEnded other) mother h k = cc

-- a request block's birth is its entry's index and one more
block_card : (n : ℕ) (c : Core) (rc : ℕ) (op : Op) (depth born : ℕ) (place : Place) → blocks_table.CardMakes n c rc op depth born place → born ≡ n + 1
block_card n c rc (ops.Link prog) depth born place h = h.2
block_card n c rc _ depth born place h = absurd h

block_own : (d : DeckView) (n : ℕ) (c : Core) (managers : List Manager1) (what : What) (depth born : ℕ) (place : Place) → blocks_table.EntryMakes d n c managers what depth born place → born ≡ n + 1
block_own d n c managers (whats.Exec at rc) depth born place h = block_card n c rc (op_at d at.prog at.op) depth born place h
block_own d n c managers (whats.Enter kind routine mark bare) depth born place h = h.1
block_own d n c managers _ depth born place h = absurd h

block_birth_card : (d : DeckView) (n rc : ℕ) (op : Op) (x : blocks_table.UnitBlock) (place : Place) → blocks_table.BirthMakes d n rc op x place → x.born ≡ n + 1
block_birth_card d n rc (ops.Attachx unit estai term) x place h = blocks_table.IsFirstBlock.born_is h.1
block_birth_card d n rc (ops.Schedule unit) x place h = blocks_table.IsFirstBlock.born_is h.1
block_birth_card d n rc _ x place h = absurd h

block_unit : (d : DeckView) (n : ℕ) (what : What) (x : blocks_table.UnitBlock) (place : Place) → blocks_table.UnitMakes d n what x place → x.born ≡ n + 1
block_unit d n (whats.Exec at rc) x place h = block_birth_card d n rc (op_at d at.prog at.op) x place h
block_unit d n _ x place h = absurd h

block_entry : (d : DeckView) (w : World) (n : ℕ) (e : Entry) (x : blocks_table.UnitBlock) (place : Place) → StateTable.makes blocks_table.blocks d w n e x place → x.born ≡ n + 1
block_entry d w n e x place (inl own) = block_own d n (core_at e.unit w) w.managers e.what x.depth x.born place own.1
block_entry d w n e x place (inr unit) = block_unit d n e.what x place unit

module _ (d : DeckView) (h : List Entry) (deck : IsTrue (is_well_formed d)) (legal : Legal d h) where
  front : (i : ℕ) → Legal d (take i h)
  front i = prefix_legal d h i legal

  estai_gone : (x : UnitRoutine) (i : ℕ) (e : Entry) → IsAt h i e → estais_table.EntryMakes d i (core_at e.unit (before d h i)) e.what x → IsIn x.reg (Core.estais (core_at x.unit (before d h i))) → ⊥
  estai_gone x i e at makes has =
      let dormant = LivesOnce.unborn (lives_once d h x.unit deck legal) i e at (estai_entry d i (core_at e.unit (before d h i)) e.what x makes) in
      let within = estai_within d i (core_at e.unit (before d h i)) e.what x deck makes in
      let unborn : unit_at x.unit (World.units (before d h i)) ≡ unborn_unit = IsSound.dormant (world_sound d (take i h) deck (front i)) x.unit within dormant in
      subst (λ (unit : UnitOfWork). IsIn x.reg (Core.estais unit.core)) unborn has

  pub are_born_once : AreBornOnce d h
  are_born_once = record {
    units = record {
      once = λ x i j e other at there one two.
          LivesOnce.birth (lives_once d h x.unit deck legal) i j e other at there (unit_entry d e.unit e.what x one) (unit_entry d other.unit other.what x two);
      new = λ x i e at makes has.
          dormant_lives (life_of x.unit (Tree.lives (World.tree (before d h i)))) x.mother
          (LivesOnce.unborn (lives_once d h x.unit deck legal) i e at (unit_entry d e.unit e.what x makes)) has;
    };
    frrs = born_once frrs_table.frrs (λ x. Reg.born x.reg) d h (λ w n e x makes. frr_entry d n (core_at e.unit w) e.what x.reg makes.1) (λ x from. from)
        (λ i. frrs_table.AreTheFrrs.living (frrs_live d (take i h) (sound_history d (take i h) deck (front i)) (front i)));
    estaes = born_once estaes_table.estaes (λ x. Reg.born x.reg) d h (λ w n e x makes. estae_entry d n (core_at e.unit w) e.what x.reg makes.1) (λ x from. from)
        (λ i. estaes_table.AreTheEstaes.living (estaes_live d (take i h) (sound_history d (take i h) deck (front i)) (front i)));
    estais = record {
      once = λ x i j e other at there one two.
          LivesOnce.birth (lives_once d h x.unit deck legal) i j e other at there (estai_entry d i (core_at e.unit (before d h i)) e.what x one)
          (estai_entry d j (core_at other.unit (before d h j)) other.what x two);
      new = λ x i e at makes has. estai_gone x i e at makes has;
    };
    managers = born_once managers_table.managers Manager1.born d h (λ w n e x makes. manager_entry d n e.unit e.what x makes) (λ x from. from)
        (λ i. managers_table.AreTheManagers.living (managers_live d (take i h) (sound_history d (take i h) deck (front i)) (front i)));
    holdings = born_once holdings_table.holdings Holding.born d h (λ w n e x makes. holding_entry d n e.unit e.what x makes) (λ x from. from)
        (λ i. holdings_table.AreTheHoldings.living (holdings_live d (take i h) (sound_history d (take i h) deck (front i)) (front i)));
    aborts = born_once aborts_table.aborts from_of d h (λ w n e x makes. abort_entry d w n e.unit e.what x makes) (λ x from. from)
        (λ i. aborts_table.AreTheAborts.living (aborts_live d (take i h) (sound_history d (take i h) deck (front i)) (front i)));
    blocks = λ x place other_place i j e other at there one two.
        let a : x.born ≡ i + 1 = block_entry d (before d h i) i e x place one in
        let b : x.born ≡ j + 1 = block_entry d (before d h j) j other x other_place two in
        omega (arith, a, b);
  }
