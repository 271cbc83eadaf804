-- Whether a routine that is registered lets an abort through is what its card says.
use Rattle.std.proofs.Common.{◌≡◌, ℕ, zero, suc, ◌<◌, ◌≤◌, Bool, true, false, not, List, length, take, Option, Some, None, refl, sym, ap, subst, arith, inl, inr, ◌∙◌}
use Rattle.std.proofs.lemmas.List.{length-take-le}
use Rattle.std.specs.Option.{option_map, option_map_or}
use Rattle.std.specs.Prelude.{IsTrue, ◌==◌}
use Rattle.rtm_deck_items.specs.Reading.{op_at}
use Rattle.rtm_deck_items.specs.View.{DeckView}
use Rattle.rtm_deck_items.specs.WellFormed.{is_well_formed}
use Rattle.rtm_deck_items.specs.declared.op.Op.{Op}
use Rattle.rtm_deck_items.specs.declared.op.Op.TheVariants as ops
use Rattle.rtm_model.specs.declared.entry.Entry.{Entry}
use Rattle.rtm_model.specs.declared.entry.What.{What}
use Rattle.rtm_model.specs.declared.entry.What.TheVariants as whats
use Rattle.rtm_model.specs.declared.reg.Kind.{Kind}
use Rattle.rtm_model.specs.declared.reg.Kind.TheVariants.{Estae, Estai, Frr, Mgr}
use Rattle.rtm_model.specs.declared.reg.Reg.{Reg}
use Rattle.rtm_model.specs.Advance.{world}
use Rattle.rtm_model.specs.Births.{new_estai}
use Rattle.rtm_model.specs.Entries.{executed_op, holds_off, op_executed_at, says_cancel_no}
use Rattle.rtm_model.specs.Legal.{Legal}
use Rattle.rtm_model.specs.Levels.{shields}
use Rattle.rtm_model.specs.Moments.{IsAt, IsIn, before}
use Rattle.rtm_model.specs.OwnChange.{routine_named}
use Rattle.rtm_model.specs.World.{Core, World, core_at}
use Rattle.rtm_law_births.specs.Estaes.{CardMakes, EntryMakes, estaes}
use Rattle.rtm_law_births.specs.Estais as estai_law
use Rattle.rtm_law_births.specs.Estais.{estais}
use Rattle.rtm_law_births.specs.Life.{LivesBefore, LivesSince}
use Rattle.rtm_law_births.specs.Routines.{UnitRoutine}
use Rattle.rtm_law_births.proofs.Estaes.{estaes_live}
use Rattle.rtm_law_births.proofs.Estais.{estais_live}
use Rattle.rtm_law_births.proofs.Lists.{found_in}
use Rattle.rtm_law_births.proofs.Sound.{sound_history}
use Rattle.rtm_law_sound.proofs.Histories.{prefix_legal}
use Rattle.rtm_law_landings.proofs.Posted.{ran_at}

-- An ESTAE routine has the card that made it

abbrev IsMadeWith : Option Op → Reg → Type 0
IsMadeWith o reg = not reg.cancel ≡ option_map_or says_cancel_no o false

estae_card : (d : DeckView) (i : ℕ) (c : Core) (rc : ℕ) (op : Op) (reg : Reg) → CardMakes i c rc op reg → (reg.born ≡ i) × IsMadeWith (Some op) reg
estae_card d i c rc (ops.EstaexCt prog term cancel xctl) reg h = (ap Reg.born h.1, ap (λ (r : Reg). not r.cancel) h.1)
estae_card d i c rc (ops.EstaexOv prog term cancel xctl) reg h = (ap Reg.born h.1, ap (λ (r : Reg). not r.cancel) h.1)
estae_card d i c rc _ reg h = absurd h

estae_made : (d : DeckView) (i : ℕ) (c : Core) (what : What) (reg : Reg) → EntryMakes d i c what reg → (reg.born ≡ i) × IsMadeWith (executed_op d what) reg
estae_made d i c (whats.Exec at rc) reg h = estae_card d i c rc (op_at d at.prog at.op) reg h
estae_made d i c _ reg h = absurd h

module _ (d : DeckView) (h : List Entry) (deck : IsTrue (is_well_formed d)) (legal : Legal d h) (u : ℕ) (reg : Reg) where
  estae_lives : LivesBefore estaes d h (length h) (record { unit = u; reg = reg }) → (reg.born < length h) × IsMadeWith (op_executed_at d h reg.born) reg
  estae_lives (inl none) = absurd none.0
  estae_lives (inr since) =
      let made = estae_made d since.0 (core_at (Entry.unit (LivesSince.entry since.1)) (before d h since.0)) (Entry.what (LivesSince.entry since.1)) reg (LivesSince.makes since.1).1 in
      let there : IsAt h reg.born (LivesSince.entry since.1) = subst (λ (k : ℕ). IsAt h k (LivesSince.entry since.1)) (sym made.0) (LivesSince.at since.1) in
      (omega (arith, made.0, LivesSince.below since.1), made.1 ∙ ap (λ (o : Option Op). option_map_or says_cancel_no o false) (sym (ran_at d h reg.born (LivesSince.entry since.1) there)))

  estae_registered : IsIn reg (Core.estaes (core_at u (world d h))) → (reg.born < length h) × IsMadeWith (op_executed_at d h reg.born) reg
  estae_registered there = estae_lives ((estaes_live d h (sound_history d h deck legal) legal).living.lives (record { unit = u; reg = reg }) there)

-- An ESTAI routine lets aborts through

new_through : (n : ℕ) (term : Bool) (o : Option ℕ) (reg : Reg) → new_estai n term o ≡ Some reg → reg.cancel ≡ true
new_through n term None reg e = absurd cc
new_through n term (Some prog) reg e = let same : Some true ≡ Some reg.cancel = ap (option_map Reg.cancel) e in cc

estai_card : (d : DeckView) (i : ℕ) (mother : Core) (rc : ℕ) (op : Op) (x : UnitRoutine) → ((reg : Reg) → IsIn reg mother.estais → reg.cancel ≡ true) → estai_law.CardMakes i mother rc op x → Reg.cancel x.reg ≡ true
estai_card d i mother rc (ops.Attachx unit estai term) x mothers h = elim h.2 [ inl new ↦ new_through i term estai x.reg new | inr handed ↦ mothers x.reg handed ]
estai_card d i mother rc _ x mothers h = absurd h

estai_made : (d : DeckView) (i : ℕ) (mother : Core) (what : What) (x : UnitRoutine) → ((reg : Reg) → IsIn reg mother.estais → reg.cancel ≡ true) → estai_law.EntryMakes d i mother what x → Reg.cancel x.reg ≡ true
estai_made d i mother (whats.Exec at rc) x mothers h = estai_card d i mother rc (op_at d at.prog at.op) x mothers h
estai_made d i mother _ x mothers h = absurd h

estai_lives : (d : DeckView) (h : List Entry) (x : UnitRoutine)
    → ((i : ℕ) → i < length h → (v : ℕ) (reg : Reg) → IsIn reg (Core.estais (core_at v (before d h i))) → reg.cancel ≡ true)
    → LivesBefore estais d h (length h) x → Reg.cancel x.reg ≡ true
estai_lives d h x earlier (inl none) = absurd none.0
estai_lives d h x earlier (inr since) =
    let e : Entry = LivesSince.entry since.1 in
    estai_made d since.0 (core_at e.unit (before d h since.0)) e.what x (earlier since.0 (LivesSince.below since.1) e.unit) (LivesSince.makes since.1)

estai_through : (d : DeckView) → IsTrue (is_well_formed d) → (k : ℕ) (h : List Entry) → length h ≤ k → Legal d h → (v : ℕ) (reg : Reg) → IsIn reg (Core.estais (core_at v (world d h))) → reg.cancel ≡ true
estai_through d deck zero h few legal v reg there =
    estai_lives d h (record { unit = v; reg = reg }) (λ i below. absurd (omega (arith, few, below)))
    ((estais_live d h (sound_history d h deck legal) legal).living.lives (record { unit = v; reg = reg }) there)
estai_through d deck (suc k) h few legal v reg there =
    estai_lives d h (record { unit = v; reg = reg })
    (λ i below. estai_through d deck k (take i h) (omega (arith, few, below, length-take-le i h (omega (arith, below)))) (prefix_legal d h i legal))
    ((estais_live d h (sound_history d h deck legal) legal).living.lives (record { unit = v; reg = reg }) there)

-- The routine that an ENTER names

module _ (d : DeckView) (h : List Entry) (deck : IsTrue (is_well_formed d)) (legal : Legal d h) (u : ℕ) where
  -- the opening's history may be any where the same card stands at the routine's birth
  through_by : (h2 : List Entry) (born at : ℕ) (kind : Kind) (reg : Reg) → ((i : ℕ) → i < length h → op_executed_at d h2 i ≡ op_executed_at d h i)
      → routine_named kind born (World.managers (world d h)) (core_at u (world d h)) ≡ Some reg → reg.kind ≡ kind → reg.born ≡ born
      → shields (Some reg) ≡ holds_off d h2 (record { at = at; kind = kind; born = born })
  through_by h2 born at Frr reg same named kind_is born_is = rw kind_is refl
  through_by h2 born at Mgr reg same named kind_is born_is = rw kind_is refl
  through_by h2 born at Estae reg same named kind_is born_is =
      let there = found_in (λ (r : Reg). r.born == born) (Core.estaes (core_at u (world d h))) reg named in
      let made = estae_registered d h deck legal u reg there in
      let card : not reg.cancel ≡ option_map_or says_cancel_no (op_executed_at d h2 born) false = made.1
      ∙ ap (λ (o : Option Op). option_map_or says_cancel_no o false) (sym (same reg.born made.0) ∙ ap (op_executed_at d h2) born_is) in
      rw kind_is card
  through_by h2 born at Estai reg same named kind_is born_is =
      let there = found_in (λ (r : Reg). r.born == born) (Core.estais (core_at u (world d h))) reg named in
      let open_is : reg.cancel ≡ true = estai_through d deck (length h) h (omega arith) legal u reg there in
      rw (kind_is, open_is) refl

  pub through : (h2 : List Entry) (born at : ℕ) (kind : Kind) (reg : Reg) → ((i : ℕ) → i < length h → op_executed_at d h2 i ≡ op_executed_at d h i)
      → routine_named kind born (World.managers (world d h)) (core_at u (world d h)) ≡ Some reg → reg.kind ≡ kind → reg.born ≡ born
      → shields (Some reg) ≡ holds_off d h2 (record { at = at; kind = kind; born = born })
  through = through_by
