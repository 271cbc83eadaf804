-- The list of an error: no routine stands twice in it, and those of its bracket stand by falling birth.
use Rattle.std.proofs.Common.{◌≡◌, ℕ, ◌<◌, Bool, true, false, not, ◌&&◌, ◌||◌, List, [], ◌∷◌, ◌++◌, length, Option, Some, None, refl, sym, ap, subst, arith, inl, inr, ◌⊎◌, ◌∙◌}
use Rattle.std.proofs.lemmas.Bool.{ne_eqb}
use Rattle.std.proofs.lemmas.List.Folds.{list_any-append}
use Rattle.std.specs.List.{list_any}
use Rattle.std.specs.Option.{option_map_or}
use Rattle.std.specs.Prelude.{IsTrue, filter, if◌then◌else◌, ◌==◌}
use Rattle.rtm_codes.specs.declared.code.Code.{Code}
use Rattle.rtm_deck_items.specs.Reading.{op_at}
use Rattle.rtm_deck_items.specs.View.{DeckView}
use Rattle.rtm_deck_items.specs.WellFormed.{is_well_formed}
use Rattle.rtm_deck_items.specs.declared.op.Op.{Op}
use Rattle.rtm_deck_items.specs.declared.op.Op.TheVariants as ops
use Rattle.rtm_model.specs.declared.entry.Entry.{Entry}
use Rattle.rtm_model.specs.declared.entry.What.{What}
use Rattle.rtm_model.specs.declared.entry.What.TheVariants as whats
use Rattle.rtm_model.specs.declared.error_record.ErrorRecord.{ErrorRecord}
use Rattle.rtm_model.specs.declared.outcome.Outcome.{Outcome}
use Rattle.rtm_model.specs.declared.outcome.Outcome.TheVariants.{Executed}
use Rattle.rtm_model.specs.declared.reg.Kind.{Kind}
use Rattle.rtm_model.specs.declared.reg.Kind.TheVariants.{Estae, Estai, Frr}
use Rattle.rtm_model.specs.declared.reg.Reg.{Reg}
use Rattle.rtm_model.specs.declared.surroundings.Surroundings.{Surroundings}
use Rattle.rtm_model.specs.Advance.{world}
use Rattle.rtm_model.specs.Cards.{has_frr, outcome, outcome_by, wrong_mode}
use Rattle.rtm_model.specs.Chains.{is_admitted, is_of_depth}
use Rattle.rtm_model.specs.Eligible.{AreDistinct, AreFalling, bracket_list, bracket_routines, eligible_list, estaes_for, estais_for, frrs_for, is_named, is_same_kind, list_here}
use Rattle.rtm_model.specs.Legal.{Legal}
use Rattle.rtm_model.specs.Levels.{depth_in, error_in}
use Rattle.rtm_model.specs.Moments.{IsIn}
use Rattle.rtm_model.specs.Surroundings.{surroundings_at}
use Rattle.rtm_model.specs.World.{Core, World, core_at}
use Rattle.rtm_model.specs.inner.Soundness.{IsCoreSound, IsSound}
use Rattle.rtm_law_births.specs.Estaes as estae_law
use Rattle.rtm_law_births.specs.Estaes.{estaes}
use Rattle.rtm_law_births.specs.Frrs as frr_law
use Rattle.rtm_law_births.specs.Frrs.{frrs}
use Rattle.rtm_law_births.specs.Life.{LivesBefore, LivesSince}
use Rattle.rtm_law_births.proofs.Estaes.{estaes_live}
use Rattle.rtm_law_births.proofs.Frrs.{frrs_live}
use Rattle.rtm_law_births.proofs.Lists.{Falls, falls_in}
use Rattle.rtm_law_births.proofs.Living.{IsMade}
use Rattle.rtm_law_births.proofs.Outcomes.{outcome_of}
use Rattle.rtm_law_births.proofs.Routines.{falls}
use Rattle.rtm_law_births.proofs.Sound.{sound_history}
use Rattle.rtm_law_sound.proofs.Histories.{Legal-nil, world_sound}
use Rattle.rtm_law_chains.proofs.Firsts.{list_at}
use Rattle.rtm_law_chains.proofs.Lists.{falls_filter}
use Rattle.rtm_law_chains.proofs.Members.{estae_listed, estai_listed, frr_listed}
use Rattle.rtm_law_chains.proofs.Running.{frr_made}
use Rattle.rtm_law_chains.proofs.Steps.{came, through}

-- Names

any_none : (p : Reg → Bool) (xs : List Reg) → ((z : Reg) → IsIn z xs → p z ≡ false) → list_any p xs ≡ false
any_none p [] h = refl
any_none p (x ∷ xs) h = rw (h x (inl refl)) (any_none p xs (λ z there. h z (inr there)))

and_false : (a b : Bool) → b ≡ false → (a && b) ≡ false
and_false true b e = e
and_false false b e = refl

other_birth : (x z : Reg) → z.born < x.born → is_named x.kind x.born z ≡ false
other_birth x z less = and_false (is_same_kind x.kind z.kind) (z.born == x.born) (ne_eqb z.born x.born (λ e. omega (arith, e, less)))

distinct_falls : (n : ℕ) (xs : List Reg) → Falls Reg.born n xs → AreDistinct xs
distinct_falls n [] f = tt
distinct_falls n (x ∷ xs) f = (any_none (is_named x.kind x.born) xs (λ z there. other_birth x z (falls_in Reg.born x.born xs z f.1 there)), distinct_falls x.born xs f.1)

distinct_append : (xs ys : List Reg) → AreDistinct xs → AreDistinct ys → ((x z : Reg) → IsIn x xs → IsIn z ys → is_named x.kind x.born z ≡ false) → AreDistinct (xs ++ ys)
distinct_append [] ys f g apart = g
distinct_append (x ∷ xs) ys f g apart =
    let none : list_any (is_named x.kind x.born) ys ≡ false = any_none (is_named x.kind x.born) ys (λ z there. apart x z (inl refl) there) in
    (list_any-append (is_named x.kind x.born) xs ys ∙ rw (f.0, none) refl, distinct_append xs ys f.1 g (λ a z here there. apart a z (inr here) there))

in_joined : (xs ys : List Reg) (x : Reg) → IsIn x (xs ++ ys) → IsIn x xs ⊎ IsIn x ys
in_joined [] ys x h = inr h
in_joined (y ∷ xs) ys x (inl same) = inl (inl same)
in_joined (y ∷ xs) ys x (inr h) = elim (in_joined xs ys x h) [ inl here ↦ inl (inr here) | inr there ↦ inr there ]

-- of two kinds
apart_kinds : (x z : Reg) (a b : Kind) → x.kind ≡ a → z.kind ≡ b → is_same_kind a b ≡ false → is_named x.kind x.born z ≡ false
apart_kinds x z a b k j other = rw (k, j, other) refl

estais_fall_if : (b : Bool) (term : Bool) (n : ℕ) (regs : List Reg) → Falls Reg.born n regs → AreDistinct (if b then filter (is_admitted term) regs else [])
estais_fall_if true term n regs f = distinct_falls n (filter (is_admitted term) regs) (falls_filter Reg.born (is_admitted term) n regs f)
estais_fall_if false term n regs f = tt

frrs_fall_if : (term : Bool) (depth n : ℕ) (regs : List Reg) → Falls Reg.born n regs → Falls Reg.born n (frrs_for depth term regs)
frrs_fall_if true depth n regs f = tt
frrs_fall_if false depth n regs f = falls_filter Reg.born (is_of_depth depth) n regs f

pub list_distinct : (d : DeckView) (n : ℕ) (c : Core) → IsCoreSound d n c → (depth : ℕ) (term : Bool) → AreDistinct (list_at depth term c)
list_distinct d n c s depth term =
    let fs : List Reg = frrs_for depth term c.frrs in
    let es : List Reg = estaes_for depth term c.estaes in
    let is : List Reg = estais_for depth term c.estais in
    let f : AreDistinct fs = distinct_falls n fs (frrs_fall_if term depth n c.frrs (falls n (depth_in c.levels) c.frrs s.frrs_fall)) in
    let g : AreDistinct es = distinct_falls n es (falls_filter Reg.born (λ reg. is_of_depth depth reg && is_admitted term reg) n c.estaes (falls n (depth_in c.levels) c.estaes s.estaes_fall)) in
    let j : AreDistinct is = estais_fall_if (depth == 0) term n c.estais (falls n 0 c.estais s.estais_fall) in
    distinct_append (fs ++ es) is
    (distinct_append fs es f g (λ x z here there. apart_kinds x z Frr Estae (frr_listed d n c s depth x term here).kind_is (estae_listed d n c s depth z term there).kind_is refl)) j
    (λ x z here there. elim (in_joined fs es x here) [
      | inl frr ↦ apart_kinds x z Frr Estai (frr_listed d n c s depth x term frr).kind_is (estai_listed d n c s depth z term there).kind_is refl
      | inr estae ↦ apart_kinds x z Estae Estai (estae_listed d n c s depth x term estae).kind_is (estai_listed d n c s depth z term there).kind_is refl
    ])

distinct_if : (d : DeckView) (n : ℕ) (c : Core) → IsCoreSound d n c → (o : Option ErrorRecord) → AreDistinct (option_map_or (eligible_list c) o [])
distinct_if d n c s None = tt
distinct_if d n c s (Some r) = list_distinct d n c s (depth_in c.levels) r.flags.term_only

pub here_distinct : (d : DeckView) (n : ℕ) (c : Core) → IsCoreSound d n c → AreDistinct (list_here c)
here_distinct d n c s = distinct_if d n c s (error_in c.levels)

-- Each FRR of a unit is younger than each of its ESTAE routines

abbrev pub AreYounger : List Reg → List Reg → Type 0
AreYounger fs es = (f e : Reg) → IsIn f fs → IsIn e es → e.born < f.born

no_frr_by : (o : Outcome) (rc : ℕ) (srb frr : Bool) (rest : Option Code) → outcome_by (if true && (srb || frr) then Some wrong_mode else rest) o ≡ Executed rc → frr ≡ false
no_frr_by o rc true frr rest e = absurd cc
no_frr_by o rc false true rest e = absurd cc
no_frr_by o rc false false rest e = refl

none_there : (xs : List Reg) → has_frr xs ≡ false → (x : Reg) → IsIn x xs → ⊥
none_there [] e x h = h
none_there (y ∷ ys) e x h = let some : (length (y ∷ ys) == 0) ≡ false = ne_eqb (length (y ∷ ys)) 0 (λ k. omega (arith, k)) in let clash : true ≡ false = ap not (sym some) ∙ e in cc

estae_no_frr : (c : Core) (a : Surroundings) (n rc : ℕ) (op : Op) (reg : Reg) → outcome c a op ≡ Executed rc → estae_law.CardMakes n c rc op reg → has_frr c.frrs ≡ false
estae_no_frr c a n rc (ops.EstaexCt prog term cancel xctl) reg e h = no_frr_by _ rc a.srb (has_frr c.frrs) _ e
estae_no_frr c a n rc (ops.EstaexOv prog term cancel xctl) reg e h = no_frr_by _ rc a.srb (has_frr c.frrs) _ e
estae_no_frr c a n rc _ reg e h = absurd h

entry_no_frr : (d : DeckView) (w : World) (n u : ℕ) (what : What) → IsMade d w n (record { unit = u; what = what }) → (reg : Reg) → estae_law.EntryMakes d n (core_at u w) what reg → has_frr (Core.frrs (core_at u w)) ≡ false
entry_no_frr d w n u (whats.Exec at rc) m reg h =
    estae_no_frr (core_at u w) (surroundings_at d w u (op_at d at.prog at.op)) n rc (op_at d at.prog at.op) reg (outcome_of d w u (whats.Exec at rc) m.may) h
entry_no_frr d w n u _ m reg h = absurd h

card_both : (n rc : ℕ) (op : Op) (c : Core) (f e : Reg) → frr_law.CardMakes n c rc op f → estae_law.CardMakes n c rc op e → ⊥
card_both n rc (ops.FrrAdd prog) c f e h k = k
card_both n rc (ops.FrrReplace prog) c f e h k = k
card_both n rc _ c f e h k = h

not_both : (d : DeckView) (n : ℕ) (what : What) (c : Core) (f e : Reg) → frr_law.EntryMakes d n c what f → estae_law.EntryMakes d n c what e → ⊥
not_both d n (whats.Exec at rc) c f e h k = card_both n rc (op_at d at.prog at.op) c f e h k
not_both d n _ c f e h k = h

abbrev pub AllYounger : DeckView → List Entry → Type 0
AllYounger d h = (v : ℕ) → AreYounger (Core.frrs (core_at v (world d h))) (Core.estaes (core_at v (world d h)))

younger_keeps : (d : DeckView) (h : List Entry) (e : Entry) → IsTrue (is_well_formed d) → Legal d h → Legal d (h ++ e ∷ []) → IsMade d (world d h) (length h) e → AllYounger d h → AllYounger d (h ++ e ∷ [])
younger_keeps d h e deck legal longer m all v f g here there =
    let w : World = world d h in
    let frr = came frrs d h e (frrs_live d h (sound_history d h deck legal) legal).living (frrs_live d (h ++ e ∷ []) (sound_history d (h ++ e ∷ []) deck longer) longer).living (record { unit = v; reg = f }) here in
    let estae = came estaes d h e (estaes_live d h (sound_history d h deck legal) legal).living (estaes_live d (h ++ e ∷ []) (sound_history d (h ++ e ∷ []) deck longer) longer).living (record { unit = v; reg = g }) there in
    let sound : IsCoreSound d (length h) (core_at v w) = IsSound.cores m.sound v in
    elim estae [
      | inl new ↦ elim frr [
        | inl both ↦ absurd (not_both d (length h) e.what (core_at e.unit w) f g both.1 new.1)
        | inr old ↦
            let mine : IsIn f (Core.frrs (core_at e.unit w)) = subst (λ (i : ℕ). IsIn f (Core.frrs (core_at i w))) new.0 old.0 in
            absurd (none_there (Core.frrs (core_at e.unit w)) (entry_no_frr d w (length h) e.unit e.what m g new.1) f mine)
      ]
      | inr old ↦ elim frr [
        | inl new ↦
            let less = falls_in Reg.born (length h) (Core.estaes (core_at v w)) g (falls (length h) (depth_in (Core.levels (core_at v w))) (Core.estaes (core_at v w)) sound.estaes_fall) old.0 in
            omega (arith, less, (frr_made d (length h) e.what (core_at e.unit w) f new.1).0)
        | inr both ↦ all v f g both.0 old.0
      ]
    ]

none_first : (d : DeckView) (deck : IsTrue (is_well_formed d)) (legal : Legal d []) → AllYounger d []
none_first d deck legal v f g here there = absurd (empty ((frrs_live d [] (sound_history d [] deck legal) legal).living.lives (record { unit = v; reg = f }) here))
  where
    empty : LivesBefore frrs d [] 0 (record { unit = v; reg = f }) → ⊥
    empty (inl none) = none.0
    empty (inr (i, since)) = omega (arith, LivesSince.below since)

pub all_younger : (d : DeckView) (h : List Entry) → IsTrue (is_well_formed d) → Legal d h → AllYounger d h
all_younger d h deck legal = through d deck (AllYounger d) (none_first d deck (Legal-nil d)) (λ front e before longer m all. younger_keeps d front e deck before longer m all) h legal

falling_of : (n : ℕ) (xs : List Reg) → Falls Reg.born n xs → AreFalling xs
falling_of n [] f = tt
falling_of n (x ∷ []) f = tt
falling_of n (x ∷ y ∷ xs) f = (f.1.0, falling_of x.born (y ∷ xs) f.1)

falls_append : (n m : ℕ) (xs ys : List Reg) → Falls Reg.born n xs → Falls Reg.born m ys → ((y : Reg) → IsIn y ys → y.born < n) → AreYounger xs ys → Falls Reg.born n (xs ++ ys)
falls_append n m [] [] f g below younger = tt
falls_append n m [] (y ∷ ys) f g below younger = (below y (inl refl), g.1)
falls_append n m (x ∷ xs) ys f g below younger = (f.0, falls_append x.born m xs ys f.1 g (λ y there. younger x y (inl refl) there) (λ a b here there. younger a b (inr here) there))

falling_if : (d : DeckView) (n : ℕ) (c : Core) → IsCoreSound d n c → AreYounger c.frrs c.estaes → (o : Option ErrorRecord) → AreFalling (option_map_or (bracket_routines c) o [])
falling_if d n c s younger None = tt
falling_if d n c s younger (Some r) =
    let depth : ℕ = depth_in c.levels in
    let term : Bool = r.flags.term_only in
    let fs : List Reg = frrs_for depth term c.frrs in
    let es : List Reg = estaes_for depth term c.estaes in
    let g : Falls Reg.born n es = falls_filter Reg.born (λ reg. is_of_depth depth reg && is_admitted term reg) n c.estaes (falls n depth c.estaes s.estaes_fall) in
    falling_of n (fs ++ es)
    (falls_append n n fs es (frrs_fall_if term depth n c.frrs (falls n depth c.frrs s.frrs_fall)) g (λ y there. falls_in Reg.born n es y g there)
    (λ a b here there. younger a b (frr_listed d n c s depth a term here).there (estae_listed d n c s depth b term there).there))

pub here_falling : (d : DeckView) (h : List Entry) (u : ℕ) → IsTrue (is_well_formed d) → Legal d h → AreFalling (bracket_list (core_at u (world d h)))
here_falling d h u deck legal =
    falling_if d (length h) (core_at u (world d h)) (IsSound.cores (world_sound d h deck legal) u) (all_younger d h deck legal u) (error_in (Core.levels (core_at u (world d h))))
