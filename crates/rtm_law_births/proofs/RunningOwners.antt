-- An ESTAE routine that runs has its owner in the bracket around its own.
use Rattle.std.proofs.Common.{◌≡◌, ℕ, ◌<◌, ◌-◌, Bool, true, false, cond, ◌&&◌, List, [], ◌∷◌, length, Option, Some, None, refl, sym, ap, subst, arith, inl, inr, ◌⊎◌, ◌∙◌}
use Rattle.std.proofs.lemmas.Bool.{and_parts, eqb-false, eqb-true}
use Rattle.std.specs.Prelude.{IsSome, IsSomeAnd, find, if◌then◌else◌, is_some, slice_index_or, ◌==◌}
use Rattle.rtm_deck_items.specs.Reading.{op_at, program_of}
use Rattle.rtm_deck_items.specs.View.{DeckView}
use Rattle.rtm_deck_items.specs.declared.op.Op.{Op}
use Rattle.rtm_deck_items.specs.declared.op.Op.TheVariants as ops
use Rattle.rtm_model.specs.declared.abort.Abort.{Abort}
use Rattle.rtm_model.specs.declared.block.Block.{Block}
use Rattle.rtm_model.specs.declared.block.Place.{Place}
use Rattle.rtm_model.specs.declared.entry.Verdict.{Verdict}
use Rattle.rtm_model.specs.declared.entry.Verdict.TheVariants.{Perc, Retry}
use Rattle.rtm_model.specs.declared.entry.What.{What}
use Rattle.rtm_model.specs.declared.entry.What.TheVariants as whats
use Rattle.rtm_model.specs.declared.error_record.ErrorRecord.{ErrorRecord}
use Rattle.rtm_model.specs.declared.reg.Kind.{Kind}
use Rattle.rtm_model.specs.declared.reg.Kind.TheVariants.{Estae, Estai, Frr, Mgr}
use Rattle.rtm_model.specs.declared.reg.Reg.{Reg}
use Rattle.rtm_model.specs.Aborts.{abort_named}
use Rattle.rtm_model.specs.inner.Applies.{CanEnter, CanExecute}
use Rattle.rtm_model.specs.Births.{block_birth, new_estai}
use Rattle.rtm_model.specs.OwnChange.{after_retry, routine_born_at, with_bracket_closed, with_routine_entered, error_record, is_gone_after, own_card, own_entry, place_after, routine_named, with_landed, without_routine}
use Rattle.rtm_model.specs.Advance.{advance}
use Rattle.rtm_model.specs.Blocks.{has_one_block, with_bracket, without_newest, cut_to, in_newest_bracket, is_block_of, newest_bracket, with_newest_at, with_place, without_bracket}
use Rattle.rtm_model.specs.Chains.{inherited_estais, is_admitted, is_of_depth, next_estae, next_estai}
use Rattle.rtm_model.specs.Levels.{Bracket, after_leave, after_ret15, after_setrp, after_verdict, at_enclosing, at_innermost, current, depth_in, is_manager, next_frr, on_record, outermost_alone, record_in, recovers, with_open}
use Rattle.rtm_model.specs.NextEntry.{eligible_routine, landed_record}
use Rattle.rtm_model.specs.Record.{ret15_in, setrp_in, value_or}
use Rattle.rtm_model.specs.inner.Soundness.{HasOwner, IsCoreSound, IsRoutine, IsSound}
use Rattle.rtm_model.specs.Moments.{IsIn}
use Rattle.rtm_model.specs.Tasks.{Tree, is_dormant, life_of}
use Rattle.rtm_model.specs.World.{Core, UnitOfWork, World, born_core, core_at, start, unit_at}
use Rattle.rtm_law_births.proofs.Cards.{NamesUnit, unit_named}
use Rattle.rtm_law_births.proofs.Cores.{After, BirthOr, core_here, core_there, was_unborn}
use Rattle.rtm_law_births.proofs.Errors.{levels_at_start}
use Rattle.rtm_law_births.proofs.InnerBrackets.{KeepsRoutine, verdict_keeps}
use Rattle.rtm_law_births.proofs.Lists.{Falls, all_in, falls_in, found_in}
use Rattle.rtm_law_births.proofs.Living.{IsMade}
use Rattle.rtm_law_births.proofs.Outcomes.{IsStarted, outcome_of}
use Rattle.rtm_law_births.proofs.Routines.{falls}

-- the routine's owner is one of those request blocks, if it is an ESTAE routine
abbrev pub OwnerIn : Option Reg → List Block → Type 0
OwnerIn None blocks = Unit {0}
OwnerIn (Some reg) blocks = reg.kind ≡ Estae → is_some (find (is_block_of reg.owner) blocks) ≡ true

-- so of each bracket's routine, in the bracket around it
abbrev pub OwnersLive : List Bracket → List (List Block) → Type 0
OwnersLive [] blocks = Unit {0}
OwnersLive (l ∷ ls) [] = Unit {0}
OwnersLive (l ∷ ls) (blocks ∷ outer) = OwnerIn l.routine (newest_bracket outer) × OwnersLive ls outer

abbrev pub HasOwners : Core → Type 0
HasOwners c = OwnersLive c.levels c.blocks

-- no request blocks, no owners
none : (ls : List Bracket) → OwnersLive ls []
none [] = tt
none (l ∷ ls) = tt

-- changes of the innermost bracket's request blocks, and of errors
top_changed : (f : List Block → List Block) (ls : List Bracket) (blocks : List (List Block)) → OwnersLive ls blocks → OwnersLive ls (in_newest_bracket f blocks)
top_changed f [] blocks h = tt
top_changed f (l ∷ ls) [] h = tt
top_changed f (l ∷ ls) (b ∷ outer) h = h

level_changed : (f : Bracket → Bracket) → KeepsRoutine f → (ls : List Bracket) (blocks : List (List Block)) → OwnersLive ls blocks → OwnersLive (at_innermost f ls) blocks
level_changed f keeps [] blocks h = h
level_changed f keeps (l ∷ ls) [] h = tt
level_changed f keeps (l ∷ ls) (b ∷ outer) h = (subst (λ (o : Option Reg). OwnerIn o (newest_bracket outer)) (sym (keeps l).0) h.0, h.1)

enclosing_changed : (f : Bracket → Bracket) → KeepsRoutine f → (ls : List Bracket) (blocks : List (List Block)) → OwnersLive ls blocks → OwnersLive (at_enclosing f ls) blocks
enclosing_changed f keeps [] blocks h = h
enclosing_changed f keeps (l ∷ ls) [] h = tt
enclosing_changed f keeps (l ∷ ls) (b ∷ outer) h = (h.0, level_changed f keeps ls outer h.1)

record_owners : (f : ErrorRecord → ErrorRecord) (b : Bool) (ls : List Bracket) (blocks : List (List Block)) → OwnersLive ls blocks → OwnersLive (if b then at_enclosing (on_record f) ls else ls) blocks
record_owners f true ls blocks h = enclosing_changed (on_record f) (λ l. (refl, refl)) ls blocks h
record_owners f false ls blocks h = h

returned_owners : (ls : List Bracket) (blocks : List (List Block)) (b : Bool) → OwnersLive ls blocks → OwnersLive ls (if b then blocks else in_newest_bracket without_newest blocks)
returned_owners ls blocks true h = h
returned_owners ls blocks false h = top_changed without_newest ls blocks h

card_owners : (n : ℕ) (place : Place) (op : Op) (c : Core) → HasOwners c → HasOwners (own_card n place op c)
card_owners n place (ops.Link prog) c h = top_changed _ c.levels (with_place place c.blocks) (top_changed (with_newest_at place) c.levels c.blocks h)
card_owners n place (ops.Xctl prog) c h = top_changed _ c.levels c.blocks h
card_owners n place ops.Return c h = returned_owners c.levels c.blocks (has_one_block c.blocks) h
card_owners n place (ops.SetRp setrp) c h = top_changed (with_newest_at place) (after_setrp setrp c.levels) c.blocks (record_owners (setrp_in setrp) (recovers c.levels) c.levels c.blocks h)
card_owners n place (ops.Ret15 rc label) c h = top_changed (with_newest_at place) (after_ret15 rc label c.levels) c.blocks (record_owners (ret15_in rc label) (recovers c.levels) c.levels c.blocks h)
card_owners n place _ c h = top_changed (with_newest_at place) c.levels c.blocks h

landed_owners : (o : Option Abort) (c : Core) → HasOwners c → HasOwners (with_landed o c)
landed_owners None c h = h
landed_owners (Some abort) c h = level_changed (with_open (Some (landed_record abort))) (λ l. (refl, refl)) c.levels c.blocks h

entered_owners : (n : ℕ) (bare : Bool) (o : Option Reg) (c : Core) → OwnerIn o (newest_bracket c.blocks) → HasOwners c → HasOwners (with_routine_entered n bare o c)
entered_owners n bare None c own h = h
entered_owners n bare (Some reg) c own h = (own, h)

-- a routine is left
popped_owners : (verdict : Verdict) (ls : List Bracket) (blocks : List (List Block)) → OwnersLive ls blocks → OwnersLive (after_leave verdict ls) (without_bracket blocks)
popped_owners verdict [] blocks h = tt
popped_owners verdict (l ∷ ls) [] h = none (at_innermost (after_verdict verdict l.error) ls)
popped_owners verdict (l ∷ ls) (b ∷ outer) h = level_changed (after_verdict verdict l.error) (verdict_keeps verdict l.error) ls outer h.1

retried_owners : (verdict : Verdict) (o : Option Reg) (c : Core) → HasOwners c → HasOwners (after_retry verdict o c)
retried_owners (Retry place) None c h = h
retried_owners (Retry place) (Some reg) c h = top_changed (with_newest_at place) c.levels (cut_to _ c.blocks) (top_changed _ c.levels c.blocks h)
retried_owners Perc o c h = h
retried_owners _ o c h = h

-- An ESTAE routine that is entered is one of the innermost bracket, whose owner lives there

same_birth : (xs : List Reg) (n : ℕ) → Falls Reg.born n xs → (x y : Reg) → IsIn x xs → IsIn y xs → x.born ≡ y.born → x ≡ y
same_birth [] n f x y h i e = absurd h
same_birth (z ∷ zs) n f x y (inl a) (inl b) e = a ∙ sym b
same_birth (z ∷ zs) n f x y (inl a) (inr j) e = let less = falls_in Reg.born z.born zs y f.1 j in absurd (omega (arith, less, e, ap Reg.born a))
same_birth (z ∷ zs) n f x y (inr h) (inl b) e = let less = falls_in Reg.born z.born zs x f.1 h in absurd (omega (arith, less, e, ap Reg.born b))
same_birth (z ∷ zs) n f x y (inr h) (inr j) e = same_birth zs z.born f.1 x y h j e

-- what is found passes the test
passes_if : {X : Type 0} (p : X → Bool) (y : X) (ys : List X) (x : X) (b : Bool) → p y ≡ b → cond b (Some y) (find p ys) ≡ Some x → (find p ys ≡ Some x → p x ≡ true) → p x ≡ true
passes_if p y ys x true e f more = let same : y ≡ x = cc in subst (λ z. p z ≡ true) same e
passes_if p y ys x false e f more = more f

passes : {X : Type 0} (p : X → Bool) (xs : List X) (x : X) → find p xs ≡ Some x → p x ≡ true
passes p [] x e = absurd cc
passes p (y ∷ ys) x e = passes_if p y ys x (p y) refl e (passes p ys x)

-- of the routines that are eligible the ESTAE routine is one of the innermost bracket
frr_no : (d : DeckView) (n : ℕ) (c : Core) (term : Bool) (reg : Reg) → IsCoreSound d n c → reg.kind ≡ Estae → next_frr (depth_in c.levels) term c.frrs ≡ Some reg → ⊥
frr_no d n c true reg s kind e = cc
frr_no d n c false reg s kind e =
    let is_frr : reg.kind ≡ Frr = (all_in (IsRoutine d Frr) c.frrs s.frrs reg (found_in (is_of_depth (depth_in c.levels)) c.frrs reg e)).kind_is in
    let clash : Frr ≡ Estae = sym is_frr ∙ kind in
    cc

estai_no : (d : DeckView) (n : ℕ) (c : Core) (term b : Bool) (reg : Reg) → IsCoreSound d n c → reg.kind ≡ Estae → (if b then next_estai term c.estais else None) ≡ Some reg → ⊥
estai_no d n c term false reg s kind e = cc
estai_no d n c term true reg s kind e =
    let is_estai : reg.kind ≡ Estai = (all_in (IsRoutine d Estai) c.estais s.estais reg (found_in (is_admitted term) c.estais reg e)).kind_is in
    let clash : Estai ≡ Estae = sym is_estai ∙ kind in
    cc

given : (a b : Option Reg) (reg : Reg) → value_or a b ≡ Some reg → (a ≡ Some reg) ⊎ (b ≡ Some reg)
given None b reg e = inr e
given (Some x) b reg e = inl e

estae_here : (d : DeckView) (n : ℕ) (c : Core) (r : ErrorRecord) (reg : Reg) → IsCoreSound d n c → reg.kind ≡ Estae → eligible_routine c r ≡ Some reg → IsIn reg c.estaes × (reg.depth ≡ depth_in c.levels)
estae_here d n c r reg s kind e =
    let test : Reg → Bool = λ x. is_of_depth (depth_in c.levels) x && is_admitted r.flags.term_only x in
    elim (given (next_frr (depth_in c.levels) r.flags.term_only c.frrs) _ reg e) [
      | inl frr ↦ absurd (frr_no d n c r.flags.term_only reg s kind frr)
      | inr more ↦ elim (given (next_estae (depth_in c.levels) r.flags.term_only c.estaes) _ reg more) [
        | inl found ↦ (found_in test c.estaes reg found, eqb-true reg.depth (depth_in c.levels) (and_parts (is_of_depth (depth_in c.levels) reg) (is_admitted r.flags.term_only reg) (passes test c.estaes reg found)).0)
        | inr estai ↦ absurd (estai_no d n c r.flags.term_only (depth_in c.levels == 0) reg s kind estai)
      ]
    ]

top_of : (P : List Block → Type 0) (blocks : List (List Block)) → P (slice_index_or blocks 0 []) → P (newest_bracket blocks)
top_of P [] h = h
top_of P (b ∷ outer) h = h

owner_of : (c : Core) (reg : Reg) → HasOwner (depth_in c.levels) c.blocks reg → reg.depth ≡ depth_in c.levels → is_some (find (is_block_of reg.owner) (newest_bracket c.blocks)) ≡ true
owner_of c reg h e =
    let zero_is : depth_in c.levels - reg.depth ≡ 0 = omega (arith, e) in
    top_of (λ bs. IsSome (find (is_block_of reg.owner) bs)) c.blocks (subst (λ (k : ℕ). IsSome (find (is_block_of reg.owner) (slice_index_or c.blocks k []))) zero_is h)

-- the routine that the entry names, of those that have its birth
started_by : (d : DeckView) (n : ℕ) (c : Core) (r : ErrorRecord) (kind : Kind) (born : ℕ) (reg : Reg) → IsCoreSound d n c → (o : Option Reg) → eligible_routine c r ≡ o
    → IsSomeAnd o (λ routine. (kind ≡ routine.kind) × (born ≡ routine.born)) → kind ≡ Estae → routine_born_at born c.estaes ≡ Some reg
    → is_some (find (is_block_of reg.owner) (newest_bracket c.blocks)) ≡ true
started_by d n c r kind born reg s None e begun is found = absurd begun
started_by d n c r kind born reg s (Some routine) e begun is found =
    let here = estae_here d n c r routine s (sym begun.0 ∙ is) e in
    let there = found_in (λ (x : Reg). x.born == born) c.estaes reg found in
    let birth : reg.born ≡ born = eqb-true reg.born born (passes (λ (x : Reg). x.born == born) c.estaes reg found) in
    let same : reg ≡ routine = same_birth c.estaes n (falls n (depth_in c.levels) c.estaes s.estaes_fall) reg routine there here.0 (birth ∙ begun.1) in
    let depth : reg.depth ≡ depth_in c.levels = ap Reg.depth same ∙ here.1 in
    owner_of c reg (all_in (HasOwner (depth_in c.levels) c.blocks) c.estaes s.owned reg there) depth

started : (d : DeckView) (n : ℕ) (c : Core) (kind : Kind) (born : ℕ) (reg : Reg) → IsCoreSound d n c → IsStarted c kind born → kind ≡ Estae → routine_born_at born c.estaes ≡ Some reg
    → is_some (find (is_block_of reg.owner) (newest_bracket c.blocks)) ≡ true
started d n c kind born reg s (inl manager) is found = let clash : Mgr ≡ Estae = sym manager ∙ is in absurd cc
started d n c kind born reg s (inr (r, begun)) is found = started_by d n c r kind born reg s (eligible_routine c r) refl begun is found

owner_if : (o : Option Reg) (blocks : List Block) → ((reg : Reg) → o ≡ Some reg → reg.kind ≡ Estae → is_some (find (is_block_of reg.owner) blocks) ≡ true) → OwnerIn o blocks
owner_if None blocks h = tt
owner_if (Some reg) blocks h = h reg refl

-- the routine of a kind has that kind
named_kind : (d : DeckView) (n : ℕ) (w : World) (kind : Kind) (born : ℕ) (c : Core) (reg : Reg) → routine_named kind born w.managers c ≡ Some reg → reg.kind ≡ kind
    → reg.kind ≡ Estae → routine_born_at born c.estaes ≡ Some reg
named_kind d n w Estae born c reg e same is = e
named_kind d n w Frr born c reg e same is = let clash : Frr ≡ Estae = sym same ∙ is in absurd cc
named_kind d n w Estai born c reg e same is = let clash : Estai ≡ Estae = sym same ∙ is in absurd cc
named_kind d n w Mgr born c reg e same is = let clash : Mgr ≡ Estae = sym same ∙ is in absurd cc

some_kind : (o : Option Reg) (kind : Kind) (P : Reg → Type 0) → IsSomeAnd o (λ routine. (routine.kind ≡ kind) × P routine) → (reg : Reg) → o ≡ Some reg → reg.kind ≡ kind
some_kind None kind P h reg e = absurd cc
some_kind (Some x) kind P h reg e = let same : x ≡ reg = cc in subst (λ (y : Reg). y.kind ≡ kind) same h.0

enter_facts : (o : Option Reg) (kind : Kind) (born : ℕ) (c : Core) (programs : ℕ) → IsSomeAnd o (λ routine. (routine.kind ≡ kind) × (routine.born ≡ born) × CanEnter c (is_manager kind) routine.prog programs)
    → IsSomeAnd o (λ routine. (routine.kind ≡ kind) × ((routine.born ≡ born) × CanEnter c (is_manager kind) routine.prog programs))
enter_facts None kind born c programs h = h
enter_facts (Some routine) kind born c programs h = (h.0, (h.1, h.2))

-- a bracket that nothing encloses asks nothing
only : (blocks : List (List Block)) → OwnersLive outermost_alone blocks
only [] = tt
only (b ∷ outer) = (tt, tt)

-- Each entry

module _ (d : DeckView) (w : World) (n u : ℕ) where
  abbrev All : World → Type 0
  All w2 = (v : ℕ) → HasOwners (core_at v w2)

  by_own : (what : What) → IsMade d w n (record { unit = u; what = what }) → HasOwners (core_at u w)
      → HasOwners (own_entry d n w.managers (UnitOfWork.pending (unit_at u w.units)) what (core_at u w))
  by_own (whats.Exec at rc) m h = card_owners n (place_after d at rc (op_at d at.prog at.op)) (op_at d at.prog at.op) (core_at u w) h
  by_own (whats.Error at mark) m h = level_changed (with_open (Some (error_record (Core.doomed (core_at u w)) mark (op_at d at.prog at.op)))) (λ l. (refl, refl)) (Core.levels (core_at u w)) (Core.blocks (core_at u w)) h
  by_own (whats.Land class from mark) m h = landed_owners (abort_named class from (UnitOfWork.pending (unit_at u w.units))) (core_at u w) h
  by_own (whats.Enter kind reg mark bare) m h =
      let c : Core = core_at u w in
      entered_owners n bare (routine_named kind reg w.managers c) c
      (owner_if (routine_named kind reg w.managers c) (newest_bracket c.blocks)
      (λ routine e is.
      let same = some_kind (routine_named kind reg w.managers c) kind (λ r. (r.born ≡ reg) × CanEnter c (is_manager kind) r.prog (length d.programs)) (enter_facts (routine_named kind reg w.managers c) kind reg c (length d.programs) m.can.what.0) routine e in
      started d n c kind reg routine (IsSound.cores m.sound u) (outcome_of d w u (whats.Enter kind reg mark bare) m.may) (sym same ∙ is) (named_kind d n w kind reg c routine e same is))) h
  by_own (whats.Leave kind reg verdict logrec dump) m h =
      let c : Core = core_at u w in
      retried_owners verdict (current c.levels) (without_routine verdict (is_gone_after verdict (record_in c.levels)) kind reg (with_bracket_closed verdict c)) (popped_owners verdict c.levels c.blocks h)
  by_own (whats.Begin code dump) m h = tt
  by_own _ m h = h

  born_owners : (v unit : ℕ) → IsSound d n w → unit < length d.units → is_dormant (life_of unit (Tree.lives w.tree)) ≡ true → v ≡ unit → (born prog : ℕ) (estais : List Reg) → HasOwners (born_core born prog estais (core_at v w))
  born_owners v unit s named dormant same born prog estais =
      let was : Core.levels (core_at v w) ≡ outermost_alone = ap (λ (i : ℕ). Core.levels (core_at i w)) same ∙ ap Core.levels (was_unborn d w n unit s named dormant) in
      subst (λ (ls : List Bracket). OwnersLive ls (with_bracket born prog (Core.blocks (core_at v w)))) (sym was) (only (with_bracket born prog (Core.blocks (core_at v w))))

  card_other : (v rc : ℕ) (op : Op) (after : Core) → IsSound d n w → NamesUnit d op → CanExecute w u rc op → BirthOr d w n u v rc op after (core_at v w) → HasOwners (core_at v w) → HasOwners after
  card_other v rc (ops.Attachx unit estai term) after s named can (inl born) h = subst HasOwners (sym born.core) (born_owners v unit s named (can born.rc_is) born.unit_is (block_birth n) (program_of d unit) (inherited_estais (new_estai n term estai) (Core.estais (core_at u w))))
  card_other v rc (ops.Attachx unit estai term) after s named can (inr kept) h = subst HasOwners (sym kept.core) h
  card_other v rc (ops.Schedule unit) after s named can (inl born) h = subst HasOwners (sym born.core) (born_owners v unit s named (can born.rc_is) born.unit_is (block_birth n) (program_of d unit) [])
  card_other v rc (ops.Schedule unit) after s named can (inr kept) h = subst HasOwners (sym kept.core) h
  card_other v rc _ after s named can k h = subst HasOwners (sym k) h

  by_other : (v : ℕ) (what : What) → IsMade d w n (record { unit = u; what = what }) → (after : Core) → After d w n u v what after (core_at v w) → HasOwners (core_at v w) → HasOwners after
  by_other v (whats.Exec at rc) m after k h = card_other v rc (op_at d at.prog at.op) after m.sound (unit_named d m.deck at.prog at.op) m.can.what.1 k h
  by_other v (whats.Purge unit) m after (inl is) h = subst HasOwners (sym is.1) tt
  by_other v (whats.Purge unit) m after (inr kept) h = subst HasOwners (sym kept.1) h
  by_other v _ m after k h = subst HasOwners (sym k) h

  entry_if : (what : What) → IsMade d w n (record { unit = u; what = what }) → All w → (v : ℕ) (b : Bool) → (v == u) ≡ b → HasOwners (core_at v (advance d w n (record { unit = u; what = what })))
  entry_if what m h v true e = let same = eqb-true v u e in subst HasOwners (sym (core_here d w n u v what m same)) (by_own what m (h u))
  entry_if what m h v false e = by_other v what m _ (core_there d w n u v what m (eqb-false v u e)) (h v)

  pub entry_owners : (what : What) → IsMade d w n (record { unit = u; what = what }) → All w → All (advance d w n (record { unit = u; what = what }))
  entry_owners what m h v = entry_if what m h v (v == u) refl

-- at the start nothing runs
start_if : (d : DeckView) (v : ℕ) (c : Core) → c ≡ core_at v (start d) → c.levels ≡ outermost_alone → HasOwners c
start_if d v c e alone = subst (λ (ls : List Bracket). OwnersLive ls c.blocks) (sym alone) (only c.blocks)

pub start_owners : (d : DeckView) (v : ℕ) → HasOwners (core_at v (start d))
start_owners d v = start_if d v (core_at v (start d)) refl (levels_at_start d v)
