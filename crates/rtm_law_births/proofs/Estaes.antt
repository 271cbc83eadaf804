-- Births and deaths of ESTAE routines, entry by entry.
use Rattle.std.proofs.Common.{◌≡◌, ℕ, zero, suc, ◌<◌, ◌≤◌, ◌+◌, ◌-◌, Bool, true, false, cond, not, ◌||◌, List, [], ◌∷◌, ◌++◌, length, Option, Some, None, refl, sym, ap, subst, arith, inl, inr, ◌⊎◌, ◌∙◌}
use Rattle.std.proofs.lemmas.Bool.{eq-eqb, eqb-true, leb-false, leb-true}
use Rattle.std.specs.Option.{option_map_or}
use Rattle.std.specs.Prelude.{IsSome, IsSomeAnd, filter, find, if◌then◌else◌, is_some, map, nat_le, slice_index_or, ◌==◌}
use Rattle.rtm_deck_items.specs.Reading.{job_step, op_at, program_of}
use Rattle.rtm_deck_items.specs.View.{DeckView}
use Rattle.rtm_deck_items.specs.declared.op.Op.{Op}
use Rattle.rtm_deck_items.specs.declared.op.Op.TheVariants as ops
use Rattle.rtm_model.specs.declared.abort.Abort.{Abort}
use Rattle.rtm_model.specs.declared.block.Block.{Block}
use Rattle.rtm_model.specs.declared.block.Place.{Place}
use Rattle.rtm_model.specs.declared.entry.Entry.{Entry}
use Rattle.rtm_model.specs.declared.entry.Verdict.{Verdict}
use Rattle.rtm_model.specs.declared.entry.Verdict.TheVariants.{Perc, Retry}
use Rattle.rtm_model.specs.declared.entry.What.{What}
use Rattle.rtm_model.specs.declared.entry.What.TheVariants as whats
use Rattle.rtm_model.specs.declared.outcome.Outcome.TheVariants.{Executed}
use Rattle.rtm_model.specs.declared.reg.Kind.{Kind}
use Rattle.rtm_model.specs.declared.reg.Kind.TheVariants.{Estae, Estai, Frr, Mgr}
use Rattle.rtm_model.specs.declared.reg.Reg.{Reg}
use Rattle.rtm_model.specs.Aborts.{abort_named}
use Rattle.rtm_model.specs.Births.{new_estae}
use Rattle.rtm_model.specs.OwnChange.{after_retry, is_estae, is_gone_after, own_card, own_entry, place_after, routine_named, with_bracket_closed, with_landed, with_routine_entered, with_routine_left, without_newer_owners, without_routine}
use Rattle.rtm_model.specs.Blocks.{is_block_of, newest_birth, newest_bracket, without_bracket}
use Rattle.rtm_model.specs.Cards.{is_deepest, newest_owned_here, row, too_many_estaes}
use Rattle.rtm_model.specs.Chains.{if_of_owner, is_of_depth, is_of_owner, newest_of, with_in_place, without_depth, without_first}
use Rattle.rtm_model.specs.Legal.{Legal}
use Rattle.rtm_model.specs.Levels.{current, depth_in, record_in}
use Rattle.rtm_model.specs.Moments.{IsIn, before}
use Rattle.rtm_model.specs.NextEntry.{retry_birth}
use Rattle.rtm_model.specs.Surroundings.{surroundings_at}
use Rattle.rtm_model.specs.inner.Soundness.{BlocksFall, BracketsFall, HasOwner, IsCoreSound, IsSound, RoutinesFall, oldest_or}
use Rattle.rtm_model.specs.World.{Core, UnitOfWork, World, at_birth, core_at, start, unborn_unit, unit_at}
use Rattle.rtm_model.proofs.Units.{unit_same}
use Rattle.rtm_model.proofs.Start.{all_unborn}
use Rattle.rtm_model.specs.Limits.{most_estaes}
use Rattle.rtm_law_births.specs.Estaes.{AreTheEstaes, CardKills, CardMakes, EntryKills, EntryMakes, OwnerDies, estaes}
use Rattle.rtm_law_births.specs.RequestBlocks.{CardKills as BlockCardKills, IsRunning, VerdictKills}
use Rattle.rtm_law_births.specs.Routines.{IsItsLeave, UnitRoutine}
use Rattle.rtm_law_births.proofs.BlockEntries.{oldest_below}
use Rattle.rtm_law_births.proofs.Histories.{before-all}
use Rattle.rtm_law_births.proofs.Lists.{all_in, filter_in, in_filter}
use Rattle.rtm_law_births.proofs.LiveBlocks.{its_kind, owners_before, some_current, there_by}
use Rattle.rtm_law_births.proofs.Living.{Changes, IsMade, Moves, deaths, living_by, made_at, said_by, unmoved}
use Rattle.rtm_law_births.proofs.Numbers.{differs, other}
use Rattle.rtm_law_births.proofs.Outcomes.{IsVerdictOf, deep_rc, outcome_of, row_of, there_rc, verdict_of, zero_there}
use Rattle.rtm_law_births.proofs.Owned.{unit_own_moves}
use Rattle.rtm_law_births.proofs.RequestBlocks.{found_below}
use Rattle.rtm_law_births.proofs.Routines.{depth_gone, falls, first_gone, left_moves, no_over, no_stop, replaced}
use Rattle.rtm_law_births.proofs.RunningOwners.{HasOwners}
use Rattle.rtm_law_births.proofs.Sound.{IsSoundHistory}

-- Where a request block stands, by its birth

-- found in some bracket, it was born below the number
below_at : (n r : ℕ) (bss : List (List Block)) (i : ℕ) → BracketsFall n bss → is_some (find (is_block_of r) (slice_index_or bss i [])) ≡ true → r < n
below_at n r [] zero f h = absurd cc
below_at n r [] (suc i) f h = absurd cc
below_at n r (bs ∷ outer) zero f h = found_below n r bs f.0 h
below_at n r (bs ∷ outer) (suc i) f h = omega (arith, below_at (oldest_or n bs) r outer i f.1 h, oldest_below n bs f.0)

-- found in a bracket, it is no older than its oldest
old_if : (r : ℕ) (b : Block) (bs : List Block) → BlocksFall b.born bs → (t : Bool) → is_block_of r b ≡ t → (is_some (find (is_block_of r) bs) ≡ true → oldest_or b.born bs ≤ r) → is_some (cond t (Some b) (find (is_block_of r) bs)) ≡ true → oldest_or b.born bs ≤ r
old_if r b bs f true e more h = let is : b.born ≡ r = eqb-true b.born r e in omega (arith, is, oldest_below b.born bs f)
old_if r b bs f false e more h = more h

found_old : (n m r : ℕ) (bs : List Block) → BlocksFall n bs → is_some (find (is_block_of r) bs) ≡ true → oldest_or m bs ≤ r
found_old n m r [] f h = absurd cc
found_old n m r (b ∷ bs) f h = old_if r b bs f.1 (is_block_of r b) refl (found_old b.born b.born r bs f.1) h

-- the owner of a routine of an outer bracket is older than the request block that runs
older_owner : (n owner : ℕ) (bss : List (List Block)) (i : ℕ) → BracketsFall n bss → 1 ≤ length (newest_bracket bss) → is_some (find (is_block_of owner) (slice_index_or bss (suc i) [])) ≡ true → owner < newest_birth bss
older_owner n owner [] i f some h = absurd cc
older_owner n owner ([] ∷ outer) i f some h = absurd (omega (arith, some))
older_owner n owner ((b ∷ older) ∷ outer) i f some h = omega (arith, below_at (oldest_or b.born older) owner outer i f.1 h, oldest_below b.born older f.0.1)

index_is : (bss : List (List Block)) (owner i j : ℕ) → i ≡ j → is_some (find (is_block_of owner) (slice_index_or bss i [])) ≡ true → is_some (find (is_block_of owner) (slice_index_or bss j [])) ≡ true
index_is bss owner i j e h = subst (λ (k : ℕ). is_some (find (is_block_of owner) (slice_index_or bss k [])) ≡ true) e h

-- so a routine whose owner runs is one of the innermost bracket
owner_here : (n t depth owner : ℕ) (bss : List (List Block)) → BracketsFall n bss → 1 ≤ length (newest_bracket bss) → depth ≤ t → is_some (find (is_block_of owner) (slice_index_or bss (t - depth) [])) ≡ true → owner ≡ newest_birth bss → (i : ℕ) → t - depth ≡ i → depth ≡ t
owner_here n t depth owner bss f some le h same zero e = omega (arith, le, e)
owner_here n t depth owner bss f some le h same (suc i) e = absurd (omega (arith, same, older_owner n owner bss i f some (index_is bss owner (t - depth) (suc i) e h)))

-- and one of a bracket further out than the next has an owner that is older than all of the next one
far_owner : (n r owner : ℕ) (bss : List (List Block)) (i : ℕ) → BracketsFall n bss → ((obs : List Block) (rest : List (List Block)) → without_bracket bss ≡ obs ∷ rest → is_some (find (is_block_of r) obs) ≡ true) → is_some (find (is_block_of owner) (slice_index_or bss (suc (suc i)) [])) ≡ true → owner < r + 1
far_owner n r owner [] i f there h = absurd cc
far_owner n r owner (bs ∷ []) i f there h = absurd cc
far_owner n r owner (bs ∷ obs ∷ rest) i f there h =
    omega (arith, below_at (oldest_or (oldest_or n bs) obs) owner rest i f.1.1 h, found_old (oldest_or n bs) (oldest_or n bs) r obs f.1.0 (there obs rest refl))

next_out : (n t depth owner r : ℕ) (bss : List (List Block)) → BracketsFall n bss → ((obs : List Block) (rest : List (List Block)) → without_bracket bss ≡ obs ∷ rest → is_some (find (is_block_of r) obs) ≡ true)
    → depth ≤ t → (depth ≡ t → ⊥) → r < owner → is_some (find (is_block_of owner) (slice_index_or bss (t - depth) [])) ≡ true → (i : ℕ) → t - depth ≡ i → depth + 1 ≡ t
next_out n t depth owner r bss f there le other newer h zero e = absurd (other (omega (arith, le, e)))
next_out n t depth owner r bss f there le other newer h (suc zero) e = omega (arith, le, e)
next_out n t depth owner r bss f there le other newer h (suc (suc i)) e = absurd (omega (arith, newer, far_owner n r owner bss i f there (index_is bss owner (t - depth) (suc (suc i)) e h)))

-- a routine's bracket is no deeper than the innermost
no_deeper : (n t : ℕ) (regs : List Reg) → RoutinesFall n t regs → (reg : Reg) → IsIn reg regs → reg.depth ≤ t
no_deeper n t [] f reg h = absurd h
no_deeper n t (x ∷ xs) f reg (inl same) = omega (arith, f.1, ap Reg.depth same)
no_deeper n t (x ∷ xs) f reg (inr h) = let less = no_deeper x.born x.depth xs f.2 reg h in omega (arith, f.1, less)

-- Lists that were filtered, where the elements are known

sifted : {X : Type 0} (p : X → Bool) (xs : List X) (x : X) (K : Type 0) → (IsIn x xs → p x ≡ true → K → ⊥) → (IsIn x xs → (K → ⊥) → p x ≡ true) → Moves (IsIn x (filter p xs)) (IsIn x xs) ⊥ K
sifted p xs x K dead alive = record {
  came = λ h. let there = in_filter p xs x h in inr (there.0, dead there.0 there.1);
  born = λ h. absurd h;
  stays = λ h k. filter_in p xs x h (alive h k);
}

-- The newest of the bracket, of an owner

owned_by : (x : Reg) (t : Bool) → is_some (if t then Some x else None) ≡ true → ((if t then Some x else None) ≡ Some x) × (is_some (Some x) ≡ true)
owned_by x true h = (refl, refl)
owned_by x false h = absurd cc

some_of : (o : Option Reg) (reg : Reg) → o ≡ Some reg → is_some o ≡ true
some_of o reg e = ap is_some e

-- where the newest is owned, it is the one that is found
is_owned : (owner : ℕ) (o : Option Reg) → is_some (if_of_owner owner o) ≡ true → (if_of_owner owner o ≡ o) × (is_some o ≡ true)
is_owned owner None h = absurd cc
is_owned owner (Some x) h = owned_by x (is_of_owner owner x) h

module _ (n : ℕ) (c : Core) (reg : Reg) (fall : RoutinesFall n (depth_in c.levels) c.estaes) where
  overlay_if : (new : Reg) (t : Bool) → is_some (newest_owned_here c) ≡ t
      → Moves (IsIn reg (if t then with_in_place (is_of_depth (depth_in c.levels)) new c.estaes else c.estaes)) (IsIn reg c.estaes) ((reg ≡ new) × (is_some (newest_owned_here c) ≡ true)) (newest_owned_here c ≡ Some reg)
  overlay_if new true e =
      let owned = is_owned (newest_birth c.blocks) (newest_of (depth_in c.levels) c.estaes) e in
      said_by (λ h. h) (λ h. h) (λ h. h) (λ h. h) (λ h. (h.0, e)) (λ h. (h.0, owned.1)) (λ k. owned.0 ∙ k) (λ k. sym owned.0 ∙ k)
      (replaced Reg.born (is_of_depth (depth_in c.levels)) new c.estaes n (falls n (depth_in c.levels) c.estaes fall) reg)
  overlay_if new false e =
      unmoved (λ h. h) (λ h. h) (λ h. let t : true ≡ false = sym h.1 ∙ e in absurd cc) (λ k. let t : true ≡ false = sym (some_of (newest_owned_here c) reg k) ∙ e in absurd cc)

  cancel_if : (t : Bool) → is_some (newest_owned_here c) ≡ t
      → Moves (IsIn reg (if t then without_first (is_of_depth (depth_in c.levels)) c.estaes else c.estaes)) (IsIn reg c.estaes) ⊥ (newest_owned_here c ≡ Some reg)
  cancel_if true e =
      let owned = is_owned (newest_birth c.blocks) (newest_of (depth_in c.levels) c.estaes) e in
      said_by (λ h. h) (λ h. h) (λ h. h) (λ h. h) (λ h. h) (λ h. h) (λ k. owned.0 ∙ k) (λ k. sym owned.0 ∙ k)
      (first_gone Reg.born (is_of_depth (depth_in c.levels)) c.estaes n (falls n (depth_in c.levels) c.estaes fall) reg)
  cancel_if false e = unmoved (λ h. h) (λ h. h) (λ h. h) (λ k. let t : true ≡ false = sym (some_of (newest_owned_here c) reg k) ∙ e in absurd cc)

not_or : (a b : Bool) → (not a || b) ≡ true → a ≡ true → b ≡ false → ⊥
not_or true true h e f = absurd cc
not_or true false h e f = absurd cc
not_or false b h e f = absurd cc

or_not : (a b : Bool) → ((a ≡ true) → (b ≡ false) → ⊥) → (not a || b) ≡ true
or_not true true h = refl
or_not true false h = absurd (h refl refl)
or_not false b h = refl

module _ (d : DeckView) (n : ℕ) (c : Core) (sound : IsCoreSound d n c) (reg : Reg) where
  -- the owner that runs
  runs_of : 1 ≤ length (newest_bracket c.blocks) → IsIn reg c.estaes → reg.owner ≡ newest_birth c.blocks → IsRunning c reg.depth reg.owner
  runs_of some h same = (
    owner_here (n + 1) (depth_in c.levels) reg.depth reg.owner c.blocks sound.births some (no_deeper n (depth_in c.levels) c.estaes sound.estaes_fall reg h)
        (all_in (HasOwner (depth_in c.levels) c.blocks) c.estaes sound.owned reg h) same (depth_in c.levels - reg.depth) refl,
    same,
  )

  -- each card; the request block that made it dies by RETURN alone
  card : (w : World) (u rc : ℕ) (place : Place) (op : Op) → row c (surroundings_at d w u op) op ≡ Executed rc → 1 ≤ length (newest_bracket c.blocks)
      → Moves (IsIn reg (Core.estaes (own_card n place op c))) (IsIn reg c.estaes) (CardMakes n c rc op reg) (CardKills c rc op reg ⊎ BlockCardKills c op reg.depth reg.owner)
  card w u rc place (ops.EstaexCt prog term cancel xctl) e some = record {
    came = λ h. elim h [ inl same ↦ inl (deep_rc (is_deepest c.levels) (length c.estaes == most_estaes) too_many_estaes rc e, same) | inr there ↦ inr (there, λ k. elim k [ inl none ↦ none | inr none ↦ none ]) ];
    born = λ h. inl h.1;
    stays = λ h k. inr h;
  }
  card w u rc place (ops.EstaexOv prog term cancel xctl) e some =
      said_by (λ h. h) (λ h. h) (λ h. h) (λ h. h)
      (λ h. (there_rc (is_some (newest_owned_here c)) 8 rc e h.1, h.0)) (λ h. (h.1, zero_there (is_some (newest_owned_here c)) 7 rc e h.0))
      (λ k. inl (there_rc (is_some (newest_owned_here c)) 8 rc e (some_of (newest_owned_here c) reg k), k)) (λ k. elim k [ inl its ↦ its.1 | inr none ↦ absurd none ])
      (overlay_if n c reg sound.estaes_fall (new_estae n c prog term cancel xctl) (is_some (newest_owned_here c)) refl)
  card w u rc place ops.EstaexZero e some =
      said_by (λ h. h) (λ h. h) (λ h. h) (λ h. h) (λ h. h) (λ h. h)
      (λ k. inl (there_rc (is_some (newest_owned_here c)) 8 rc e (some_of (newest_owned_here c) reg k), k)) (λ k. elim k [ inl its ↦ its.1 | inr none ↦ absurd none ])
      (cancel_if n c reg sound.estaes_fall (is_some (newest_owned_here c)) refl)
  card w u rc place (ops.Xctl prog) e some =
      sifted (λ (r : Reg). not (is_of_owner (newest_birth c.blocks) r) || r.xctl) c.estaes reg _
      (λ there passes k. elim k [
        | inl its ↦ not_or (reg.owner == newest_birth c.blocks) reg.xctl passes (eq-eqb reg.owner (newest_birth c.blocks) its.0.1) its.1
        | inr none ↦ none
      ])
      (λ there alive. or_not (reg.owner == newest_birth c.blocks) reg.xctl (λ same no_xctl. alive (inl (runs_of some there (eqb-true reg.owner (newest_birth c.blocks) same), no_xctl))))
  card w u rc place ops.Return e some =
      sifted (λ (r : Reg). not (is_of_owner (newest_birth c.blocks) r)) c.estaes reg _
      (λ there passes k. elim k [ inl none ↦ none | inr runs ↦ other reg.owner (newest_birth c.blocks) passes runs.1 ])
      (λ there alive. differs reg.owner (newest_birth c.blocks) (λ same. alive (inr (runs_of some there same))))
  card w u rc place _ e some = unmoved (λ h. h) (λ h. h) (λ h. h) (λ k. elim k [ inl none ↦ none | inr none ↦ none ])

-- A routine is left

abbrev retry_list : Verdict → Option Reg → List (List Block) → List Reg → List Reg
retry_list (Retry place) (Some routine) bss regs = without_newer_owners (retry_birth routine bss) regs
retry_list _ o bss regs = regs

estaes_after : (verdict : Verdict) (o : Option Reg) (c : Core) → Core.estaes (after_retry verdict o c) ≡ retry_list verdict o c.blocks c.estaes
estaes_after (Retry place) None c = refl
estaes_after (Retry place) (Some routine) c = refl
estaes_after Perc o c = refl
estaes_after _ o c = refl

is_estae_of : (kind : Kind) → is_estae kind ≡ true → kind ≡ Estae
is_estae_of Estae e = refl
is_estae_of Frr e = absurd cc
is_estae_of Estai e = absurd cc
is_estae_of Mgr e = absurd cc

le_if : (a b : ℕ) (t : Bool) → nat_le a b ≡ t → (b < a → ⊥) → t ≡ true
le_if a b true e h = refl
le_if a b false e h = absurd (h (leb-false a b e))

le_of : (a b : ℕ) → (b < a → ⊥) → nat_le a b ≡ true
le_of a b h = le_if a b (nat_le a b) refl h

-- a retry: the routines of the newer request blocks of the next bracket are gone
module _ (d : DeckView) (n : ℕ) (c : Core) (sound : IsCoreSound d n c) (reg : Reg) (regs : List Reg) (within : IsIn reg regs → IsIn reg c.estaes × (reg.depth ≡ depth_in c.levels → ⊥)) where
  cut_moves : (r : ℕ) → ((obs : List Block) (rest : List (List Block)) → without_bracket c.blocks ≡ obs ∷ rest → is_some (find (is_block_of r) obs) ≡ true)
      → Moves (IsIn reg (without_newer_owners r regs)) (IsIn reg regs) ⊥ ((reg.depth + 1 ≡ depth_in c.levels) × (r < reg.owner))
  cut_moves r there =
      sifted (λ (x : Reg). nat_le x.owner r) regs reg _
      (λ h passes k. let le = leb-true reg.owner r passes in omega (arith, le, k.1))
      (λ h alive. le_of reg.owner r (λ newer.
      let facts = within h in
      alive (
        next_out (n + 1) (depth_in c.levels) reg.depth reg.owner r c.blocks sound.births there (no_deeper n (depth_in c.levels) c.estaes sound.estaes_fall reg facts.0) facts.1 newer
            (all_in (HasOwner (depth_in c.levels) c.blocks) c.estaes sound.owned reg facts.0) (depth_in c.levels - reg.depth) refl,
        newer,
      )))

  retry_moves : (place : Place) (o : Option Reg) → IsSome o
      → ((routine : Reg) → o ≡ Some routine → (obs : List Block) (rest : List (List Block)) → without_bracket c.blocks ≡ obs ∷ rest → is_some (find (is_block_of (retry_birth routine (without_bracket c.blocks))) obs) ≡ true)
      → Moves (IsIn reg (retry_list (Retry place) o (without_bracket c.blocks) regs)) (IsIn reg regs) ⊥
      ((reg.depth + 1 ≡ depth_in c.levels) × (option_map_or (λ routine. retry_birth routine (without_bracket c.blocks)) o 0 < reg.owner))
  retry_moves place None some there = absurd cc
  retry_moves place (Some routine) some there = cut_moves (retry_birth routine (without_bracket c.blocks)) (there routine refl)

  verdict_moves_of : (verdict : Verdict) → HasOwners c → (kind : Kind) (routine : ℕ) → IsSomeAnd (current c.levels) (λ own. (own.kind ≡ kind) × (own.born ≡ routine)) → IsVerdictOf kind verdict
      → Moves (IsIn reg (retry_list verdict (current c.levels) (without_bracket c.blocks) regs)) (IsIn reg regs) ⊥ (VerdictKills c verdict reg.depth reg.owner)
  verdict_moves_of (Retry place) owners kind routine own fits =
      retry_moves place (current c.levels) (some_current (current c.levels) kind routine own)
      (λ reg2 e. there_by d place c.levels c.blocks reg2 owners sound.brackets (subst (λ (k : Kind). IsVerdictOf k (Retry place)) (sym (its_kind (current c.levels) kind routine own reg2 e)) fits) e)
  verdict_moves_of _ owners kind routine own fits = unmoved (λ h. h) (λ h. h) (λ h. h) (λ h. h)

stayed_in : {a b k : Type 0} → Moves a b ⊥ k → a → b × (k → ⊥)
stayed_in {a} {b} {k} m h = elim (m.came h) as (λ _. b × (k → ⊥)) [ inl none ↦ absurd none | inr stayed ↦ stayed ]

left : (d : DeckView) (n : ℕ) (c : Core) (sound : IsCoreSound d n c) (reg : Reg) → HasOwners c → (kind : Kind) (routine : ℕ) (verdict : Verdict) → IsSomeAnd (current c.levels) (λ own. (own.kind ≡ kind) × (own.born ≡ routine)) → IsVerdictOf kind verdict
    → Moves (IsIn reg (Core.estaes (with_routine_left kind routine verdict c))) (IsIn reg c.estaes) ⊥ (IsItsLeave c Estae reg kind routine verdict ⊎ ((reg.depth ≡ depth_in c.levels) ⊎ VerdictKills c verdict reg.depth reg.owner))
left d n c sound reg owners kind routine verdict own fits =
    let gone = is_gone_after verdict (record_in c.levels) in
    let inner : Core = without_routine verdict gone kind routine (with_bracket_closed verdict c) in
    let list = estaes_after verdict (current c.levels) inner in
    let not_mgr : kind ≡ Estae → kind ≡ Mgr → ⊥ = λ f m. let k : Estae ≡ Mgr = sym f ∙ m in absurd cc in
    let not_estai : kind ≡ Estae → kind ≡ Estai → ⊥ = λ f m. let k : Estae ≡ Estai = sym f ∙ m in absurd cc in
    let one = depth_gone (depth_in c.levels) c.estaes reg in
    let two = left_moves c Estae kind routine verdict (without_depth (depth_in c.levels) c.estaes) reg (is_estae kind) (is_estae_of kind) (λ e. ap is_estae e)
    (λ f. no_stop kind verdict fits (not_mgr f) (not_estai f)) (λ f. no_over kind verdict fits (not_mgr f)) in
    let three = verdict_moves_of d n c sound reg inner.estaes (λ h. stayed_in one (stayed_in two h).0) verdict owners kind routine own fits in
    said_by (λ h. subst (IsIn reg) (sym list) h) (λ h. subst (IsIn reg) list h) (λ h. h) (λ h. h) (λ h. h) (λ h. h)
    (λ k. elim k [ inl before ↦ elim before [ inl with_bracket_closed ↦ inr (inl with_bracket_closed) | inr its ↦ inl its ] | inr cut ↦ inr (inr cut) ])
    (λ k. elim k [ inl its ↦ inl (inr its) | inr block ↦ elim block [ inl with_bracket_closed ↦ inl (inl with_bracket_closed) | inr cut ↦ inr cut ] ])
    (deaths (deaths one two) three)

-- Each entry

estaes_landed : (abort : Option Abort) (c : Core) → Core.estaes (with_landed abort c) ≡ c.estaes
estaes_landed None c = refl
estaes_landed (Some abort) c = refl

estaes_entered : (n : ℕ) (bare : Bool) (o : Option Reg) (c : Core) → Core.estaes (with_routine_entered n bare o c) ≡ c.estaes
estaes_entered n bare None c = refl
estaes_entered n bare (Some reg) c = refl

neither : ⊥ ⊎ ⊥ → ⊥
neither (inl none) = none
neither (inr none) = none

kept_list : (reg : Reg) (before after : List Reg) → after ≡ before → Moves (IsIn reg after) (IsIn reg before) ⊥ (⊥ ⊎ ⊥)
kept_list reg before after e = unmoved (λ h. subst (IsIn reg) e h) (λ h. subst (IsIn reg) (sym e) h) (λ h. h) neither

module _ (d : DeckView) (w : World) (n u : ℕ) (x : UnitRoutine) (owners : (v : ℕ) → HasOwners (core_at v w)) where
  by_own : (what : What) → IsMade d w n (record { unit = u; what = what })
      → Moves (IsIn x.reg (Core.estaes (own_entry d n w.managers (UnitOfWork.pending (unit_at u w.units)) what (core_at u w)))) (IsIn x.reg (Core.estaes (core_at u w)))
      (EntryMakes d n (core_at u w) what x.reg) (EntryKills d (core_at u w) what x.reg ⊎ OwnerDies d (core_at u w) what x.reg)
  by_own (whats.Exec at rc) m =
      let op : Op = op_at d at.prog at.op in
      card d n (core_at u w) (IsSound.cores m.sound u) x.reg w u rc (place_after d at rc op) op (row_of (core_at u w) (surroundings_at d w u op) op rc (outcome_of d w u (whats.Exec at rc) m.may)) m.can.what.0.some
  by_own (whats.Land class from mark) m = kept_list x.reg (Core.estaes (core_at u w)) _ (estaes_landed (abort_named class from (UnitOfWork.pending (unit_at u w.units))) (core_at u w))
  by_own (whats.Enter kind reg mark bare) m = kept_list x.reg (Core.estaes (core_at u w)) _ (estaes_entered n bare (routine_named kind reg w.managers (core_at u w)) (core_at u w))
  by_own (whats.Leave kind reg verdict logrec dump) m =
      left d n (core_at u w) (IsSound.cores m.sound u) x.reg (owners u) kind reg verdict m.can.what.own
      (verdict_of d (core_at u w) kind verdict (IsCoreSound.nested (IsSound.cores m.sound u)) (outcome_of d w u (whats.Leave kind reg verdict logrec dump) m.may))
  by_own (whats.Begin code dump) m = record { came = λ h. absurd h; born = λ h. absurd h; stays = λ h alive. absurd (alive (inr tt)) }
  by_own _ m = unmoved (λ h. h) (λ h. h) (λ h. h) neither

  entry : (what : What) → IsMade d w n (record { unit = u; what = what }) → Changes estaes d w n (record { unit = u; what = what }) x
  entry what m =
      unit_own_moves d w n u x.unit what m (λ c. IsIn x.reg c.estaes) _ _ (λ c h. h) (λ born prog estais c h. h) (λ born prog estais c h. h) (λ same. by_own what m)

none_at_start : (d : DeckView) (v : ℕ) → Core.estaes (core_at v (start d)) ≡ []
none_at_start d v =
    unit_same (λ (unit : UnitOfWork). Core.estaes unit.core) (at_birth 0 (program_of d (job_step d)) []) (λ unit. refl) (job_step d) v (map (λ card. unborn_unit) d.units ++ unborn_unit ∷ [])
    ∙ ap (λ (unit : UnitOfWork). Core.estaes unit.core) (all_unborn d.units v)

-- each unit's list of ESTAE routines has those that live, newest first
pub estaes_live : (d : DeckView) (h : List Entry) → IsSoundHistory d h → Legal d h → AreTheEstaes d h
estaes_live d h sound legal = record {
  living = living_by estaes d h (λ x there. subst (IsIn x.reg) (none_at_start d x.unit) there) (λ x from. absurd from)
      (λ k e at le x. entry d (before d h k) k e.unit x (owners_before d h sound legal k le) e.what (made_at d h sound legal k e at le));
  order = λ u. subst (λ (w : World). RoutinesFall (length h) (depth_in (Core.levels (core_at u w))) (Core.estaes (core_at u w))) (before-all d h)
      (IsCoreSound.estaes_fall (IsSound.cores (sound.worlds (length h) (omega arith)) u));
}
