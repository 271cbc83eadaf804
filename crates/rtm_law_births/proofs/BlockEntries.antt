-- Births and deaths of request blocks, and their places, entry by entry.
use Rattle.std.proofs.Common.{◌≡◌, ℕ, suc, ◌<◌, ◌≤◌, ◌+◌, ◌-◌, Bool, true, false, cond, ◌&&◌, List, [], ◌∷◌, length, Option, Some, None, refl, sym, ap, subst, arith, inl, inr, ◌⊎◌, ◌∙◌}
use Rattle.std.proofs.lemmas.Bool.{eq-eqb}
use Rattle.std.proofs.lemmas.Bool.Decides.{nat_tests}
use Rattle.std.specs.List.{last_or}
use Rattle.std.specs.Prelude.{find, if◌then◌else◌, is_some, ◌==◌}
use Rattle.rtm_deck_items.specs.View.{DeckView}
use Rattle.rtm_deck_items.specs.declared.op.Op.{Op}
use Rattle.rtm_deck_items.specs.declared.op.Op.TheVariants as ops
use Rattle.rtm_model.specs.declared.abort.Abort.{Abort}
use Rattle.rtm_model.specs.declared.block.Block.{Block}
use Rattle.rtm_model.specs.declared.block.Place.{Place}
use Rattle.rtm_model.specs.declared.entry.Verdict.{Verdict}
use Rattle.rtm_model.specs.declared.entry.Verdict.TheVariants.{Perc, Retry}
use Rattle.rtm_model.specs.declared.outcome.Outcome.TheVariants.{Executed}
use Rattle.rtm_model.specs.declared.reg.Kind.{Kind}
use Rattle.rtm_model.specs.declared.reg.Kind.TheVariants.{Estae, Estai, Frr, Mgr}
use Rattle.rtm_model.specs.declared.reg.Reg.{Reg}
use Rattle.rtm_model.specs.Births.{block_birth}
use Rattle.rtm_model.specs.OwnChange.{after_retry, own_card, place_after, with_landed, with_routine_entered}
use Rattle.rtm_model.specs.Blocks.{after_return, birth_or_zero, block_of, cut_to, first_place, has_full_bracket, has_one_block, in_newest_bracket, is_block_of, newest_birth, newest_bracket, oldest, with_linked, with_newest_at, with_place, without_bracket, without_newest}
use Rattle.rtm_model.specs.Cards.{row, too_many_blocks}
use Rattle.rtm_model.specs.Levels.{Bracket, at_innermost, with_open}
use Rattle.rtm_model.specs.Moments.{before}
use Rattle.rtm_model.specs.NextEntry.{landed_record, retry_birth, retry_birth_of}
use Rattle.rtm_model.specs.Surroundings.{surroundings_at}
use Rattle.rtm_model.specs.Record.{ret15_in, setrp_in}
use Rattle.rtm_model.specs.inner.Soundness.{BlocksFall, BracketsFall, IsCoreSound, oldest_or}
use Rattle.rtm_model.specs.World.{Core, World, core_at}
use Rattle.rtm_model.specs.declared.error_record.ErrorRecord.{ErrorRecord}
use Rattle.rtm_model.proofs.Levels.{after_record, length_innermost, length_record}
use Rattle.rtm_law_births.specs.RequestBlocks.{CardKills, CardMakes, IsBlockAt, IsFirstOf, card_moves, is_running}
use Rattle.rtm_law_births.proofs.Outcomes.{IsVerdictOf, unless_rc}
use Rattle.rtm_law_births.proofs.RequestBlocks.{at_place, closed_turns, dropped_list, linked_list, moved_list, newest_of, opened_turns, retried_list, top_turns}
use Rattle.rtm_law_births.proofs.States.{Turns}

-- the same in other words
pub retold : {S : Type 0} (after before : S → Type 0) (B B2 : S → Type 0) (K K2 : Type 0) (f g : S → S) → ((s : S) → B s → B2 s) → ((s : S) → B2 s → B s) → (K → K2) → (K2 → K) → ((s : S) → f s ≡ g s)
    → Turns S after before B K f → Turns S after before B2 K2 g
retold after before B B2 K K2 f g fb gb fk gk same turns = record {
  came = λ s h. elim (turns.came s h) [ inl born ↦ inl (fb s born) | inr stayed ↦ inr (stayed.0, stayed.1, λ k. stayed.2 (gk k), stayed.3 ∙ same stayed.0) ];
  born = λ s h. turns.born s (gb s h);
  stays = λ s h alive. subst after (same s) (turns.stays s h (λ k. alive (fk k)));
}

pub nothing : (after before : Place → Type 0) (B : Place → Type 0) (K : Type 0) (f : Place → Place) → ((s : Place) → after s → ⊥) → ((s : Place) → before s → ⊥) → ((s : Place) → B s → ⊥) → Turns Place after before B K f
nothing after before B K f no_after no_before no_born = record {
  came = λ s h. absurd (no_after s h);
  born = λ s h. absurd (no_born s h);
  stays = λ s h alive. absurd (no_before s h);
}

pub still : (before : Place → Type 0) → Turns Place before before (λ s. ⊥) ⊥ (λ s. s)
still before = record { came = λ s h. inr (s, h, λ k. k, refl); born = λ s h. absurd h; stays = λ s h alive. h }

-- tests on depths
same_depth : (depth count : ℕ) → 1 ≤ count → (depth + 1 == count) ≡ (depth == count - 1)
same_depth depth count h = grind (arith, nat_tests)

both_if : (a b : Bool) (x y : Place) → (if a then (if b then x else y) else y) ≡ (if a && b then x else y)
both_if true b x y = refl
both_if false b x y = refl

if_depth : (depth count : ℕ) (b : Bool) (x y : Place) → 1 ≤ count → (if depth + 1 == count then (if b then x else y) else y) ≡ (if (depth == count - 1) && b then x else y)
if_depth depth count b x y h = ap (λ (t : Bool). if t then (if b then x else y) else y) (same_depth depth count h) ∙ both_if (depth == count - 1) b x y

same_either : (b : Bool) (x : Place) → (if b then x else x) ≡ x
same_either true x = refl
same_either false x = refl

same_two : (a b : Bool) (x : Place) → (if a then x else x) ≡ (if b then x else x)
same_two a b x = same_either a x ∙ sym (same_either b x)

-- Cards

module _ (count depth born : ℕ) (some : 1 ≤ count) (n : ℕ) where
  -- the newest of the innermost bracket goes on at a place
  moved_turns : (place : Place) (bss : List (List Block)) → BracketsFall n bss
      → Turns Place (λ s. IsBlockAt count depth (at_place born s) (with_place place bss)) (λ s. IsBlockAt count depth (at_place born s) bss) (λ s. ⊥) ⊥
      (λ s. if (depth == count - 1) && (born == newest_birth bss) then place else s)
  moved_turns place [] f = nothing _ _ _ _ _ (λ s h. h) (λ s h. h) (λ s h. h)
  moved_turns place (bs ∷ outer) f =
      retold _ _ _ _ _ _ _ _ (λ s h. h.1) (λ s h. absurd h) (λ k. k.1) (λ k. absurd k) (λ s. if_depth depth count (born == newest_of bs) place s some)
      (top_turns count depth born bs (with_newest_at place bs) outer (λ s. ⊥) ⊥ (λ s. if born == newest_of bs then place else s) (moved_list n born place bs f.0))

  linked_turns : (birth prog : ℕ) (place : Place) (bss : List (List Block)) → BracketsFall n bss → 1 ≤ length (newest_bracket bss)
      → Turns Place (λ s. IsBlockAt count depth (at_place born s) (with_linked birth prog (with_place place bss))) (λ s. IsBlockAt count depth (at_place born s) bss)
      (λ s. (depth ≡ count - 1) × (born ≡ birth) × (s ≡ first_place prog)) ⊥
      (λ s. if (depth == count - 1) && (born == newest_birth bss) then place else s)
  linked_turns birth prog place [] f there = absurd (omega (arith, there))
  linked_turns birth prog place (bs ∷ outer) f there =
      retold _ _ _ _ _ _ _ _ (λ s h. (omega (arith, h.0), h.1.0, h.1.1)) (λ s h. (omega (arith, h.0, some), (h.1, h.2))) (λ k. k.1) (λ k. absurd k) (λ s. if_depth depth count (born == newest_of bs) place s some)
      (top_turns count depth born bs (block_of birth prog ∷ with_newest_at place bs) outer (λ s. (born ≡ birth) × (s ≡ first_place prog)) ⊥ (λ s. if born == newest_of bs then place else s) (linked_list n born birth prog place bs f.0))

  popped_turns : (bss : List (List Block)) → BracketsFall n bss → 1 ≤ length (newest_bracket bss)
      → Turns Place (λ s. IsBlockAt count depth (at_place born s) (in_newest_bracket without_newest bss)) (λ s. IsBlockAt count depth (at_place born s) bss) (λ s. ⊥)
      ((depth ≡ count - 1) × (born ≡ newest_birth bss)) (λ s. if (depth == count - 1) && (born == newest_birth bss) then s else s)
  popped_turns [] f there = absurd (omega (arith, there))
  popped_turns ([] ∷ outer) f there = absurd (omega (arith, there))
  popped_turns ((b ∷ older) ∷ outer) f there =
      retold _ _ _ _ _ _ _ _ (λ s h. h.1) (λ s h. absurd h) (λ k. (omega (arith, k.0), k.1)) (λ k. (omega (arith, k.0, some), k.1)) (λ s. same_two (depth + 1 == count) ((depth == count - 1) && (born == b.born)) s)
      (top_turns count depth born (b ∷ older) older outer (λ s. ⊥) (born ≡ b.born) (λ s. s) (dropped_list n born b older f.0))

  returned_turns : (bss : List (List Block)) → BracketsFall n bss → 1 ≤ length (newest_bracket bss) → has_one_block bss ≡ false
      → Turns Place (λ s. IsBlockAt count depth (at_place born s) (after_return bss)) (λ s. IsBlockAt count depth (at_place born s) bss) (λ s. ⊥)
      ((depth ≡ count - 1) × (born ≡ newest_birth bss)) (λ s. if (depth == count - 1) && (born == newest_birth bss) then s else s)
  returned_turns bss f there one = rw one (popped_turns bss f there)

-- each card
module _ (d : DeckView) (n : ℕ) (c : Core) (sound : IsCoreSound d n c) (depth born : ℕ) where
  abbrev pub Has : Core → Place → Type 0
  Has k s = IsBlockAt (length k.levels) depth (at_place born s) k.blocks

  -- SETRP and RET15 change no request block but that which runs
  record_turns : (f : ErrorRecord → ErrorRecord) (place : Place) → Turns Place (λ s. IsBlockAt (length (after_record f c.levels)) depth (at_place born s) (with_place place c.blocks)) (Has c) (λ s. ⊥) ⊥ (λ s. if is_running c depth born then place else s)
  record_turns f place =
      subst (λ (k : ℕ). Turns Place (λ s. IsBlockAt k depth (at_place born s) (with_place place c.blocks)) (Has c) (λ s. ⊥) ⊥ (λ s. if is_running c depth born then place else s))
      (sym (length_record f c.levels)) (moved_turns (length c.levels) depth born sound.levels_some (n + 1) place c.blocks sound.births)

  pub card : (w : World) (u rc : ℕ) (at : Place) (op : Op) → row c (surroundings_at d w u op) op ≡ Executed rc → core_at u w ≡ c → 1 ≤ length (newest_bracket c.blocks) → (op ≡ ops.Return → has_one_block c.blocks ≡ false)
      → Turns Place (Has (own_card n (place_after d at rc op) op c)) (Has c) (CardMakes n c rc op depth born) (CardKills c op depth born) (λ s. if is_running c depth born then card_moves d at rc op s else s)
  card w u rc at (ops.Link prog) e same there one =
      retold _ _ _ _ _ _ _ _ (λ s h. (unless_rc (has_full_bracket c.blocks) too_many_blocks rc e, h.0, h.1, h.2)) (λ s h. (h.1, h.2, h.3)) (λ k. k) (λ k. k) (λ s. refl)
      (linked_turns (length c.levels) depth born sound.levels_some (n + 1) (block_birth n) prog (place_after d at rc (ops.Link prog)) c.blocks sound.births there)
  card w u rc at (ops.Xctl prog) e same there one = moved_turns (length c.levels) depth born sound.levels_some (n + 1) (first_place prog) c.blocks sound.births
  card w u rc at ops.Return e same there one = returned_turns (length c.levels) depth born sound.levels_some (n + 1) c.blocks sound.births there (one refl)
  card w u rc at (ops.SetRp setrp) e same there one = record_turns (setrp_in setrp) (place_after d at rc (ops.SetRp setrp))
  card w u rc at (ops.Ret15 stored label) e same there one = record_turns (ret15_in stored label) (place_after d at rc (ops.Ret15 stored label))
  card w u rc at op e same there one = moved_turns (length c.levels) depth born sound.levels_some (n + 1) (place_after d at rc op) c.blocks sound.births

  -- errors leave them
  pub opened_error : (f : Bracket → Bracket) → Turns Place (λ s. IsBlockAt (length (at_innermost f c.levels)) depth (at_place born s) c.blocks) (Has c) (λ s. ⊥) ⊥ (λ s. s)
  opened_error f = subst (λ (k : ℕ). Turns Place (λ s. IsBlockAt k depth (at_place born s) c.blocks) (Has c) (λ s. ⊥) ⊥ (λ s. s)) (sym (length_innermost f c.levels)) (still (Has c))

  pub landed : (o : Option Abort) → Turns Place (Has (with_landed o c)) (Has c) (λ s. ⊥) ⊥ (λ s. s)
  landed None = still (Has c)
  landed (Some abort) = opened_error (with_open (Some (landed_record abort)))

  -- a routine is entered
  pub enters : (bare : Bool) (o : Option Reg) → Turns Place (Has (with_routine_entered n bare o c)) (Has c) (λ s. (depth ≡ length c.levels) × (born ≡ block_birth n) × IsFirstOf o s) ⊥ (λ s. s)
  enters bare None = retold _ _ _ _ _ _ _ _ (λ s h. absurd h) (λ s h. absurd h.2) (λ k. k) (λ k. k) (λ s. refl) (still (Has c))
  enters bare (Some reg) =
      let one_more : length c.levels + 1 ≡ suc (length c.levels) = omega arith in
      subst (λ (k : ℕ). Turns Place (λ s. IsBlockAt k depth (at_place born s) ((block_of (block_birth n) reg.prog ∷ []) ∷ c.blocks)) (Has c) (λ s. (depth ≡ length c.levels) × (born ≡ block_birth n) × (s ≡ first_place reg.prog)) ⊥ (λ s. s)) one_more
      (opened_turns (length c.levels) depth born (block_birth n) reg.prog c.blocks (omega arith))

-- A routine is left

abbrev pub retry_blocks : Verdict → Option Reg → List (List Block) → List (List Block)
retry_blocks (Retry place) (Some reg) bss = with_place place (cut_to (retry_birth reg bss) bss)
retry_blocks _ o bss = bss

pub blocks_after : (verdict : Verdict) (o : Option Reg) (c : Core) → Core.blocks (after_retry verdict o c) ≡ retry_blocks verdict o c.blocks
blocks_after (Retry place) None c = refl
blocks_after (Retry place) (Some reg) c = refl
blocks_after Perc o c = refl
blocks_after _ o c = refl

-- the request block of a retry is there
find_newest : (bs : List Block) → 1 ≤ length bs → is_some (find (is_block_of (newest_of bs)) bs) ≡ true
find_newest [] some = absurd (omega (arith, some))
find_newest (b ∷ older) some = rw (eq-eqb b.born b.born refl) refl

found_more : (x : Block) (o : Option Block) (t : Bool) → is_some o ≡ true → is_some (cond t (Some x) o) ≡ true
found_more x o true h = refl
found_more x o false h = h

last_found : (b : Block) (older : List Block) → is_some (find (is_block_of (birth_or_zero (last_or None (b ∷ older)))) (b ∷ older)) ≡ true
last_found b [] = rw (eq-eqb b.born b.born refl) refl
last_found b (x ∷ older) = found_more b (find (is_block_of (birth_or_zero (last_or None (x ∷ older)))) (x ∷ older)) (is_block_of (birth_or_zero (last_or None (x ∷ older))) b) (last_found x older)

find_oldest : (bs : List Block) → 1 ≤ length bs → is_some (find (is_block_of (birth_or_zero (oldest bs))) bs) ≡ true
find_oldest [] some = absurd (omega (arith, some))
find_oldest (b ∷ older) some = last_found b older

pub retry_there : (kind : Kind) (owner : ℕ) (obs : List Block) (rest : List (List Block)) (place : Place) → IsVerdictOf kind (Retry place) → 1 ≤ length obs → (kind ≡ Estae → is_some (find (is_block_of owner) obs) ≡ true)
    → is_some (find (is_block_of (retry_birth_of kind owner (obs ∷ rest))) obs) ≡ true
retry_there Frr owner obs rest place fits some own = find_newest obs some
retry_there Estae owner obs rest place fits some own = own refl
retry_there Estai owner obs rest place fits some own = find_oldest obs some
retry_there Mgr owner obs rest place fits some own = absurd fits

-- first the bracket is closed, then the retry's bracket is cut
pub in_turn : (after middle before : Place → Type 0) (K1 K2 : Type 0) (f : Place → Place) → Turns Place middle before (λ s. ⊥) K1 (λ s. s) → Turns Place after middle (λ s. ⊥) K2 f → Turns Place after before (λ s. ⊥) (K1 ⊎ K2) f
in_turn after middle before K1 K2 f one two = record {
  came = λ s h. elim (two.came s h) [
    | inl none ↦ absurd none
    | inr stayed ↦ elim (one.came stayed.0 stayed.1) [
      | inl none ↦ absurd none
      | inr more ↦ inr (more.0, more.1, λ k. elim k [ inl first ↦ more.2 first | inr second ↦ stayed.2 second ], stayed.3 ∙ ap f more.3)
    ]
  ];
  born = λ s h. absurd h;
  stays = λ s h alive. two.stays s (one.stays s h (λ k. alive (inl k))) (λ k. alive (inr k));
}

module _ (count depth born : ℕ) (n : ℕ) where
  pub retry_turns : (place : Place) (reg : Reg) (bss : List (List Block)) → BracketsFall n bss → ((obs : List Block) (rest : List (List Block)) → bss ≡ obs ∷ rest → is_some (find (is_block_of (retry_birth reg bss)) obs) ≡ true)
      → Turns Place (λ s. IsBlockAt count depth (at_place born s) (with_place place (cut_to (retry_birth reg bss) bss))) (λ s. IsBlockAt count depth (at_place born s) bss) (λ s. ⊥)
      ((depth + 1 ≡ count) × (retry_birth reg bss < born)) (λ s. if (depth + 1 == count) && (born == retry_birth reg bss) then place else s)
  retry_turns place reg [] f there = nothing _ _ _ _ _ (λ s h. h) (λ s h. h) (λ s h. h)
  retry_turns place reg (obs ∷ rest) f there =
      retold _ _ _ _ _ _ _ _ (λ s h. h.1) (λ s h. absurd h) (λ k. k) (λ k. k) (λ s. both_if (depth + 1 == count) (born == retry_birth reg (obs ∷ rest)) place s)
      (top_turns count depth born obs _ rest (λ s. ⊥) (retry_birth reg (obs ∷ rest) < born) (λ s. if born == retry_birth reg (obs ∷ rest) then place else s)
      (retried_list n (retry_birth reg (obs ∷ rest)) born place obs f.0 (there obs rest refl)))

-- a later number
blocks_later : (n m : ℕ) (bs : List Block) → n ≤ m → BlocksFall n bs → BlocksFall m bs
blocks_later n m [] le f = tt
blocks_later n m (b ∷ older) le f = (omega (arith, le, f.0), f.1)

pub oldest_below : (n : ℕ) (bs : List Block) → BlocksFall n bs → oldest_or n bs ≤ n
oldest_below n [] f = omega arith
oldest_below n (b ∷ older) f = omega (arith, f.0, oldest_below b.born older f.1)

brackets_later : (n m : ℕ) (bss : List (List Block)) → n ≤ m → BracketsFall n bss → BracketsFall m bss
brackets_later n m [] le f = tt
brackets_later n m ([] ∷ outer) le f = (tt, brackets_later n m outer le f.1)
brackets_later n m ((b ∷ older) ∷ outer) le f = ((omega (arith, le, f.0.0), f.0.1), f.1)

outer_fall : (n : ℕ) (bs : List Block) (outer : List (List Block)) → BracketsFall n (bs ∷ outer) → BracketsFall n outer
outer_fall n bs outer f = brackets_later (oldest_or n bs) n outer (oldest_below n bs f.0) f.1

pub without_fall : (n : ℕ) (bss : List (List Block)) → BracketsFall n bss → BracketsFall n (without_bracket bss)
without_fall n [] f = tt
without_fall n (bs ∷ outer) f = outer_fall n bs outer f

-- the innermost bracket is closed
pub closing : (count depth born : ℕ) (bss : List (List Block)) → Turns Place (λ s. IsBlockAt (count - 1) depth (at_place born s) (without_bracket bss)) (λ s. IsBlockAt count depth (at_place born s) bss) (λ s. ⊥) (depth + 1 ≡ count) (λ s. s)
closing count depth born [] = nothing _ _ _ _ _ (λ s h. h) (λ s h. h) (λ s h. h)
closing count depth born (bs ∷ outer) = closed_turns count depth born bs outer
