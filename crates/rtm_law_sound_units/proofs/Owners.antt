-- That the request block which made an ESTAE routine lives, in the routine's bracket.
use Rattle.std.proofs.Common.{◌≡◌, ℕ, zero, suc, ◌+◌, ◌-◌, ◌<◌, ◌≤◌, Bool, true, false, cond, List, [], ◌∷◌, length, Option, Some, None, refl, sym, subst, arith, get_or}
use Rattle.std.specs.Prelude.{IsSome, find, is_some, if◌then◌else◌, ◌==◌, nat_le, not}
use Rattle.std.proofs.lemmas.Bool.{eq-eqb, eqb-true, eqb-false, leb-true, not-true}
use Rattle.rtm_model.specs.declared.block.Block.{Block}
use Rattle.rtm_model.specs.declared.block.Place.{Place}
use Rattle.rtm_model.specs.declared.reg.Reg.{Reg}
use Rattle.rtm_model.specs.Blocks.{after_return, block_of, cut_to, from_birth, from_first, has_one_block, in_newest_bracket, is_block_of, newest_birth, newest_bracket, with_bracket, with_linked, with_newest_at, with_place, without_bracket, without_newest}
use Rattle.rtm_model.specs.inner.Soundness.{BlocksFall, BracketsFall, HasOwner}

-- a request block of that birth is among them
abbrev pub IsThere : ℕ → List Block → Type 0
IsThere born blocks = IsSome (find (is_block_of born) blocks)

-- a change of the innermost bracket, which is at the index 0, leaves the others
at_by : (born i : ℕ) (blocks changed : List Block) (outer : List (List Block)) → (IsThere born blocks → IsThere born changed)
    → IsThere born (get_or (blocks ∷ outer) i []) → IsThere born (get_or (changed ∷ outer) i [])
at_by born zero blocks changed outer f h = f h
at_by born (suc i) blocks changed outer f h = h

there_by : (born : ℕ) (block moved : Block) (blocks : List Block) (b : Bool) → is_block_of born block ≡ b → moved.born ≡ block.born → IsSome (cond b (Some block) (find (is_block_of born) blocks)) → IsSome (cond b (Some moved) (find (is_block_of born) blocks))
there_by born block moved blocks true e same h = refl
there_by born block moved blocks false e same h = h

-- a request block at another place has the same birth
placed_there : (born : ℕ) (place : Place) (blocks : List Block) → IsThere born blocks → IsThere born (with_newest_at place blocks)
placed_there born place [] h = h
placed_there born place (block ∷ blocks) h = there_by born block (record block { place = place }) blocks (is_block_of born block) refl refl h

pub owner_placed : (depth : ℕ) (place : Place) (brackets : List (List Block)) (reg : Reg) → HasOwner depth brackets reg → HasOwner depth (with_place place brackets) reg
owner_placed depth place [] reg h = h
owner_placed depth place (blocks ∷ outer) reg h = at_by reg.owner (depth - reg.depth) blocks (with_newest_at place blocks) outer (placed_there reg.owner place blocks) h

-- LINK
link_if : (block : Block) (b : Bool) (o : Option Block) → IsSome o → IsSome (cond b (Some block) o)
link_if block true o h = refl
link_if block false o h = h

pub owner_linked : (depth born prog : ℕ) (brackets : List (List Block)) (reg : Reg) → HasOwner depth brackets reg → HasOwner depth (with_linked born prog brackets) reg
owner_linked depth born prog [] reg h = h
owner_linked depth born prog (blocks ∷ outer) reg h =
    at_by reg.owner (depth - reg.depth) blocks (block_of born prog ∷ blocks) outer
    (λ there. link_if (block_of born prog) (is_block_of reg.owner (block_of born prog)) (find (is_block_of reg.owner) blocks) there) h

-- a bracket is opened: the others stand one further
further : (depth at i : ℕ) (blocks : List Block) (brackets : List (List Block)) (born : ℕ) → (depth + 1) - at ≡ suc i → depth - at ≡ i
    → IsThere born (get_or brackets (depth - at) []) → IsThere born (get_or (blocks ∷ brackets) ((depth + 1) - at) [])
further depth at i blocks brackets born e f h =
    subst (λ (k : ℕ). IsThere born (get_or (blocks ∷ brackets) k [])) (sym e) (subst (λ (k : ℕ). IsThere born (get_or brackets k [])) f h)

pub owner_opened : (depth born prog : ℕ) (brackets : List (List Block)) (reg : Reg) → reg.depth ≤ depth → HasOwner depth brackets reg → HasOwner (depth + 1) (with_bracket born prog brackets) reg
owner_opened depth born prog brackets reg shallow h =
    further depth reg.depth (depth - reg.depth) (block_of born prog ∷ []) brackets reg.owner (omega arith) refl h

-- a bracket is closed: those of the others stand one nearer
nearer : (depth at i : ℕ) (blocks : List Block) (brackets : List (List Block)) (born : ℕ) → (depth + 1) - at ≡ suc i → depth - at ≡ i
    → IsThere born (get_or (blocks ∷ brackets) ((depth + 1) - at) []) → IsThere born (get_or brackets (depth - at) [])
nearer depth at i blocks brackets born e f h =
    subst (λ (k : ℕ). IsThere born (get_or brackets k [])) (sym f) (subst (λ (k : ℕ). IsThere born (get_or (blocks ∷ brackets) k [])) e h)

pub owner_closed : (depth : ℕ) (brackets : List (List Block)) (reg : Reg) → reg.depth ≤ depth → HasOwner (depth + 1) brackets reg → HasOwner depth (without_bracket brackets) reg
owner_closed depth [] reg shallow h = h
owner_closed depth (blocks ∷ outer) reg shallow h = nearer depth reg.depth (depth - reg.depth) blocks outer reg.owner (omega arith) refl h

both : (a b : ℕ) → a ≡ b → not (b == a) ≡ true → ⊥
both a b e h = eqb-false b a (not-true (b == a) h) (sym e)

-- RETURN: a routine of another request block than the newest keeps its owner
pop_if : (born : ℕ) (block : Block) (o : Option Block) (b : Bool) → is_block_of born block ≡ b → not (born == block.born) ≡ true → IsSome (cond b (Some block) o) → IsSome o
pop_if born block o true e other h = absurd (both block.born born (eqb-true block.born born e) other)
pop_if born block o false e other h = h

popped_there : (born : ℕ) (blocks : List Block) → not (born == newest_birth (blocks ∷ [])) ≡ true → IsThere born blocks → IsThere born (without_newest blocks)
popped_there born [] other h = h
popped_there born (block ∷ blocks) other h = pop_if born block (find (is_block_of born) blocks) (is_block_of born block) refl other h

pop_bracket : (depth : ℕ) (blocks : List Block) (outer : List (List Block)) (reg : Reg) → not (reg.owner == newest_birth (blocks ∷ outer)) ≡ true → HasOwner depth (blocks ∷ outer) reg → HasOwner depth (without_newest blocks ∷ outer) reg
pop_bracket depth [] outer reg other h = h
pop_bracket depth (block ∷ blocks) outer reg other h =
    at_by reg.owner (depth - reg.depth) (block ∷ blocks) blocks outer (popped_there reg.owner (block ∷ blocks) other) h

returned_if : (depth : ℕ) (brackets : List (List Block)) (reg : Reg) (b : Bool) → not (reg.owner == newest_birth brackets) ≡ true → HasOwner depth brackets reg → HasOwner depth (if b then brackets else in_newest_bracket without_newest brackets) reg
returned_if depth brackets reg true other h = h
returned_if depth [] reg false other h = h
returned_if depth (blocks ∷ outer) reg false other h = pop_bracket depth blocks outer reg other h

pub owner_returned : (depth : ℕ) (brackets : List (List Block)) (reg : Reg) → not (reg.owner == newest_birth brackets) ≡ true → HasOwner depth brackets reg → HasOwner depth (after_return brackets) reg
owner_returned depth brackets reg other h = returned_if depth brackets reg (has_one_block brackets) other h

-- a retry: the owner is no younger than the request block that the bracket is cut to
older_if : (n born : ℕ) (block : Block) (blocks : List Block) (b : Bool) → is_block_of born block ≡ b → BlocksFall n (block ∷ blocks) → IsSome (cond b (Some block) (find (is_block_of born) blocks))
    → (IsThere born blocks → born < block.born) → born < n
older_if n born block blocks true e f h more = omega (arith, eqb-true block.born born e, f.0)
older_if n born block blocks false e f h more = omega (arith, more h, f.0)

older_there : (n born : ℕ) (blocks : List Block) → BlocksFall n blocks → IsThere born blocks → born < n
older_there n born [] f h = absurd cc
older_there n born (block ∷ blocks) f h = older_if n born block blocks (is_block_of born block) refl f h (older_there block.born born blocks f.1)

keep_if : (born owner : ℕ) (block : Block) (blocks : List Block) (b c : Bool) → is_block_of born block ≡ b → is_block_of owner block ≡ c → owner ≤ born
    → (IsThere born blocks → born < block.born)
    → (IsThere born blocks → IsThere owner blocks → IsThere owner (from_first (is_block_of born) blocks))
    → IsSome (cond b (Some block) (find (is_block_of born) blocks))
    → IsSome (cond c (Some block) (find (is_block_of owner) blocks))
    → IsThere owner (block ∷ blocks)
    → IsThere owner (cond b (block ∷ blocks) (from_first (is_block_of born) blocks))
keep_if born owner block blocks true c e f le older more there own h = h
keep_if born owner block blocks false true e f le older more there own h = absurd (omega (arith, older there, eqb-true block.born owner f))
keep_if born owner block blocks false false e f le older more there own h = more there own

kept_there : (n born owner : ℕ) (blocks : List Block) → BlocksFall n blocks → owner ≤ born → IsThere born blocks → IsThere owner blocks → IsThere owner (from_first (is_block_of born) blocks)
kept_there n born owner [] f le there h = h
kept_there n born owner (block ∷ blocks) f le there h =
    keep_if born owner block blocks (is_block_of born block) (is_block_of owner block) refl refl le
    (older_there block.born born blocks f.1) (kept_there block.born born owner blocks f.1 le) there h h

cut_there : (n born owner : ℕ) (blocks : List Block) (o : Option Block) → find (is_block_of born) blocks ≡ o → BlocksFall n blocks → owner ≤ born → IsThere owner blocks
    → IsThere owner (if is_some o then from_first (is_block_of born) blocks else blocks)
cut_there n born owner blocks None e f le h = h
cut_there n born owner blocks (Some block) e f le h = kept_there n born owner blocks f le (subst (λ (o : Option Block). IsSome o) (sym e) refl) h

pub owner_cut : (depth n born : ℕ) (brackets : List (List Block)) (reg : Reg) → BracketsFall n brackets → nat_le reg.owner born ≡ true → HasOwner depth brackets reg → HasOwner depth (cut_to born brackets) reg
owner_cut depth n born [] reg f le h = h
owner_cut depth n born (blocks ∷ outer) reg f le h =
    at_by reg.owner (depth - reg.depth) blocks (from_birth born blocks) outer
    (cut_there n born reg.owner blocks (find (is_block_of born) blocks) refl f.0 (leb-true reg.owner born le)) h

-- the request block that runs is the owner of what it makes
itself : (block : Block) (o : Option Block) (b : Bool) → b ≡ true → IsSome (cond b (Some block) o)
itself block o true e = refl
itself block o false e = absurd cc

newest_there : (blocks : List Block) (outer : List (List Block)) → 1 ≤ length blocks → IsThere (newest_birth (blocks ∷ outer)) blocks
newest_there [] outer h = absurd (omega arith)
newest_there (block ∷ blocks) outer h = itself block (find (is_block_of block.born) blocks) (is_block_of block.born block) (eq-eqb block.born block.born refl)

pub owner_new : (depth : ℕ) (brackets : List (List Block)) (reg : Reg) → 1 ≤ length (newest_bracket brackets) → reg.owner ≡ newest_birth brackets → reg.depth ≡ depth → HasOwner depth brackets reg
owner_new depth [] reg some owner at = absurd (omega arith)
owner_new depth (blocks ∷ outer) reg some owner at =
    let zero_is : depth - reg.depth ≡ 0 = omega arith in
    subst (λ (k : ℕ). IsThere reg.owner (get_or (blocks ∷ outer) k [])) (sym zero_is)
    (subst (λ (o : ℕ). IsThere o blocks) (sym owner) (newest_there blocks outer some))
