-- Request blocks: what LINK, RETURN, a retry and a routine's bracket leave stays within its limits, and in order.
use Rattle.std.proofs.Common.{◌≡◌, ℕ, ◌+◌, ◌<◌, ◌≤◌, Bool, true, false, cond, List, [], ◌∷◌, length, Option, Some, None, refl, sym, subst, arith}
use Rattle.std.specs.Prelude.{IsSome, find, is_some, if◌then◌else◌, ◌==◌}
use Rattle.std.specs.List.{AllByRecursion}
use Rattle.rtm_deck_items.specs.View.{DeckView}
use Rattle.rtm_model.specs.declared.block.Block.{Block}
use Rattle.rtm_model.specs.declared.block.Place.{Place}
use Rattle.rtm_model.specs.Limits.{most_blocks}
use Rattle.rtm_model.specs.Blocks.{after_return, block_of, cut_to, from_first, has_one_block, in_newest_bracket, is_block_of, newest_bracket, with_bracket, with_linked, with_newest_at, with_place, without_bracket, without_newest}
use Rattle.rtm_model.specs.inner.Soundness.{BlocksFall, BracketsFall, IsBracket, IsPlace, oldest_or}
use Rattle.rtm_law_sound_units.proofs.Places.{first_is_place}

-- the brackets of a unit after n entries
pub record AreBrackets (d : DeckView) (n : ℕ) (brackets : List (List Block)) : Type 0 where
  pub each : AllByRecursion (IsBracket d) brackets
  pub births : BracketsFall (n + 1) brackets

-- a later moment
blocks_later : (n m : ℕ) (blocks : List Block) → n ≤ m → BlocksFall n blocks → BlocksFall m blocks
blocks_later n m [] h f = tt
blocks_later n m (block ∷ blocks) h f = (omega arith, f.1)

later_by : (n m : ℕ) (blocks : List Block) (outer : List (List Block)) → n ≤ m → BlocksFall n blocks → BracketsFall (oldest_or n blocks) outer
    → (BracketsFall n outer → BracketsFall m outer) → BracketsFall (oldest_or m blocks) outer
later_by n m [] outer h f g more = more g
later_by n m (block ∷ blocks) outer h f g more = g

pub brackets_later : (n m : ℕ) (brackets : List (List Block)) → n ≤ m → BracketsFall n brackets → BracketsFall m brackets
brackets_later n m [] h f = tt
brackets_later n m (blocks ∷ outer) h f = (blocks_later n m blocks h f.0, later_by n m blocks outer h f.0 f.1 (brackets_later n m outer h))

pub blocks_kept : (d : DeckView) (n m : ℕ) (brackets : List (List Block)) → n ≤ m → AreBrackets d n brackets → AreBrackets d m brackets
blocks_kept d n m brackets h a = record { each = a.each; births = brackets_later (n + 1) (m + 1) brackets (omega arith) a.births }

-- the newest request block at a place
newest_place : (d : DeckView) (place : Place) (blocks : List Block) → IsPlace d place → IsBracket d blocks → IsBracket d (with_newest_at place blocks)
newest_place d place [] p b = b
newest_place d place (block ∷ blocks) p b = record { some = b.some; few = b.few; places = (p, b.places.1) }

place_births : (n : ℕ) (place : Place) (blocks : List Block) (outer : List (List Block)) → BlocksFall n blocks → BracketsFall (oldest_or n blocks) outer
    → BlocksFall n (with_newest_at place blocks) × BracketsFall (oldest_or n (with_newest_at place blocks)) outer
place_births n place [] outer f g = (f, g)
place_births n place (block ∷ blocks) outer f g = (f, g)

pub placed : (d : DeckView) (n : ℕ) (place : Place) (brackets : List (List Block)) → IsPlace d place → AreBrackets d n brackets → AreBrackets d n (with_place place brackets)
placed d n place [] p a = a
placed d n place (blocks ∷ outer) p a =
    let f = place_births (n + 1) place blocks outer a.births.0 a.births.1 in
    record { each = (newest_place d place blocks p a.each.0, a.each.1); births = (f.0, f.1) }

-- LINK
linked_bracket : (d : DeckView) (born prog : ℕ) (blocks : List Block) → prog < length d.programs → length blocks < most_blocks → IsBracket d blocks → IsBracket d (block_of born prog ∷ blocks)
linked_bracket d born prog blocks h room b = record { some = omega arith; few = omega arith; places = (first_is_place d prog h, b.places) }

pub linked : (d : DeckView) (n prog : ℕ) (brackets : List (List Block)) → prog < length d.programs → length (newest_bracket brackets) < most_blocks → AreBrackets d n brackets → AreBrackets d (n + 1) (with_linked (n + 1) prog brackets)
linked d n prog [] h room a = record { each = tt; births = tt }
linked d n prog (blocks ∷ outer) h room a = record {
  each = (linked_bracket d (n + 1) prog blocks h room a.each.0, a.each.1);
  births = ((omega arith, a.births.0), a.births.1);
}

-- a bracket is opened
pub opened : (d : DeckView) (n prog : ℕ) (brackets : List (List Block)) → prog < length d.programs → AreBrackets d n brackets → AreBrackets d (n + 1) (with_bracket (n + 1) prog brackets)
opened d n prog brackets h a = record {
  each = (record { some = omega arith; few = omega arith; places = (first_is_place d prog h, tt) }, a.each);
  births = ((omega arith, tt), a.births);
}

-- a bracket is closed
closed_births : (n : ℕ) (blocks : List Block) (outer : List (List Block)) → BlocksFall n blocks → BracketsFall (oldest_or n blocks) outer → BracketsFall n outer
closed_births n [] outer f g = g
closed_births n (block ∷ blocks) outer f g = brackets_later block.born n outer (omega arith) (closed_births block.born blocks outer f.1 g)

pub closed_blocks : (d : DeckView) (n : ℕ) (brackets : List (List Block)) → AreBrackets d n brackets → AreBrackets d n (without_bracket brackets)
closed_blocks d n [] a = a
closed_blocks d n (blocks ∷ outer) a = record { each = a.each.1; births = closed_births (n + 1) blocks outer a.births.0 a.births.1 }

-- RETURN
popped : (d : DeckView) (n : ℕ) (blocks : List Block) (outer : List (List Block)) → (length blocks == 1) ≡ false → AreBrackets d n (blocks ∷ outer) → AreBrackets d n (without_newest blocks ∷ outer)
popped d n [] outer e a = a
popped d n (block ∷ []) outer e a = absurd cc
popped d n (block ∷ older ∷ blocks) outer e a = record {
  each = (record { some = omega arith; few = omega (arith, a.each.0.few); places = a.each.0.places.1 }, a.each.1);
  births = (blocks_later block.born (n + 1) (older ∷ blocks) (omega (arith, a.births.0.0)) a.births.0.1, a.births.1);
}

returned_if : (d : DeckView) (n : ℕ) (brackets : List (List Block)) (b : Bool) → has_one_block brackets ≡ b → AreBrackets d n brackets → AreBrackets d n (if b then brackets else in_newest_bracket without_newest brackets)
returned_if d n brackets true e a = a
returned_if d n [] false e a = a
returned_if d n (blocks ∷ outer) false e a = popped d n blocks outer e a

pub returned : (d : DeckView) (n : ℕ) (brackets : List (List Block)) → AreBrackets d n brackets → AreBrackets d n (after_return brackets)
returned d n brackets a = returned_if d n brackets (has_one_block brackets) refl a

-- a retry: what is left of a bracket from a request block on
record IsCut (d : DeckView) (n : ℕ) (blocks kept : List Block) (outer : List (List Block)) : Type 0 where
  pub some : 1 ≤ length kept
  pub few : length kept ≤ length blocks
  pub places : AllByRecursion (λ (block : Block). IsPlace d block.place) kept
  pub births : BlocksFall n kept
  pub outer_births : BracketsFall (oldest_or n kept) outer

cut_if : (d : DeckView) (n : ℕ) (p : Block → Bool) (block : Block) (blocks : List Block) (outer : List (List Block)) (b : Bool)
    → AllByRecursion (λ (block : Block). IsPlace d block.place) (block ∷ blocks) → BlocksFall n (block ∷ blocks) → BracketsFall (oldest_or n (block ∷ blocks)) outer
    → IsSome (cond b (Some block) (find p blocks))
    → (IsSome (find p blocks) → IsCut d block.born blocks (from_first p blocks) outer)
    → IsCut d n (block ∷ blocks) (cond b (block ∷ blocks) (from_first p blocks)) outer
cut_if d n p block blocks outer true places births more found rest = record { some = omega arith; few = omega arith; places = places; births = births; outer_births = more }
cut_if d n p block blocks outer false places births more found rest =
    let r = rest found in
    record {
      some = r.some;
      few = omega (arith, r.few);
      places = r.places;
      births = blocks_later block.born n (from_first p blocks) (omega (arith, births.0)) r.births;
      outer_births = later_by block.born n (from_first p blocks) outer (omega (arith, births.0)) r.births r.outer_births (λ g. brackets_later block.born n outer (omega (arith, births.0)) g);
    }

cut_from : (d : DeckView) (n : ℕ) (p : Block → Bool) (blocks : List Block) (outer : List (List Block)) → AllByRecursion (λ (block : Block). IsPlace d block.place) blocks → BlocksFall n blocks → BracketsFall (oldest_or n blocks) outer
    → IsSome (find p blocks) → IsCut d n blocks (from_first p blocks) outer
cut_from d n p [] outer places births more found = absurd cc
cut_from d n p (block ∷ blocks) outer places births more found =
    cut_if d n p block blocks outer (p block) places births more found
    (λ there. cut_from d block.born p blocks outer places.1 births.1 more there)

cut_bracket : (d : DeckView) (n : ℕ) (p : Block → Bool) (blocks : List Block) (outer : List (List Block)) (o : Option Block) → find p blocks ≡ o → AreBrackets d n (blocks ∷ outer)
    → AreBrackets d n ((if is_some o then from_first p blocks else blocks) ∷ outer)
cut_bracket d n p blocks outer None e a = a
cut_bracket d n p blocks outer (Some block) e a =
    let k = cut_from d (n + 1) p blocks outer a.each.0.places a.births.0 a.births.1 (subst (λ (o : Option Block). IsSome o) (sym e) refl) in
    record {
      each = (record { some = k.some; few = omega (arith, k.few, a.each.0.few); places = k.places }, a.each.1);
      births = (k.births, k.outer_births);
    }

pub cut : (d : DeckView) (n born : ℕ) (brackets : List (List Block)) → AreBrackets d n brackets → AreBrackets d n (cut_to born brackets)
cut d n born [] a = a
cut d n born (blocks ∷ outer) a = cut_bracket d n (is_block_of born) blocks outer (find (is_block_of born) blocks) refl a
