-- Request blocks, as a unit holds them: a list of its brackets, the innermost first, each a list of its request blocks,
-- the newest first. A unit has an outermost bracket, and one for each routine that was entered and has not been left
-- (Authorized Assembler Services Guide, "Providing recovery"; the word bracket is this profile's).
use Rattle.std.specs.Prelude.{ℕ, ◌==◌, nat_le, Bool, if◌then◌else◌, List, [], ◌∷◌, length, Option, Some, None, is_some, find}
use Rattle.std.specs.Option.{unwrap_or}
use Rattle.std.specs.List.{last_or}
use Rattle.rtm_model.specs.declared.block.Place.{Place}
use Rattle.rtm_model.specs.declared.block.Block.{Block}
use Rattle.rtm_model.specs.Limits.{most_blocks, most_brackets}

-- the newest of a list, which stands first
abbrev pub newest : {A : Type 0} → List A → Option A
newest [] = None
newest (x ∷ xs) = Some x

-- the oldest of a list, which stands last
abbrev pub oldest : {A : Type 0} → List A → Option A
oldest xs = last_or None xs

-- the list without its newest
abbrev pub without_newest : {A : Type 0} → List A → List A
without_newest [] = []
without_newest (x ∷ xs) = xs

-- the list from the first that passes a test on; nothing where none does
abbrev pub from_first : {A : Type 0} → (A → Bool) → List A → List A
from_first p [] = []
from_first p (x ∷ xs) = if p x then x ∷ xs else from_first p xs

-- the request blocks of the innermost bracket, which is the newest; none where there is no bracket
abbrev pub newest_bracket : List (List Block) → List Block
newest_bracket brackets = unwrap_or (newest brackets) []

-- the innermost bracket changed; nothing where there is no bracket
abbrev pub in_newest_bracket : (List Block → List Block) → List (List Block) → List (List Block)
in_newest_bracket f [] = []
in_newest_bracket f (blocks ∷ outer) = f blocks ∷ outer

-- where a program begins: operations are counted from 1
abbrev pub first_place : ℕ → Place
first_place prog = record { prog = prog; op = 1 }

-- a request block at its birth
abbrev pub block_of : ℕ → ℕ → Block
block_of born prog = record { born = born; place = first_place prog }

-- the request block has that birth
abbrev pub is_block_of : ℕ → Block → Bool
is_block_of born block = block.born == born

-- the request block that runs: the newest of the innermost bracket
abbrev pub newest_block : List (List Block) → Option Block
newest_block brackets = newest (newest_bracket brackets)

-- the oldest of the innermost bracket: in the outermost one, that which a retry of an ESTAI routine is made under
-- (this profile)
abbrev pub oldest_block : List (List Block) → Option Block
oldest_block brackets = oldest (newest_bracket brackets)

-- the request block of the innermost bracket that has that birth
abbrev pub block_born : ℕ → List (List Block) → Option Block
block_born born brackets = find (is_block_of born) (newest_bracket brackets)

-- where a request block stands; where there is none, the operation 0, which no program has
abbrev pub place_or_none : Option Block → Place
place_or_none None = record { prog = 0; op = 0 }
place_or_none (Some block) = block.place

-- its birth, or 0
abbrev pub birth_or_zero : Option Block → ℕ
birth_or_zero None = 0
birth_or_zero (Some block) = block.born

-- where the unit runs
abbrev pub place_in : List (List Block) → Place
place_in brackets = place_or_none (newest_block brackets)

-- where the request block of that birth stands, under which a routine is retried
abbrev pub place_of_born : ℕ → List (List Block) → Place
place_of_born born brackets = place_or_none (block_born born brackets)

-- the births of the newest and of the oldest request block of the innermost bracket
abbrev pub newest_birth : List (List Block) → ℕ
newest_birth brackets = birth_or_zero (newest_block brackets)

abbrev pub oldest_birth : List (List Block) → ℕ
oldest_birth brackets = birth_or_zero (oldest_block brackets)

-- the innermost bracket has no request block but the one that runs, so that RETURN ends more than that one
abbrev pub has_one_block : List (List Block) → Bool
has_one_block brackets = length (newest_bracket brackets) == 1

-- a bracket has as many request blocks as it may have, so that LINK is an error (this profile)
abbrev pub has_full_bracket : List (List Block) → Bool
has_full_bracket brackets = nat_le most_blocks (length (newest_bracket brackets))

-- a unit has as many brackets as it may have (this profile)
abbrev pub has_full_brackets : List (List Block) → Bool
has_full_brackets brackets = nat_le most_brackets (length brackets)

-- a bracket is opened, with one request block
abbrev pub with_bracket : ℕ → ℕ → List (List Block) → List (List Block)
with_bracket born prog brackets = (block_of born prog ∷ []) ∷ brackets

-- the innermost bracket is closed, and its request blocks are gone
abbrev pub without_bracket : List (List Block) → List (List Block)
without_bracket brackets = without_newest brackets

-- LINK: one more request block in the innermost bracket (Assembler Services Reference, LINK)
abbrev pub with_linked : ℕ → ℕ → List (List Block) → List (List Block)
with_linked born prog brackets = in_newest_bracket (λ blocks. block_of born prog ∷ blocks) brackets

-- the newest of the blocks stands at the place
abbrev pub with_newest_at : Place → List Block → List Block
with_newest_at place [] = []
with_newest_at place (block ∷ older) = record block { place = place } ∷ older

-- the unit runs on at the place
abbrev pub with_place : Place → List (List Block) → List (List Block)
with_place place brackets = in_newest_bracket (with_newest_at place) brackets

-- XCTL: the request block goes on with another program, under the same birth (this profile)
abbrev pub with_program : ℕ → List (List Block) → List (List Block)
with_program prog brackets = with_place (first_place prog) brackets

-- RETURN: the newest request block is gone, unless it is its bracket's only one
abbrev pub after_return : List (List Block) → List (List Block)
after_return brackets = if has_one_block brackets then brackets else in_newest_bracket without_newest brackets

-- of a bracket the request blocks that are newer than the one of that birth are gone; nothing where it isn't there
abbrev pub from_birth : ℕ → List Block → List Block
from_birth born blocks = if is_some (find (is_block_of born) blocks) then from_first (is_block_of born) blocks else blocks

-- a retry under the request block of that birth (Authorized Assembler Services Guide, "Providing recovery")
abbrev pub cut_to : ℕ → List (List Block) → List (List Block)
cut_to born brackets = in_newest_bracket (from_birth born) brackets
