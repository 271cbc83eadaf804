-- Room in lists of request blocks.
use Rattle.std.proofs.Common.{◌≡◌, List, [], ◌∷◌, length, refl}
use Rattle.rtm_model.specs.declared.block.Block.{Block}
use Rattle.rtm_model.specs.declared.block.Place.{Place}
use Rattle.rtm_model.specs.Blocks.{newest_bracket, with_newest_at, with_place}

newest_placed : (place : Place) (blocks : List Block) → length (with_newest_at place blocks) ≡ length blocks
newest_placed place [] = refl
newest_placed place (block ∷ older) = refl

-- where the newest request block stands changes nothing of how many there are
pub placed_len : (place : Place) (brackets : List (List Block)) → length (newest_bracket (with_place place brackets)) ≡ length (newest_bracket brackets)
placed_len place [] = refl
placed_len place (blocks ∷ outer) = newest_placed place blocks
