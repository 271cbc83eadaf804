-- A name without its padding stands at the front of its field.
use Rattle.std.proofs.Common.{◌≡◌, ℕ, List, length, take, cond, true, false, eqb, ap, ◌∙◌}
use Rattle.std.specs.List.{prefix_len}
use Rattle.std.proofs.lemmas.List.{length-take, take_min}
use Rattle.rtm_deck_operands.specs.Name.{trimmed_text}

pub take_trimmed : (bytes : List ℕ) → take (length (trimmed_text bytes)) bytes ≡ trimmed_text bytes
take_trimmed bytes =
    let n = prefix_len (λ b. cond (eqb b 32) false true) bytes in
    ap (λ k. take k bytes) (length-take n bytes) ∙ take_min n bytes
