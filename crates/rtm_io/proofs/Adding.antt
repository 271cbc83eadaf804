-- What a sink took, joined over several writes.
use Rattle.std.proofs.Common.{◌≡◌, ℕ, ◌+◌, ◌-◌, List, ◌++◌, length, take, drop, Option, None, Some, ap, ◌∙◌, append_assoc, arith, length-drop}
use Rattle.std.specs.Option.{option_map}
use Rattle.std.proofs.Math.Seq.{take-add}
use Rattle.std.proofs.lemmas.List.{take_all}
use Rattle.rtm_io.specs.Stream.{Appends}

-- what two writes added, one after the other
Appends-append : (a b c : Option (List ℕ)) (xs ys : List ℕ) → Appends a b xs → Appends b c ys → Appends a c (xs ++ ys)
Appends-append None b c xs ys first second = second ∙ ap (option_map (λ written. written ++ ys)) first
Appends-append (Some zs) b c xs ys first second =
    second ∙ (ap (option_map (λ written. written ++ ys)) first ∙ ap Some (append_assoc zs xs ys))

-- a part that reaches to the end
rest_of : (n : ℕ) (bytes : List ℕ) → take (length bytes - n) (drop n bytes) ≡ drop n bytes
rest_of n bytes = take_all (length bytes - n) (drop n bytes) (omega (arith, length-drop n bytes))

-- a front of the bytes, and then k of the rest
pub Appends_take : (a b c : Option (List ℕ)) (n k : ℕ) (bytes : List ℕ) → Appends a b (take n bytes) → Appends b c (take k (take (length bytes - n) (drop n bytes))) → Appends a c (take (n + k) bytes)
Appends_take a b c n k bytes first second =
    rw take-add (Appends-append a b c (take n bytes) (take k (drop n bytes)) first (rw rest_of at second))
