-- What a source gave, joined over several reads.
use Rattle.std.proofs.Common.{◌≡◌, ℕ, ◌+◌, ◌==◌, ◌<◌, ◌≤◌, List, [], ◌∷◌, ◌++◌, length, take, drop, count_by, Option, None, Some, IfSome, refl, ap, sym, ◌∙◌, subst, append_assoc, arith, length-append}
use Rattle.std.specs.Option.{option_map}
use Rattle.std.proofs.Math.Seq.{drop-append-add}
use Rattle.std.proofs.lemmas.List.{append-nil, drop_at, take-append-le, length-take-le}
use Rattle.std.proofs.lemmas.List.Sums.{count_by-le-length}
use Rattle.rtm_io.specs.Stream.{Gives, Takes, TakesAtMost, IsAtEnd}
use Rattle.rtm_io.specs.Input.{GivesAll, IsTooLong, line_at}

-- a source that nothing was taken off gave nothing
pub Gives-nothing : (left : Option (List ℕ)) → Gives left left []
Gives-nothing None = refl
Gives-nothing (Some bytes) = refl

-- what two reads gave, one after the other
pub Gives-append : (a b c : Option (List ℕ)) (xs ys : List ℕ) → Gives a b xs → Gives b c ys → Gives a c (xs ++ ys)
Gives-append a b None xs ys first second = first ∙ ap (option_map (λ rest. xs ++ rest)) second
Gives-append a b (Some zs) xs ys first second =
    first ∙ (ap (option_map (λ rest. xs ++ rest)) second ∙ ap Some (sym (append_assoc xs ys zs)))

-- the bytes that a source gave were taken off its front, and then n more
Takes-after : (n : ℕ) (a b c : Option (List ℕ)) (xs : List ℕ) → Gives a b xs → Takes n b c → Takes (length xs + n) a c
Takes-after n a None c xs gives takes =
    takes ∙ sym (ap (option_map (λ bytes. drop (length xs + n) bytes)) gives)
Takes-after n a (Some ys) c xs gives takes =
    takes ∙ sym (ap (option_map (λ bytes. drop (length xs + n) bytes)) gives ∙ ap Some (drop-append-add xs ys n))

pub TakesAtMost-after : (most limit : ℕ) (a b c : Option (List ℕ)) (xs : List ℕ) → Gives a b xs → TakesAtMost most b c → length xs + most ≤ limit → TakesAtMost limit a c
TakesAtMost-after most limit a b c xs gives takes le =
    (length xs + takes.0, omega (arith, takes.1), Takes-after takes.0 a b c xs gives takes.2)

-- the bytes that a source gave were taken off its front
Takes-from_Gives : (n : ℕ) (a b : Option (List ℕ)) (xs : List ℕ) → length xs ≡ n → Gives a b xs → Takes n a b
Takes-from_Gives n a None xs len gives = sym (ap (option_map (λ bytes. drop n bytes)) gives)
Takes-from_Gives n a (Some ys) xs len gives =
    sym (ap (option_map (λ bytes. drop n bytes)) gives ∙ ap Some (drop_at xs ys n len))

pub TakesAtMost-from_Gives : (most : ℕ) (a b : Option (List ℕ)) (xs : List ℕ) → length xs ≤ most → Gives a b xs → TakesAtMost most a b
TakesAtMost-from_Gives most a b xs le gives = (length xs, le, Takes-from_Gives (length xs) a b xs refl gives)

-- a read at the end gives nothing and leaves nothing
pub IsAtEnd-after : (b c : Option (List ℕ)) (ys : List ℕ) → Gives b c ys → IsAtEnd b → IsAtEnd c
IsAtEnd-after b None ys gives end = tt
IsAtEnd-after b (Some zs) [] gives end = subst IsAtEnd gives end
IsAtEnd-after b (Some zs) (y ∷ ys) gives end = let none : y ∷ (ys ++ zs) ≡ [] = subst IsAtEnd gives end in absurd (cc)

-- what a source gave that is now at its end is all that was left
all_from_end : (a c : Option (List ℕ)) (xs : List ℕ) → Gives a c xs → IsAtEnd c → IfSome a (λ left. xs ≡ left)
all_from_end a None xs gives end = subst (λ o. IfSome o (λ left. xs ≡ left)) (sym gives) tt
all_from_end a (Some zs) xs gives end =
    subst (λ o. IfSome o (λ left. xs ≡ left)) (sym gives) (sym (ap (λ rest. xs ++ rest) end ∙ append-nil xs))

pub GivesAll-at_end : (limit : ℕ) (a c : Option (List ℕ)) (xs : List ℕ) → Gives a c xs → IsAtEnd c → length xs ≤ limit → GivesAll limit a c xs
GivesAll-at_end limit a c xs gives end le = record { all = all_from_end a c xs gives end; end = end; within = le }

-- P of all that was left, where the source gave these bytes first
left_from_Gives : (P : List ℕ → Type 0) (a b : Option (List ℕ)) (xs : List ℕ) → Gives a b xs → ((rest : List ℕ) → P (xs ++ rest)) → IfSome a P
left_from_Gives P a None xs gives of = subst (λ o. IfSome o P) (sym gives) tt
left_from_Gives P a (Some rest) xs gives of = subst (λ o. IfSome o P) (sym gives) (of rest)

-- a source that gave one byte more than the limit had too many
pub IsTooLong-past : (limit line : ℕ) (a b : Option (List ℕ)) (xs : List ℕ) → Gives a b xs → length xs ≡ limit + 1 → line ≡ line_at xs limit → IsTooLong limit a b line
IsTooLong-past limit line a b xs gives len is =
    let same : (rest : List ℕ) → line_at xs limit ≡ line_at (xs ++ rest) limit =
    λ rest. ap (λ front. 1 + count_by (λ byte. byte == 10) front) (sym (take-append-le limit xs rest (omega arith))) in
    let feeds : count_by (λ byte. byte == 10) (take limit xs) ≤ length (take limit xs) =
    count_by-le-length (λ byte. byte == 10) (take limit xs) in
    let front : length (take limit xs) ≡ limit = length-take-le limit xs (omega arith) in
    record {
      longer = left_from_Gives (λ left. limit < length left) a b xs gives (λ rest. omega (arith, length-append xs rest));
      in_line = left_from_Gives (λ left. line ≡ line_at left limit) a b xs gives (λ rest. is ∙ same rest);
      in_range = (omega arith, omega arith);
      taken = Takes-from_Gives (limit + 1) a b xs len gives;
    }
