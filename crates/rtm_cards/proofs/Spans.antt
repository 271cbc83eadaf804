-- Parts of parts of a list.
use Rattle.std.proofs.Common.{◌≡◌, ℕ, ◌+◌, ◌-◌, ◌≤◌, List, [], length, take, drop, refl, arith, length-take, length-drop}
use Rattle.std.proofs.lemmas.List.{drop-take, drop-drop}
use Rattle.rtm_cards.specs.declared.span.Span.{Span}
use Rattle.rtm_cards.specs.Span.{IsWithin, text_of}

-- what is left of a part
pub part_rest : (xs : List ℕ) (a b k : ℕ) → a + k ≤ b → take (b - (a + k)) (drop (a + k) xs) ≡ drop k (take (b - a) (drop a xs))
part_rest xs a b k h =
    let e : b - a ≡ k + (b - (a + k)) = omega arith in
    rw (e, drop-take, drop-drop) refl

-- how many bytes a span has
pub text_length : (bytes : List ℕ) (s : Span) → IsWithin bytes s → s.from + length (text_of bytes s) ≡ s.to
text_length bytes s h =
    let o : s.from ≤ s.to = h.ordered in
    let w : s.to ≤ length bytes = h.within in
    omega (arith, length-take (s.to - s.from) (drop s.from bytes), length-drop s.from bytes)

-- a span that ends where it begins
pub text_empty : (bytes : List ℕ) (s : Span) → s.to ≤ s.from → text_of bytes s ≡ []
text_empty bytes s h =
    let e : s.to - s.from ≡ 0 = omega arith in
    rw e refl
