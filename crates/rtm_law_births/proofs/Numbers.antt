-- The test that two numbers differ, as a fact.
use Rattle.std.proofs.Common.{◌≡◌, ℕ, true, not}
use Rattle.std.specs.Prelude.{◌==◌}
use Rattle.std.proofs.lemmas.Bool.{eqb-false, ne_eqb, not-true, not_from_false}

pub other : (a b : ℕ) → not (a == b) ≡ true → a ≡ b → ⊥
other a b e = eqb-false a b (not-true (a == b) e)

pub differs : (a b : ℕ) → (a ≡ b → ⊥) → not (a == b) ≡ true
differs a b h = not_from_false (a == b) (ne_eqb a b h)
