-- A task that is attached finds room for the ESTAI routines that it has at its birth.
use Rattle.std.proofs.Common.{◌≡◌, ℕ, zero, suc, ◌<◌, ◌≤◌, Bool, true, false, cond, List, [], ◌∷◌, length, Option, Some, None, sym, subst, arith}
use Rattle.std.specs.Prelude.{IsTrue, filter, not}
use Rattle.rtm_deck_items.specs.View.{DeckView}
use Rattle.rtm_deck_items.specs.WellFormed.{is_well_formed}
use Rattle.rtm_deck_items.proofs.FormFacts.{Limits, limits}
use Rattle.rtm_model.specs.declared.reg.Reg.{Reg}
use Rattle.rtm_model.specs.inner.Applies.{IsDormant}
use Rattle.rtm_model.specs.Chains.{inherited_estais}
use Rattle.rtm_model.specs.Limits.{most_estais}
use Rattle.rtm_model.specs.inner.Soundness.{IsSound, born_units}
use Rattle.rtm_model.specs.Tasks.{Life, Tree, is_dormant, life_of}
use Rattle.rtm_model.specs.World.{Core, World, core_at}
use Rattle.rtm_model.proofs.Lists.{length-filter-le}

born_rest : (b : Bool) (life : Life) (borns : List Life) (n : ℕ) → length borns < n → length (cond b (life ∷ borns) borns) < suc n
born_rest true life borns n h = omega (arith, h)
born_rest false life borns n h = omega (arith, h)

none_here : (b : Bool) (life : Life) (borns : List Life) (n : ℕ) → b ≡ true → length borns ≤ n → length (cond (not b) (life ∷ borns) borns) < suc n
none_here true life borns n same h = omega (arith, h)
none_here false life borns n same h = absurd cc

-- where one unit is dormant, fewer were born than there are
fewer_born : (lives : List Life) (unit : ℕ) → unit < length lives → is_dormant (life_of unit lives) ≡ true → born_units lives < length lives
fewer_born [] unit h dormant = absurd (omega (arith, h))
fewer_born (life ∷ lives) zero h dormant = none_here (is_dormant life) life (filter (λ life. not (is_dormant life)) lives) (length lives) dormant (length-filter-le (λ life. not (is_dormant life)) lives)
fewer_born (life ∷ lives) (suc unit) h dormant = born_rest (not (is_dormant life)) life (filter (λ life. not (is_dormant life)) lives) (length lives) (fewer_born lives unit (omega (arith, h)) dormant)

one_more : (own : Option Reg) (mother : List Reg) (born units : ℕ) → length mother < born → born < units → units ≤ 64 → length (inherited_estais own mother) ≤ most_estais
one_more None mother born units h i j = omega (arith, h, i, j)
one_more (Some reg) mother born units h i j = omega (arith, h, i, j)

pub can_inherit : (d : DeckView) (n : ℕ) (w : World) (u unit : ℕ) (own : Option Reg) → IsTrue (is_well_formed d) → IsSound d n w → unit < length d.units → IsDormant w unit
    → length (inherited_estais own (Core.estais (core_at u w))) ≤ most_estais
can_inherit d n w u unit own fits s there dormant =
    let lives = Tree.lives w.tree in
    one_more own (Core.estais (core_at u w)) (born_units lives) (length lives) (s.estais u)
    (fewer_born lives unit (subst (λ (k : ℕ). unit < k) (sym s.lives_len) there) dormant)
    (subst (λ (k : ℕ). k ≤ 64) (sym s.lives_len) (Limits.units (limits d fits)))
