-- The FRRs of a unit, and behind them its ESTAE routines, stand by falling birth.
use Rattle.std.proofs.Common.{ℕ, ◌<◌, List, [], ◌∷◌, ◌++◌, length, refl, inl, inr}
use Rattle.std.specs.Prelude.{IsTrue}
use Rattle.rtm_deck_items.specs.View.{DeckView}
use Rattle.rtm_deck_items.specs.WellFormed.{is_well_formed}
use Rattle.rtm_model.specs.declared.entry.Entry.{Entry}
use Rattle.rtm_model.specs.declared.reg.Reg.{Reg}
use Rattle.rtm_model.specs.inner.Soundness.{IsCoreSound, IsSound, RoutinesFall}
use Rattle.rtm_model.specs.Advance.{world}
use Rattle.rtm_model.specs.Eligible.{AreFalling}
use Rattle.rtm_model.specs.Legal.{Legal}
use Rattle.rtm_model.specs.Levels.{depth_in}
use Rattle.rtm_model.specs.Moments.{IsIn}
use Rattle.rtm_model.specs.World.{Core, core_at}
use Rattle.rtm_law_chains.proofs.Distinct.{all_younger}
use Rattle.rtm_law_sound.proofs.Histories.{world_sound}

falls_so : (n depth : ℕ) (xs : List Reg) → RoutinesFall n depth xs → AreFalling xs
falls_so n depth [] falls = tt
falls_so n depth (x ∷ []) falls = tt
falls_so n depth (x ∷ older ∷ xs) falls = (falls.2.0, falls_so x.born x.depth (older ∷ xs) falls.2)

falls_on : (n m depth other : ℕ) (xs ys : List Reg) → RoutinesFall n depth xs → RoutinesFall m other ys → ((x y : Reg) → IsIn x xs → IsIn y ys → y.born < x.born) → AreFalling (xs ++ ys)
falls_on n m depth other [] ys falls behind younger = falls_so m other ys behind
falls_on n m depth other (x ∷ []) [] falls behind younger = tt
falls_on n m depth other (x ∷ []) (y ∷ ys) falls behind younger = (younger x y (inl refl) (inl refl), falls_so m other (y ∷ ys) behind)
falls_on n m depth other (x ∷ older ∷ xs) ys falls behind younger =
    (falls.2.0, falls_on x.born m x.depth other (older ∷ xs) ys falls.2 behind (λ a b here there. younger a b (inr here) there))

pub one_order : (d : DeckView) (h : List Entry) (u : ℕ) → IsTrue (is_well_formed d) → Legal d h → AreFalling (Core.frrs (core_at u (world d h)) ++ Core.estaes (core_at u (world d h)))
one_order d h u deck legal =
    let c : Core = core_at u (world d h) in
    let sound : IsCoreSound d (length h) c = IsSound.cores (world_sound d h deck legal) u in
    falls_on (length h) (length h) (depth_in c.levels) (depth_in c.levels) c.frrs c.estaes sound.frrs_fall sound.estaes_fall
    (λ frr estae here there. all_younger d h deck legal u frr estae here there)
