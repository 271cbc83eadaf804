use Rattle.std.proofs.Common.{◌≡◌, ◌+◌, ◌<◌, ◌++◌, ◌∙◌, ℕ, suc, List, length, ap, map, take, drop, arith}
use Rattle.std.specs.Prelude.{slice_set, slice_index_or}
use Rattle.rtm_model.specs.Ending.{Holdings, owner_after_release}
use Rattle.rtm_ending.specs.View.{births_of}
use Rattle.rtm_ending.proofs.Births.{births_at_index, further_on, map_further}
use Rattle.rtm_ending.proofs.holds.release_in.Goals as goal

pub release-requires : goal.release-requires
release-requires c =
    let i = c.loop-lists.lists-index in
    let xs = c.args.owners.now in
    let d = c.lists-item.result in
    let within : i < length xs = omega (arith, c.loop-lists-test.true) in
    let same = ap (λ (l : List Holdings). slice_index_or l i d) c.loop-lists.invariant ∙ further_on (owner_after_release c.args.born) xs i d within in
    omega (arith, ap (births_of c.args.born) same, births_at_index c.args.born xs i d within, c.requires)

pub loop-lists-preserved : goal.loop-lists-preserved
loop-lists-preserved c =
    let f : Holdings → Holdings = owner_after_release c.args.born in
    let i = c.loop-lists.lists-index in
    let xs = c.args.owners.now in
    let d = c.lists-item.result in
    let next : suc i ≡ i + 1 = omega arith in
    let within : i < length xs = omega (arith, c.loop-lists-test.true) in
    ap (λ (l : List Holdings). slice_set l i c.release.new.self) c.loop-lists.invariant
    ∙ ap (λ (y : Holdings). slice_set (map f (take i xs) ++ drop i xs) i y) (c.release.ensures ∙ ap (λ (l : List Holdings). f (slice_index_or l i d)) c.loop-lists.invariant)
    ∙ map_further f xs i d within
    ∙ ap (λ (n : ℕ). map f (take n xs) ++ drop n xs) next
