use Rattle.std.proofs.Common.{◌≡◌, ◌∙◌, ap, sym, length}
use Rattle.std.proofs.lemmas.List.{length-map}
use Rattle.rtm_model.specs.Ending.{owner_after_release, after_release}
use Rattle.rtm_ending.proofs.Births.{kept_fewer, births-after_release, whole_slice}
use Rattle.rtm_ending.proofs.holds.Holds.release.Goals as goal

pub invariant_of-self : goal.invariant_of-self
invariant_of-self c =
    let items = c.self.inside.owners.items in
    let now : c.release_in.new.owners ≡ after_release c.args.born items = c.release_in.ensures ∙ ap (after_release c.args.born) c.deref_mut.ensures.value in
    let same : length (after_release c.args.born items) ≡ length items = length-map items (owner_after_release c.args.born) in
    let size : c.self.inside.owners.len ≡ length items = c.self.inside.owners.ok.0 in
    let whole = whole_slice c.self.inside.owners.len (after_release c.args.born items) items (same ∙ sym size) (sym size) in
    rw (now, whole) (kept_fewer c.self.inside.units items _ c.self.invariant same (λ b. births-after_release b c.args.born items))
