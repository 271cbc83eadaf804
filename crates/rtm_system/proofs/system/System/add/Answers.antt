use Rattle.std.proofs.Common.{◌≡◌, ◌<◌, ◌≤◌, ap, arith, length, subst, sym, ◌∙◌}
use Rattle.rtm_deck_items.proofs.FormFacts.{Limits, limits}
use Rattle.rtm_model.specs.declared.entry.Entry.{Entry}
use Rattle.rtm_model.specs.Advance.{advance, world}
use Rattle.rtm_model.specs.Legal.{MayFollow}
use Rattle.rtm_system_world.specs.Follows.{Follows}
use Rattle.rtm_system.specs.View.{SystemView}
use Rattle.rtm_system.proofs.Standing.{adds, can_follow, last_is}
use Rattle.rtm_system.proofs.system.System.add.Goals as goal

pub overflow_cast-index : goal.overflow_cast-index
overflow_cast-index c =
    let room = subst (λ (v : SystemView). length v.trace < v.deck.limit) (sym c.self.view_is) c.requires.room in
    omega (arith, room, Limits.most (limits c.self.inside.deck c.keeps_its_form.ensures.well_formed))

pub apply-requires-clause-follows : goal.apply-requires-clause-follows
apply-requires-clause-follows c =
    let follows = subst (λ (v : SystemView). MayFollow v.deck (world v.deck v.trace) (length v.trace) c.args.entry c.args.entry.what) (sym c.self.view_is) c.requires.follows in
    let count : c.len-count.result ≡ length c.self.inside.trace.items = omega arith in
    let same = c.index.ensures ∙ last_is c.self.inside.trace.items _ c.args.entry c.len-count.result count c.push_reserved.ensures.items c.index.result.now in
    subst (λ (e : Entry). Follows c.self.inside.deck c.len-count.result c.self.inside.world e) (sym same)
    (can_follow c.self.inside.deck c.self.inside.world c.self.inside.trace.items _ _ c.len-count.result c.args.entry c.keeps_its_form.ensures.well_formed c.self.invariant count follows)

pub invariant_of-self : goal.invariant_of-self
invariant_of-self c =
    let room = subst (λ (v : SystemView). length v.trace < v.deck.limit) (sym c.self.view_is) c.requires.room in
    let follows = subst (λ (v : SystemView). MayFollow v.deck (world v.deck v.trace) (length v.trace) c.args.entry c.args.entry.what) (sym c.self.view_is) c.requires.follows in
    let last = subst (λ (v : SystemView). c.args.last ≤ length v.deck.units) (sym c.self.view_is) c.requires.last in
    let count : c.len-count.result ≡ length c.self.inside.trace.items = omega arith in
    let same = c.index.ensures ∙ last_is c.self.inside.trace.items _ c.args.entry c.len-count.result count c.push_reserved.ensures.items c.index.result.now in
    let changed = c.apply.ensures ∙ ap (λ (e : Entry). advance c.self.inside.deck c.self.inside.world c.len-count.result e) same in
    adds c.self.inside.deck c.self.inside.world _ c.self.inside.trace.items _ _ _ _ c.args.last c.len-count.result c.args.entry c.self.invariant room follows count changed c.push_reserved.ensures.items c.push_reserved.ensures.capacity last
