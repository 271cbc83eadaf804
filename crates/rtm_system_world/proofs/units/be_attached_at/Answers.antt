use Rattle.std.proofs.Common.{◌≡◌, ℕ, ◌+◌, ◌<◌, ◌≤◌, Option, List, length, take, drop, set, ap, ◌∙◌, arith, get_or}
use Rattle.rtm_model.specs.declared.reg.Reg.{Reg}
use Rattle.rtm_model.specs.Chains.{inherited_estais}
use Rattle.rtm_model.specs.World.{Core, UnitOfWork, at_birth, unborn_unit}
use Rattle.rtm_system_world.proofs.Splits.{back_changed, front_changed, read_back, read_front}
use Rattle.rtm_system_world.proofs.units.be_attached_at.Goals as goal

same_birth : (born prog : ℕ) (own : Option Reg) (a b : List Reg) (u v : UnitOfWork) → a ≡ b → u ≡ v → at_birth born prog (inherited_estais own a) u ≡ at_birth born prog (inherited_estais own b) v
same_birth born prog own a b u v e f = ap (λ (l : List Reg). at_birth born prog (inherited_estais own l) u) e ∙ ap (λ (x : UnitOfWork). at_birth born prog (inherited_estais own b) x) f

below : (unit mother : ℕ) → unit ≤ mother → (unit ≡ mother → ⊥) → unit < mother
below unit mother h ne = omega (arith, h, ne)

pub returns-then-mother-unit : goal.returns-then-mother-unit
returns-then-mother-unit c =
    let items = c.args.units.now.items in
    let f : c.split_at_mut-front.result.0.now ≡ take c.args.unit items = cc in
    let b : c.split_at_mut-front.result.1.now ≡ drop c.args.unit items = cc in
    let len : c.args.units.now.len ≡ length items = omega arith in
    let at_zero : c.args.unit + 0 ≡ c.args.unit = omega arith in
    let mother = read_front items c.split_at_mut-front.result.0.now c.args.unit c.args.mother c.index-front-mother.result unborn_unit f c.if-mother-unit.true (omega arith) in
    let child = read_back items c.split_at_mut-front.result.1.now c.args.unit 0 c.index-back-0.result unborn_unit b (omega arith) ∙ ap (λ (k : ℕ). get_or items k unborn_unit) at_zero in
    back_changed items c.split_at_mut-front.result.0.now c.split_at_mut-front.result.1.now c.args.unit c.args.units.now.len c.be_attached.new.self f b c.requires.in_range len
    ∙ ap (set items c.args.unit) (c.be_attached.ensures ∙ same_birth c.args.born c.args.prog c.args.own _ _ _ _ (c.estais.ensures ∙ ap (λ (x : UnitOfWork). Core.estais (UnitOfWork.core x)) mother) child)

pub returns-else-mother-unit : goal.returns-else-mother-unit
returns-else-mother-unit c =
    let items = c.args.units.now.items in
    let front = c.split_at_mut-front-else-mother-unit.result.0.now in
    let back = c.split_at_mut-front-else-mother-unit.result.1.now in
    let f : front ≡ take c.args.mother items = cc in
    let b : back ≡ drop c.args.mother items = cc in
    let len : c.args.units.now.len ≡ length items = omega arith in
    let less : c.args.unit < c.args.mother = below c.args.unit c.args.mother c.if-mother-unit.false c.requires.other in
    let at_zero : c.args.mother + 0 ≡ c.args.mother = omega arith in
    let mother = read_back items back c.args.mother 0 c.index-back-0-else-mother-unit.result unborn_unit b (omega arith) ∙ ap (λ (k : ℕ). get_or items k unborn_unit) at_zero in
    let child = read_front items front c.args.mother c.args.unit c.index-front-unit.result unborn_unit f less (omega arith) in
    front_changed items front back c.args.mother c.args.unit c.args.units.now.len c.be_attached-else-mother-unit.new.self f b less (omega arith) len
    ∙ ap (set items c.args.unit) (c.be_attached-else-mother-unit.ensures ∙ same_birth c.args.born c.args.prog c.args.own _ _ _ _ (c.estais-else-mother-unit.ensures ∙ ap (λ (x : UnitOfWork). Core.estais (UnitOfWork.core x)) mother) child)
