-- What an entry that can be applied keeps of its own unit.
use Rattle.std.proofs.Common.{◌≡◌, ℕ, ◌+◌, ◌<◌, Bool, true, false, ◌&&◌, List, [], refl, arith}
use Rattle.rtm_codes.specs.declared.code.Code.{Code}
use Rattle.rtm_deck_items.specs.View.{DeckView}
use Rattle.rtm_deck_items.specs.Reading.{op_at}
use Rattle.rtm_model.specs.declared.abort.Abort.{Abort}
use Rattle.rtm_model.specs.declared.entry.Class.{Class}
use Rattle.rtm_model.specs.declared.entry.What.{What}
use Rattle.rtm_model.specs.declared.entry.What.TheVariants as whats
use Rattle.rtm_model.specs.Aborts.{abort_named, after_landing}
use Rattle.rtm_model.specs.inner.Applies.{CanMake}
use Rattle.rtm_model.specs.OwnChange.{after_begin, own_change, place_after, routine_named}
use Rattle.rtm_model.specs.NextEntry.{landed_record}
use Rattle.rtm_model.specs.Record.{mark_of}
use Rattle.rtm_model.specs.Tasks.{Life, Tree, is_living, life_of}
use Rattle.rtm_model.specs.World.{Core, UnitOfWork, World, core_at, unit_at}
use Rattle.rtm_law_sound_region.proofs.Own.{card_kept, entered_kept, error_kept, landed_kept, left_kept, placed_deep}
use Rattle.rtm_law_sound_region.proofs.Pending.{landed_pending, none_pending}
use Rattle.rtm_law_sound_region.proofs.Units.{IsKept, IsUnitSound, is_up, living_not_dormant, unit_kept}

-- the unit of the number v, of a deck of m units, lives; the master isn't asked
abbrev pub LivesBelow : ℕ → ℕ → Life → Type 0
LivesBelow m v life = v < m → is_living life ≡ true

-- control blocks changed, and the same aborts pending
core_kept : (m n born v : ℕ) (life : Life) (unit : UnitOfWork) (c : Core) → IsUnitSound m n born v life unit → LivesBelow m v life
    → IsKept (is_up life unit.core) unit.core c → IsUnitSound m n born v life (record unit { core = c })
core_kept m n born v life unit c s lives k = unit_kept m n born v life unit c unit.pending s k s.pending (λ e. e) lives

landed_none : (class : Class) (from : ℕ) (aborts : List Abort) → aborts ≡ [] → after_landing class from aborts ≡ []
landed_none class from aborts e = rw e refl

never : (b : Bool) → (b && false) ≡ false
never true = refl
never false = refl

-- the unit begins to end
begun_kept : (code : Code) (m n born v : ℕ) (life : Life) (unit : UnitOfWork) → IsUnitSound m n born v life unit → LivesBelow m v life
    → IsUnitSound m n born v life (record unit { core = after_begin code unit.core; pending = [] })
begun_kept code m n born v life unit s lives = record {
  blocks = rw (never (is_living life)) refl;
  dormant = λ lt dormant. absurd (living_not_dormant life dormant (lives lt));
  estais = omega (arith, s.estais);
  pending = none_pending n;
  quiet = λ down. refl;
  outermost = λ master down. refl;
}

-- what an entry keeps of its own unit
pub own_kept : (d : DeckView) (n m born : ℕ) (w : World) (u : ℕ) (what : What) → CanMake d w u what → LivesBelow m u (life_of u (Tree.lives w.tree))
    → IsUnitSound m (n + 1) born u (life_of u (Tree.lives w.tree)) (unit_at u w.units)
    → IsUnitSound m (n + 1) born u (life_of u (Tree.lives w.tree)) (own_change d n w.managers what (unit_at u w.units))
own_kept d n m born w u (whats.Exec at rc) h lives s =
    core_kept m (n + 1) born u (life_of u (Tree.lives w.tree)) (unit_at u w.units) _ s lives
    (card_kept n (place_after d at rc (op_at d at.prog at.op)) (op_at d at.prog at.op) _ (core_at u w) s.blocks)
own_kept d n m born w u (whats.Error at mark) h lives s =
    core_kept m (n + 1) born u (life_of u (Tree.lives w.tree)) (unit_at u w.units) _ s lives
    (error_kept _ _ (core_at u w) s.blocks (placed_deep _ (core_at u w) s.blocks h.0.some))
own_kept d n m born w u (whats.Land class from mark) h lives s =
    unit_kept m (n + 1) born u (life_of u (Tree.lives w.tree)) (unit_at u w.units) _ _ s
    (landed_kept (abort_named class from (UnitOfWork.pending (unit_at u w.units))) _ (core_at u w) s.blocks h.0)
    (landed_pending (n + 1) class from (λ abort. mark ≡ mark_of (landed_record abort)) _ h.2 s.pending) (landed_none class from _) lives
own_kept d n m born w u (whats.Enter kind reg mark bare) h lives s =
    core_kept m (n + 1) born u (life_of u (Tree.lives w.tree)) (unit_at u w.units) _ s lives
    (entered_kept n bare (routine_named kind reg w.managers (core_at u w)) _ (core_at u w) s.blocks)
own_kept d n m born w u (whats.Leave kind reg verdict logrec dump) h lives s =
    core_kept m (n + 1) born u (life_of u (Tree.lives w.tree)) (unit_at u w.units) _ s lives
    (left_kept kind reg verdict _ (core_at u w) s.blocks h.inner)
own_kept d n m born w u (whats.Begin code dump) h lives s = begun_kept code m (n + 1) born u (life_of u (Tree.lives w.tree)) (unit_at u w.units) s lives
own_kept d n m born w u _ h lives s = s
