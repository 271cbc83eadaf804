-- Holdings were born before the next entry, whatever is done to them.
use Rattle.std.proofs.Common.{◌≡◌, ℕ, zero, suc, ◌+◌, ◌<◌, ◌≤◌, Bool, true, false, cond, List, [], ◌∷◌, replicate, Result, Ok, Err, OnOk, OnErr, sym, subst, arith}
use Rattle.std.specs.Prelude.{◌==◌, not, if◌then◌else◌, filter, slice_index_or, slice_set}
use Rattle.rtm_deck_operands.specs.declared.value.Res.{Res}
use Rattle.rtm_deck_operands.specs.declared.value.Res.TheVariants.{Enq, Stor, Dsn, Timr}
use Rattle.rtm_model.specs.declared.holding.Holding.{Holding}
use Rattle.rtm_model.specs.Chains.{without_first}
use Rattle.rtm_ending.specs.View.{HoldsView}
use Rattle.rtm_model.specs.Ending.{Holdings, no_holdings, on_class, holdings_of, is_of_id, after_get, after_free, owner_after_release, after_release, AreBornBefore, IsHeldBefore, AreHeldBefore}

module _ (n : ℕ) where
  nothing_before : IsHeldBefore n no_holdings
  nothing_before = record { enq = tt; stor = tt; dsn = tt; timr = tt }

  pub none_before : (count : ℕ) → AreHeldBefore n (replicate count no_holdings)
  none_before zero = tt
  none_before (suc count) = (nothing_before, none_before count)

  -- whatever a list loses
  keep_or_drop : (b : Bool) (h : Holding) (hs : List Holding) → h.born < n → AreBornBefore n hs → AreBornBefore n (cond b (h ∷ hs) hs)
  keep_or_drop true h hs here rest = (here, rest)
  keep_or_drop false h hs here rest = rest

  before-filter : (p : Holding → Bool) (hs : List Holding) → AreBornBefore n hs → AreBornBefore n (filter p hs)
  before-filter p [] h = tt
  before-filter p (x ∷ xs) h = keep_or_drop (p x) x (filter p xs) h.0 (before-filter p xs h.1)

  drop_first : (b : Bool) (h : Holding) (hs ks : List Holding) → h.born < n → AreBornBefore n hs → AreBornBefore n ks → AreBornBefore n (if b then hs else h ∷ ks)
  drop_first true h hs ks here all rest = all
  drop_first false h hs ks here all rest = (here, rest)

  before-without_first : (p : Holding → Bool) (hs : List Holding) → AreBornBefore n hs → AreBornBefore n (without_first p hs)
  before-without_first p [] h = tt
  before-without_first p (x ∷ xs) h = drop_first (p x) x xs (without_first p xs) h.0 h.1 (before-without_first p xs h.1)

  before-released_of : (born : ℕ) (held : Holdings) → IsHeldBefore n held → IsHeldBefore n (owner_after_release born held)
  before-released_of born held h =
      let p : Holding → Bool = λ x. not (x.born == born) in
      record { enq = before-filter p held.enq h.enq; stor = before-filter p held.stor h.stor; dsn = before-filter p held.dsn h.dsn; timr = before-filter p held.timr h.timr }

  before-taken : (class : Res) (p : Holding → Bool) (held : Holdings) → IsHeldBefore n held → IsHeldBefore n (on_class class (without_first p) held)
  before-taken Enq p held h = record { enq = before-without_first p held.enq h.enq; stor = h.stor; dsn = h.dsn; timr = h.timr }
  before-taken Stor p held h = record { enq = h.enq; stor = before-without_first p held.stor h.stor; dsn = h.dsn; timr = h.timr }
  before-taken Dsn p held h = record { enq = h.enq; stor = h.stor; dsn = before-without_first p held.dsn h.dsn; timr = h.timr }
  before-taken Timr p held h = record { enq = h.enq; stor = h.stor; dsn = h.dsn; timr = before-without_first p held.timr h.timr }

  before-put : (class : Res) (x : Holding) (held : Holdings) → x.born < n → IsHeldBefore n held → IsHeldBefore n (on_class class (λ hs. x ∷ hs) held)
  before-put Enq x held below h = record { enq = (below, h.enq); stor = h.stor; dsn = h.dsn; timr = h.timr }
  before-put Stor x held below h = record { enq = h.enq; stor = (below, h.stor); dsn = h.dsn; timr = h.timr }
  before-put Dsn x held below h = record { enq = h.enq; stor = h.stor; dsn = (below, h.dsn); timr = h.timr }
  before-put Timr x held below h = record { enq = h.enq; stor = h.stor; dsn = h.dsn; timr = (below, h.timr) }

  before-set : (owners : List Holdings) (i : ℕ) (held : Holdings) → AreHeldBefore n owners → IsHeldBefore n held → AreHeldBefore n (slice_set owners i held)
  before-set [] i held h here = tt
  before-set (x ∷ xs) zero held h here = (here, h.1)
  before-set (x ∷ xs) (suc i) held h here = (h.0, before-set xs i held h.1 here)

  before_at : (owners : List Holdings) (i : ℕ) → AreHeldBefore n owners → IsHeldBefore n (slice_index_or owners i no_holdings)
  before_at [] i h = nothing_before
  before_at (x ∷ xs) zero h = h.0
  before_at (x ∷ xs) (suc i) h = before_at xs i h.1

  pub got_before : (x : Holding) (owners : List Holdings) → x.born < n → AreHeldBefore n owners → AreHeldBefore n (after_get x owners)
  got_before x owners below h = before-set owners x.owner _ h (before-put x.class x (holdings_of x.owner owners) below (before_at owners x.owner h))

  pub freed_before : (owner : ℕ) (class : Res) (id : ℕ) (owners : List Holdings) → AreHeldBefore n owners → AreHeldBefore n (after_free owner class id owners)
  freed_before owner class id owners h = before-set owners owner _ h (before-taken class (is_of_id id) (holdings_of owner owners) (before_at owners owner h))

  pub released_before : (born : ℕ) (owners : List Holdings) → AreHeldBefore n owners → AreHeldBefore n (after_release born owners)
  released_before born [] h = tt
  released_before born (x ∷ xs) h = (before-released_of born x h.0, released_before born xs h.1)

-- a later entry
later : (m n : ℕ) (hs : List Holding) → m ≤ n → AreBornBefore m hs → AreBornBefore n hs
later m n [] le h = tt
later m n (x ∷ xs) le h = (omega (arith, h.0), later m n xs le h.1)

pub later_before : (m n : ℕ) (owners : List Holdings) → m ≤ n → AreHeldBefore m owners → AreHeldBefore n owners
later_before m n [] le h = tt
later_before m n (x ∷ xs) le h =
    (record { enq = later m n x.enq le h.0.enq; stor = later m n x.stor le h.0.stor; dsn = later m n x.dsn le h.0.dsn; timr = later m n x.timr le h.0.timr }, later_before m n xs le h.1)

-- whether there was room or not
pub held_before_next : {X Y : Type 0} (r : Result X Y) (h : Holding) (old new : HoldsView) → OnOk r (new ≡ record old { owners = after_get h old.owners }) → OnErr r (new ≡ old) → AreHeldBefore h.born old.owners → AreHeldBefore (h.born + 1) new.owners
held_before_next (Ok x) h old new ok err before =
    subst (λ (v : HoldsView). AreHeldBefore (h.born + 1) v.owners) (sym ok) (got_before (h.born + 1) h old.owners (omega arith) (later_before h.born (h.born + 1) old.owners (omega arith) before))
held_before_next (Err y) h old new ok err before =
    subst (λ (v : HoldsView). AreHeldBefore (h.born + 1) v.owners) (sym err) (later_before h.born (h.born + 1) old.owners (omega arith) before)
