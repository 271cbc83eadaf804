-- What holdings keep.
use Rattle.std.proofs.Common.{◌≡◌, ℕ, ◌+◌, ◌<◌, ◌≤◌, Bool, true, false, cond, List, [], ◌∷◌, length, set, refl, ◌∙◌, arith}
use Rattle.std.proofs.lemmas.List.{length-set}
use Rattle.rtm_deck_operands.specs.declared.value.Res.{Res}
use Rattle.rtm_deck_operands.specs.declared.value.Res.TheVariants.{Dsn, Enq, Stor, Timr}
use Rattle.rtm_model.specs.declared.holding.Holding.{Holding}
use Rattle.rtm_model.specs.Limits.{most_holdings}
use Rattle.rtm_model.specs.Chains.{without_first}
use Rattle.rtm_model.specs.Ending.{Holdings, after_free, after_get, held_count, holdings_of, is_of_id, no_holdings, of_class, on_class}
use Rattle.rtm_model.specs.inner.Soundness.{AreHeld, AreHoldings, HoldingsFall, IsHolding}
use Rattle.rtm_model.proofs.Lists.{all_without_first, each_set, length-without_first-le}

-- the holdings of all owners after n entries, of a deck of m units
pub record AreOwners (m n : ℕ) (owners : List Holdings) : Type 0 where
  pub owners_len : length owners ≡ m + 1
  pub each : (v : ℕ) → AreHoldings n v (holdings_of v owners)

-- births

fall_before : (k l : ℕ) (held : List Holding) → k ≤ l → HoldingsFall k held → HoldingsFall l held
fall_before k l [] le h = tt
fall_before k l (holding ∷ older) le h = (omega (arith, h.0), h.1)

fall_if : (n : ℕ) (b : Bool) (holding : Holding) (older rest : List Holding) → holding.born < n → HoldingsFall holding.born older → HoldingsFall holding.born rest → HoldingsFall n (cond b older (holding ∷ rest))
fall_if n true holding older rest lt h k = fall_before holding.born n older (omega arith) h
fall_if n false holding older rest lt h k = (lt, k)

fall_without : (n : ℕ) (p : Holding → Bool) (held : List Holding) → HoldingsFall n held → HoldingsFall n (without_first p held)
fall_without n p [] h = tt
fall_without n p (holding ∷ older) h = fall_if n (p holding) holding older (without_first p older) h.0 h.1 (fall_without holding.born p older h.1)

-- one more entry

held_later : (n owner : ℕ) (class : Res) (held : List Holding) → AreHeld n owner class held → AreHeld (n + 1) owner class held
held_later n owner class held s = record { each = s.each; fall = fall_before n (n + 1) held (omega arith) s.fall }

holdings_later : (n owner : ℕ) (held : Holdings) → AreHoldings n owner held → AreHoldings (n + 1) owner held
holdings_later n owner held s = record {
  few = s.few;
  enq = held_later n owner Enq held.enq s.enq;
  stor = held_later n owner Stor held.stor s.stor;
  dsn = held_later n owner Dsn held.dsn s.dsn;
  timr = held_later n owner Timr held.timr s.timr;
}

pub owners_later : (m n : ℕ) (owners : List Holdings) → AreOwners m n owners → AreOwners m (n + 1) owners
owners_later m n owners s = record { owners_len = s.owners_len; each = λ v. holdings_later n v (holdings_of v owners) (s.each v) }

-- the holdings of one class are changed

class_of : (n owner : ℕ) (class : Res) (held : Holdings) → AreHoldings n owner held → AreHeld n owner class (of_class class held)
class_of n owner Enq held s = s.enq
class_of n owner Stor held s = s.stor
class_of n owner Dsn held s = s.dsn
class_of n owner Timr held s = s.timr

class_changed : (n owner : ℕ) (class : Res) (f : List Holding → List Holding) (held : Holdings) → AreHoldings n owner held → AreHeld n owner class (f (of_class class held))
    → held_count (on_class class f held) ≤ most_holdings → AreHoldings n owner (on_class class f held)
class_changed n owner Enq f held s h few = record { few = few; enq = h; stor = s.stor; dsn = s.dsn; timr = s.timr }
class_changed n owner Stor f held s h few = record { few = few; enq = s.enq; stor = h; dsn = s.dsn; timr = s.timr }
class_changed n owner Dsn f held s h few = record { few = few; enq = s.enq; stor = s.stor; dsn = h; timr = s.timr }
class_changed n owner Timr f held s h few = record { few = few; enq = s.enq; stor = s.stor; dsn = s.dsn; timr = h }

-- the holdings of one owner are changed
owner_changed : (m n owner : ℕ) (owners : List Holdings) (held : Holdings) → AreOwners m n owners → AreHoldings n owner held → AreOwners m n (set owners owner held)
owner_changed m n owner owners held s here = record {
  owners_len = length-set owners owner held ∙ s.owners_len;
  each = each_set (AreHoldings n) no_holdings owners owner held s.each here;
}

-- GET

got_count : (class : Res) (holding : Holding) (held : Holdings) → held_count held < most_holdings → held_count (on_class class (λ held. holding ∷ held) held) ≤ most_holdings
got_count Enq holding held lt = omega arith
got_count Stor holding held lt = omega arith
got_count Dsn holding held lt = omega arith
got_count Timr holding held lt = omega arith

got_class : (n owner : ℕ) (class : Res) (holding : Holding) (held : List Holding) → IsHolding owner class holding → holding.born ≡ n → AreHeld n owner class held
    → AreHeld (n + 1) owner class (holding ∷ held)
got_class n owner class holding held h e s = record { each = (h, s.each); fall = (omega arith, rw e s.fall) }

pub owners_got : (m n owner id : ℕ) (class : Res) (owners : List Holdings) → id ≤ 999999 → held_count (holdings_of owner owners) < most_holdings → AreOwners m n owners
    → AreOwners m (n + 1) (after_get (record { born = n; class = class; id = id; owner = owner }) owners)
owners_got m n owner id class owners few room s =
    let held = holdings_of owner owners in
    let holding : Holding = record { born = n; class = class; id = id; owner = owner } in
    owner_changed m (n + 1) owner owners (on_class class (λ held. holding ∷ held) held) (owners_later m n owners s)
    (class_changed (n + 1) owner class (λ held. holding ∷ held) held (holdings_later n owner held (s.each owner))
    (got_class n owner class holding (of_class class held) (record { owner_is = refl; class_is = refl; id = few }) refl (class_of n owner class held (s.each owner)))
    (got_count class holding held room))

-- FREE, and a release

freed_count : (class : Res) (p : Holding → Bool) (held : Holdings) → held_count held ≤ most_holdings → held_count (on_class class (without_first p) held) ≤ most_holdings
freed_count Enq p held le = omega (arith, length-without_first-le p held.enq)
freed_count Stor p held le = omega (arith, length-without_first-le p held.stor)
freed_count Dsn p held le = omega (arith, length-without_first-le p held.dsn)
freed_count Timr p held le = omega (arith, length-without_first-le p held.timr)

freed_class : (n owner : ℕ) (class : Res) (p : Holding → Bool) (held : List Holding) → AreHeld n owner class held → AreHeld n owner class (without_first p held)
freed_class n owner class p held s = record { each = all_without_first (IsHolding owner class) p held s.each; fall = fall_without n p held s.fall }

pub owners_freed : (m n owner : ℕ) (class : Res) (id : ℕ) (owners : List Holdings) → AreOwners m n owners → AreOwners m n (after_free owner class id owners)
owners_freed m n owner class id owners s =
    let held = holdings_of owner owners in
    owner_changed m n owner owners (on_class class (without_first (is_of_id id)) held) s
    (class_changed n owner class (without_first (is_of_id id)) held (s.each owner)
    (freed_class n owner class (is_of_id id) (of_class class held) (class_of n owner class held (s.each owner)))
    (freed_count class (is_of_id id) held (AreHoldings.few (s.each owner))))
