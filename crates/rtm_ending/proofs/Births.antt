-- How many holdings were born at an entry, as the lists change.
use Rattle.std.proofs.Common.{◌≡◌, ℕ, zero, suc, ◌+◌, ◌-◌, ◌<◌, ◌≤◌, Bool, true, false, cond, List, [], ◌∷◌, length, replicate, take, drop, ◌++◌, refl, sym, ap, ◌∙◌, arith}
use Rattle.std.specs.Prelude.{◌==◌, not, if◌then◌else◌, map, filter, slice_index_or, slice_set}
use Rattle.std.proofs.lemmas.List.{length-replicate, drop_all, append-nil, take_all}
use Rattle.std.proofs.lemmas.Bool.Decides.{nat_tests}
use Rattle.rtm_deck_operands.specs.declared.value.Res.{Res}
use Rattle.rtm_deck_operands.specs.declared.value.Res.TheVariants.{Enq, Stor, Dsn, Timr}
use Rattle.rtm_model.specs.declared.holding.Holding.{Holding}
use Rattle.rtm_model.specs.Chains.{without_first}
use Rattle.rtm_model.specs.Ending.{Holdings, no_holdings, on_class, holdings_of, is_of_id, after_get, after_free, without_holding, owner_after_release, after_release, AreBornBefore, IsHeldBefore, AreHeldBefore}
use Rattle.rtm_ending.specs.View.{births_at, births_of, births_among, AreKept}

-- one or none, by a test
one_if : Bool → ℕ
one_if b = cond b 1 0

-- Of a list

-- a holding that isn't there isn't missed
kept_or_not : (b : Bool) (h : Holding) (hs ks : List Holding) (n : ℕ) → (cond b 1 0) + n ≡ 0 → (n ≡ 0 → ks ≡ hs) → cond (not b) (h ∷ ks) ks ≡ h ∷ hs
kept_or_not true h hs ks n e rest = absurd (omega arith)
kept_or_not false h hs ks n e rest = ap (λ l. h ∷ l) (rest (omega arith))

pub not_there : (born : ℕ) (hs : List Holding) → births_at born hs ≡ 0 → without_holding born hs ≡ hs
not_there born [] e = refl
not_there born (h ∷ hs) e = kept_or_not (h.born == born) h hs (without_holding born hs) (births_at born hs) e (not_there born hs)

-- the first that was born there is the only one
alone_step : (b : Bool) (h : Holding) (hs firsts alls : List Holding) (n : ℕ) → (cond b 1 0) + n ≤ 1 → (n ≤ 1 → firsts ≡ alls) → (n ≡ 0 → alls ≡ hs) → (if b then hs else h ∷ firsts) ≡ cond (not b) (h ∷ alls) alls
alone_step true h hs firsts alls n most rest none = sym (none (omega arith))
alone_step false h hs firsts alls n most rest none = ap (λ l. h ∷ l) (rest (omega arith))

pub first_alone : (born : ℕ) (hs : List Holding) → births_at born hs ≤ 1 → without_first (λ holding. holding.born == born) hs ≡ without_holding born hs
first_alone born [] most = refl
first_alone born (h ∷ hs) most =
    alone_step (h.born == born) h hs (without_first (λ holding. holding.born == born) hs) (without_holding born hs) (births_at born hs) most (first_alone born hs) (not_there born hs)

-- fewer or as many births in a list that has lost some
drop_step : (b keep : Bool) (born : ℕ) (h : Holding) (hs ks : List Holding) → births_at born ks ≤ births_at born hs → births_at born (cond keep (h ∷ ks) ks) ≤ (if h.born == born then 1 else 0) + births_at born hs
drop_step b true born h hs ks le = omega arith
drop_step b false born h hs ks le = omega arith

pub births-filter : (born : ℕ) (p : Holding → Bool) (hs : List Holding) → births_at born (filter p hs) ≤ births_at born hs
births-filter born p [] = omega arith
births-filter born p (h ∷ hs) = drop_step (p h) (p h) born h hs (filter p hs) (births-filter born p hs)

first_step : (b : Bool) (born : ℕ) (h : Holding) (hs ks : List Holding) → births_at born ks ≤ births_at born hs → births_at born (if b then hs else h ∷ ks) ≤ (if h.born == born then 1 else 0) + births_at born hs
first_step true born h hs ks le = omega arith
first_step false born h hs ks le = omega arith

pub births-without_first : (born : ℕ) (p : Holding → Bool) (hs : List Holding) → births_at born (without_first p hs) ≤ births_at born hs
births-without_first born p [] = omega arith
births-without_first born p (h ∷ hs) = first_step (p h) born h hs (without_first p hs) (births-without_first born p hs)

-- none was born at an entry after all of them
later_step : (a b n : ℕ) → a < b → n ≡ 0 → (if a == b then 1 else 0) + n ≡ 0
later_step a b n below none = grind (arith, nat_tests)

pub births-before : (born : ℕ) (hs : List Holding) → AreBornBefore born hs → births_at born hs ≡ 0
births-before born [] h = refl
births-before born (x ∷ xs) h = later_step x.born born (births_at born xs) h.0 (births-before born xs h.1)

-- Of an owner

pub births-none_of : (born : ℕ) (held : Holdings) → IsHeldBefore born held → births_of born held ≡ 0
births-none_of born held h =
    omega (arith, births-before born held.enq h.enq, births-before born held.stor h.stor, births-before born held.dsn h.dsn, births-before born held.timr h.timr)

pub births-owner_after_release : (b born : ℕ) (held : Holdings) → births_of b (owner_after_release born held) ≤ births_of b held
births-owner_after_release b born held =
    let p : Holding → Bool = λ x. not (x.born == born) in
    omega (arith, births-filter b p held.enq, births-filter b p held.stor, births-filter b p held.dsn, births-filter b p held.timr)

pub births-taken : (b : ℕ) (class : Res) (p : Holding → Bool) (held : Holdings) → births_of b (on_class class (without_first p) held) ≤ births_of b held
births-taken b Enq p held = omega (arith, births-without_first b p held.enq)
births-taken b Stor p held = omega (arith, births-without_first b p held.stor)
births-taken b Dsn p held = omega (arith, births-without_first b p held.dsn)
births-taken b Timr p held = omega (arith, births-without_first b p held.timr)

pub births-put : (b : ℕ) (class : Res) (h : Holding) (held : Holdings) → births_of b (on_class class (λ hs. h ∷ hs) held) ≡ births_of b held + (if h.born == b then 1 else 0)
births-put b Enq h held = omega arith
births-put b Stor h held = omega arith
births-put b Dsn h held = omega arith
births-put b Timr h held = omega arith

-- Of all owners

pub births-none_among : (born : ℕ) (owners : List Holdings) → AreHeldBefore born owners → births_among born owners ≡ 0
births-none_among born [] h = refl
births-none_among born (x ∷ xs) h = omega (arith, births-none_of born x h.0, births-none_among born xs h.1)

pub births-set : (b : ℕ) (owners : List Holdings) (i : ℕ) (d held : Holdings) → i < length owners → births_among b (slice_set owners i held) + births_of b (slice_index_or owners i d) ≡ births_among b owners + births_of b held
births-set b [] i d held within = absurd (omega arith)
births-set b (x ∷ xs) zero d held within = omega arith
births-set b (x ∷ xs) (suc i) d held within = omega (arith, births-set b xs i d held (omega arith))

pub births-set_fewer : (b : ℕ) (owners : List Holdings) (i : ℕ) (d held : Holdings) → births_of b held ≤ births_of b (slice_index_or owners i d) → births_among b (slice_set owners i held) ≤ births_among b owners
births-set_fewer b [] i d held fewer = omega arith
births-set_fewer b (x ∷ xs) zero d held fewer = omega arith
births-set_fewer b (x ∷ xs) (suc i) d held fewer = omega (arith, births-set_fewer b xs i d held fewer)

pub births-after_release : (b born : ℕ) (owners : List Holdings) → births_among b (after_release born owners) ≤ births_among b owners
births-after_release b born [] = omega arith
births-after_release b born (x ∷ xs) = omega (arith, births-owner_after_release b born x, births-after_release b born xs)

pub births-after_free : (b owner : ℕ) (class : Res) (id : ℕ) (owners : List Holdings) → births_among b (after_free owner class id owners) ≤ births_among b owners
births-after_free b owner class id owners =
    births-set_fewer b owners owner no_holdings _ (births-taken b class (is_of_id id) (holdings_of owner owners))

pub births_at_index : (b : ℕ) (owners : List Holdings) (i : ℕ) (d : Holdings) → i < length owners → births_of b (slice_index_or owners i d) ≤ births_among b owners
births_at_index b [] i d within = absurd (omega arith)
births_at_index b (x ∷ xs) zero d within = omega arith
births_at_index b (x ∷ xs) (suc i) d within = omega (arith, births_at_index b xs i d (omega arith))

-- a new birth is no other's
got_step : (a b all one n m : ℕ) → all + m ≡ n + (m + one) → n ≤ 1 → (a ≡ b → n ≡ 0) → one ≡ (if a == b then 1 else 0) → all ≤ 1
got_step a b all one n m e most fresh is = grind (arith, nat_tests)

pub births-after_get : (b : ℕ) (h : Holding) (owners : List Holdings) → h.owner < length owners → AreHeldBefore h.born owners → births_among b owners ≤ 1 → births_among b (after_get h owners) ≤ 1
births-after_get b h owners within before most =
    let held : Holdings = holdings_of h.owner owners in
    let all : births_among b (after_get h owners) + births_of b held ≡ births_among b owners + (births_of b held + (if h.born == b then 1 else 0)) =
    births-set b owners h.owner no_holdings _ within ∙ ap (λ (n : ℕ). births_among b owners + n) (births-put b h.class h held) in
    let fresh : h.born ≡ b → births_among b owners ≡ 0 = λ e. ap (λ (n : ℕ). births_among n owners) (sym e) ∙ births-none_among h.born owners before in
    got_step h.born b (births_among b (after_get h owners)) (if h.born == b then 1 else 0) (births_among b owners) (births_of b held) all most fresh refl

-- What holdings keep

pub kept_got : (units : ℕ) (h : Holding) (owners : List Holdings) → h.owner ≤ units → AreHeldBefore h.born owners → AreKept units owners → length (after_get h owners) ≡ length owners → AreKept units (after_get h owners)
kept_got units h owners within before kept same =
    record { all = omega arith; distinct = λ b. births-after_get b h owners (omega arith) before (kept.distinct b) }

pub kept_fewer : (units : ℕ) (owners now : List Holdings) → AreKept units owners → length now ≡ length owners → ((b : ℕ) → births_among b now ≤ births_among b owners) → AreKept units now
kept_fewer units owners now kept same fewer =
    record { all = omega arith; distinct = λ b. omega (arith, fewer b, kept.distinct b) }

births-nothing : (b n : ℕ) → births_among b (replicate n no_holdings) ≡ 0
births-nothing b zero = refl
births-nothing b (suc n) = omega (arith, births-nothing b n)

pub kept_nothing : (units : ℕ) → AreKept units (replicate (units + 1) no_holdings)
kept_nothing units =
    record { all = length-replicate (units + 1) no_holdings; distinct = λ b. omega (arith, births-nothing b (units + 1)) }

-- a list that is changed from its front on, one element further
pub map_further : {A : Type 0} (f : A → A) (xs : List A) (i : ℕ) (d : A) → i < length xs → slice_set (map f (take i xs) ++ drop i xs) i (f (slice_index_or (map f (take i xs) ++ drop i xs) i d)) ≡ map f (take (suc i) xs) ++ drop (suc i) xs
map_further f [] i d within = absurd (omega arith)
map_further f (x ∷ xs) zero d within = refl
map_further f (x ∷ xs) (suc i) d within = ap (λ l. f x ∷ l) (map_further f xs i d (omega arith))

-- that element is still as it was
pub further_on : {A : Type 0} (f : A → A) (xs : List A) (i : ℕ) (d : A) → i < length xs → slice_index_or (map f (take i xs) ++ drop i xs) i d ≡ slice_index_or xs i d
further_on f [] i d within = absurd (omega arith)
further_on f (x ∷ xs) zero d within = refl
further_on f (x ∷ xs) (suc i) d within = further_on f xs i d (omega arith)

-- what a slice of a whole vector leaves
pub whole_slice : {A : Type 0} (n : ℕ) (new old : List A) → length new ≡ n → length old ≡ n → take n (new ++ drop (length new) old) ≡ new
whole_slice n new old e e' =
    ap (λ l. take n (new ++ l)) (drop_all (length new) old (omega arith)) ∙ ap (take n) (append-nil new) ∙ take_all n new (omega arith)
