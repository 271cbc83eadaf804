-- Where an error stands in the brackets that entries say, through its course.
use Rattle.std.proofs.Common.{◌≡◌, ℕ, zero, suc, ◌+◌, ◌<◌, ◌≤◌, true, false, List, [], ◌∷◌, ◌++◌, length, Option, Some, None, refl, sym, ap, arith, ◌∙◌}
use Rattle.std.proofs.lemmas.Bool.{eq-eqb, ne_eqb}
use Rattle.std.specs.List.{list_any}
use Rattle.std.specs.Prelude.{if◌then◌else◌}
use Rattle.rtm_model.specs.declared.entry.Entry.{Entry}
use Rattle.rtm_model.specs.declared.entry.Verdict.{Verdict}
use Rattle.rtm_model.specs.declared.entry.Verdict.TheVariants.{Bad, Fail, Over, Perc, Retry, Stop}
use Rattle.rtm_model.specs.declared.entry.What.{What}
use Rattle.rtm_model.specs.declared.entry.What.TheVariants as whats
use Rattle.rtm_model.specs.ChainLaw.{Leaving, chain, chain_from, is_made_for, leaving_at, leavings, leavings_from, opening_at}
use Rattle.rtm_model.specs.Entries.{OpenBracket, Opening, brackets_after, brackets_from, brackets_left, brackets_of, enclosing_brackets, error_at, outermost_bracket, own_brackets, with_error_at}
use Rattle.rtm_model.specs.Tasks.{is_number}

-- One more entry

pub append-nil : {X : Type 0} (xs : List X) → xs ++ [] ≡ xs
append-nil [] = refl
append-nil {X} (x ∷ xs) = ap (λ (ys : List X). x ∷ ys) (append-nil xs)

pub append_assoc : {X : Type 0} (xs ys zs : List X) → xs ++ (ys ++ zs) ≡ (xs ++ ys) ++ zs
append_assoc [] ys zs = refl
append_assoc {X} (x ∷ xs) ys zs = ap (λ (ws : List X). x ∷ ws) (append_assoc xs ys zs)

-- the ENTER that an entry adds to a chain, and the LEAVE
abbrev pub entered_now : ℕ → ℕ → ℕ → List OpenBracket → Entry → List Opening
entered_now error u n brackets e = if is_made_for error u e brackets then opening_at n e.what else []

abbrev pub left_now : ℕ → ℕ → ℕ → List OpenBracket → Entry → List Leaving
left_now error u n brackets e = if is_made_for error u e (enclosing_brackets brackets) then leaving_at n e.what else []

chain_end : (error u n : ℕ) (bs : List OpenBracket) (es : List Entry) (e : Entry)
    → chain_from error u n bs (es ++ e ∷ []) ≡ chain_from error u n bs es ++ entered_now error u (n + length es) (brackets_from u n es bs) e
chain_end error u n bs [] e =
    let k : n + 0 ≡ n = omega arith in
    append-nil (entered_now error u n bs e) ∙ ap (λ (m : ℕ). entered_now error u m bs e) (sym k)
chain_end error u n bs (x ∷ es) e =
    let k : n + 1 + length es ≡ n + suc (length es) = omega arith in
    let bs2 : List OpenBracket = brackets_after u n x bs in
    ap (λ (os : List Opening). entered_now error u n bs x ++ os)
    (chain_end error u (n + 1) bs2 es e ∙ ap (λ (m : ℕ). chain_from error u (n + 1) bs2 es ++ entered_now error u m (brackets_from u (n + 1) es bs2) e) k)
    ∙ append_assoc (entered_now error u n bs x) (chain_from error u (n + 1) bs2 es) (entered_now error u (n + suc (length es)) (brackets_from u (n + 1) es bs2) e)

pub chain_more : (error u : ℕ) (h : List Entry) (e : Entry) → chain error u (h ++ e ∷ []) ≡ chain error u h ++ entered_now error u (length h) (brackets_of u h) e
chain_more error u h e =
    let k : 0 + length h ≡ length h = omega arith in
    chain_end error u 0 outermost_bracket h e ∙ ap (λ (m : ℕ). chain error u h ++ entered_now error u m (brackets_of u h) e) k

leavings_end : (error u n : ℕ) (bs : List OpenBracket) (es : List Entry) (e : Entry)
    → leavings_from error u n bs (es ++ e ∷ []) ≡ leavings_from error u n bs es ++ left_now error u (n + length es) (brackets_from u n es bs) e
leavings_end error u n bs [] e =
    let k : n + 0 ≡ n = omega arith in
    append-nil (left_now error u n bs e) ∙ ap (λ (m : ℕ). left_now error u m bs e) (sym k)
leavings_end error u n bs (x ∷ es) e =
    let k : n + 1 + length es ≡ n + suc (length es) = omega arith in
    let bs2 : List OpenBracket = brackets_after u n x bs in
    ap (λ (os : List Leaving). left_now error u n bs x ++ os)
    (leavings_end error u (n + 1) bs2 es e ∙ ap (λ (m : ℕ). leavings_from error u (n + 1) bs2 es ++ left_now error u m (brackets_from u (n + 1) es bs2) e) k)
    ∙ append_assoc (left_now error u n bs x) (leavings_from error u (n + 1) bs2 es) (left_now error u (n + suc (length es)) (brackets_from u (n + 1) es bs2) e)

pub leavings_more : (error u : ℕ) (h : List Entry) (e : Entry) → leavings error u (h ++ e ∷ []) ≡ leavings error u h ++ left_now error u (length h) (brackets_of u h) e
leavings_more error u h e =
    let k : 0 + length h ≡ length h = omega arith in
    leavings_end error u 0 outermost_bracket h e ∙ ap (λ (m : ℕ). leavings error u h ++ left_now error u m (brackets_of u h) e) k

-- Where the error is open

abbrev pub IsNowhere : ℕ → List OpenBracket → Type 0
IsNowhere error [] = Unit {0}
IsNowhere error (b ∷ bs) = (is_number error b.error ≡ false) × IsNowhere error bs

-- in the bracket around which that many are
abbrev pub IsAtDepth : ℕ → ℕ → List OpenBracket → Type 0
IsAtDepth inside error [] = ⊥
IsAtDepth zero error (b ∷ bs) = (is_number error b.error ≡ true) × IsNowhere error bs
IsAtDepth (suc k) error (b ∷ bs) = (is_number error b.error ≡ false) × IsAtDepth k error bs

pub nowhere_open : (error : ℕ) (bs : List OpenBracket) → IsNowhere error bs → list_any (λ (b : OpenBracket). is_number error b.error) bs ≡ false
nowhere_open error [] h = refl
nowhere_open error (b ∷ bs) h = rw h.0 (nowhere_open error bs h.1)

pub depth_open : (inside error : ℕ) (bs : List OpenBracket) → IsAtDepth inside error bs → list_any (λ (b : OpenBracket). is_number error b.error) bs ≡ true
depth_open inside error [] h = absurd h
depth_open zero error (b ∷ bs) h = rw h.0 refl
depth_open (suc k) error (b ∷ bs) h = rw h.0 (depth_open k error bs h.1)

pub nowhere_here : (error : ℕ) (bs : List OpenBracket) → IsNowhere error bs → is_number error (error_at bs) ≡ false
nowhere_here error [] h = refl
nowhere_here error (b ∷ bs) h = h.0

pub nowhere_around : (error : ℕ) (bs : List OpenBracket) → IsNowhere error bs → IsNowhere error (enclosing_brackets bs)
nowhere_around error [] h = h
nowhere_around error (b ∷ bs) h = h.1

pub here_at : (error : ℕ) (bs : List OpenBracket) → IsAtDepth zero error bs → is_number error (error_at bs) ≡ true
here_at error [] h = absurd h
here_at error (b ∷ bs) h = h.0

pub here_around : (error : ℕ) (bs : List OpenBracket) → IsAtDepth zero error bs → IsNowhere error (enclosing_brackets bs)
here_around error [] h = absurd h
here_around error (b ∷ bs) h = h.1

pub deeper_here : (k error : ℕ) (bs : List OpenBracket) → IsAtDepth (suc k) error bs → is_number error (error_at bs) ≡ false
deeper_here k error [] h = absurd h
deeper_here k error (b ∷ bs) h = h.0

pub deeper_around : (k error : ℕ) (bs : List OpenBracket) → IsAtDepth (suc k) error bs → IsAtDepth k error (enclosing_brackets bs)
deeper_around k error [] h = absurd h
deeper_around k error (b ∷ bs) h = h.1

-- another error is opened in the innermost bracket, or none
pub nowhere_with : (error : ℕ) (other : Option ℕ) → is_number error other ≡ false → (bs : List OpenBracket) → IsNowhere error bs → IsNowhere error (with_error_at other bs)
nowhere_with error other e [] h = h
nowhere_with error other e (b ∷ bs) h = (e, h.1)

pub deeper_with : (k error : ℕ) (other : Option ℕ) → is_number error other ≡ false → (bs : List OpenBracket) → IsAtDepth (suc k) error bs → IsAtDepth (suc k) error (with_error_at other bs)
deeper_with k error other e [] h = h
deeper_with k error other e (b ∷ bs) h = (e, h.1)

pub closed_here : (error : ℕ) (bs : List OpenBracket) → IsAtDepth zero error bs → IsNowhere error (with_error_at None bs)
closed_here error [] h = absurd h
closed_here error (b ∷ bs) h = (refl, h.1)

-- an error that is younger than all is opened
pub opened_here : (error : ℕ) (bs : List OpenBracket) → 1 ≤ length bs → IsNowhere error bs → IsAtDepth zero error (with_error_at (Some error) bs)
opened_here error [] some h = absurd (omega (arith, some))
opened_here error (b ∷ bs) some h = (eq-eqb error error refl, h.1)

-- a routine is left
pub left_here : (error : ℕ) (verdict : Verdict) (bs : List OpenBracket) → IsNowhere error bs → IsNowhere error (brackets_left verdict bs)
left_here error (Retry place) bs h = nowhere_with error None refl bs h
left_here error Perc bs h = h
left_here error Stop bs h = h
left_here error Bad bs h = h
left_here error Fail bs h = h
left_here error Over bs h = h

pub left_deeper : (k error : ℕ) (verdict : Verdict) (bs : List OpenBracket) → IsAtDepth (suc k) error bs → IsAtDepth (suc k) error (brackets_left verdict bs)
left_deeper k error (Retry place) bs h = deeper_with k error None refl bs h
left_deeper k error Perc bs h = h
left_deeper k error Stop bs h = h
left_deeper k error Bad bs h = h
left_deeper k error Fail bs h = h
left_deeper k error Over bs h = h

pub other_number : (error n : ℕ) → error < n → is_number error (Some n) ≡ false
other_number error n h = ne_eqb n error (λ e. omega (arith, e, h))

pub outermost_nowhere : (error : ℕ) → IsNowhere error outermost_bracket
outermost_nowhere error = (refl, tt)

-- each entry of the unit, where the error is nowhere
pub nowhere_own : (error n : ℕ) → is_number error (Some n) ≡ false → (what : What) (bs : List OpenBracket) → IsNowhere error bs → IsNowhere error (own_brackets n what bs)
nowhere_own error n other (whats.Error at mark) bs h = nowhere_with error (Some n) other bs h
nowhere_own error n other (whats.Land class from mark) bs h = nowhere_with error (Some n) other bs h
nowhere_own error n other (whats.Enter kind born mark bare) bs h = (refl, h)
nowhere_own error n other (whats.Leave kind born verdict logrec dump) bs h = left_here error verdict (enclosing_brackets bs) (nowhere_around error bs h)
nowhere_own error n other (whats.Begin code dump) bs h = outermost_nowhere error
nowhere_own error n other _ bs h = h
