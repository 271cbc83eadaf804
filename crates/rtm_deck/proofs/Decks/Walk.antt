-- How the cards of a deck are walked: each card breaks no rule behind those before it.
use Rattle.std.proofs.Common.{◌≡◌, ℕ, Bool, true, false, not, List, [], ◌∷◌, ◌++◌, Option, Some, None, is_some, refl, ap, sym, subst, ◌∙◌, append_assoc}
use Rattle.std.specs.Prelude.{Result, Ok, Err, if◌then◌else◌}
use Rattle.rtm_cards.specs.Cards.{CardText}
use Rattle.rtm_deck_operands.specs.Name.{name_in}
use Rattle.rtm_deck_items.specs.declared.why.Why.{Why}
use Rattle.rtm_deck_items.specs.declared.why.Why.TheVariants.{BadCard, WrongPlace, BadOperand, DuplicateName, OverLimit, NoJobStep}
use Rattle.rtm_deck_items.specs.declared.form.CardForm.{CardForm}
use Rattle.rtm_deck_items.specs.Forms.{operation_of, all_forms, form_named}
use Rattle.rtm_deck_items.specs.Spelling.{SpellsForm}
use Rattle.rtm_deck.specs.declared.role.Role.{Role}
use Rattle.rtm_deck.specs.inner.View.{ReadView, SeenView, ScanView}
use Rattle.rtm_deck.specs.inner.Roles.{role_of, is_misnamed_role}
use Rattle.rtm_deck.specs.inner.Seen.{after, is_misplaced_role, is_doubled_name, is_beyond, lacks_task_role, broken_rule, SaidView, reading_by, read_with, read_known, read_card}
use Rattle.rtm_deck.specs.inner.Reader.{scan_of, scan_on, scan}
use Rattle.rtm_deck.proofs.Cards.ReadCards.{said_found, role_is}

-- The card is read so, and breaks no rule behind what was seen.
pub record Step (s : SeenView) (c : CardText) (r : ReadView) : Type 0 where
  pub name : r.name ≡ name_in c.name
  pub op : c.op ≡ operation_of r.form
  pub spells : SpellsForm r.form c.operands r.values
  pub named : is_misnamed_role (role_of r.form) r.name ≡ false
  pub placed : is_misplaced_role s (role_of r.form) ≡ false
  pub single : is_doubled_name s (role_of r.form) r.name ≡ false
  pub within : is_beyond s (role_of r.form) ≡ false
  pub tasked : lacks_task_role s (role_of r.form) ≡ false

-- The cards are read so, one after the other, and behind the last this was seen.
abbrev pub Walk : SeenView → List CardText → List ReadView → SeenView → Type 0
Walk s [] [] e = e ≡ s
Walk s [] (r ∷ rs) e = ⊥
Walk s (c ∷ cs) [] e = ⊥
Walk s (c ∷ cs) (r ∷ rs) e = Step s c r × Walk (after s (role_of r.form) r.name) cs rs e

-- Nothing is broken.
record Unbroken (s : SeenView) (role : Role) (name : Option (List ℕ)) : Type 0 where
  named : is_misnamed_role role name ≡ false
  placed : is_misplaced_role s role ≡ false
  single : is_doubled_name s role name ≡ false
  within : is_beyond s role ≡ false
  tasked : lacks_task_role s role ≡ false

unbroken : (s : SeenView) (role : Role) (name : Option (List ℕ)) (readable : Bool) (a b c d e : Bool) → is_misnamed_role role name ≡ a → is_misplaced_role s role ≡ b → is_doubled_name s role name ≡ c → is_beyond s role ≡ d → lacks_task_role s role ≡ e
    → (if a then Some BadCard else (if b then Some WrongPlace else (if not readable then Some BadOperand else (if c then Some DuplicateName else (if d then Some OverLimit else (if e then Some NoJobStep else None)))))) ≡ None → Unbroken s role name
unbroken s role name readable true b c d e ha hb hc hd he h = absurd cc
unbroken s role name readable false true c d e ha hb hc hd he h = absurd cc
unbroken s role name false false false c d e ha hb hc hd he h = absurd cc
unbroken s role name true false false true d e ha hb hc hd he h = absurd cc
unbroken s role name true false false false true e ha hb hc hd he h = absurd cc
unbroken s role name true false false false false true ha hb hc hd he h = absurd cc
unbroken s role name true false false false false false ha hb hc hd he h = record { named = ha; placed = hb; single = hc; within = hd; tasked = he }

read_with-step : (s : SeenView) (c : CardText) (form : CardForm) (said : Option SaidView) (broken : Option Why) (r : ReadView) → form_named c.op ≡ Some form → reading_by c.op c.operands all_forms ≡ said
    → broken_rule s (role_of form) (name_in c.name) (is_some said) ≡ broken → read_with c.number (name_in c.name) said broken ≡ Ok r → Step s c r
read_with-step s c form said (Some why) r o t b e = absurd cc
read_with-step s c form None None r o t b e = absurd cc
read_with-step s c form (Some x) None r o t b e =
    let found = said_found c.op c.operands all_forms x t in
    let u = unbroken s (role_of form) (name_in c.name) true _ _ _ _ _ refl refl refl refl refl b in
    let role : role_of form ≡ role_of x.form = role_is c form x.form o found.0 in
    let v : Unbroken s (role_of x.form) (name_in c.name) = subst (λ (ρ : Role). Unbroken s ρ (name_in c.name)) role u in
    let is : record { number = c.number; name = name_in c.name; form = x.form; values = x.values } ≡ r = cc in
    subst (Step s c) is (record { name = refl; op = sym found.0; spells = found.1; named = v.named; placed = v.placed; single = v.single; within = v.within; tasked = v.tasked })

-- a card that is read is a step
pub read_card-step : (s : SeenView) (c : CardText) (r : ReadView) → read_card s c ≡ Ok r → Step s c r
read_card-step s c r e = go (form_named c.op) refl e
  where
    go : (o : Option CardForm) → form_named c.op ≡ o → read_known s c o ≡ Ok r → Step s c r
    go None t e = absurd cc
    go (Some form) t e = read_with-step s c form (reading_by c.op c.operands all_forms) _ r t refl refl e

-- what a scan says: the reads, which are a walk
pub record Walked (reads : List ReadView) (s : SeenView) (cards : List CardText) (t : ScanView) : Type 0 where
  pub others : List ReadView
  pub all : t.reads ≡ reads ++ others
  pub walk : Walk s cards others t.seen

append_none : (xs : List ReadView) → xs ≡ xs ++ []
append_none [] = refl
append_none (x ∷ xs) = ap (λ (ys : List ReadView). x ∷ ys) (append_none xs)

pub walked : (reads : List ReadView) (s : SeenView) (cards : List CardText) (t : ScanView) → scan reads s cards ≡ Ok t → Walked reads s cards t
walked reads s [] t e =
    let is : scan_of reads s ≡ t = cc in
    record { others = []; all = ap (λ (x : ScanView). x.reads) (sym is) ∙ append_none reads; walk = ap (λ (x : ScanView). x.seen) (sym is) }
walked reads s (c ∷ cs) t e = go (read_card s c) refl e (λ (r : ReadView). walked (reads ++ r ∷ []) (after s (role_of r.form) r.name) cs t)
  where
    go : (o : Result ReadView Why) → read_card s c ≡ o → scan_on c.number o (λ r. scan (reads ++ r ∷ []) (after s (role_of r.form) r.name) cs) ≡ Ok t
        → ((r : ReadView) → scan (reads ++ r ∷ []) (after s (role_of r.form) r.name) cs ≡ Ok t → Walked (reads ++ r ∷ []) (after s (role_of r.form) r.name) cs t) → Walked reads s (c ∷ cs) t
    go (Err why) h e more = absurd cc
    go (Ok r) h e more =
        let w = more r e in
        record { others = r ∷ w.others; all = w.all ∙ append_assoc reads (r ∷ []) w.others; walk = (read_card-step s c r h, w.walk) }
