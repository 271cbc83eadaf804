-- The labels of a program, as the reader gathers them, and the first card that names what isn't there.
use Rattle.std.proofs.Common.{◌≡◌, ℕ, Bool, true, false, not, ◌||◌, cond, List, [], ◌∷◌, ◌++◌, Option, Some, None, refl, ap, sym, subst, ◌∙◌, inl, inr}
use Rattle.std.specs.Prelude.{◌⊎◌, bytes_eq, codes, IsTrue, take_while, if◌then◌else◌}
use Rattle.std.specs.List.{list_any}
use Rattle.std.proofs.lemmas.List.Folds.{list_any-append}
use Rattle.std.proofs.lemmas.List.Sums.{take_while-cons}
use Rattle.std.proofs.Math.Bool.{or-false, or_comm, or_assoc}
use Rattle.rtm_cards.specs.Cards.{CardText}
use Rattle.rtm_deck_operands.specs.Name.{trimmed_text, is_padded_name}
use Rattle.rtm_deck_items.specs.declared.why.Why.{Why}
use Rattle.rtm_deck_items.specs.Forms.{slots_of}
use Rattle.rtm_deck_items.specs.Faults.{is_called, is_named, is_in_program, since_program, own_program, NameFault}
use Rattle.rtm_deck_spelling.proofs.Behind.{closed, stays, since_start, since_more}
use Rattle.rtm_deck.specs.declared.role.Role.{Role}
use Rattle.rtm_deck.specs.declared.role.Role.TheVariants.{Region, Program, ProgramEnd, Task, Srb, Commands, Command, End, Line}
use Rattle.rtm_deck.specs.inner.View.{SeenView, ReadView, Refusal}
use Rattle.rtm_deck.specs.inner.Roles.{role_of, is_line, is_program_role, is_inside_role}
use Rattle.rtm_deck.specs.inner.Seen.{has_name, with_name}
use Rattle.rtm_deck.specs.inner.References.{first_unfound, labels_onto, own_labels, nameless_or, first_nameless, refusal}
use Rattle.rtm_deck.proofs.Cards.Names.{has_with}
use Rattle.rtm_deck.proofs.Cards.SeenCards.{CallsAs}
use Rattle.rtm_deck.proofs.Faults.OfForm.{ReadHere, ReadEach}
use Rattle.rtm_deck.proofs.Faults.OfNames.{SeesAll, CardNames, card_names, OwnAre}

abbrev not_pend : CardText → Bool
not_pend other = not (is_called (codes "PEND") other)

-- the cards of the open program that follow
abbrev program_rest : List CardText → List CardText
program_rest later = take_while (λ other. not (is_called (codes "PEND") other)) later

rest_more : (c : CardText) (later : List CardText) → is_called (codes "PEND") c ≡ false → program_rest (c ∷ later) ≡ c ∷ program_rest later
rest_more c later e = take_while-cons not_pend c later ∙ ap (λ b. cond (not b) (c ∷ program_rest later) []) e

rest_ends : (c : CardText) (later : List CardText) → is_called (codes "PEND") c ≡ true → program_rest (c ∷ later) ≡ []
rest_ends c later e = take_while-cons not_pend c later ∙ ap (λ b. cond (not b) (c ∷ program_rest later) []) e

-- what a role in an open program may be
inside_only : (role : Role) → true ≡ is_inside_role role → (role ≡ Line) ⊎ (role ≡ ProgramEnd)
inside_only Region e = absurd cc
inside_only Program e = absurd cc
inside_only ProgramEnd e = inr refl
inside_only Task e = absurd cc
inside_only Srb e = absurd cc
inside_only Commands e = absurd cc
inside_only Command e = absurd cc
inside_only End e = absurd cc
inside_only Line e = inl refl

abbrev Onto : List (List ℕ) → List ReadView → List CardText → Type 0
Onto names rs later = (name : List ℕ) → IsTrue (is_padded_name name) → has_name (labels_onto names rs) name ≡ (has_name names name || list_any (is_named (trimmed_text name)) (program_rest later))

onto_line : (names : List (List ℕ)) (earlier : List CardText) (c : CardText) (cs : List CardText) (r : ReadView) (rs : List ReadView) → ReadHere earlier c r → role_of r.form ≡ Line
    → Onto (with_name names r.name) rs cs → Onto names (r ∷ rs) (c ∷ cs)
onto_line names earlier c cs r rs h role more name is =
    let calls = subst (λ (x : Role). CallsAs c x) role h.calls in
    ap (λ b. has_name (if b then labels_onto (with_name names r.name) rs else names) name) (ap is_line role)
    ∙ more name is
    ∙ ap (λ b. b || list_any (is_named (trimmed_text name)) (program_rest cs)) (ap (λ o. has_name (with_name names o) name) h.read.name ∙ has_with names c.name name h.field is)
    ∙ or_assoc (has_name names name) (bytes_eq c.name (trimmed_text name)) (list_any (is_named (trimmed_text name)) (program_rest cs))
    ∙ ap (λ l. has_name names name || list_any (is_named (trimmed_text name)) l) (sym (rest_more c cs calls.is_pend))

onto_end : (names : List (List ℕ)) (earlier : List CardText) (c : CardText) (cs : List CardText) (r : ReadView) (rs : List ReadView) → ReadHere earlier c r → role_of r.form ≡ ProgramEnd → Onto names (r ∷ rs) (c ∷ cs)
onto_end names earlier c cs r rs h role name is =
    let calls = subst (λ (x : Role). CallsAs c x) role h.calls in
    ap (λ b. has_name (if b then labels_onto (with_name names r.name) rs else names) name) (ap is_line role)
    ∙ sym (or-false (has_name names name))
    ∙ ap (λ l. has_name names name || list_any (is_named (trimmed_text name)) l) (sym (rest_ends c cs calls.is_pend))

-- the labels that are gathered behind PROG are those of the cards up to PEND
onto : (later : List CardText) (rs : List ReadView) (earlier : List CardText) (names : List (List ℕ)) → ReadEach earlier later rs → is_in_program earlier ≡ true → Onto names rs later
onto [] [] earlier names each inside = λ name is. sym (or-false (has_name names name))
onto [] (r ∷ rs) earlier names each inside = absurd each
onto (c ∷ cs) [] earlier names each inside = absurd each
onto (c ∷ cs) (r ∷ rs) earlier names each inside = elim (inside_only (role_of r.form) (sym inside ∙ each.0.placed)) [
  | inl role ↦
      let calls = subst (λ (x : Role). CallsAs c x) role each.0.calls in
      onto_line names earlier c cs r rs each.0 role (onto cs rs (c ∷ earlier) (with_name names r.name) each.1 (stays c earlier calls.is_prog calls.is_pend ∙ inside))
  | inr role ↦ onto_end names earlier c cs r rs each.0 role
]

-- in an open program the labels are those of its cards, before and behind
abbrev Own : List (List ℕ) → List CardText → List CardText → Type 0
Own own earlier later = is_in_program earlier ≡ true → OwnAre own (since_program earlier ++ program_rest later)

any_moved : (test : CardText → Bool) (c : CardText) (xs ys : List CardText) → list_any test (xs ++ c ∷ ys) ≡ list_any test ((c ∷ xs) ++ ys)
any_moved test c xs ys =
    list_any-append test xs (c ∷ ys)
    ∙ sym (or_assoc (list_any test xs) (test c) (list_any test ys))
    ∙ ap (λ b. b || list_any test ys) (or_comm (list_any test xs) (test c))
    ∙ or_assoc (test c) (list_any test xs) (list_any test ys)
    ∙ ap (λ b. test c || b) (sym (list_any-append test xs ys))

-- outside of a program nothing has to be known
outside : (own : List (List ℕ)) (earlier later : List CardText) → is_in_program earlier ≡ false → Own own earlier later
outside own earlier later e inside = let clash : true ≡ false = sym inside ∙ e in absurd cc

stays_outside : (own : List (List ℕ)) (c : CardText) (earlier later : List CardText) → is_called (codes "PROG") c ≡ false → is_called (codes "PEND") c ≡ false → is_in_program earlier ≡ false → Own own (c ∷ earlier) later
stays_outside own c earlier later prog pend e = outside own (c ∷ earlier) later (stays c earlier prog pend ∙ e)

-- the labels behind a card
own_step : (role : Role) (own : List (List ℕ)) (earlier : List CardText) (c : CardText) (cs : List CardText) (r : ReadView) (rs : List ReadView) → role_of r.form ≡ role → ReadHere earlier c r → ReadEach (c ∷ earlier) cs rs
    → Own own earlier (c ∷ cs) → Own (if is_program_role role then labels_onto [] rs else own) (c ∷ earlier) cs
own_step Region own earlier c cs r rs e h each o = let calls = subst (λ (x : Role). CallsAs c x) e h.calls in stays_outside own c earlier cs calls.is_prog calls.is_pend (h.placed ∙ ap is_inside_role e)
own_step Program own earlier c cs r rs e h each o = λ inside name is.
    let calls = subst (λ (x : Role). CallsAs c x) e h.calls in
    onto cs rs (c ∷ earlier) [] each inside name is
    ∙ ap (λ l. list_any (is_named (trimmed_text name)) (l ++ program_rest cs)) (sym (since_start c earlier calls.is_prog))
own_step ProgramEnd own earlier c cs r rs e h each o = let calls = subst (λ (x : Role). CallsAs c x) e h.calls in outside own (c ∷ earlier) cs (closed c earlier calls.is_prog calls.is_pend)
own_step Task own earlier c cs r rs e h each o = let calls = subst (λ (x : Role). CallsAs c x) e h.calls in stays_outside own c earlier cs calls.is_prog calls.is_pend (h.placed ∙ ap is_inside_role e)
own_step Srb own earlier c cs r rs e h each o = let calls = subst (λ (x : Role). CallsAs c x) e h.calls in stays_outside own c earlier cs calls.is_prog calls.is_pend (h.placed ∙ ap is_inside_role e)
own_step Commands own earlier c cs r rs e h each o = let calls = subst (λ (x : Role). CallsAs c x) e h.calls in stays_outside own c earlier cs calls.is_prog calls.is_pend (h.placed ∙ ap is_inside_role e)
own_step Command own earlier c cs r rs e h each o = let calls = subst (λ (x : Role). CallsAs c x) e h.calls in stays_outside own c earlier cs calls.is_prog calls.is_pend (h.placed ∙ ap is_inside_role e)
own_step End own earlier c cs r rs e h each o = let calls = subst (λ (x : Role). CallsAs c x) e h.calls in stays_outside own c earlier cs calls.is_prog calls.is_pend (h.placed ∙ ap is_inside_role e)
own_step Line own earlier c cs r rs e h each o = λ inside name is.
    let calls = subst (λ (x : Role). CallsAs c x) e h.calls in
    o (h.placed ∙ ap is_inside_role e) name is
    ∙ ap (λ l. list_any (is_named (trimmed_text name)) (since_program earlier ++ l)) (rest_more c cs calls.is_pend)
    ∙ any_moved (is_named (trimmed_text name)) c (since_program earlier) (program_rest cs)
    ∙ ap (λ l. list_any (is_named (trimmed_text name)) (l ++ program_rest cs)) (sym (since_more c earlier calls.is_prog))

-- the labels of a card's own program
own_here : (own : List (List ℕ)) (earlier : List CardText) (c : CardText) (cs : List CardText) (r : ReadView) (rs : List ReadView) → ReadHere earlier c r → Own own earlier (c ∷ cs)
    → role_of r.form ≡ Line → OwnAre (own_labels own r rs) (own_program earlier c cs)
own_here own earlier c cs r rs h o role name is =
    let calls = subst (λ (x : Role). CallsAs c x) role h.calls in
    ap (λ b. has_name (if b then labels_onto [] rs else own) name) (ap is_program_role role)
    ∙ o (h.placed ∙ ap is_inside_role role) name is
    ∙ ap (λ l. list_any (is_named (trimmed_text name)) (since_program earlier ++ l)) (rest_more c cs calls.is_pend)

named_first : (cards earlier : List CardText) (c : CardText) (cs : List CardText) (r : ReadView) (o : Option Why) (others : Option Refusal) (x : Refusal) → r.number ≡ c.number → CardNames cards (own_program earlier c cs) c o
    → ((y : Refusal) → others ≡ Some y → NameFault cards (c ∷ earlier) cs y.card y.why) → nameless_or r o others ≡ Some x → NameFault cards earlier (c ∷ cs) x.card x.why
named_first cards earlier c cs r (Some why) others x number h more e =
    let same : refusal r.number why ≡ x = cc in
    subst (λ (y : Refusal). NameFault cards earlier (c ∷ cs) y.card y.why) same (inl (h, number))
named_first cards earlier c cs r None others x number h more e = inr (h, more x e)

-- The card that the reader refuses for a name is the least that names what isn't there.
pub name_law : (s : SeenView) (cards later : List CardText) (rs : List ReadView) (earlier : List CardText) (own : List (List ℕ)) (x : Refusal) → SeesAll s cards → ReadEach earlier later rs → Own own earlier later
    → first_nameless s own rs ≡ Some x → NameFault cards earlier later x.card x.why
name_law s cards [] [] earlier own x h each o e = absurd cc
name_law s cards [] (r ∷ rs) earlier own x h each o e = absurd each
name_law s cards (c ∷ cs) [] earlier own x h each o e = absurd each
name_law s cards (c ∷ cs) (r ∷ rs) earlier own x h each o e =
    named_first cards earlier c cs r (first_unfound s (own_labels own r rs) (slots_of r.form) r.values) (first_nameless s (own_labels own r rs) rs) x each.0.read.number
    (card_names s cards (own_program earlier c cs) (own_labels own r rs) c r h each.0.read (own_here own earlier c cs r rs each.0 o))
    (λ y f. name_law s cards cs rs (c ∷ earlier) (own_labels own r rs) y h each.1 (own_step (role_of r.form) own earlier c cs r rs refl each.0 each.1 o) f)
    e
