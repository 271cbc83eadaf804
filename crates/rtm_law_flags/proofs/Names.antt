-- Brackets and errors are named by the entries that opened them.
use Rattle.std.proofs.Common.{◌≡◌, ℕ, ◌+◌, ◌≤◌, Bool, true, false, List, [], ◌∷◌, ◌++◌, length, suc, Option, Some, None, refl, sym, ap, subst, arith, ◌∙◌}
use Rattle.std.proofs.lemmas.Bool.{eqb-true}
use Rattle.std.proofs.lemmas.List.{length-append}
use Rattle.std.specs.List.{cons_option, filter_map}
use Rattle.std.specs.Prelude.{IsTrue, if◌then◌else◌, is_some, ◌==◌}
use Rattle.rtm_deck_items.specs.View.{DeckView}
use Rattle.rtm_deck_items.specs.WellFormed.{is_well_formed}
use Rattle.rtm_model.specs.declared.entry.Entry.{Entry}
use Rattle.rtm_model.specs.declared.entry.Verdict.{Verdict}
use Rattle.rtm_model.specs.declared.entry.Verdict.TheVariants.{Retry}
use Rattle.rtm_model.specs.declared.entry.What.{What}
use Rattle.rtm_model.specs.declared.entry.What.TheVariants as whats
use Rattle.rtm_model.specs.declared.error_record.ErrorRecord.{ErrorRecord}
use Rattle.rtm_model.specs.declared.reg.Reg.{Reg}
use Rattle.rtm_model.specs.Advance.{world}
use Rattle.rtm_model.specs.Course.{opens_error}
use Rattle.rtm_model.specs.Entries.{OpenBracket, Opening, brackets_after, brackets_from, brackets_left, brackets_of, enclosing_brackets, outermost_bracket, own_brackets, purges, with_error_at}
use Rattle.rtm_model.specs.Legal.{Legal}
use Rattle.rtm_model.specs.Levels.{Bracket}
use Rattle.rtm_model.specs.Moments.{IsAt}
use Rattle.rtm_model.specs.World.{Core, core_at}
use Rattle.rtm_law_landings.proofs.Appended.{at_appended, at_end, holds_of}
use Rattle.rtm_law_landings.proofs.OpenBrackets.{AreSame, HasName, IsSame, brackets_agree}
use Rattle.rtm_law_flags.specs.Brackets.{AreNamedBy, FallsBelow, HasNamedBrackets, IsEnteredBy, IsItsEnter, IsItsError, IsOpenedBy}

from_append : (u n : ℕ) (es : List Entry) (e : Entry) (bs : List OpenBracket) → brackets_from u n (es ++ e ∷ []) bs ≡ brackets_after u (n + length es) e (brackets_from u n es bs)
from_append u n [] e bs = let k : n + 0 ≡ n = omega arith in ap (λ (m : ℕ). brackets_after u m e bs) (sym k)
from_append u n (x ∷ es) e bs =
    let k : n + 1 + length es ≡ n + suc (length es) = omega arith in
    from_append u (n + 1) es e (brackets_after u n x bs) ∙ ap (λ (m : ℕ). brackets_after u m e (brackets_from u (n + 1) es (brackets_after u n x bs))) k

brackets_append : (u : ℕ) (h : List Entry) (e : Entry) → brackets_of u (h ++ e ∷ []) ≡ brackets_after u (length h) e (brackets_of u h)
brackets_append u h e =
    let k : 0 + length h ≡ length h = omega arith in
    from_append u 0 h e outermost_bracket ∙ ap (λ (m : ℕ). brackets_after u m e (brackets_of u h)) k

-- what each bracket names is there
abbrev HasEnter : List Entry → ℕ → Option Opening → Type 0
HasEnter h u None = Unit {0}
HasEnter h u (Some opening) = IsItsEnter h u opening

abbrev HasError : List Entry → ℕ → Option ℕ → Type 0
HasError h u None = Unit {0}
HasError h u (Some i) = IsItsError h u i

record Has (h : List Entry) (u : ℕ) (b : OpenBracket) : Type 0 where
  enter : HasEnter h u b.opening
  error : HasError h u b.error

abbrev AllHave : List Entry → ℕ → List OpenBracket → Type 0
AllHave h u [] = Unit {0}
AllHave h u (b ∷ bs) = Has h u b × AllHave h u bs

abbrev openings_of : List OpenBracket → List Opening
openings_of bs = filter_map (λ (b : OpenBracket). b.opening) bs

module _ (h : List Entry) (u : ℕ) (e : Entry) where
  longer_enter : (o : Option Opening) → HasEnter h u o → HasEnter (h ++ e ∷ []) u o
  longer_enter None has = tt
  longer_enter (Some opening) has =
      record { mark = has.mark; bare = has.bare; at = at_appended h opening.at (record { unit = u; what = whats.Enter opening.kind opening.born has.mark has.bare }) (e ∷ []) has.at }

  longer_error : (o : Option ℕ) → HasError h u o → HasError (h ++ e ∷ []) u o
  longer_error None has = tt
  longer_error (Some i) has =
      record { entry = has.entry; at = at_appended h i has.entry (e ∷ []) has.at; unit_is = has.unit_is; opens = has.opens }

  longer : (bs : List OpenBracket) → AllHave h u bs → AllHave (h ++ e ∷ []) u bs
  longer [] has = tt
  longer (b ∷ bs) has = (record { enter = longer_enter b.opening (Has.enter has.0); error = longer_error b.error (Has.error has.0) }, longer bs has.1)

-- each change of the brackets
module _ (h : List Entry) (u : ℕ) where
  with_error_has : (error : Option ℕ) (bs : List OpenBracket) → HasError h u error → AllHave h u bs → AllHave h u (with_error_at error bs)
  with_error_has error [] has all = tt
  with_error_has error (b ∷ bs) has all = (record { enter = Has.enter all.0; error = has }, all.1)

  enclosing_has : (bs : List OpenBracket) → AllHave h u bs → AllHave h u (enclosing_brackets bs)
  enclosing_has [] all = tt
  enclosing_has (b ∷ bs) all = all.1

  left_has : (verdict : Verdict) (bs : List OpenBracket) → AllHave h u bs → AllHave h u (brackets_left verdict bs)
  left_has (Retry place) bs all = with_error_has None bs tt all
  left_has _ bs all = all

  outermost_has : AllHave h u outermost_bracket
  outermost_has = (record { enter = tt; error = tt }, tt)

with_error_openings : (error : Option ℕ) (bs : List OpenBracket) → openings_of (with_error_at error bs) ≡ openings_of bs
with_error_openings error [] = refl
with_error_openings error (b ∷ bs) = refl

left_openings : (verdict : Verdict) (bs : List OpenBracket) → openings_of (brackets_left verdict bs) ≡ openings_of bs
left_openings (Retry place) bs = with_error_openings None bs
left_openings _ bs = refl

falls_less : (n m : ℕ) (os : List Opening) → n ≤ m → FallsBelow n os → FallsBelow m os
falls_less n m [] le falls = tt
falls_less n m (o ∷ os) le falls = (omega (arith, le, falls.0), falls.1)

falls_enclosing : (n : ℕ) (o : Option Opening) (os : List Opening) → FallsBelow n (cons_option o os) → FallsBelow n os
falls_enclosing n None os falls = falls
falls_enclosing n (Some o) os falls = falls_less o.at n os (omega (arith, falls.0)) falls.1

enclosing_falls : (n : ℕ) (bs : List OpenBracket) → FallsBelow n (openings_of bs) → FallsBelow n (openings_of (enclosing_brackets bs))
enclosing_falls n [] falls = tt
enclosing_falls n (b ∷ bs) falls = falls_enclosing n b.opening (openings_of bs) falls

record Good (h : List Entry) (u n : ℕ) (bs : List OpenBracket) : Type 0 where
  have : AllHave h u bs
  fall : FallsBelow n (openings_of bs)

module _ (h : List Entry) (u : ℕ) (e : Entry) (bs : List OpenBracket) (good : Good h u (length h) bs) where
  all : AllHave (h ++ e ∷ []) u bs
  all = longer h u e bs (Good.have good)

  more : (os : List Opening) → FallsBelow (length h) os → FallsBelow (length h + 1) os
  more os falls = falls_less (length h) (length h + 1) os (omega arith) falls

  now : IsAt (h ++ e ∷ []) (length h) e
  now = at_end h e

  abbrev IsGood : List OpenBracket → Type 0
  IsGood after = Good (h ++ e ∷ []) u (length h + 1) after

  same_good : IsGood bs
  same_good = record { have = all; fall = more (openings_of bs) (Good.fall good) }

  error_good : e.unit ≡ u → opens_error e.what ≡ true → IsGood (with_error_at (Some (length h)) bs)
  error_good mine opens = record {
    have = with_error_has (h ++ e ∷ []) u (Some (length h)) bs (record { entry = e; at = now; unit_is = mine; opens = opens }) all;
    fall = subst (FallsBelow (length h + 1)) (sym (with_error_openings (Some (length h)) bs)) (more (openings_of bs) (Good.fall good));
  }

  outer_good : IsGood outermost_bracket
  outer_good = record { have = outermost_has (h ++ e ∷ []) u; fall = tt }

  left_good : (verdict : Verdict) → IsGood (brackets_left verdict (enclosing_brackets bs))
  left_good verdict = record {
    have = left_has (h ++ e ∷ []) u verdict (enclosing_brackets bs) (enclosing_has (h ++ e ∷ []) u bs all);
    fall = subst (FallsBelow (length h + 1)) (sym (left_openings verdict (enclosing_brackets bs)))
        (more (openings_of (enclosing_brackets bs)) (enclosing_falls (length h) bs (Good.fall good)));
  }

  own_good : (what : What) → e ≡ record { unit = u; what = what } → IsGood (own_brackets (length h) what bs)
  own_good (whats.Error at mark) same = error_good (ap Entry.unit same) (ap (λ (x : Entry). opens_error x.what) same)
  own_good (whats.Land class from mark) same = error_good (ap Entry.unit same) (ap (λ (x : Entry). opens_error x.what) same)
  own_good (whats.Enter kind born mark bare) same = record {
    have = (
      record { enter = record { mark = mark; bare = bare; at = subst (IsAt (h ++ e ∷ []) (length h)) same now }; error = tt },
      all,
    );
    fall = (omega arith, Good.fall good);
  }
  own_good (whats.Leave kind born verdict logrec dump) same = left_good verdict
  own_good (whats.Begin code dump) same = outer_good
  own_good _ same = same_good

  -- the entry, by whose it is
  after_if : (purged mine : Bool) → (e.unit == u) ≡ mine → IsGood (if purged then outermost_bracket else if mine then own_brackets (length h) e.what bs else bs)
  after_if true mine is = outer_good
  after_if false true is = own_good e.what (ap (λ (i : ℕ). record { unit = i; what = e.what }) (eqb-true e.unit u is))
  after_if false false is = same_good

good_of : (d : DeckView) → IsTrue (is_well_formed d) → (u : ℕ) (h : List Entry) → Legal d h → Good h u (length h) (brackets_of u h)
good_of d deck u h legal =
    holds_of d deck (λ (es : List Entry). Good es u (length es) (brackets_of u es))
    (record { have = outermost_has [] u; fall = tt })
    (λ front e before m good.
    let len : length (front ++ e ∷ []) ≡ length front + 1 = length-append front (e ∷ []) in
    subst (λ (n : ℕ). Good (front ++ e ∷ []) u n (brackets_of u (front ++ e ∷ []))) (sym len)
    (subst (Good (front ++ e ∷ []) u (length front + 1)) (sym (brackets_append u front e))
    (after_if front u e (brackets_of u front) good (purges u e.what) (e.unit == u) refl)))
    h legal

-- and what lives has these names
entered_by : (h : List Entry) (u : ℕ) (r : Option Reg) (o : Option Opening) → HasName o r → HasEnter h u o → IsEnteredBy h u r o
entered_by h u None None name enter = tt
entered_by h u None (Some opening) name enter = absurd name
entered_by h u (Some reg) None name enter = absurd name
entered_by h u (Some reg) (Some opening) name enter = (name.0, name.1, enter)

opened_by : (h : List Entry) (u : ℕ) (r : Option ErrorRecord) (i : Option ℕ) → is_some r ≡ is_some i → HasError h u i → IsOpenedBy h u r i
opened_by h u None None same error = tt
opened_by h u None (Some i) same error = absurd cc
opened_by h u (Some r) None same error = absurd cc
opened_by h u (Some r) (Some i) same error = error

named_by : (d : DeckView) (h : List Entry) (u : ℕ) (ls : List Bracket) (bs : List OpenBracket) → AreSame d h ls bs → AllHave h u bs → AreNamedBy h u ls bs
named_by d h u [] [] same has = tt
named_by d h u [] (b ∷ bs) same has = absurd same
named_by d h u (l ∷ ls) [] same has = absurd same
named_by d h u (l ∷ ls) (b ∷ bs) same has = (
  record {
    routine = entered_by h u l.routine b.opening (IsSame.name same.0) (Has.enter has.0);
    error = opened_by h u l.error b.error (IsSame.error same.0) (Has.error has.0);
  },
  named_by d h u ls bs same.1 has.1,
)

pub named_brackets : (d : DeckView) (h : List Entry) (u : ℕ) → IsTrue (is_well_formed d) → Legal d h → HasNamedBrackets d h u
named_brackets d h u deck legal = record {
  named = named_by d h u (Core.levels (core_at u (world d h))) (brackets_of u h) (brackets_agree d h deck legal u) (Good.have (good_of d deck u h legal));
  fall = Good.fall (good_of d deck u h legal);
}
