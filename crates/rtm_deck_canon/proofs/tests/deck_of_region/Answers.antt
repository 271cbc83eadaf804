use Rattle.std.proofs.Common.{◌≡◌, ◌⊎◌, inl, inr, ℕ, Bool, true, false, List, ◌∷◌, [], None, refl, sym, subst, ap, ◌∙◌}
use Rattle.std.specs.Prelude.{codes}
use Rattle.rtm_deck_operands.specs.Numeral.{decimal_of}
use Rattle.rtm_deck_items.specs.declared.deck.Line.{Line}
use Rattle.rtm_deck_items.specs.declared.deck.UnitKind.TheVariants.{Task}
use Rattle.rtm_deck_items.specs.View.{ProgramView, DeckView}
use Rattle.rtm_deck_items.specs.Spelling.{IsSpelled}
use Rattle.rtm_deck_items.proofs.FormFacts.{same_spelled}
use Rattle.rtm_deck_canon.proofs.CanonLaws.{tested_is_spelled}
use Rattle.rtm_deck_canon.proofs.tests.deck_of_region.Goals as goal

-- the program of the deck, by its lines
abbrev programs : List Line → List ProgramView
programs main = record { name = codes "MAIN    "; lines = main } ∷ []

abbrev deck_of : ℕ → Bool → DeckView
deck_of limit sdwa = record {
  limit = limit;
  sdwa = sdwa;
  programs = record { name = codes "MAIN    "; lines = [] } ∷ [];
  units = record { name = codes "JOB     "; kind = Task; prog = 0; related = None } ∷ [];
  commands = [];
}

of_default_limit : (sdwa : Bool) → IsSpelled (deck_of 20000 sdwa)
unfolding decimal_of
of_default_limit true = tested_is_spelled (deck_of 20000 true) refl refl
of_default_limit false = tested_is_spelled (deck_of 20000 false) refl refl

of_seven : (sdwa : Bool) → IsSpelled (deck_of 7 sdwa)
unfolding decimal_of
of_seven true = tested_is_spelled (deck_of 7 true) refl refl
of_seven false = tested_is_spelled (deck_of 7 false) refl refl

spelled : (limit : ℕ) (sdwa : Bool) → (limit ≡ 20000) ⊎ (limit ≡ 7) → IsSpelled (deck_of limit sdwa)
spelled limit sdwa (inl e) = subst (λ (n : ℕ). IsSpelled (deck_of n sdwa)) (sym e) (of_default_limit sdwa)
spelled limit sdwa (inr e) = subst (λ (n : ℕ). IsSpelled (deck_of n sdwa)) (sym e) (of_seven sdwa)

pub invariant_of-result : goal.invariant_of-result
invariant_of-result c =
    same_spelled c.args.limit c.args.sdwa _ _ _ _ _ _
    (c.in_ok-programs.ensures.items ∙ (ap (λ (p : ProgramView). p ∷ []) c.in_ok-new.ensures ∙ ap programs c.new.ensures.items))
    c.in_ok-units.ensures.items
    c.new-3.ensures.items
    (spelled c.args.limit c.args.sdwa c.requires)
