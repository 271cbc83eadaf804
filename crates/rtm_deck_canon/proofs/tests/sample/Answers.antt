use Rattle.std.proofs.Common.{List, ◌∷◌, [], refl, ap₂, ◌∙◌}
use Rattle.std.specs.Prelude.{codes}
use Rattle.rtm_deck_operands.specs.Numeral.{decimal_of, hexadecimal_of}
use Rattle.rtm_deck_items.specs.declared.deck.Line.{Line}
use Rattle.rtm_deck_items.specs.View.{ProgramView}
use Rattle.rtm_deck_items.proofs.FormFacts.{same_spelled}
use Rattle.rtm_deck_canon.proofs.CanonLaws.{tested_is_spelled}
use Rattle.rtm_deck_canon.proofs.tests.sample.Goals as goal

-- the programs of the sample, by their lines
abbrev programs : List Line → List Line → List ProgramView
programs main one = record { name = codes "MAIN    "; lines = main } ∷ record { name = codes "ONE     "; lines = one } ∷ []

pub invariant_of-result : goal.invariant_of-result
unfolding decimal_of hexadecimal_of
invariant_of-result c =
    same_spelled _ _ _ _ _ _ _ _
    (c.in_ok-programs.ensures.items
    ∙ (ap₂ (λ (main one : ProgramView). main ∷ one ∷ []) c.in_ok-new.ensures c.in_ok-new-2.ensures
    ∙ ap₂ programs c.in_ok-lines.ensures.items c.in_ok-recovery.ensures.items))
    c.in_ok-units.ensures.items
    c.in_ok-commands.ensures.items
    (tested_is_spelled _ refl refl)
