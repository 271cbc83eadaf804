-- What a deck that is spelled keeps.
use Rattle.std.proofs.Common.{◌≡◌, ℕ, zero, suc, ◌≤◌, List, [], ◌∷◌, length, Option, Some, None, refl, sym, subst, arith}
use Rattle.std.specs.Prelude.{Bool, IsTrue, slice_get, nat_le}
use Rattle.std.specs.List.{list_all, list_any}
use Rattle.std.proofs.lemmas.Bool.{leb-true}
use Rattle.std.proofs.Math.Bool.{Bool-set}
use Rattle.std.proofs.Math.Logic.{∥∥₁_elim}
use Rattle.rtm_deck_items.specs.declared.deck.Unit.{Unit as UnitCard}
use Rattle.rtm_deck_items.specs.declared.deck.Command.{Command}
use Rattle.rtm_deck_items.specs.View.{ProgramView, DeckView}
use Rattle.rtm_deck_items.specs.Spelling.{IsSpelled}
use Rattle.rtm_deck_items.specs.Reading.{is_task_card, lines_in, lines_of}
use Rattle.rtm_deck_items.specs.WellFormed.{is_well_formed, keeps_limits, has_distinct_names, is_program_of, is_unit_of, is_command_of, cards_needed, program_cards}
use Rattle.rtm_deck_items.proofs.Lists.{both_true}

-- a deck that some bytes spell is well formed
pub well_formed : (d : DeckView) → IsSpelled d → IsTrue (is_well_formed d)
well_formed d h = ∥∥₁_elim h (Bool-set _ _) (λ t. t.1.well_formed)

-- the conditions on a deck alone, one by one
pub record Conditions (d : DeckView) : Type 0 where
  pub limits : IsTrue (keeps_limits d)
  pub names : IsTrue (has_distinct_names d)
  pub task : IsTrue (list_any is_task_card d.units)
  pub programs : IsTrue (list_all (is_program_of d) d.programs)
  pub units : IsTrue (list_all (is_unit_of d) d.units)
  pub commands : IsTrue (list_all (is_command_of d) d.commands)

pub conditions : (d : DeckView) → IsTrue (is_well_formed d) → Conditions d
conditions d h =
    let abcde = both_true _ (list_all (is_command_of d) d.commands) h in
    let abcd = both_true _ (list_all (is_unit_of d) d.units) abcde.0 in
    let abc = both_true _ (list_all (is_program_of d) d.programs) abcd.0 in
    let ab = both_true _ (list_any is_task_card d.units) abc.0 in
    let a = both_true (keeps_limits d) (has_distinct_names d) ab.0 in
    record { limits = a.0; names = a.1; task = ab.1; programs = abc.1; units = abcd.1; commands = abcde.1 }

-- the limits of a deck, in numbers
pub record Limits (d : DeckView) : Type 0 where
  pub least : 1 ≤ d.limit
  pub most : d.limit ≤ 100000
  pub programs : length d.programs ≤ 256
  pub units : length d.units ≤ 64
  pub commands : length d.commands ≤ 64
  pub cards : cards_needed d ≤ 10000

pub limits : (d : DeckView) → IsTrue (is_well_formed d) → Limits d
limits d h =
    let abcdef = both_true _ (nat_le (cards_needed d) 10000) (conditions d h).limits in
    let abcde = both_true _ (nat_le (length d.commands) 64) abcdef.0 in
    let abcd = both_true _ (nat_le (length d.units) 64) abcde.0 in
    let abc = both_true _ (nat_le (length d.programs) 256) abcd.0 in
    let ab = both_true (nat_le 1 d.limit) (nat_le d.limit 100000) abc.0 in
    record {
      least = leb-true _ _ ab.0;
      most = leb-true _ _ ab.1;
      programs = leb-true _ _ abc.1;
      units = leb-true _ _ abcd.1;
      commands = leb-true _ _ abcde.1;
      cards = leb-true _ _ abcdef.1;
    }

-- a program has no more cards than all together
lines_in_sum : (ps : List ProgramView) (i : ℕ) (p : ProgramView) → slice_get ps i ≡ Some p → length p.lines ≤ program_cards ps
lines_in_sum [] i p e = absurd cc
lines_in_sum (q ∷ qs) zero p e = let same : q ≡ p = cc in rw same (omega arith)
lines_in_sum (q ∷ qs) (suc i) p e = omega (arith, lines_in_sum qs i p e)

-- a program of the deck has at most 10000 cards
pub lines_bound : (d : DeckView) → IsTrue (is_well_formed d) → (i : ℕ) (p : ProgramView) → slice_get d.programs i ≡ Some p → length p.lines ≤ 10000
lines_bound d h i p e = omega (arith, lines_in_sum d.programs i p e, (limits d h).cards)

-- a deck that is spelled has few units, and each of its programs few cards
pub few_units : (d : DeckView) → IsSpelled d → length d.units ≤ 64
few_units d h = (limits d (well_formed d h)).units

lines_at : (d : DeckView) → IsSpelled d → (i : ℕ) (o : Option ProgramView) → slice_get d.programs i ≡ o → length (lines_in o) ≤ 10000
lines_at d h i None e = omega arith
lines_at d h i (Some p) e = lines_bound d (well_formed d h) i p e

pub few_lines : (d : DeckView) → IsSpelled d → (i : ℕ) → length (lines_of d i) ≤ 10000
few_lines d h i = lines_at d h i (slice_get d.programs i) refl

-- a deck of the same parts is spelled too
pub same_spelled : (limit : ℕ) (sdwa : Bool) (ps qs : List ProgramView) (us vs : List UnitCard) (cs ds : List Command)
    → ps ≡ qs → us ≡ vs → cs ≡ ds
    → IsSpelled (record { limit = limit; sdwa = sdwa; programs = qs; units = vs; commands = ds })
    → IsSpelled (record { limit = limit; sdwa = sdwa; programs = ps; units = us; commands = cs })
same_spelled limit sdwa ps qs us vs cs ds e f g h =
    subst (λ (x : List ProgramView). IsSpelled (record { limit = limit; sdwa = sdwa; programs = x; units = us; commands = cs })) (sym e)
    (subst (λ (x : List UnitCard). IsSpelled (record { limit = limit; sdwa = sdwa; programs = qs; units = x; commands = cs })) (sym f)
    (subst (λ (x : List Command). IsSpelled (record { limit = limit; sdwa = sdwa; programs = qs; units = vs; commands = x })) (sym g) h))
