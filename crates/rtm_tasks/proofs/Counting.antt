-- How many living subtasks each unit has, once one unit's life has changed.
use Rattle.std.proofs.Common.{◌≡◌, ℕ, ◌+◌, ◌-◌, ◌<◌, ◌≤◌, Bool, true, false, cond, not, ◌||◌, List, [], ◌∷◌, length, zero, suc, map, inl, inr, refl, sym, ap, subst, ◌∙◌, arith, Some, None}
use Rattle.std.specs.Prelude.{eqb, slice_index, slice_set}
use Rattle.std.specs.List.{list_any, count_by}
use Rattle.std.proofs.lemmas.Bool.{eq-eqb, cases_lt}
use Rattle.std.proofs.lemmas.Bool.Decides.{eqb_tells, nat_tests}
use Rattle.std.proofs.lemmas.List.{get_or-set_same, get_or-set_other, get_or_past, length-set}
use Rattle.std.proofs.lemmas.List.Sums.{sum_by-set, sum_by-cons, count_by-le-length}
use Rattle.rtm_model.specs.Tasks.{Life, Dormant, Lives, HasEnded, is_dormant, living_mother, is_number, is_subtask_of, life_of, has_subtask, ended_life, with_end}
use Rattle.rtm_tasks.specs.Counts.{AreCounts}

-- one where a test passes
abbrev bit : Bool → ℕ
bit b = cond b 1 0

-- a test that some element passes, and how many pass it
any_of : (b rest : Bool) (n : ℕ) → rest ≡ not (eqb n 0) → (b || rest) ≡ not (eqb (bit b + n) 0)
any_of true rest n e = grind (arith, nat_tests)
any_of false rest n e = e ∙ ap (λ k. not (eqb k 0)) (omega arith)

any-count : {A : Type 0} (p : A → Bool) (xs : List A) → list_any p xs ≡ not (eqb (count_by p xs) 0)
any-count p [] = refl
any-count p (x ∷ xs) = any_of (p x) (list_any p xs) (count_by p xs) (any-count p xs) ∙ sym (ap (λ n. not (eqb n 0)) (sum_by-cons (λ y. cond (p y) 1 0) x xs))

pub counted : (counts : List ℕ) (lives : List Life) (unit : ℕ) → AreCounts counts lives → has_subtask unit lives ≡ not (eqb (slice_index counts unit) 0)
counted counts lives unit are = any-count (is_subtask_of unit) lives ∙ sym (ap (λ n. not (eqb n 0)) (are.each unit))

dormant_alone : (life : Life) → is_dormant life ≡ true → life ≡ Dormant
dormant_alone Dormant e = refl
dormant_alone (Lives mother) e = absurd cc
dormant_alone (HasEnded mother) e = absurd cc

-- who ends is nobody's subtask from then on
nobody's : (unit : ℕ) (life : Life) → is_subtask_of unit (ended_life life) ≡ false
nobody's unit Dormant = refl
nobody's unit (Lives mother) = refl
nobody's unit (HasEnded mother) = refl

count-set : (p : Life → Bool) (lives : List Life) (unit : ℕ) (life : Life) → unit < length lives → count_by p (slice_set lives unit life) + bit (p (life_of unit lives)) ≡ count_by p lives + bit (p life)
count-set p lives unit life inside = sum_by-set (λ l. bit (p l)) lives unit life Dormant inside

-- a dormant unit is born of that mother
count-born : (lives : List Life) (unit mother u : ℕ) → unit < length lives → is_dormant (life_of unit lives) ≡ true → count_by (is_subtask_of u) (slice_set lives unit (Lives (Some mother))) ≡ count_by (is_subtask_of u) lives + bit (eqb mother u)
count-born lives unit mother u inside dormant =
    let was : bit (is_subtask_of u (life_of unit lives)) ≡ 0 = ap (λ l. bit (is_subtask_of u l)) (dormant_alone (life_of unit lives) dormant) in
    let change : count_by (is_subtask_of u) (slice_set lives unit (Lives (Some mother))) + bit (is_subtask_of u (life_of unit lives)) ≡ count_by (is_subtask_of u) lives + bit (eqb mother u) = count-set (is_subtask_of u) lives unit (Lives (Some mother)) inside in
    omega arith

-- the mother's count has room
pub room_of : (counts : List ℕ) (lives : List Life) (mother unit : ℕ) → AreCounts counts lives → unit < length lives → is_dormant (life_of unit lives) ≡ true → slice_index counts mother + 1 ≤ length lives
room_of counts lives mother unit are inside dormant =
    let born : List Life = slice_set lives unit (Lives (Some mother)) in
    let same : bit (eqb mother mother) ≡ 1 = ap bit (eq-eqb mother mother refl) in
    let more : count_by (is_subtask_of mother) born ≡ count_by (is_subtask_of mother) lives + bit (eqb mother mother) = count-born lives unit mother mother inside dormant in
    let most : count_by (is_subtask_of mother) born ≤ length born = count_by-le-length (is_subtask_of mother) born in
    let long : length born ≡ length lives = length-set lives unit (Lives (Some mother)) in
    let one : slice_index counts mother ≡ count_by (is_subtask_of mother) lives = are.each mother in
    omega arith

-- one count raised
raised : (counts : List ℕ) (mother u : ℕ) → mother < length counts → slice_index (slice_set counts mother (slice_index counts mother + 1)) u ≡ slice_index counts u + bit (eqb mother u)
raised counts mother u within =
    elim (eqb_tells mother u) [
      | inl same ↦ subst (λ (k : ℕ). slice_index (slice_set counts mother (slice_index counts mother + 1)) k ≡ slice_index counts k + bit (eqb mother k)) same.1
          (get_or-set_same counts mother (slice_index counts mother + 1) 0 within ∙ sym (ap (λ b. slice_index counts mother + bit b) (eq-eqb mother mother refl)))
      | inr apart ↦ get_or-set_other counts mother u (slice_index counts mother + 1) 0 (λ e. apart.1 (sym e)) ∙ sym (omega (arith, ap bit apart.0))
    ]

pub born_of : (counts : List ℕ) (lives : List Life) (mother unit : ℕ) → AreCounts counts lives → unit < length lives → mother < length counts → is_dormant (life_of unit lives) ≡ true → AreCounts (slice_set counts mother (slice_index counts mother + 1)) (slice_set lives unit (Lives (Some mother)))
born_of counts lives mother unit are inside within dormant =
    record { each = λ u. raised counts mother u within ∙ ap (λ n. n + bit (eqb mother u)) (are.each u) ∙ sym (count-born lives unit mother u inside dormant) }

-- a unit past the last has no life that could change
past_set : (lives : List Life) (unit : ℕ) (life : Life) → length lives ≤ unit → slice_set lives unit life ≡ lives
past_set [] unit life h = refl
past_set (l ∷ ls) zero life h = absurd (omega arith)
past_set (l ∷ ls) (suc unit) life h = ap (λ rest. l ∷ rest) (past_set ls unit life (omega arith))

pub born_of_none : (counts : List ℕ) (lives : List Life) (unit : ℕ) → AreCounts counts lives → is_dormant (life_of unit lives) ≡ true → AreCounts counts (slice_set lives unit (Lives None))
born_of_none counts lives unit are dormant =
    elim (cases_lt unit (length lives)) [
      | inl inside ↦ record {
        each = λ u.
            let was : bit (is_subtask_of u (life_of unit lives)) ≡ 0 = ap (λ l. bit (is_subtask_of u l)) (dormant_alone (life_of unit lives) dormant) in
            let change : count_by (is_subtask_of u) (slice_set lives unit (Lives None)) + bit (is_subtask_of u (life_of unit lives)) ≡ count_by (is_subtask_of u) lives + 0 = count-set (is_subtask_of u) lives unit (Lives None) inside in
            are.each u ∙ omega arith;
      }
      | inr past ↦ subst (λ (ls : List Life). AreCounts counts ls) (sym (past_set lives unit (Lives None) past)) are
    ]

-- a unit ends: its mother has one living subtask less
count-ended : (lives : List Life) (unit u : ℕ) → count_by (is_subtask_of u) (with_end unit lives) + bit (is_subtask_of u (life_of unit lives)) ≡ count_by (is_subtask_of u) lives
count-ended lives unit u =
    elim (cases_lt unit (length lives)) [
      | inl inside ↦
          let none : bit (is_subtask_of u (ended_life (life_of unit lives))) ≡ 0 = ap bit (nobody's u (life_of unit lives)) in
          let change : count_by (is_subtask_of u) (with_end unit lives) + bit (is_subtask_of u (life_of unit lives)) ≡ count_by (is_subtask_of u) lives + bit (is_subtask_of u (ended_life (life_of unit lives))) = count-set (is_subtask_of u) lives unit (ended_life (life_of unit lives)) inside in
          omega arith
      | inr past ↦
          let none : bit (is_subtask_of u (life_of unit lives)) ≡ 0 = ap (λ l. bit (is_subtask_of u l)) (get_or_past lives unit Dormant past) in
          let same : count_by (is_subtask_of u) (with_end unit lives) ≡ count_by (is_subtask_of u) lives = ap (count_by (is_subtask_of u)) (past_set lives unit (ended_life (life_of unit lives)) past) in
          omega arith
    ]

-- whose life has a mother is counted there
pub one_there : (counts : List ℕ) (lives : List Life) (mother unit : ℕ) → AreCounts counts lives → living_mother (life_of unit lives) ≡ Some mother → 0 < slice_index counts mother
one_there counts lives mother unit are is =
    let mine : bit (is_subtask_of mother (life_of unit lives)) ≡ 1 = ap (λ m. bit (is_number mother m)) is ∙ ap bit (eq-eqb mother mother refl) in
    let change : count_by (is_subtask_of mother) (with_end unit lives) + bit (is_subtask_of mother (life_of unit lives)) ≡ count_by (is_subtask_of mother) lives = count-ended lives unit mother in
    let one : slice_index counts mother ≡ count_by (is_subtask_of mother) lives = are.each mother in
    omega arith

in_range : (counts : List ℕ) (mother : ℕ) → 0 < slice_index counts mother → mother < length counts
in_range counts mother h =
    elim (cases_lt mother (length counts)) [
      | inl inside ↦ inside
      | inr past ↦ absurd (omega (arith, get_or_past counts mother 0 past))
    ]

-- one count lowered
lowered : (counts : List ℕ) (mother u : ℕ) → 0 < slice_index counts mother → slice_index (slice_set counts mother (slice_index counts mother - 1)) u + bit (eqb mother u) ≡ slice_index counts u
lowered counts mother u there =
    elim (eqb_tells mother u) [
      | inl same ↦ subst (λ (k : ℕ). slice_index (slice_set counts mother (slice_index counts mother - 1)) k + bit (eqb mother k) ≡ slice_index counts k) same.1
          (omega (arith, get_or-set_same counts mother (slice_index counts mother - 1) 0 (in_range counts mother there), ap bit (eq-eqb mother mother refl)))
      | inr apart ↦ omega (arith, get_or-set_other counts mother u (slice_index counts mother - 1) 0 (λ e. apart.1 (sym e)), ap bit apart.0)
    ]

pub ended_of : (counts : List ℕ) (lives : List Life) (mother unit : ℕ) → AreCounts counts lives → living_mother (life_of unit lives) ≡ Some mother → AreCounts (slice_set counts mother (slice_index counts mother - 1)) (with_end unit lives)
ended_of counts lives mother unit are is = record {
  each = λ u.
      let mine : bit (is_subtask_of u (life_of unit lives)) ≡ bit (eqb mother u) = ap (λ m. bit (is_number u m)) is in
      let change : count_by (is_subtask_of u) (with_end unit lives) + bit (is_subtask_of u (life_of unit lives)) ≡ count_by (is_subtask_of u) lives = count-ended lives unit u in
      let less : slice_index (slice_set counts mother (slice_index counts mother - 1)) u + bit (eqb mother u) ≡ slice_index counts u = lowered counts mother u (one_there counts lives mother unit are is) in
      let one : slice_index counts u ≡ count_by (is_subtask_of u) lives = are.each u in
      omega arith;
}

pub ended_of_none : (counts : List ℕ) (lives : List Life) (unit : ℕ) → AreCounts counts lives → living_mother (life_of unit lives) ≡ None → AreCounts counts (with_end unit lives)
ended_of_none counts lives unit are is = record {
  each = λ u.
      let mine : bit (is_subtask_of u (life_of unit lives)) ≡ 0 = ap (λ m. bit (is_number u m)) is in
      let change : count_by (is_subtask_of u) (with_end unit lives) + bit (is_subtask_of u (life_of unit lives)) ≡ count_by (is_subtask_of u) lives = count-ended lives unit u in
      let one : slice_index counts u ≡ count_by (is_subtask_of u) lives = are.each u in
      omega arith;
}

-- before the first entry nobody has a subtask
no_count : {A : Type 0} (units : List A) (u : ℕ) → slice_index (map (λ unit. 0) units) u ≡ 0
no_count [] u = refl
no_count (x ∷ xs) zero = refl
no_count (x ∷ xs) (suc u) = no_count xs u

none_counted : {A : Type 0} (units : List A) (u : ℕ) → count_by (is_subtask_of u) (map (λ unit. Dormant) units) ≡ 0
none_counted [] u = refl
none_counted (x ∷ xs) u = sum_by-cons (λ life. bit (is_subtask_of u life)) Dormant (map (λ unit. Dormant) xs) ∙ ap (λ n. 0 + n) (none_counted xs u)

all_dormant : {A : Type 0} (units : List A) (u : ℕ) → is_dormant (life_of u (map (λ unit. Dormant) units)) ≡ true
all_dormant [] u = refl
all_dormant (x ∷ xs) zero = refl
all_dormant (x ∷ xs) (suc u) = all_dormant xs u

same_length : {A B C : Type 0} (f : A → B) (g : A → C) (units : List A) → length (map f units) ≡ length (map g units)
same_length f g [] = refl
same_length f g (x ∷ xs) = ap suc (same_length f g xs)

pub at_start : {A : Type 0} (units : List A) (first : ℕ) → (length {A = ℕ} (map (λ unit. 0) units) ≡ length {A = Life} (slice_set (map (λ unit. Dormant) units) first (Lives None)))
    × AreCounts (map (λ unit. 0) units) (slice_set (map (λ unit. Dormant) units) first (Lives None))
at_start units first = (
  same_length (λ unit. 0) (λ unit. Dormant) units ∙ sym (length-set (map (λ unit. Dormant) units) first (Lives None)),
  born_of_none (map (λ unit. 0) units) (map (λ unit. Dormant) units) first
      (record { each = λ u. no_count units u ∙ sym (none_counted units u) }) (all_dormant units first),
)
