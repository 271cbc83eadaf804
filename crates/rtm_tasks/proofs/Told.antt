-- The table of events says which are posted.
use Rattle.std.proofs.Common.{◌≡◌, ℕ, zero, suc, ◌<◌, Bool, true, false, ◌||◌, List, [], ◌∷◌, ◌++◌, length, inl, inr, refl, sym, ap, subst, ◌∙◌, arith}
use Rattle.std.specs.Prelude.{eqb, replicate, reverse, slice_index_or, slice_set}
use Rattle.std.proofs.lemmas.Bool.{eq-eqb}
use Rattle.std.proofs.lemmas.Bool.Decides.{eqb_tells}
use Rattle.std.proofs.lemmas.List.{get_or-set_same, get_or-set_other, length-replicate, length-set, reverse-append}
use Rattle.rtm_model.specs.Tasks.{is_posted}
use Rattle.rtm_tasks.specs.EventList.{Tells}

all_false : (n event : ℕ) → slice_index_or (replicate n false) event false ≡ false
all_false zero event = refl
all_false (suc n) zero = refl
all_false (suc n) (suc event) = all_false n event

pub tells_none : Tells (replicate 256 false) []
tells_none = record { count = length-replicate 256 false; each = λ event small. all_false 256 event }

one_more : (table : List Bool) (events : List ℕ) (event : ℕ) → event < length table → Tells table events → Tells (slice_set table event true) (event ∷ events)
one_more table events event inside told = record {
  count = length-set table event true ∙ told.count;
  each = λ other small. elim (eqb_tells other event) [
    | inl same ↦ subst (λ (k : ℕ). slice_index_or (slice_set table event true) k false ≡ (eqb k event || is_posted k events)) (sym same.1)
        (get_or-set_same table event true false inside ∙ sym (ap (λ (b : Bool). b || is_posted event events) (eq-eqb event event refl)))
    | inr apart ↦ get_or-set_other table event other true false (λ e. apart.1 e) ∙ (told.each other small ∙ sym (ap (λ (b : Bool). b || is_posted other events) apart.0))
  ];
}

pub tells_more : (table : List Bool) (items : List ℕ) (event : ℕ) → event < length table → Tells table (reverse items) → Tells (slice_set table event true) (reverse (items ++ event ∷ []))
tells_more table items event inside told =
    subst (λ (events : List ℕ). Tells (slice_set table event true) events) (sym (reverse-append items (event ∷ []))) (one_more table (reverse items) event inside told)

-- the same of a longer list that is that one
pub tells_joined : (table : List Bool) (items longer : List ℕ) (event : ℕ) → event < 256 → longer ≡ items ++ event ∷ [] → Tells table (reverse items) → Tells (slice_set table event true) (reverse longer)
tells_joined table items longer event small same told =
    let count = told.count in
    subst (λ (list : List ℕ). Tells (slice_set table event true) (reverse list)) (sym same) (tells_more table items event (omega (arith, small, count)) told)
