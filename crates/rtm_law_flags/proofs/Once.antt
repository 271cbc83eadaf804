-- No unit is born twice, begins to end twice or dies twice, and none begins to end or dies that doesn't live.
use Rattle.std.proofs.Common.{◌≡◌, ℕ, Bool, true, false, not, ◌&&◌, ◌||◌, List, take, Option, Some, None, refl, sym, ap, subst, ◌∙◌}
use Rattle.std.proofs.lemmas.Bool.{eqb-true}
use Rattle.std.specs.List.{list_any}
use Rattle.std.specs.Prelude.{IsTrue, is_none, is_some, ◌==◌}
use Rattle.rtm_deck_items.specs.Reading.{job_step, op_at}
use Rattle.rtm_deck_items.specs.View.{DeckView}
use Rattle.rtm_deck_items.specs.WellFormed.{is_well_formed}
use Rattle.rtm_deck_items.specs.declared.op.Op.{Op}
use Rattle.rtm_deck_items.specs.declared.op.Op.TheVariants as ops
use Rattle.rtm_model.specs.declared.entry.Entry.{Entry}
use Rattle.rtm_model.specs.declared.entry.What.{What}
use Rattle.rtm_model.specs.declared.entry.What.TheVariants as whats
use Rattle.rtm_model.specs.inner.Applies.{CanExecute}
use Rattle.rtm_model.specs.inner.Soundness.{stands}
use Rattle.rtm_model.specs.Entries.{is_begin_of}
use Rattle.rtm_model.specs.Legal.{Legal}
use Rattle.rtm_model.specs.Moments.{IsAt, before}
use Rattle.rtm_model.specs.Tasks.{Dormant, HasEnded, Life, Lives, Tree, has_ended, is_dormant, is_living, life_of}
use Rattle.rtm_model.specs.World.{Beginning, Core, World, core_at, lives_in}
use Rattle.rtm_law_births.proofs.Living.{IsMade}
use Rattle.rtm_law_landings.proofs.Appended.{front_made}
use Rattle.rtm_law_landings.proofs.Changes.{begun_agree}
use Rattle.rtm_law_sound.proofs.Histories.{prefix_legal}
use Rattle.rtm_law_flags.specs.Flags.{LivesOnce, life_before}
use Rattle.rtm_law_flags.specs.Said.{ends_life, gives_birth, says_birth}
use Rattle.rtm_law_flags.proofs.Agree.{only_one}
use Rattle.rtm_law_flags.proofs.Units.{born_agree, ended_agree}

both_of : (a b : Bool) → (a && b) ≡ true → (a ≡ true) × (b ≡ true)
both_of true true h = (refl, refl)
both_of true false h = absurd cc
both_of false b h = absurd cc

right_of : (a b : Bool) → false ≡ (a || b) → b ≡ false
right_of true b h = absurd cc
right_of false b h = sym h

alive_not : (life : Life) → is_living life ≡ true → has_ended life ≡ false
alive_not Dormant h = absurd cc
alive_not (Lives mother) h = refl
alive_not (HasEnded mother) h = absurd cc

none_not : (o : Option Beginning) → is_none o ≡ true → is_some o ≡ false
none_not None h = refl
none_not (Some begun) h = absurd cc

-- what an entry says of the life before it
module _ (d : DeckView) (w : World) (n unit u : ℕ) where
  unborn_card : (rc : ℕ) (op : Op) → CanExecute w unit rc op → says_birth rc u op ≡ true → is_dormant (life_of u (Tree.lives w.tree)) ≡ true
  unborn_card rc (ops.Attachx subtask estai term) can h =
      let both = both_of (rc == 0) (subtask == u) h in
      subst (λ (i : ℕ). is_dormant (life_of i (Tree.lives w.tree)) ≡ true) (eqb-true subtask u both.1) (can (eqb-true rc 0 both.0))
  unborn_card rc (ops.Schedule srb) can h =
      let both = both_of (rc == 0) (srb == u) h in
      subst (λ (i : ℕ). is_dormant (life_of i (Tree.lives w.tree)) ≡ true) (eqb-true srb u both.1) (can (eqb-true rc 0 both.0))
  unborn_card rc _ can h = absurd cc

  unborn_by : (what : What) → IsMade d w n (record { unit = unit; what = what }) → gives_birth d u what ≡ true → is_dormant (life_of u (Tree.lives w.tree)) ≡ true
  unborn_by (whats.Exec at rc) m h = unborn_card rc (op_at d at.prog at.op) m.can.what.1 h
  unborn_by _ m h = absurd cc

  alive_by : (what : What) → IsMade d w n (record { unit = unit; what = what }) → ends_life u unit what ≡ true → lives_in w u ≡ true
  alive_by (whats.Done code to_task to_step) m h = subst (λ (i : ℕ). lives_in w i ≡ true) (eqb-true unit u h) m.can.what.0
  alive_by (whats.Purge purged) m h = subst (λ (i : ℕ). lives_in w i ≡ true) (eqb-true purged u h) m.can.what.1
  alive_by _ m h = absurd cc

  stands_by : (what : What) → IsMade d w n (record { unit = unit; what = what }) → is_begin_of u unit what ≡ true → stands w u ≡ true
  stands_by (whats.Begin code dump) m h = subst (λ (i : ℕ). stands w i ≡ true) (eqb-true unit u h) m.can.what.0
  stands_by _ m h = absurd cc

module _ (d : DeckView) (h : List Entry) (u : ℕ) (deck : IsTrue (is_well_formed d)) (legal : Legal d h) where
  dormant_at : (i : ℕ) (e : Entry) → IsAt h i e → gives_birth d u e.what ≡ true → is_dormant (life_before d h i u) ≡ true
  dormant_at i e at gives = unborn_by d (before d h i) i e.unit u e.what (front_made d h deck legal i e at) gives

  alive_at : (i : ℕ) (e : Entry) → IsAt h i e → ends_life u e.unit e.what ≡ true → lives_in (before d h i) u ≡ true
  alive_at i e at ends = alive_by d (before d h i) i e.unit u e.what (front_made d h deck legal i e at) ends

  stands_at : (i : ℕ) (e : Entry) → IsAt h i e → is_begin_of u e.unit e.what ≡ true → stands (before d h i) u ≡ true
  stands_at i e at begins = stands_by d (before d h i) i e.unit u e.what (front_made d h deck legal i e at) begins

  no_birth : (i : ℕ) (e : Entry) → IsAt h i e → gives_birth d u e.what ≡ true → list_any (λ (x : Entry). gives_birth d u x.what) (take i h) ≡ false
  no_birth i e at gives =
      right_of (u == job_step d) (list_any (λ (x : Entry). gives_birth d u x.what) (take i h))
      (ap not (sym (dormant_at i e at gives)) ∙ born_agree d deck u (take i h) (prefix_legal d h i legal))

  no_death : (i : ℕ) (e : Entry) → IsAt h i e → ends_life u e.unit e.what ≡ true → list_any (λ (x : Entry). ends_life u x.unit x.what) (take i h) ≡ false
  no_death i e at ends =
      sym (ended_agree d deck u (take i h) (prefix_legal d h i legal)) ∙ alive_not (life_before d h i u) (alive_at i e at ends)

  no_begin : (i : ℕ) (e : Entry) → IsAt h i e → is_begin_of u e.unit e.what ≡ true → list_any (λ (x : Entry). is_begin_of u x.unit x.what) (take i h) ≡ false
  no_begin i e at begins =
      let c : Core = core_at u (before d h i) in
      sym (begun_agree d (take i h) deck (prefix_legal d h i legal) u)
      ∙ none_not c.begun (both_of (lives_in (before d h i) u) (is_none c.begun) (stands_at i e at begins)).1

  pub lives_once : LivesOnce d h u
  lives_once = record {
    birth = λ i j e other at there one two. only_one (λ (x : Entry). gives_birth d u x.what) h no_birth i j e other at there one two;
    begin = λ i j e other at there one two. only_one (λ (x : Entry). is_begin_of u x.unit x.what) h no_begin i j e other at there one two;
    begins_alive = λ i e at begins. (both_of (lives_in (before d h i) u) (is_none (Core.begun (core_at u (before d h i)))) (stands_at i e at begins)).0;
    death = λ i j e other at there one two. only_one (λ (x : Entry). ends_life u x.unit x.what) h no_death i j e other at there one two;
    dies_alive = alive_at;
    unborn = dormant_at;
  }
