-- Births and deaths of request blocks, and their places: lists of brackets.
use Rattle.std.proofs.Common.{◌≡◌, ℕ, ◌<◌, ◌≤◌, ◌+◌, ◌-◌, Bool, true, false, cond, List, [], ◌∷◌, Some, refl, sym, ap, subst, arith, inl, inr, ◌∙◌}
use Rattle.std.proofs.lemmas.Bool.{eq-eqb, eqb-true, ne_eqb}
use Rattle.std.specs.Prelude.{find, if◌then◌else◌, is_some, ◌==◌}
use Rattle.rtm_model.specs.declared.block.Block.{Block}
use Rattle.rtm_model.specs.declared.block.Place.{Place}
use Rattle.rtm_model.specs.Blocks.{birth_or_zero, block_of, first_place, from_birth, from_first, is_block_of, newest, with_newest_at}
use Rattle.rtm_model.specs.Moments.{IsIn}
use Rattle.rtm_model.specs.inner.Soundness.{BlocksFall}
use Rattle.rtm_law_births.specs.RequestBlocks.{IsBlockAt}
use Rattle.rtm_law_births.proofs.States.{Turns}

-- a request block by its birth and place
abbrev pub at_place : ℕ → Place → Block
at_place born place = record { born = born; place = place }

-- the request blocks of a bracket were born below the number
pub born_below : (n : ℕ) (bs : List Block) (b : Block) → BlocksFall n bs → IsIn b bs → b.born < n
born_below n [] b f h = absurd h
born_below n (x ∷ xs) b f (inl same) = omega (arith, f.0, ap Block.born same)
born_below n (x ∷ xs) b f (inr h) = let less = born_below x.born xs b f.1 h in omega (arith, f.0, less)

-- bracket by bracket
pub count_of : (count depth : ℕ) (b : Block) (bss : List (List Block)) → IsBlockAt count depth b bss → depth + 1 ≤ count
count_of count depth b [] h = absurd h
count_of count depth b (bs ∷ outer) (inl here) = omega (arith, here.0)
count_of count depth b (bs ∷ outer) (inr more) = omega (arith, count_of (count - 1) depth b outer more)

pub strictly : (count depth : ℕ) (b : Block) (outer : List (List Block)) → IsBlockAt (count - 1) depth b outer → depth + 1 < count
strictly count depth b outer h = omega (arith, count_of (count - 1) depth b outer h)

-- the birth of a bracket's newest
abbrev pub newest_of : List Block → ℕ
newest_of bs = birth_or_zero (newest bs)

if_is : (a b : Place) (t : Bool) → t ≡ true → (if t then a else b) ≡ a
if_is a b true e = refl
if_is a b false e = absurd cc

if_not : (a b : Place) (t : Bool) → t ≡ false → (if t then a else b) ≡ b
if_not a b true e = absurd cc
if_not a b false e = refl

same_block : (born : ℕ) (b : Block) → born ≡ b.born → at_place born b.place ≡ b
same_block born b e = ap (λ (k : ℕ). at_place k b.place) e

moved_block : (born : ℕ) (place : Place) (b : Block) (s : Place) → born ≡ b.born → at_place born (if born == b.born then place else s) ≡ record b { place = place }
moved_block born place b s e =
    ap (at_place born) (if_is place s (born == b.born) (eq-eqb born b.born e)) ∙ ap (λ (k : ℕ). at_place k place) e

-- the newest is moved to a place
pub moved_list : (n : ℕ) (born : ℕ) (place : Place) (bs : List Block) → BlocksFall n bs
    → Turns Place (λ s. IsIn (at_place born s) (with_newest_at place bs)) (λ s. IsIn (at_place born s) bs) (λ s. ⊥) ⊥ (λ s. if born == newest_of bs then place else s)
moved_list n born place [] f = record { came = λ s h. absurd h; born = λ s h. absurd h; stays = λ s h alive. absurd h }
moved_list n born place (b ∷ older) f = record {
  came = λ s h. elim h [
    | inl here ↦
        let birth : born ≡ b.born = ap Block.born here in
        inr (b.place, inl (same_block born b birth), λ k. k, ap Block.place here ∙ sym (if_is place b.place (born == b.born) (eq-eqb born b.born birth)))
    | inr more ↦
        let less = born_below b.born older (at_place born s) f.1 more in
        inr (s, inr more, λ k. k, sym (if_not place s (born == b.born) (ne_eqb born b.born (λ e. omega (arith, less, e)))))
  ];
  born = λ s h. absurd h;
  stays = λ s h alive. elim h [
    | inl here ↦
        let birth : born ≡ b.born = ap Block.born here in
        inl (moved_block born place b s birth)
    | inr more ↦
        let less = born_below b.born older (at_place born s) f.1 more in
        inr (subst (λ (p : Place). IsIn (at_place born p) older) (sym (if_not place s (born == b.born) (ne_eqb born b.born (λ e. omega (arith, less, e))))) more)
  ];
}

-- the newest is gone
pub dropped_list : (n : ℕ) (born : ℕ) (b : Block) (older : List Block) → BlocksFall n (b ∷ older)
    → Turns Place (λ s. IsIn (at_place born s) older) (λ s. IsIn (at_place born s) (b ∷ older)) (λ s. ⊥) (born ≡ b.born) (λ s. s)
dropped_list n born b older f = record {
  came = λ s h. let less = born_below b.born older (at_place born s) f.1 h in inr (s, inr h, λ k. omega (arith, less, k), refl);
  born = λ s h. absurd h;
  stays = λ s h alive. elim h [ inl here ↦ absurd (alive (ap Block.born here)) | inr more ↦ more ];
}

-- a retry: the newer ones are gone, and that of the retry's birth goes on at the place
cut_if : (n r born : ℕ) (place : Place) (y : Block) (ys : List Block) → BlocksFall n (y ∷ ys) → (t : Bool) → is_block_of r y ≡ t
    → (is_some (find (is_block_of r) ys) ≡ true → Turns Place (λ s. IsIn (at_place born s) (with_newest_at place (from_first (is_block_of r) ys))) (λ s. IsIn (at_place born s) ys) (λ s. ⊥) (r < born) (λ s. if born == r then place else s))
    → (is_some (find (is_block_of r) ys) ≡ true → r < y.born)
    → is_some (cond t (Some y) (find (is_block_of r) ys)) ≡ true
    → Turns Place (λ s. IsIn (at_place born s) (with_newest_at place (if t then y ∷ ys else from_first (is_block_of r) ys))) (λ s. IsIn (at_place born s) (y ∷ ys)) (λ s. ⊥) (r < born) (λ s. if born == r then place else s)
cut_if n r born place y ys f true e more older some =
    let is : y.born ≡ r = eqb-true y.born r e in
    record {
      came = λ s h. elim h [
        | inl here ↦
            let birth : born ≡ y.born = ap Block.born here in
            inr (y.place, inl (same_block born y birth), λ k. omega (arith, k, birth, is), ap Block.place here ∙ sym (if_is place y.place (born == r) (eq-eqb born r (birth ∙ is))))
        | inr rest ↦
            let less = born_below y.born ys (at_place born s) f.1 rest in
            inr (s, inr rest, λ k. omega (arith, k, less, is), sym (if_not place s (born == r) (ne_eqb born r (λ e2. omega (arith, less, e2, is)))))
      ];
      born = λ s h. absurd h;
      stays = λ s h alive. elim h [
        | inl here ↦
            let birth : born ≡ y.born = ap Block.born here in
            inl (ap (at_place born) (if_is place s (born == r) (eq-eqb born r (birth ∙ is))) ∙ ap (λ (k : ℕ). at_place k place) birth)
        | inr rest ↦
            let less = born_below y.born ys (at_place born s) f.1 rest in
            inr (subst (λ (p : Place). IsIn (at_place born p) ys) (sym (if_not place s (born == r) (ne_eqb born r (λ e2. omega (arith, less, e2, is))))) rest)
      ];
    }
cut_if n r born place y ys f false e more older some =
    let turns = more some in
    record {
      came = λ s h. elim (turns.came s h) [ inl none ↦ inl none | inr stayed ↦ inr (stayed.0, inr stayed.1, stayed.2, stayed.3) ];
      born = λ s h. absurd h;
      stays = λ s h alive. elim h [
        | inl here ↦ let birth : born ≡ y.born = ap Block.born here in absurd (alive (omega (arith, older some, birth)))
        | inr rest ↦ turns.stays s rest alive
      ];
    }

-- what is found was born below the number
found_if : (n r : ℕ) (b : Block) (bs : List Block) → BlocksFall n (b ∷ bs) → (t : Bool) → is_block_of r b ≡ t → (is_some (find (is_block_of r) bs) ≡ true → r < b.born) → is_some (cond t (Some b) (find (is_block_of r) bs)) ≡ true → r < n
found_if n r b bs f true e more some = let is : b.born ≡ r = eqb-true b.born r e in omega (arith, is, f.0)
found_if n r b bs f false e more some = omega (arith, more some, f.0)

pub found_below : (n r : ℕ) (bs : List Block) → BlocksFall n bs → is_some (find (is_block_of r) bs) ≡ true → r < n
found_below n r [] f some = absurd cc
found_below n r (b ∷ bs) f some = found_if n r b bs f (is_block_of r b) refl (found_below b.born r bs f.1) some

cut_list : (n r born : ℕ) (place : Place) (bs : List Block) → BlocksFall n bs → is_some (find (is_block_of r) bs) ≡ true
    → Turns Place (λ s. IsIn (at_place born s) (with_newest_at place (from_first (is_block_of r) bs))) (λ s. IsIn (at_place born s) bs) (λ s. ⊥) (r < born) (λ s. if born == r then place else s)
cut_list n r born place [] f some = absurd cc
cut_list n r born place (y ∷ ys) f some = cut_if n r born place y ys f (is_block_of r y) refl (cut_list y.born r born place ys f.1) (found_below y.born r ys f.1) some

from_is : (r : ℕ) (bs : List Block) → is_some (find (is_block_of r) bs) ≡ true → from_birth r bs ≡ from_first (is_block_of r) bs
from_is r bs some = rw some refl

pub retried_list : (n r born : ℕ) (place : Place) (bs : List Block) → BlocksFall n bs → is_some (find (is_block_of r) bs) ≡ true
    → Turns Place (λ s. IsIn (at_place born s) (with_newest_at place (from_birth r bs))) (λ s. IsIn (at_place born s) bs) (λ s. ⊥) (r < born) (λ s. if born == r then place else s)
retried_list n r born place bs f some =
    subst (λ (list : List Block). Turns Place (λ s. IsIn (at_place born s) (with_newest_at place list)) (λ s. IsIn (at_place born s) bs) (λ s. ⊥) (r < born) (λ s. if born == r then place else s)) (sym (from_is r bs some)) (cut_list n r born place bs f some)

-- The innermost bracket's list is changed: what comes of a request block of any bracket

module _ (count depth born : ℕ) (bs bs2 : List Block) (outer : List (List Block)) (B : Place → Type 0) (K : Type 0) (change : Place → Place)
    (turns : Turns Place (λ s. IsIn (at_place born s) bs2) (λ s. IsIn (at_place born s) bs) B K change) where
  pub top_turns : Turns Place (λ s. IsBlockAt count depth (at_place born s) (bs2 ∷ outer)) (λ s. IsBlockAt count depth (at_place born s) (bs ∷ outer))
      (λ s. (depth + 1 ≡ count) × B s) ((depth + 1 ≡ count) × K) (λ s. if depth + 1 == count then change s else s)
  top_turns = record {
    came = λ s h. elim h [
      | inl here ↦ elim (turns.came s here.1) [
        | inl born ↦ inl (here.0, born)
        | inr stayed ↦ inr (stayed.0, inl (here.0, stayed.1), λ k. stayed.2 k.1, stayed.3 ∙ sym (if_is (change stayed.0) stayed.0 (depth + 1 == count) (eq-eqb (depth + 1) count here.0)))
      ]
      | inr more ↦
          let apart = strictly count depth (at_place born s) outer more in
          inr (s, inr more, λ k. omega (arith, k.0, apart), sym (if_not (change s) s (depth + 1 == count) (ne_eqb (depth + 1) count (λ e. omega (arith, e, apart)))))
    ];
    born = λ s h. inl (h.0, turns.born s h.1);
    stays = λ s h alive. elim h [
      | inl here ↦
          subst (λ (p : Place). IsBlockAt count depth (at_place born p) (bs2 ∷ outer)) (sym (if_is (change s) s (depth + 1 == count) (eq-eqb (depth + 1) count here.0)))
          (inl (here.0, turns.stays s here.1 (λ k. alive (here.0, k))))
      | inr more ↦
          let apart = strictly count depth (at_place born s) outer more in
          subst (λ (p : Place). IsBlockAt count depth (at_place born p) (bs2 ∷ outer)) (sym (if_not (change s) s (depth + 1 == count) (ne_eqb (depth + 1) count (λ e. omega (arith, e, apart)))))
          (inr more)
    ];
  }

-- the innermost bracket is gone
pub closed_turns : (count depth born : ℕ) (bs : List Block) (outer : List (List Block))
    → Turns Place (λ s. IsBlockAt (count - 1) depth (at_place born s) outer) (λ s. IsBlockAt count depth (at_place born s) (bs ∷ outer)) (λ s. ⊥) (depth + 1 ≡ count) (λ s. s)
closed_turns count depth born bs outer = record {
  came = λ s h. let apart = strictly count depth (at_place born s) outer h in inr (s, inr h, λ k. omega (arith, k, apart), refl);
  born = λ s h. absurd h;
  stays = λ s h alive. elim h [ inl here ↦ absurd (alive here.0) | inr more ↦ more ];
}

-- a bracket is opened
pub opened_turns : (count depth born n : ℕ) (prog : ℕ) (bss : List (List Block)) → 1 ≤ count + 1
    → Turns Place (λ s. IsBlockAt (count + 1) depth (at_place born s) ((block_of n prog ∷ []) ∷ bss)) (λ s. IsBlockAt count depth (at_place born s) bss)
    (λ s. (depth ≡ count) × (born ≡ n) × (s ≡ first_place prog)) ⊥ (λ s. s)
opened_turns count depth born n prog bss some =
    let back : count + 1 - 1 ≡ count = omega arith in
    record {
      came = λ s h. elim h [
        | inl here ↦ elim here.1 [
          | inl same ↦ inl (omega (arith, here.0), ap Block.born same, ap Block.place same)
          | inr none ↦ absurd none
        ]
        | inr more ↦ inr (s, subst (λ (k : ℕ). IsBlockAt k depth (at_place born s) bss) back more, λ k. k, refl)
      ];
      born = λ s h. inl (omega (arith, h.0), inl (ap (λ (k : ℕ). at_place k s) h.1 ∙ ap (at_place n) h.2));
      stays = λ s h alive. inr (subst (λ (k : ℕ). IsBlockAt k depth (at_place born s) bss) (sym back) h);
    }

-- LINK: the newest is moved, and one more is there
pub linked_list : (n : ℕ) (born birth prog : ℕ) (place : Place) (bs : List Block) → BlocksFall n bs
    → Turns Place (λ s. IsIn (at_place born s) (block_of birth prog ∷ with_newest_at place bs)) (λ s. IsIn (at_place born s) bs) (λ s. (born ≡ birth) × (s ≡ first_place prog)) ⊥ (λ s. if born == newest_of bs then place else s)
linked_list n born birth prog place bs f =
    let turns = moved_list n born place bs f in
    record {
      came = λ s h. elim h [
        | inl new ↦ inl (ap Block.born new, ap Block.place new)
        | inr old ↦ elim (turns.came s old) [ inl none ↦ absurd none | inr stayed ↦ inr stayed ]
      ];
      born = λ s h. inl (ap (λ (k : ℕ). at_place k s) h.0 ∙ ap (at_place birth) h.1);
      stays = λ s h alive. inr (turns.stays s h alive);
    }
