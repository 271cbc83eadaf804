-- Cutting a text at a byte, and putting it together again.
use Rattle.std.proofs.Common.{◌≡◌, ℕ, zero, suc, ◌<◌, Bool, true, false, eqb, List, [], ◌∷◌, ◌++◌, length, replicate, refl, ap, ◌∙◌, arith}
use Rattle.std.specs.Prelude.{if◌then◌else◌}
use Rattle.std.specs.List.{onto_first, join_with_byte, AllByRecursion}
use Rattle.std.proofs.lemmas.Bool.{and_parts, and_from, not-true, eq-eqb, eqb-true}
use Rattle.rtm_cards.specs.Text.{blank, comma, before, from_first, skip_blanks}
use Rattle.rtm_cards.specs.Fields.{split_at_commas}
use Rattle.rtm_cards.specs.Spelling.{Lacks, BeginsAt}

-- a text up to a byte, and what stands from there on
pub before_at : (stop : ℕ) (text rest : List ℕ) → Lacks stop text → BeginsAt stop rest → before stop (text ++ rest) ≡ text
before_at stop [] [] h e = refl
before_at stop [] (b ∷ rest) h e = rw (eq-eqb b stop e) refl
before_at stop (b ∷ text) rest h e =
    let p = and_parts _ _ h in
    rw (not-true (eqb b stop) p.0, before_at stop text rest p.1 e) refl

pub from_first_at : (stop : ℕ) (text rest : List ℕ) → Lacks stop text → BeginsAt stop rest → from_first stop (text ++ rest) ≡ rest
from_first_at stop [] [] h e = refl
from_first_at stop [] (b ∷ rest) h e = rw (eq-eqb b stop e) refl
from_first_at stop (b ∷ text) rest h e =
    let p = and_parts _ _ h in
    rw (not-true (eqb b stop) p.0) (from_first_at stop text rest p.1 e)

-- what stands before a byte lacks it, what is left from there on begins with it, and both are the text
pub Lacks-before : (stop : ℕ) (text : List ℕ) → Lacks stop (before stop text)
Lacks-before stop [] = refl
Lacks-before stop (b ∷ text) = go (eqb b stop) refl (Lacks-before stop text)
  where
    go : (t : Bool) → eqb b stop ≡ t → Lacks stop (before stop text) → Lacks stop (before stop (b ∷ text))
    go true e h = rw e refl
    go false e h = rw (e, e) h

pub BeginsAt-from_first : (stop : ℕ) (text : List ℕ) → BeginsAt stop (from_first stop text)
BeginsAt-from_first stop [] = tt
BeginsAt-from_first stop (b ∷ text) = go (eqb b stop) refl (BeginsAt-from_first stop text)
  where
    go : (t : Bool) → eqb b stop ≡ t → BeginsAt stop (from_first stop text) → BeginsAt stop (from_first stop (b ∷ text))
    go true e h = rw e (eqb-true b stop e)
    go false e h = rw e h

pub before-from_first : (stop : ℕ) (text : List ℕ) → before stop text ++ from_first stop text ≡ text
before-from_first stop [] = refl
before-from_first stop (b ∷ text) = go (eqb b stop) refl (before-from_first stop text)
  where
    go : (t : Bool) → eqb b stop ≡ t → before stop text ++ from_first stop text ≡ text → before stop (b ∷ text) ++ from_first stop (b ∷ text) ≡ b ∷ text
    go true e h = rw e refl
    go false e h = rw (e, h) refl

-- blanks in front of what doesn't begin with one
pub skip_blanks_at : (n : ℕ) (text : List ℕ) → skip_blanks (replicate n blank ++ text) ≡ skip_blanks text
skip_blanks_at zero text = refl
skip_blanks_at (suc n) text = skip_blanks_at n text

pub skip_blanks-Lacks : (text rest : List ℕ) → Lacks blank text → 0 < length text → skip_blanks (text ++ rest) ≡ text ++ rest
skip_blanks-Lacks [] rest h some = absurd (omega arith)
skip_blanks-Lacks (b ∷ text) rest h some = rw (not-true (eqb b blank) (and_parts _ _ h).0) refl

pub skip_blanks_only : (n : ℕ) → skip_blanks (replicate n blank) ≡ []
skip_blanks_only zero = refl
skip_blanks_only (suc n) = skip_blanks_only n

-- how many blanks a text begins with
abbrev pub count_of_blanks : List ℕ → ℕ
count_of_blanks [] = 0
count_of_blanks (b ∷ bs) = if eqb b blank then suc (count_of_blanks bs) else 0

pub blanks-skip_blanks : (text : List ℕ) → replicate (count_of_blanks text) blank ++ skip_blanks text ≡ text
blanks-skip_blanks [] = refl
blanks-skip_blanks (b ∷ text) = go (eqb b blank) refl (blanks-skip_blanks text)
  where
    go : (t : Bool) → eqb b blank ≡ t → replicate (count_of_blanks text) blank ++ skip_blanks text ≡ text
        → replicate (count_of_blanks (b ∷ text)) blank ++ skip_blanks (b ∷ text) ≡ b ∷ text
    go true e h = rw (e, h, eqb-true b blank e) refl
    go false e h = rw e refl

-- a part up to a comma, and the parts behind it
split_at_comma : (part rest : List ℕ) → Lacks comma part → split_at_commas (part ++ comma ∷ rest) ≡ part ∷ split_at_commas rest
split_at_comma [] rest h = refl
split_at_comma (b ∷ part) rest h =
    let p = and_parts _ _ h in
    rw (not-true (eqb b comma) p.0, split_at_comma part rest p.1) refl

-- a part with no comma
split_nowhere : (part : List ℕ) → Lacks comma part → split_at_commas part ≡ part ∷ []
split_nowhere [] h = refl
split_nowhere (b ∷ part) h =
    let p = and_parts _ _ h in
    rw (not-true (eqb b comma) p.0, split_nowhere part p.1) refl

-- the parts of joined parts
pub split_at_commas-join : (part : List ℕ) (parts : List (List ℕ)) → AllByRecursion (Lacks comma) (part ∷ parts)
    → split_at_commas (join_with_byte comma (part ∷ parts)) ≡ part ∷ parts
split_at_commas-join part [] h = split_nowhere part h.0
split_at_commas-join part (next ∷ parts) h =
    split_at_comma part (join_with_byte comma (next ∷ parts)) h.0 ∙ ap (λ (ps : List (List ℕ)). part ∷ ps) (split_at_commas-join next parts h.1)

-- texts that lack a byte, one behind the other, or with commas between
pub Lacks-append : (byte : ℕ) (xs ys : List ℕ) → Lacks byte xs → Lacks byte ys → Lacks byte (xs ++ ys)
Lacks-append byte [] ys h k = k
Lacks-append byte (x ∷ xs) ys h k =
    let p = and_parts _ _ h in
    and_from _ _ p.0 (Lacks-append byte xs ys p.1 k)

pub Lacks-parts : (byte : ℕ) (xs ys : List ℕ) → Lacks byte (xs ++ ys) → Lacks byte xs × Lacks byte ys
Lacks-parts byte [] ys h = (refl, h)
Lacks-parts byte (x ∷ xs) ys h =
    let p = and_parts _ _ h in
    let q = Lacks-parts byte xs ys p.1 in
    (and_from _ _ p.0 q.0, q.1)

pub Lacks-join : (byte : ℕ) → eqb comma byte ≡ false → (parts : List (List ℕ)) → AllByRecursion (Lacks byte) parts → Lacks byte (join_with_byte comma parts)
Lacks-join byte other [] h = refl
Lacks-join byte other (part ∷ []) h = h.0
Lacks-join byte other (part ∷ next ∷ parts) h =
    Lacks-append byte part _ h.0 (rw other (Lacks-join byte other (next ∷ parts) h.1))

pub Lacks-joined : (byte : ℕ) (parts : List (List ℕ)) → Lacks byte (join_with_byte comma parts) → AllByRecursion (Lacks byte) parts
Lacks-joined byte [] h = tt
Lacks-joined byte (part ∷ []) h = (h, tt)
Lacks-joined byte (part ∷ next ∷ parts) h =
    let p = Lacks-parts byte part _ h in
    (p.0, Lacks-joined byte (next ∷ parts) (and_parts _ _ p.1).1)

Lacks-onto_first : (b : ℕ) → eqb b comma ≡ false → (parts : List (List ℕ)) → AllByRecursion (Lacks comma) parts → AllByRecursion (Lacks comma) (onto_first b parts)
Lacks-onto_first b e [] h = (rw e refl, tt)
Lacks-onto_first b e (part ∷ parts) h = (rw e h.0, h.1)

-- each part that is cut at commas lacks one
pub Lacks-split_at_commas : (text : List ℕ) → AllByRecursion (Lacks comma) (split_at_commas text)
Lacks-split_at_commas [] = (refl, tt)
Lacks-split_at_commas (b ∷ text) = go (eqb b comma) refl (Lacks-split_at_commas text)
  where
    go : (t : Bool) → eqb b comma ≡ t → AllByRecursion (Lacks comma) (split_at_commas text)
        → AllByRecursion (Lacks comma) (split_at_commas (b ∷ text))
    go true e h = rw e (refl, h)
    go false e h = rw e (Lacks-onto_first b e _ h)
