-- A card is read as it is spelled, and each card is spelled as it is read.
use Rattle.std.proofs.Common.{◌≡◌, ℕ, zero, suc, ◌<◌, Bool, true, false, eqb, List, [], ◌∷◌, ◌++◌, length, replicate, refl, sym, ap, subst, ◌∙◌, arith}
use Rattle.std.specs.List.{join_with_byte, AllByRecursion}
use Rattle.std.proofs.lemmas.List.{append-nil}
use Rattle.std.proofs.lemmas.List.Splits.{join_with_byte-slice_split}
use Rattle.rtm_cards.specs.Text.{blank, comma, before, from_first, skip_blanks}
use Rattle.rtm_cards.specs.Fields.{split_at_commas, name_of, from_op, op_of, parts_of}
use Rattle.rtm_cards.specs.Cards.{CardText, card_of}
use Rattle.rtm_cards.specs.Spelling.{Lacks, BeginsAt, SpellsOperands, SpellsCard}
use Rattle.rtm_cards.proofs.Parts.{parts_behind, split_at_commas_first}
use Rattle.rtm_cards.proofs.Cutting.{before_at, from_first_at, Lacks-before, BeginsAt-from_first, before-from_first, skip_blanks_at, skip_blanks-Lacks, skip_blanks_only, count_of_blanks, blanks-skip_blanks, split_at_commas-join, Lacks-join, Lacks-joined, Lacks-split_at_commas}

-- what a rest of a line says behind its operation
abbrev operands_in : List ℕ → List (List ℕ)
operands_in text = parts_of (before blank (skip_blanks text))

parts_of-join : (part : List ℕ) (parts : List (List ℕ)) → 0 < length (join_with_byte comma (part ∷ parts)) → AllByRecursion (Lacks comma) (part ∷ parts)
    → parts_of (join_with_byte comma (part ∷ parts)) ≡ part ∷ parts
parts_of-join part parts some h = parts_of_some (join_with_byte comma (part ∷ parts)) some ∙ split_at_commas-join part parts h
  where
    parts_of_some : (text : List ℕ) → 0 < length text → parts_of text ≡ split_at_commas text
    parts_of_some [] k = absurd (omega arith)
    parts_of_some (b ∷ bs) k = refl

-- blanks alone, or operands, end an operation
ends_with_operands : (text : List ℕ) (operands : List (List ℕ)) → SpellsOperands text operands → BeginsAt blank text
ends_with_operands text [] h = rw h.1 (only_blanks h.0)
  where
    only_blanks : (n : ℕ) → BeginsAt blank (replicate n blank)
    only_blanks zero = tt
    only_blanks (suc n) = refl
ends_with_operands text (part ∷ parts) h = rw h.whole refl

operands_read : (text : List ℕ) (operands : List (List ℕ)) → SpellsOperands text operands → operands_in text ≡ operands
operands_read text [] h = rw (h.1, skip_blanks_only h.0) refl
operands_read text (part ∷ parts) h =
    let field = join_with_byte comma (part ∷ parts) in
    let lacks = Lacks-join blank refl (part ∷ parts) h.no_blanks in
    let skipped : skip_blanks text ≡ field ++ h.remark =
    ap skip_blanks h.whole ∙ skip_blanks_at h.blanks (field ++ h.remark) ∙ skip_blanks-Lacks field h.remark lacks h.stands in
    ap (λ (t : List ℕ). parts_of (before blank t)) skipped ∙ ap parts_of (before_at blank field h.remark lacks h.behind) ∙ parts_of-join part parts h.stands h.no_commas

same_card : (number : ℕ) (a b c d : List ℕ) (xs ys : List (List ℕ)) → a ≡ b → c ≡ d → xs ≡ ys
    → ◌≡◌ {A = CardText} (record { number = number; name = a; op = c; operands = xs }) (record { number = number; name = b; op = d; operands = ys })
same_card number a b c d xs ys e f g = rw (e, f, g) refl

pub card_read : (number : ℕ) (line name op : List ℕ) (operands : List (List ℕ)) (n : ℕ) (rest : List ℕ) → line ≡ name ++ (blank ∷ replicate n blank ++ (op ++ rest))
    → Lacks blank name → Lacks blank op → 0 < length op → SpellsOperands rest operands
    → card_of number line ≡ record { number = number; name = name; op = op; operands = operands }
card_read number line name op operands n rest whole lacks_name lacks_op some h =
    let behind : List ℕ = blank ∷ replicate n blank ++ (op ++ rest) in
    let ends = ends_with_operands rest operands h in
    let name_is : name_of line ≡ name = ap (before blank) whole ∙ before_at blank name behind lacks_name refl in
    let left : from_first blank line ≡ behind = ap (from_first blank) whole ∙ from_first_at blank name behind lacks_name refl in
    let op_on : from_op line ≡ op ++ rest = ap skip_blanks left ∙ skip_blanks_at n (op ++ rest) ∙ skip_blanks-Lacks op rest lacks_op some in
    let op_is : op_of line ≡ op = ap (before blank) op_on ∙ before_at blank op rest lacks_op ends in
    let rest_is : from_first blank (from_op line) ≡ rest = ap (from_first blank) op_on ∙ from_first_at blank op rest lacks_op ends in
    same_card number _ _ _ _ _ _ name_is op_is (ap operands_in rest_is ∙ operands_read rest operands h)

-- what is left behind blanks doesn't begin with one
nothing_left : (text : List ℕ) → before blank (skip_blanks text) ≡ [] → skip_blanks text ≡ []
nothing_left [] k = refl
nothing_left (b ∷ text) k = go (eqb b blank) refl (nothing_left text) k
  where
    go : (t : Bool) → eqb b blank ≡ t → (before blank (skip_blanks text) ≡ [] → skip_blanks text ≡ []) → before blank (skip_blanks (b ∷ text)) ≡ [] → skip_blanks (b ∷ text) ≡ []
    go true e h k =
        let skipped : skip_blanks (b ∷ text) ≡ skip_blanks text = rw e refl in
        skipped ∙ h (sym (ap (before blank) skipped) ∙ k)
    go false e h k =
        let stands : before blank (skip_blanks (b ∷ text)) ≡ b ∷ before blank text = rw (e, e) refl in
        absurd (cc (stands, k))

-- what stands behind a blank
behind_blank : (bs field : List ℕ) → before blank (skip_blanks bs) ≡ field → SpellsOperands (blank ∷ bs) (parts_of field)
behind_blank bs [] f =
    let n = count_of_blanks bs in
    let alone : bs ≡ replicate n blank =
    sym (blanks-skip_blanks bs) ∙ ap (λ (t : List ℕ). replicate n blank ++ t) (nothing_left bs f) ∙ append-nil (replicate n blank) in
    (suc n, ap (λ (t : List ℕ). blank ∷ t) alone)
behind_blank bs (c ∷ cs) f =
    let n = count_of_blanks bs in
    let text = skip_blanks bs in
    let remark = from_first blank text in
    let parts = split_at_commas_first (c ∷ cs) in
    let joined : join_with_byte comma (before comma (c ∷ cs) ∷ parts_behind (from_first comma (c ∷ cs))) ≡ c ∷ cs =
    ap (join_with_byte comma) (sym parts) ∙ join_with_byte-slice_split comma (c ∷ cs) in
    let whole : bs ≡ replicate n blank ++ (join_with_byte comma (before comma (c ∷ cs) ∷ parts_behind (from_first comma (c ∷ cs))) ++ remark) =
    sym (blanks-skip_blanks bs) ∙ ap (λ (t : List ℕ). replicate n blank ++ t) (sym (before-from_first blank text) ∙ ap (λ (t : List ℕ). t ++ remark) (f ∙ sym joined)) in
    let lacks : Lacks blank (c ∷ cs) = subst (λ (t : List ℕ). Lacks blank t) f (Lacks-before blank text) in
    let each : AllByRecursion (Lacks blank) (before comma (c ∷ cs) ∷ parts_behind (from_first comma (c ∷ cs))) =
    Lacks-joined blank (before comma (c ∷ cs) ∷ parts_behind (from_first comma (c ∷ cs))) (subst (λ (t : List ℕ). Lacks blank t) (sym joined) lacks) in
    subst (λ (ps : List (List ℕ)). SpellsOperands (blank ∷ bs) ps) (sym parts) (record {
      blanks = n;
      remark = remark;
      whole = ap (λ (t : List ℕ). blank ∷ t) whole;
      behind = BeginsAt-from_first blank text;
      stands = subst (λ (t : List ℕ). 0 < length t) (sym joined) (omega arith);
      no_blanks = each;
      no_commas = subst (λ (ps : List (List ℕ)). AllByRecursion (Lacks comma) ps) parts (Lacks-split_at_commas (c ∷ cs));
    })

operands_spelled : (text : List ℕ) → BeginsAt blank text → SpellsOperands text (operands_in text)
operands_spelled [] e = (0, refl)
operands_spelled (b ∷ bs) e = rw e (behind_blank bs (before blank (skip_blanks bs)) refl)

-- where an operation stands, a blank stands before it
blank_before : (text : List ℕ) → BeginsAt blank text → 0 < length (before blank (skip_blanks text)) → (bs : List ℕ) × (text ≡ blank ∷ bs)
blank_before [] e some = absurd (omega (arith, some))
blank_before (b ∷ bs) e some = (bs, ap (λ (x : ℕ). x ∷ bs) e)

pub card_spelled : (number : ℕ) (line : List ℕ) → 0 < length (op_of line) → SpellsCard line (card_of number line)
card_spelled number line some =
    let b = blank_before (from_first blank line) (BeginsAt-from_first blank line) some in
    let n = count_of_blanks b.0 in
    let rest = from_first blank (from_op line) in
    let op_on : from_op line ≡ skip_blanks b.0 = ap skip_blanks b.1 in
    record {
      blanks = n;
      rest = rest;
      whole = sym (before-from_first blank line) ∙ ap (λ (t : List ℕ). name_of line ++ t) (b.1 ∙ ap (λ (t : List ℕ). blank ∷ t)
          (sym (blanks-skip_blanks b.0) ∙ ap (λ (t : List ℕ). replicate n blank ++ t) (sym op_on ∙ sym (before-from_first blank (from_op line)))));
      name = Lacks-before blank line;
      op = Lacks-before blank (from_op line);
      op_stands = some;
      operands = operands_spelled rest (BeginsAt-from_first blank (from_op line));
    }
