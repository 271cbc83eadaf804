-- What the calls that write cards and numbers add up to.
use Rattle.std.proofs.Common.{◌≡◌, ℕ, zero, suc, ◌+◌, ◌/◌, ◌%◌, ◌<◌, ◌≤◌, List, [], ◌∷◌, ◌++◌, map, refl, ap, sym, ◌∙◌, append_assoc, append-nil, arith}
use Rattle.std.specs.Prelude.{bytes_eq, codes, if◌then◌else◌, nat_lt}
use Rattle.std.specs.List.{flat_map, range_with_len}
use Rattle.std.proofs.lemmas.Grind.{flat_map-append}
use Rattle.std.proofs.lemmas.Bool.{lt-ltb, le-ltb}
use Rattle.std.proofs.lemmas.List.{map_push}
use Rattle.rtm_cards.specs.Spelling.{line_with_feed}
use Rattle.rtm_deck_operands.specs.Numeral.{decimal_of}
use Rattle.rtm_deck_load.specs.Counts.{one_to, routines}
use Rattle.rtm_deck_load.specs.Text.{numbered_card, attach_card, wait_card, main_cards, round_cards, work_cards, sub_cards, keep_cards, empty_cards, worker_card, unit_cards, load_text}
use Rattle.rtm_deck_load.proofs.Numbers.{each_number, equal}

-- Counting.

longer : (least count last : ℕ) → least + count ≡ last → range_with_len least (suc count) ≡ range_with_len least count ++ last ∷ []
longer least zero last e = let same : least ≡ last = omega arith in ap (λ (k : ℕ). k ∷ []) same
longer least (suc count) last e = ap (λ (ks : List ℕ). least ∷ ks) (longer (least + 1) count last (omega arith))

one_to_more : (i : ℕ) → one_to (i + 1) ≡ one_to i ++ (i + 1) ∷ []
unfolding one_to
one_to_more i =
    let next : i + 1 ≡ suc i = omega arith in
    ap (range_with_len 1) next ∙ longer 1 i (i + 1) (omega arith)

pub none : one_to 0 ≡ []
unfolding one_to
none = refl

pub card_more : (card : ℕ → List ℕ) (i : ℕ) → flat_map line_with_feed (map card (one_to (i + 1))) ≡ flat_map line_with_feed (map card (one_to i)) ++ line_with_feed (card (i + 1))
card_more card i =
    ap (λ (ks : List ℕ). flat_map line_with_feed (map card ks)) (one_to_more i)
    ∙ ap (flat_map line_with_feed) (map_push card (one_to i) (i + 1))
    ∙ flat_map-append line_with_feed (map card (one_to i)) (card (i + 1) ∷ [])
    ∙ ap (λ (text : List ℕ). flat_map line_with_feed (map card (one_to i)) ++ text) (append-nil (line_with_feed (card (i + 1))))

pub group_more : (cards : ℕ → List (List ℕ)) (i : ℕ) → flat_map line_with_feed (flat_map cards (one_to (i + 1))) ≡ flat_map line_with_feed (flat_map cards (one_to i)) ++ flat_map line_with_feed (cards (i + 1))
group_more cards i =
    ap (λ (ks : List ℕ). flat_map line_with_feed (flat_map cards ks)) (one_to_more i)
    ∙ ap (flat_map line_with_feed) (flat_map-append cards (one_to i) ((i + 1) ∷ []))
    ∙ flat_map-append line_with_feed (flat_map cards (one_to i)) (cards (i + 1) ++ [])
    ∙ ap (λ (group : List (List ℕ)). flat_map line_with_feed (flat_map cards (one_to i)) ++ flat_map line_with_feed group) (append-nil (cards (i + 1)))

-- Texts one after the other.

pub appended : (out new old text more all : List ℕ) → out ≡ old ++ text → new ≡ out ++ more → all ≡ text ++ more → new ≡ old ++ all
appended out new old text more all before step whole =
    step ∙ ap (λ (t : List ℕ). t ++ more) before ∙ append_assoc old text more ∙ ap (λ (t : List ℕ). old ++ t) (sym whole)

-- Texts behind a text, and what cards are written as.

behind : (old a b c : List ℕ) → ((old ++ a) ++ b) ++ c ≡ old ++ (a ++ (b ++ c))
behind old a b c = append_assoc (old ++ a) b c ∙ append_assoc old a (b ++ c)

three : (old a b c : List ℕ) → ((old ++ a) ++ b) ++ c ≡ old ++ (a ++ (b ++ (c ++ [])))
three old a b c = behind old a b c ∙ ap (λ (t : List ℕ). old ++ (a ++ (b ++ t))) (sym (append-nil c))

five : (old a b c d e : List ℕ) → ((((old ++ a) ++ b) ++ c) ++ d) ++ e ≡ old ++ (a ++ (b ++ ((c ++ d) ++ e)))
five old a b c d e = append_assoc (((old ++ a) ++ b) ++ c) d e ∙ behind (old ++ a) b c (d ++ e) ∙ append_assoc old a (b ++ (c ++ (d ++ e))) ∙ ap (λ (t : List ℕ). old ++ (a ++ (b ++ t))) (sym (append_assoc c d e))

before_last : (xs ys : List (List ℕ)) (last : List ℕ) → (flat_map line_with_feed xs ++ flat_map line_with_feed ys) ++ flat_map line_with_feed (last ∷ []) ≡ flat_map line_with_feed (xs ++ ys ++ last ∷ [])
before_last xs ys last =
    sym
    (flat_map-append line_with_feed (xs ++ ys) (last ∷ [])
    ∙ ap (λ (t : List ℕ). t ++ flat_map line_with_feed (last ∷ [])) (flat_map-append line_with_feed xs ys))

before_two : (xs : List (List ℕ)) (one last : List ℕ) → (flat_map line_with_feed xs ++ line_with_feed one) ++ line_with_feed last ≡ flat_map line_with_feed (xs ++ one ∷ last ∷ [])
before_two xs one last =
    append_assoc (flat_map line_with_feed xs) (line_with_feed one) (line_with_feed last)
    ∙ ap (λ (t : List ℕ). flat_map line_with_feed xs ++ (line_with_feed one ++ t)) (sym (append-nil (line_with_feed last)))
    ∙ sym (flat_map-append line_with_feed xs (one ∷ last ∷ []))

sections : (a b c d e f g h : List (List ℕ)) →
    flat_map line_with_feed a ++ flat_map line_with_feed b ++ flat_map line_with_feed c ++ flat_map line_with_feed d ++ flat_map line_with_feed e ++ flat_map line_with_feed f ++ flat_map line_with_feed g ++ flat_map line_with_feed h
    ≡ flat_map line_with_feed (a ++ b ++ c ++ d ++ e ++ f ++ g ++ h)
sections a b c d e f g h = sym (simp flat_map-append)

-- What the sections of the text add up to.

pub main_written : (n : ℕ) (old a b c d new : List ℕ) → a ≡ old ++ line_with_feed (codes "MAIN PROG") → b ≡ a ++ line_with_feed (codes " GET ENQ,0")
    → c ≡ b ++ flat_map line_with_feed (map attach_card (one_to n)) → d ≡ c ++ flat_map line_with_feed (map wait_card (one_to n)) → new ≡ d ++ line_with_feed (codes " PEND")
    → new ≡ old ++ flat_map line_with_feed (main_cards n)
main_written n old a b c d new p q r s t =
    rw (t, s, r, q, p)
    (five old (line_with_feed (codes "MAIN PROG")) (line_with_feed (codes " GET ENQ,0")) (flat_map line_with_feed (map attach_card (one_to n))) (flat_map line_with_feed (map wait_card (one_to n))) (line_with_feed (codes " PEND"))
    ∙ ap (λ (text : List ℕ). old ++ (line_with_feed (codes "MAIN PROG") ++ (line_with_feed (codes " GET ENQ,0") ++ text))) (before_last (map attach_card (one_to n)) (map wait_card (one_to n)) (codes " PEND")))

pub round_written : (k : ℕ) (old a b new : List ℕ) → a ≡ old ++ line_with_feed (numbered_card (codes " ESTAEX CT,PGM=KEEP") [] k) → b ≡ a ++ line_with_feed (codes " LINK SUB")
    → new ≡ b ++ line_with_feed (numbered_card (codes "BACK") (codes " NOP") k) → new ≡ old ++ flat_map line_with_feed (round_cards k)
round_written k old a b new p q r =
    rw (r, q, p) (three old (line_with_feed (numbered_card (codes " ESTAEX CT,PGM=KEEP") [] k)) (line_with_feed (codes " LINK SUB")) (line_with_feed (numbered_card (codes "BACK") (codes " NOP") k)))

pub work_written : (old a b c d new : List ℕ) → a ≡ old ++ line_with_feed (codes "WORK PROG") → b ≡ a ++ line_with_feed (codes " GET STOR,1")
    → c ≡ b ++ flat_map line_with_feed (flat_map round_cards (one_to routines)) → d ≡ c ++ line_with_feed (codes " ABEND U2") → new ≡ d ++ line_with_feed (codes " PEND")
    → new ≡ old ++ flat_map line_with_feed work_cards
work_written old a b c d new p q r s t =
    rw (t, s, r, q, p)
    (five old (line_with_feed (codes "WORK PROG")) (line_with_feed (codes " GET STOR,1")) (flat_map line_with_feed (flat_map round_cards (one_to routines))) (line_with_feed (codes " ABEND U2")) (line_with_feed (codes " PEND"))
    ∙ ap (λ (text : List ℕ). old ++ (line_with_feed (codes "WORK PROG") ++ (line_with_feed (codes " GET STOR,1") ++ text))) (before_two (flat_map round_cards (one_to routines)) (codes " ABEND U2") (codes " PEND")))

pub routine_written : (k : ℕ) (old a b new : List ℕ) → a ≡ old ++ line_with_feed (numbered_card (codes "KEEP") (codes " PROG") k)
    → b ≡ a ++ line_with_feed (numbered_card (codes " SETRP RC=4,RETADDR=BACK") (codes ",REMREC=YES") k) → new ≡ b ++ line_with_feed (codes " PEND")
    → new ≡ old ++ flat_map line_with_feed (keep_cards k)
routine_written k old a b new p q r =
    rw (r, q, p) (three old (line_with_feed (numbered_card (codes "KEEP") (codes " PROG") k)) (line_with_feed (numbered_card (codes " SETRP RC=4,RETADDR=BACK") (codes ",REMREC=YES") k)) (line_with_feed (codes " PEND")))

pub units_written : (n : ℕ) (old a new : List ℕ) → a ≡ old ++ line_with_feed (codes "JOB TASK PGM=MAIN") → new ≡ a ++ flat_map line_with_feed (map worker_card (one_to n))
    → new ≡ old ++ flat_map line_with_feed (unit_cards n)
units_written n old a new p q = rw (q, p) (append_assoc old (line_with_feed (codes "JOB TASK PGM=MAIN")) (flat_map line_with_feed (map worker_card (one_to n))))

pub text_written : (n : ℕ) (start a b c d e f g new : List ℕ) → start ≡ [] → a ≡ start ++ line_with_feed (codes " REGION LIMIT=100000") → b ≡ a ++ flat_map line_with_feed (main_cards n)
    → c ≡ b ++ flat_map line_with_feed work_cards → d ≡ c ++ flat_map line_with_feed sub_cards → e ≡ d ++ flat_map line_with_feed (flat_map keep_cards (one_to routines))
    → f ≡ e ++ flat_map line_with_feed empty_cards → g ≡ f ++ flat_map line_with_feed (unit_cards n) → new ≡ g ++ line_with_feed (codes " END") → new ≡ load_text n
unfolding load_text
text_written n start a b c d e f g new z p q r s t u v w =
    rw (w, v, u, t, s, r, q, p, z)
    (sections (codes " REGION LIMIT=100000" ∷ []) (main_cards n) work_cards sub_cards (flat_map keep_cards (one_to routines)) empty_cards (unit_cards n) (codes " END" ∷ []))

-- A number of at most two digits.

abbrev pub two_digits : ℕ → List ℕ
two_digits n = (if nat_lt n 10 then [] else (48 + n / 10) ∷ []) ++ (48 + n % 10) ∷ []

decimal : (n : ℕ) → n < 100 → decimal_of n ≡ two_digits n
unfolding decimal_of
decimal n few =
    equal (decimal_of n) (two_digits n) (each_number (λ (k : ℕ). bytes_eq (decimal_of k) (two_digits k)) 0 100 n (omega arith) (omega arith) refl)

pub one_digit : (n : ℕ) → n < 10 → decimal_of n ≡ (48 + n % 10) ∷ []
one_digit n few = decimal n (omega arith) ∙ rw (lt-ltb n 10 few) refl

pub both_digits : (n : ℕ) → 10 ≤ n → n < 100 → decimal_of n ≡ (48 + n / 10) ∷ (48 + n % 10) ∷ []
both_digits n least few = decimal n few ∙ rw (le-ltb n 10 least) refl

pub two_pushed : (old between new digits : List ℕ) (tens ones : ℕ) → between ≡ old ++ tens ∷ [] → new ≡ between ++ ones ∷ [] → digits ≡ tens ∷ ones ∷ [] → new ≡ old ++ digits
two_pushed old between new digits tens ones before step whole =
    step ∙ ap (λ (t : List ℕ). t ++ ones ∷ []) before ∙ append_assoc old (tens ∷ []) (ones ∷ []) ∙ ap (λ (t : List ℕ). old ++ t) (sym whole)

pub one_pushed : (old between new digits : List ℕ) (ones : ℕ) → between ≡ old → new ≡ between ++ ones ∷ [] → digits ≡ ones ∷ [] → new ≡ old ++ digits
one_pushed old between new digits ones before step whole = rw (step, before, whole) refl
