-- Words are cut out of a text again.
use Rattle.std.proofs.Common.{◌≡◌, ℕ, Bool, true, not, eqb, List, [], ◌∷◌, ◌++◌, drop, refl, ap, arith}
use Rattle.std.specs.List.{list_all}
use Rattle.std.proofs.lemmas.Bool.{and_parts, and_from, not-true}
use Rattle.std.proofs.lemmas.Bool.Decides.{nat_tests}
use Rattle.rtm_trace.specs.inner.Words.{front, back, is_inner, word_of, rest_of, before, behind}

-- the text is at its end, or goes on with a byte that fails the test
abbrev pub stops : (ℕ → Bool) → List ℕ → Bool
stops test [] = true
stops test (b ∷ bs) = not (test b)

pub front_text : (test : ℕ → Bool) (text tail : List ℕ) → list_all test text ≡ true → stops test tail ≡ true → front test (text ++ tail) ≡ text
front_text test [] [] all end = refl
front_text test [] (b ∷ bs) all end = rw (not-true (test b) end) refl
front_text test (x ∷ xs) tail all end =
    let p = and_parts (test x) (list_all test xs) all in rw p.0 (ap (λ ys. x ∷ ys) (front_text test xs tail p.1 end))

pub back_text : (test : ℕ → Bool) (text tail : List ℕ) → list_all test text ≡ true → stops test tail ≡ true → back test (text ++ tail) ≡ drop 1 tail
back_text test [] [] all end = refl
back_text test [] (b ∷ bs) all end = rw (not-true (test b) end) refl
back_text test (x ∷ xs) tail all end =
    let p = and_parts (test x) (list_all test xs) all in rw p.0 (back_text test xs tail p.1 end)

-- each byte is one of a word
abbrev pub plain : List ℕ → Bool
plain text = list_all is_inner text

-- a text that a word may stand before
abbrev pub ends_word : List ℕ → Bool
ends_word tail = stops is_inner tail

pub word_of-text : (text tail : List ℕ) → plain text ≡ true → ends_word tail ≡ true → word_of (text ++ tail) ≡ text
word_of-text text tail all end = front_text is_inner text tail all end

pub rest_of-text : (text tail : List ℕ) → plain text ≡ true → ends_word tail ≡ true → rest_of (text ++ tail) ≡ drop 1 tail
rest_of-text text tail all end = back_text is_inner text tail all end

-- no byte is that one
abbrev pub lacks : ℕ → List ℕ → Bool
lacks stop text = list_all (λ b. not (eqb b stop)) text

pub before-text : (stop : ℕ) (text tail : List ℕ) → lacks stop text ≡ true → stops (λ b. not (eqb b stop)) tail ≡ true → before stop (text ++ tail) ≡ text
before-text stop text tail all end = front_text (λ b. not (eqb b stop)) text tail all end

pub behind-text : (stop : ℕ) (text tail : List ℕ) → lacks stop text ≡ true → stops (λ b. not (eqb b stop)) tail ≡ true → behind stop (text ++ tail) ≡ drop 1 tail
behind-text stop text tail all end = back_text (λ b. not (eqb b stop)) text tail all end

-- what passes one test and so another
pub each_test : (p q : ℕ → Bool) → ((b : ℕ) → p b ≡ true → q b ≡ true) → (text : List ℕ) → list_all p text ≡ true → list_all q text ≡ true
each_test p q h [] all = refl
each_test p q h (x ∷ xs) all =
    let parts = and_parts (p x) (list_all p xs) all in
    and_from (q x) (list_all q xs) (h x parts.0) (each_test p q h xs parts.1)

pub test_append : (p : ℕ → Bool) (xs ys : List ℕ) → list_all p xs ≡ true → list_all p ys ≡ true → list_all p (xs ++ ys) ≡ true
test_append p [] ys a b = b
test_append p (x ∷ xs) ys a b =
    let parts = and_parts (p x) (list_all p xs) a in
    and_from (p x) (list_all p (xs ++ ys)) parts.0 (test_append p xs ys parts.1 b)

inner_is_no_feed : (b : ℕ) → is_inner b ≡ true → not (eqb b 10) ≡ true
inner_is_no_feed b h = grind (arith, nat_tests)

-- a word has no line feed
pub plain_lacks_feed : (text : List ℕ) → plain text ≡ true → lacks 10 text ≡ true
plain_lacks_feed text all = each_test is_inner (λ b. not (eqb b 10)) inner_is_no_feed text all
