-- Each request has words of its own: from its words it is found again.
use Rattle.std.proofs.Common.{◌≡◌, ℕ, List, [], ◌∷◌, Option, Some, None, refl, sym, ap, ◌∙◌, arith}
use Rattle.std.specs.Prelude.{bytes_eq, codes, if◌then◌else◌}
use Rattle.std.specs.Str.Parse.{digits_value}
use Rattle.std.proofs.lemmas.Fmt.{decimal_is_IsNumeral}
use Rattle.rtm_top.specs.declared.request.Request.{Request}
use Rattle.rtm_top.specs.declared.request.Request.TheVariants.{Load, Run, Scan, Seq, Verify}
use Rattle.rtm_top.specs.Request.{IsRequest, words_of}

-- the request of one word
request_of_name : List ℕ → Option Request
request_of_name name =
    if bytes_eq name (codes "scan") then Some Scan
    else if bytes_eq name (codes "seq") then Some Seq
    else if bytes_eq name (codes "run") then Some Run
    else if bytes_eq name (codes "verify") then Some Verify
    else None

-- the request whose words these are, if they are those of one
abbrev request_in : List (List ℕ) → Option Request
request_in [] = None
request_in (name ∷ []) = request_of_name name
request_in (name ∷ number ∷ _) = Some (Load (digits_value 10 number))

found_again : (r : Request) → IsRequest r → request_in (words_of r) ≡ Some r
unfolding request_of_name
found_again Scan h = refl
found_again Seq h = refl
found_again Run h = refl
found_again Verify h = refl
found_again (Load n) h = ap (λ (k : ℕ). Some (Load k)) (decimal_is_IsNumeral n (omega (arith, h.1))).1

same_request : (a b : Request) → Some a ≡ Some b → a ≡ b
same_request a b e = cc

pub words_same : (a b : Request) → IsRequest a → IsRequest b → words_of a ≡ words_of b → a ≡ b
words_same a b h i e = same_request a b (sym (found_again a h) ∙ ap request_in e ∙ found_again b i)
