use Rattle.std.proofs.Common.{◌≡◌, ◌-◌, ◌/◌, ◌%◌, ◌<◌, List, ℕ, [], ◌∷◌, ◌++◌, ap, sym, ◌∙◌, append_assoc, arith}
use Rattle.std.proofs.lemmas.Result.{on_ok_weaker}
use Rattle.rtm_text.specs.Digits.{digit_char}
use Rattle.rtm_text.specs.Numeral.{numeral}
use Rattle.rtm_text.proofs.NumeralLaws.{numeral_more}
use Rattle.rtm_text.proofs.digits.+push_numeral.Goals as goal

pub returns : goal.returns
returns t c =
    let old = c.args.out.now.items in
    let last : List ℕ = digit_char (c.args.number % c.args.base) ∷ [] in
    let before = numeral c.args.base (c.args.others - 1) (c.args.number / c.args.base) in
    let more = numeral_more c.args.base c.args.others c.args.number (omega arith) c.if-number-base.false in
    let joined = ap (λ (xs : List ℕ). xs ++ last) c.in_ok-push_numeral.ensures ∙ (append_assoc old before last ∙ ap (λ (xs : List ℕ). old ++ xs) (sym more)) in
    on_ok_weaker c.push_digit-2.result (λ h. h ∙ joined) c.push_digit-2.ensures
