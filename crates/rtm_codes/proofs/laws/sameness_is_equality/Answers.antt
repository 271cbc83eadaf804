use Rattle.std.proofs.Common.{◌≡◌, true, subst}
use Rattle.rtm_codes.specs.declared.code.Code.{Code}
use Rattle.rtm_codes.specs.Code.{same_code}
use Rattle.rtm_codes.proofs.Codes.{same_code-true, same_code-refl}
use Rattle.rtm_codes.proofs.laws.sameness_is_equality.Goals as goal

pub returns : goal.returns
returns c = λ a b. (same_code-true a b, λ e. subst (λ (x : Code). same_code a x ≡ true) e (same_code-refl a))
