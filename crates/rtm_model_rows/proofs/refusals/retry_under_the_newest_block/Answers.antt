-- The entries before it are legal, and what its unit may make next is computed: not this.
use Rattle.std.specs.Prelude.{Bool, Option, Some, false, true, ◌==◌, ◌≡◌}
use Rattle.rtm_model.specs.declared.entry.Entry.{Entry}
use Rattle.rtm_model.specs.declared.entry.Verdict.TheVariants.{Retry}
use Rattle.rtm_model.specs.declared.entry.What.{What}
use Rattle.rtm_model.specs.declared.entry.What.TheVariants.{Leave}
use Rattle.rtm_model.specs.declared.reg.Kind.TheVariants.{Estae}
use Rattle.rtm_model.specs.Advance.{world}
use Rattle.rtm_model.specs.Legal.{Legal}
use Rattle.rtm_model_rows.specs.Writing.{leave, retry}
use Rattle.rtm_model_rows.proofs.refusals.retry_under_the_newest_block.Goals as goal
use Rattle.std.proofs.Common.{refl, lit<, ap}

-- whether the entry is a retry in the first program
abbrev retried_in : Option What → Bool
retried_in (Some (Leave kind reg (Retry place) logrec dump)) = place.prog == 0
retried_in _ = false

-- the entry is not the one that is wanted: that one retries in another program
not_this : Some (Entry.what ((leave 0 Estae 0 (retry 0 3)))) ≡ Some (Entry.what (leave 0 Estae 0 (retry 3 1))) → ⊥
not_this e = let same : true ≡ false = ap retried_in e in absurd cc

pub returns : goal.returns
unfolding Legal world
returns c = record { legal = (lit< tt, refl, (lit< tt, refl, (lit< tt, refl, (lit< tt, refl, (lit< tt, refl, (lit< tt, refl, (lit< tt, refl, tt))))))); next_is = refl; refused = λ h. not_this h.2.2.2.2.2.2.2.1 }
