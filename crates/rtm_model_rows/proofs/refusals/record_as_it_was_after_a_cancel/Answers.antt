-- The entries before it are legal, and what its unit may make next is computed: not this.
use Rattle.std.specs.Prelude.{Bool, None, Option, Some, false, true, ◌≡◌}
use Rattle.rtm_codes.specs.declared.code.Code.TheVariants.{Sys}
use Rattle.rtm_model.specs.declared.entry.Entry.{Entry}
use Rattle.rtm_model.specs.declared.entry.What.{What}
use Rattle.rtm_model.specs.declared.entry.What.TheVariants.{Enter}
use Rattle.rtm_model.specs.declared.reg.Kind.TheVariants.{Estae}
use Rattle.rtm_model.specs.Advance.{world}
use Rattle.rtm_model.specs.Legal.{Legal}
use Rattle.rtm_model_rows.specs.Writing.{enter, full_mark, mark}
use Rattle.rtm_model_rows.proofs.refusals.record_as_it_was_after_a_cancel.Goals as goal
use Rattle.std.proofs.Common.{refl, lit<, ap}

-- whether the entry shows CLUP
abbrev shows_clup : Option What → Bool
shows_clup (Some (Enter kind reg mark bare)) = mark.clup
shows_clup _ = false

-- the entry is not the one that is wanted: that one shows CLUP
not_this : Some (Entry.what ((enter 0 Estae 0 (full_mark (Sys 0x222) None true false true)))) ≡ Some (Entry.what (enter 0 Estae 0 (full_mark (Sys 0x0C1) None false false true))) → ⊥
not_this e = let same : true ≡ false = ap shows_clup e in absurd cc

pub returns : goal.returns
unfolding Legal world
returns c = record { legal = (lit< tt, refl, (lit< tt, refl, (lit< tt, refl, (lit< tt, refl, (lit< tt, refl, (lit< tt, refl, (lit< tt, refl, (lit< tt, refl, (lit< tt, refl, (lit< tt, refl, (lit< tt, refl, (lit< tt, refl, tt)))))))))))); next_is = refl; refused = λ h. not_this h.2.2.2.2.2.2.2.2.2.2.2.2.1 }
