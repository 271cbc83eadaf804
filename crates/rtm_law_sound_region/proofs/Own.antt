-- What an entry keeps of its own unit.
use Rattle.std.proofs.Common.{◌≡◌, ℕ, ◌+◌, ◌≤◌, Bool, true, false, cond, List, [], ◌∷◌, length, Option, Some, None, refl, ◌∙◌, arith}
use Rattle.std.specs.Prelude.{if◌then◌else◌}
use Rattle.rtm_deck_items.specs.declared.op.Op.{Op}
use Rattle.rtm_deck_items.specs.declared.op.Op.TheVariants as ops
use Rattle.rtm_model.specs.declared.abort.Abort.{Abort}
use Rattle.rtm_model.specs.declared.block.Block.{Block}
use Rattle.rtm_model.specs.declared.block.Place.{Place}
use Rattle.rtm_model.specs.declared.entry.Verdict.{Verdict}
use Rattle.rtm_model.specs.declared.entry.Verdict.TheVariants as verdicts
use Rattle.rtm_model.specs.declared.error_record.ErrorRecord.{ErrorRecord}
use Rattle.rtm_model.specs.declared.reg.Kind.{Kind}
use Rattle.rtm_model.specs.declared.reg.Reg.{Reg}
use Rattle.rtm_model.specs.OwnChange.{after_retry, estais_left, move_to, own_card, with_error, with_landed, with_routine_entered, with_routine_left, without_left}
use Rattle.rtm_model.specs.Blocks.{has_one_block, in_newest_bracket, newest_bracket, without_bracket, without_newest}
use Rattle.rtm_model.specs.Levels.{Bracket, after_leave, after_verdict, with_open}
use Rattle.rtm_model.specs.Record.{ret15_in, setrp_in}
use Rattle.rtm_model.specs.World.{Core}
use Rattle.rtm_model.proofs.Lists.{length-filter-le}
use Rattle.rtm_model.proofs.Levels.{after_record, length_innermost, length_record, quiet_entered, quiet_innermost, quiet_left, quiet_record}
use Rattle.rtm_law_sound_region.proofs.Units.{IsKept}

-- a unit has as many request-block brackets as levels, but one less where it doesn't stand
abbrev pub IsCounted : Bool → Core → Type 0
IsCounted up c = length (Core.blocks c) + (if up then 0 else 1) ≡ length (Core.levels c)

-- brackets

length_newest : (f : List Block → List Block) (brackets : List (List Block)) → length (in_newest_bracket f brackets) ≡ length brackets
length_newest f [] = refl
length_newest f (blocks ∷ outer) = refl

length_return_if : (b : Bool) (brackets : List (List Block)) → length (cond b brackets (in_newest_bracket without_newest brackets)) ≡ length brackets
length_return_if true brackets = refl
length_return_if false brackets = length_newest without_newest brackets

same_count : (x a b l m : ℕ) → a ≡ b → l ≡ m → b + x ≡ m → a + x ≡ l
same_count x a b l m e f h = omega arith

-- Cards

-- blocks of the same count, and no other change that is looked at
same_kept : (up : Bool) (c : Core) (blocks : List (List Block)) (frrs estaes : List Reg) → IsCounted up c → length blocks ≡ length (Core.blocks c)
    → IsKept up c (record c { blocks = blocks; frrs = frrs; estaes = estaes })
same_kept up c blocks frrs estaes h e = record {
  begun = refl;
  counts = same_count (if up then 0 else 1) (length blocks) (length (Core.blocks c)) (length (Core.levels c)) (length (Core.levels c)) e refl h;
  estais = omega arith;
  outermost = λ down quiet. quiet;
}

-- SETRP and RET15
record_kept : (place : Place) (f : ErrorRecord → ErrorRecord) (up : Bool) (c : Core) → IsCounted up c → IsKept up c (move_to place (record c { levels = after_record f c.levels }))
record_kept place f up c h = record {
  begun = refl;
  counts = same_count (if up then 0 else 1) _ (length (Core.blocks c)) _ (length (Core.levels c)) (length_newest _ c.blocks) (length_record f c.levels) h;
  estais = omega arith;
  outermost = λ down quiet. quiet_record f c.levels quiet;
}

pub card_kept : (n : ℕ) (place : Place) (op : Op) (up : Bool) (c : Core) → IsCounted up c → IsKept up c (own_card n place op c)
card_kept n place (ops.Link prog) up c h = same_kept up c _ c.frrs c.estaes h (length_newest _ (in_newest_bracket _ c.blocks) ∙ length_newest _ c.blocks)
card_kept n place (ops.Return) up c h = same_kept up c _ c.frrs _ h (length_return_if (has_one_block c.blocks) c.blocks)
card_kept n place (ops.SetRp setrp) up c h = record_kept place (setrp_in setrp) up c h
card_kept n place (ops.Ret15 rc label) up c h = record_kept place (ret15_in rc label) up c h
card_kept n place _ up c h = same_kept up c _ _ _ h (length_newest _ c.blocks)

-- Errors and routines

-- a bracket with a request block, of a unit that doesn't stand, is not the outermost
inner : (blocks : List (List Block)) (levels : ℕ) → 1 ≤ length (newest_bracket blocks) → length blocks + 1 ≡ levels → 2 ≤ levels
inner [] levels some h = absurd (omega arith)
inner (blocks ∷ outer) levels some h = omega arith

pub error_kept : (r : ErrorRecord) (up : Bool) (c : Core) → IsCounted up c → (up ≡ false → 2 ≤ length (Core.levels c)) → IsKept up c (with_error r c)
error_kept r up c h deep = record {
  begun = refl;
  counts = same_count (if up then 0 else 1) (length (Core.blocks c)) (length (Core.blocks c)) _ (length (Core.levels c)) refl (length_innermost _ c.levels) h;
  estais = omega arith;
  outermost = λ down quiet. quiet_innermost (with_open (Some r)) c.levels (deep down) quiet;
}

pub placed_deep : (up : Bool) (c : Core) → IsCounted up c → 1 ≤ length (newest_bracket (Core.blocks c)) → up ≡ false → 2 ≤ length (Core.levels c)
placed_deep true c h some down = absurd cc
placed_deep false c h some down = inner c.blocks (length (Core.levels c)) some h

pub landed_kept : (o : Option Abort) (up : Bool) (c : Core) → IsCounted up c → up ≡ true → IsKept up c (with_landed o c)
landed_kept None up c h stands = record { begun = refl; counts = h; estais = omega arith; outermost = λ down quiet. quiet }
landed_kept (Some abort) up c h stands = record {
  begun = refl;
  counts = same_count (if up then 0 else 1) (length (Core.blocks c)) (length (Core.blocks c)) _ (length (Core.levels c)) refl (length_innermost _ c.levels) h;
  estais = omega arith;
  outermost = λ down quiet. absurd cc;
}

pub entered_kept : (n : ℕ) (bare : Bool) (o : Option Reg) (up : Bool) (c : Core) → IsCounted up c → IsKept up c (with_routine_entered n bare o c)
entered_kept n bare None up c h = record { begun = refl; counts = h; estais = omega arith; outermost = λ down quiet. quiet }
entered_kept n bare (Some reg) up c h = record { begun = refl; counts = omega arith; estais = omega arith; outermost = λ down quiet. quiet_entered reg bare c.levels quiet }

-- a routine is left

without_left_le : (gone : Bool) (born : ℕ) (regs : List Reg) → length (without_left gone born regs) ≤ length regs
without_left_le true born regs = length-filter-le _ regs
without_left_le false born regs = omega arith

estais_left_le : (verdict : Verdict) (gone : Bool) (kind : Kind) (born : ℕ) (estais : List Reg) → length (estais_left verdict gone kind born estais) ≤ length estais
estais_left_le verdicts.Stop gone kind born estais = omega arith
estais_left_le _ gone kind born estais = without_left_le _ born estais

leave_counts : (x : ℕ) (verdict : Verdict) (blocks : List (List Block)) (ls : List Bracket) → x ≤ 1 → 2 ≤ length ls → length blocks + x ≡ length ls → length (without_bracket blocks) + x ≡ length (after_leave verdict ls)
leave_counts x verdict [] ls le some h = absurd (omega arith)
leave_counts x verdict (b ∷ bs) [] le some h = absurd (omega arith)
leave_counts x verdict (b ∷ bs) (l ∷ ls) le some h = omega (arith, length_innermost (after_verdict verdict l.error) ls)

at_most_one : (up : Bool) → (if up then 0 else 1) ≤ 1
at_most_one true = omega arith
at_most_one false = omega arith

-- a retry changes the innermost bracket alone
retry_kept : (verdict : Verdict) (o : Option Reg) (up : Bool) (c c' : Core) → IsKept up c c' → IsKept up c (after_retry verdict o c')
retry_kept (verdicts.Retry place) (Some reg) up c c' k = record {
  begun = k.begun;
  counts = same_count (if up then 0 else 1) _ (length (Core.blocks c')) (length (Core.levels c')) (length (Core.levels c')) (length_newest _ (in_newest_bracket _ (Core.blocks c')) ∙ length_newest _ (Core.blocks c')) refl k.counts;
  estais = k.estais;
  outermost = k.outermost;
}
retry_kept _ o up c c' k = k

pub left_kept : (kind : Kind) (born : ℕ) (verdict : Verdict) (up : Bool) (c : Core) → IsCounted up c → 2 ≤ length (Core.levels c) → IsKept up c (with_routine_left kind born verdict c)
left_kept kind born verdict up c h some = retry_kept verdict _ up c _ (record {
  begun = refl;
  counts = leave_counts (if up then 0 else 1) verdict c.blocks c.levels (at_most_one up) some h;
  estais = estais_left_le verdict _ kind born c.estais;
  outermost = λ down quiet. quiet_left verdict c.levels quiet;
})
