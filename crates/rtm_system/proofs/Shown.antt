-- The note of a command that arrives: which one it is, and that none is lost.
use Rattle.std.proofs.Common.{◌≡◌, ℕ, ◌<◌, Bool, true, false, Option, Some, None, refl, sym, ap, ◌∙◌}
use Rattle.std.specs.Prelude.{if◌then◌else◌, not, ◌&&◌, ◌==◌, ◌||◌}
use Rattle.rtm_board.specs.Commands.{has, with_one, without_one}
use Rattle.rtm_board.proofs.Sets.{has_with, has_without}

-- the note that was picked is that of the command
pub picked : (cmd note set : ℕ) (o : Option ℕ) → has cmd set ≡ true → o ≡ Some note → o ≡ (if has cmd set then Some cmd else None) → note ≡ cmd
picked cmd note set o there is which =
    let same : Some note ≡ Some cmd = sym is ∙ which ∙ ap (λ (b : Bool). if b then Some cmd else None) there in cc

-- a note that was picked and put back is there, and so are all others
kept_by : (same other : Bool) → other ≡ true → (same || (not same && other)) ≡ true
kept_by true other e = refl
kept_by false other e = e

pub kept : (other cmd before now : ℕ) → other < 64 → cmd < 64 → has other before ≡ true → now ≡ with_one cmd (without_one cmd before) → has other now ≡ true
kept other cmd before now a b e n =
    ap (has other) n ∙ has_with other cmd (without_one cmd before) ∙ ap (λ (x : Bool). (other == cmd) || x) (has_without other cmd before a b) ∙ kept_by (other == cmd) (has other before) e
