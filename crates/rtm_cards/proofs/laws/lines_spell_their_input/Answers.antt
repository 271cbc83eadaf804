use Rattle.rtm_cards.proofs.LineLaws.{lines_spelled, spelled_lines, ended_lines, number_of_line}
use Rattle.rtm_cards.proofs.laws.lines_spell_their_input.Goals as goal

pub returns : goal.returns
returns c = record { spelled = lines_spelled; only = spelled_lines; written = ended_lines; number = number_of_line }
