use Rattle.sx_round_trip.proofs.PrintedLines.{whole_read}
use Rattle.sx_round_trip.proofs.laws.printed_lines.Goals as goal

-- src/laws.rt:17:1
pub returns : goal.returns
returns c = λ limit es normal lack some short. whole_read limit es normal lack some short
