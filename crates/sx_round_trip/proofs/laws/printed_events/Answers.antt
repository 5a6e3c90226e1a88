use Rattle.sx_round_trip.proofs.PrintedEvents.{document_sound, document_read}
use Rattle.sx_round_trip.proofs.laws.printed_events.Goals as goal

-- src/laws.rt:23:1
pub returns : goal.returns
returns c = record {
  sound = λ limits es is within. document_sound limits es is within;
  events = λ limits es is within. document_read limits es is within;
}
