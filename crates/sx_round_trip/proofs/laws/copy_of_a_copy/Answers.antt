use Rattle.sx_round_trip.proofs.Again.{is_document, again, whole_again}
use Rattle.sx_round_trip.proofs.laws.copy_of_a_copy.Goals as goal

pub returns : goal.returns
returns c = record {
  document = λ b ends. is_document b ends;
  again = λ b ends within. again b ends within;
  whole = λ b ends within. whole_again b ends within;
}
