use Rattle.std.proofs.Common.{◌≡◌, ◌-◌, true, length}
use Rattle.sx_lex.specs.Tokens.{is_quote}
use Rattle.sx_lex.proofs.Quotes.{IsInside}
use Rattle.sx_lex.proofs.literals.literal_size.Given as goal

abbrev pub invariant-loop-place : goal.invariant-loop-place
invariant-loop-place l = record {
  quote : is_quote l.quote ≡ true;
  inside : IsInside l.bytes l.quote l.size l.place;
}

abbrev pub decreases-loop-place : goal.decreases-loop-place
decreases-loop-place l = length l.bytes - l.place
