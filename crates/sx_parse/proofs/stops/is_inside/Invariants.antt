use Rattle.std.proofs.Common.{◌≡◌, ◌≤◌, drop}
use Rattle.sx_parse.specs.Answers as spec
use Rattle.sx_parse.proofs.stops.is_inside.Given as goal

abbrev pub invariant-loop-lexeme : goal.invariant-loop-lexeme
invariant-loop-lexeme l = (l.count ≤ l.lexeme-index) × (spec.is_in_predicate 0 l.lexemes ≡ spec.is_in_predicate l.count (drop l.lexeme-index l.lexemes))
