use Rattle.std.proofs.Common.{◌≡◌, ◌≤◌, drop, min}
use Rattle.sx_esis.specs.Escapes.{number, number_behind}
use Rattle.sx_esis.proofs.NumberLemmas.{most}
use Rattle.sx_esis.proofs.escapes.decimal_number.Given as goal

abbrev pub invariant-loop-digit : goal.invariant-loop-digit
invariant-loop-digit l = record {
  fits : l.number ≤ most;
  same : min (number_behind 10 l.number (drop l.digit-index l.digits)) most ≡ min (number 10 l.digits) most;
}
