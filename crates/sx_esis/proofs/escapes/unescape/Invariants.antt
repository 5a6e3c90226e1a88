use Rattle.std.proofs.Common.{◌≡◌, ◌-◌, length}
use Rattle.sx_esis.specs.Escapes.{unescape}
use Rattle.sx_esis.specs.Replacing.{IsPartlyReplaced, comes_to}
use Rattle.sx_esis.proofs.escapes.unescape.Given as goal

abbrev pub invariant-loop-places : goal.invariant-loop-places
invariant-loop-places l = record {
  cut : IsPartlyReplaced l.bytes l.places.written l.places.read;
  same : unescape l.fn.bytes ≡ comes_to l.bytes l.places.written l.places.read;
}

abbrev pub decreases-loop-places : goal.decreases-loop-places
decreases-loop-places l = length l.bytes - l.places.read
