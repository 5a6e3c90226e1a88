use Rattle.std.proofs.Common.{◌≡◌, ◌<◌, [], ◌∷◌, length, take}
use Rattle.sx_events.specs.Place.{declared_behind}
use Rattle.sx_events.proofs.elements.declare.Given as goal
use Rattle.sx_names.specs.Scope.{ScopeBindings}

abbrev pub invariant-loop-space : goal.invariant-loop-space
invariant-loop-space l = record {
  entered : 0 < length l.scope;
  count : length l.scope ≡ length l.fn.scope;
  declared : (around : ScopeBindings) → l.fn.scope ≡ [] ∷ around → l.scope ≡ declared_behind [] (take l.space-index l.spaces) ∷ around;
}
