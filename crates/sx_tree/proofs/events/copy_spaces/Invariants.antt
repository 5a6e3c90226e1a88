use Rattle.std.proofs.Common.{◌≡◌, take}
use Rattle.sx_tree.proofs.events.copy_spaces.Given as goal

abbrev pub invariant-loop-space : goal.invariant-loop-space
invariant-loop-space l = l.copy ≡ take l.space-index l.spaces
