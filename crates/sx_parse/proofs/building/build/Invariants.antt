use Rattle.std.proofs.Common.{◌≡◌, [], drop}
use Rattle.sx_parse.specs.Built.{node_built, AreLiteralsIn}
use Rattle.sx_parse.specs.Wording.{meaning_of}
use Rattle.sx_parse.proofs.building.build.Given as goal

-- what is left builds on the stack what all nodes build on nothing
abbrev pub invariant-loop-node : goal.invariant-loop-node
invariant-loop-node l = record {
  stack : node_built (meaning_of l.words) (drop l.node-index l.nodes) l.stack ≡ node_built (meaning_of l.words) l.nodes [];
  literals : AreLiteralsIn (meaning_of l.words) (drop l.node-index l.nodes);
}
