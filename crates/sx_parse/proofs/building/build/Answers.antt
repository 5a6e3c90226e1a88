use Rattle.std.proofs.Common.{List, [], ap, sym, ◌∙◌, arith}
use Rattle.std.proofs.lemmas.List.{drop_all}
use Rattle.sx_parse.specs.declared.nodes.Node.{Node}
use Rattle.sx_parse.specs.Built.{top, node_built}
use Rattle.sx_parse.specs.Says.{Meaning}
use Rattle.sx_parse.specs.Wording.{meaning_of}
use Rattle.sx_parse.proofs.Built.{tree_built}
use Rattle.sx_parse.proofs.building.build.Goals as goal

pub returns : goal.returns
returns c = λ t h.
    let m : Meaning = meaning_of c.args.words.now in
    let rest = drop_all c.loop-node.node-index c.args.nodes.now (omega arith) in
    c.take_list.ensures.value
    ∙ ap top
    (sym (ap (λ (ns : List Node). node_built m ns c.loop-node.stack) rest)
    ∙ c.loop-node.invariant.stack
    ∙ ap (λ (ns : List Node). node_built m ns []) h
    ∙ tree_built m t [])
