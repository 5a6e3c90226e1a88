use Rattle.std.proofs.Common.{◌≡◌, ℕ, suc, Some, ap, sym, ◌∙◌, arith}
use Rattle.sx_tree.specs.Seen.{node_at}
use Rattle.sx_tree.proofs.SpineNodes.{spine-child}
use Rattle.sx_tree.proofs.spine_nodes.SpineTree.first_child.Goals as goal

pub returns-then-next-count : goal.returns-then-next-count
returns-then-next-count c =
    let place : c.in_ok-next-in-At.next ≡ suc c.in-At.k = omega (arith, c.in_ok-next-in-At.ensures) in
    rw c.in-At.is
    (ap (λ (k : ℕ). node_at (Some k)) place
    ∙ sym (ap node_at (spine-child c.args.self.now c.in-At.k c.place_count-count.ensures.tree
    (omega (arith, place, c.if-next-count.true, c.place_count-count.ensures.value)))))
