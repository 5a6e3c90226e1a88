use Rattle.std.proofs.Common.{ℕ, nat_lt, ap, sym, ◌∙◌}
use Rattle.sx_tree.proofs.SpineNodes.{spine-open}
use Rattle.sx_tree.proofs.spine_nodes.SpineTree.is_open.Goals as goal

pub returns-in-At : goal.returns-in-At
returns-in-At c = rw c.in-At.is (ap (λ (n : ℕ). nat_lt c.in-At.k n) c.len.ensures.value ∙ sym (spine-open c.args.self.now c.in-At.k))
