use Rattle.std.proofs.Common.{◌≡◌, ℕ, ◌+◌, length, ap, sym, ◌∙◌, arith}
use Rattle.sx_tree.specs.Spine.{Spine}
use Rattle.sx_tree.specs.SpineView.{spine_entries}
use Rattle.sx_tree.proofs.SpineNodes.{leaf_count, spine-length, spine-tree}
use Rattle.sx_tree.proofs.spine_nodes.SpineTree.place_count.Goals as goal

-- as many nodes as entries, and the leaf
size : (s : Spine) (n : ℕ) → leaf_count s.leaf ≡ n → length s.entries + n ≡ length (spine_entries 0 s.entries s.leaf)
size s n is = ap (λ (m : ℕ). length s.entries + m) (sym is) ∙ sym (spine-length 0 s.entries s.leaf)

pub returns-in-Some-clause-value : goal.returns-in-Some-clause-value
returns-in-Some-clause-value c =
    omega (arith, c.len.ensures.value, size c.args.self.now 1 (ap leaf_count (sym c.in-Some.ensures)))

pub returns-in-Some-clause-tree : goal.returns-in-Some-clause-tree
returns-in-Some-clause-tree c = spine-tree c.args.self.now (omega (arith, c.len.ensures.value, c.len.ensures.at_most))

pub returns-in-None-clause-value : goal.returns-in-None-clause-value
returns-in-None-clause-value c =
    omega (arith, c.len-in-None.ensures.value, size c.args.self.now 0 (ap leaf_count (sym c.in-None.ensures)))

pub returns-in-None-clause-tree : goal.returns-in-None-clause-tree
returns-in-None-clause-tree c = spine-tree c.args.self.now (omega (arith, c.len-in-None.ensures.value, c.len-in-None.ensures.at_most))
