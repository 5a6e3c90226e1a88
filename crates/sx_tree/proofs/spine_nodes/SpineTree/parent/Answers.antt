use Rattle.std.proofs.Common.{◌≡◌, ℕ, suc, ap, sym, ◌∙◌, arith}
use Rattle.std.proofs.lemmas.Option.{slice_get_past}
use Rattle.sx_tree.specs.Seen.{node_at}
use Rattle.sx_tree.specs.SpineView.{spine_places}
use Rattle.sx_tree.specs.TreeView.{first_place, outer_places}
use Rattle.sx_tree.proofs.Nearby.{outer_places-none}
use Rattle.sx_tree.proofs.SpineNodes.{spine-parent}
use Rattle.sx_tree.proofs.spine_nodes.SpineTree.parent.Goals as goal

pub returns-then-k-place_count : goal.returns-then-k-place_count
returns-then-k-place_count c =
    let before = c.in_ok-before-in-At.before in
    let place : c.in-At.k ≡ suc before = omega (arith, c.in_ok-before-in-At.ensures) in
    rw c.in-At.is
    (sym (ap (λ (k : ℕ). node_at (first_place (outer_places (spine_places c.args.self.now) k))) place
    ∙ ap node_at (spine-parent c.args.self.now before (omega (arith, place, c.if-k-place_count.true, c.place_count.ensures.value)))))

pub returns-else-k-place_count : goal.returns-else-k-place_count
returns-else-k-place_count c =
    rw c.in-At.is
    (sym (ap node_at (outer_places-none (spine_places c.args.self.now) c.in-At.k
    (slice_get_past (spine_places c.args.self.now).entries c.in-At.k (omega (arith, c.if-k-place_count.false, c.place_count.ensures.value))))))
