use Rattle.std.proofs.Common.{◌≡◌, List, ℕ, ◌++◌, Some, ap, sym, ◌∙◌, append-nil}
use Rattle.sx_axes.proofs.Chains.{ahead-place, walks-children, walks-siblings}
use Rattle.sx_axes.proofs.Spans.{before-goes, before-siblings}
use Rattle.sx_axes.proofs.walks.earlier_siblings.Goals as goal
use Rattle.sx_axes.specs.Axes.{places_before, children_of}
use Rattle.sx_tree.specs.TreeView.{first_place, outer_places, sibling_places}

pub loop-next-init : goal.loop-next-init
loop-next-init g c =
    let t = g.T.Tree.places c.args.t.now in
    let parent : first_place (outer_places t c.args.place) ≡ Some c.in-Some.parent = rw c.in-Some.is at (sym c.parent_place.ensures) in
    rw (c.new-earlier.ensures, parent, c.child_place-next.ensures)
    (ap (places_before c.args.place) (sym (walks-children t c.in-Some.parent).listed))

pub returns-then-k-place : goal.returns-then-k-place
returns-then-k-place g c =
    let t = g.T.Tree.places c.args.t.now in
    let none = before-siblings t c.args.place c.in-Some-next.k c.if-k-place.true in
    sym (append-nil c.loop-next.earlier)
    ∙ ap (λ (ks : List ℕ). c.loop-next.earlier ++ ks) (sym none)
    ∙ (rw c.in-Some-next.is at c.loop-next.invariant)

pub loop-next-preserved : goal.loop-next-preserved
loop-next-preserved g c =
    let t = g.T.Tree.places c.args.t.now in
    before-goes t c.args.place c.in-Some-next.k c.sibling_place-next.result c.loop-next.earlier c.push.new.self
    (places_before c.args.place (children_of t (first_place (outer_places t c.args.place)))) c.if-k-place.false c.in_ok-push.ensures.ok
    c.sibling_place-next.ensures (rw c.in-Some-next.is at c.loop-next.invariant)

pub loop-next-smaller : goal.loop-next-smaller
loop-next-smaller g c =
    let t = g.T.Tree.places c.args.t.now in
    let k = c.in-Some-next.k in
    rw (c.in-Some-next.is, c.sibling_place-next.ensures) (ahead-place t (first_place (sibling_places t k)) k ((walks-siblings t k).lies))
