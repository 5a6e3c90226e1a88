use Rattle.std.proofs.Common.{Some, sym, ◌∙◌}
use Rattle.sx_axes.proofs.Chains.{Lies, walks-outer}
use Rattle.sx_axes.proofs.Parents.{last-outside, following-next, following-none}
use Rattle.sx_axes.proofs.walks.place_behind.Goals as goal

pub returns-in-Some : goal.returns-in-Some
returns-in-Some g c =
    let t = g.T.Tree.places c.args.t.now in
    following-next t c.args.place c.outward.outer c.in-Some.next c.outward.invariant (sym c.sibling_place.ensures ∙ c.in-Some.is)

pub returns-in_default-parent_place : goal.returns-in_default-parent_place
returns-in_default-parent_place g c =
    let t = g.T.Tree.places c.args.t.now in
    following-none t c.args.place c.outward.outer c.place_count-count.result c.place_count-count.ensures.tree c.outward.invariant
    (sym c.parent_place.ensures ∙ c.in_default-parent_place.is) c.place_count-count.ensures.value

pub outward-smaller : goal.outward-smaller
outward-smaller g c =
    let t = g.T.Tree.places c.args.t.now in
    let lies : Lies (Some c.in-Some-parent_place.parent) 0 c.outward.outer =
    rw (sym c.parent_place.ensures ∙ c.in-Some-parent_place.is) at ((walks-outer t c.outward.outer).lies) in
    lies.1

pub outward-preserved : goal.outward-preserved
outward-preserved g c =
    let t = g.T.Tree.places c.args.t.now in
    c.outward.invariant
    ∙ last-outside t c.outward.outer c.in-Some-parent_place.parent c.place_count-count.ensures.tree
    (sym c.parent_place.ensures ∙ c.in-Some-parent_place.is) (sym c.sibling_place.ensures ∙ c.in_default.is)
