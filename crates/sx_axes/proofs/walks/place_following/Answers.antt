use Rattle.std.proofs.Common.{sym, ◌∙◌}
use Rattle.sx_axes.proofs.Spans.{after-is_from, from-next}
use Rattle.sx_axes.proofs.walks.place_following.Goals as goal

pub returns-in-Attr : goal.returns-in-Attr
returns-in-Attr g c =
    let t = g.T.Tree.places c.args.t.now in
    rw c.in-Attr.is (after-is_from t c.in-Attr.place
    ∙ sym (from-next t c.in-Attr.place c.saturating_add.result c.is_tree.ensures.few c.saturating_add.ensures))
