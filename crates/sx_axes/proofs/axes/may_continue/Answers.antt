use Rattle.std.proofs.Common.{◌∙◌}
use Rattle.sx_axes.proofs.Openness.{open-inward}
use Rattle.sx_axes.proofs.axes.may_continue.Goals as goal

pub returns-in-Child : goal.returns-in-Child
returns-in-Child g c = c.is_open.ensures ∙ open-inward (g.T.Tree.places c.args.t.now) c.args.a c.args.from c.in-Child.is
