use Rattle.std.proofs.Common.{sym}
use Rattle.sx_tree.proofs.Nearby.{outer_places-none}
use Rattle.sx_tree.proofs.rows.Rows.parent_place.Goals as goal

pub returns-in-None : goal.returns-in-None
returns-in-None c = sym (outer_places-none c.args.self.now c.args.k (sym c.in-None.ensures.node))
