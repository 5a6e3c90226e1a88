use Rattle.std.proofs.Common.{min, length, leb, ap₂, ◌∙◌}
use Rattle.sx_events.proofs.Opens.{full, names-length}
use Rattle.sx_events.proofs.elements.Elements.is_full.Goals as goal

pub returns-clause-is : goal.returns-clause-is
returns-clause-is c = λ names holds.
    ap₂ leb c.min.ensures (c.len.ensures.value ∙ names-length _ _ names holds) ∙ full (min c.args.depth 200) (length names)
