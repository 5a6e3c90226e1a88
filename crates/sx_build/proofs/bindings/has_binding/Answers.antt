use Rattle.std.proofs.Common.{true, false, reverse, sym, ◌∙◌}
use Rattle.sx_build.proofs.InForces.{bound_among}
use Rattle.sx_build.proofs.bindings.has_binding.Goals as goal

pub returns-then-is_some : goal.returns-then-is_some
returns-then-is_some c =
    c.if-is_some.true
    ∙ sym (bound_among c.args.own.now (reverse c.args.outer.now) c.args.prefix.now c.declared.result true c.declared.ensures (sym c.if-is_some.ensures))

pub returns-else-is_some : goal.returns-else-is_some
returns-else-is_some c =
    c.is_bound_at_first.ensures
    ∙ sym (bound_among c.args.own.now (reverse c.args.outer.now) c.args.prefix.now c.declared.result false c.declared.ensures (sym c.if-is_some.ensures))
