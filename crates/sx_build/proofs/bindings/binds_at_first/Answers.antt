use Rattle.std.proofs.Common.{sym, ◌∙◌}
use Rattle.sx_build.proofs.InForces.{xml_at_first, default_at_first, none_at_first}
use Rattle.sx_build.proofs.bindings.binds_at_first.Goals as goal

pub returns-then-eq : goal.returns-then-eq
returns-then-eq c = c.eq-then-eq.ensures ∙ sym (xml_at_first c.args.prefix.now c.args.uri.now (sym c.if-eq.ensures))

pub returns-then-is_empty : goal.returns-then-is_empty
returns-then-is_empty c = c.is_empty-then-is_empty.ensures ∙ sym (default_at_first c.args.prefix.now c.args.uri.now (sym c.if-eq.ensures) (sym c.if-is_empty.ensures))

pub returns-else-is_empty : goal.returns-else-is_empty
returns-else-is_empty c = c.if-is_empty.false ∙ sym (none_at_first c.args.prefix.now c.args.uri.now (sym c.if-eq.ensures) (sym c.if-is_empty.ensures))
