use Rattle.std.proofs.Common.{reverse, sym, ◌∙◌}
use Rattle.sx_build.proofs.InForces.{first_of-some, first_of-none}
use Rattle.sx_build.proofs.bindings.declared.Goals as goal

pub returns-in-Some : goal.returns-in-Some
returns-in-Some c = sym (first_of-some c.args.own.now (reverse c.args.outer.now) c.args.prefix.now c.in-Some.binding.now (sym c.in-Some.ensures))

pub returns-in-None : goal.returns-in-None
returns-in-None c = c.last.ensures ∙ sym (first_of-none c.args.own.now (reverse c.args.outer.now) c.args.prefix.now (sym c.in-None.ensures))
