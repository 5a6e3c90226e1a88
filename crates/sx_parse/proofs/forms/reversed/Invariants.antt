use Rattle.std.proofs.Common.{◌≡◌, ◌++◌, reverse, length}
use Rattle.sx_parse.proofs.forms.reversed.Given as goal

abbrev pub invariant-loop-expr : goal.invariant-loop-expr
invariant-loop-expr l = l.back ++ reverse l.exprs ≡ reverse l.fn.exprs

abbrev pub decreases-loop-expr : goal.decreases-loop-expr
decreases-loop-expr l = length l.exprs
