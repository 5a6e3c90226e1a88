use Rattle.std.proofs.Common.{◌≡◌, ℕ, true, List, ◌++◌, reverse}
use Rattle.sx_kinds.specs.declared.expressions.Expr.{Expr}
use Rattle.sx_parse.specs.Grammar.{Fits, Tree}
use Rattle.sx_parse.specs.Says as spec
use Rattle.sx_parse.specs.Says.{Meaning}
use Rattle.sx_parse.proofs.patterns.alternatives.Given as goal

-- the alternatives of the front, and those taken off behind them
abbrev pub invariant-loop-front : goal.invariant-loop-front
invariant-loop-front l = (m : Meaning) (n : ℕ) (t : Tree) → Fits true n t → l.fn.expr ≡ spec.says m t →
    (es : List Expr) → ((k : ℕ) (u : Tree) → Fits true k u → l.front ≡ spec.says m u → es ≡ spec.alternatives m u) → es ++ reverse l.behind ≡ spec.alternatives m t
