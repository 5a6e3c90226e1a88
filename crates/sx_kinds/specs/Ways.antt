-- Ways down an expression along its first parts.
use Rattle.std.specs.Prelude.{ℕ, zero, suc, Bool, true, false, if◌then◌else◌, List, [], ◌∷◌}
use Rattle.sx_kinds.specs.declared.expressions.Deep.{Deep}
use Rattle.sx_kinds.specs.declared.expressions.Deep.TheVariants as deeps
use Rattle.sx_kinds.specs.declared.expressions.Expr.{Expr}
use Rattle.sx_kinds.specs.declared.expressions.Expr.TheFolds.{fold-Expr}
use Rattle.sx_kinds.specs.declared.expressions.Expr.TheViews.{out-Expr}
use Rattle.sx_kinds.specs.declared.expressions.ExprForm.{ExprForm}
use Rattle.sx_kinds.specs.declared.expressions.ExprForm.TheVariants as forms
use Rattle.sx_kinds.specs.declared.walks.Way.{Way}
use Rattle.sx_kinds.specs.declared.walks.Way.TheVariants as ways

-- whether the first part of an expression stands in the focus in which the whole is evaluated: a predicate of a step does not,
-- nor does what stands behind `//`
abbrev pub in_focus : ExprForm → Deep → Bool
in_focus (forms.Step axis _) deep = false
in_focus form deeps.No = true
in_focus form deep = false

-- whether a way goes on from an expression of this form to its first part
abbrev pub goes_on : Way → ExprForm → Deep → Bool
goes_on ways.FirstParts form deep = true
goes_on ways.OneFocus form deep = in_focus form deep

-- by how many lie below the first of these parts
abbrev pub above_first : List ℕ → ℕ
above_first [] = 0
above_first (n ∷ ns) = suc n

-- how many first parts lie below one another on a way down an expression
unfoldable pub levels : Way → Expr → ℕ
levels way = fold-Expr ℕ (λ e. if goes_on way e.form e.deep then above_first e.parts else 0)

-- the first of these, or this one where there is none
abbrev pub first_or : Expr → List Expr → Expr
first_or e [] = e
first_or e (first ∷ rest) = first

-- the next_below one on the way, or this one at its end
abbrev pub next_below : Way → Expr → Expr
next_below way e = if goes_on way (out-Expr e).form (out-Expr e).deep then first_or e (out-Expr e).parts else e

-- the expression so many first parts below this one, or the last one on that way
abbrev pub front : Way → ℕ → Expr → Expr
front way zero e = e
front way (suc n) e = front way n (next_below way e)
