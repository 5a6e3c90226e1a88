-- The expressions of `|`.
use Rattle.std.specs.Prelude.{Bool, true, false}
use Rattle.sx_kinds.specs.declared.expressions.Expr.{Expr}
use Rattle.sx_kinds.specs.declared.expressions.Expr.TheViews.{out-Expr}
use Rattle.sx_kinds.specs.declared.expressions.ExprForm.{ExprForm}
use Rattle.sx_kinds.specs.declared.expressions.ExprForm.TheVariants as form

abbrev pub is_union : ExprForm → Bool
is_union form.Union = true
is_union f = false

abbrev pub form_of : Expr → ExprForm
form_of e = (out-Expr e).form
