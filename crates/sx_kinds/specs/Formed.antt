-- Expressions with the parts that their forms ask for.
use Rattle.std.specs.Prelude.{◌≡◌, ℕ, Bool, true, ◌&&◌, ◌==◌, nat_le, List, [], ◌∷◌, length, map}
use Rattle.sx_kinds.specs.declared.expressions.Expr.{Expr}
use Rattle.sx_kinds.specs.declared.expressions.Expr.TheFolds.{fold-Expr}
use Rattle.sx_kinds.specs.declared.expressions.ExprForm.{ExprForm}
use Rattle.sx_kinds.specs.declared.expressions.ExprForm.TheVariants as forms
use Rattle.sx_kinds.specs.declared.expressions.Function.{Function}

-- whether an expression of a form may have so many parts; `takes` says whether a call of a function may have so many arguments
abbrev pub has_parts : (Function → ℕ → Bool) → ExprForm → ℕ → Bool
has_parts takes forms.Comma n = nat_le 2 n
has_parts takes (forms.For x) n = n == 2
has_parts takes (forms.Let x) n = n == 2
has_parts takes (forms.Some x) n = n == 2
has_parts takes (forms.Every x) n = n == 2
has_parts takes forms.If n = n == 3
has_parts takes forms.Or n = n == 2
has_parts takes forms.And n = n == 2
has_parts takes (forms.Compare op general) n = n == 2
has_parts takes forms.Concat n = n == 2
has_parts takes forms.Range n = n == 2
has_parts takes (forms.Arith op) n = n == 2
has_parts takes (forms.Unary minus) n = n == 1
has_parts takes forms.Union n = n == 2
has_parts takes (forms.Castable type optional) n = n == 1
has_parts takes (forms.Cast type optional) n = n == 1
has_parts takes forms.Map n = n == 2
has_parts takes (forms.Path per_item) n = n == 2
has_parts takes (forms.Step axis _) n = true
has_parts takes forms.Filter n = nat_le 2 n
has_parts takes (forms.Literal atom) n = n == 0
has_parts takes (forms.Var x ty) n = n == 0
has_parts takes forms.Empty n = n == 0
has_parts takes forms.Dot n = n == 0
has_parts takes forms.Root n = n == 0
has_parts takes (forms.Call f ty accumulator) n = takes f n

-- whether all of these are so
abbrev pub all_so : List Bool → Bool
all_so [] = true
all_so (b ∷ bs) = b && all_so bs

-- whether an expression, and each one in it, has as many parts as its form asks for
unfoldable pub formed : (Function → ℕ → Bool) → Expr → Bool
formed takes = fold-Expr Bool (λ e. has_parts takes e.form (length e.parts) && all_so e.parts)

-- an expression and each one in it have as many parts as their forms ask for
abbrev pub IsFormed : (Function → ℕ → Bool) → Expr → Type 0
IsFormed takes e = formed takes e ≡ true

-- so do all of these
abbrev pub AreFormed : (Function → ℕ → Bool) → List Expr → Type 0
AreFormed takes es = all_so (map (formed takes) es) ≡ true
