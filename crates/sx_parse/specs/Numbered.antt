-- The numbers of constructs: an expression has a number, and then its parts have theirs, in the order in which they are written. In
-- a pattern, steps, paths and roots outside predicates have none (XSLT 3.0, 5.5).
use Rattle.std.specs.Prelude.{ℕ, suc, ◌+◌, Bool, true, false, List, [], ◌∷◌}
use Rattle.sx_kinds.specs.declared.constructs.Construct.{Construct}
use Rattle.sx_kinds.specs.declared.expressions.Expr.{Expr}
use Rattle.sx_kinds.specs.declared.expressions.Expr.TheOpen.{Expr-F}
use Rattle.sx_kinds.specs.declared.expressions.Expr.TheFolds.{fold-Expr}
use Rattle.sx_kinds.specs.declared.expressions.Expr.TheViews.{roll-Expr}
use Rattle.sx_kinds.specs.declared.expressions.ExprForm.{ExprForm}
use Rattle.sx_kinds.specs.declared.expressions.ExprForm.TheVariants as form

-- how many constructs are numbered in an expression, and what it is where they are numbered from a number on
pub record Numbers : Type 0 where
  pub count : ℕ
  pub from : ℕ → Expr

-- those of expressions one behind another, each as a part of a pattern outside predicates, where the flag is set
abbrev pub counts : Bool → List (Bool → Numbers) → ℕ
counts outside [] = 0
counts outside (p ∷ ps) = (p outside).count + counts outside ps

abbrev pub in_order : Bool → ℕ → List (Bool → Numbers) → List Expr
in_order outside n [] = []
in_order outside n (p ∷ ps) = (p outside).from n ∷ in_order outside (n + (p outside).count) ps

abbrev pub construct_with_number : ℕ → Construct → Construct
construct_with_number n c = record c { number = n }

-- whether the parts are parts of the pattern: a path is in front of a step, and what else has parts has predicates
abbrev pub is_path : ExprForm → Bool
is_path (form.Path per_item) = true
is_path f = false

-- an expression has a number, and its parts have the next ones; as a part of a pattern it has none
abbrev pub numbers_with : Expr-F (Bool → Numbers) → Bool → Numbers
numbers_with e false = record {
  count = suc (counts false e.parts);
  from = λ n. roll-Expr (record { construct = construct_with_number n e.construct; deep = e.deep; form = e.form; parts = in_order false (suc n) e.parts });
}
numbers_with e true = record {
  count = counts (is_path e.form) e.parts;
  from = λ n. roll-Expr (record { construct = e.construct; deep = e.deep; form = e.form; parts = in_order (is_path e.form) n e.parts });
}

abbrev pub numbers_in : Expr → Bool → Numbers
numbers_in = fold-Expr (Bool → Numbers) numbers_with

-- how many constructs are in an expression, itself counted
abbrev pub construct_count : Expr → ℕ
construct_count e = (numbers_in e false).count

-- an expression whose constructs are numbered from a number on
abbrev pub numbered : ℕ → Expr → Expr
numbered n e = (numbers_in e false).from n

-- the same of an alternative of a pattern: the constructs in its predicates
abbrev pub step_count : Expr → ℕ
step_count e = (numbers_in e true).count

abbrev pub numbered_steps : ℕ → Expr → Expr
numbered_steps n e = (numbers_in e true).from n
