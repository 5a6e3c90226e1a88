-- Settled expressions: what is written into an expression once the types of what stands around it are known.
use Rattle.std.specs.Prelude.{◌≡◌, ℕ, false, if◌then◌else◌, ◌==◌, List, [], ◌∷◌, ◌++◌, map, Option, Some, Result, Ok, Err}
use Rattle.sx_atoms.specs.Numbers.{◌>>=◌}
use Rattle.sx_atoms.specs.declared.error_codes.Code.{Code}
use Rattle.sx_atoms.specs.declared.functions.SeqFn.TheVariants as fn
use Rattle.sx_kinds.specs.Types.{type_below, first_typing, focus, item_of, is_child_step, is_deep, is_per_item, many, typing}
use Rattle.sx_kinds.specs.declared.expressions.Deep.{Deep}
use Rattle.sx_kinds.specs.declared.expressions.Deep.TheVariants as deeps
use Rattle.sx_kinds.specs.declared.expressions.Expr.{Expr}
use Rattle.sx_kinds.specs.declared.expressions.Expr.TheOpen.{Expr-F}
use Rattle.sx_kinds.specs.declared.expressions.Expr.TheViews.{roll-Expr}
use Rattle.sx_kinds.specs.declared.expressions.Expr.TheFolds.{fold-Expr}
use Rattle.sx_kinds.specs.declared.expressions.ExprForm.{ExprForm}
use Rattle.sx_kinds.specs.declared.expressions.ExprForm.TheVariants as forms
use Rattle.sx_kinds.specs.declared.expressions.Function.{Function}
use Rattle.sx_kinds.specs.declared.expressions.Function.TheVariants as functions
use Rattle.sx_kinds.specs.declared.types.Ty.{Ty}
use Rattle.sx_kinds.specs.declared.types.TyKind.TheVariants as kinds
use Rattle.sx_kinds.specs.declared.types.Typing.{Typing}
use Rattle.sx_kinds.specs.declared.types.VarType.{VarType}

-- where an expression stands: the types of its context item, of the instruction's context item and of the current group,
-- and those of the variables in scope, of two with one name the later one counting
pub record TypingPlace : Type 0 where
  pub context : Ty
  pub current : Ty
  pub group : Ty
  pub vars : List VarType

-- the type of the last variable of a name, or what was found before
abbrev pub latest : ℕ → List VarType → Ty → Ty
latest x [] found = found
latest x (v ∷ vs) found = latest x vs (if v.name == x then v.ty else found)

-- the type of a variable: of one that is not among these, any items
abbrev pub type_in : ℕ → List VarType → Ty
type_in x vars = latest x vars (many kinds.Any)

-- the variable that an expression binds for the parts behind its first one (XPath 3.1, 3.9 and 3.11)
abbrev pub variable_bound : ExprForm → Option Typing → List VarType
variable_bound (forms.For x) (Some t) = record { name = x; ty = item_of t.ty } ∷ []
variable_bound (forms.Let x) (Some t) = record { name = x; ty = t.ty } ∷ []
variable_bound (forms.Some x) (Some t) = record { name = x; ty = item_of t.ty } ∷ []
variable_bound (forms.Every x) (Some t) = record { name = x; ty = item_of t.ty } ∷ []
variable_bound _ before = []

-- where a part stands, by what is known of the first one before it
abbrev pub inner : ExprForm → TypingPlace → Option Typing → TypingPlace
inner form here before =
    record here { context = focus form here.context before; vars = here.vars ++ variable_bound form before }

-- the type at a call: that of the current item, or of the current group (XSLT 3.0, 20.4.1 and 14.2.1)
abbrev pub type_of_call : Function → TypingPlace → Ty → Ty
type_of_call (functions.Seq fn.Current) here ty = here.current
type_of_call (functions.Seq fn.CurrentGroup) here ty = here.group
type_of_call _ here ty = ty

-- what is written into the form of an expression of which this is known
abbrev pub form_in : ExprForm → TypingPlace → Typing → ExprForm
form_in (forms.Path per_item) here t = forms.Path (is_per_item t.shape)
form_in (forms.Var x ty) here t = forms.Var x (type_in x here.vars)
form_in (forms.Call f ty accumulator) here t = forms.Call f (type_of_call f here ty) accumulator
form_in form here t = form

-- how an expression behind `//` is read: a child step without a positional predicate as one on the descendant axis
abbrev pub deep_in : Deep → Typing → Deep
deep_in deeps.No t = deeps.No
deep_in _ t = if is_child_step t.shape then deeps.Descendant else deeps.Parents

-- an expression as it is, and as it is when it is settled_expression in a typing_place
pub record Settling : Type 0 where
  pub as_it_is : Expr
  pub in_place : TypingPlace → Expr

-- these parts and one more, or the first code of one
abbrev pub and_one : List Typing → Result Typing Code → Result (List Typing) Code
and_one ts answer = do
  t ← answer
  Ok (ts ++ t ∷ [])

-- parts, settled_expression one behind another up to and with the first that has a code; those behind that one are as they were
abbrev pub settled_parts : ExprForm → TypingPlace → Result (List Typing) Code → List Settling → List Expr
settled_parts form here before [] = []
settled_parts form here (Err code) (part ∷ parts) = part.as_it_is ∷ settled_parts form here (Err code) parts
settled_parts form here (Ok ts) (part ∷ parts) =
    let typing_place = inner form here (first_typing ts) in
    let e = part.in_place typing_place in
    e ∷ settled_parts form here (and_one ts (typing e typing_place.context)) parts

-- the form of an expression, where what is known of it is this or a code
abbrev pub form_after : ExprForm → TypingPlace → Result Typing Code → ExprForm
form_after form here (Err code) = form
form_after form here (Ok t) = form_in form here t

-- the reading of one behind `//`
abbrev pub deep_after : Deep → Result Typing Code → Deep
deep_after deep (Err code) = deep
deep_after deep (Ok t) = deep_in deep t

-- an expression with these parts
abbrev pub with_parts : {A : Type 0} → Expr-F A → List Expr → Expr
with_parts e parts =
    roll-Expr (record { construct = e.construct; deep = e.deep; form = e.form; parts = parts })

-- the same with its own fields settled_expression, where it has a type
abbrev pub finished : {A : Type 0} → Expr-F A → TypingPlace → List Expr → Result Typing Code → Expr
finished e here parts answer =
    roll-Expr (record {
      construct = e.construct;
      deep = deep_after e.deep answer;
      form = form_after e.form here answer;
      parts = parts;
    })

-- one expression whose parts can be settled_expression
abbrev pub settling : Expr-F Settling → Settling
settling e = record {
  as_it_is = with_parts e (map (λ (part : Settling). part.as_it_is) e.parts);
  in_place = λ outer.
      let here = record outer { context = type_below e.deep outer.context } in
      let parts = settled_parts e.form here (Ok []) e.parts in
      finished e here parts (typing (with_parts e parts) outer.context);
}

-- each expression as it is, and as it is when it is settled_expression in a typing_place
unfoldable pub settling_of : Expr → Settling
settling_of = fold-Expr Settling settling

-- an expression settled_expression in a typing_place; where it has a code, what stands before that is settled_expression, and the rest is as it was
abbrev pub settled_expression : Expr → TypingPlace → Expr
settled_expression e = (settling_of e).in_place

-- an expression is settled_expression in a typing_place where settling it there changes nothing
abbrev pub IsSettled : Expr → TypingPlace → Type 0
IsSettled e here = settled_expression e here ≡ e

-- the typing_place of an instruction's expression, by the types of the context item, of the group and of the variables
abbrev pub typing_place : Ty → Ty → List VarType → TypingPlace
typing_place context group vars = record { context = context; current = context; group = group; vars = vars }

-- whether there is a type, or its code
abbrev pub without_type : Result Ty Code → Result (Unit {0}) Code
without_type (Ok t) = Ok tt
without_type (Err code) = Err code

-- the type at a call, without that of the current item or of the current group
abbrev pub bare_type : Function → Ty → Ty
bare_type (functions.Seq fn.Current) ty = many kinds.Any
bare_type (functions.Seq fn.CurrentGroup) ty = many kinds.Any
bare_type _ ty = ty

-- a form without what is written into it
abbrev pub bare_form : ExprForm → ExprForm
bare_form (forms.Path per_item) = forms.Path false
bare_form (forms.Var x ty) = forms.Var x (many kinds.Any)
bare_form (forms.Call f ty accumulator) = forms.Call f (bare_type f ty) accumulator
bare_form form = form

-- a reading of `//` that has not been looked at
abbrev pub bare_deep : Deep → Deep
bare_deep deep = if is_deep deep then deeps.Written else deeps.No

-- an expression without what settling writes into it
unfoldable pub bare : Expr → Expr
bare = fold-Expr Expr (λ e. roll-Expr (record {
  construct = e.construct;
  deep = bare_deep e.deep;
  form = bare_form e.form;
  parts = e.parts;
}))
