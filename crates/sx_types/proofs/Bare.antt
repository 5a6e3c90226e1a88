-- Settling changes nothing but the fields that it writes.
use Rattle.std.proofs.Common.{◌≡◌, Bool, true, false, List, [], ◌∷◌, map, Result, Ok, Err, refl, ap, sym, ◌∙◌, subst}
use Rattle.std.specs.Prelude.{if◌then◌else◌}
use Rattle.sx_atoms.specs.declared.error_codes.Code.{Code}
use Rattle.sx_atoms.specs.declared.functions.SeqFn.TheVariants as fn
use Rattle.sx_kinds.specs.Settled.{TypingPlace, and_one, bare, bare_deep, bare_form, bare_type, deep_after, form_after, form_in, inner, settled_expression, settled_parts, settling_of, type_of_call, with_parts}
use Rattle.sx_kinds.specs.Types.{first_typing, is_child_step, typing}
use Rattle.sx_kinds.specs.declared.expressions.Deep.{Deep}
use Rattle.sx_kinds.specs.declared.expressions.Deep.TheVariants as deeps
use Rattle.sx_kinds.specs.declared.expressions.Expr.{Expr}
use Rattle.sx_kinds.specs.declared.expressions.Expr.TheOpen.{Expr-F}
use Rattle.sx_kinds.specs.declared.expressions.Expr.TheViews.{roll-Expr}
use Rattle.sx_kinds.specs.declared.expressions.Expr.TheFolds.{fold-roll-Expr, ind-Expr}
use Rattle.sx_kinds.specs.declared.expressions.ExprForm.{ExprForm}
use Rattle.sx_kinds.specs.declared.expressions.ExprForm.TheVariants as forms
use Rattle.sx_kinds.specs.declared.expressions.Function.{Function}
use Rattle.sx_kinds.specs.declared.expressions.Function.TheVariants as functions
use Rattle.sx_kinds.specs.declared.types.Ty.{Ty}
use Rattle.sx_kinds.specs.declared.types.Typing.{Typing}
use Rattle.sx_types.proofs.Again.{layer, parts_in, settled_roll, within}
use Rattle.sx_types.proofs.Rewriting.{as_it_is}

bare_type_at : (f : Function) (here : TypingPlace) (ty : Ty) → bare_type f (type_of_call f here ty) ≡ bare_type f ty
bare_type_at (functions.Seq fn.Current) here ty = refl
bare_type_at (functions.Seq fn.CurrentGroup) here ty = refl
bare_type_at _ here ty = refl

bare_in : (form : ExprForm) (here : TypingPlace) (t : Typing) → bare_form (form_in form here t) ≡ bare_form form
bare_in (forms.Path per_item) here t = refl
bare_in (forms.Var x ty) here t = refl
bare_in (forms.Call f ty accumulator) here t = ap (λ (u : Ty). forms.Call f u accumulator) (bare_type_at f here ty)
bare_in _ here t = refl

bare_after : (form : ExprForm) (here : TypingPlace) (answer : Result Typing Code) → bare_form (form_after form here answer) ≡ bare_form form
bare_after form here (Err code) = refl
bare_after form here (Ok t) = bare_in form here t

deep_read : (child : Bool) → bare_deep (if child then deeps.Descendant else deeps.Parents) ≡ deeps.Written
deep_read true = refl
deep_read false = refl

bare_deep_after : (deep : Deep) (answer : Result Typing Code) → bare_deep (deep_after deep answer) ≡ bare_deep deep
bare_deep_after deep (Err code) = refl
bare_deep_after deeps.No (Ok t) = refl
bare_deep_after deeps.Written (Ok t) = deep_read (is_child_step t.shape)
bare_deep_after deeps.Descendant (Ok t) = deep_read (is_child_step t.shape)
bare_deep_after deeps.Parents (Ok t) = deep_read (is_child_step t.shape)

abbrev Keeps : Expr → Type 0
Keeps e = (here : TypingPlace) → bare (settled_expression e here) ≡ bare e

parts_keep : (form : ExprForm) (here : TypingPlace) (before : Result (List Typing) Code) (ps : List ((e : Expr) × Keeps e)) →
    map bare (settled_parts form here before (map settling_of (map (λ p. p.0) ps))) ≡ map bare (map (λ p. p.0) ps)
parts_keep form here before [] = refl
parts_keep form here (Err code) (p ∷ ps) =
    ap (λ (e : Expr). bare e ∷ map bare (settled_parts form here (Err code) (map settling_of (map (λ p. p.0) ps)))) (as_it_is p.0) ∙
    ap (λ (es : List Expr). bare p.0 ∷ es) (parts_keep form here (Err code) ps)
parts_keep form here (Ok ts) (p ∷ ps) =
    let place = inner form here (first_typing ts) in
    let next = and_one ts (typing (settled_expression p.0 place) place.context) in
    ap (λ (e : Expr). e ∷ map bare (settled_parts form here next (map settling_of (map (λ p. p.0) ps)))) (p.1 place) ∙
    ap (λ (es : List Expr). bare p.0 ∷ es) (parts_keep form here next ps)

pub bare_roll : (x : Expr-F Expr) → bare (roll-Expr x) ≡ roll-Expr (record { construct = x.construct; deep = bare_deep x.deep; form = bare_form x.form; parts = map bare x.parts })
unfolding bare
bare_roll x = fold-roll-Expr Expr (λ e. roll-Expr (record { construct = e.construct; deep = bare_deep e.deep; form = bare_form e.form; parts = e.parts })) x

layer_keeps : (x : Expr-F Expr) (here : TypingPlace) (parts : List Expr) (answer : Result Typing Code) → map bare parts ≡ map bare x.parts →
    bare (roll-Expr (layer x here parts answer)) ≡ bare (roll-Expr x)
layer_keeps x here parts answer same =
    bare_roll (layer x here parts answer) ∙
    ap (λ (d : Deep). roll-Expr (record { construct = x.construct; deep = d; form = bare_form (form_after x.form here answer); parts = map bare parts })) (bare_deep_after x.deep answer) ∙
    ap (λ (f : ExprForm). roll-Expr (record { construct = x.construct; deep = bare_deep x.deep; form = f; parts = map bare parts })) (bare_after x.form here answer) ∙
    ap (λ (ps : List Expr). roll-Expr (record { construct = x.construct; deep = bare_deep x.deep; form = bare_form x.form; parts = ps })) same ∙
    sym (bare_roll x)

roll_keeps : (x : Expr-F Expr) (ps : List ((e : Expr) × Keeps e)) → map (λ p. p.0) ps ≡ x.parts → Keeps (roll-Expr x)
roll_keeps x ps is outer =
    let here = within x outer in
    let parts = parts_in x here in
    let answer = typing (with_parts x parts) outer.context in
    let same = subst (λ (es : List Expr). map bare (settled_parts x.form here (Ok []) (map settling_of es)) ≡ map bare es) is (parts_keep x.form here (Ok []) ps) in
    ap bare (settled_roll x outer) ∙ layer_keeps x here parts answer same

pub settled_bare : (e : Expr) → Keeps e
settled_bare = ind-Expr Keeps (λ x y is. roll_keeps x y.parts (ap (λ (z : Expr-F Expr). z.parts) is))
