-- What is settled_expression stays as it is when it is settled_expression again.
use Rattle.std.proofs.Common.{◌≡◌, Bool, true, false, List, [], ◌∷◌, ◌++◌, map, Option, Result, Ok, Err, refl, ap, sym, ◌∙◌, subst}
use Rattle.std.specs.Prelude.{if◌then◌else◌}
use Rattle.sx_atoms.specs.Numbers.{◌>>=◌}
use Rattle.sx_atoms.specs.declared.error_codes.Code.{Code}
use Rattle.sx_atoms.specs.declared.functions.SeqFn.TheVariants as fn
use Rattle.sx_kinds.specs.Settled.{TypingPlace, Settling, and_one, variable_bound, deep_after, deep_in, finished, form_after, form_in, inner, settled_expression, settled_parts, settling, settling_of, type_of_call, with_parts}
use Rattle.sx_kinds.specs.Types.{type_below, each, first_typing, focus, is_child_step, is_per_item, known_by, parts_of_typings, shape_by, start_by, counts_by, is_deep, type_by, typing}
use Rattle.sx_kinds.specs.declared.expressions.Deep.{Deep}
use Rattle.sx_kinds.specs.declared.expressions.Deep.TheVariants as deeps
use Rattle.sx_kinds.specs.declared.expressions.Expr.{Expr}
use Rattle.sx_kinds.specs.declared.expressions.Expr.TheOpen.{Expr-F}
use Rattle.sx_kinds.specs.declared.expressions.Expr.TheViews.{roll-Expr}
use Rattle.sx_kinds.specs.declared.expressions.Expr.TheFolds.{fold-roll-Expr, ind-Expr}
use Rattle.sx_kinds.specs.declared.expressions.ExprForm.{ExprForm}
use Rattle.sx_kinds.specs.declared.expressions.ExprForm.TheVariants as forms
use Rattle.sx_kinds.specs.declared.expressions.Function.{Function}
use Rattle.sx_kinds.specs.declared.expressions.Function.TheVariants as functions
use Rattle.sx_kinds.specs.declared.types.Parts.{Parts}
use Rattle.sx_kinds.specs.declared.types.Shape.{Shape}
use Rattle.sx_kinds.specs.declared.types.Ty.{Ty}
use Rattle.sx_kinds.specs.declared.types.Typing.{Typing}
use Rattle.sx_types.proofs.Known.{by_parts, typing_roll}
use Rattle.sx_types.proofs.Rewriting.{as_it_is, below_in, each_after, focus_after}

-- ---- places

bound_in : (form : ExprForm) (here : TypingPlace) (t : Typing) (before : Option Typing) → variable_bound (form_in form here t) before ≡ variable_bound form before
bound_in (forms.Path per_item) here t before = refl
bound_in (forms.Var x ty) here t before = refl
bound_in (forms.Call f ty accumulator) here t before = refl
bound_in _ here t before = refl

bound_after : (form : ExprForm) (here : TypingPlace) (answer : Result Typing Code) (before : Option Typing) → variable_bound (form_after form here answer) before ≡ variable_bound form before
bound_after form here (Err code) before = refl
bound_after form here (Ok t) before = bound_in form here t before

inner_after : (form : ExprForm) (here : TypingPlace) (answer : Result Typing Code) (before : Option Typing) → inner (form_after form here answer) here before ≡ inner form here before
inner_after form here answer before =
    ap (λ (c : Ty). record here { context = c; vars = here.vars ++ variable_bound (form_after form here answer) before }) (focus_after form here answer here.context before) ∙
    ap (λ vs. record here { context = focus form here.context before; vars = here.vars ++ vs }) (bound_after form here answer before)

-- ---- fields

-- two answers that say the same of the shape
abbrev SameShape : Result Typing Code → Result Typing Code → Type 0
SameShape (Ok t) (Ok u) = t.shape ≡ u.shape
SameShape (Err code) (Err other) = Unit {0}
SameShape (Ok t) (Err code) = ⊥
SameShape (Err code) (Ok t) = ⊥

same_itself : (r : Result Typing Code) → SameShape r r
same_itself (Ok t) = refl
same_itself (Err code) = tt

same_made : (r : Result Ty Code) (f g : Ty → Typing) → ((ty : Ty) → (f ty).shape ≡ (g ty).shape) → SameShape (r >>= (λ (ty : Ty). Ok (f ty))) (r >>= (λ (ty : Ty). Ok (g ty)))
same_made (Ok ty) f g same = same ty
same_made (Err code) f g same = tt

abbrev typing_by : ExprForm → Deep → Parts → Ty → Typing
typing_by form deep parts ty = record { ty = ty; shape = shape_by form parts; deep = is_deep deep; start = start_by form parts; counts = counts_by form parts }

same_in : (form : ExprForm) (here : TypingPlace) (t : Typing) (deep other : Deep) (context : Ty) (parts : Parts) →
    SameShape (known_by form deep context parts) (known_by (form_in form here t) other context parts)
same_in (forms.Var x ty) here t deep other context parts = refl
same_in (forms.Call f ty accumulator) here t deep other context parts = refl
same_in (forms.Path per_item) here t deep other context parts =
    same_made (type_by (forms.Path per_item) context parts) (typing_by (forms.Path per_item) deep parts) (typing_by (form_in (forms.Path per_item) here t) other parts) (λ ty. refl)
same_in form here t deep other context parts =
    same_made (type_by form context parts) (typing_by form deep parts) (typing_by (form_in form here t) other parts) (λ ty. refl)

same_after : (form : ExprForm) (here : TypingPlace) (answer : Result Typing Code) (deep : Deep) (context : Ty) (r : Result (List Typing) Code) →
    SameShape (r >>= (λ (us : List Typing). known_by form deep context (parts_of_typings us)))
    (r >>= (λ (us : List Typing). known_by (form_after form here answer) (deep_after deep answer) context (parts_of_typings us)))
same_after form here answer deep context (Err code) = tt
same_after form here (Err code) deep context (Ok us) = same_itself (known_by form deep context (parts_of_typings us))
same_after form here (Ok t) deep context (Ok us) = same_in form here t deep (deep_in deep t) context (parts_of_typings us)

type_at_again : (f : Function) (here : TypingPlace) (ty : Ty) → type_of_call f here (type_of_call f here ty) ≡ type_of_call f here ty
type_at_again (functions.Seq fn.Current) here ty = refl
type_at_again (functions.Seq fn.CurrentGroup) here ty = refl
type_at_again _ here ty = refl

form_again : (form : ExprForm) (here : TypingPlace) (t u : Typing) → t.shape ≡ u.shape → form_in (form_in form here t) here u ≡ form_in form here t
form_again (forms.Path per_item) here t u e = ap (λ (s : Shape). forms.Path (is_per_item s)) (sym e)
form_again (forms.Var x ty) here t u e = refl
form_again (forms.Call f ty accumulator) here t u e = ap (λ (u : Ty). forms.Call f u accumulator) (type_at_again f here ty)
form_again _ here t u e = refl

read_again : (child : Bool) (u : Typing) → deep_in (if child then deeps.Descendant else deeps.Parents) u ≡ (if is_child_step u.shape then deeps.Descendant else deeps.Parents)
read_again true u = refl
read_again false u = refl

read_same : (t u : Typing) → t.shape ≡ u.shape →
    deep_in (if is_child_step t.shape then deeps.Descendant else deeps.Parents) u ≡ (if is_child_step t.shape then deeps.Descendant else deeps.Parents)
read_same t u e =
    read_again (is_child_step t.shape) u ∙ ap (λ (s : Shape). if is_child_step s then deeps.Descendant else deeps.Parents) (sym e)

deep_again : (deep : Deep) (t u : Typing) → t.shape ≡ u.shape → deep_in (deep_in deep t) u ≡ deep_in deep t
deep_again deeps.No t u e = refl
deep_again deeps.Written t u e = read_same t u e
deep_again deeps.Descendant t u e = read_same t u e
deep_again deeps.Parents t u e = read_same t u e

forms_again : (form : ExprForm) (here : TypingPlace) (a b : Result Typing Code) → SameShape a b → form_after (form_after form here a) here b ≡ form_after form here a
forms_again form here (Ok t) (Ok u) e = form_again form here t u e
forms_again form here (Err code) (Err other) e = refl
forms_again form here (Ok t) (Err code) e = absurd e
forms_again form here (Err code) (Ok t) e = absurd e

deeps_again : (deep : Deep) (a b : Result Typing Code) → SameShape a b → deep_after (deep_after deep a) b ≡ deep_after deep a
deeps_again deep (Ok t) (Ok u) e = deep_again deep t u e
deeps_again deep (Err code) (Err other) e = refl
deeps_again deep (Ok t) (Err code) e = absurd e
deeps_again deep (Err code) (Ok t) e = absurd e

-- ---- expressions

abbrev StaysSettled : Expr → Type 0
StaysSettled e = (here : TypingPlace) → settled_expression (settled_expression e here) here ≡ settled_expression e here

parts_again : (form : ExprForm) (here : TypingPlace) (answer : Result Typing Code) (before : Result (List Typing) Code) (ps : List ((e : Expr) × StaysSettled e)) →
    settled_parts (form_after form here answer) here before (map settling_of (settled_parts form here before (map settling_of (map (λ p. p.0) ps)))) ≡
    settled_parts form here before (map settling_of (map (λ p. p.0) ps))
parts_again form here answer before [] = refl
parts_again form here answer (Err code) (p ∷ ps) =
    let rest = map settling_of (settled_parts form here (Err code) (map settling_of (map (λ p. p.0) ps))) in
    ap (λ (e : Expr). e ∷ settled_parts (form_after form here answer) here (Err code) rest) (as_it_is (settling_of p.0).as_it_is) ∙
    ap (λ (es : List Expr). (settling_of p.0).as_it_is ∷ es) (parts_again form here answer (Err code) ps)
parts_again form here answer (Ok ts) (p ∷ ps) =
    let place = inner form here (first_typing ts) in
    let n = settled_expression p.0 place in
    let next = and_one ts (typing n place.context) in
    let other = form_after form here answer in
    let rest = map settling_of (settled_parts form here next (map settling_of (map (λ p. p.0) ps))) in
    ap (λ (w : TypingPlace). settled_expression n w ∷ settled_parts other here (and_one ts (typing (settled_expression n w) w.context)) rest) (inner_after form here answer (first_typing ts)) ∙
    ap (λ (m : Expr). m ∷ settled_parts other here (and_one ts (typing m place.context)) rest) (p.1 place) ∙
    ap (λ (es : List Expr). n ∷ es) (parts_again form here answer next ps)

-- the parts of an expression, settled_expression
abbrev pub parts_in : Expr-F Expr → TypingPlace → List Expr
parts_in x here = settled_parts x.form here (Ok []) (map settling_of x.parts)

-- where an expression of this layer stands
abbrev pub within : Expr-F Expr → TypingPlace → TypingPlace
within x outer = record outer { context = type_below x.deep outer.context }

pub settled_roll : (x : Expr-F Expr) (outer : TypingPlace) →
    settled_expression (roll-Expr x) outer ≡ finished x (within x outer) (parts_in x (within x outer)) (typing (with_parts x (parts_in x (within x outer))) outer.context)
unfolding settling_of
settled_roll x outer = ap (λ (s : Settling). s.in_place outer) (fold-roll-Expr Settling settling x)

-- a layer with these parts and with its own fields settled_expression
abbrev pub layer : Expr-F Expr → TypingPlace → List Expr → Result Typing Code → Expr-F Expr
layer x here parts answer = record { construct = x.construct; deep = deep_after x.deep answer; form = form_after x.form here answer; parts = parts }

module _ (x : Expr-F Expr) (outer : TypingPlace) (parts : List Expr) (answer : Result Typing Code) where
  same_answer : SameShape (typing (with_parts x parts) outer.context) (typing (roll-Expr (layer x (within x outer) parts answer)) outer.context)
  same_answer =
      let here = within x outer in
      let form = form_after x.form here answer in
      let deep = deep_after x.deep answer in
      let r = each x.form here.context [] (map typing parts) in
      let one = typing_roll (record { construct = x.construct; deep = x.deep; form = x.form; parts = parts }) outer.context in
      let other =
      typing_roll (layer x here parts answer) outer.context ∙
      ap (λ (c : Ty). each form c [] (map typing parts) >>= (λ (us : List Typing). known_by form deep c (parts_of_typings us))) (below_in x.deep answer outer.context) ∙
      ap (λ (s : Result (List Typing) Code). s >>= (λ (us : List Typing). known_by form deep here.context (parts_of_typings us))) (each_after x.form here answer here.context [] parts) in
      subst (λ (a : Result Typing Code). SameShape a (typing (roll-Expr (layer x here parts answer)) outer.context)) (sym one)
      (subst (λ (b : Result Typing Code). SameShape (by_parts (record { construct = x.construct; deep = x.deep; form = x.form; parts = parts }) outer.context) b) (sym other)
      (same_after x.form here answer x.deep here.context r))

  -- where the parts stay as they are, so does the whole
  layer_again : answer ≡ typing (with_parts x parts) outer.context →
      settled_parts (form_after x.form (within x outer) answer) (within x outer) (Ok []) (map settling_of parts) ≡ parts →
      settled_expression (roll-Expr (layer x (within x outer) parts answer)) outer ≡ roll-Expr (layer x (within x outer) parts answer)
  layer_again is same =
      let here = within x outer in
      let made = layer x here parts answer in
      let again = typing (roll-Expr made) outer.context in
      let shape = subst (λ (a : Result Typing Code). SameShape a again) (sym is) same_answer in
      settled_roll made outer ∙
      ap (λ (c : Ty). let w : TypingPlace = record outer { context = c } in finished made w (parts_in made w) (typing (with_parts made (parts_in made w)) outer.context)) (below_in x.deep answer outer.context) ∙
      ap (λ (ps : List Expr). finished made here ps (typing (with_parts made ps) outer.context)) same ∙
      ap (λ (d : Deep). roll-Expr (record { construct = x.construct; deep = d; form = form_after made.form here again; parts = parts })) (deeps_again x.deep answer again shape) ∙
      ap (λ (f : ExprForm). roll-Expr (record { construct = x.construct; deep = made.deep; form = f; parts = parts })) (forms_again x.form here answer again shape)

roll_again : (x : Expr-F Expr) (ps : List ((e : Expr) × StaysSettled e)) → map (λ p. p.0) ps ≡ x.parts → StaysSettled (roll-Expr x)
roll_again x ps is outer =
    let here = within x outer in
    let parts = parts_in x here in
    let answer = typing (with_parts x parts) outer.context in
    let same = subst (λ (es : List Expr). settled_parts (form_after x.form here answer) here (Ok []) (map settling_of (settled_parts x.form here (Ok []) (map settling_of es))) ≡
    settled_parts x.form here (Ok []) (map settling_of es)) is (parts_again x.form here answer (Ok []) ps) in
    ap (λ (e : Expr). settled_expression e outer) (settled_roll x outer) ∙ layer_again x outer parts answer refl same ∙ sym (settled_roll x outer)

pub stays_settled : (e : Expr) → StaysSettled e
stays_settled = ind-Expr StaysSettled (λ x y is. roll_again x y.parts (ap (λ (z : Expr-F Expr). z.parts) is))
