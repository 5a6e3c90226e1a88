-- What settling makes of an expression whose first part is settled_expression.
use Rattle.std.proofs.Common.{◌≡◌, ◌<◌, List, [], ◌∷◌, ◌++◌, length, drop, map, None, Result, Ok, ap, refl, sym, ◌∙◌, subst, arith}
use Rattle.sx_atoms.specs.declared.error_codes.Code.{Code}
use Rattle.sx_kinds.specs.Settled.{TypingPlace, and_one, variable_bound, inner, settled_expression, settled_parts, settling_of}
use Rattle.sx_kinds.specs.Types.{each, focus, parts_of_typings, typing}
use Rattle.sx_kinds.specs.declared.expressions.Expr.{Expr}
use Rattle.sx_kinds.specs.declared.expressions.Expr.TheViews.{out-Expr}
use Rattle.sx_kinds.specs.declared.expressions.ExprForm.{ExprForm}
use Rattle.sx_kinds.specs.declared.expressions.ExprForm.TheVariants as forms
use Rattle.sx_kinds.specs.declared.types.Parts.{Parts}
use Rattle.sx_kinds.specs.declared.types.Ty.{Ty}
use Rattle.sx_kinds.specs.declared.types.Typing.{Typing}
use Rattle.sx_kinds.specs.declared.types.VarType.{VarType}
use Rattle.sx_kinds.specs.Ways.{levels, next_below}
use Rattle.sx_kinds.specs.declared.walks.Way.TheVariants.{OneFocus}
use Rattle.sx_kinds.proofs.Ways.{down_one}
use Rattle.sx_types.specs.Settling.{IsBegun, IsSettledAt, place_inside, next_part, together}
use Rattle.sx_types.proofs.Firsts.{context_same}
use Rattle.sx_types.proofs.Rewriting.{known_more, parts_more}

-- ---- the place of the first part

binds_none : (form : ExprForm) → variable_bound form None ≡ []
binds_none (forms.For x) = refl
binds_none (forms.Let x) = refl
binds_none (forms.Some x) = refl
binds_none (forms.Every x) = refl
binds_none _ = refl

none_behind : (vars : List VarType) → vars ++ [] ≡ vars
none_behind [] = refl
none_behind (v ∷ vs) = ap (λ (us : List VarType). v ∷ us) (none_behind vs)

first_place : (form : ExprForm) (here : TypingPlace) → inner form here None ≡ record here { context = focus form here.context None }
first_place form here =
    ap (λ (vs : List VarType). record here { context = focus form here.context None; vars = vs })
    (ap (λ (vs : List VarType). here.vars ++ vs) (binds_none form) ∙ none_behind here.vars)

-- ---- the parts to begin with

pub begun_none : (e : Expr) (outer : TypingPlace) (parts : List Expr) (known : Parts) → parts ≡ [] → known ≡ parts_of_typings [] → IsBegun e outer parts (Ok known)
begun_none e outer parts known none k = (
  Ok [],
  ap (λ (ps : Parts). Ok ps) k,
  ap (λ (ps : List Expr). each (out-Expr e).form (place_inside e outer).context [] (map typing ps)) none,
  ap (λ (ps : List Expr). ps ++ settled_parts (out-Expr e).form (place_inside e outer) (Ok []) (map settling_of (drop (length ps) (out-Expr e).parts))) none,
)

one_by : (form : ExprForm) (here outer : TypingPlace) (p : Expr) (ps : List Expr) → record here { context = focus form here.context None } ≡ outer →
    (each form here.context [] (map typing (settled_expression p outer ∷ [])) ≡ and_one [] (typing (settled_expression p outer) outer.context)) ×
    ((settled_expression p outer ∷ []) ++ settled_parts form here (and_one [] (typing (settled_expression p outer) outer.context)) (map settling_of ps) ≡
    settled_parts form here (Ok []) (map settling_of (p ∷ ps)))
one_by form here outer p ps same =
    let next_below = settled_expression p outer in
    let place = first_place form here ∙ same in
    let is : next_below ≡ next_part form here (Ok []) p = ap (settled_expression p) (sym place) in
    let known = ap (λ (w : TypingPlace). and_one [] (typing (settled_expression p w) w.context)) place in (
      known_more form here (Ok []) [] p next_below refl is ∙ known,
      ap (λ (r : Result (List Typing) Code). (next_below ∷ []) ++ settled_parts form here r (map settling_of ps)) (sym known) ∙
          parts_more form here (Ok []) [] (p ∷ ps) 0 p next_below (omega arith) refl is,
    )

pub begun_one : (e : Expr) (outer : TypingPlace) (parts : List Expr) (known : Result Typing Code) (first : Result Parts Code) → 0 < levels OneFocus e →
    IsSettledAt outer (next_below OneFocus e) parts known → first ≡ together (and_one [] known) → IsBegun e outer parts first
begun_one e outer parts known first h is f =
    let form = (out-Expr e).form in
    let items = (out-Expr e).parts in
    let one = (down_one OneFocus e h).0 in
    let made = settled_expression (next_below OneFocus e) outer in
    let same = ap (λ (c : Ty). record outer { context = c }) (context_same e outer.context h) in
    let by = one_by form (place_inside e outer) outer (next_below OneFocus e) one.0 same in (
      and_one [] known,
      f,
      ap (λ (ps : List Expr). each form (place_inside e outer).context [] (map typing ps)) is.0 ∙
          by.0 ∙
          ap (λ (r : Result Typing Code). and_one [] r) (sym is.1),
      ap (λ (ps : List Expr). ps ++ settled_parts form (place_inside e outer) (and_one [] known) (map settling_of (drop (length ps) items))) is.0 ∙
          ap (λ (r : Result Typing Code). (made ∷ []) ++ settled_parts form (place_inside e outer) (and_one [] r) (map settling_of (drop 1 items))) is.1 ∙
          ap (λ (qs : List Expr). (made ∷ []) ++ settled_parts form (place_inside e outer) (and_one [] (typing made outer.context)) (map settling_of (drop 1 qs))) one.1 ∙
          by.1 ∙
          ap (λ (qs : List Expr). settled_parts form (place_inside e outer) (Ok []) (map settling_of qs)) (sym one.1),
    )

-- ---- what is settled_expression below

-- an expression that is the same is settled_expression as well
pub settled_same : (outer : TypingPlace) (e other : Expr) (parts : List Expr) (known : Result Typing Code) → e ≡ other → IsSettledAt outer e parts known → IsSettledAt outer other parts known
settled_same outer e other parts known same is = subst (λ (x : Expr). IsSettledAt outer x parts known) same is

-- what has been put into an empty list there is settled_expression
pub settled_there : (outer : TypingPlace) (e other : Expr) (old parts : List Expr) (known : Result Typing Code) → e ≡ other → old ≡ [] →
    parts ≡ old ++ settled_expression e outer ∷ [] → known ≡ typing (settled_expression e outer) outer.context → IsSettledAt outer other parts known
settled_there outer e other old parts known same none p k =
    settled_same outer e other parts known same (p ∙ ap (λ (es : List Expr). es ++ settled_expression e outer ∷ []) none, k)
