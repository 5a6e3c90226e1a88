-- What is known of an expression, by what is known of its parts.
use Rattle.std.proofs.Common.{◌≡◌, Bool, ℕ, suc, ◌+◌, ◌<◌, ◌≤◌, List, [], ◌∷◌, ◌++◌, length, get_or, drop, map, Result, Ok, Err, ap, sym, ◌∙◌, add-one, drop-cons, refl}
use Rattle.std.proofs.lemmas.List.{drop_all}
use Rattle.sx_atoms.specs.Numbers.{◌>>=◌}
use Rattle.sx_atoms.specs.declared.error_codes.Code.{Code}
use Rattle.sx_kinds.specs.Types.{type_below, counts_by, each, first_typing, focus, is_deep, known, known_by, parts_of_typings, shape_by, start_by, type_by, typing}
use Rattle.sx_kinds.specs.declared.expressions.Deep.{Deep}
use Rattle.sx_kinds.specs.declared.expressions.Deep.TheVariants as deeps
use Rattle.sx_kinds.specs.declared.expressions.Expr.{Expr}
use Rattle.sx_kinds.specs.declared.expressions.Expr.TheOpen.{Expr-F}
use Rattle.sx_kinds.specs.declared.expressions.Expr.TheViews.{out-Expr, roll-Expr}
use Rattle.sx_kinds.specs.declared.expressions.Expr.TheFolds.{fold-roll-Expr, fold_out-Expr}
use Rattle.sx_kinds.specs.declared.expressions.ExprForm.{ExprForm}
use Rattle.sx_kinds.specs.declared.types.Ty.{Ty}
use Rattle.sx_kinds.specs.declared.types.Typing.{Typing}

-- what is known of an expression with these parts
abbrev pub by_parts : Expr-F Expr → Ty → Result Typing Code
by_parts e outer = do
  parts ← each e.form (type_below e.deep outer) [] (map typing e.parts)
  known_by e.form e.deep (type_below e.deep outer) (parts_of_typings parts)

pub typing_out : (e : Expr) (outer : Ty) → typing e outer ≡ by_parts (out-Expr e) outer
unfolding typing
typing_out e outer = ap (λ (m : Ty → Result Typing Code). m outer) (fold_out-Expr (Ty → Result Typing Code) known e)

pub typing_roll : (e : Expr-F Expr) (outer : Ty) → typing (roll-Expr e) outer ≡ by_parts e outer
unfolding typing
typing_roll e outer = ap (λ (m : Ty → Result Typing Code). m outer) (fold-roll-Expr (Ty → Result Typing Code) known e)

pub front : (xs : List Expr) (i : ℕ) (x : Expr) → i < length xs → x ≡ get_or xs i x → drop i xs ≡ x ∷ drop (i + 1) xs
front xs i x h e = rw (add-one i) (drop-cons xs i x h ∙ ap (λ (y : Expr). y ∷ drop (suc i) xs) (sym e))

-- one part more, of which this is known
pub each_step : (form : ExprForm) (context : Ty) (ts : List Typing) (xs : List Expr) (i : ℕ) (x : Expr) (t : Typing) →
    i < length xs → x ≡ get_or xs i x → typing x (focus form context (first_typing ts)) ≡ Ok t →
    each form context ts (map typing (drop i xs)) ≡ each form context (ts ++ t ∷ []) (map typing (drop (i + 1) xs))
each_step form context ts xs i x t h e k =
    ap (λ (ys : List Expr). each form context ts (map typing ys)) (front xs i x h e) ∙
    ap (λ (r : Result Typing Code). r >>= (λ (u : Typing). each form context (ts ++ u ∷ []) (map typing (drop (i + 1) xs)))) k

-- a part that has a code
pub each_code : (form : ExprForm) (context : Ty) (ts : List Typing) (xs : List Expr) (i : ℕ) (x : Expr) (code : Code) →
    i < length xs → x ≡ get_or xs i x → typing x (focus form context (first_typing ts)) ≡ Err code →
    each form context ts (map typing (drop i xs)) ≡ Err code
each_code form context ts xs i x code h e k =
    ap (λ (ys : List Expr). each form context ts (map typing ys)) (front xs i x h e) ∙
    ap (λ (r : Result Typing Code). r >>= (λ (u : Typing). each form context (ts ++ u ∷ []) (map typing (drop (i + 1) xs)))) k

-- no part more
pub each_end : (form : ExprForm) (context : Ty) (ts : List Typing) (xs : List Expr) (i : ℕ) → length xs ≤ i →
    each form context ts (map typing (drop i xs)) ≡ Ok ts
each_end form context ts xs i h = ap (λ (ys : List Expr). each form context ts (map typing ys)) (drop_all i xs h)

module _ (e : Expr) (outer context : Ty) (items : List Expr) (here : context ≡ type_below (out-Expr e).deep outer) (all : items ≡ (out-Expr e).parts) where
  same_parts : each (out-Expr e).form context [] (map typing items) ≡ each (out-Expr e).form (type_below (out-Expr e).deep outer) [] (map typing (out-Expr e).parts)
  same_parts =
      ap (λ (c : Ty). each (out-Expr e).form c [] (map typing items)) here ∙
      ap (λ (ys : List Expr). each (out-Expr e).form (type_below (out-Expr e).deep outer) [] (map typing ys)) all

  from_parts : (r : Result (List Typing) Code) → each (out-Expr e).form context [] (map typing items) ≡ r →
      typing e outer ≡ (r >>= (λ (us : List Typing). known_by (out-Expr e).form (out-Expr e).deep context (parts_of_typings us)))
  from_parts r h =
      typing_out e outer ∙
      ap (λ (r : Result (List Typing) Code). r >>= (λ (us : List Typing). known_by (out-Expr e).form (out-Expr e).deep (type_below (out-Expr e).deep outer) (parts_of_typings us))) (sym same_parts ∙ h) ∙
      ap (λ (c : Ty). r >>= (λ (us : List Typing). known_by (out-Expr e).form (out-Expr e).deep c (parts_of_typings us))) (sym here)

  -- what is known of an expression whose parts are known
  pub typing_known : (ts : List Typing) → each (out-Expr e).form context [] (map typing items) ≡ Ok ts →
      typing e outer ≡ known_by (out-Expr e).form (out-Expr e).deep context (parts_of_typings ts)
  typing_known ts h = from_parts (Ok ts) h

  -- the code of an expression with a part that has one
  pub typing_code : (code : Code) → each (out-Expr e).form context [] (map typing items) ≡ Err code → typing e outer ≡ Err code
  typing_code code h = from_parts (Err code) h

below_same : (a b : Deep) (outer : Ty) → is_deep a ≡ is_deep b → type_below a outer ≡ type_below b outer
below_same deeps.No deeps.No outer e = refl
below_same deeps.No deeps.Written outer e = cc
below_same deeps.No deeps.Descendant outer e = cc
below_same deeps.No deeps.Parents outer e = cc
below_same deeps.Written deeps.No outer e = cc
below_same deeps.Descendant deeps.No outer e = cc
below_same deeps.Parents deeps.No outer e = cc
below_same _ _ outer e = refl

-- how `//` is read does not matter to what is known
pub same_reading : (e : Expr-F Expr) (a b : Deep) (outer : Ty) → is_deep a ≡ is_deep b →
    typing (roll-Expr (record e { deep = a })) outer ≡ typing (roll-Expr (record e { deep = b })) outer
same_reading e a b outer same =
    typing_roll (record e { deep = a }) outer ∙
    ap (λ (c : Ty). each e.form c [] (map typing e.parts) >>= (λ (us : List Typing). known_by e.form a c (parts_of_typings us))) (below_same a b outer same) ∙
    ap (λ (d : Bool). each e.form (type_below b outer) [] (map typing e.parts) >>= (λ (us : List Typing). type_by e.form (type_below b outer) (parts_of_typings us) >>=
    (λ (ty : Ty). Ok (record { ty = ty; shape = shape_by e.form (parts_of_typings us); deep = d; start = start_by e.form (parts_of_typings us); counts = counts_by e.form (parts_of_typings us) })))) same ∙
    sym (typing_roll (record e { deep = b }) outer)
