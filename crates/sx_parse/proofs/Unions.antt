-- The expressions of patterns that are unions.
use Rattle.std.proofs.Common.{◌≡◌, ℕ, ◌≤◌, Bool, true, false, List, [], ◌∷◌, ◌++◌, length, refl, ap, sym, ◌∙◌, arith}
use Rattle.std.proofs.lemmas.Bool.{false≢true}
use Rattle.std.proofs.lemmas.List.{same_from_push}
use Rattle.sx_kinds.specs.declared.constructs.ConstructKind.{ConstructKind}
use Rattle.sx_kinds.specs.declared.constructs.ConstructKind.TheVariants as kind
use Rattle.sx_atoms.specs.declared.arithmetic.ArithOp.TheVariants as arith_op
use Rattle.sx_kinds.specs.declared.expressions.Deep.TheVariants as deep
use Rattle.sx_kinds.specs.declared.expressions.Expr.{Expr}
use Rattle.sx_kinds.specs.declared.expressions.Expr.TheOpen.{Expr-F}
use Rattle.sx_kinds.specs.declared.expressions.Expr.TheViews.{out-Expr, out-roll-Expr}
use Rattle.sx_kinds.specs.declared.expressions.ExprForm.{ExprForm}
use Rattle.sx_kinds.specs.declared.expressions.ExprForm.TheVariants as form
use Rattle.sx_parse.specs.declared.lexemes.Operator.{Operator}
use Rattle.sx_parse.specs.declared.lexemes.Operator.TheVariants as operator
use Rattle.sx_parse.specs.Grammar.{Tree, literal, dot, parent, root, variable, step, empty, parens, call, called, filter, comma, prefixed, binary, cast, choice, bind, Fits, level}
use Rattle.sx_parse.specs.Nodes.{takes_more}
use Rattle.sx_parse.specs.Unions.{is_union, form_of}
use Rattle.sx_parse.specs.Says.{Meaning, made, deepened, says, alternatives, begun_by, filtered, root_of, step_axis, node_test_of}

made_form : (m : Meaning) (k : ConstructKind) (f : ExprForm) (es : List Expr) → form_of (made m k f es) ≡ f
made_form m k f es =
    ap (λ (x : Expr-F Expr). x.form) (out-roll-Expr (record { construct = record { number = 0; line = m.line; kind = k }; deep = deep.No; form = f; parts = es }))

made_parts : (m : Meaning) (k : ConstructKind) (f : ExprForm) (es : List Expr) → (out-Expr (made m k f es)).parts ≡ es
made_parts m k f es =
    ap (λ (x : Expr-F Expr). x.parts) (out-roll-Expr (record { construct = record { number = 0; line = m.line; kind = k }; deep = deep.No; form = f; parts = es }))

plain_form : (m : Meaning) (k : ConstructKind) (f : ExprForm) (es : List Expr) → is_union f ≡ false → is_union (form_of (made m k f es)) ≡ false
plain_form m k f es h = ap is_union (made_form m k f es) ∙ h

begun_form : (m : Meaning) (o : Operator) (e : Expr) → is_union (form_of (begun_by m o e)) ≡ false
begun_form m operator.Slash e = plain_form m kind.Path (form.Path false) (root_of m ∷ e ∷ []) refl
begun_form m operator.DoubleSlash e = plain_form m kind.Path (form.Path false) (root_of m ∷ deepened e ∷ []) refl
begun_form m (operator.Arith arith_op.Sub) e = plain_form m kind.Unary (form.Unary true) (e ∷ []) refl
begun_form m o e = plain_form m kind.Unary (form.Unary false) (e ∷ []) refl

filtered_form : (m : Meaning) (more : Bool) (b e : Expr) → is_union (form_of b) ≡ false → is_union (form_of (filtered m more b e)) ≡ false
filtered_form m true b e h =
    ap (λ (x : Expr-F Expr). is_union x.form)
    (out-roll-Expr (record { construct = (out-Expr b).construct; deep = (out-Expr b).deep; form = (out-Expr b).form; parts = (out-Expr b).parts ++ e ∷ [] }))
    ∙ h
filtered_form m false b e h = plain_form m kind.Filter form.Filter (b ∷ e ∷ []) refl

level_low : (o : Operator) → level o ≤ 15
level_low operator.Or = omega arith
level_low operator.And = omega arith
level_low (operator.Compare op general) = omega arith
level_low operator.Concat = omega arith
level_low operator.Range = omega arith
level_low (operator.Arith arith_op.Add) = omega arith
level_low (operator.Arith arith_op.Sub) = omega arith
level_low (operator.Arith op) = omega arith
level_low operator.Union = omega arith
level_low operator.Map = omega arith
level_low operator.Slash = omega arith
level_low operator.DoubleSlash = omega arith

-- a step with its predicates is no union
step_form : (m : Meaning) (t : Tree) → Fits true 16 t → is_union (form_of (says m t)) ≡ false
step_form m (literal p) f = absurd (false≢true (sym f))
step_form m dot f = absurd (false≢true (sym f))
step_form m parent f = absurd (false≢true (sym f))
step_form m root f = plain_form m kind.Root form.Root [] refl
step_form m (variable w p) f = absurd (false≢true (sym f))
step_form m (step pre t) f = plain_form m kind.Step (form.Step (step_axis pre t) (node_test_of m t)) [] refl
step_form m empty f = absurd (false≢true (sym f))
step_form m (parens e) f = absurd (false≢true (sym f.0))
step_form m (call w p) f = absurd (false≢true (sym f.0))
step_form m (called w p e) f = absurd (false≢true (sym f.0))
step_form m (filter b e) f = filtered_form m (takes_more b) (says m b) (says m e) (step_form m b f.0)
step_form m (comma a b) f = absurd (false≢true (sym f.0))
step_form m (prefixed o e) f = begun_form m o (says m e)
step_form m (binary a l o b) f = let h : 16 ≤ level o = f.2 in absurd (omega (arith, h, level_low o))
step_form m (cast e k p q w r optional) f = absurd (false≢true (sym f.0))
step_form m (choice p c q t r e) f = absurd (false≢true (sym f.0))
step_form m (bind bs l e) f = absurd (false≢true (sym f.0))

-- an expression that is no union is the one alternative
pub one_alternative : (m : Meaning) (t : Tree) → is_union (form_of (says m t)) ≡ false → says m t ∷ [] ≡ alternatives m t
one_alternative m (binary a l operator.Union b) h =
    absurd (false≢true (sym h ∙ ap is_union (made_form m kind.Union form.Union (says m a ∷ says m b ∷ []))))
one_alternative m t h = refl

-- a union is that of the alternatives in front of the last one and of that
record IsPair (m : Meaning) (t : Tree) : Type 0 where
  front : Tree
  last : Tree
  floor : ℕ
  fits : Fits true floor front
  parts : (out-Expr (says m t)).parts ≡ says m front ∷ says m last ∷ []
  are : alternatives m t ≡ alternatives m front ++ says m last ∷ []

apart : {X : Type 0} (b : Bool) → b ≡ false → b ≡ true → X
apart b h k = absurd (false≢true (sym h ∙ k))

no_pair : {X : Type 0} (m : Meaning) (k : ConstructKind) (f : ExprForm) (es : List Expr) → is_union f ≡ false → is_union (form_of (made m k f es)) ≡ true → X
no_pair m k f es p h = apart (is_union (form_of (made m k f es))) (plain_form m k f es p) h

pair : (m : Meaning) (n : ℕ) (t : Tree) → Fits true n t → is_union (form_of (says m t)) ≡ true → IsPair m t
pair m n (literal p) f h = absurd (false≢true (sym f))
pair m n dot f h = absurd (false≢true (sym f))
pair m n parent f h = absurd (false≢true (sym f))
pair m n root f h = apart (is_union (form_of (root_of m))) (plain_form m kind.Root form.Root [] refl) h
pair m n (variable w p) f h = absurd (false≢true (sym f))
pair m n (step pre t) f h =
    apart (is_union (form_of (says m (step pre t)))) (plain_form m kind.Step (form.Step (step_axis pre t) (node_test_of m t)) [] refl) h
pair m n empty f h = absurd (false≢true (sym f))
pair m n (parens e) f h = absurd (false≢true (sym f.0))
pair m n (call w p) f h = absurd (false≢true (sym f.0))
pair m n (called w p e) f h = absurd (false≢true (sym f.0))
pair m n (filter b e) f h =
    apart (is_union (form_of (filtered m (takes_more b) (says m b) (says m e)))) (filtered_form m (takes_more b) (says m b) (says m e) (step_form m b f.0)) h
pair m n (comma a b) f h = absurd (false≢true (sym f.0))
pair m n (prefixed o e) f h = apart (is_union (form_of (begun_by m o (says m e)))) (begun_form m o (says m e)) h
pair m n (binary a l operator.Union b) f h =
    record { front = a; last = b; floor = 9; fits = f.3; parts = made_parts m kind.Union form.Union (says m a ∷ says m b ∷ []); are = refl }
pair m n (binary a l operator.Or b) f h = no_pair m kind.Or form.Or (says m a ∷ says m b ∷ []) refl h
pair m n (binary a l operator.And b) f h = no_pair m kind.And form.And (says m a ∷ says m b ∷ []) refl h
pair m n (binary a l (operator.Compare op general) b) f h = no_pair m kind.Compare (form.Compare op general) (says m a ∷ says m b ∷ []) refl h
pair m n (binary a l operator.Concat b) f h = no_pair m kind.Concat form.Concat (says m a ∷ says m b ∷ []) refl h
pair m n (binary a l operator.Range b) f h = no_pair m kind.Range form.Range (says m a ∷ says m b ∷ []) refl h
pair m n (binary a l (operator.Arith op) b) f h = no_pair m kind.Arith (form.Arith op) (says m a ∷ says m b ∷ []) refl h
pair m n (binary a l operator.Map b) f h = no_pair m kind.Map form.Map (says m a ∷ says m b ∷ []) refl h
pair m n (binary a l operator.Slash b) f h = no_pair m kind.Path (form.Path false) (says m a ∷ says m b ∷ []) refl h
pair m n (binary a l operator.DoubleSlash b) f h = no_pair m kind.Path (form.Path false) (says m a ∷ deepened (says m b) ∷ []) refl h
pair m n (cast e k p q w r optional) f h = absurd (false≢true (sym f.0))
pair m n (choice p c q t r e) f h = absurd (false≢true (sym f.0))
pair m n (bind bs l e) f h = absurd (false≢true (sym f.0))

pair_of : (m : Meaning) (n : ℕ) (t : Tree) (e : Expr) → Fits true n t → e ≡ says m t → is_union (form_of e) ≡ true → IsPair m t
pair_of m n t e f q h = pair m n t f (ap (λ (x : Expr). is_union (form_of x)) (sym q) ∙ h)

parts_of : (m : Meaning) (n : ℕ) (t : Tree) (e : Expr) → (f : Fits true n t) → (q : e ≡ says m t) → (h : is_union (form_of e) ≡ true) →
    says m (pair_of m n t e f q h).front ∷ says m (pair_of m n t e f q h).last ∷ [] ≡ (out-Expr e).parts
parts_of m n t e f q h = sym (pair_of m n t e f q h).parts ∙ ap (λ (x : Expr). (out-Expr x).parts) (sym q)

pub no_union : (m : Meaning) (t : Tree) (e : Expr) → e ≡ says m t → is_union (form_of e) ≡ false → e ∷ [] ≡ alternatives m t
no_union m t e q h = ap (λ (x : Expr). x ∷ []) q ∙ one_alternative m t (ap (λ (x : Expr). is_union (form_of x)) (sym q) ∙ h)

pub union_front : (m : Meaning) (n : ℕ) (t : Tree) (e front last : Expr) (rest found : List Expr) → Fits true n t → e ≡ says m t → is_union (form_of e) ≡ true →
    (out-Expr e).parts ≡ (rest ++ front ∷ []) ++ last ∷ [] → ((k : ℕ) (u : Tree) → Fits true k u → front ≡ says m u → found ≡ alternatives m u) →
    found ++ last ∷ [] ≡ alternatives m t
union_front m n t e front last rest found f q h parts known =
    let p = pair_of m n t e f q h in
    let a = same_from_push (says m p.front ∷ []) (rest ++ front ∷ []) (says m p.last) last (parts_of m n t e f q h ∙ parts) in
    let b = same_from_push [] rest (says m p.front) front a.0 in
    ap (λ (es : List Expr). es ++ last ∷ []) (known p.floor p.front p.fits (sym b.1))
    ∙ ap (λ (x : Expr). alternatives m p.front ++ x ∷ []) (sym a.1)
    ∙ sym p.are

-- a union has two parts
pub union_parts : (m : Meaning) (n : ℕ) (t : Tree) (e : Expr) → Fits true n t → e ≡ says m t → is_union (form_of e) ≡ true → length (out-Expr e).parts ≡ 2
union_parts m n t e f q h = sym (ap length (parts_of m n t e f q h))
