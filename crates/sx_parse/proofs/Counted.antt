-- How many constructs an expression has, by the nodes and the tokens of its derivation.
use Rattle.std.proofs.Common.{◌≡◌, ℕ, suc, ◌+◌, ◌*◌, ◌≤◌, Bool, true, false, List, [], ◌∷◌, ◌++◌, length, map, None, ap, sym, ◌∙◌, subst, arith, length-append}
use Rattle.sx_kinds.specs.declared.constructs.ConstructKind.{ConstructKind}
use Rattle.sx_kinds.specs.declared.constructs.ConstructKind.TheVariants as kind
use Rattle.sx_atoms.specs.declared.arithmetic.ArithOp.TheVariants as arith_op
use Rattle.sx_kinds.specs.declared.expressions.Deep.TheVariants as deep
use Rattle.sx_kinds.specs.declared.expressions.Expr.{Expr}
use Rattle.sx_kinds.specs.declared.expressions.Expr.TheFolds.{fold_out-Expr, fold-roll-Expr, ind-Expr}
use Rattle.sx_kinds.specs.declared.expressions.Expr.TheOpen.{Expr-F}
use Rattle.sx_kinds.specs.declared.expressions.Expr.TheViews.{out-Expr, roll-Expr}
use Rattle.sx_kinds.specs.declared.expressions.ExprForm.{ExprForm}
use Rattle.sx_kinds.specs.declared.expressions.ExprForm.TheVariants as form
use Rattle.sx_atoms.specs.declared.atoms.AtomType.{AtomType}
use Rattle.sx_tree.specs.declared.steps.Axis.TheVariants as axis
use Rattle.sx_tree.specs.declared.steps.NodeTest.TheVariants as node_test
use Rattle.sx_parse.specs.declared.lexemes.Operator.{Operator}
use Rattle.sx_parse.specs.declared.lexemes.Operator.TheVariants as operator
use Rattle.sx_parse.specs.declared.lexemes.Binder.{Binder}
use Rattle.sx_parse.specs.declared.lexemes.Binder.TheVariants as binder
use Rattle.sx_parse.specs.declared.lexemes.Casting.{Casting}
use Rattle.sx_parse.specs.declared.lexemes.Casting.TheVariants as casting
use Rattle.sx_parse.specs.declared.lexemes.Lexeme.TheVariants as lexeme
use Rattle.sx_parse.specs.declared.lexemes.Mark.TheVariants as mark
use Rattle.sx_parse.specs.declared.lexemes.Word.TheVariants as word
use Rattle.sx_parse.specs.declared.lexemes.Test.{Test}
use Rattle.sx_parse.specs.declared.lexemes.Test.TheVariants as test
use Rattle.sx_parse.specs.declared.nodes.Node.{Node}
use Rattle.sx_parse.specs.declared.nodes.Node.TheVariants as node
use Rattle.sx_parse.specs.Grammar.{Tree, literal, dot, parent, root, variable, step, empty, parens, call, called, filter, comma, prefixed, binary, cast, choice, bind, Bindings, first, also, binder_of, tokens, binding_tokens, prefix_tokens, test_tokens, question_tokens}
use Rattle.sx_parse.specs.Nodes.{takes_more, nodes, value_nodes, name_nodes}
use Rattle.sx_parse.specs.Numbered.{Numbers, counts, construct_count, step_count, is_path, numbers_in, numbers_with}
use Rattle.sx_parse.specs.Says.{Meaning, made, deepened, with_part, joined_by, begun_by, cast_by, bound_by, filtered, whole_expression, operands, bound_in, says, number_at, type_named_at, root_of, call_of, called_function, any_type, literal_atom, step_axis, node_test_of, alternatives}

-- ---- the constructs of expressions by their parts

-- how many are in expressions one behind another
abbrev pub count_all : List Expr → ℕ
count_all es = counts false (map numbers_in es)

counts_append : (outside : Bool) (es fs : List Expr) → counts outside (map numbers_in (es ++ fs)) ≡ counts outside (map numbers_in es) + counts outside (map numbers_in fs)
counts_append outside [] fs = omega arith
counts_append outside (e ∷ es) fs = omega (arith, counts_append outside es fs)

all_append : (es fs : List Expr) → count_all (es ++ fs) ≡ count_all es + count_all fs
all_append es fs = counts_append false es fs

made_count : (m : Meaning) (k : ConstructKind) (f : ExprForm) (es : List Expr) → construct_count (made m k f es) ≡ suc (count_all es)
made_count m k f es =
    ap (λ (n : Bool → Numbers). (n false).count)
    (fold-roll-Expr (Bool → Numbers) numbers_with (record { construct = record { number = 0; line = m.line; kind = k }; deep = deep.No; form = f; parts = es }))

made_one : (m : Meaning) (k : ConstructKind) (f : ExprForm) (e : Expr) → construct_count (made m k f (e ∷ [])) ≡ suc (construct_count e)
made_one m k f e = omega (arith, made_count m k f (e ∷ []))

made_two : (m : Meaning) (k : ConstructKind) (f : ExprForm) (a b : Expr) → construct_count (made m k f (a ∷ b ∷ [])) ≡ suc (construct_count a + construct_count b)
made_two m k f a b = omega (arith, made_count m k f (a ∷ b ∷ []))

out_count : (e : Expr) → construct_count e ≡ suc (count_all (out-Expr e).parts)
out_count e = ap (λ (n : Bool → Numbers). (n false).count) (fold_out-Expr (Bool → Numbers) numbers_with e)

deepened_count : (e : Expr) → construct_count (deepened e) ≡ construct_count e
deepened_count e =
    ap (λ (n : Bool → Numbers). (n false).count)
    (fold-roll-Expr (Bool → Numbers) numbers_with
    (record { construct = (out-Expr e).construct; deep = deep.Written; form = (out-Expr e).form; parts = (out-Expr e).parts }))
    ∙ sym (out_count e)

part_count : (e p : Expr) → construct_count (with_part e p) ≡ construct_count e + construct_count p
part_count e p =
    let l : construct_count (with_part e p) ≡ suc (count_all ((out-Expr e).parts ++ p ∷ [])) =
    ap (λ (n : Bool → Numbers). (n false).count)
    (fold-roll-Expr (Bool → Numbers) numbers_with
    (record { construct = (out-Expr e).construct; deep = (out-Expr e).deep; form = (out-Expr e).form; parts = (out-Expr e).parts ++ p ∷ [] })) in
    omega (arith, l, out_count e, all_append (out-Expr e).parts (p ∷ []))

joined_count : (m : Meaning) (o : Operator) (a b : Expr) → construct_count (joined_by m o a b) ≡ suc (construct_count a + construct_count b)
joined_count m operator.Or a b = made_two m kind.Or form.Or a b
joined_count m operator.And a b = made_two m kind.And form.And a b
joined_count m (operator.Compare op general) a b = made_two m kind.Compare (form.Compare op general) a b
joined_count m operator.Concat a b = made_two m kind.Concat form.Concat a b
joined_count m operator.Range a b = made_two m kind.Range form.Range a b
joined_count m (operator.Arith op) a b = made_two m kind.Arith (form.Arith op) a b
joined_count m operator.Union a b = made_two m kind.Union form.Union a b
joined_count m operator.Map a b = made_two m kind.Map form.Map a b
joined_count m operator.Slash a b = made_two m kind.Path (form.Path false) a b
joined_count m operator.DoubleSlash a b = omega (arith, made_two m kind.Path (form.Path false) a (deepened b), deepened_count b)

begun_count : (m : Meaning) (o : Operator) (e : Expr) → construct_count (begun_by m o e) ≤ 2 + construct_count e
begun_count m operator.Slash e = omega (arith, joined_count m operator.Slash (root_of m) e, made_count m kind.Root form.Root [])
begun_count m operator.DoubleSlash e = omega (arith, joined_count m operator.DoubleSlash (root_of m) e, made_count m kind.Root form.Root [])
begun_count m (operator.Arith arith_op.Sub) e = omega (arith, made_one m kind.Unary (form.Unary true) e)
begun_count m o e = omega (arith, made_one m kind.Unary (form.Unary false) e)

cast_count : (m : Meaning) (k : Casting) (t : AtomType) (optional : Bool) (e : Expr) → construct_count (cast_by m k t optional e) ≡ suc (construct_count e)
cast_count m casting.Castable t optional e = made_one m kind.Castable (form.Castable t optional) e
cast_count m casting.Cast t optional e = made_one m kind.Cast (form.Cast t optional) e

bound_count : (m : Meaning) (k : Binder) (n : ℕ) (a e : Expr) → construct_count (bound_by m k n a e) ≡ suc (construct_count a + construct_count e)
bound_count m binder.For n a e = made_two m kind.For (form.For n) a e
bound_count m binder.Let n a e = made_two m kind.Let (form.Let n) a e
bound_count m binder.Some n a e = made_two m kind.Some (form.Some n) a e
bound_count m binder.Every n a e = made_two m kind.Every (form.Every n) a e

filtered_count : (m : Meaning) (more : Bool) (b e : Expr) → construct_count (filtered m more b e) ≤ suc (construct_count b + construct_count e)
filtered_count m true b e = omega (arith, part_count b e)
filtered_count m false b e = omega (arith, made_two m kind.Filter form.Filter b e)

whole_count : (m : Meaning) (es : List Expr) → construct_count (whole_expression m es) ≤ suc (count_all es)
whole_count m [] = omega (arith, made_count m kind.Comma form.Comma [])
whole_count m (e ∷ []) = omega arith
whole_count m (e ∷ f ∷ es) = omega (arith, made_count m kind.Comma form.Comma (e ∷ f ∷ es))

-- ---- by the nodes

length_one : (ns : List Node) (n : Node) → length (ns ++ n ∷ []) ≡ suc (length ns)
length_one ns n = omega (arith, length-append ns (n ∷ []))

length_two : (xs ys : List Node) (n : Node) → length (xs ++ ys ++ n ∷ []) ≡ suc (length xs + length ys)
length_two xs ys n = omega (arith, length-append (xs ++ ys) (n ∷ []), length-append xs ys)

-- operands have fewer than twice as many constructs as nodes, one by one and as a whole_expression
abbrev Fewer : Meaning → List Expr → List Node → Type 0
Fewer m es ns = (suc (count_all es) ≤ 2 * length ns) × (suc (construct_count (whole_expression m es)) ≤ 2 * length ns)

fewer_one : (m : Meaning) (e : Expr) (ns : List Node) → suc (construct_count e) ≤ 2 * length ns → Fewer m (e ∷ []) ns
fewer_one m e ns h = (omega (arith, h), h)

fewer_leaf : (m : Meaning) (k : ConstructKind) (f : ExprForm) (n : Node) → Fewer m (made m k f [] ∷ []) (n ∷ [])
fewer_leaf m k f n = fewer_one m (made m k f []) (n ∷ []) (omega (arith, made_count m k f []))

mutual
  fewer : (m : Meaning) (t : Tree) → Fewer m (operands m t) (nodes t)
  fewer m (literal p) = fewer_leaf m kind.LiteralValue (form.Literal (literal_atom m p)) (node.Literal p)
  fewer m dot = fewer_leaf m kind.Dot form.Dot node.Dot
  fewer m parent = fewer_leaf m kind.Step (form.Step axis.Parent node_test.Node) node.Parent
  fewer m root = fewer_leaf m kind.Root form.Root node.Root
  fewer m (variable w p) = fewer_leaf m kind.Var (form.Var (number_at m p) any_type) (node.Variable p)
  fewer m (step pre t) = fewer_leaf m kind.Step (form.Step (step_axis pre t) (node_test_of m t)) (node.Step pre t)
  fewer m empty = fewer_leaf m kind.Empty form.Empty node.Empty
  fewer m (parens e) =
      let h = fewer m e in
      fewer_one m (whole_expression m (operands m e)) (nodes e ++ node.Parens ∷ []) (omega (arith, h.1, length_one (nodes e) node.Parens))
  fewer m (call w p) = fewer_leaf m kind.Call (form.Call (called_function m p) any_type None) (node.Call p)
  fewer m (called w p e) =
      let h = fewer m e in
      fewer_one m (call_of m p (operands m e)) (nodes e ++ node.Called p ∷ [])
      (omega (arith, h.0, length_one (nodes e) (node.Called p), made_count m kind.Call (form.Call (called_function m p) any_type None) (operands m e)))
  fewer m (filter b e) =
      let h = fewer m b in
      let k = fewer m e in
      fewer_one m (filtered m (takes_more b) (whole_expression m (operands m b)) (whole_expression m (operands m e))) (nodes b ++ nodes e ++ node.Filter (takes_more b) ∷ [])
      (omega (arith, h.1, k.1, length_two (nodes b) (nodes e) (node.Filter (takes_more b)), filtered_count m (takes_more b) (whole_expression m (operands m b)) (whole_expression m (operands m e))))
  fewer m (comma a b) =
      let h = fewer m a in
      let k = fewer m b in
      let l = all_append (operands m a) (whole_expression m (operands m b) ∷ []) in
      let n = length_two (nodes a) (nodes b) node.Comma in
      (omega (arith, h.0, k.1, l, n), omega (arith, h.0, k.1, l, n, whole_count m (operands m a ++ whole_expression m (operands m b) ∷ [])))
  fewer m (prefixed o e) =
      let h = fewer m e in
      fewer_one m (begun_by m o (whole_expression m (operands m e))) (nodes e ++ node.Prefix o ∷ [])
      (omega (arith, h.1, length_one (nodes e) (node.Prefix o), begun_count m o (whole_expression m (operands m e))))
  fewer m (binary a l o b) =
      let h = fewer m a in
      let k = fewer m b in
      fewer_one m (joined_by m o (whole_expression m (operands m a)) (whole_expression m (operands m b))) (nodes a ++ nodes b ++ node.Binary o ∷ [])
      (omega (arith, h.1, k.1, length_two (nodes a) (nodes b) (node.Binary o), joined_count m o (whole_expression m (operands m a)) (whole_expression m (operands m b))))
  fewer m (cast e k p q w r optional) =
      let h = fewer m e in
      fewer_one m (cast_by m k (type_named_at m r) optional (whole_expression m (operands m e))) (nodes e ++ node.Cast k r optional ∷ [])
      (omega (arith, h.1, length_one (nodes e) (node.Cast k r optional), cast_count m k (type_named_at m r) optional (whole_expression m (operands m e))))
  fewer m (choice p c q t r e) =
      let h = fewer m c in
      let k = fewer m t in
      let l = fewer m e in
      fewer_one m (made m kind.If form.If (whole_expression m (operands m c) ∷ whole_expression m (operands m t) ∷ whole_expression m (operands m e) ∷ [])) (nodes c ++ nodes t ++ nodes e ++ node.Choice ∷ [])
      (omega (
        arith,
        h.1,
        k.1,
        l.1,
        length_two (nodes c ++ nodes t) (nodes e) node.Choice,
        length-append (nodes c) (nodes t),
        made_count m kind.If form.If (whole_expression m (operands m c) ∷ whole_expression m (operands m t) ∷ whole_expression m (operands m e) ∷ []),
      ))
  fewer m (bind bs l e) =
      let h = fewer m e in
      fewer_one m (bound_in m bs (whole_expression m (operands m e))) (value_nodes bs ++ nodes e ++ name_nodes bs)
      (omega (arith, h.1, bound_fewer m bs (whole_expression m (operands m e)), length-append (value_nodes bs ++ nodes e) (name_nodes bs), length-append (value_nodes bs) (nodes e)))

  bound_fewer : (m : Meaning) (bs : Bindings) (e : Expr) → construct_count (bound_in m bs e) ≤ 2 * length (value_nodes bs) + construct_count e
  bound_fewer m (first k p w r l a) e =
      let h = fewer m a in
      omega (arith, h.1, bound_count m k (number_at m r) (whole_expression m (operands m a)) e)
  bound_fewer m (also bs w r l a) e =
      let h = fewer m a in
      omega (
        arith,
        h.1,
        bound_count m (binder_of bs) (number_at m r) (whole_expression m (operands m a)) e,
        length-append (value_nodes bs) (nodes a),
        bound_fewer m bs (bound_by m (binder_of bs) (number_at m r) (whole_expression m (operands m a)) e),
      )

-- an expression has fewer than twice as many constructs as its derivation has nodes
pub count_by_nodes : (m : Meaning) (t : Tree) → suc (construct_count (says m t)) ≤ 2 * length (nodes t)
count_by_nodes m t = (fewer m t).1

-- ---- by the tokens

test_one : (t : Test) → 1 ≤ length (test_tokens t)
test_one (test.Named w p) = omega arith
test_one test.Any = omega arith
test_one (test.Wild p) = omega arith
test_one (test.Kind k p) = omega arith
test_one (test.KindOf k p w q) = omega arith

mutual
  -- a derivation has no more nodes than tokens
  pub nodes_by_tokens : (t : Tree) → length (nodes t) ≤ length (tokens t)
  nodes_by_tokens (literal p) = omega arith
  nodes_by_tokens dot = omega arith
  nodes_by_tokens parent = omega arith
  nodes_by_tokens root = omega arith
  nodes_by_tokens (variable w p) = omega arith
  nodes_by_tokens (step pre t) = omega (arith, length-append (prefix_tokens pre) (test_tokens t), test_one t)
  nodes_by_tokens empty = omega arith
  nodes_by_tokens (parens e) =
      omega (arith, nodes_by_tokens e, length_one (nodes e) node.Parens, length-append (tokens e) (lexeme.Mark mark.Close ∷ []))
  nodes_by_tokens (call w p) = omega arith
  nodes_by_tokens (called w p e) =
      omega (arith, nodes_by_tokens e, length_one (nodes e) (node.Called p), length-append (tokens e) (lexeme.Mark mark.Close ∷ []))
  nodes_by_tokens (filter b e) =
      omega (
        arith,
        nodes_by_tokens b,
        nodes_by_tokens e,
        length_two (nodes b) (nodes e) (node.Filter (takes_more b)),
        length-append (tokens b ++ lexeme.Mark mark.OpenBracket ∷ tokens e) (lexeme.Mark mark.CloseBracket ∷ []),
        length-append (tokens b) (lexeme.Mark mark.OpenBracket ∷ tokens e),
      )
  nodes_by_tokens (comma a b) =
      omega (arith, nodes_by_tokens a, nodes_by_tokens b, length_two (nodes a) (nodes b) node.Comma, length-append (tokens a) (lexeme.Mark mark.Comma ∷ tokens b))
  nodes_by_tokens (prefixed o e) = omega (arith, nodes_by_tokens e, length_one (nodes e) (node.Prefix o))
  nodes_by_tokens (binary a l o b) =
      omega (arith, nodes_by_tokens a, nodes_by_tokens b, length_two (nodes a) (nodes b) (node.Binary o), length-append (tokens a) (l ∷ tokens b))
  nodes_by_tokens (cast e k p q w r optional) =
      omega (
        arith,
        nodes_by_tokens e,
        length_one (nodes e) (node.Cast k r optional),
        length-append (tokens e) (lexeme.Name (word.Casting k) p ∷ lexeme.Name word.As q ∷ lexeme.Name w r ∷ question_tokens optional),
      )
  nodes_by_tokens (choice p c q t r e) =
      omega (
        arith,
        nodes_by_tokens c,
        nodes_by_tokens t,
        nodes_by_tokens e,
        length_two (nodes c ++ nodes t) (nodes e) node.Choice,
        length-append (nodes c) (nodes t),
        length-append (tokens c) (lexeme.Mark mark.Close ∷ lexeme.Name word.Then q ∷ tokens t),
        length-append (lexeme.Name word.If p ∷ lexeme.Mark mark.Open ∷ tokens c ++ lexeme.Mark mark.Close ∷ lexeme.Name word.Then q ∷ tokens t) (lexeme.Name word.Else r ∷ tokens e),
      )
  nodes_by_tokens (bind bs l e) =
      omega (
        arith,
        nodes_by_tokens e,
        names_by_tokens bs,
        length-append (value_nodes bs ++ nodes e) (name_nodes bs),
        length-append (value_nodes bs) (nodes e),
        length-append (binding_tokens bs) (l ∷ tokens e),
      )

  names_by_tokens : (bs : Bindings) → length (value_nodes bs) + length (name_nodes bs) ≤ length (binding_tokens bs)
  names_by_tokens (first k p w r l a) = omega (arith, nodes_by_tokens a)
  names_by_tokens (also bs w r l a) =
      omega (
        arith,
        nodes_by_tokens a,
        names_by_tokens bs,
        length-append (value_nodes bs) (nodes a),
        length-append (binding_tokens bs) (lexeme.Mark mark.Comma ∷ lexeme.Mark mark.Dollar ∷ lexeme.Name w r ∷ l ∷ tokens a),
      )

-- an expression has fewer than twice as many constructs as its derivation has tokens
pub count_by_tokens : (m : Meaning) (t : Tree) → suc (construct_count (says m t)) ≤ 2 * length (tokens t)
count_by_tokens m t = omega (arith, count_by_nodes m t, nodes_by_tokens t)

-- ---- patterns

abbrev HasFewSteps : Expr → Type 0
HasFewSteps e = step_count e ≤ construct_count e

few_in_all : (es : List ((e : Expr) × HasFewSteps e)) → counts true (map numbers_in (map (λ e. e.0) es)) ≤ counts false (map numbers_in (map (λ e. e.0) es))
few_in_all [] = omega arith
few_in_all (e ∷ es) = omega (arith, e.1, few_in_all es)

few_by_flag : (outside : Bool) (ps : List (Bool → Numbers)) → counts true ps ≤ counts false ps → counts outside ps ≤ counts false ps
few_by_flag true ps h = h
few_by_flag false ps h = omega arith

rolled_steps : (x : Expr-F Expr) → step_count (roll-Expr x) ≡ counts (is_path x.form) (map numbers_in x.parts)
rolled_steps x = ap (λ (n : Bool → Numbers). (n true).count) (fold-roll-Expr (Bool → Numbers) numbers_with x)

rolled_count : (x : Expr-F Expr) → construct_count (roll-Expr x) ≡ suc (counts false (map numbers_in x.parts))
rolled_count x = ap (λ (n : Bool → Numbers). (n false).count) (fold-roll-Expr (Bool → Numbers) numbers_with x)

-- as a part of a pattern an expression has no more numbers
few_steps : (e : Expr) → HasFewSteps e
few_steps = ind-Expr HasFewSteps (λ x y is.
    let inner = subst (λ z. counts true (map numbers_in z.parts) ≤ counts false (map numbers_in z.parts)) is (few_in_all y.parts) in
    omega (arith, rolled_steps x, rolled_count x, few_by_flag (is_path x.form) (map numbers_in x.parts) inner))

alternatives_count : (m : Meaning) (t : Tree) → counts true (map numbers_in (alternatives m t)) ≤ construct_count (says m t)
alternatives_count m (binary a l operator.Union b) =
    omega (arith, alternatives_count m a, few_steps (says m b), counts_append true (alternatives m a) (says m b ∷ []), joined_count m operator.Union (says m a) (says m b))
alternatives_count m t = omega (arith, few_steps (says m t))

-- the alternatives of a pattern have fewer than twice as many numbers as its derivation has tokens
pub pattern_count : (m : Meaning) (t : Tree) → suc (counts true (map numbers_in (alternatives m t))) ≤ 2 * length (tokens t)
pattern_count m t = omega (arith, alternatives_count m t, count_by_tokens m t)
