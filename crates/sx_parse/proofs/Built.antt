-- The nodes of a derivation build its operands.
use Rattle.std.proofs.Common.{◌≡◌, List, [], ◌∷◌, ◌++◌, refl, ap, ◌∙◌}
use Rattle.sx_kinds.specs.declared.expressions.Expr.{Expr}
use Rattle.sx_parse.specs.declared.nodes.Node.{Node}
use Rattle.sx_parse.specs.declared.nodes.Node.TheVariants as node
use Rattle.sx_parse.specs.Built.{put_node, node_built}
use Rattle.sx_parse.specs.Grammar.{Tree, literal, dot, parent, root, variable, step, empty, parens, call, called, filter, comma, prefixed, binary, cast, choice, bind, Bindings, first, also, binder_of}
use Rattle.sx_parse.specs.Nodes.{takes_more, nodes, value_nodes, name_nodes}
use Rattle.sx_parse.specs.Says.{Meaning, operands, bound_in, whole_expression, bound_by, number_at}

-- the values of bindings, the last one first
abbrev values : Meaning → Bindings → List (List Expr)
values m (first k p w r l a) = operands m a ∷ []
values m (also bs w r l a) = operands m a ∷ values m bs

-- nodes behind others go on from what those build
built_append : (m : Meaning) (xs ys : List Node) (s : List (List Expr)) → node_built m (xs ++ ys) s ≡ node_built m ys (node_built m xs s)
built_append m [] ys s = refl
built_append m (x ∷ xs) ys s = built_append m xs ys (put_node m x s)

-- a node behind those of its one operand, and behind those of its two
one_put : (m : Meaning) (x : List Node) (n : Node) (s : List (List Expr)) (a : List Expr) → node_built m x s ≡ a ∷ s → node_built m (x ++ n ∷ []) s ≡ put_node m n (a ∷ s)
one_put m x n s a p = built_append m x (n ∷ []) s ∙ ap (put_node m n) p

then_built : (m : Meaning) (x y : List Node) (s u v : List (List Expr)) → node_built m x s ≡ u → node_built m y u ≡ v → node_built m (x ++ y) s ≡ v
then_built m x y s u v p q = built_append m x y s ∙ ap (node_built m y) p ∙ q

two_put : (m : Meaning) (x y : List Node) (n : Node) (s : List (List Expr)) (a b : List Expr) → node_built m x s ≡ a ∷ s → node_built m y (a ∷ s) ≡ b ∷ a ∷ s →
    node_built m (x ++ y ++ n ∷ []) s ≡ put_node m n (b ∷ a ∷ s)
two_put m x y n s a b p q = then_built m (x ++ y) (n ∷ []) s (b ∷ a ∷ s) (put_node m n (b ∷ a ∷ s)) (then_built m x y s (a ∷ s) (b ∷ a ∷ s) p q) refl

-- the names of bindings bind what is on top
name_built : (m : Meaning) (bs : Bindings) (x : List Expr) (s : List (List Expr)) →
    node_built m (name_nodes bs) (x ∷ values m bs ++ s) ≡ (bound_in m bs (whole_expression m x) ∷ []) ∷ s
name_built m (first k p w r l a) x s = refl
name_built m (also bs w r l a) x s =
    name_built m bs (bound_by m (binder_of bs) (number_at m r) (whole_expression m (operands m a)) (whole_expression m x) ∷ []) s

mutual
  -- the nodes of a derivation put_node its operands on top
  pub tree_built : (m : Meaning) (t : Tree) (s : List (List Expr)) → node_built m (nodes t) s ≡ operands m t ∷ s
  tree_built m (literal p) s = refl
  tree_built m dot s = refl
  tree_built m parent s = refl
  tree_built m root s = refl
  tree_built m (variable w p) s = refl
  tree_built m (step pre t) s = refl
  tree_built m empty s = refl
  tree_built m (parens e) s = one_put m (nodes e) node.Parens s (operands m e) (tree_built m e s)
  tree_built m (call w p) s = refl
  tree_built m (called w p e) s = one_put m (nodes e) (node.Called p) s (operands m e) (tree_built m e s)
  tree_built m (filter b e) s =
      two_put m (nodes b) (nodes e) (node.Filter (takes_more b)) s (operands m b) (operands m e) (tree_built m b s) (tree_built m e (operands m b ∷ s))
  tree_built m (comma a b) s =
      two_put m (nodes a) (nodes b) node.Comma s (operands m a) (operands m b) (tree_built m a s) (tree_built m b (operands m a ∷ s))
  tree_built m (prefixed o e) s = one_put m (nodes e) (node.Prefix o) s (operands m e) (tree_built m e s)
  tree_built m (binary a l o b) s =
      two_put m (nodes a) (nodes b) (node.Binary o) s (operands m a) (operands m b) (tree_built m a s) (tree_built m b (operands m a ∷ s))
  tree_built m (cast e k p q w r optional) s = one_put m (nodes e) (node.Cast k r optional) s (operands m e) (tree_built m e s)
  tree_built m (choice p c q t r e) s =
      let cs : List (List Expr) = operands m c ∷ s in
      let ts : List (List Expr) = operands m t ∷ cs in
      let es : List (List Expr) = operands m e ∷ ts in
      then_built m (nodes c ++ nodes t ++ nodes e) (node.Choice ∷ []) s es (put_node m node.Choice es)
      (then_built m (nodes c ++ nodes t) (nodes e) s ts es
      (then_built m (nodes c) (nodes t) s cs ts (tree_built m c s) (tree_built m t cs))
      (tree_built m e ts))
      refl
  tree_built m (bind bs l e) s =
      let vs : List (List Expr) = values m bs ++ s in
      let es : List (List Expr) = operands m e ∷ vs in
      then_built m (value_nodes bs ++ nodes e) (name_nodes bs) s es ((bound_in m bs (whole_expression m (operands m e)) ∷ []) ∷ s)
      (then_built m (value_nodes bs) (nodes e) s vs es (values_built m bs s) (tree_built m e vs))
      (name_built m bs (operands m e) s)

  values_built : (m : Meaning) (bs : Bindings) (s : List (List Expr)) → node_built m (value_nodes bs) s ≡ values m bs ++ s
  values_built m (first k p w r l a) s = tree_built m a s
  values_built m (also bs w r l a) s =
      then_built m (value_nodes bs) (nodes a) s (values m bs ++ s) (operands m a ∷ values m bs ++ s) (values_built m bs s) (tree_built m a (values m bs ++ s))

-- the same in front of other nodes
pub front_built : (m : Meaning) (t : Tree) (rest : List Node) (s : List (List Expr)) → node_built m (nodes t ++ rest) s ≡ node_built m rest (operands m t ∷ s)
front_built m t rest s = built_append m (nodes t) rest s ∙ ap (node_built m rest) (tree_built m t s)
