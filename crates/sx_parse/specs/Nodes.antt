-- A derivation as a list: operands before what joins them.
use Rattle.std.specs.Prelude.{Bool, true, false, List, [], ◌∷◌, ◌++◌}
use Rattle.sx_parse.specs.declared.nodes.Node.{Node}
use Rattle.sx_parse.specs.declared.nodes.Node.TheVariants as node
use Rattle.sx_parse.specs.Grammar.{Tree, literal, dot, parent, root, variable, step, empty, parens, call, called, filter, comma, prefixed, binary, cast, choice, bind, Bindings, first, also, binder_of}

-- whether one more predicate belongs to this: a step, or what has predicates
abbrev pub takes_more : Tree → Bool
takes_more parent = true
takes_more (step pre t) = true
takes_more (filter b e) = true
takes_more t = false

-- the names of bindings, the last first
abbrev pub name_nodes : Bindings → List Node
name_nodes (first k p w r l a) = node.Bind k r ∷ []
name_nodes (also bs w r l a) = node.Bind (binder_of bs) r ∷ name_nodes bs

abbrev mutual
  pub nodes : Tree → List Node
  nodes (literal p) = node.Literal p ∷ []
  nodes dot = node.Dot ∷ []
  nodes parent = node.Parent ∷ []
  nodes root = node.Root ∷ []
  nodes (variable w p) = node.Variable p ∷ []
  nodes (step pre t) = node.Step pre t ∷ []
  nodes empty = node.Empty ∷ []
  nodes (parens e) = nodes e ++ node.Parens ∷ []
  nodes (call w p) = node.Call p ∷ []
  nodes (called w p e) = nodes e ++ node.Called p ∷ []
  nodes (filter b e) = nodes b ++ nodes e ++ node.Filter (takes_more b) ∷ []
  nodes (comma a b) = nodes a ++ nodes b ++ node.Comma ∷ []
  nodes (prefixed o e) = nodes e ++ node.Prefix o ∷ []
  nodes (binary a l o b) = nodes a ++ nodes b ++ node.Binary o ∷ []
  nodes (cast e k p q w r optional) = nodes e ++ node.Cast k r optional ∷ []
  nodes (choice p c q t r e) = nodes c ++ nodes t ++ nodes e ++ node.Choice ∷ []
  nodes (bind bs l e) = value_nodes bs ++ nodes e ++ name_nodes bs

  pub value_nodes : Bindings → List Node
  value_nodes (first k p w r l a) = nodes a
  value_nodes (also bs w r l a) = value_nodes bs ++ nodes a
