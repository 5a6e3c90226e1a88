-- What the machine has read so far: the roles of its tokens, and its complete operands.
use Rattle.std.specs.Prelude.{ℕ, suc, List, [], ◌∷◌, ◌++◌}
use Rattle.sx_parse.specs.declared.nodes.Node.{Node}
use Rattle.sx_parse.specs.declared.roles.Role.{Role}
use Rattle.sx_parse.specs.declared.roles.Role.TheVariants as role
use Rattle.sx_parse.specs.Machine.{Given, begun, behind, Stack, bottom, pending, more, signed, paren, arguments, predicate, condition, branch, otherwise, binding, body, State, want, fresh, slash, named, dollar, axis, kind, kind_name, have, comma_bound, binder_dollar, binder_name, casting, casting_as, conditioned}
use Rattle.sx_parse.specs.Nodes.{nodes, value_nodes}
use Rattle.sx_parse.specs.Roles.{roles, binding_roles, bound_depth, prefix_roles, inner_role}

-- how many things are open with the binding that has begun, where so many are before the bindings
abbrev pub given_depth : ℕ → Given → ℕ
given_depth n (begun k p) = suc n
given_depth n (behind bs) = suc (bound_depth n bs)

-- how many things are open
abbrev pub depth : Stack → ℕ
depth (bottom p) = 0
depth (pending a l o s) = depth s
depth (more a s) = depth s
depth (signed o s) = depth s
depth (paren s) = suc (depth s)
depth (arguments w p s) = suc (depth s)
depth (predicate b s) = suc (depth s)
depth (condition p s) = suc (suc (depth s))
depth (branch p c q s) = suc (depth s)
depth (otherwise p c q t r s) = suc (depth s)
depth (binding g w r l s) = given_depth (depth s) g
depth (body bs l s) = bound_depth (depth s) bs

-- the tokens of bindings up to a `$`
abbrev pub given_roles : ℕ → Given → List Role
given_roles n (begun k p) = role.Opens (suc n) ∷ role.Plain ∷ []
given_roles n (behind bs) = binding_roles n bs ++ role.Plain ∷ role.Opens (suc (bound_depth n bs)) ∷ []

abbrev pub stack_roles : Stack → List Role
stack_roles (bottom p) = []
stack_roles (pending a l o s) = stack_roles s ++ roles (depth s) a ++ role.Plain ∷ []
stack_roles (more a s) = stack_roles s ++ roles (depth s) a ++ role.Plain ∷ []
stack_roles (signed o s) = stack_roles s ++ role.Plain ∷ []
stack_roles (paren s) = stack_roles s ++ role.Opens (suc (depth s)) ∷ []
stack_roles (arguments w p s) = stack_roles s ++ role.Function ∷ role.Opens (suc (depth s)) ∷ []
stack_roles (predicate b s) = stack_roles s ++ roles (depth s) b ++ role.Opens (suc (depth s)) ∷ []
stack_roles (condition p s) = stack_roles s ++ role.Opens (suc (depth s)) ∷ role.Opens (suc (suc (depth s))) ∷ []
stack_roles (branch p c q s) =
    stack_roles s ++ role.Opens (suc (depth s)) ∷ role.Opens (suc (suc (depth s))) ∷ roles (suc (suc (depth s))) c ++ role.Plain ∷ role.Plain ∷ []
stack_roles (otherwise p c q t r s) =
    stack_roles s ++ role.Opens (suc (depth s)) ∷ role.Opens (suc (suc (depth s))) ∷ roles (suc (suc (depth s))) c ++ role.Plain ∷ role.Plain
    ∷ roles (suc (depth s)) t ++ role.Plain ∷ []
stack_roles (binding g w r l s) = stack_roles s ++ given_roles (depth s) g ++ role.Name ∷ role.Plain ∷ []
stack_roles (body bs l s) = stack_roles s ++ binding_roles (depth s) bs ++ role.Plain ∷ []

-- the roles of the tokens that were read, where a name is one of a test as long as nothing else says otherwise
abbrev pub state_roles : State → List Role
state_roles (want s) = stack_roles s
state_roles (fresh s) = stack_roles s
state_roles (slash s) = stack_roles s ++ role.Plain ∷ []
state_roles (named pre w p s) = stack_roles s ++ prefix_roles pre ++ role.Name ∷ []
state_roles (dollar s) = stack_roles s ++ role.Plain ∷ []
state_roles (axis pre s) = stack_roles s ++ prefix_roles pre
state_roles (kind pre k p s) = stack_roles s ++ prefix_roles pre ++ role.Plain ∷ role.Opens (suc (depth s)) ∷ []
state_roles (kind_name pre k p w q s) = stack_roles s ++ prefix_roles pre ++ role.Plain ∷ role.Opens (suc (depth s)) ∷ inner_role k ∷ []
state_roles (have t s) = stack_roles s ++ roles (depth s) t
state_roles (comma_bound bs s) = stack_roles s ++ binding_roles (depth s) bs ++ role.Plain ∷ []
state_roles (binder_dollar g s) = stack_roles s ++ given_roles (depth s) g
state_roles (binder_name g w r s) = stack_roles s ++ given_roles (depth s) g ++ role.Name ∷ []
state_roles (casting t k p s) = stack_roles s ++ roles (depth s) t ++ role.Plain ∷ []
state_roles (casting_as t k p q s) = stack_roles s ++ roles (depth s) t ++ role.Plain ∷ role.Plain ∷ []
state_roles (conditioned p c s) =
    stack_roles s ++ role.Opens (suc (depth s)) ∷ role.Opens (suc (suc (depth s))) ∷ roles (suc (suc (depth s))) c ++ role.Plain ∷ []

-- the values of bindings that have begun
abbrev pub given_nodes : Given → List Node
given_nodes (begun k p) = []
given_nodes (behind bs) = value_nodes bs

abbrev pub stack_nodes : Stack → List Node
stack_nodes (bottom p) = []
stack_nodes (pending a l o s) = stack_nodes s ++ nodes a
stack_nodes (more a s) = stack_nodes s ++ nodes a
stack_nodes (signed o s) = stack_nodes s
stack_nodes (paren s) = stack_nodes s
stack_nodes (arguments w p s) = stack_nodes s
stack_nodes (predicate b s) = stack_nodes s ++ nodes b
stack_nodes (condition p s) = stack_nodes s
stack_nodes (branch p c q s) = stack_nodes s ++ nodes c
stack_nodes (otherwise p c q t r s) = stack_nodes s ++ nodes c ++ nodes t
stack_nodes (binding g w r l s) = stack_nodes s ++ given_nodes g
stack_nodes (body bs l s) = stack_nodes s ++ value_nodes bs

-- what of the operands that were read is complete
abbrev pub state_nodes : State → List Node
state_nodes (want s) = stack_nodes s
state_nodes (fresh s) = stack_nodes s
state_nodes (slash s) = stack_nodes s
state_nodes (named pre w p s) = stack_nodes s
state_nodes (dollar s) = stack_nodes s
state_nodes (axis pre s) = stack_nodes s
state_nodes (kind pre k p s) = stack_nodes s
state_nodes (kind_name pre k p w q s) = stack_nodes s
state_nodes (have t s) = stack_nodes s ++ nodes t
state_nodes (comma_bound bs s) = stack_nodes s ++ value_nodes bs
state_nodes (binder_dollar g s) = stack_nodes s ++ given_nodes g
state_nodes (binder_name g w r s) = stack_nodes s ++ given_nodes g
state_nodes (casting t k p s) = stack_nodes s ++ nodes t
state_nodes (casting_as t k p q s) = stack_nodes s ++ nodes t
state_nodes (conditioned p c s) = stack_nodes s ++ nodes c
