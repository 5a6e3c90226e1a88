-- What is joined keeps its tokens, and so its roles; its list gets what joins.
use Rattle.std.proofs.Common.{◌≡◌, ℕ, Bool, true, false, if◌then◌else◌, nat_le, List, [], ◌∷◌, ◌++◌, Some, None, refl, ap, sym, ◌∙◌, append_assoc, append-nil}
use Rattle.sx_parse.specs.declared.lexemes.Test.TheVariants as test
use Rattle.sx_parse.specs.declared.nodes.Node.{Node}
use Rattle.sx_parse.specs.declared.nodes.Node.TheVariants as node
use Rattle.sx_parse.specs.declared.roles.Role.{Role}
use Rattle.sx_parse.specs.declared.roles.Role.TheVariants as role
use Rattle.sx_parse.specs.Grammar.{level, prefix_level, Tree, root, step, comma, prefixed, binary, choice, bind}
use Rattle.sx_parse.specs.Machine.{Stack, bottom, pending, more, signed, paren, arguments, predicate, condition, branch, otherwise, binding, body, State, want, fresh, slash, named, dollar, axis, kind, kind_name, have, comma_bound, binder_dollar, binder_name, casting, casting_as, conditioned, in_pattern, floor, reaches, Reached, reached, reach, whole_under, whole, ended}
use Rattle.sx_parse.specs.Nodes.{nodes, name_nodes}
use Rattle.sx_parse.specs.Roles.{roles, prefix_roles}
use Rattle.sx_parse.specs.Standing.{depth, stack_roles, state_roles, stack_nodes, state_nodes}

-- ---- the roles

-- the roles of an operand and of what stands before it
abbrev pub reached_roles : Reached → List Role
reached_roles r = stack_roles r.under ++ roles (depth r.under) r.operand

either_roles : (b : Bool) (joined kept : Reached) (all : List Role) → reached_roles joined ≡ all → reached_roles kept ≡ all → reached_roles (if b then joined else kept) ≡ all
either_roles true joined kept all j k = j
either_roles false joined kept all j k = k

pub reach_roles : (n : ℕ) (t : Tree) (s : Stack) → reached_roles (reach n t s) ≡ stack_roles s ++ roles (depth s) t
reach_roles n t (bottom p) = refl
reach_roles n t (pending a l o s) =
    either_roles (nat_le n (level o)) (reach n (binary a l o t) s) (reached t (pending a l o s)) _ (reach_roles n (binary a l o t) s ∙ simp append_assoc) refl
reach_roles n t (more a s) = either_roles (nat_le n 0) (reach n (comma a t) s) (reached t (more a s)) _ (reach_roles n (comma a t) s ∙ simp append_assoc) refl
reach_roles n t (signed o s) =
    either_roles (nat_le n (prefix_level o)) (reach n (prefixed o t) s) (reached t (signed o s)) _ (reach_roles n (prefixed o t) s ∙ simp append_assoc) refl
reach_roles n t (otherwise i c j u k s) =
    either_roles (nat_le n 1) (reach n (choice i c j u k t) s) (reached t (otherwise i c j u k s)) _ (reach_roles n (choice i c j u k t) s ∙ simp append_assoc) refl
reach_roles n t (body bs l s) =
    either_roles (nat_le n 1) (reach n (bind bs l t) s) (reached t (body bs l s)) _ (reach_roles n (bind bs l t) s ∙ simp append_assoc) refl
reach_roles n t (paren s) = refl
reach_roles n t (arguments w p s) = refl
reach_roles n t (predicate b s) = refl
reach_roles n t (condition p s) = refl
reach_roles n t (branch i c j s) = refl
reach_roles n t (binding g w r l s) = refl

whole_roles : (t u : Tree) (s : Stack) → whole_under t s ≡ Some u → roles 0 u ≡ stack_roles s ++ roles (depth s) t
whole_roles t u (bottom p) e = let g : t ≡ u = cc in ap (roles 0) (sym g)
whole_roles t u (pending a l o s) e = absurd cc
whole_roles t u (more a s) e = absurd cc
whole_roles t u (signed o s) e = absurd cc
whole_roles t u (paren s) e = absurd cc
whole_roles t u (arguments w p s) e = absurd cc
whole_roles t u (predicate b s) e = absurd cc
whole_roles t u (condition p s) e = absurd cc
whole_roles t u (branch i c j s) e = absurd cc
whole_roles t u (otherwise i c j v k s) e = absurd cc
whole_roles t u (binding g w r l s) e = absurd cc
whole_roles t u (body bs l s) e = absurd cc

reached_whole_roles : (t u : Tree) (s : Stack) → whole (reach 0 t s) ≡ Some u → roles 0 u ≡ stack_roles s ++ roles (depth s) t
reached_whole_roles t u s e = whole_roles (reach 0 t s).operand u (reach 0 t s).under e ∙ reach_roles 0 t s

tested_roles : (b : Bool) (t u : Tree) (s : Stack) → (if b then whole (reach 0 t s) else None) ≡ Some u → roles 0 u ≡ stack_roles s ++ roles (depth s) t
tested_roles true t u s e = reached_whole_roles t u s e
tested_roles false t u s e = absurd cc

-- the roles of a whole derivation are those of the tokens that were read
pub ended_roles : (s : State) (t : Tree) → ended s ≡ Some t → roles 0 t ≡ state_roles s
ended_roles (have u s) t e = reached_whole_roles u t s e
ended_roles (named pre w p s) t e = reached_whole_roles (step pre (test.Named w p)) t s e ∙ sym (append_assoc (stack_roles s) (prefix_roles pre) (role.Name ∷ []))
ended_roles (slash s) t e = tested_roles (reaches (in_pattern s) (floor s) root) root t s e
ended_roles (want s) t e = absurd cc
ended_roles (fresh s) t e = absurd cc
ended_roles (dollar s) t e = absurd cc
ended_roles (axis pre s) t e = absurd cc
ended_roles (kind pre k p s) t e = absurd cc
ended_roles (kind_name pre k p w q s) t e = absurd cc
ended_roles (comma_bound bs s) t e = absurd cc
ended_roles (binder_dollar g s) t e = absurd cc
ended_roles (binder_name g w r s) t e = absurd cc
ended_roles (casting u k p s) t e = absurd cc
ended_roles (casting_as u k p q s) t e = absurd cc
ended_roles (conditioned p c s) t e = absurd cc

-- ---- the list

-- what joins, where an operand is joined with everything pending of a level or a later one
abbrev pub joined_nodes : ℕ → Stack → List Node
joined_nodes n (pending a l o s) = if nat_le n (level o) then node.Binary o ∷ joined_nodes n s else []
joined_nodes n (more a s) = if nat_le n 0 then node.Comma ∷ joined_nodes n s else []
joined_nodes n (signed o s) = if nat_le n (prefix_level o) then node.Prefix o ∷ joined_nodes n s else []
joined_nodes n (otherwise i c j u k s) = if nat_le n 1 then node.Choice ∷ joined_nodes n s else []
joined_nodes n (body bs l s) = if nat_le n 1 then name_nodes bs ++ joined_nodes n s else []
joined_nodes n s = []

abbrev pub reached_nodes : Reached → List Node
reached_nodes r = stack_nodes r.under ++ nodes r.operand

either_nodes : (b : Bool) (joined kept : Reached) (before after : List Node) → reached_nodes joined ≡ before ++ after → reached_nodes kept ≡ before →
    reached_nodes (if b then joined else kept) ≡ before ++ (if b then after else [])
either_nodes true joined kept before after j k = j
either_nodes false joined kept before after j k = k ∙ sym (append-nil before)

pub reach_nodes : (n : ℕ) (t : Tree) (s : Stack) → reached_nodes (reach n t s) ≡ (stack_nodes s ++ nodes t) ++ joined_nodes n s
reach_nodes n t (bottom p) = sym (append-nil _)
reach_nodes n t (pending a l o s) =
    either_nodes (nat_le n (level o)) (reach n (binary a l o t) s) (reached t (pending a l o s)) _ (node.Binary o ∷ joined_nodes n s)
    (reach_nodes n (binary a l o t) s ∙ simp append_assoc) refl
reach_nodes n t (more a s) =
    either_nodes (nat_le n 0) (reach n (comma a t) s) (reached t (more a s)) _ (node.Comma ∷ joined_nodes n s) (reach_nodes n (comma a t) s ∙ simp append_assoc) refl
reach_nodes n t (signed o s) =
    either_nodes (nat_le n (prefix_level o)) (reach n (prefixed o t) s) (reached t (signed o s)) _ (node.Prefix o ∷ joined_nodes n s)
    (reach_nodes n (prefixed o t) s ∙ simp append_assoc) refl
reach_nodes n t (otherwise i c j u k s) =
    either_nodes (nat_le n 1) (reach n (choice i c j u k t) s) (reached t (otherwise i c j u k s)) _ (node.Choice ∷ joined_nodes n s)
    (reach_nodes n (choice i c j u k t) s ∙ simp append_assoc) refl
reach_nodes n t (body bs l s) =
    either_nodes (nat_le n 1) (reach n (bind bs l t) s) (reached t (body bs l s)) _ (name_nodes bs ++ joined_nodes n s)
    (reach_nodes n (bind bs l t) s ∙ simp append_assoc) refl
reach_nodes n t (paren s) = sym (append-nil _)
reach_nodes n t (arguments w p s) = sym (append-nil _)
reach_nodes n t (predicate b s) = sym (append-nil _)
reach_nodes n t (condition p s) = sym (append-nil _)
reach_nodes n t (branch i c j s) = sym (append-nil _)
reach_nodes n t (binding g w r l s) = sym (append-nil _)

-- what joins with the last operand, where all that was read is whole
abbrev pub last_nodes : State → List Node
last_nodes (have t s) = joined_nodes 0 s
last_nodes (named pre w p s) = node.Step pre (test.Named w p) ∷ joined_nodes 0 s
last_nodes (slash s) = node.Root ∷ joined_nodes 0 s
last_nodes s = []

whole_nodes : (t u : Tree) (s : Stack) → whole_under t s ≡ Some u → nodes u ≡ stack_nodes s ++ nodes t
whole_nodes t u (bottom p) e = let g : t ≡ u = cc in ap nodes (sym g)
whole_nodes t u (pending a l o s) e = absurd cc
whole_nodes t u (more a s) e = absurd cc
whole_nodes t u (signed o s) e = absurd cc
whole_nodes t u (paren s) e = absurd cc
whole_nodes t u (arguments w p s) e = absurd cc
whole_nodes t u (predicate b s) e = absurd cc
whole_nodes t u (condition p s) e = absurd cc
whole_nodes t u (branch i c j s) e = absurd cc
whole_nodes t u (otherwise i c j v k s) e = absurd cc
whole_nodes t u (binding g w r l s) e = absurd cc
whole_nodes t u (body bs l s) e = absurd cc

reached_whole_nodes : (t u : Tree) (s : Stack) → whole (reach 0 t s) ≡ Some u → nodes u ≡ (stack_nodes s ++ nodes t) ++ joined_nodes 0 s
reached_whole_nodes t u s e = whole_nodes (reach 0 t s).operand u (reach 0 t s).under e ∙ reach_nodes 0 t s

tested_nodes : (b : Bool) (t u : Tree) (s : Stack) → (if b then whole (reach 0 t s) else None) ≡ Some u → nodes u ≡ (stack_nodes s ++ nodes t) ++ joined_nodes 0 s
tested_nodes true t u s e = reached_whole_nodes t u s e
tested_nodes false t u s e = absurd cc

-- the list of a whole derivation is what was complete, and what joins with the last operand
pub ended_nodes : (s : State) (t : Tree) → ended s ≡ Some t → nodes t ≡ state_nodes s ++ last_nodes s
ended_nodes (have u s) t e = reached_whole_nodes u t s e
ended_nodes (named pre w p s) t e = reached_whole_nodes (step pre (test.Named w p)) t s e ∙ append_assoc (stack_nodes s) (node.Step pre (test.Named w p) ∷ []) (joined_nodes 0 s)
ended_nodes (slash s) t e = tested_nodes (reaches (in_pattern s) (floor s) root) root t s e ∙ append_assoc (stack_nodes s) (node.Root ∷ []) (joined_nodes 0 s)
ended_nodes (want s) t e = absurd cc
ended_nodes (fresh s) t e = absurd cc
ended_nodes (dollar s) t e = absurd cc
ended_nodes (axis pre s) t e = absurd cc
ended_nodes (kind pre k p s) t e = absurd cc
ended_nodes (kind_name pre k p w q s) t e = absurd cc
ended_nodes (comma_bound bs s) t e = absurd cc
ended_nodes (binder_dollar g s) t e = absurd cc
ended_nodes (binder_name g w r s) t e = absurd cc
ended_nodes (casting u k p s) t e = absurd cc
ended_nodes (casting_as u k p q s) t e = absurd cc
ended_nodes (conditioned p c s) t e = absurd cc
