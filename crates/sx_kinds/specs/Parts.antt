-- What is known of the parts of an expression together.
use Rattle.std.specs.Prelude.{ℕ, Bool, true, false, if◌then◌else◌, ◌&&◌, ◌||◌, ◌==◌, List, [], ◌∷◌, Option, Some, None}
use Rattle.std.specs.List.{list_any}
use Rattle.sx_kinds.specs.declared.types.Origin.{Origin}
use Rattle.sx_kinds.specs.declared.types.Origin.TheVariants.{Source, Forest}
use Rattle.sx_kinds.specs.declared.types.Parts.{Parts}
use Rattle.sx_kinds.specs.declared.types.Shape.{Shape}
use Rattle.sx_kinds.specs.declared.types.Shape.TheVariants as shapes
use Rattle.sx_kinds.specs.declared.types.Start.{Start}
use Rattle.sx_kinds.specs.declared.types.Start.TheVariants as starts
use Rattle.sx_kinds.specs.declared.types.TyKind.{TyKind}
use Rattle.sx_kinds.specs.declared.types.TyKind.TheVariants as kinds
use Rattle.sx_kinds.specs.declared.types.Typing.{Typing}
use Rattle.sx_kinds.specs.Kinds.{may_be_node, may_be_number, joined_kind}
use Rattle.sx_kinds.specs.Origins.{one_of_kind, is_source}

-- what is known of a part that is not there
abbrev pub missing : Typing
missing = record {
  ty = one_of_kind kinds.Nothing;
  shape = shapes.Other;
  deep = false;
  start = starts.Nowhere;
  counts = false;
}

-- what is known of a part that may be there
abbrev pub there : Option Typing → Typing
there None = missing
there (Some t) = t

-- the first of some parts
abbrev pub first_typing : List Typing → Option Typing
first_typing [] = None
first_typing (t ∷ ts) = Some t

-- the second
abbrev pub second_of : List Typing → Option Typing
second_of [] = None
second_of (t ∷ ts) = first_typing ts

-- the third
abbrev pub third_of : List Typing → Option Typing
third_of [] = None
third_of (t ∷ ts) = second_of ts

-- whether a part is a step
abbrev pub is_step : Shape → Bool
is_step shapes.ChildStep = true
is_step shapes.Step = true
is_step _ = false

-- whether it is a child step without a positional predicate
abbrev pub is_child_step : Shape → Bool
is_child_step shapes.ChildStep = true
is_child_step _ = false

-- whether it is a call of `copy-of` or `snapshot`, or a filter of one_of_kind
abbrev pub is_copy : Shape → Bool
is_copy shapes.Copy = true
is_copy _ = false

-- whether it is a path that is evaluated for each item of a front part
abbrev pub is_per_item : Shape → Bool
is_per_item shapes.PerItem = true
is_per_item _ = false

-- whether a predicate of this type is positional: it may be a number, or it calls `position()` or `last()` in its own focus
abbrev pub is_positional : Typing → Bool
is_positional t = may_be_number t.ty.kind || t.counts

-- whether two expressions take their nodes by steps from one_of_kind item or one_of_kind variable
abbrev pub is_same_start : Start → Start → Bool
is_same_start starts.Context starts.Context = true
is_same_start (starts.Variable x) (starts.Variable y) = x == y
is_same_start _ _ = false

-- where the nodes of two expressions together start
abbrev pub joined_start : Start → Start → Start
joined_start starts.Nowhere b = b
joined_start a starts.Nowhere = a
joined_start a b = if is_same_start a b then a else starts.Elsewhere

-- where the nodes of the second start, which is evaluated for each item of the first
abbrev pub start_through : Start → Start → Start
start_through a starts.Nowhere = starts.Nowhere
start_through a starts.Context = a
start_through a (starts.Variable x) = starts.Elsewhere
start_through a starts.Elsewhere = starts.Elsewhere

-- the same outside the scope of a variable
abbrev pub start_outside : ℕ → Start → Start
start_outside x (starts.Variable y) = if y == x then starts.Elsewhere else starts.Variable y
start_outside x start = start

-- the origins of those parts that may give nodes
abbrev pub origins : List Typing → List Origin
origins [] = []
origins (t ∷ ts) = if may_be_node t.ty.kind then t.ty.origin ∷ origins ts else origins ts

-- whether all of some origins are the document
abbrev pub all_source : List Origin → Bool
all_source [] = true
all_source (o ∷ os) = is_source o && all_source os

-- the origin of operands behind commas: a single one's own, the document where all are from it
abbrev pub comma_origin : List Origin → Option Origin
comma_origin [] = None
comma_origin (o ∷ []) = Some o
comma_origin (o ∷ p ∷ os) = Some (if all_source (o ∷ p ∷ os) then Source else Forest)

-- a kind joined_kind with those of some parts
abbrev pub joined_all : TyKind → List Typing → TyKind
joined_all kind [] = kind
joined_all kind (t ∷ ts) = joined_all (joined_kind kind t.ty.kind) ts

-- where these nodes and those of some parts start
abbrev pub start_of_all : Start → List Typing → Start
start_of_all start [] = start
start_of_all start (t ∷ ts) = start_of_all (joined_start start t.start) ts

-- what is known of some parts together
abbrev pub parts_of_typings : List Typing → Parts
parts_of_typings ts = record {
  first = first_typing ts;
  second = second_of ts;
  third = third_of ts;
  kind = joined_all kinds.Nothing ts;
  origin = comma_origin (origins ts);
  start = start_of_all starts.Nowhere ts;
  counts = list_any (λ (t : Typing). t.counts) ts;
  positional = list_any is_positional ts;
}
