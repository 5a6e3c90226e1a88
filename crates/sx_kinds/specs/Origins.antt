-- Where the nodes come from that an expression gives, and the types of single items.
use Rattle.std.specs.Prelude.{Bool, true, false, if◌then◌else◌}
use Rattle.sx_kinds.specs.declared.expressions.Deep.{Deep}
use Rattle.sx_kinds.specs.declared.expressions.Deep.TheVariants as deeps
use Rattle.sx_kinds.specs.declared.types.Origin.{Origin}
use Rattle.sx_kinds.specs.declared.types.Origin.TheVariants.{Source, One, Separate, Forest}
use Rattle.sx_kinds.specs.declared.types.Ty.{Ty}
use Rattle.sx_kinds.specs.declared.types.TyKind.{TyKind}
use Rattle.sx_kinds.specs.declared.types.TyKind.TheVariants as kinds

-- one_of_kind item at most of a kind, which is no node of a copy
abbrev pub one_of_kind : TyKind → Ty
one_of_kind kind = record { kind = kind; at_most_one = true; origin = Source }

-- any number of such items
abbrev pub many : TyKind → Ty
many kind = record { kind = kind; at_most_one = false; origin = Source }

-- whether an origin is the document
abbrev pub is_source : Origin → Bool
is_source Source = true
is_source _ = false

-- whether it is one_of_kind copied tree
abbrev pub is_one : Origin → Bool
is_one One = true
is_one _ = false

-- whether it is copies of their own
abbrev pub is_separate : Origin → Bool
is_separate Separate = true
is_separate _ = false

-- whether it is none of these
abbrev pub is_forest : Origin → Bool
is_forest Forest = true
is_forest _ = false

-- whether two origins are one_of_kind
abbrev pub is_same_origin : Origin → Origin → Bool
is_same_origin Source b = is_source b
is_same_origin One b = is_one b
is_same_origin Separate b = is_separate b
is_same_origin Forest b = is_forest b

-- one_of_kind item of those of a type, as it is the focus of what is evaluated for each of them: it comes from one_of_kind tree
abbrev pub item_of : Ty → Ty
item_of t = record { kind = t.kind; at_most_one = true; origin = if is_source t.origin then Source else One }

-- the context behind `//`: a node at or type_below it
abbrev pub type_below : Deep → Ty → Ty
type_below deeps.No t = t
type_below _ t = record { kind = kinds.Node; at_most_one = true; origin = t.origin }

-- whether an expression stands behind `//`
abbrev pub is_deep : Deep → Bool
is_deep deeps.No = false
is_deep _ = true
