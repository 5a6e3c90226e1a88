-- What is known of parts when there is one more.
use Rattle.std.specs.Prelude.{if◌then◌else◌, ◌&&◌, ◌||◌, Option, Some, None}
use Rattle.sx_kinds.specs.Types.{is_positional, is_source, joined_kind, joined_start, may_be_node}
use Rattle.sx_kinds.specs.declared.types.Origin.{Origin}
use Rattle.sx_kinds.specs.declared.types.Origin.TheVariants.{Source, Forest}
use Rattle.sx_kinds.specs.declared.types.Parts.{Parts}
use Rattle.sx_kinds.specs.declared.types.Typing.{Typing}

-- the origin of operands of this origin and of one more
abbrev pub joined_origin : Option Origin → Origin → Origin
joined_origin None origin = origin
joined_origin (Some before) origin = if is_source before && is_source origin then Source else Forest

-- the same, where the one more may give no node
abbrev pub origin_with : Option Origin → Typing → Option Origin
origin_with before t = if may_be_node t.ty.kind then Some (joined_origin before t.ty.origin) else before

-- the first part
abbrev pub first_with : Option Typing → Typing → Option Typing
first_with None t = Some t
first_with (Some first) t = Some first

-- the part behind another one
abbrev pub behind_with : Option Typing → Option Typing → Typing → Option Typing
behind_with None place t = None
behind_with (Some before) place t = first_with place t

-- parts and one more
abbrev pub added : Parts → Typing → Parts
added parts t = record {
  first = first_with parts.first t;
  second = behind_with parts.first parts.second t;
  third = behind_with parts.second parts.third t;
  kind = joined_kind parts.kind t.ty.kind;
  origin = origin_with parts.origin t;
  start = joined_start parts.start t.start;
  counts = parts.counts || t.counts;
  positional = parts.positional || is_positional t;
}
